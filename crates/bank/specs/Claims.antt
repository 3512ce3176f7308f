-- What the bank claims of each client, of its calls and their answers.
use Rattle.std.specs.Prelude.{◌≡◌, ◌≤◌, ◌<◌, ◌+◌, ◌-◌, ◌%◌, ◌^◌, ◌++◌, ℕ, zero, suc, List, [], ◌∷◌, Result, Ok, bit_xor}
use Rattle.std.specs.Int.{to_le_bytes, w64}
use Rattle.shore_types.specs.declared.faults.Fault.{Fault}
use Rattle.shore_types.specs.declared.ids.Rid.{Rid}
use Rattle.shore_model.specs.declared.calls.Answer.{Answer}
use Rattle.shore_model.specs.declared.calls.Answer.TheVariants as answer
use Rattle.shore_model.specs.declared.calls.Call.TheVariants as call
use Rattle.shore_model.specs.declared.calls.Exchange.{Exchange}
use Rattle.shore_shared.specs.NoCommits.{CommitNothing}
use Rattle.shore_shared.specs.Told.{Seen}
use Rattle.bank.specs.declared.transfers.Task.{Task}
use Rattle.bank.specs.declared.transfers.Task.TheVariants as task
use Rattle.bank.specs.declared.transfers.Turn.{Turn}
use Rattle.bank.specs.declared.transfers.Turn.TheVariants as turn

-- the record that is an account
abbrev pub account : ℕ → Rid
account slot = record { page = record { store = 0; page = 0 }; slot = slot }

-- the account that gets what this one gives
abbrev pub neighbour : ℕ → ℕ
neighbour slot = bit_xor slot 1

-- what an account has, as its record: eight bytes, the least first
abbrev pub bytes_of : ℕ → List ℕ
bytes_of amount = to_le_bytes w64 amount

-- Adds so much to an account, modulo 2 to the 64th, which has this then: its record is got for an update, and updated.
abbrev pub Adds : ℕ → ℕ → ℕ → List Exchange → Type 0
Adds slot amount has es = (before : ℕ) × (before < 2 ^ 64) × (has ≡ (before + amount) % 2 ^ 64)
    × (es ≡ record { call = call.GetForUpdate (account slot); reply = Ok (answer.Got (bytes_of before)) } ∷ record { call = call.Update (account slot) (bytes_of has); reply = Ok answer.Updated } ∷ [])

-- A transaction of these calls and no others, whose commit is durable.
abbrev pub IsDurable : ℕ → List Exchange → List Exchange → Type 0
IsDurable known made es = (txn : ℕ) × (ticket : ℕ) × (ticket ≤ known)
    × (es ≡ record { call = call.Begin; reply = Ok (answer.Began txn) } ∷ made ++ record { call = call.Commit; reply = Ok (answer.Committed ticket) } ∷ [])

-- An account is opened with so much.
abbrev pub IsOpened : ℕ → ℕ → List Exchange → Type 0
IsOpened known has es = (id : Rid) × IsDurable known (record { call = call.Insert 0 (bytes_of has); reply = Ok (answer.Inserted id) } ∷ []) es

-- An account is found to have so much: nothing is added to it.
abbrev pub IsLookedAt : ℕ → ℕ → ℕ → List Exchange → Type 0
IsLookedAt known slot has es = (looked : List Exchange) × Adds slot 0 has looked × IsDurable known looked es

-- A transfer from one account to another: the first loses the one that the second gains.
abbrev pub IsTransfer : ℕ → ℕ → ℕ → List Exchange → Type 0
IsTransfer known from to es = (taken : List Exchange) × (given : List Exchange) × (leaves : ℕ) × (has : ℕ)
    × Adds from (2 ^ 64 - 1) leaves taken × Adds to 1 has given × IsDurable known (taken ++ given) es

-- So many transfers, each durable: the first from this account, and each other from the one after it, of eight. Before, between and after them nothing is committed.
abbrev pub AreTransfers : ℕ → ℕ → ℕ → List Exchange → Type 0
AreTransfers known first zero es = CommitNothing es
AreTransfers known first (suc n) es = (before : List Exchange) × (transfer : List Exchange) × (after : List Exchange) × (es ≡ before ++ transfer ++ after)
    × AreTransfers known first n before × IsTransfer known ((first + n) % 8) (neighbour ((first + n) % 8)) transfer × CommitNothing after

-- .. of a number that is not to be counted down to
abbrev pub HasMade : ℕ → ℕ → ℕ → List Exchange → Type 0
HasMade known first count es = (n : ℕ) × (n ≡ count) × AreTransfers known first n es

-- Calls that commit nothing, the last of which rolls back, and is answered so.
abbrev pub AreRolledBack : Result Answer Fault → List Exchange → Type 0
AreRolledBack reply es = CommitNothing es × (before : List Exchange) × (es ≡ before ++ record { call = call.Abort; reply = reply } ∷ [])

-- What a turn comes to: a transfer from this account to its neighbour, or calls that are rolled back. What found the log full is asked to roll back as well, and may be refused that: it may have been refused before it began.
abbrev pub ComesTo : ℕ → ℕ → Turn → List Exchange → Type 0
ComesTo known from turn.Made es = IsTransfer known from (neighbour from) es
ComesTo known from turn.Victim es = (a : Answer) × AreRolledBack (Ok a) es
ComesTo known from turn.Full es = (reply : Result Answer Fault) × AreRolledBack reply es

-- The claim of each task, of its client's number, what it came to, the client's calls with their answers, and a number that is durable.
abbrev pub Claimed : Task → ℕ → ℕ → List Exchange → Seen → Type 0
Claimed task.Open client done es seen = (done ≡ 1000) × IsOpened seen.durable 1000 es
Claimed task.Transfer client done es seen = HasMade seen.durable (client % 8) 400 es
Claimed task.Look client done es seen = IsLookedAt seen.durable (client % 8) done es

-- What a client's turns come to, of the calls and answers that it was told, and what it may note of them.
use Rattle.std.specs.Prelude.{◌≡◌, ◌≤◌, ◌<◌, ◌⊎◌, ◌+◌, ◌%◌, ◌^◌, ◌++◌, ℕ, zero, suc, List, [], ◌∷◌, Result, Ok}
use Rattle.std.specs.Int.{to_le_bytes, w64}
use Rattle.shore_types.specs.declared.faults.Fault.{Fault}
use Rattle.shore_types.specs.declared.ids.Rid.{Rid}
use Rattle.shore_model.specs.declared.calls.Answer.{Answer}
use Rattle.shore_model.specs.declared.calls.Answer.TheVariants as answer
use Rattle.shore_model.specs.declared.calls.Call.{Call}
use Rattle.shore_model.specs.declared.calls.Call.TheVariants as call
use Rattle.shore_model.specs.declared.calls.Exchange.{Exchange}
use Rattle.shore_shared.specs.NoCommits.{CommitNothing}
use Rattle.turmoil.specs.declared.clients.Notes.{Notes}

-- From these calls to these, nothing was committed.
abbrev pub HasCommittedNothing : List Exchange → List Exchange → Type 0
HasCommittedNothing old new = (es : List Exchange) × (new ≡ old ++ es) × CommitNothing es

-- a client's counter for an account: each client has a page of them
abbrev pub counter : ℕ → ℕ → Rid
counter client from = record { page = record { store = 1 + client % 16; page = 0 }; slot = from }

-- an account: all are on one page
abbrev pub account : ℕ → Rid
account slot = record { page = record { store = 0; page = 0 }; slot = slot }

-- A call that changes no counter, whatever it is answered: what it changes is among the accounts.
abbrev pub LeavesCounters : Call → Type 0
LeavesCounters call.Begin = Unit {0}
LeavesCounters (call.Get id) = Unit {0}
LeavesCounters (call.GetForUpdate id) = Unit {0}
LeavesCounters (call.Insert store bytes) = store ≡ 0
LeavesCounters (call.Update id bytes) = id.page.store ≡ 0
LeavesCounters (call.Delete id) = id.page.store ≡ 0
LeavesCounters (call.Scan store) = Unit {0}
LeavesCounters (call.Lock granule mode) = Unit {0}
LeavesCounters (call.TryLock granule mode) = Unit {0}
LeavesCounters call.Savepoint = Unit {0}
LeavesCounters (call.BackTo index) = Unit {0}
LeavesCounters call.Commit = Unit {0}
LeavesCounters call.Abort = Unit {0}
LeavesCounters (call.Prepare global) = Unit {0}
LeavesCounters (call.Resolve global outcome) = Unit {0}
LeavesCounters call.InDoubt = Unit {0}

abbrev pub LeaveCounters : List Exchange → Type 0
LeaveCounters [] = Unit {0}
LeaveCounters (e ∷ es) = LeavesCounters e.call × LeaveCounters es

-- From these calls to these, nothing was committed, and no counter changed.
abbrev pub HasLeftCounters : List Exchange → List Exchange → Type 0
HasLeftCounters old new = (es : List Exchange) × (new ≡ old ++ es) × CommitNothing es × LeaveCounters es

-- A record was got for an update, and has so much more then, modulo 2 to the 64th.
abbrev pub Adds : Rid → ℕ → List Exchange → Type 0
Adds id amount es = (has : ℕ) × (updated : Answer) × (has < 2 ^ 64)
    × (es ≡ record { call = call.GetForUpdate id; reply = Ok (answer.Got (to_le_bytes w64 has)) } ∷ record { call = call.Update id (to_le_bytes w64 ((has + amount) % 2 ^ 64)); reply = Ok updated } ∷ [])

-- One of the client's counters tells one commit more.
abbrev pub CountsOne : ℕ → List Exchange → Type 0
CountsOne client es = (from : ℕ) × (from < 8) × Adds (counter client from) 1 es

-- One commit, the last of these calls, which is durable: just before it a counter of the client was made to tell one more, and all before that leave counters as they are, and commit nothing.
abbrev pub HasCommitted : ℕ → ℕ → List Exchange → Type 0
HasCommitted client known es = (before : List Exchange) × (counted : List Exchange) × (ticket : ℕ) × CommitNothing before × LeaveCounters before × CountsOne client counted × (ticket ≤ known)
    × (es ≡ (before ++ counted) ++ record { call = call.Commit; reply = Ok (answer.Committed ticket) } ∷ [])

-- Calls that commit nothing, the last of which asks to roll back, whatever that is answered.
abbrev pub HasRolledBack : List Exchange → Type 0
HasRolledBack es = CommitNothing es × (before : List Exchange) × (reply : Result Answer Fault) × (es ≡ before ++ record { call = call.Abort; reply = reply } ∷ [])

-- What a turn comes to, of the count of commits before it and after it: it is one more, modulo 2 to the 64th, if there was one, and the same if there was none.
abbrev pub ComesTo : ℕ → ℕ → ℕ → ℕ → List Exchange → Type 0
ComesTo client known old new es = ((new ≡ old) × HasRolledBack es) ⊎ ((new ≡ (old + 1) % 2 ^ 64) × HasCommitted client known es)

-- So many commits are among these calls, each of them durable and counted in its own transaction, and no other call commits anything.
abbrev pub HaveCommitted : ℕ → ℕ → ℕ → List Exchange → Type 0
HaveCommitted client known zero es = CommitNothing es
HaveCommitted client known (suc n) es = (before : List Exchange) × (last : List Exchange) × (after : List Exchange) × (es ≡ before ++ last ++ after)
    × HaveCommitted client known n before × HasCommitted client known last × CommitNothing after

-- So many counters of a client, from the first on, were read, and have so many commits together, modulo 2 to the 64th.
abbrev pub AreRead : ℕ → ℕ → ℕ → List Exchange → Type 0
AreRead client zero sum es = (sum ≡ 0) × (es ≡ [])
AreRead client (suc n) sum es = (before : List Exchange) × (less : ℕ) × (has : ℕ) × (has < 2 ^ 64) × AreRead client n less before × (sum ≡ (less + has) % 2 ^ 64)
    × (es ≡ before ++ record { call = call.Get (counter client n); reply = Ok (answer.Got (to_le_bytes w64 has)) } ∷ [])

-- All eight are read, by a transaction that is rolled back.
abbrev pub HasBegun : ℕ → ℕ → List Exchange → Type 0
HasBegun client begun es = (began : Answer) × (ended : Answer) × (read : List Exchange) × (n : ℕ) × (n ≡ 8) × AreRead client n begun read
    × (es ≡ record { call = call.Begin; reply = Ok began } ∷ read ++ record { call = call.Abort; reply = Ok ended } ∷ [])

-- What a client may note: as many commits as its counters had as it began, and those since, modulo 2 to the 64th; each of these is durable.
abbrev pub IsNoted : ℕ → ℕ → ℕ → List Exchange → Type 0
IsNoted known client commits es = (begun : ℕ) × (first : List Exchange) × (n : ℕ) × (since : List Exchange) × (es ≡ first ++ since)
    × HasBegun client begun first × HaveCommitted client known n since × (commits ≡ (begun + n) % 2 ^ 64)

-- the text of its notes: each number as eight bytes, the least first, and its commits before the others
abbrev pub text_of : Notes → List ℕ
text_of notes = to_le_bytes w64 notes.commits ++ to_le_bytes w64 notes.victims ++ to_le_bytes w64 notes.aborts ++ to_le_bytes w64 notes.backs

-- How many commits are among a client's calls, of which it may have prepared and decided some, and what it may note of them.
use Rattle.std.specs.Prelude.{◌≡◌, ◌≢◌, ◌≤◌, ◌⊎◌, ◌+◌, ◌%◌, ◌^◌, ◌++◌, ℕ, zero, suc, List, [], ◌∷◌, Result, Ok}
use Rattle.std.specs.Int.{to_le_bytes, w64}
use Rattle.shore_types.specs.declared.faults.Fault.{Fault}
use Rattle.shore_types.specs.declared.faults.Fault.TheVariants as fault
use Rattle.shore_model.specs.declared.calls.Answer.{Answer}
use Rattle.shore_model.specs.declared.calls.Answer.TheVariants as answer
use Rattle.shore_model.specs.declared.calls.Call.{Call}
use Rattle.shore_model.specs.declared.calls.Call.TheVariants as call
use Rattle.shore_model.specs.declared.calls.Exchange.{Exchange}
use Rattle.shore_model.specs.declared.calls.Outcome.{Outcome}
use Rattle.shore_model.specs.declared.calls.Outcome.TheVariants as outcome
use Rattle.shore_shared.specs.NoCommits.{CommitNothing, IsRefused}
use Rattle.turmoil.specs.Commits.{CountsOne, HasBegun, LeaveCounters}

-- A decision that commits nothing: to roll back; or it was refused.
abbrev pub DecidesNothing : Outcome → Result Answer Fault → Type 0
DecidesNothing outcome.Commit reply = IsRefused reply
DecidesNothing outcome.Abort reply = Unit {0}

-- how many commits a decision is
abbrev pub commits_in : Outcome → ℕ
commits_in outcome.Commit = 1
commits_in outcome.Abort = 0

-- the name of a transaction that is prepared: the turn, and the client's number
abbrev pub name_of : ℕ → ℕ → List ℕ
name_of client turn = to_le_bytes w64 turn ++ (client % 256) ∷ []

-- A call that is no commit, of a client that may prepare and decide.
abbrev pub AddsNothing : Call → Result Answer Fault → Type 0
AddsNothing call.Begin reply = Unit {0}
AddsNothing (call.Get id) reply = Unit {0}
AddsNothing (call.GetForUpdate id) reply = Unit {0}
AddsNothing (call.Insert store bytes) reply = Unit {0}
AddsNothing (call.Update id bytes) reply = Unit {0}
AddsNothing (call.Delete id) reply = Unit {0}
AddsNothing (call.Scan store) reply = Unit {0}
AddsNothing (call.Lock granule mode) reply = Unit {0}
AddsNothing (call.TryLock granule mode) reply = Unit {0}
AddsNothing call.Savepoint reply = Unit {0}
AddsNothing (call.BackTo index) reply = Unit {0}
AddsNothing call.Commit reply = IsRefused reply
AddsNothing call.Abort reply = Unit {0}
AddsNothing (call.Prepare global) reply = Unit {0}
AddsNothing (call.Resolve global to) reply = DecidesNothing to reply
AddsNothing call.InDoubt reply = Unit {0}

abbrev pub AddNothing : List Exchange → Type 0
AddNothing [] = Unit {0}
AddNothing (e ∷ es) = AddsNothing e.call e.reply × AddNothing es

-- A commit that was answered by a ticket that is durable.
abbrev pub IsCommit : ℕ → List Exchange → Type 0
IsCommit known es = (ticket : ℕ) × (ticket ≤ known) × (es ≡ record { call = call.Commit; reply = Ok (answer.Committed ticket) } ∷ [])

-- Decisions that were refused.
abbrev pub AreRefused : List ℕ → Outcome → List Exchange → Type 0
AreRefused global to [] = Unit {0}
AreRefused global to (e ∷ es) = (e.call ≡ call.Resolve global to) × IsRefused e.reply × AreRefused global to es

-- .. of which the last was answered, which it is once it is durable
abbrev pub IsDecided : List ℕ → Outcome → List Exchange → Type 0
IsDecided global to es = (tried : List Exchange) × AreRefused global to tried × (es ≡ tried ++ record { call = call.Resolve global to; reply = Ok answer.Resolved } ∷ [])

-- A transaction ends so that commits: it is committed, or it is prepared, and decided to commit.
abbrev pub Commits : ℕ → List Exchange → Type 0
Commits known es = IsCommit known es ⊎ ((global : List ℕ) × (prepared : Answer) × (decided : List Exchange) × IsDecided global outcome.Commit decided
    × (es ≡ record { call = call.Prepare global; reply = Ok prepared } ∷ decided))

-- From these calls to these, one of the client's counters was made to tell one commit more: the last two do that, and all before them leave counters as they are, and commit nothing.
abbrev pub HasCounted : ℕ → List Exchange → List Exchange → Type 0
HasCounted client old new = (before : List Exchange) × (counted : List Exchange) × (new ≡ old ++ (before ++ counted)) × CommitNothing before × LeaveCounters before × CountsOne client counted

-- One commit, of a transaction that has counted.
abbrev pub IsCountedCommit : ℕ → ℕ → List Exchange → Type 0
IsCountedCommit client known es = (before : List Exchange) × (counted : List Exchange) × (ends : List Exchange) × CommitNothing before × LeaveCounters before × CountsOne client counted × Commits known ends
    × (es ≡ (before ++ counted) ++ ends)

-- So many commits are among these calls, each of them durable and counted in its own transaction, and no other call may have committed anything.
abbrev pub HaveAdded : ℕ → ℕ → ℕ → List Exchange → Type 0
HaveAdded client known zero es = AddNothing es
HaveAdded client known (suc n) es = (before : List Exchange) × (last : List Exchange) × (after : List Exchange) × (es ≡ before ++ last ++ after)
    × HaveAdded client known n before × IsCountedCommit client known last × AddNothing after

-- none since these
abbrev pub HasAddedNothing : List Exchange → List Exchange → Type 0
HasAddedNothing old new = (es : List Exchange) × (new ≡ old ++ es) × AddNothing es

-- What a turn comes to, of the count of commits before it and after it, modulo 2 to the 64th.
abbrev pub CountsAll : ℕ → ℕ → ℕ → ℕ → List Exchange → Type 0
CountsAll client known old new es = (n : ℕ) × (new % 2 ^ 64 ≡ (old + n) % 2 ^ 64) × HaveAdded client known n es

-- .. and a transaction that was refused: nothing, but if a device has failed, or it was answered as none is.
abbrev pub CountsNone : ℕ → ℕ → Fault → List Exchange → Type 0
CountsNone old new f es = (new ≡ old) × (f ≢ fault.Device → f ≢ fault.NotQuiet → AddNothing es)

-- What a client may note: as many commits as its counters had as it began, and those since, modulo 2 to the 64th.
abbrev pub IsCounted : ℕ → ℕ → ℕ → List Exchange → Type 0
IsCounted known client commits es = (begun : ℕ) × (first : List Exchange) × (since : List Exchange) × (es ≡ first ++ since) × HasBegun client begun first × CountsAll client known begun commits since

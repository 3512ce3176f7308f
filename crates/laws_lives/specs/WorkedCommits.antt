-- A run of lazy commits, worked by hand, from an open with an empty log on records o that have a. Session 1 changes a and commits: its locks go with
-- its record, number 2, and that is its ticket. Session 2 reads what was written, and commits: its record is number 3, though it changed nothing. Then it
-- is asked whether ticket 2 is durable.
use Rattle.std.specs.Prelude.{ℕ, Bool, true, List, [], ◌∷◌, Ok}
use Rattle.shore_types.specs.declared.ids.Rid.{Rid}
use Rattle.shore_model.specs.declared.calls.Answer.TheVariants.{Began, Committed, Got, Updated}
use Rattle.shore_model.specs.declared.calls.Call.TheVariants as call
use Rattle.shore_model.specs.declared.histories.Decision.TheVariants as decision
use Rattle.shore_model.specs.declared.histories.Entry.{Entry}
use Rattle.shore_model.specs.declared.histories.Entry.TheVariants.{Asked, Decided, Exchanged}
use Rattle.shore_model.specs.Records.{Records}
use Rattle.laws_lives.specs.SessionSteps.{AppendCommit, Ask, BeginTxn, GiveReply, MoveLocks, SessionEvent, exchange}
use Rattle.laws_lives.specs.UndoLists.{nothing_to_undo}
use Rattle.laws_lives.specs.WorkedDoubts.{changed_once, preparer, second_reader}
use Rattle.laws_lives.specs.WorkedRun.{read_lock, write_lock}

abbrev pub lazily_committed : Records → Rid → List ℕ → Bool → List SessionEvent
lazily_committed o a z durable =
    BeginTxn 1 ∷ MoveLocks (write_lock 1 a ∷ []) ∷ GiveReply (preparer nothing_to_undo) (call.Update a z) (Ok Updated)
    ∷ AppendCommit (preparer (changed_once o a)) 2
    ∷ BeginTxn 2 ∷ MoveLocks (read_lock 2 a ∷ []) ∷ GiveReply second_reader (call.Get a) (Ok (Got z)) ∷ AppendCommit second_reader 3
    ∷ Ask 2 durable ∷ []

-- ---- histories of commits that go wrong

-- both have begun, and transaction 1 has changed a
abbrev pub changed_by_1 : Rid → List ℕ → List Entry → List Entry
changed_by_1 a z rest =
    Exchanged 1 1 (exchange call.Begin (Ok (Began 1))) ∷ Exchanged 2 2 (exchange call.Begin (Ok (Began 2))) ∷ Exchanged 1 1 (exchange (call.Update a z) (Ok Updated)) ∷ rest

abbrev pub committed_as : ℕ → ℕ → List Entry → List Entry
committed_as t ticket rest = Decided (decision.Commit t) ∷ Exchanged t t (exchange call.Commit (Ok (Committed ticket))) ∷ rest

-- its locks go before its Commit is appended: transaction 2 reads what it wrote, and commits first
abbrev pub read_too_early : Rid → List ℕ → List Entry
read_too_early a z = changed_by_1 a z (Exchanged 2 2 (exchange (call.Get a) (Ok (Got z))) ∷ committed_as 2 2 (committed_as 1 3 []))

-- the ticket is the number of its last Change, 1, and its Commit is record 2
abbrev pub asked_too_low : Rid → List ℕ → List Entry
asked_too_low a z = changed_by_1 a z (committed_as 1 1 (Asked 1 true ∷ []))

-- transaction 2 reads what was committed, and commits with no record, under the number of the last that there is
abbrev pub unrecorded : Rid → List ℕ → List Entry
unrecorded a z =
    changed_by_1 a z (committed_as 1 2 (Exchanged 2 2 (exchange (call.Get a) (Ok (Got z))) ∷ Exchanged 2 2 (exchange call.Commit (Ok (Committed 2))) ∷ Asked 2 true ∷ []))

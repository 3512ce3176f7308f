-- Two runs worked by hand over an empty volume. In the first a transaction inserts a record, sets a savepoint, updates the record, goes back and commits. In
-- the second it inserts a record, and its abort lacks memory once the image is put back; nothing but the abort is taken then, and it is answered.
use Rattle.std.specs.Prelude.{ℕ, List, [], ◌∷◌, true}
use Rattle.shore_types.specs.declared.faults.Fault.TheVariants.{Memory, MustAbort}
use Rattle.shore_model.specs.declared.calls.Answer.TheVariants.{Aborted, Began, Committed, Inserted, Saved, Updated, WentBack}
use Rattle.shore_model.specs.declared.calls.Call.TheVariants as call
use Rattle.shore_model.specs.declared.step.Step.TheVariants.{Done, Refused}
use Rattle.laws_calls.specs.Events.{Called, Forced, ManagerEvent, TicketAsked}
use Rattle.laws_calls.specs.WorkedRun.{first_id}

abbrev pub back_and_commit : List ℕ → List ℕ → List ManagerEvent
back_and_commit bytes more =
    Called 1 call.Begin (Done (Began 1)) ∷ Called 1 (call.Insert 0 bytes) (Done (Inserted first_id)) ∷ Called 1 call.Savepoint (Done (Saved 0))
    ∷ Called 1 (call.Update first_id more) (Done Updated) ∷ Called 1 (call.BackTo 0) (Done WentBack)
    ∷ Called 1 call.Commit (Done (Committed 4)) ∷ Forced 4 ∷ TicketAsked 4 true ∷ []

abbrev pub abort_twice : List ℕ → List ManagerEvent
abort_twice bytes =
    Called 1 call.Begin (Done (Began 1)) ∷ Called 1 (call.Insert 0 bytes) (Done (Inserted first_id)) ∷ Called 1 call.Abort (Refused Memory)
    ∷ Called 1 (call.Get first_id) (Refused MustAbort) ∷ Called 1 call.Abort (Done Aborted) ∷ []

-- A run of two sessions worked by hand over an empty volume: the one inserts a record, and the other waits for it until the first commits, and reads it before the commit is durable.
use Rattle.std.specs.Prelude.{ℕ, List, [], ◌∷◌, Ok}
use Rattle.shore_types.specs.declared.locking.Granule.TheVariants.{Record}
use Rattle.shore_model.specs.declared.calls.Answer.TheVariants.{Began, Committed, Got, Inserted}
use Rattle.shore_model.specs.declared.calls.Call.TheVariants as call
use Rattle.shore_model.specs.declared.histories.Decision.TheVariants as decision
use Rattle.shore_model.specs.declared.histories.Entry.{Entry}
use Rattle.shore_model.specs.declared.histories.Entry.TheVariants.{Decided, Exchanged}
use Rattle.laws_lives.specs.SessionSteps.{exchange}
use Rattle.shore_model.specs.declared.step.Step.TheVariants.{Done, Waits}
use Rattle.shore_model.specs.declared.step.Wait.TheVariants.{Lock}
use Rattle.laws_calls.specs.Events.{Called, ManagerEvent, Resumed}
use Rattle.laws_calls.specs.WorkedRun.{first_id}

abbrev pub two_sessions : List ℕ → List ManagerEvent
two_sessions bytes =
    Called 1 call.Begin (Done (Began 1)) ∷ Called 1 (call.Insert 0 bytes) (Done (Inserted first_id))
    ∷ Called 2 call.Begin (Done (Began 2)) ∷ Called 2 (call.Get first_id) (Waits (Lock (Record first_id)))
    ∷ Called 1 call.Commit (Done (Committed 2)) ∷ Resumed 2 (Done (Got bytes)) ∷ []

-- what its history has
abbrev pub told_to_two : List ℕ → List Entry
told_to_two bytes =
    Exchanged 1 1 (exchange call.Begin (Ok (Began 1))) ∷ Exchanged 1 1 (exchange (call.Insert 0 bytes) (Ok (Inserted first_id)))
    ∷ Exchanged 2 2 (exchange call.Begin (Ok (Began 2))) ∷ Decided (decision.Commit 1)
    ∷ Exchanged 1 1 (exchange call.Commit (Ok (Committed 2))) ∷ Exchanged 2 2 (exchange (call.Get first_id) (Ok (Got bytes))) ∷ []

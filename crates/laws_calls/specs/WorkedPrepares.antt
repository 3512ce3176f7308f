-- Two runs worked by hand over an empty volume. A session inserts a record and prepares; another session resolves it, to commit or to roll back, and the resolve
-- is answered once its decision is durable.
use Rattle.std.specs.Prelude.{◌≡◌, ℕ, List, [], ◌∷◌}
use Rattle.std.specs.FinMap.{empty, get}
use Rattle.shore_types.specs.Images.{Image}
use Rattle.shore_types.specs.declared.layout.Geometry.{Geometry}
use Rattle.shore_types.specs.Versions.{slot_limit}
use Rattle.shore_model.specs.declared.histories.Decision.{Decision}
use Rattle.shore_model.specs.declared.histories.Decision.TheVariants as decision
use Rattle.shore_model.specs.declared.histories.Entry.{Entry}
use Rattle.shore_model.specs.Histories.{acknowledged}
use Rattle.laws_lives.specs.Soundness.{opening_with}
use Rattle.laws_calls.specs.CallHistories.{IsOpened}
use Rattle.laws_calls.specs.States.{State}
use Rattle.shore_model.specs.declared.calls.Answer.TheVariants.{Began, Inserted, Prepared, Resolved}
use Rattle.shore_model.specs.declared.calls.Call.TheVariants as call
use Rattle.shore_model.specs.declared.calls.Outcome.{Outcome}
use Rattle.shore_model.specs.declared.step.Step.TheVariants.{Done, Waits}
use Rattle.shore_model.specs.declared.step.Wait.TheVariants.{Durable}
use Rattle.laws_calls.specs.Events.{Called, Forced, ManagerEvent, MovesMaking, Resumed}
use Rattle.laws_calls.specs.WorkedRun.{first_id, opened_empty}

-- the text "a"
abbrev pub short_name : List ℕ
short_name = 97 ∷ []

abbrev pub prepare_and_resolve : List ℕ → Outcome → List ManagerEvent
prepare_and_resolve bytes asked =
    Called 1 call.Begin (Done (Began 1)) ∷ Called 1 (call.Insert 0 bytes) (Done (Inserted first_id)) ∷ Called 1 (call.Prepare short_name) (Waits (Durable 2))
    ∷ Forced 2 ∷ Resumed 1 (Done Prepared) ∷ Called 2 (call.Resolve short_name asked) (Waits (Durable 3)) ∷ Forced 3 ∷ Resumed 2 (Done Resolved) ∷ []

-- the run may come, and leaves this image under the id; that it was prepared and then decided is acknowledged, and it has left nothing else
abbrev pub ResolvesThrough : Geometry → ℕ → List ℕ → Outcome → Image → Decision → Type 0
ResolvesThrough g stream_bytes bytes asked image decided =
    (last : State) × (made : List Entry) × IsOpened (opening_with (slot_limit g.version) empty) [] (opened_empty (slot_limit g.version) stream_bytes)
    × MovesMaking g (opened_empty (slot_limit g.version) stream_bytes) (prepare_and_resolve bytes asked) last made
    × (get last.sessions.records first_id ≡ image) × (acknowledged made ≡ decision.Prepare 1 short_name ∷ decided ∷ [])
    × (last.sessions.prepared ≡ []) × (last.sessions.resolving ≡ []) × (last.sessions.active ≡ []) × (last.locks.requests ≡ [])

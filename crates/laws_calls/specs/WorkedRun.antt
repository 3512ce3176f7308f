-- A run worked by hand over an empty volume: a transaction inserts a record and commits, and the commit is acknowledged once its ticket is durable.
use Rattle.std.specs.Prelude.{ℕ, List, [], ◌∷◌, false, true}
use Rattle.std.specs.FinMap.{empty}
use Rattle.shore_types.specs.declared.ids.PageId.{PageId}
use Rattle.shore_types.specs.declared.ids.Rid.{Rid}
use Rattle.shore_model.specs.declared.calls.Answer.TheVariants.{Began, Committed, Inserted}
use Rattle.shore_model.specs.declared.calls.Call.TheVariants as call
use Rattle.shore_model.specs.declared.step.Step.TheVariants.{Done}
use Rattle.laws_lives.specs.WorkedRun.{just_opened}
use Rattle.laws_calls.specs.Events.{Called, Forced, ManagerEvent, TicketAsked}
use Rattle.laws_calls.specs.States.{State}

-- an open of an empty log, over pages with no slot
abbrev pub opened_empty : ℕ → ℕ → State
opened_empty slots stream_bytes = record {
  sessions = just_opened slots empty;
  locks = record { limit = 16; requests = [] };
  counts = λ p. 0;
  log = [];
  durable = 0;
  stream_bytes = stream_bytes;
  waiting = [];
  failed = false;
}

abbrev pub first_page : PageId
first_page = record { store = 0; page = 0 }

abbrev pub first_id : Rid
first_id = record { page = first_page; slot = 0 }

abbrev pub one_insert : List ℕ → List ManagerEvent
one_insert bytes =
    Called 1 call.Begin (Done (Began 1)) ∷ Called 1 (call.Insert 0 bytes) (Done (Inserted first_id)) ∷ Called 1 call.Commit (Done (Committed 2))
    ∷ TicketAsked 2 false ∷ Forced 2 ∷ TicketAsked 2 true ∷ []

-- Each manager of any stays is in order.
use Rattle.std.proofs.Common.{ℕ, List, [], ◌∷◌}
use Rattle.shore_types.specs.declared.layout.Geometry.{Geometry}
use Rattle.shore_model.specs.declared.histories.Opening.{Opening}
use Rattle.shore_model.specs.declared.log_records.LogRecord.{LogRecord}
use Rattle.shore_model.specs.Lives.{next_opening}
use Rattle.laws_lives.specs.Doubts.{IsOpeningOf}
use Rattle.laws_lives.specs.Pages.{LoggedPages}
use Rattle.laws_lives.specs.Soundness.{history_from}
use Rattle.laws_checkpoints.specs.Checkpoints.{Anchored}
use Rattle.laws_runs.proofs.CheckpointedRuns.{up_leaves}
use Rattle.laws_runs.proofs.CheckpointedStays.{cut_leaves, cut_opens, up_opens}
use Rattle.laws_runs.proofs.OpenedBehind.{open_goes}
use Rattle.laws_runs.specs.CheckpointedStates.{MayBeOpenedBehind}
use Rattle.laws_runs.specs.CheckpointedStays.{AreCheckpointedStays, CheckpointedRun, CheckpointedStay, CutOff, IsCheckpointedUp, WasUp, left_by_cut, left_by_up, span_of_up, spans_of_stays}
use Rattle.laws_orders.proofs.Moves.{moves_in_order, opens_in_order}
use Rattle.laws_orders.specs.InTurns.{IsInOrder}
use Rattle.laws_orders.specs.Lives.{AreInOrder}

up_in_order : (g : Geometry) (ring_bytes : ℕ) (o : Opening) (a : Anchored) (rs : List LogRecord) (pages : LoggedPages) (may : MayBeOpenedBehind g ring_bytes a rs pages) (opening : IsOpeningOf rs o)
    (r : CheckpointedRun) → IsCheckpointedUp g ring_bytes o a rs pages r → IsInOrder (history_from o r.made)
up_in_order g ring_bytes o a rs pages may opening r h =
    moves_in_order g ring_bytes o rs [] (record { state = r.first; store = r.ready })
    (open_goes g ring_bytes a rs pages may r.restart r.ready h.restarts o opening r.first h.redone h.no_losers h.opens h.from) r.events r.last r.made h.moves (opens_in_order rs o may.opened.lawful opening)

pub stays_in_order : (g : Geometry) (ring_bytes : ℕ) (o : Opening) (a : Anchored) (rs : List LogRecord) (pages : LoggedPages) → MayBeOpenedBehind g ring_bytes a rs pages → IsOpeningOf rs o
    → (stays : List CheckpointedStay) (b : Anchored) (last : List LogRecord) (last_pages : LoggedPages) → AreCheckpointedStays g ring_bytes o a rs pages stays b last last_pages
    → AreInOrder o (spans_of_stays rs stays)
stays_in_order g ring_bytes o a rs pages may opening [] b last last_pages h = tt
stays_in_order g ring_bytes o a rs pages may opening (CutOff c ∷ stays) b last last_pages h =
    stays_in_order g ring_bytes o a (left_by_cut c) c.pages (cut_leaves g ring_bytes a rs pages may c h.0) (cut_opens g ring_bytes a rs pages may c h.0 o opening) stays b last last_pages h.1
stays_in_order g ring_bytes o a rs pages may opening (WasUp r ∷ stays) b last last_pages h = (
  up_in_order g ring_bytes o a rs pages may opening r h.0,
  stays_in_order g ring_bytes (next_opening o (span_of_up rs r)) r.anchor (left_by_up r) r.pages (up_leaves g ring_bytes o a rs pages may opening r h.0)
      (up_opens g ring_bytes o a rs pages may opening r h.0) stays b last last_pages h.1,
)

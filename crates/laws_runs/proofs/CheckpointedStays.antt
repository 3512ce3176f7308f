-- Stays of the power in which managers make checkpoints are a life.
use Rattle.std.proofs.Common.{◌++◌, ℕ, List, [], ◌∷◌, refl, sym, subst, take_all, arith}
use Rattle.shore_types.specs.declared.layout.Geometry.{Geometry}
use Rattle.shore_model.specs.declared.histories.Opening.{Opening}
use Rattle.shore_model.specs.declared.log_records.LogRecord.{LogRecord}
use Rattle.shore_model.specs.Lives.{IsLife, next_opening}
use Rattle.laws_lives.proofs.Openings.{undone_opening}
use Rattle.laws_lives.proofs.Restarts.{events_restart}
use Rattle.laws_lives.proofs.UndoRecords.{undone_grows}
use Rattle.laws_lives.specs.Doubts.{DoubtsStand, IsOpeningOf}
use Rattle.laws_lives.specs.Pages.{LoggedPages}
use Rattle.laws_lives.specs.Recovery.{LosePower, after_crash}
use Rattle.laws_lives.specs.Restarts.{IsRestartOf, RestartsTo}
use Rattle.laws_lives.specs.Stretches.{opening_after}
use Rattle.laws_calls.specs.CallHistories.{IsPrefix}
use Rattle.laws_checkpoints.specs.Checkpoints.{Anchored, cut_of}
use Rattle.laws_runs.proofs.CheckpointCrashes.{crash_leaves}
use Rattle.laws_runs.proofs.CheckpointedRuns.{as_life, up_leaves}
use Rattle.laws_runs.proofs.OpenedBehind.{found_store, restarted, same_limit}
use Rattle.laws_runs.proofs.PlainWorks.{HasRestarted}
use Rattle.laws_runs.proofs.SoundStores.{may_crash, restart_sound, restarts_join}
use Rattle.laws_runs.specs.CheckpointSteps.{log_limit}
use Rattle.laws_runs.specs.CheckpointedStates.{MayBeOpenedBehind, found_behind}
use Rattle.laws_runs.specs.CheckpointedStays.{AreCheckpointedStays, CheckpointedCut, CheckpointedRun, CheckpointedStay, CutOff, IsCheckpointedCut, IsCheckpointedUp, StaysShow, WasUp, left_by_cut, left_by_up, span_of_up, spans_of_stays}
use Rattle.laws_runs.specs.SoundStores.{IsSoundStore}

-- ---- an open that lost power

module _ (g : Geometry) (ring_bytes : ℕ) (a : Anchored) (rs : List LogRecord) (pages : LoggedPages) (may : MayBeOpenedBehind g ring_bytes a rs pages) (c : CheckpointedCut)
    (h : IsCheckpointedCut a rs pages c) where
  abbrev limit : ℕ
  limit = log_limit ring_bytes (cut_of a) c.reached.store.log

  found_sound : IsSoundStore g (log_limit ring_bytes (cut_of a) rs) (found_store g ring_bytes a rs pages may)
  found_sound = record {
    recoverable = may.in_order.recoverable;
    lawful = may.opened.lawful;
    doubts = λ n all. subst DoubtsStand (sym (take_all n rs all)) may.opened.doubts;
    roomy = may.opened.roomy;
  }

  reached_goes : HasRestarted (found_behind a rs pages) c.restart c.reached
  reached_goes = restarted g ring_bytes a rs pages may c.restart c.reached h.restarts

  reached_sound : IsSoundStore g limit c.reached.store
  reached_sound =
      restart_sound g limit (found_store g ring_bytes a rs pages may) c.restart c.reached.store
      (subst (λ n. IsSoundStore g n (found_store g ring_bytes a rs pages may)) (same_limit g ring_bytes a rs pages may c.restart c.reached h.restarts) found_sound) reached_goes.restarts

  pub cut_leaves : MayBeOpenedBehind g ring_bytes a (left_by_cut c) c.pages
  cut_leaves =
      subst (λ x. MayBeOpenedBehind g ring_bytes x (left_by_cut c) c.pages) reached_goes.anchored
      (crash_leaves g ring_bytes may.short c.reached reached_goes.in_order
      (subst (λ (x : Anchored). IsSoundStore g (log_limit ring_bytes (cut_of x) c.reached.store.log) c.reached.store) (sym reached_goes.anchored) reached_sound) c.survive c.pages h.lost)

  -- what is left is what was found with records of undo behind it
  left_restarts : IsRestartOf rs (after_crash c.reached.store c.survive c.pages 0)
  left_restarts =
      let lost : RestartsTo c.reached.store (LosePower c.survive c.pages 0 ∷ []) (after_crash c.reached.store c.survive c.pages 0) =
      (tt, after_crash c.reached.store c.survive c.pages 0, (may_crash g limit c.reached.store reached_sound c.survive c.pages h.lost, refl), refl) in
      let both =
      restarts_join (found_store g ring_bytes a rs pages may) c.restart c.reached.store (LosePower c.survive c.pages 0 ∷ []) (after_crash c.reached.store c.survive c.pages 0)
      reached_goes.restarts lost in
      (events_restart rs (found_store g ring_bytes a rs pages may) (c.restart ++ LosePower c.survive c.pages 0 ∷ []) (after_crash c.reached.store c.survive c.pages 0)
      may.in_order.recoverable (record { turns = []; undone = refl; durable = omega arith }) both).1

  pub cut_grows : IsPrefix rs (left_by_cut c)
  cut_grows = undone_grows rs left_restarts.turns (left_by_cut c) left_restarts.undone

  pub cut_opens : (o : Opening) → IsOpeningOf rs o → IsOpeningOf (left_by_cut c) o
  cut_opens o opening = undone_opening o rs left_restarts.turns (left_by_cut c) left_restarts.undone opening

-- ---- a manager

module _ (g : Geometry) (ring_bytes : ℕ) (o : Opening) (a : Anchored) (rs : List LogRecord) (pages : LoggedPages) (may : MayBeOpenedBehind g ring_bytes a rs pages)
    (opening : IsOpeningOf rs o) (r : CheckpointedRun) (h : IsCheckpointedUp g ring_bytes o a rs pages r) where
  pub up_opens : IsOpeningOf (left_by_up r) (next_opening o (span_of_up rs r))
  up_opens = (as_life g ring_bytes o a rs pages may opening r h).3

-- ---- any number of stays

pub stays_leave : (g : Geometry) (ring_bytes : ℕ) (o : Opening) (a : Anchored) (rs : List LogRecord) (pages : LoggedPages) → MayBeOpenedBehind g ring_bytes a rs pages → IsOpeningOf rs o
    → (stays : List CheckpointedStay) (b : Anchored) (last : List LogRecord) (last_pages : LoggedPages) → AreCheckpointedStays g ring_bytes o a rs pages stays b last last_pages
    → MayBeOpenedBehind g ring_bytes b last last_pages × IsOpeningOf last (opening_after o (spans_of_stays rs stays))
stays_leave g ring_bytes o a rs pages may opening [] b last last_pages h = (
  subst (λ x. MayBeOpenedBehind g ring_bytes x last last_pages) (sym h.0)
      (subst (λ x. MayBeOpenedBehind g ring_bytes a x last_pages) (sym h.1) (subst (MayBeOpenedBehind g ring_bytes a rs) (sym h.2) may)),
  subst (λ x. IsOpeningOf x o) (sym h.1) opening,
)
stays_leave g ring_bytes o a rs pages may opening (CutOff c ∷ stays) b last last_pages h =
    stays_leave g ring_bytes o a (left_by_cut c) c.pages (cut_leaves g ring_bytes a rs pages may c h.0) (cut_opens g ring_bytes a rs pages may c h.0 o opening) stays b last last_pages h.1
stays_leave g ring_bytes o a rs pages may opening (WasUp r ∷ stays) b last last_pages h =
    stays_leave g ring_bytes (next_opening o (span_of_up rs r)) r.anchor (left_by_up r) r.pages (up_leaves g ring_bytes o a rs pages may opening r h.0)
    (up_opens g ring_bytes o a rs pages may opening r h.0) stays b last last_pages h.1

pub stays_live : (g : Geometry) (ring_bytes : ℕ) (o : Opening) (a : Anchored) (rs : List LogRecord) (pages : LoggedPages) → MayBeOpenedBehind g ring_bytes a rs pages → IsOpeningOf rs o
    → (stays : List CheckpointedStay) (b : Anchored) (last : List LogRecord) (last_pages : LoggedPages) → AreCheckpointedStays g ring_bytes o a rs pages stays b last last_pages
    → IsLife o (spans_of_stays rs stays) (opening_after o (spans_of_stays rs stays)) × StaysShow o rs stays
stays_live g ring_bytes o a rs pages may opening [] b last last_pages h = (refl, tt)
stays_live g ring_bytes o a rs pages may opening (CutOff c ∷ stays) b last last_pages h =
    stays_live g ring_bytes o a (left_by_cut c) c.pages (cut_leaves g ring_bytes a rs pages may c h.0) (cut_opens g ring_bytes a rs pages may c h.0 o opening) stays b last last_pages h.1
stays_live g ring_bytes o a rs pages may opening (WasUp r ∷ stays) b last last_pages h =
    let one = as_life g ring_bytes o a rs pages may opening r h.0 in
    let rest =
    stays_live g ring_bytes (next_opening o (span_of_up rs r)) r.anchor (left_by_up r) r.pages (up_leaves g ring_bytes o a rs pages may opening r h.0)
    (up_opens g ring_bytes o a rs pages may opening r h.0) stays b last last_pages h.1 in
    ((one.0.0, one.0.1, one.0.2, rest.0), (one.1.0.1, rest.1))

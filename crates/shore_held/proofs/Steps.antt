-- Each call, each resume and each step of the flush is a step under way as long as it goes on.
use Rattle.std.proofs.Common.{◌≡◌, ◌⊎◌, ◌∷◌, [], ℕ, inl, inr, ⊎_elim, List, IsTrue, refl, sym, subst, ◌∙◌}
use Rattle.shore_types.specs.declared.layout.Geometry.{Geometry}
use Rattle.shore_disk.specs.declared.device.Disk as disk
use Rattle.shore_disk.proofs.Moments.{started}
use Rattle.shore_log.specs.declared.tail.Tail as tail
use Rattle.shore_check.specs.declared.stage.Stage.{Stage}
use Rattle.shore_model.specs.Calls.{IsServed}
use Rattle.shore_model.specs.declared.calls.Call.{Call}
use Rattle.shore_model.specs.declared.log_records.LogRecord.{LogRecord}
use Rattle.shore_model.specs.declared.step.Step.{Step}
use Rattle.shore_model.specs.declared.step.Step.TheVariants.{Done, Nothing, Refused, Waits}
use Rattle.laws_calls.specs.Events.{Called, EventMoves, GaveUp, HasFailed, ManagerEvent, Resumed}
use Rattle.laws_calls.specs.StateChanges.{with_failure}
use Rattle.laws_calls.specs.States.{State}
use Rattle.laws_checkpoints.specs.Checkpoints.{Anchored}
use Rattle.laws_images.specs.Moments.{ShowsLeft}
use Rattle.laws_runs.specs.CheckpointSteps.{CheckpointedMove, CheckpointedState, Goes}
use Rattle.laws_runs.specs.StoredRuns.{Manage, Tend}
use Rattle.shore_core.specs.declared.core_calls.Core.{Core}
use Rattle.shore_core.specs.Cores.{IsKept, durable_of, geometry_of, has_failed, heap_of, history_of}
use Rattle.shore_core.specs.Flushing.{FlushMoves, FlushSteps}
use Rattle.shore_core.specs.Replies.{InEach, MayLeave, Stepped}
use Rattle.shore_core.specs.Replies as replies
use Rattle.shore_core.proofs.Works.{stores_to, works_leave, works_to}
use Rattle.shore_world.proofs.GrowLemmas.{failed_call_stays, failed_resume_keeps, given_up_same, kept_same}
use Rattle.shore_world.proofs.VolumeLemmas.{runs_or_failed}
use Rattle.shore_world.specs.EventMoves.{OfManager, PlainMove, moves_among}
use Rattle.shore_held.proofs.Comings.{CameTo, failing, flush_came, ring_of, running, safe, torn, volume_amid}
use Rattle.shore_held.specs.Comings.{Beginning, HasComeBy}
use Rattle.shore_held.specs.Moments.{IsMakingStep}

-- a step of the flush leaves the state, or notes a failure
flush_leaves : (s : State) (step : Step) (later : State) → FlushMoves s step later → (later ≡ s) ⊎ (later ≡ with_failure s)
flush_leaves s (Done answer) later p = inl p.2
flush_leaves s (Waits wait) later p = absurd p
flush_leaves s (Refused f) later (inl p) = inl p.2
flush_leaves s (Refused f) later (inr (running, device, is)) = inr is
flush_leaves s Nothing later p = inl p.1

module _ {T V : Type 0} {G : tail.Ghosts T} {H : disk.Ghosts V} {start : Beginning} (cut : ℕ) (kept : List LogRecord) (old : Core T V G H) (stage : Stage) (anchored : Anchored) (trail : List PlainMove)
    (h : HasComeBy start cut kept old stage anchored trail) where
  -- it makes none
  pub rests : IsMakingStep h old (Goes (Tend [])) h.last
  rests = record {
    steps = ((refl, refl, h.over.kept.stored), refl);
    stored = h.over.kept.stored;
    log = h.is_in.beside.parts.log;
    learns_nothing = refl;
    anchor_stays = refl;
    stage_stays = refl;
    amid = started (history_of old) (ShowsLeft h.geometry h.front h.last.store.store) h.volume;
  }

  -- one that is this event, with what it came to
  pub record Makes (new : Core T V G H) (e : ManagerEvent) : Type 0 where
    pub plain : CheckpointedMove
    pub last : CheckpointedState
    pub step : IsMakingStep h new plain last
    pub is : moves_among (plain ∷ []) ≡ OfManager e ∷ []

  module _ (new : Core T V G H) (durable : durable_of new ≡ durable_of old) (leaves : MayLeave old new) (still : IsTrue (has_failed old) → heap_of new ≡ heap_of old) where
    by_event : (e : ManagerEvent) (later : State) (came : CameTo cut kept old stage anchored trail h new later) → EventMoves (geometry_of old) h.last.state e later → Makes new e
    by_event e later came moves = record {
      plain = Goes (Manage e came.works);
      last = record { state = later; store = came.after };
      step = record {
        steps = (
          (subst (λ (g : Geometry). EventMoves g h.last.state e later) h.is moves, works_to h.last.store came.works came.after came.work, came.over.kept.stored),
          stores_to h.last.store came.works came.after came.work,
        );
        stored = came.over.kept.stored;
        log = came.is_in.beside.parts.log;
        learns_nothing =
            came.over.kept.stored.durable ∙ came.is_in.beside.parts.durable_is ∙ durable ∙ sym (h.over.kept.stored.durable ∙ h.is_in.beside.parts.durable_is);
        anchor_stays = (works_leave h.last.store came.works came.after came.work).1;
        stage_stays = (works_leave h.last.store came.works came.after came.work).0;
        amid = volume_amid cut kept old stage anchored trail h new leaves still;
      };
      is = refl;
    }

    module _ (same : geometry_of new ≡ geometry_of old) where
      pub call_makes : (session : ℕ) (c : Call) (step : Step) → IsServed c → InEach (λ front disk before s store. Stepped session c step old new front before s store) old → Makes new (Called session c step)
      call_makes session c step served each =
          let s = each h.front h.disk h.before h.last.state h.last.store h.is_in (safe cut kept old stage anchored trail h) h.over in
          let amid = volume_amid cut kept old stage anchored trail h new leaves still in
          let came : CameTo cut kept old stage anchored trail h new s.later = elim (runs_or_failed s.later.failed) [
            | inl runs ↦ running cut kept old stage anchored trail h new same s.later s.comes runs
            | inr fails ↦ elim (runs_or_failed h.last.state.failed) [
              | inl ran ↦ failing cut kept old stage anchored trail h new same s.later s.comes fails (s.fails (sym h.is_in.beside.parts.failed_is ∙ ran) fails)
              | inr before ↦
                  torn cut kept old stage anchored trail h new same s.later s.comes amid fails
                  (subst (λ (x : State). IsKept x h.last.store) (sym (failed_call_stays (geometry_of old) h.last.state session c step s.later s.moves before)) h.over.kept)
            ]
          ] in
          by_event (Called session c step) s.later came (served, s.moves)

      pub resume_makes : (session : ℕ) (step : Step) → InEach (λ front disk before s store. replies.Resumed session step old new front before s store) old → Makes new (Resumed session step)
      resume_makes session step each =
          let s = each h.front h.disk h.before h.last.state h.last.store h.is_in (safe cut kept old stage anchored trail h) h.over in
          let amid = volume_amid cut kept old stage anchored trail h new leaves still in
          let came : CameTo cut kept old stage anchored trail h new s.later = elim (runs_or_failed s.later.failed) [
            | inl runs ↦ running cut kept old stage anchored trail h new same s.later s.comes runs
            | inr fails ↦
                torn cut kept old stage anchored trail h new same s.later s.comes amid fails
                (kept_same h.last.state s.later h.last.store (failed_resume_keeps (geometry_of old) h.last.state session step s.later s.moves fails) h.over.kept)
          ] in
          by_event (Resumed session step) s.later came s.moves

      pub give_up_makes : (session : ℕ) (step : Step) → InEach (λ front disk before s store. replies.GaveUp session step old new front before s store) old → Makes new (GaveUp session step)
      give_up_makes session step each =
          let s = each h.front h.disk h.before h.last.state h.last.store h.is_in (safe cut kept old stage anchored trail h) h.over in
          let amid = volume_amid cut kept old stage anchored trail h new leaves still in
          let came : CameTo cut kept old stage anchored trail h new s.later = elim (runs_or_failed s.later.failed) [
            | inl runs ↦ running cut kept old stage anchored trail h new same s.later s.comes runs
            | inr fails ↦
                torn cut kept old stage anchored trail h new same s.later s.comes amid fails
                (kept_same h.last.state s.later h.last.store (given_up_same h.last.state session step s.later s.moves) h.over.kept)
          ] in
          by_event (GaveUp session step) s.later came s.moves

      -- work between two events, or the failure of the volume
      pub record Flushes : Type 0 where
        pub plain : CheckpointedMove
        pub last : CheckpointedState
        pub step : IsMakingStep h new plain last
        pub is : (moves_among (plain ∷ []) ≡ []) ⊎ (moves_among (plain ∷ []) ≡ OfManager HasFailed ∷ [])

      by_work : (later : State) → CameTo cut kept old stage anchored trail h new later → later ≡ h.last.state → Flushes
      by_work later came is = record {
        plain = Goes (Tend came.works);
        last = record { state = later; store = came.after };
        step = record {
          steps = ((is, works_to h.last.store came.works came.after came.work, came.over.kept.stored), stores_to h.last.store came.works came.after came.work);
          stored = came.over.kept.stored;
          log = came.is_in.beside.parts.log;
          learns_nothing =
              came.over.kept.stored.durable ∙ came.is_in.beside.parts.durable_is ∙ durable ∙ sym (h.over.kept.stored.durable ∙ h.is_in.beside.parts.durable_is);
          anchor_stays = (works_leave h.last.store came.works came.after came.work).1;
          stage_stays = (works_leave h.last.store came.works came.after came.work).0;
          amid = volume_amid cut kept old stage anchored trail h new leaves still;
        };
        is = inl refl;
      }

      by_failure : (later : State) → CameTo cut kept old stage anchored trail h new later → later ≡ with_failure h.last.state → Flushes
      by_failure later came failed = let m = by_event HasFailed later came failed in record { plain = m.plain; last = m.last; step = m.step; is = inr m.is }

      pub flush_makes : (step : Step) → ring_of new ≡ ring_of old → InEach (λ front disk before s store. FlushSteps step new front before s store) old → Flushes
      flush_makes step ring each =
          let s = each h.front h.disk h.before h.last.state h.last.store h.is_in (safe cut kept old stage anchored trail h) h.over in
          let came = flush_came cut kept old stage anchored trail h new same ring leaves still step s in
          ⊎_elim (by_work s.later came) (by_failure s.later came) (flush_leaves h.last.state step s.later s.moves)

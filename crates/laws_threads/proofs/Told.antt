-- A loss of power amid a step is one behind the step, which was made with other work; what was told by then, and what was seen of it, comes behind.
use Rattle.std.proofs.Common.{◌≡◌, inl, inr, ℕ, List, refl, sym, ap, subst, ◌∙◌, length, arith}
use Rattle.shore_types.specs.declared.layout.Geometry.{Geometry}
use Rattle.laws_lives.specs.Pages.{LoggedPages}
use Rattle.laws_lives.specs.Recovery.{CrashMayLeave, RecoveryEvent}
use Rattle.laws_calls.specs.Events.{ManagerEvent}
use Rattle.shore_model.specs.declared.calls.Answer.{Answer}
use Rattle.shore_model.specs.declared.calls.Answer.TheVariants.{Anchored, Begun, Ended, Moved}
use Rattle.shore_model.specs.declared.log_records.Payload.TheVariants as payload
use Rattle.shore_model.specs.declared.step.Step.{Step}
use Rattle.shore_model.specs.declared.step.Step.TheVariants.{Done, Nothing, Refused, Waits}
use Rattle.shore_types.specs.declared.faults.Fault.{Fault}
use Rattle.laws_lives.specs.Recovery.{RecoveryState, after_append}
use Rattle.laws_checkpoints.specs.Checkpoints.{end_payload, of_checkpoint}
use Rattle.laws_runs.proofs.PlainWorks.{as_works}
use Rattle.laws_runs.specs.CheckpointSteps.{CheckpointAnswers, CheckpointMoves, CheckpointRefused, CheckpointedMove, CheckpointedState, CheckpointedSteps, Checkpoints, Goes}
use Rattle.laws_runs.specs.SoundStores.{IsLost}
use Rattle.laws_runs.specs.StoredRuns.{IsStored, Manage, Tend}
use Rattle.laws_threads.proofs.Works.{IsReached, otherwise}
use Rattle.laws_threads.specs.Amid.{IsLostAmid, IsMadeOtherwise}

-- a step, made otherwise, behind which so many records and these pages are left
pub record IsBehind (g : Geometry) (m : CheckpointedState) (e : CheckpointedMove) (new : CheckpointedState) (n : ℕ) (left : LoggedPages) : Type 0 where
  pub other : CheckpointedMove
  pub last : CheckpointedState
  pub made : IsMadeOtherwise g m e new other last
  pub lost : IsLost last.store.store n left

module _ (g : Geometry) (m new : CheckpointedState) (n : ℕ) (left : LoggedPages) (lost : IsLostAmid m new n left) where
  abbrev last_of : IsReached left m.store new.store → CheckpointedState
  last_of r = record { state = new.state; store = r.end }

  is_lost : (r : IsReached left m.store new.store) → IsLost r.end.store n left
  is_lost r = record {
    least = let least = lost.least in omega (arith, least, r.beside.durable);
    most = let most = lost.most in omega (arith, most, ap length r.beside.log);
    shows = r.beside.leaves;
  }

  is_stored : (r : IsReached left m.store new.store) → IsStored new.state new.store.store → IsStored new.state r.end.store
  is_stored r stored = record { log = r.beside.log ∙ stored.log; durable = r.beside.durable ∙ stored.durable }

  pub behind_event : (e : ManagerEvent) (works : List RecoveryEvent) → CheckpointedSteps g m (Goes (Manage e works)) new → IsBehind g m (Goes (Manage e works)) new n left
  behind_event e works h =
      let r = otherwise left m.store lost.shows works new.store h.0.1 h.1 in
      record {
        other = Goes (Manage e r.others);
        last = last_of r;
        made = record {
          step = ((h.0.0, as_works m.store r.others r.end r.are r.works, is_stored r h.0.2), r.works);
          alike = refl;
          state = refl;
          log = r.beside.log;
          durable = r.beside.durable;
          stage = r.beside.stage;
          anchored = r.beside.anchored;
          entries = refl;
        };
        lost = is_lost r;
      }

  pub behind_tending : (works : List RecoveryEvent) → CheckpointedSteps g m (Goes (Tend works)) new → IsBehind g m (Goes (Tend works)) new n left
  behind_tending works h =
      let r = otherwise left m.store lost.shows works new.store h.0.1 h.1 in
      record {
        other = Goes (Tend r.others);
        last = last_of r;
        made = record {
          step = ((h.0.0, as_works m.store r.others r.end r.are r.works, is_stored r h.0.2), r.works);
          alike = tt;
          state = refl;
          log = r.beside.log;
          durable = r.beside.durable;
          stage = r.beside.stage;
          anchored = r.beside.anchored;
          entries = refl;
        };
        lost = is_lost r;
      }

  -- ---- a step of a checkpoint works on no page

  leaves_so : (s : RecoveryState) → new.store.store ≡ s → CrashMayLeave s left → CrashMayLeave new.store.store left
  leaves_so s same may = subst (λ (x : RecoveryState). CrashMayLeave x left) (sym same) may

  answer_leaves : (answer : Answer) → CheckpointAnswers m answer new → CrashMayLeave new.store.store left
  answer_leaves (Begun k) h = leaves_so (after_append m.store.store (of_checkpoint payload.CheckpointBegin)) (ap (λ (x : CheckpointedState). x.store.store) h.6) lost.shows
  answer_leaves (Ended k) h = leaves_so (after_append m.store.store (of_checkpoint (end_payload h.0))) (ap (λ (x : CheckpointedState). x.store.store) h.3) lost.shows
  answer_leaves (Anchored checkpoint tail) h = leaves_so (after_append m.store.store (of_checkpoint (payload.Anchor checkpoint tail))) (ap (λ (x : CheckpointedState). x.store.store) h.6) lost.shows
  answer_leaves Moved h = leaves_so m.store.store (ap (λ (x : CheckpointedState). x.store.store) h.2) lost.shows
  answer_leaves _ h = absurd h

  refusal_leaves : (f : Fault) → CheckpointRefused m f new → CrashMayLeave new.store.store left
  refusal_leaves f (inl short) = leaves_so m.store.store (ap (λ (x : CheckpointedState). x.store.store) short.2) lost.shows
  refusal_leaves f (inr (inl full)) = leaves_so m.store.store (ap (λ (x : CheckpointedState). x.store.store) full.3) lost.shows
  refusal_leaves f (inr (inr device)) = leaves_so m.store.store (ap (λ (x : CheckpointedState). x.store.store) device.2) lost.shows

  step_leaves : (step : Step) → CheckpointMoves m step new → CrashMayLeave new.store.store left
  step_leaves (Done answer) h = answer_leaves answer h.1
  step_leaves Nothing h = leaves_so m.store.store (ap (λ (x : CheckpointedState). x.store.store) h.2) lost.shows
  step_leaves (Refused f) (inl failed) = leaves_so m.store.store (ap (λ (x : CheckpointedState). x.store.store) failed.2) lost.shows
  step_leaves (Refused f) (inr here) = refusal_leaves f here.1
  step_leaves (Waits wait) h = absurd h

  pub behind_checkpoint : (step : Step) → CheckpointedSteps g m (Checkpoints step) new → IsBehind g m (Checkpoints step) new n left
  behind_checkpoint step h = record {
    other = Checkpoints step;
    last = new;
    made = record { step = h; alike = refl; state = refl; log = refl; durable = refl; stage = refl; anchored = refl; entries = refl };
    lost = record { least = lost.least; most = lost.most; shows = step_leaves step h };
  }

  pub behind_step : (e : CheckpointedMove) → CheckpointedSteps g m e new → IsBehind g m e new n left
  behind_step (Goes (Manage e works)) h = behind_event e works h
  behind_step (Goes (Tend works)) h = behind_tending works h
  behind_step (Checkpoints step) h = behind_checkpoint step h

-- The values under both locks at one moment are a manager in threads.
use Rattle.std.proofs.Common.{◌≡◌, ◌≤◌, ◌+◌, ◌∷◌, [], ℕ, List, All, length, sym, subst, ◌∙◌}
use Rattle.shore_types.specs.declared.layout.Geometry.{Geometry}
use Rattle.shore_check.specs.declared.stage.Stage.{Stage}
use Rattle.shore_disk.specs.Device.{DeviceHistory, left_since, moment, size}
use Rattle.shore_disk.specs.declared.device.Disk as disk
use Rattle.shore_log.specs.declared.tail.Tail as tail
use Rattle.shore_model.specs.declared.log_records.LogRecord.{LogRecord}
use Rattle.laws_checkpoints.specs.Checkpoints.{Anchored}
use Rattle.laws_runs.specs.CheckpointSteps.{CheckpointedMove, CheckpointedMoves, CheckpointedState, Goes}
use Rattle.laws_runs.specs.StoredRuns.{Tend}
use Rattle.laws_threads.specs.Amid.{IsLeftThen, IsMoment}
use Rattle.shore_core.specs.declared.core_calls.Core.{Core}
use Rattle.shore_core.specs.Cores.{durable_of, history_of, waiting_of}
use Rattle.shore_world.specs.EventMoves.{PlainMove, moves_among}
use Rattle.shore_world.specs.Managers.{LeadsToMoment, Threads}
use Rattle.shore_world.specs.Worlds.{geometry_in, history_in}
use Rattle.shore_held.proofs.Moments.{left_amid, left_then}
use Rattle.shore_held.proofs.Steps.{rests}
use Rattle.shore_held.specs.Comings.{Beginning, HasAim, HasComeBy, IsAimOf}
use Rattle.shore_held.specs.Logs.{LeavesByMove, LeavesHeld, LogState}
use Rattle.shore_held.specs.Moments.{AreAtOnce, IsMakingStep}

pub leads : {T L V : Type 0} {K : tail.Ghosts T} {G : disk.Ghosts L} {H : disk.Ghosts V} (t : Threads L V G H) (start : Beginning) (cut : ℕ) (kept : List LogRecord) (old later : Core T V K H) (stage : Stage)
    (anchored : Anchored) (trail : List PlainMove) (h : HasComeBy start cut kept old stage anchored trail) (plain : CheckpointedMove) (last : CheckpointedState) (held : LogState)
    → geometry_in t.handed ≡ h.geometry → t.trail ≡ trail → moves_among (plain ∷ []) ≡ t.step → t.stable ≡ held.cut + length held.stable → All (λ n. n ≤ held.cut + length held.stable) t.seen
    → IsMakingStep h later plain last → AreAtOnce cut kept (waiting_of later) (durable_of old) anchored held → (HasAim held.aim → IsAimOf stage (durable_of old) held.aim) → LeavesHeld h.geometry (size (history_in t.handed)) held t.log_later
    → t.log_now ≡ held.history → t.volume_now ≡ history_of old → t.volume_later ≡ history_of later → LeadsToMoment t h.front start.first
leads t start cut kept old later stage anchored trail h plain last held geometry trail_is step_is stable_is low step at_once aims leaves log_is now_is later_is = record {
  plain = h.plain;
  ready = h.last;
  made = h.made;
  lead = subst (λ (x : Geometry). CheckpointedMoves x start.first h.plain h.last h.made) (sym geometry) h.moves;
  are = h.are ∙ sym trail_is;
  under_way = plain;
  new = last;
  is = step_is;
  left = λ log_image volume_image left.
      let there =
      left_then cut kept old later stage anchored trail h plain last step held at_once (size (history_in t.handed)) t.seen low leaves.0 leaves.1 leaves.3 log_image volume_image
      (step.amid.each volume_image (subst (λ (x : DeviceHistory × DeviceHistory). left_since x.0 (moment x.1) volume_image) (λ i. (later_is i, now_is i)) left.1)) leaves.2 aims
      (leaves.4.each log_image (subst (λ (x : DeviceHistory). left_since t.log_later (moment x) log_image) log_is left.0)) in (
        there.0,
        subst (λ (x : Geometry × ℕ). IsMoment x.0 h.last plain last there.0 x.1 t.seen) (λ i. (sym geometry i, sym stable_is i)) there.2.moment,
        subst (λ (x : Geometry × ℕ). IsLeftThen x.0 (size (history_in t.handed)) h.front h.last last there.0 x.1 log_image volume_image) (λ i. (sym geometry i, sym stable_is i)) there.2.left,
      );
}

-- .. so they are amid a move of the anchor, which the log device makes with both locks, while the core makes no step
pub leads_amid : {T L V : Type 0} {K : tail.Ghosts T} {G : disk.Ghosts L} {H : disk.Ghosts V} (t : Threads L V G H) (start : Beginning) (cut : ℕ) (kept : List LogRecord) (core : Core T V K H) (stage : Stage)
    (anchored : Anchored) (trail : List PlainMove) (h : HasComeBy start cut kept core stage anchored trail) (held : LogState) (aim : ℕ × ℕ)
    → geometry_in t.handed ≡ h.geometry → t.trail ≡ trail → t.step ≡ [] → t.stable ≡ held.cut + length held.stable → All (λ n. n ≤ held.cut + length held.stable) t.seen
    → AreAtOnce cut kept (waiting_of core) (durable_of core) anchored held → IsAimOf stage (durable_of core) aim
    → LeavesByMove h.geometry (size (history_in t.handed)) held.anchors held.stable aim held.history t.log_later
    → t.log_now ≡ held.history → t.volume_now ≡ history_of core → t.volume_later ≡ history_of core → LeadsToMoment t h.front start.first
leads_amid t start cut kept core stage anchored trail h held aim geometry trail_is none stable_is low at_once aims leaves log_is now_is later_is =
    let step = rests cut kept core stage anchored trail h in
    record {
      plain = h.plain;
      ready = h.last;
      made = h.made;
      lead = subst (λ (x : Geometry). CheckpointedMoves x start.first h.plain h.last h.made) (sym geometry) h.moves;
      are = h.are ∙ sym trail_is;
      under_way = Goes (Tend []);
      new = h.last;
      is = sym none;
      left = λ log_image volume_image left.
          let there =
          left_amid cut kept core core stage anchored trail h (Goes (Tend [])) h.last step held at_once (size (history_in t.handed)) t.seen low leaves.0 leaves.1 leaves.3 log_image volume_image
          (step.amid.each volume_image (subst (λ (x : DeviceHistory × DeviceHistory). left_since x.0 (moment x.1) volume_image) (λ i. (later_is i, now_is i)) left.1)) leaves.2 aim aims leaves.4.0 leaves.4.1
          (leaves.4.2.each log_image (subst (λ (x : DeviceHistory). left_since t.log_later (moment x) log_image) log_is left.0)) in (
            there.0,
            subst (λ (x : Geometry × ℕ). IsMoment x.0 h.last (Goes (Tend [])) h.last there.0 x.1 t.seen) (λ i. (sym geometry i, sym stable_is i)) there.1.moment,
            subst (λ (x : Geometry × ℕ). IsLeftThen x.0 (size (history_in t.handed)) h.front h.last h.last there.0 x.1 log_image volume_image) (λ i. (sym geometry i, sym stable_is i)) there.1.left,
          );
    }

-- Both values at one moment are a moment of a manager in threads, and what a loss of power leaves of the two devices then is left by one.
use Rattle.std.proofs.Common.{◌≡◌, ◌⊎◌, inl, inr, refl, ◌≤◌, ◌+◌, ◌-◌, ◌++◌, ℕ, List, All, sym, ap, subst, ◌∙◌, append_assoc, length, length-append, take, drop, arith}
use Rattle.std.proofs.lemmas.List.{drop-drop, drop-take, length-take-le, take-append-drop, take-append-le}
use Rattle.std.proofs.Math.Seq.{drop-append_seam}
use Rattle.shore_types.specs.declared.faults.Device.TheVariants.{Log}
use Rattle.shore_disk.specs.declared.device.Disk as disk
use Rattle.shore_frames.specs.Frames.{GivesFrom}
use Rattle.shore_fronts.specs.Fronts.{log_label}
use Rattle.shore_gate.specs.Anchor.{Counts, other_of}
use Rattle.shore_gate.specs.Label.{HoldsLabel}
use Rattle.shore_gate.specs.declared.anchors.Anchor.{Anchor}
use Rattle.shore_gate.specs.declared.anchors.Slot.{Slot}
use Rattle.shore_check.specs.Stages as stages
use Rattle.shore_check.specs.declared.stage.Mark.{Mark}
use Rattle.shore_check.specs.declared.stage.Stage.{Stage}
use Rattle.shore_log.proofs.MoveLemmas.{front_counts}
use Rattle.shore_log.specs.declared.tail.Tail as tail
use Rattle.shore_log.specs.Settled.{IsLeftByMove}
use Rattle.shore_model.specs.declared.log_records.LogRecord.{LogRecord}
use Rattle.laws_checkpoints.specs.Checkpoints.{Anchored}
use Rattle.laws_images.specs.Moments.{ShowsLeft}
use Rattle.laws_images.specs.StandsBehind.{anchored_by, kept_behind}
use Rattle.laws_runs.specs.CheckpointedStates.{MayBeAnchored}
use Rattle.laws_runs.specs.CheckpointSteps.{CheckpointedMove, CheckpointedState}
use Rattle.laws_threads.specs.Amid.{IsLeftThen, IsMoment}
use Rattle.shore_core.specs.declared.core_calls.Core.{Core}
use Rattle.shore_core.specs.Cores.{durable_of, waiting_of}
use Rattle.shore_world.proofs.MovedLemmas.{front_stays}
use Rattle.shore_world.specs.EventMoves.{PlainMove}
use Rattle.shore_held.specs.Comings.{Beginning, HasAim, HasComeBy, IsAimOf}
use Rattle.shore_world.specs.Labels.{IsLogFront}
use Rattle.shore_held.specs.Logs.{GivesHeld, IsLeftOfHeld, IsNextOf, LogState}
use Rattle.shore_held.proofs.KeptLogs.{label_amid}
use Rattle.shore_held.specs.Moments.{AreAtOnce, IsMakingStep}

module _ {T V : Type 0} {K : tail.Ghosts T} {H : disk.Ghosts V} {start : Beginning} (cut : ℕ) (kept : List LogRecord) (old later : Core T V K H) (stage : Stage) (anchored : Anchored) (trail : List PlainMove)
    (h : HasComeBy start cut kept old stage anchored trail) (plain : CheckpointedMove) (last : CheckpointedState) (step : IsMakingStep h later plain last)
    (held : LogState) (at_once : AreAtOnce cut kept (waiting_of later) (durable_of old) anchored held) where
  -- all records before those of the log device are cut off
  abbrev all_gone : List LogRecord
  all_gone = take cut h.before ++ at_once.gone

  all_long : length all_gone ≡ held.cut
  all_long = omega (arith, length-append (take cut h.before) at_once.gone, length-take-le cut h.before h.cut_off, at_once.cut_off)

  -- how far the log is forced
  abbrev pub forced_to : ℕ
  forced_to = held.cut + length held.stable

  log_is : last.store.store.log ≡ all_gone ++ (held.list ++ at_once.coming)
  log_is =
      step.stored.log ∙ step.log ∙ ap (λ l. l ++ waiting_of later) (sym (take-append-drop cut h.before) ∙ ap (λ l. take cut h.before ++ l) h.kept_is)
      ∙ append_assoc (take cut h.before) kept (waiting_of later) ∙ ap (λ l. take cut h.before ++ l) at_once.parts
      ∙ sym (append_assoc (take cut h.before) at_once.gone (held.list ++ at_once.coming))

  within : length held.stable ≤ length held.list
  within =
      let parts = sym (take-append-drop (length held.stable) held.list) in
      omega (arith, ap length at_once.stable_first, ap length parts, length-append (take (length held.stable) held.list) (drop (length held.stable) held.list))

  log_long : length last.store.store.log ≡ held.cut + (length held.list + length at_once.coming)
  log_long = omega (arith, ap length log_is, length-append all_gone (held.list ++ at_once.coming), length-append held.list at_once.coming, all_long)

  -- what is kept of so many records behind an anchor that is no lower
  kept_from : (n : ℕ) → n ≤ length held.list → (next : Anchor) → held.anchors.anchor.tail ≤ next.tail
      → kept_behind next (take (held.cut + n) last.store.store.log) ≡ drop (next.tail - held.anchors.anchor.tail) (take n held.list)
  kept_from n most next rises =
      let first = at_once.first in
      let further : next.tail - 1 ≡ held.cut + (next.tail - held.anchors.anchor.tail) = omega (arith, first, rises) in
      ap (λ m. drop m (take (held.cut + n) last.store.store.log)) further ∙ sym (drop-drop (next.tail - held.anchors.anchor.tail) held.cut (take (held.cut + n) last.store.store.log))
      ∙ ap (drop (next.tail - held.anchors.anchor.tail)) (drop-take held.cut n last.store.store.log
      ∙ ap (take n) (ap (drop held.cut) log_is ∙ ap (λ m. drop m (all_gone ++ (held.list ++ at_once.coming))) (sym all_long)
      ∙ drop-append_seam all_gone (held.list ++ at_once.coming))
      ∙ take-append-le n held.list at_once.coming most)

  -- a moment, and what is left then, of the core and of the volume, and of the log device behind the anchor that counts in that
  pub record IsLeftAt (log_bytes : ℕ) (seen : List ℕ) (anchor : Anchor) (log_left volume_left : List ℕ) : Type 0 where
    pub moment : IsMoment h.geometry h.last plain last anchor forced_to seen
    pub left : IsLeftThen h.geometry log_bytes h.front h.last last anchor forced_to log_left volume_left

  module _ (log_bytes : ℕ) (seen : List ℕ) (low : All (λ n. n ≤ forced_to) seen) (front : List ℕ) (labelled : IsLogFront h.geometry log_bytes front) (counts : Counts front held.anchors.slot held.anchors.anchor)
      (log_left volume_left : List ℕ) (shows : ShowsLeft h.geometry h.front h.last.store.store volume_left) where
    -- of any anchor that may count
    left_with : (anchor : Anchor) → MayBeAnchored last.store (anchored_by anchor) → held.anchors.anchor.tail ≤ anchor.tail → take 512 log_left ≡ take 512 front → (slot : Slot) → Counts log_left slot anchor
        → (n : ℕ) → length held.stable ≤ n → n ≤ length held.list → GivesFrom anchor.tail anchor.tail_place (drop (anchor.tail - held.anchors.anchor.tail) (take n held.list)) log_left
        → IsLeftAt log_bytes seen anchor log_left volume_left
    left_with anchor may rises same_label slot counts_there n least most gives = record {
      moment = record {
        step = step.steps;
        told =
            let known = at_once.known_is in
            omega (arith, known, step.learns_nothing, h.over.kept.stored.durable, h.is_in.beside.parts.durable_is);
        sent = omega (arith, within, log_long);
        seen_stable = low;
        anchored = may;
      };
      left = record {
        has = record {
          label = subst (λ (l : List ℕ). HoldsLabel Log log_bytes l (log_label h.geometry log_bytes)) (sym same_label) labelled.label;
          slot = slot;
          counts = counts_there;
          long = labelled.long;
        };
        gives = (
          held.cut + n,
          omega (arith, least),
          omega (arith, most, log_long),
          subst (λ rs. GivesFrom anchor.tail anchor.tail_place rs log_left) (sym (kept_from n most anchor rises)) gives,
        );
        shows = shows;
      };
    }

    -- the anchor is the same
    left_same : take 512 log_left ≡ take 512 front → (slot : Slot) → Counts log_left slot held.anchors.anchor → (n : ℕ) → length held.stable ≤ n → n ≤ length held.list
        → GivesFrom held.anchors.anchor.tail held.anchors.anchor.tail_place (take n held.list) log_left → IsLeftAt log_bytes seen held.anchors.anchor log_left volume_left
    left_same same_label slot counts_there n least most gives =
        let none : 0 ≡ held.anchors.anchor.tail - held.anchors.anchor.tail = omega arith in
        left_with held.anchors.anchor (inl (sym (step.anchor_stays ∙ h.anchored_is ∙ at_once.one_anchor))) (omega arith) same_label slot counts_there n least most
        (subst (λ (k : ℕ). GivesFrom held.anchors.anchor.tail held.anchors.anchor.tail_place (drop k (take n held.list)) log_left) none gives)

    pub left_prefix : GivesHeld held front log_left → IsLeftAt log_bytes seen held.anchors.anchor log_left volume_left
    left_prefix forced =
        left_same (front_stays log_left front forced.3.0) held.anchors.slot (front_counts held.anchors.slot held.anchors.anchor log_left front forced.3.0 counts) forced.0 forced.1
        (let most = forced.2 in omega (arith, most)) forced.3.1

    -- the next anchor is one that the core's checkpoint moves to
    may_be_next : (aim : ℕ × ℕ) → IsAimOf stage (durable_of old) aim → (next : Anchor) → IsNextOf held.anchors aim next → MayBeAnchored last.store (anchored_by next)
    may_be_next aim a next nx =
        let is = subst (λ (t : Stage). stages.IsAt t h.last.store.stage) a.at h.at in
        let number : a.named.number ≡ is.1 = is.3.number in
        let durable_is = h.over.kept.stored.durable ∙ h.is_in.beside.parts.durable_is in
        let logged = a.logged in
        let rises = nx.rises in
        let below = nx.below in
        inr (
          is.0,
          is.1,
          step.stage_stays ∙ is.2,
          omega (arith, logged, number, durable_is, step.learns_nothing),
          nx.checkpoint ∙ ap (λ (x : ℕ × ℕ). x.0) a.is ∙ ap (λ (m : Mark). m.checkpoint) is.3.mark,
          omega (arith, rises, ap (λ (x : Anchored). x.tail) (step.anchor_stays ∙ h.anchored_is ∙ at_once.one_anchor)),
          omega (arith, below, ap (λ (x : ℕ × ℕ). x.1) a.is, ap (λ (m : Mark). m.tail) is.3.mark),
        )

    -- amid a move, or behind one that has failed, the anchor counts or the next one
    pub left_amid : length front ≡ 4096 → (aim : ℕ × ℕ) → IsAimOf stage (durable_of old) aim → (next : Anchor) → IsNextOf held.anchors aim next → IsLeftByMove held.anchors next front held.stable log_left
        → (anchor : Anchor) × IsLeftAt log_bytes seen anchor log_left volume_left
    left_amid long aim a next nx amid =
        let same_label = label_amid held.anchors next front held.stable log_left long amid in
        let first = at_once.stable_first in
        elim amid.gives [
          | inl was ↦ (
            held.anchors.anchor,
            left_same same_label held.anchors.slot was.0 (length held.stable) (omega arith) within
                (subst (λ rs. GivesFrom held.anchors.anchor.tail held.anchors.anchor.tail_place rs log_left) first was.1),
          )
          | inr new ↦ (
            next,
            left_with next (may_be_next aim a next nx) nx.rises same_label (other_of held.anchors.slot) new.0 (length held.stable) (omega arith) within
                (subst (λ rs. GivesFrom next.tail next.tail_place (drop (next.tail - held.anchors.anchor.tail) rs) log_left) first new.1),
          )
        ]

    -- whatever is left of a log device that makes a force, or no call
    pub left_then : length front ≡ 4096 → (HasAim held.aim → IsAimOf stage (durable_of old) held.aim) → IsLeftOfHeld held front log_left
        → (anchor : Anchor) × ((anchor ≡ held.anchors.anchor) ⊎ HasAim held.aim) × IsLeftAt log_bytes seen anchor log_left volume_left
    left_then long aims (inl forced) = (held.anchors.anchor, inl refl, left_prefix forced)
    left_then long aims (inr (torn, (next, nx, amid))) = let there = left_amid long held.aim (aims torn) next nx amid in (there.0, inr torn, there.1)

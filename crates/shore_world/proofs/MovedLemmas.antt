-- The front of a log behind a move of its anchor, and the anchor that a move makes.
use Rattle.std.proofs.Common.{◌≡◌, inl, inr, ◌≤◌, ◌-◌, ◌+◌, ◌++◌, ◌∷◌, [], ℕ, true, false, cond, List, length, append_assoc, take, drop, sym, ap, subst, ◌∙◌, arith}
use Rattle.std.specs.Prelude.{nat_le}
use Rattle.std.proofs.lemmas.List.{drop-drop, take-append-le, take-take, drop-take, length-take-le}
use Rattle.shore_disk.specs.Device.{overwritten}
use Rattle.shore_disk.specs.declared.device.Disk.{Ghosts}
use Rattle.shore_gate.specs.Anchor.{offset_of, other_of}
use Rattle.shore_gate.specs.declared.anchors.Anchor.{Anchor}
use Rattle.shore_gate.specs.declared.anchors.Slot.{Slot}
use Rattle.shore_gate.specs.declared.anchors.Slot.TheVariants.{A, B}
use Rattle.shore_frames.specs.declared.reading.FrameAt.{FrameAt}
use Rattle.shore_log.specs.Indexes.{AreListed, first_in, frame_with}
use Rattle.shore_log.specs.Settled.{IsAnchored, IsLeftByMove, stable}
use Rattle.shore_log.proofs.CutLemmas.{listed_of, with_below}
use Rattle.shore_model.specs.declared.step.Step.{Step}
use Rattle.shore_model.specs.declared.log_records.LogRecord.{LogRecord}
use Rattle.laws_calls.specs.States.{State}
use Rattle.laws_checkpoints.specs.Checkpoints.{Anchored, cut_point}
use Rattle.laws_checkpoints.specs.CheckpointedStores.{AnchorLogged}
use Rattle.laws_checkpoints.specs.StoresInOrder.{IsInOrder, IsStageRight}
use Rattle.laws_runs.specs.CheckpointSteps.{CheckpointedState, IsNextAnchor}
use Rattle.laws_images.specs.StandsBehind.{anchored_by, kept_behind}
use Rattle.shore_check.specs.Stages as stages
use Rattle.shore_check.specs.declared.stage.Stage.{Stage}
use Rattle.shore_world.specs.declared.world.World.{World}
use Rattle.shore_world.specs.Worlds.{IsFrontBehind, IsNextIn, anchor_in, anchors_in, cut_in, durable_in}
use Rattle.shore_world.proofs.LogParts.{IsBesideOf, log_of}
use Rattle.shore_world.proofs.WorldLemmas.{stable_is}

-- ---- the label

take_512 : (xs : List ℕ) → take 512 (take 4096 xs) ≡ take 512 xs
take_512 xs = take-take 512 4096 xs (omega arith)

-- beside the slots a front is as it was
over_at : (front bytes : List ℕ) (at : ℕ) → 512 ≤ at → at ≤ length front → take 512 (overwritten front at bytes) ≡ take 512 front
over_at front bytes at low within =
    let long = length-take-le at front within in
    ap (take 512) (append_assoc (take at front) bytes (drop (at + length bytes) front))
    ∙ take-append-le 512 (take at front) (bytes ++ drop (at + length bytes) front) (omega (arith, long, low)) ∙ take-take 512 at front low

over_label : (front bytes : List ℕ) (slot : Slot) → length front ≡ 4096 → take 512 (overwritten front (offset_of slot) bytes) ≡ take 512 front
over_label front bytes A long = over_at front bytes 1024 (omega arith) (omega (arith, long))
over_label front bytes B long = over_at front bytes 2048 (omega arith) (omega (arith, long))

pub front_stays : (c front : List ℕ) → take 4096 c ≡ front → take 512 c ≡ take 512 front
front_stays c front is = sym (take_512 c) ∙ ap (take 512) is

module _ {L V : Type 0} {G : Ghosts L} {H : Ghosts V} where
  pub same_label : (old : World L V G H) (step : Step) (new : World L V G H) (front behind : List ℕ) → IsAnchored old.log front → IsFrontBehind old step new front behind → take 512 behind ≡ take 512 front
  same_label old step new front behind anchored (inl same) = ap (take 512) same.1
  same_label old step new front behind anchored (inr went) = ap (take 512) went.1 ∙ over_label front _ (other_of (anchors_in old).slot) anchored.long

  pub behind_next : (w : World L V G H) (next : Anchor) (front c : List ℕ) → IsAnchored w.log front → IsLeftByMove (anchors_in w) next front (stable w.log) c → take 512 c ≡ take 512 front
  behind_next w next front c anchored amid =
      sym (take_512 c) ∙ ap (take 512) amid.beside.is ∙ over_label front amid.bytes (other_of (anchors_in w).slot) anchored.long

-- ---- the next anchor

-- the frame with a record is no earlier than those before it
pub with_above : (fs : List FrameAt) (head next number : ℕ) (at : FrameAt) → AreListed head next fs → at.first ≤ first_in next fs → at.first ≤ (frame_with number at fs).first
with_above [] head next number at listed low = omega arith
with_above (f ∷ fs) head next number at listed low =
    elim (nat_le f.first number) as (λ b. at.first ≤ (cond b (frame_with number f fs) at).first) [
      | true ↦ let later = with_above fs head next number f listed.3 (omega (arith, listed.0)) in omega (arith, low, later)
      | false ↦ omega arith
    ]

module _ {L V : Type 0} {G : Ghosts L} {H : Ghosts V} where
  -- it is the one that a step over plain data moves to, and its tail is no lower
  pub record ReachesNext (w : World L V G H) (next : Anchor) (m : CheckpointedState) : Type 0 where
    pub may : IsNextAnchor m.store (anchored_by next)
    pub rises : (anchor_in w).tail ≤ next.tail

  pub next_may_be : (w : World L V G H) (next : Anchor) → IsNextIn w next → (m : CheckpointedState) → IsInOrder m.store → stages.IsAt w.stage m.store.stage → m.store.anchored ≡ anchored_by (anchor_in w)
      → m.store.store.durable ≡ durable_in w → ReachesNext w next m
  next_may_be w next is m order at anchored durable =
      let named = subst (λ (t : Stage). stages.IsAt t m.store.stage) is.at at in
      let c = named.0 in
      let n = named.1 in
      let logged : m.store.stage ≡ AnchorLogged c n = named.2 in
      let mark = named.3.mark in
      let pending = (subst (IsStageRight m.store) logged order.stage_right).0 in
      let tail : is.named.mark.tail ≡ cut_point c = ap (λ x. x.tail) mark in
      let number = named.3.number in
      let old : m.store.anchored.tail ≡ (anchor_in w).tail = ap (λ (a : Anchored). a.tail) anchored in
      let first = w.log.anchored.0 in
      let at_tail : w.log.tail.first ≤ is.named.mark.tail = omega (arith, tail, pending.no_lower, old, first) in
      let frame = frame_with is.named.mark.tail w.log.tail w.log.frames.items in
      let below : frame.first ≤ is.named.mark.tail = with_below w.log.frames.items is.named.mark.tail w.log.tail at_tail in
      let above : w.log.tail.first ≤ frame.first =
      with_above w.log.frames.items w.log.head (w.log.tail.first + w.log.forced) is.named.mark.tail w.log.tail (listed_of w.log.head (w.log.tail.first + w.log.forced) w.log.frames.items w.log.listed)
      (omega (arith, w.log.begins.0)) in
      let is_frame : next.tail ≡ frame.first = ap (λ (a : Anchor). a.tail) is.anchor in
      let checkpoint : next.checkpoint ≡ c.begin = ap (λ (a : Anchor). a.checkpoint) is.anchor ∙ ap (λ x. x.checkpoint) mark in
      record {
        may = (c, n, logged, omega (arith, is.durable, number, durable), checkpoint, omega (arith, old, first, above, is_frame), omega (arith, is_frame, below, tail));
        rises = omega (arith, first, above, is_frame);
      }

  -- what is kept behind it of all that is durable
  pub kept_further : (w : World L V G H) (s : State) → IsBesideOf w s → (log : List LogRecord) → log ≡ s.log → (durable : ℕ) → durable ≡ cut_in w + length (stable w.log) → (next : Anchor)
      → (anchor_in w).tail ≤ next.tail → kept_behind next (take durable log) ≡ drop (next.tail - (anchor_in w).tail) (stable w.log)
  kept_further w s is log same durable durable_is next rises =
      let cut = cut_in w in
      let forced = length (stable w.log) in
      let first = w.log.anchored.0 in
      let further : next.tail - 1 ≡ cut + (next.tail - (anchor_in w).tail) = omega (arith, first, rises, w.log.gone_below) in
      ap (λ n. drop (next.tail - 1) (take n log)) durable_is ∙ ap (λ n. drop n (take (cut + forced) log)) further
      ∙ sym (drop-drop (next.tail - (anchor_in w).tail) cut (take (cut + forced) log))
      ∙ ap (drop (next.tail - (anchor_in w).tail)) (drop-take cut forced log ∙ ap (λ (l : List LogRecord). take forced (drop cut l)) same ∙ ap (take forced) (log_of w s is).kept ∙ stable_is w)

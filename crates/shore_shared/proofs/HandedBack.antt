-- What a loss of power leaves of the devices that a manager for threads handed back.
use Rattle.std.proofs.Common.{◌≡◌, ◌⊎◌, ◌≤◌, ◌+◌, ◌-◌, ◌++◌, ℕ, List, All, [], ◌∷◌, inl, inr, refl, sym, subst, arith, length, map, max, take}
use Rattle.std.proofs.lemmas.List.Elements.{All-cons, All-head, All-nil, All-tail, All-weaker}
use Rattle.shore_types.specs.declared.layout.Geometry.{Geometry}
use Rattle.shore_types.specs.declared.layout.TheConstants.{LOG_FRONT_BYTES}
use Rattle.shore_disk.specs.Device.{Call, DeviceHistory, LeftAfter, LeftSince, left_since, may_leave, moment}
use Rattle.shore_disk.specs.declared.device.Disk as disk
use Rattle.shore_fronts.specs.Volumes.{volume_bytes}
use Rattle.shore_gate.specs.declared.anchors.Anchor.{Anchor}
use Rattle.shore_check.specs.declared.stage.Stage.{Stage}
use Rattle.shore_log.specs.declared.tail.Tail as tail
use Rattle.shore_model.specs.declared.log_records.LogRecord.{LogRecord}
use Rattle.shore_model.specs.declared.step.Step.{Step}
use Rattle.laws_lives.specs.Pages.{LoggedPages}
use Rattle.laws_checkpoints.specs.Checkpoints.{Anchored}
use Rattle.laws_images.proofs.LeftBehind.{StandBehind, stand_behind}
use Rattle.laws_images.specs.Moments.{ShowsLeft}
use Rattle.laws_images.specs.StandsBehind.{GivesKept, StandsForBehind}
use Rattle.laws_runs.specs.CheckpointSteps.{CheckpointedState, Goes}
use Rattle.laws_runs.specs.CheckpointedStates.{IsAtCheckpoints}
use Rattle.laws_runs.specs.StoredRuns.{Tend}
use Rattle.laws_threads.specs.Amid.{IsLeftThen, IsMoment}
use Rattle.shore_core.specs.declared.core_calls.Core.{Core}
use Rattle.shore_core.specs.Cores.{durable_of, history_of, waiting_of}
use Rattle.shore_held.proofs.Comings.{under_way}
use Rattle.shore_held.proofs.Moments.{IsLeftAt, left_then}
use Rattle.shore_held.proofs.Steps.{rests}
use Rattle.shore_held.specs.Comings.{Beginning, HasAim, HasComeBy, IsAimOf}
use Rattle.shore_held.specs.Logs.{LeavesHeld, LogState}
use Rattle.shore_held.specs.Moments.{AreAtOnce, IsMakingStep}
use Rattle.shore_held.specs.Trails.{moves_of}
use Rattle.shore_held.specs.declared.asked.Asked.{Asked}
use Rattle.shore_shared.specs.HandedBack.{AreHandedBack}

-- what is left now is left since now
since_calls : (first : List ℕ) (calls : List Call) (c : List ℕ) → LeftAfter first calls c → LeftSince first calls (length calls) c
since_calls first [] c left = left
since_calls first (call ∷ older) c left = inl left

left_now : (h : DeviceHistory) (c : List ℕ) → may_leave h c → left_since h (moment h) c
left_now h c left = since_calls h.first h.calls c left

-- .. and what is left since now is left now
calls_since : (first : List ℕ) (calls : List Call) (c : List ℕ) → LeftSince first calls (length calls) c → LeftAfter first calls c
calls_since first [] c left = left
calls_since first (call ∷ older) c (inl left) = left
calls_since first (call ∷ older) c (inr before) = let high = before.0 in absurd (omega (arith, high))

pub now_left : (h : DeviceHistory) (c : List ℕ) → left_since h (moment h) c → may_leave h c
now_left h c left = calls_since h.first h.calls c left

module _ {T V : Type 0} {K : tail.Ghosts T} {H : disk.Ghosts V} {start : Beginning} (cut : ℕ) (kept : List LogRecord) (core : Core T V K H) (stage : Stage) (anchored : Anchored) (asked : List (Asked × ℕ))
    (stepped : List (Step × ℕ)) (h : HasComeBy start cut kept core stage anchored (moves_of asked stepped)) (held : LogState) (at_once : AreAtOnce cut kept (waiting_of core) (durable_of core) anchored held)
    (numbers : List ℕ) (low : All (λ n. n ≤ held.cut + length held.stable) numbers) (log_bytes : ℕ) (bytes : h.ring_bytes ≡ log_bytes - LOG_FRONT_BYTES)
    (forced : durable_of core ≡ held.cut + length held.stable) (aims : HasAim held.aim → IsAimOf stage (durable_of core) held.aim) (leaves : LeavesHeld h.geometry log_bytes held held.history) where
  step : IsMakingStep h core (Goes (Tend [])) h.last
  step = rests cut kept core stage anchored (moves_of asked stepped) h

  is_at : IsAtCheckpoints h.geometry (log_bytes - LOG_FRONT_BYTES) start.opening start.found (start.earlier ++ h.made) h.last
  is_at = subst (λ n. IsAtCheckpoints h.geometry n start.opening start.found (start.earlier ++ h.made) h.last) bytes (under_way cut kept core stage anchored (moves_of asked stepped) h)

  durable : h.last.store.store.durable ≡ held.cut + length held.stable
  durable = omega (arith, h.over.kept.stored.durable, h.is_in.beside.parts.durable_is, forced)

  module _ (log_left volume_left : List ℕ) (log_may : may_leave held.history log_left) (volume_may : may_leave (history_of core) volume_left) where
    there : (anchor : Anchor) × ((anchor ≡ held.anchors.anchor) ⊎ HasAim held.aim)
        × IsLeftAt cut kept core core stage anchored (moves_of asked stepped) h (Goes (Tend [])) h.last step held at_once log_bytes numbers anchor log_left volume_left
    there =
        left_then cut kept core core stage anchored (moves_of asked stepped) h (Goes (Tend [])) h.last step held at_once log_bytes numbers low leaves.0 leaves.1 leaves.3 log_left volume_left
        (h.volume volume_left volume_may) leaves.2 aims (leaves.4.each log_left (left_now held.history log_left log_may))

    given : GivesKept there.0 h.last.store.store.durable h.last.store.store.log log_left
    given = let gives = there.2.left.gives in (gives.0, (let least = gives.1 in omega (arith, least, durable)), gives.2, gives.3)

    stands : StandBehind h.geometry log_bytes (volume_bytes h.geometry) start.opening start.found (start.earlier ++ h.made) h.last is_at h.front h.labelled.label there.0 log_left volume_left
    stands =
        stand_behind h.geometry log_bytes (volume_bytes h.geometry) start.opening start.found (start.earlier ++ h.made) h.last is_at h.front h.labelled.label there.0 there.2.moment.anchored log_left volume_left
        there.2.left.has given (subst (λ (f : List ℕ). ShowsLeft h.geometry f h.last.store.store volume_left) (sym h.labelled.whole) there.2.left.shows)

    reached : (n : ℕ) → n ≤ held.cut + length held.stable → n ≤ stands.survive
    reached n most = let least = stands.lost.least in omega (arith, most, least, durable)

  pub handed_back : AreHandedBack start asked stepped h.geometry log_bytes (held.cut + length held.stable) numbers held.history (history_of core)
  handed_back = record {
    plain = h.plain;
    made = h.made;
    last = h.last;
    moves = h.moves;
    are = h.are;
    stand = λ log_left volume_left log_may volume_may.
        let s = stands log_left volume_left log_may volume_may in (
          (there log_left volume_left log_may volume_may).0,
          s.survive,
          s.pages,
          s.lost.most,
          All-weaker (λ n. n ≤ held.cut + length held.stable) (λ n. n ≤ s.survive) (reached log_left volume_left log_may volume_may) numbers low,
          s.stands,
        );
    left = λ log_left volume_left log_may volume_may.
        let t = there log_left volume_left log_may volume_may in (
          t.0,
          t.2.moment,
          subst (λ (f : List ℕ). IsLeftThen h.geometry log_bytes f h.last h.last t.0 (held.cut + length held.stable) log_left volume_left) h.is_front t.2.left,
        );
  }

-- for other numbers, where what is no less than those is no less than these
pub by_others : (start : Beginning) (asked : List (Asked × ℕ)) (stepped : List (Step × ℕ)) (g : Geometry) (log_bytes stable : ℕ) (numbers others : List ℕ) (log volume : DeviceHistory)
    → ((m : ℕ) → All (λ n. n ≤ m) numbers → All (λ n. n ≤ m) others)
    → AreHandedBack start asked stepped g log_bytes stable numbers log volume → AreHandedBack start asked stepped g log_bytes stable others log volume
by_others start asked stepped g log_bytes stable numbers others log volume lower back = record {
  plain = back.plain;
  made = back.made;
  last = back.last;
  moves = back.moves;
  are = back.are;
  stand = λ log_left volume_left log_may volume_may.
      let s = back.stand log_left volume_left log_may volume_may in
      (s.0, s.1, s.2, s.3, lower s.1 s.4, s.5);
  left = λ log_left volume_left log_may volume_may.
      let l = back.left log_left volume_left log_may volume_may in (
        l.0,
        record { step = l.1.step; told = l.1.told; sent = l.1.sent; seen_stable = lower stable l.1.seen_stable; anchored = l.1.anchored },
        l.2,
      );
}

module _ {A : Type 0} (f : A → ℕ) where
  -- the greatest number of all
  abbrev pub greatest : List A → ℕ
  greatest [] = 0
  greatest (x ∷ xs) = max (f x) (greatest xs)

  pub is_greatest : (xs : List A) → All (λ x. f x ≤ greatest xs) xs
  is_greatest [] = All-nil (λ x. f x ≤ 0)
  is_greatest (x ∷ xs) =
      All-cons (λ y. f y ≤ max (f x) (greatest xs)) x xs (omega arith)
      (All-weaker (λ y. f y ≤ greatest xs) (λ y. f y ≤ max (f x) (greatest xs)) (λ y is. omega (arith, is)) xs (is_greatest xs))

  greatest_below : (m : ℕ) (xs : List A) → All (λ n. n ≤ m) (map f xs) → greatest xs ≤ m
  greatest_below m [] all = omega arith
  greatest_below m (x ∷ xs) all = omega (arith, All-head (λ n. n ≤ m) (f x) (map f xs) all, greatest_below m xs (All-tail (λ n. n ≤ m) (f x) (map f xs) all))

  -- it stands for all of them
  pub by_greatest : (number : ℕ) (xs : List A) (m : ℕ) → All (λ n. n ≤ m) (number ∷ map f xs) → All (λ n. n ≤ m) (number ∷ greatest xs ∷ [])
  by_greatest number xs m all =
      All-cons (λ n. n ≤ m) number (greatest xs ∷ []) (All-head (λ n. n ≤ m) number (map f xs) all)
      (All-cons (λ n. n ≤ m) (greatest xs) [] (greatest_below m xs (All-tail (λ n. n ≤ m) number (map f xs) all)) (All-nil (λ n. n ≤ m)))

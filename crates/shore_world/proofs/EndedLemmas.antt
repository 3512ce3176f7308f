-- What a process leaves that ends with no loss of power is among what a loss of power could have left.
use Rattle.std.proofs.Common.{◌≡◌, ◌≤◌, inl, inr, ℕ, List, [], ◌∷◌, ◌++◌, sym, ◌∙◌, ap, subst, arith, length, length-append}
use Rattle.shore_disk.specs.Device.{Call, DeviceHistory, IsLater, LeftAfter, LeftSince, Torn, left_since, may_leave, moment, noted, size, wrote}
use Rattle.shore_disk.specs.declared.device.Disk.{Ghosts}
use Rattle.shore_types.specs.declared.layout.Geometry.{Geometry}
use Rattle.shore_gate.specs.declared.anchors.Anchor.{Anchor}
use Rattle.laws_images.specs.Moments.{IsLostAlong, Moment}
use Rattle.laws_images.specs.MomentsBehind.{PathBehind, begun_behind}
use Rattle.shore_world.specs.declared.world.World.{World}
use Rattle.shore_world.specs.Crashes.{AreEnded, AreLeft, IsEndedBetween}
use Rattle.shore_world.specs.Managers.{AreFound}
use Rattle.shore_world.specs.Opens.{AreEndedInOpen, IsEndedAlong, LeftByOpen}
use Rattle.shore_world.specs.Worlds.{history_in, volume_history_in}

-- ---- one device

-- what is left now is left since any moment
now_since : (bytes : List ℕ) (calls : List Call) (t : ℕ) (c : List ℕ) → LeftAfter bytes calls c → LeftSince bytes calls t c
now_since bytes [] t c left = left
now_since bytes (call ∷ older) t c left = inl left

left_on : (first : List ℕ) (more calls : List Call) (t : ℕ) (c : List ℕ) → t ≤ length calls → LeftAfter first calls c → LeftSince first (more ++ calls) t c
left_on first [] calls t c le left = now_since first calls t c left
left_on first (call ∷ more) calls t c le left = inr (omega (arith, le, length-append more calls), left_on first more calls t c le left)

-- what is left at some moment is left since an earlier one
left_later : (t : ℕ) (mid new : DeviceHistory) → t ≤ moment mid → IsLater mid new → (c : List ℕ) → may_leave mid c → left_since new t c
left_later t mid new le later c left = subst (λ (h : DeviceHistory). left_since h t c) (sym later.1) (left_on mid.first later.0 mid.calls t c le left)

no_earlier : (old new : DeviceHistory) → IsLater old new → moment old ≤ moment new
no_earlier old new later = omega (arith, ap (λ (h : DeviceHistory). length h.calls) later.1, length-append later.0 old.calls)

pub ended_left : (old new now : DeviceHistory) → IsEndedBetween old new now → (c : List ℕ) → may_leave now c → left_since new (moment old) c
ended_left old new now (inl (since, on)) c left = left_later (moment old) now new (no_earlier old now since) on c left
ended_left old new now (inr (before, at, bytes, torn, since, on, long, is)) c left =
    let earlier = no_earlier old before since in
    let of_torn : may_leave (noted before (wrote at torn)) c = subst (λ (h : DeviceHistory). may_leave h c) is left in
    left_later (moment old) (noted before (wrote at bytes)) new (omega (arith, earlier)) on c (of_torn.0, of_torn.1, subst (λ n. Torn at n of_torn.0 c) long of_torn.2)

as_long : (old new : DeviceHistory) → IsLater old new → size new ≡ size old
as_long old new later = ap size later.1

pub ended_long : (old new now : DeviceHistory) → IsEndedBetween old new now → size now ≡ size old
ended_long old new now (inl (since, on)) = as_long old now since
ended_long old new now (inr (before, at, bytes, torn, since, on, long, is)) = ap size is ∙ as_long old before since

-- ---- both

module _ {L V : Type 0} {G : Ghosts L} {H : Ghosts V} (w : World L V G H) (log volume : DeviceHistory) where
  ended_sizes : AreEnded w log volume → (size log ≡ size (history_in w)) × (size volume ≡ size (volume_history_in w))
  ended_sizes (inl now) = (ap size now.0, ap size now.1)
  ended_sizes (inr (inl (e, step, later, one, ended))) = (ended_long (history_in w) (history_in later) log ended.0, ended_long (volume_history_in w) (volume_history_in later) volume ended.1)
  ended_sizes (inr (inr (later, how, ended))) = (ended_long (history_in w) (history_in later) log ended.0, ended_long (volume_history_in w) (volume_history_in later) volume ended.1)

  ended_leaves : AreEnded w log volume → (c d : List ℕ) → may_leave log c → may_leave volume d → AreLeft w c d
  ended_leaves (inl now) c d of_log of_volume = inl (subst (λ (h : DeviceHistory). may_leave h c) now.0 of_log, subst (λ (h : DeviceHistory). may_leave h d) now.1 of_volume)
  ended_leaves (inr (inl (e, step, later, one, ended))) c d of_log of_volume = inr (inl (
    e,
    step,
    later,
    one,
    (ended_left (history_in w) (history_in later) log ended.0 c of_log, ended_left (volume_history_in w) (volume_history_in later) volume ended.1 d of_volume),
  ))
  ended_leaves (inr (inr (later, how, ended))) c d of_log of_volume = inr (inr (
    later,
    how,
    (ended_left (history_in w) (history_in later) log ended.0 c of_log, ended_left (volume_history_in w) (volume_history_in later) volume ended.1 d of_volume),
  ))

  pub ended_found : AreEnded w log volume → AreFound (size (history_in w)) (size (volume_history_in w)) (AreLeft w) log volume
  ended_found ended = record { lengths = ended_sizes ended; among = ended_leaves ended }

-- ---- an open

-- power lost at its last moment is lost on its way
pub lost_at_last : (g : Geometry) (of_log_front of_front : List ℕ) (anchor : Anchor) (begun : Moment) (moments : List Moment) (last : Moment)
    → PathBehind g of_log_front of_front anchor begun moments last → (c d : List ℕ) → may_leave last.log c → may_leave last.volume d → IsLostAlong begun moments c d
lost_at_last g log_f front_f anchor begun [] last path c d of_log of_volume =
    let log_left = subst (λ (m : Moment). may_leave m.log c) path.0 of_log in
    let volume_left = subst (λ (m : Moment). may_leave m.volume d) path.0 of_volume in
    (now_since begun.log.first begun.log.calls (moment begun.log) c log_left, now_since begun.volume.first begun.volume.calls (moment begun.volume) d volume_left)
lost_at_last g log_f front_f anchor begun (next ∷ later) last path c d of_log of_volume =
    inr (lost_at_last g log_f front_f anchor next later last path.1 c d of_log of_volume)

ended_along : (first : Moment) (moments : List Moment) (log volume : DeviceHistory) → IsEndedAlong first moments log volume → (c d : List ℕ) → may_leave log c → may_leave volume d
    → IsLostAlong first moments c d
ended_along first [] log volume ended c d of_log of_volume =
    (ended_left first.log first.log log ended.0 c of_log, ended_left first.volume first.volume volume ended.1 d of_volume)
ended_along first (next ∷ later) log volume (inl here) c d of_log of_volume =
    inl (ended_left first.log next.log log here.0 c of_log, ended_left first.volume next.volume volume here.1 d of_volume)
ended_along first (next ∷ later) log volume (inr on) c d of_log of_volume = inr (ended_along next later log volume on c d of_log of_volume)

pub ended_in_open : (log volume log_now volume_now : DeviceHistory) → AreEndedInOpen log volume log_now volume_now → (c d : List ℕ) → may_leave log_now c → may_leave volume_now d
    → LeftByOpen log volume c d
ended_in_open log volume log_now volume_now ended c d of_log of_volume g anchor rs pages stood = elim (ended g anchor rs pages stood) [
  | inl (log_later, volume_later, log_before, volume_before, log_ended, volume_ended) ↦
      inl (log_before.each c (ended_left log log_later log_now log_ended c of_log), volume_before.each d (ended_left volume volume_later volume_now volume_ended d of_volume))
  | inr (way, on) ↦ inr (way, ended_along (begun_behind way.log_behind way.volume_behind anchor rs pages) way.moments log_now volume_now on c d of_log of_volume)
]

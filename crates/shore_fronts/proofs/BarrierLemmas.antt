-- What a sync leaves of a device.
use Rattle.std.proofs.Common.{◌≡◌, refl, sym, subst, Ok}
use Rattle.shore_disk.specs.Device.{DeviceHistory, Stands, may_leave, noted, seen, synced}
use Rattle.shore_disk.proofs.Moments.{started, sync_leaves}
use Rattle.shore_fronts.specs.Barriers.{IsBeforeBarrier, IsBehindBarrier}

pub not_called : (old new : DeviceHistory) → new ≡ old → IsBeforeBarrier old new
not_called old new same = subst (IsBeforeBarrier old) (sym same) (started old (may_leave old) (λ c left. left))

pub once_synced : (old new : DeviceHistory) → new ≡ noted old synced → IsBeforeBarrier old new
once_synced old new is = sync_leaves {E = Unit {0}} (Ok tt) old new (may_leave old) is (λ c left. left)

pub behind : (old new : DeviceHistory) → new ≡ noted old synced → IsBehindBarrier old new
behind old new is = record {
  leaves = once_synced old new is;
  stands = subst (λ (h : DeviceHistory). Stands h (seen old)) (sym is) (record { read = refl; only = λ c left. left });
}

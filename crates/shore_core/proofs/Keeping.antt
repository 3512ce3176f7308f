-- What calls one after another keep of the volume.
use Rattle.std.proofs.Common.{◌≡◌, ◌∙◌, ap, sym, subst}
use Rattle.shore_disk.specs.declared.device.Disk as disk
use Rattle.shore_disk.specs.Device.{DeviceHistory, LeavesOnly}
use Rattle.shore_log.specs.declared.tail.Tail as tail
use Rattle.shore_core.specs.declared.core_calls.Core.{Core}
use Rattle.shore_heap.proofs.Going.{goes_nowhere}
use Rattle.shore_heap.specs.Contents.{unclaimed}
use Rattle.shore_heap.specs.Heaps.{LeavesPages}
use Rattle.shore_core.specs.Cores.{durable_of, heap_of, history_of}
use Rattle.shore_core.specs.Replies.{Keeps, MayLeave}

-- two that are the same in both parts
pub both : {A B : Type 0} {a b : A} {x y : B} → a ≡ b → x ≡ y → ◌≡◌ {A = A × B} (a, x) (b, y)
both {b = b} {x = x} one two = ap (λ a. (a, x)) one ∙ ap (λ x. (b, x)) two

module _ {T V : Type 0} {G : tail.Ghosts T} {H : disk.Ghosts V} where
  -- two calls that keep what no call changes
  pub keeps_then : (old mid new : Core T V G H) → Keeps old mid → Keeps mid new → Keeps old new
  keeps_then old mid new one two = record {
    volume = record { geometry = two.volume.geometry ∙ one.volume.geometry; honest = two.volume.honest ∙ one.volume.honest; size = two.volume.size ∙ one.volume.size };
    durable = two.durable ∙ one.durable;
    failed = two.failed ∙ one.failed;
    first = two.first ∙ one.first;
  }

  -- the device was called no more
  pub leaves_then : (old mid new : Core T V G H) → MayLeave old mid → history_of new ≡ history_of mid → MayLeave old new
  leaves_then old mid new leaves same front disk holds =
      subst (λ (h : DeviceHistory). LeavesOnly (history_of old) h (LeavesPages (heap_of old) (durable_of old) front disk)) (sym same) (leaves front disk holds)

  -- the device was not called
  pub nothing_leaves : (core : Core T V G H) → MayLeave core core
  nothing_leaves core front disk holds = (goes_nowhere unclaimed (durable_of core) (heap_of core)).any_moment front disk holds

  pub leaves_nothing : (old new : Core T V G H) → history_of new ≡ history_of old → MayLeave old new
  leaves_nothing old new same = leaves_then old old new (nothing_leaves old) same

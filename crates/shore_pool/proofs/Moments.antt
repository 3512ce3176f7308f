-- What a crash leaves of the pages while a call goes on.
use Rattle.std.proofs.Common.{ℕ, List, Option, inl, inr, refl}
use Rattle.shore_disk.specs.Device.{DeviceHistory, LeavesOnly}
use Rattle.shore_disk.specs.declared.device.Disk.{Ghosts}
use Rattle.shore_disk.proofs.Moments.{widened}
use Rattle.shore_types.specs.declared.layout.Geometry.{Geometry}
use Rattle.shore_dwrite.specs.declared.device.PageDev.{PageDev}
use Rattle.shore_dwrite.specs.Settled.{device_of, geometry_of}
use Rattle.shore_dwrite.specs.Shown.{ShowsBehind, ShowsEither}
use Rattle.shore_dwrite.proofs.Moves.{stands_still}
use Rattle.shore_pool.specs.declared.frame.Frame.{Frame}
use Rattle.shore_pool.specs.declared.amid.Amid.{Amid}
use Rattle.shore_pool.specs.Pages.{MayBeLeft}
use Rattle.shore_pool.specs.UnderWay.{HoldsAmid}
use Rattle.shore_pool.proofs.UnderWay.{is_shown}

module _ (g : Geometry) (at : ℕ → Option Frame) (durable : ℕ) (front : List ℕ) (disk : ℕ → List ℕ) where
  abbrev pub Leaves : List ℕ → Type 0
  Leaves image = (left : ℕ → List ℕ) × ShowsBehind g front left image × MayBeLeft at durable disk left

  pub as_it_was : MayBeLeft at durable disk disk
  as_it_was k = inl refl

  -- a batch is written, or not
  pub while_written : (old new : DeviceHistory) (other : ℕ → List ℕ) → MayBeLeft at durable disk other → LeavesOnly old new (ShowsEither g front disk other) → LeavesOnly old new Leaves
  while_written old new other may leaves = widened old new (ShowsEither g front disk other) Leaves leaves (λ image shows. elim shows [
    | inl before ↦ (disk, before, as_it_was)
    | inr after ↦ (other, after, may)
  ])

-- what shows the pages as they were leaves them
pub while_shown : (g : Geometry) (at : ℕ → Option Frame) (durable : ℕ) (front : List ℕ) (disk : ℕ → List ℕ) (old new : DeviceHistory) → LeavesOnly old new (ShowsBehind g front disk) → LeavesOnly old new (Leaves g at durable front disk)
while_shown g at durable front disk old new moments = widened old new (ShowsBehind g front disk) (Leaves g at durable front disk) moments (λ image shows. (disk, shows, as_it_was g at durable front disk))

-- what shows pages that a call may leave leaves them
pub while_left : (g : Geometry) (at : ℕ → Option Frame) (durable : ℕ) (front : List ℕ) (disk left : ℕ → List ℕ) (old new : DeviceHistory) → MayBeLeft at durable disk left → LeavesOnly old new (ShowsBehind g front left)
    → LeavesOnly old new (Leaves g at durable front disk)
while_left g at durable front disk left old new may moments = widened old new (ShowsBehind g front left) (Leaves g at durable front disk) moments (λ image shows. (left, shows, may))

-- nothing is written
pub while_still : {D : Type 0} {G : Ghosts D} (dev : PageDev D G) (at : ℕ → Option Frame) (durable : ℕ) (front : List ℕ) (disk : ℕ → List ℕ) (ns texts : List ℕ) (way : Amid) → HoldsAmid way dev front disk ns texts
    → LeavesOnly (G.history (device_of dev)) (G.history (device_of dev)) (Leaves (geometry_of dev) at durable front disk)
while_still {G = G} dev at durable front disk ns texts way s =
    let is = is_shown dev front disk ns texts way s in
    stands_still (G.history (device_of dev)) is.image (Leaves (geometry_of dev) at durable front disk) is.stands (disk, is.shows, as_it_was (geometry_of dev) at durable front disk)

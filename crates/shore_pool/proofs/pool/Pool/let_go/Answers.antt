use Rattle.std.proofs.Common.{◌≡◌, ◌≢◌, ◌∙◌, ◌≤◌, inl, inr, ℕ, List, IsTrue, Option, refl, sym, ap, subst}
use Rattle.shore_disk.specs.Device.{LeavesOnly}
use Rattle.shore_types.specs.declared.layout.Geometry.{Geometry}
use Rattle.shore_dwrite.specs.Images.{numbers_of, texts_of}
use Rattle.shore_dwrite.specs.Settled as settled_device
use Rattle.shore_dwrite.specs.Shown.{AreBatchNumbers, ShowsBehind, overlaid}
use Rattle.shore_dwrite.specs.UnderWay.{IsOpened, IsPlaced, IsWritten}
use Rattle.shore_dwrite.specs.Volumes.{page_count}
use Rattle.shore_dwrite.proofs.Moves.{on_ok}
use Rattle.shore_pool.specs.declared.amid.Amid.{Amid}
use Rattle.shore_pool.specs.declared.amid.Amid.TheVariants as amid
use Rattle.shore_pool.specs.Changes.{settled_at}
use Rattle.shore_pool.specs.FrameMaps as maps
use Rattle.shore_pool.specs.Pages.{AreInOrder}
use Rattle.shore_pool.specs.Pools.{PoolHolds}
use Rattle.shore_pool.specs.UnderWay.{AreHeld, HoldsAmid}
use Rattle.shore_pool.proofs.UnderWay.{shown_still}
use Rattle.shore_pool.proofs.pool.Pool.let_go.Goals as goal

pub returns-else-has-clause-any_moment : goal.returns-else-has-clause-any_moment
returns-else-has-clause-any_moment g c front disk holds =
    let old = c.args.self.now in
    shown_still old.device front disk (numbers_of old.batch) (texts_of old.batch) old.amid holds.settled

pub returns-in-Rest-clause-any_moment : goal.returns-in-Rest-clause-any_moment
returns-in-Rest-clause-any_moment g c front disk holds =
    let old = c.args.self.now in
    shown_still old.device front disk (numbers_of old.batch) (texts_of old.batch) old.amid holds.settled

pub returns-in-Rest-clause-apart : goal.returns-in-Rest-clause-apart
returns-in-Rest-clause-apart g c opened has = elim c.in-Rest.is [
  | inl rest ↦ let clash : amid.Rest ≡ amid.Opened = sym rest ∙ opened in cc
  | inr other ↦ elim other [
    | inl written ↦ let clash : amid.Written ≡ amid.Opened = sym written ∙ opened in cc
    | inr placed ↦ let clash : amid.Placed ≡ amid.Opened = sym placed ∙ opened in cc
  ]
]

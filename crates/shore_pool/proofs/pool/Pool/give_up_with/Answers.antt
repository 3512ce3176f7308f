use Rattle.std.proofs.Common.{◌≡◌, ◌≢◌, ◌∙◌, ◌≤◌, ℕ, List, IsTrue, Option, refl, sym, ap, subst}
use Rattle.shore_disk.specs.Device.{LeavesOnly}
use Rattle.shore_types.specs.declared.layout.Geometry.{Geometry}
use Rattle.shore_dwrite.specs.Images.{numbers_of, texts_of}
use Rattle.shore_dwrite.specs.Settled as settled_device
use Rattle.shore_dwrite.specs.Shown.{AreBatchNumbers, ShowsBehind, overlaid}
use Rattle.shore_dwrite.specs.UnderWay.{IsOpened, IsPlaced, IsWritten}
use Rattle.shore_dwrite.specs.Volumes.{page_count}
use Rattle.shore_dwrite.proofs.Moves.{on_ok}
use Rattle.shore_pool.specs.declared.amid.Amid.{Amid}
use Rattle.shore_pool.specs.declared.amid.Amid.TheVariants as amid
use Rattle.shore_pool.specs.Changes.{settled_at}
use Rattle.shore_pool.specs.FrameMaps as maps
use Rattle.shore_pool.specs.Pages.{AreInOrder}
use Rattle.shore_pool.specs.Pools.{PoolHolds}
use Rattle.shore_pool.specs.UnderWay.{AreHeld, HoldsAmid}
use Rattle.shore_dwrite.proofs.UnderWay.{written_settled}
use Rattle.shore_pool.proofs.pool.Pool.give_up_with.Goals as goal

pub returns-then-has-clause-kept : goal.returns-then-has-clause-kept
returns-then-has-clause-kept g c front disk holds =
    let old = c.args.self.now in
    let numbers = numbers_of old.batch in
    let texts = texts_of old.batch in
    let s : IsWritten old.device front disk numbers texts = subst (λ (way : Amid). HoldsAmid way old.device front disk numbers texts) c.in-Written.is holds.settled in
    record { settled = written_settled old.device front disk numbers texts s; written = holds.written; held = tt }

use Rattle.std.proofs.Common.{◌≡◌, ◌≢◌, ◌∙◌, ◌≤◌, ℕ, List, IsTrue, Option, refl, sym, ap, subst}
use Rattle.shore_disk.specs.Device.{LeavesOnly}
use Rattle.shore_types.specs.declared.layout.Geometry.{Geometry}
use Rattle.shore_dwrite.specs.Images.{numbers_of, texts_of}
use Rattle.shore_dwrite.specs.Settled as settled_device
use Rattle.shore_dwrite.specs.Shown.{AreBatchNumbers, ShowsBehind, overlaid}
use Rattle.shore_dwrite.specs.UnderWay.{IsOpened, IsPlaced, IsWritten}
use Rattle.shore_dwrite.specs.Volumes.{page_count}
use Rattle.shore_dwrite.proofs.Moves.{on_ok}
use Rattle.shore_pool.specs.declared.amid.Amid.{Amid}
use Rattle.shore_pool.specs.declared.amid.Amid.TheVariants as amid
use Rattle.shore_pool.specs.Changes.{settled_at}
use Rattle.shore_pool.specs.FrameMaps as maps
use Rattle.shore_pool.specs.Pages.{AreInOrder}
use Rattle.shore_pool.specs.Pools.{PoolHolds}
use Rattle.shore_pool.specs.UnderWay.{AreHeld, HoldsAmid}
use Rattle.shore_disk.proofs.Moments.{joined}
use Rattle.shore_dwrite.proofs.UnderWay.{written_settled}
use Rattle.shore_pool.specs.Pools.{history_of}
use Rattle.shore_pool.proofs.UnderWay.{shown_still}
use Rattle.shore_pool.proofs.pool.Pool.finish.Goals as goal

pub returns-in-Rest-clause-any_moment : goal.returns-in-Rest-clause-any_moment
returns-in-Rest-clause-any_moment g c front disk holds =
    let old = c.args.self.now in
    shown_still old.device front disk (numbers_of old.batch) (texts_of old.batch) old.amid holds.settled

pub returns-in-Written-clause-any_moment : goal.returns-in-Written-clause-any_moment
returns-in-Written-clause-any_moment g c front disk holds =
    let old = c.args.self.now in
    shown_still old.device front disk (numbers_of old.batch) (texts_of old.batch) old.amid holds.settled

pub returns-in-Written-clause-kept : goal.returns-in-Written-clause-kept
returns-in-Written-clause-kept g c front disk holds =
    let old = c.args.self.now in
    let numbers = numbers_of old.batch in
    let texts = texts_of old.batch in
    let s : IsWritten old.device front disk numbers texts = subst (λ (way : Amid). HoldsAmid way old.device front disk numbers texts) c.in-Written.is holds.settled in
    record { settled = written_settled old.device front disk numbers texts s; written = holds.written; held = tt }

pub returns-in_ok-place-in-Opened-clause-kept : goal.returns-in_ok-place-in-Opened-clause-kept
returns-in_ok-place-in-Opened-clause-kept g c front disk holds = c.end.ensures.kept front disk (c.in_ok-place-in-Opened.ensures.kept front disk holds)

pub returns-in_ok-place-in-Opened-clause-any_moment : goal.returns-in_ok-place-in-Opened-clause-any_moment
returns-in_ok-place-in-Opened-clause-any_moment g c front disk holds =
    let old = c.args.self.now in
    joined _ _ _ (ShowsBehind (settled_device.geometry_of old.device) front disk) (c.place.ensures.any_moment front disk holds)
    (subst (λ (it : Geometry). LeavesOnly (history_of c.place.new.self) (history_of c.end.new.self) (ShowsBehind it front disk)) c.place.ensures.geometry
    (c.end.ensures.any_moment front disk (c.in_ok-place-in-Opened.ensures.kept front disk holds)))

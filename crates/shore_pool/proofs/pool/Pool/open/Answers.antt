use Rattle.std.proofs.Common.{◌≡◌, ◌∙◌, ℕ, List, refl, sym, ap, subst}
use Rattle.shore_types.specs.declared.layout.Geometry.{Geometry}
use Rattle.shore_dwrite.specs.Images.{numbers_of, texts_of}
use Rattle.shore_dwrite.specs.Settled as settled_device
use Rattle.shore_dwrite.specs.Shown.{AreBatchNumbers, overlaid}
use Rattle.shore_dwrite.specs.UnderWay.{IsWritten}
use Rattle.shore_dwrite.specs.Volumes.{page_count}
use Rattle.shore_pool.specs.declared.amid.Amid.{Amid}
use Rattle.shore_pool.specs.declared.amid.Amid.TheVariants as amid
use Rattle.shore_pool.specs.Changes.{settled_at}
use Rattle.shore_pool.specs.FrameMaps as maps
use Rattle.shore_pool.specs.Pages.{AreInOrder}
use Rattle.shore_pool.specs.UnderWay.{AreHeld, HoldsAmid}
use Rattle.shore_pool.proofs.Moments.{while_written}
use Rattle.shore_pool.proofs.Orders.{order_settled}
use Rattle.shore_pool.proofs.Settling.{settled_here, not_settled}
use Rattle.shore_pool.proofs.Written.{may_be_left, all_written, same_pages}
use Rattle.shore_pool.proofs.Unwritten.{others_unwritten}
use Rattle.shore_pool.proofs.UnderWay.{held_open}
use Rattle.shore_pool.proofs.pool.Pool.open.Goals as goal

pub invariant_of-self : goal.invariant_of-self
invariant_of-self g c = record {
  in_order = subst (AreInOrder (maps.frame_at c.args.self.now.frames)) (sym c.open_batch.ensures.geometry) c.args.self.now.in_order;
  some = c.args.self.now.some;
  few = c.args.self.now.few;
  pages = c.args.self.now.pages ∙ ap page_count (sym c.open_batch.ensures.geometry);
  batch_room = c.args.self.now.batch_room;
  batch_version = c.args.self.now.batch_version ∙ ap (λ (it : Geometry). it.version) (sym c.open_batch.ensures.geometry);
  batch_is = λ some. subst (λ (it : Geometry). AreBatchNumbers it (numbers_of c.args.self.now.batch)) (sym c.open_batch.ensures.geometry)
      (c.args.self.now.batch_is (λ rests. let clash : amid.Written ≡ amid.Rest = sym c.requires ∙ rests in cc));
}

pub returns-in_err-open_batch-clause-any_moment : goal.returns-in_err-open_batch-clause-any_moment
returns-in_err-open_batch-clause-any_moment g c front disk durable holds up_to =
    let old = c.args.self.now in
    let at = maps.frame_at old.frames in
    let numbers = numbers_of old.batch in
    let texts = texts_of old.batch in
    let s : IsWritten old.device front disk numbers texts = subst (λ (way : Amid). HoldsAmid way old.device front disk numbers texts) c.requires holds.settled in
    let are : AreHeld (settled_device.geometry_of c.args.self.now.device).version amid.Written at numbers texts = subst (λ (way : Amid). AreHeld (settled_device.geometry_of c.args.self.now.device).version way at numbers texts) c.requires holds.held in
    while_written (settled_device.geometry_of old.device) at durable front disk _ _ (overlaid (settled_device.geometry_of c.args.self.now.device).version numbers texts disk) (may_be_left (settled_device.geometry_of c.args.self.now.device).version at durable numbers texts disk are up_to)
    (c.open_batch.ensures.any_moment front disk numbers texts s)

pub returns-clause-any_moment : goal.returns-clause-any_moment
returns-clause-any_moment g c front disk durable holds up_to =
    let old = c.args.self.now in
    let at = maps.frame_at old.frames in
    let numbers = numbers_of old.batch in
    let texts = texts_of old.batch in
    let s : IsWritten old.device front disk numbers texts = subst (λ (way : Amid). HoldsAmid way old.device front disk numbers texts) c.requires holds.settled in
    let are : AreHeld (settled_device.geometry_of c.args.self.now.device).version amid.Written at numbers texts = subst (λ (way : Amid). AreHeld (settled_device.geometry_of c.args.self.now.device).version way at numbers texts) c.requires holds.held in
    while_written (settled_device.geometry_of old.device) at durable front disk _ _ (overlaid (settled_device.geometry_of c.args.self.now.device).version numbers texts disk) (may_be_left (settled_device.geometry_of c.args.self.now.device).version at durable numbers texts disk are up_to)
    (c.open_batch.ensures.any_moment front disk numbers texts s)

pub invariant_of-self-2-clause-in_order : goal.invariant_of-self-2-clause-in_order
invariant_of-self-2-clause-in_order g c =
    let old = c.args.self.now in
    let is : (k : ℕ) → maps.frame_at c.settle_all.new.self k ≡ settled_at (numbers_of old.batch) (maps.frame_at old.frames) k =
    λ k. c.settle_all.ensures.settled k ∙ ap (λ (l : List ℕ). settled_at l (maps.frame_at old.frames) k) c.numbers.ensures in
    subst (AreInOrder (maps.frame_at c.settle_all.new.self)) (sym c.open_batch.ensures.geometry)
    (order_settled (maps.frame_at old.frames) (maps.frame_at c.settle_all.new.self) (settled_device.geometry_of old.device) (numbers_of old.batch) old.in_order is)

pub invariant_of-self-2-clause-batch_is : goal.invariant_of-self-2-clause-batch_is
invariant_of-self-2-clause-batch_is g c = λ some.
    let old = c.args.self.now in
    subst (λ (it : Geometry). AreBatchNumbers it (numbers_of old.batch)) (sym c.open_batch.ensures.geometry)
    (old.batch_is (λ rests. let clash : amid.Written ≡ amid.Rest = sym c.requires ∙ rests in cc))

pub returns-clause-clean : goal.returns-clause-clean
returns-clause-clean g c k has =
    let at = maps.frame_at c.args.self.now.frames in
    c.settle_all.ensures.settled k ∙ ap (λ (l : List ℕ). settled_at l at k) c.numbers.ensures ∙ settled_here at (numbers_of c.args.self.now.batch) k has

pub returns-clause-others : goal.returns-clause-others
returns-clause-others g c k none =
    let at = maps.frame_at c.args.self.now.frames in
    c.settle_all.ensures.settled k ∙ ap (λ (l : List ℕ). settled_at l at k) c.numbers.ensures ∙ not_settled at (numbers_of c.args.self.now.batch) k none

pub returns-clause-kept : goal.returns-clause-kept
returns-clause-kept g c front disk durable holds up_to =
    let old = c.args.self.now in
    let at = maps.frame_at old.frames in
    let now = maps.frame_at c.settle_all.new.self in
    let numbers = numbers_of old.batch in
    let texts = texts_of old.batch in
    let s : IsWritten old.device front disk numbers texts = subst (λ (way : Amid). HoldsAmid way old.device front disk numbers texts) c.requires holds.settled in
    let are : AreHeld (settled_device.geometry_of c.args.self.now.device).version amid.Written at numbers texts = subst (λ (way : Amid). AreHeld (settled_device.geometry_of c.args.self.now.device).version way at numbers texts) c.requires holds.held in
    let is : (k : ℕ) → now k ≡ settled_at numbers at k = λ k. c.settle_all.ensures.settled k ∙ ap (λ (l : List ℕ). settled_at l at k) c.numbers.ensures in
    record {
      left = overlaid (settled_device.geometry_of c.args.self.now.device).version numbers texts disk;
      holds = record {
        settled = (disk, c.in_ok-open_batch.ensures.opened front disk numbers texts s, ap (λ (it : Geometry). overlaid it.version numbers texts disk) (sym c.open_batch.ensures.geometry));
        written = all_written (settled_device.geometry_of c.args.self.now.device).version at now numbers texts disk are is holds.written;
        held = subst (λ (it : Geometry). AreHeld it.version amid.Opened now numbers texts) (sym c.open_batch.ensures.geometry) (held_open _ at now numbers texts is are);
      };
      may = may_be_left (settled_device.geometry_of c.args.self.now.device).version at durable numbers texts disk are up_to;
      same = same_pages (settled_device.geometry_of c.args.self.now.device).version at now numbers texts disk are is;
      unwritten = others_unwritten (settled_device.geometry_of c.args.self.now.device).version at now numbers texts disk are is;
    }

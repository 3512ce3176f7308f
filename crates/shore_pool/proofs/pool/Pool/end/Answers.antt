use Rattle.std.proofs.Common.{◌≡◌, ◌∙◌, ℕ, List, refl, sym, ap, subst}
use Rattle.shore_disk.specs.Device.{LeavesOnly}
use Rattle.shore_types.specs.declared.layout.Geometry.{Geometry}
use Rattle.shore_dwrite.specs.Images.{numbers_of, texts_of}
use Rattle.shore_dwrite.specs.Settled as settled_device
use Rattle.shore_dwrite.specs.Shown.{AreBatchNumbers, ShowsBehind}
use Rattle.shore_dwrite.specs.Volumes.{page_count}
use Rattle.shore_pool.specs.declared.amid.Amid.{Amid}
use Rattle.shore_pool.specs.declared.amid.Amid.TheVariants as amid
use Rattle.shore_pool.specs.FrameMaps as maps
use Rattle.shore_pool.specs.Pages.{AreInOrder}
use Rattle.shore_pool.specs.UnderWay.{HoldsAmid}
use Rattle.shore_pool.proofs.pool.Pool.end.Goals as goal

pub invariant_of-self : goal.invariant_of-self
invariant_of-self g c = record {
  in_order = subst (AreInOrder (maps.frame_at c.args.self.now.frames)) (sym c.end_batch.ensures.geometry) c.args.self.now.in_order;
  some = c.args.self.now.some;
  few = c.args.self.now.few;
  pages = c.args.self.now.pages ∙ ap page_count (sym c.end_batch.ensures.geometry);
  batch_room = c.args.self.now.batch_room;
  batch_version = c.args.self.now.batch_version ∙ ap (λ (it : Geometry). it.version) (sym c.end_batch.ensures.geometry);
  batch_is = λ some. subst (λ (it : Geometry). AreBatchNumbers it (numbers_of c.args.self.now.batch)) (sym c.end_batch.ensures.geometry)
      (c.args.self.now.batch_is (λ rests. let clash : amid.Placed ≡ amid.Rest = sym c.requires ∙ rests in cc));
}

pub invariant_of-self-2 : goal.invariant_of-self-2
invariant_of-self-2 g c = record {
  in_order = subst (AreInOrder (maps.frame_at c.args.self.now.frames)) (sym c.end_batch.ensures.geometry) c.args.self.now.in_order;
  some = c.args.self.now.some;
  few = c.args.self.now.few;
  pages = c.args.self.now.pages ∙ ap page_count (sym c.end_batch.ensures.geometry);
  batch_room = c.args.self.now.batch_room;
  batch_version = c.args.self.now.batch_version ∙ ap (λ (it : Geometry). it.version) (sym c.end_batch.ensures.geometry);
  batch_is = λ some. absurd (some refl);
}

pub returns-in_err-end_batch-clause-any_moment : goal.returns-in_err-end_batch-clause-any_moment
returns-in_err-end_batch-clause-any_moment g c front disk holds =
    let old = c.args.self.now in
    let s : HoldsAmid amid.Placed old.device front disk (numbers_of old.batch) (texts_of old.batch) =
    subst (λ (way : Amid). HoldsAmid way old.device front disk (numbers_of old.batch) (texts_of old.batch)) c.requires holds.settled in
    subst (λ (d : ℕ → List ℕ). LeavesOnly (g.D.Disk.history (settled_device.device_of old.device)) (g.D.Disk.history (settled_device.device_of c.end_batch.new.self)) (ShowsBehind (settled_device.geometry_of old.device) front d)) (sym s.2)
    (c.end_batch.ensures.any_moment front s.0 (numbers_of old.batch) (texts_of old.batch) s.1)

pub returns-clause-any_moment : goal.returns-clause-any_moment
returns-clause-any_moment g c front disk holds =
    let old = c.args.self.now in
    let s : HoldsAmid amid.Placed old.device front disk (numbers_of old.batch) (texts_of old.batch) =
    subst (λ (way : Amid). HoldsAmid way old.device front disk (numbers_of old.batch) (texts_of old.batch)) c.requires holds.settled in
    subst (λ (d : ℕ → List ℕ). LeavesOnly (g.D.Disk.history (settled_device.device_of old.device)) (g.D.Disk.history (settled_device.device_of c.end_batch.new.self)) (ShowsBehind (settled_device.geometry_of old.device) front d)) (sym s.2)
    (c.end_batch.ensures.any_moment front s.0 (numbers_of old.batch) (texts_of old.batch) s.1)

pub returns-clause-kept : goal.returns-clause-kept
returns-clause-kept g c front disk holds =
    let old = c.args.self.now in
    let s : HoldsAmid amid.Placed old.device front disk (numbers_of old.batch) (texts_of old.batch) =
    subst (λ (way : Amid). HoldsAmid way old.device front disk (numbers_of old.batch) (texts_of old.batch)) c.requires holds.settled in
    record {
      settled = subst (λ (d : ℕ → List ℕ). HoldsAmid amid.Rest c.end_batch.new.self front d (numbers_of old.batch) (texts_of old.batch)) (sym s.2)
          (c.in_ok-end_batch.ensures.settled front s.0 (numbers_of old.batch) (texts_of old.batch) s.1);
      written = holds.written;
      held = tt;
    }

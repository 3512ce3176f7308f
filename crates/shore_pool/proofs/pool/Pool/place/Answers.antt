use Rattle.std.proofs.Common.{◌≡◌, ◌∙◌, ℕ, List, sym, ap, subst}
use Rattle.shore_disk.specs.Device.{LeavesOnly}
use Rattle.shore_types.specs.declared.layout.Geometry.{Geometry}
use Rattle.shore_dwrite.specs.Images.{numbers_of, texts_of}
use Rattle.shore_dwrite.specs.Settled as settled_device
use Rattle.shore_dwrite.specs.Shown.{AreBatchNumbers, ShowsBehind, overlaid}
use Rattle.shore_dwrite.specs.Volumes.{page_count}
use Rattle.shore_pool.specs.declared.amid.Amid.{Amid}
use Rattle.shore_pool.specs.declared.amid.Amid.TheVariants as amid
use Rattle.shore_pool.specs.FrameMaps as maps
use Rattle.shore_pool.specs.Pages.{AreInOrder}
use Rattle.shore_pool.specs.UnderWay.{HoldsAmid}
use Rattle.shore_pool.proofs.pool.Pool.place.Goals as goal

pub invariant_of-self : goal.invariant_of-self
invariant_of-self g c = record {
  in_order = subst (AreInOrder (maps.frame_at c.args.self.now.frames)) (sym c.place_batch.ensures.geometry) c.args.self.now.in_order;
  some = c.args.self.now.some;
  few = c.args.self.now.few;
  pages = c.args.self.now.pages ∙ ap page_count (sym c.place_batch.ensures.geometry);
  batch_room = c.args.self.now.batch_room;
  batch_version = c.args.self.now.batch_version ∙ ap (λ (it : Geometry). it.version) (sym c.place_batch.ensures.geometry);
  batch_is = λ some. subst (λ (it : Geometry). AreBatchNumbers it (numbers_of c.args.self.now.batch)) (sym c.place_batch.ensures.geometry)
      (c.args.self.now.batch_is (λ rests. let clash : amid.Opened ≡ amid.Rest = sym c.requires ∙ rests in cc));
}

pub invariant_of-self-2 : goal.invariant_of-self-2
invariant_of-self-2 g c = record {
  in_order = subst (AreInOrder (maps.frame_at c.args.self.now.frames)) (sym c.place_batch.ensures.geometry) c.args.self.now.in_order;
  some = c.args.self.now.some;
  few = c.args.self.now.few;
  pages = c.args.self.now.pages ∙ ap page_count (sym c.place_batch.ensures.geometry);
  batch_room = c.args.self.now.batch_room;
  batch_version = c.args.self.now.batch_version ∙ ap (λ (it : Geometry). it.version) (sym c.place_batch.ensures.geometry);
  batch_is = λ some. subst (λ (it : Geometry). AreBatchNumbers it (numbers_of c.args.self.now.batch)) (sym c.place_batch.ensures.geometry)
      (c.args.self.now.batch_is (λ rests. let clash : amid.Opened ≡ amid.Rest = sym c.requires ∙ rests in cc));
}

pub place_batch-requires : goal.place_batch-requires
place_batch-requires g c = record {
  numbers = c.args.self.now.batch_is (λ rests. let clash : amid.Opened ≡ amid.Rest = sym c.requires ∙ rests in cc);
  version = c.args.self.now.batch_version;
}

pub returns-in_err-place_batch-clause-any_moment : goal.returns-in_err-place_batch-clause-any_moment
returns-in_err-place_batch-clause-any_moment g c front disk holds =
    let old = c.args.self.now in
    let s : HoldsAmid amid.Opened old.device front disk (numbers_of old.batch) (texts_of old.batch) =
    subst (λ (way : Amid). HoldsAmid way old.device front disk (numbers_of old.batch) (texts_of old.batch)) c.requires holds.settled in
    subst (λ (d : ℕ → List ℕ). LeavesOnly (g.D.Disk.history (settled_device.device_of old.device)) (g.D.Disk.history (settled_device.device_of c.place_batch.new.self)) (ShowsBehind (settled_device.geometry_of old.device) front d)) (sym s.2)
    (c.place_batch.ensures.any_moment front s.0 s.1)

pub returns-clause-any_moment : goal.returns-clause-any_moment
returns-clause-any_moment g c front disk holds =
    let old = c.args.self.now in
    let s : HoldsAmid amid.Opened old.device front disk (numbers_of old.batch) (texts_of old.batch) =
    subst (λ (way : Amid). HoldsAmid way old.device front disk (numbers_of old.batch) (texts_of old.batch)) c.requires holds.settled in
    subst (λ (d : ℕ → List ℕ). LeavesOnly (g.D.Disk.history (settled_device.device_of old.device)) (g.D.Disk.history (settled_device.device_of c.place_batch.new.self)) (ShowsBehind (settled_device.geometry_of old.device) front d)) (sym s.2)
    (c.place_batch.ensures.any_moment front s.0 s.1)

pub returns-clause-kept : goal.returns-clause-kept
returns-clause-kept g c front disk holds =
    let old = c.args.self.now in
    let s : HoldsAmid amid.Opened old.device front disk (numbers_of old.batch) (texts_of old.batch) =
    subst (λ (way : Amid). HoldsAmid way old.device front disk (numbers_of old.batch) (texts_of old.batch)) c.requires holds.settled in
    record {
      settled = (s.0, c.in_ok-place_batch.ensures.placed front s.0 s.1, s.2 ∙ ap (λ (it : Geometry). overlaid it.version (numbers_of old.batch) (texts_of old.batch) s.0) (sym c.place_batch.ensures.geometry));
      written = holds.written;
      held = tt;
    }

use Rattle.std.proofs.Common.{ℕ, List, subst, sym, ap, ◌∙◌}
use Rattle.shore_types.specs.declared.versions.Version.{Version}
use Rattle.shore_types.specs.declared.layout.Geometry.{Geometry}
use Rattle.shore_dwrite.specs.Images.{version_of, numbers_of, texts_of}
use Rattle.shore_dwrite.specs.Settled as settled_device
use Rattle.shore_dwrite.specs.Settled.{IsSettled}
use Rattle.shore_dwrite.specs.Shown.{IsBatch, ShowsEither, overlaid, AreTexts}
use Rattle.shore_disk.specs.Device.{LeavesOnly}
use Rattle.shore_dwrite.specs.Volumes.{page_count}
use Rattle.shore_pool.specs.FrameMaps as maps
use Rattle.shore_pool.specs.Pages.{AreInOrder, HasText}
use Rattle.shore_pool.proofs.Moments.{while_written}
use Rattle.shore_pool.proofs.Orders.{order_settled}
use Rattle.shore_pool.proofs.Settling.{settled_here, not_settled}
use Rattle.shore_pool.proofs.Written.{of_version, is_batch, may_be_left, all_written, same_pages}
use Rattle.shore_pool.proofs.Unwritten.{others_unwritten}
use Rattle.shore_pool.proofs.UnderWay.{at_rest, held_none, rests_at}
use Rattle.shore_pool.proofs.pool.Pool.write.Goals as goal

pub gather-requires-clause-there : goal.gather-requires-clause-there
gather-requires-clause-there g c =
    let old = c.args.self.now in
    of_version (maps.frame_at old.frames) (settled_device.geometry_of old.device) (version_of old.batch) old.batch_version old.in_order c.args.numbers.now c.requires.there

pub write_batch-requires-clause-batch : goal.write_batch-requires-clause-batch
write_batch-requires-clause-batch g c =
    let old = c.args.self.now in
    let numbers = c.args.numbers.now in
    let batch = c.gather.new.batch in
    let is : IsBatch (settled_device.geometry_of old.device) numbers (texts_of batch) = is_batch (maps.frame_at old.frames) (settled_device.geometry_of old.device) numbers (texts_of batch) old.in_order c.requires.some c.requires.most c.requires.rise c.requires.there (subst (λ (v : Version). AreTexts v (HasText (maps.frame_at old.frames)) c.args.numbers.now (texts_of c.gather.new.batch)) (c.gather.ensures.version ∙ old.batch_version) c.gather.ensures.texts) in
    subst (λ (l : List ℕ). IsBatch (settled_device.geometry_of old.device) l (texts_of batch)) (sym c.gather.ensures.numbers) is

pub write_batch-requires-clause-version : goal.write_batch-requires-clause-version
write_batch-requires-clause-version g c = c.gather.ensures.version ∙ c.args.self.now.batch_version

pub invariant_of-self : goal.invariant_of-self
invariant_of-self g c = record {
  in_order = subst (AreInOrder (maps.frame_at c.args.self.now.frames)) (sym c.write_batch.ensures.geometry) c.args.self.now.in_order;
  some = c.args.self.now.some;
  few = c.args.self.now.few;
  pages = c.args.self.now.pages ∙ ap page_count (sym c.write_batch.ensures.geometry);
  batch_room = c.gather.ensures.room;
  batch_version = c.gather.ensures.version ∙ c.args.self.now.batch_version ∙ ap (λ (it : Geometry). it.version) (sym c.write_batch.ensures.geometry);
  batch_is = λ some. absurd (some c.requires.rests);
}

pub returns-in_err-write_batch-clause-any_moment : goal.returns-in_err-write_batch-clause-any_moment
returns-in_err-write_batch-clause-any_moment g c front disk durable holds up_to =
    let old = c.args.self.now in
    let at = maps.frame_at old.frames in
    let geometry = settled_device.geometry_of old.device in
    let numbers = c.args.numbers.now in
    let texts = texts_of c.gather.new.batch in
    let are = (subst (λ (v : Version). AreTexts v (HasText (maps.frame_at old.frames)) c.args.numbers.now (texts_of c.gather.new.batch)) (c.gather.ensures.version ∙ old.batch_version) c.gather.ensures.texts) in
    while_written geometry at durable front disk _ _ (overlaid (settled_device.geometry_of c.args.self.now.device).version numbers texts disk) (may_be_left (settled_device.geometry_of c.args.self.now.device).version at durable numbers texts disk are up_to)
    (subst (λ (l : List ℕ). LeavesOnly (g.D.Disk.history (settled_device.device_of old.device)) (g.D.Disk.history (settled_device.device_of c.write_batch.new.self)) (ShowsEither geometry front disk (overlaid (settled_device.geometry_of c.args.self.now.device).version l texts disk)))
    c.gather.ensures.numbers (c.write_batch.ensures.any_moment front disk (at_rest old.amid old.device front disk (numbers_of old.batch) (texts_of old.batch) c.requires.rests holds.settled)))

pub returns-clause-any_moment : goal.returns-clause-any_moment
returns-clause-any_moment g c front disk durable holds up_to =
    let old = c.args.self.now in
    let at = maps.frame_at old.frames in
    let geometry = settled_device.geometry_of old.device in
    let numbers = c.args.numbers.now in
    let texts = texts_of c.gather.new.batch in
    let are = (subst (λ (v : Version). AreTexts v (HasText (maps.frame_at old.frames)) c.args.numbers.now (texts_of c.gather.new.batch)) (c.gather.ensures.version ∙ old.batch_version) c.gather.ensures.texts) in
    while_written geometry at durable front disk _ _ (overlaid (settled_device.geometry_of c.args.self.now.device).version numbers texts disk) (may_be_left (settled_device.geometry_of c.args.self.now.device).version at durable numbers texts disk are up_to)
    (subst (λ (l : List ℕ). LeavesOnly (g.D.Disk.history (settled_device.device_of old.device)) (g.D.Disk.history (settled_device.device_of c.write_batch.new.self)) (ShowsEither geometry front disk (overlaid (settled_device.geometry_of c.args.self.now.device).version l texts disk)))
    c.gather.ensures.numbers (c.write_batch.ensures.any_moment front disk (at_rest old.amid old.device front disk (numbers_of old.batch) (texts_of old.batch) c.requires.rests holds.settled)))

pub invariant_of-self-2-clause-in_order : goal.invariant_of-self-2-clause-in_order
invariant_of-self-2-clause-in_order g c =
    let old = c.args.self.now in
    subst (AreInOrder (maps.frame_at c.settle_all.new.self)) (sym c.write_batch.ensures.geometry)
    (order_settled (maps.frame_at old.frames) (maps.frame_at c.settle_all.new.self) (settled_device.geometry_of old.device) c.args.numbers.now old.in_order c.settle_all.ensures.settled)

pub returns-clause-clean : goal.returns-clause-clean
returns-clause-clean g c k has = c.settle_all.ensures.settled k ∙ settled_here (maps.frame_at c.args.self.now.frames) c.args.numbers.now k has

pub returns-clause-others : goal.returns-clause-others
returns-clause-others g c k none = c.settle_all.ensures.settled k ∙ not_settled (maps.frame_at c.args.self.now.frames) c.args.numbers.now k none

pub returns-clause-kept : goal.returns-clause-kept
returns-clause-kept g c front disk durable holds up_to =
    let old = c.args.self.now in
    let at = maps.frame_at old.frames in
    let now = maps.frame_at c.settle_all.new.self in
    let numbers = c.args.numbers.now in
    let texts = texts_of c.gather.new.batch in
    let are = (subst (λ (v : Version). AreTexts v (HasText (maps.frame_at old.frames)) c.args.numbers.now (texts_of c.gather.new.batch)) (c.gather.ensures.version ∙ old.batch_version) c.gather.ensures.texts) in
    record {
      left = overlaid (settled_device.geometry_of c.args.self.now.device).version numbers texts disk;
      holds = record {
        settled = rests_at old.amid c.write_batch.new.self front (overlaid (settled_device.geometry_of c.args.self.now.device).version numbers texts disk) (numbers_of c.gather.new.batch) texts c.requires.rests
            (subst (λ (l : List ℕ). IsSettled c.write_batch.new.self front (overlaid (settled_device.geometry_of c.args.self.now.device).version l texts disk)) c.gather.ensures.numbers
            (c.in_ok-write_batch.ensures.settled front disk (at_rest old.amid old.device front disk (numbers_of old.batch) (texts_of old.batch) c.requires.rests holds.settled)));
        written = all_written (settled_device.geometry_of c.args.self.now.device).version at now numbers texts disk are c.settle_all.ensures.settled holds.written;
        held = held_none _ old.amid now (numbers_of c.gather.new.batch) texts c.requires.rests;
      };
      may = may_be_left (settled_device.geometry_of c.args.self.now.device).version at durable numbers texts disk are up_to;
      same = same_pages (settled_device.geometry_of c.args.self.now.device).version at now numbers texts disk are c.settle_all.ensures.settled;
      unwritten = others_unwritten (settled_device.geometry_of c.args.self.now.device).version at now numbers texts disk are c.settle_all.ensures.settled;
    }

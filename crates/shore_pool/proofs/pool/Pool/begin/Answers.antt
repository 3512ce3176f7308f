use Rattle.std.proofs.Common.{◌∙◌, ℕ, List, sym, ap, subst}
use Rattle.shore_types.specs.declared.versions.Version.{Version}
use Rattle.shore_types.specs.declared.layout.Geometry.{Geometry}
use Rattle.shore_dwrite.specs.Images.{version_of, numbers_of, texts_of}
use Rattle.shore_dwrite.specs.Settled as settled_device
use Rattle.shore_dwrite.specs.Shown.{AreBatchNumbers, AreTexts}
use Rattle.shore_dwrite.specs.Volumes.{page_count}
use Rattle.shore_pool.specs.declared.amid.Amid.{Amid}
use Rattle.shore_pool.specs.declared.amid.Amid.TheVariants as amid
use Rattle.shore_pool.specs.FrameMaps as maps
use Rattle.shore_pool.specs.Pages.{AreInOrder, HasText}
use Rattle.shore_pool.specs.UnderWay.{AreHeld, HoldsAmid}
use Rattle.shore_dwrite.specs.Shown.{IsBatch}
use Rattle.shore_pool.proofs.Written.{of_version, is_batch}
use Rattle.shore_pool.proofs.pool.Pool.begin.Goals as goal

pub gather-requires-clause-there : goal.gather-requires-clause-there
gather-requires-clause-there g c =
    let old = c.args.self.now in
    of_version (maps.frame_at old.frames) (settled_device.geometry_of old.device) (version_of old.batch) old.batch_version old.in_order c.args.numbers.now c.requires.there

pub begin_batch-requires-clause-batch : goal.begin_batch-requires-clause-batch
begin_batch-requires-clause-batch g c =
    let old = c.args.self.now in
    let numbers = c.args.numbers.now in
    let texts = texts_of c.gather.new.batch in
    subst (λ (l : List ℕ). IsBatch (settled_device.geometry_of old.device) l texts) (sym c.gather.ensures.numbers)
    (is_batch (maps.frame_at old.frames) (settled_device.geometry_of old.device) numbers texts old.in_order c.requires.some c.requires.most c.requires.rise c.requires.there (subst (λ (v : Version). AreTexts v (HasText (maps.frame_at old.frames)) c.args.numbers.now (texts_of c.gather.new.batch)) (c.gather.ensures.version ∙ old.batch_version) c.gather.ensures.texts))

pub begin_batch-requires-clause-version : goal.begin_batch-requires-clause-version
begin_batch-requires-clause-version g c = c.gather.ensures.version ∙ c.args.self.now.batch_version

pub invariant_of-self : goal.invariant_of-self
invariant_of-self g c = record {
  in_order = subst (AreInOrder (maps.frame_at c.args.self.now.frames)) (sym c.begin_batch.ensures.geometry) c.args.self.now.in_order;
  some = c.args.self.now.some;
  few = c.args.self.now.few;
  pages = c.args.self.now.pages ∙ ap page_count (sym c.begin_batch.ensures.geometry);
  batch_room = c.gather.ensures.room;
  batch_version = c.gather.ensures.version ∙ c.args.self.now.batch_version ∙ ap (λ (it : Geometry). it.version) (sym c.begin_batch.ensures.geometry);
  batch_is = λ some. absurd (some c.requires.rests);
}

pub invariant_of-self-2 : goal.invariant_of-self-2
invariant_of-self-2 g c = record {
  in_order = subst (AreInOrder (maps.frame_at c.args.self.now.frames)) (sym c.begin_batch.ensures.geometry) c.args.self.now.in_order;
  some = c.args.self.now.some;
  few = c.args.self.now.few;
  pages = c.args.self.now.pages ∙ ap page_count (sym c.begin_batch.ensures.geometry);
  batch_room = c.gather.ensures.room;
  batch_version = c.gather.ensures.version ∙ c.args.self.now.batch_version ∙ ap (λ (it : Geometry). it.version) (sym c.begin_batch.ensures.geometry);
  batch_is = λ some.
      let old = c.args.self.now in
      let texts = texts_of c.gather.new.batch in
      let is = is_batch (maps.frame_at old.frames) (settled_device.geometry_of old.device) c.args.numbers.now texts old.in_order c.requires.some c.requires.most c.requires.rise c.requires.there (subst (λ (v : Version). AreTexts v (HasText (maps.frame_at old.frames)) c.args.numbers.now (texts_of c.gather.new.batch)) (c.gather.ensures.version ∙ old.batch_version) c.gather.ensures.texts) in
      subst (λ (l : List ℕ). AreBatchNumbers (settled_device.geometry_of c.begin_batch.new.self) l) (sym c.gather.ensures.numbers)
      (subst (λ (it : Geometry). AreBatchNumbers it c.args.numbers.now) (sym c.begin_batch.ensures.geometry) (record { some = is.some; most = is.most; rise = is.rise; on_volume = is.on_volume }));
}

pub returns-clause-kept : goal.returns-clause-kept
returns-clause-kept g c front disk holds =
    let old = c.args.self.now in
    let numbers = c.gather.new.batch in
    let s : HoldsAmid amid.Rest old.device front disk (numbers_of old.batch) (texts_of old.batch) =
    subst (λ (way : Amid). HoldsAmid way old.device front disk (numbers_of old.batch) (texts_of old.batch)) c.requires.rests holds.settled in
    record {
      settled = c.in_ok-begin_batch.ensures.written front disk s;
      written = holds.written;
      held = subst (λ (it : Geometry). AreHeld it.version amid.Written (maps.frame_at old.frames) (numbers_of c.gather.new.batch) (texts_of c.gather.new.batch)) (sym c.begin_batch.ensures.geometry)
          (subst (λ (l : List ℕ). AreHeld (settled_device.geometry_of c.args.self.now.device).version amid.Written (maps.frame_at old.frames) l (texts_of c.gather.new.batch)) (sym c.gather.ensures.numbers) (subst (λ (v : Version). AreTexts v (HasText (maps.frame_at old.frames)) c.args.numbers.now (texts_of c.gather.new.batch)) (c.gather.ensures.version ∙ old.batch_version) c.gather.ensures.texts));
    }

pub returns-in_err-begin_batch-clause-any_moment : goal.returns-in_err-begin_batch-clause-any_moment
returns-in_err-begin_batch-clause-any_moment g c front disk holds =
    let old = c.args.self.now in
    let s : HoldsAmid amid.Rest old.device front disk (numbers_of old.batch) (texts_of old.batch) =
    subst (λ (way : Amid). HoldsAmid way old.device front disk (numbers_of old.batch) (texts_of old.batch)) c.requires.rests holds.settled in
    c.begin_batch.ensures.any_moment front disk s

pub returns-clause-any_moment : goal.returns-clause-any_moment
returns-clause-any_moment g c front disk holds =
    let old = c.args.self.now in
    let s : HoldsAmid amid.Rest old.device front disk (numbers_of old.batch) (texts_of old.batch) =
    subst (λ (way : Amid). HoldsAmid way old.device front disk (numbers_of old.batch) (texts_of old.batch)) c.requires.rests holds.settled in
    c.begin_batch.ensures.any_moment front disk s

use Rattle.std.proofs.Common.{◌≡◌, sym, ◌∙◌, ap, subst}
use Rattle.shore_pool.specs.FrameMaps as maps
use Rattle.shore_pool.specs.UnderWay.{AreHeld}
use Rattle.shore_types.specs.Layout.{HasPage}
use Rattle.shore_types.specs.declared.layout.Geometry.{Geometry}
use Rattle.shore_dwrite.specs.Volumes.{page_count, page_number}
use Rattle.shore_dwrite.specs.Images.{numbers_of, texts_of}
use Rattle.shore_dwrite.specs.Shown.{AreBatchNumbers}
use Rattle.shore_pool.proofs.UnderWay.{amid_stays}
use Rattle.shore_pool.proofs.pool.Pool+FuseDisk+D.set_fuse.Goals as goal

pub invariant_of-self : goal.invariant_of-self
invariant_of-self g c =
    let old = c.args.self.now in
    let same = sym c.set_fuse.ensures.geometry in
    record {
      in_order = λ k f there. subst (λ (x : Geometry). HasPage x f.page.id × (page_number x f.page.id ≡ k) × (f.page.version ≡ x.version)) same (old.in_order k f there);
      some = old.some;
      few = old.few;
      pages = old.pages ∙ ap page_count same;
      batch_room = c.args.self.now.batch_room;
      batch_version = old.batch_version ∙ ap (λ (x : Geometry). x.version) same;
      batch_is = λ some. subst (λ (x : Geometry). AreBatchNumbers x (numbers_of old.batch)) same (old.batch_is some);
    }

pub returns-clause-holds : goal.returns-clause-holds
returns-clause-holds g c front disk holds =
    let old = c.args.self.now in
    let new = c.set_fuse.new.self in
    record {
      settled = amid_stays old.amid old.device new (ap (λ d. g.D.Disk.history d) c.set_fuse.ensures.inner) (ap (λ d. g.D.Disk.is_honest d) c.set_fuse.ensures.inner) c.set_fuse.ensures.geometry
          front disk (numbers_of old.batch) (texts_of old.batch) holds.settled;
      written = holds.written;
      held = subst (λ (x : Geometry). AreHeld x.version old.amid (maps.frame_at old.frames) (numbers_of old.batch) (texts_of old.batch)) (sym c.set_fuse.ensures.geometry) holds.held;
    }

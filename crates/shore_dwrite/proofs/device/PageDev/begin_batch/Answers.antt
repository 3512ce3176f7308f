use Rattle.std.proofs.Common.{◌≡◌, ℕ, List, IsTrue, sym, subst, ◌*◌, length, ap, ◌∙◌}
use Rattle.shore_types.specs.declared.versions.Version.{Version}
use Rattle.shore_types.specs.Versions.{page_bytes}
use Rattle.shore_types.specs.declared.layout.Geometry.{Geometry}
use Rattle.shore_dwrite.specs.Shown.{AreInPlace, IsBatch}
use Rattle.shore_dwrite.specs.UnderWay as under_way
use Rattle.shore_dwrite.proofs.Batches.{area_in_place, area_laid, area_shows}
use Rattle.shore_dwrite.proofs.BatchMoments.{while_area}
use Rattle.shore_dwrite.proofs.BatchSteps.{written_shut}
use Rattle.shore_dwrite.proofs.Moves.{on_ok}
use Rattle.shore_dwrite.proofs.device.PageDev.begin_batch.Goals as goal

pub returns-clause-any_moment : goal.returns-clause-any_moment
returns-clause-any_moment g c front pages s =
    let old = c.args.self.now in
    let images = c.args.images.now in
    while_area old.geometry front pages images.numbers.items images.bytes.items c.requires.batch (images.as_many ∙ ap (λ (v : Version). page_bytes v * length images.numbers.items) c.requires.version) s.image s.front_is s.shut s.in_place _ _
    (c.write_area.ensures.any_moment s.image s.honest s.stands)

pub returns-clause-written : goal.returns-clause-written
returns-clause-written g c front pages s =
    let old = c.args.self.now in
    let images = c.args.images.now in
    let numbers = images.numbers.items in
    let texts = images.bytes.items in
    let same : c.write_area.new.self.geometry ≡ old.geometry = c.write_area.ensures.geometry in
    on_ok c.write_area.result (c.write_area.ensures.done s.image s.honest s.stands) (λ has. record {
      honest = subst IsTrue (sym c.write_area.ensures.honest) s.honest;
      batch = subst (λ (it : Geometry). IsBatch it numbers texts) (sym same) c.requires.batch;
      long = subst (λ (it : Geometry). length texts ≡ page_bytes it.version * length numbers) (sym same) (images.as_many ∙ ap (λ (v : Version). page_bytes v * length images.numbers.items) c.requires.version);
      image = has.0;
      stands = has.1;
      laid = subst (λ (it : Geometry). under_way.IsLaid it front pages numbers texts has.0) (sym same)
          (area_laid old.geometry front pages numbers texts c.requires.batch (images.as_many ∙ ap (λ (v : Version). page_bytes v * length images.numbers.items) c.requires.version) s.image s.front_is s.shut s.in_place has.0 has.2);
      shut = written_shut c.args.self.now.geometry.version s.image has.0 s.shut has.2.differs;
      in_place = subst (λ (it : Geometry). AreInPlace it has.0 pages) (sym same)
          (area_in_place old.geometry front pages numbers texts c.requires.batch (images.as_many ∙ ap (λ (v : Version). page_bytes v * length images.numbers.items) c.requires.version) s.image s.front_is s.shut s.in_place has.0 has.2.differs);
    })

pub returns-clause-settled : goal.returns-clause-settled
returns-clause-settled g c front pages s =
    let old = c.args.self.now in
    let images = c.args.images.now in
    let numbers = images.numbers.items in
    let texts = images.bytes.items in
    let same : c.write_area.new.self.geometry ≡ old.geometry = c.write_area.ensures.geometry in
    on_ok c.write_area.result (c.write_area.ensures.done s.image s.honest s.stands) (λ has. record {
      honest = subst IsTrue (sym c.write_area.ensures.honest) s.honest;
      image = has.0;
      stands = has.1;
      front_is = (area_shows old.geometry front pages numbers texts c.requires.batch (images.as_many ∙ ap (λ (v : Version). page_bytes v * length images.numbers.items) c.requires.version) s.image s.front_is s.shut s.in_place has.0 has.2.differs).0;
      shut = written_shut c.args.self.now.geometry.version s.image has.0 s.shut has.2.differs;
      in_place = subst (λ (it : Geometry). AreInPlace it has.0 pages) (sym same)
          (area_in_place old.geometry front pages numbers texts c.requires.batch (images.as_many ∙ ap (λ (v : Version). page_bytes v * length images.numbers.items) c.requires.version) s.image s.front_is s.shut s.in_place has.0 has.2.differs);
    })

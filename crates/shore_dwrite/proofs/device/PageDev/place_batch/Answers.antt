use Rattle.std.proofs.Common.{◌≡◌, ◌+◌, ◌*◌, [], ◌∷◌, ℕ, List, IsTrue, length, sym, ap, subst, ◌∙◌, arith}
use Rattle.shore_types.specs.declared.layout.Geometry.{Geometry}
use Rattle.shore_types.specs.Versions.{page_bytes, pages_begin, pages_begin-is}
use Rattle.shore_dwrite.specs.Shown.{AreInPlace, IsBatch, overlaid}
use Rattle.shore_dwrite.specs.UnderWay as under_way
use Rattle.shore_dwrite.specs.Volumes.{page_count}
use Rattle.shore_dwrite.proofs.BatchMoments.{placed_has, while_in_place}
use Rattle.shore_dwrite.proofs.Moves.{on_ok}
use Rattle.shore_dwrite.proofs.device.PageDev.place_batch.Goals as goal

pub returns-clause-any_moment : goal.returns-clause-any_moment
returns-clause-any_moment g c front pages s =
    let old = c.args.self.now in
    let images = c.args.images.now in
    let length_is : length s.image ≡ pages_begin c.args.self.now.geometry.version + page_bytes c.args.self.now.geometry.version * page_count old.geometry = sym (ap length s.stands.read) ∙ g.met.D.Disk.keeps_length old.device s.honest ∙ old.as_long in
    while_in_place old.geometry front pages images.numbers.items images.bytes.items s.batch s.long s.image (omega (arith, pages_begin-is c.args.self.now.geometry.version)) s.laid s.is_open _ _
    (c.write_in_place.ensures.any_moment s.image s.honest s.stands)

pub returns-clause-placed : goal.returns-clause-placed
returns-clause-placed g c front pages s =
    let old = c.args.self.now in
    let images = c.args.images.now in
    let numbers = images.numbers.items in
    let texts = images.bytes.items in
    let length_is : length s.image ≡ pages_begin c.args.self.now.geometry.version + page_bytes c.args.self.now.geometry.version * page_count old.geometry = sym (ap length s.stands.read) ∙ g.met.D.Disk.keeps_length old.device s.honest ∙ old.as_long in
    let same : c.write_in_place.new.self.geometry ≡ old.geometry = c.write_in_place.ensures.geometry in
    on_ok c.write_in_place.result (c.write_in_place.ensures.done s.image s.honest s.stands) (λ new.
    let has = placed_has old.geometry front pages numbers texts s.batch s.long s.image (omega (arith, pages_begin-is c.args.self.now.geometry.version)) s.laid s.is_open new.0 new.2 in
    record {
      opened = record {
        honest = subst IsTrue (sym c.write_in_place.ensures.honest) s.honest;
        batch = subst (λ (it : Geometry). IsBatch it numbers texts) (sym same) s.batch;
        long = subst (λ (it : Geometry). length texts ≡ page_bytes it.version * length numbers) (sym same) s.long;
        image = new.0;
        stands = new.1;
        laid = subst (λ (it : Geometry). under_way.IsLaid it front pages numbers texts new.0) (sym same) has.0;
        is_open = has.1;
      };
      in_place = subst (λ (it : Geometry). AreInPlace it new.0 (overlaid it.version numbers texts pages)) (sym same) has.2;
    })

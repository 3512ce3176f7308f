use Rattle.std.proofs.Common.{◌≡◌, ◌+◌, ◌*◌, [], ◌∷◌, ℕ, List, IsTrue, length, sym, ap, subst, ◌∙◌, arith}
use Rattle.shore_disk.specs.Device.{overwritten, Stands}
use Rattle.shore_types.specs.declared.layout.Geometry.{Geometry}
use Rattle.shore_types.specs.Versions.{page_bytes, pages_begin, pages_begin-is}
use Rattle.shore_gate.specs.declared.gates.TheConstants.{OPEN}
use Rattle.shore_dwrite.specs.Shown.{IsBatch}
use Rattle.shore_dwrite.specs.UnderWay as under_way
use Rattle.shore_dwrite.specs.Volumes.{page_count}
use Rattle.shore_dwrite.proofs.BatchMoments.{opened_gate, opened_laid, while_opened}
use Rattle.shore_dwrite.proofs.Moves.{on_ok}
use Rattle.shore_dwrite.proofs.device.PageDev.open_batch.Goals as goal

pub returns-clause-any_moment : goal.returns-clause-any_moment
returns-clause-any_moment g c front pages numbers texts s =
    let old = c.args.self.now in
    let length_is : length s.image ≡ pages_begin c.args.self.now.geometry.version + page_bytes c.args.self.now.geometry.version * page_count old.geometry = sym (ap length s.stands.read) ∙ g.met.D.Disk.keeps_length old.device s.honest ∙ old.as_long in
    while_opened old.geometry front pages numbers texts s.batch s.long s.image (omega (arith, pages_begin-is c.args.self.now.geometry.version)) s.laid s.shut s.in_place _ _ s.stands (c.set_gate.ensures.any_moment s.honest)

pub returns-clause-opened : goal.returns-clause-opened
returns-clause-opened g c front pages numbers texts s =
    let old = c.args.self.now in
    let length_is : length s.image ≡ pages_begin c.args.self.now.geometry.version + page_bytes c.args.self.now.geometry.version * page_count old.geometry = sym (ap length s.stands.read) ∙ g.met.D.Disk.keeps_length old.device s.honest ∙ old.as_long in
    let same : c.set_gate.new.self.geometry ≡ old.geometry = c.set_gate.ensures.geometry in
    on_ok c.set_gate.result (c.set_gate.ensures.stable s.honest) (λ stands. record {
      honest = subst IsTrue (sym c.set_gate.ensures.honest) s.honest;
      batch = subst (λ (it : Geometry). IsBatch it numbers texts) (sym same) s.batch;
      long = subst (λ (it : Geometry). length texts ≡ page_bytes it.version * length numbers) (sym same) s.long;
      image = overwritten s.image 4096 (OPEN ∷ []);
      stands = subst (λ (l : List ℕ). Stands (g.D.Disk.history c.set_gate.new.self.device) (overwritten l 4096 (OPEN ∷ []))) s.stands.read stands;
      laid = subst (λ (it : Geometry). under_way.IsLaid it front pages numbers texts (overwritten s.image 4096 (OPEN ∷ []))) (sym same) (opened_laid old.geometry front pages numbers texts s.batch s.long s.image (omega (arith, pages_begin-is c.args.self.now.geometry.version)) s.laid);
      is_open = opened_gate old.geometry front pages numbers texts s.batch s.long s.image (omega (arith, pages_begin-is c.args.self.now.geometry.version)) s.laid;
    })

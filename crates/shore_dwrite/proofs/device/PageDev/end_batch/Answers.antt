use Rattle.std.proofs.Common.{◌≡◌, ◌+◌, ◌*◌, [], ◌∷◌, ℕ, List, IsTrue, length, sym, ap, subst, ◌∙◌, arith}
use Rattle.shore_disk.specs.Device.{overwritten, Stands}
use Rattle.shore_types.specs.declared.layout.Geometry.{Geometry}
use Rattle.shore_types.specs.Versions.{page_bytes, pages_begin, pages_begin-is}
use Rattle.shore_gate.specs.declared.gates.TheConstants.{CLOSED}
use Rattle.shore_dwrite.specs.Shown.{AreInPlace, overlaid}
use Rattle.shore_dwrite.specs.Volumes.{page_count}
use Rattle.shore_dwrite.proofs.BatchMoments.{closed_has, while_closed}
use Rattle.shore_dwrite.proofs.Moves.{on_ok}
use Rattle.shore_dwrite.proofs.device.PageDev.end_batch.Goals as goal

pub returns-clause-any_moment : goal.returns-clause-any_moment
returns-clause-any_moment g c front pages numbers texts placed =
    let old = c.args.self.now in
    let s = placed.opened in
    let length_is : length s.image ≡ pages_begin c.args.self.now.geometry.version + page_bytes c.args.self.now.geometry.version * page_count old.geometry = sym (ap length s.stands.read) ∙ g.met.D.Disk.keeps_length old.device s.honest ∙ old.as_long in
    while_closed old.geometry front pages numbers texts s.batch s.long s.image (omega (arith, pages_begin-is c.args.self.now.geometry.version)) s.laid s.is_open placed.in_place _ _ s.stands (c.set_gate.ensures.any_moment s.honest)

pub returns-clause-settled : goal.returns-clause-settled
returns-clause-settled g c front pages numbers texts placed =
    let old = c.args.self.now in
    let s = placed.opened in
    let length_is : length s.image ≡ pages_begin c.args.self.now.geometry.version + page_bytes c.args.self.now.geometry.version * page_count old.geometry = sym (ap length s.stands.read) ∙ g.met.D.Disk.keeps_length old.device s.honest ∙ old.as_long in
    let has = closed_has old.geometry front pages numbers texts s.batch s.long s.image (omega (arith, pages_begin-is c.args.self.now.geometry.version)) s.laid placed.in_place in
    let same : c.set_gate.new.self.geometry ≡ old.geometry = c.set_gate.ensures.geometry in
    on_ok c.set_gate.result (c.set_gate.ensures.stable s.honest) (λ stands. record {
      honest = subst IsTrue (sym c.set_gate.ensures.honest) s.honest;
      image = overwritten s.image 4096 (CLOSED ∷ []);
      stands = subst (λ (l : List ℕ). Stands (g.D.Disk.history c.set_gate.new.self.device) (overwritten l 4096 (CLOSED ∷ []))) s.stands.read stands;
      front_is = has.0;
      shut = has.1;
      in_place = subst (λ (it : Geometry). AreInPlace it (overwritten s.image 4096 (CLOSED ∷ [])) (overlaid c.args.self.now.geometry.version numbers texts pages)) (sym same) has.2;
    })

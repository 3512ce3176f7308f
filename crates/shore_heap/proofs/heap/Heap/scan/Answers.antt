use Rattle.std.proofs.Common.{◌⊎◌, sym, subst}
use Rattle.shore_dwrite.proofs.Moves.{if_err}
use Rattle.shore_heap.specs.Heaps.{AsksForForce, claims_in, geometry_of}
use Rattle.shore_heap.specs.Places.{IsRefused}
use Rattle.shore_heap.proofs.Going.{answers, hands_on}
use Rattle.shore_heap.proofs.heap.Heap.scan.Goals as goal

pub returns-in_err-scan_pages-clause-reads : goal.returns-in_err-scan_pages-clause-reads
returns-in_err-scan_pages-clause-reads g c = hands_on (claims_in g.C.Claims c.args.claims.now) c.args.ends.now.durable c.args.self.now c.scan_pages.new.self c.from_residual.result _ c.from_residual.ensures.1 c.in_err-scan_pages.ensures.reads

pub returns-in_err-scan_pages-clause-refused : goal.returns-in_err-scan_pages-clause-refused
returns-in_err-scan_pages-clause-refused g c front disk holds up_to =
    let old = c.args.self.now in
    let why = c.in_err-scan_pages.ensures.refused front disk holds up_to in
    if_err c.from_residual.result c.from_residual.ensures.1 (λ fault is. subst (λ f. IsRefused (geometry_of old) disk c.args.store c.args.ends.now.last f ⊎ AsksForForce old c.args.ends.now.durable f) (sym is) why)

pub returns-clause-reads : goal.returns-clause-reads
returns-clause-reads g c = answers (claims_in g.C.Claims c.args.claims.now) c.args.ends.now.durable _ _ c.args.self.now c.scan_pages.new.self c.in_ok-scan_pages.ensures.reads

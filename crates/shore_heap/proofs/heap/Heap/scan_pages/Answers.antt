use Rattle.std.proofs.Common.{◌≡◌, ◌⊎◌, ℕ, refl, sym, subst, arith}
use Rattle.shore_dwrite.proofs.Moves.{if_err}
use Rattle.shore_types.specs.declared.ids.PageId.{PageId}
use Rattle.shore_types.specs.declared.layout.Geometry.{Geometry}
use Rattle.shore_types.specs.Layout.{HasPage}
use Rattle.shore_heap.specs.Heaps.{AsksForForce, claims_in, geometry_of}
use Rattle.shore_heap.specs.Places.{IsRefused}
use Rattle.shore_heap.specs.Scans.{HasBefore}
use Rattle.shore_heap.proofs.Going.{answers, goes_nowhere, hands_on, reads_then, refused_then, shown_mid}
use Rattle.shore_heap.proofs.Scanned.{all_pages, inside_so, nothing_yet}
use Rattle.shore_heap.proofs.heap.Heap.scan_pages.Goals as goal

abbrev the_page : ℕ → ℕ → PageId
the_page store page = record { store = store; page = page }

pub loop-page-init : goal.loop-page-init
loop-page-init g c = (
  goes_nowhere (claims_in g.C.Claims c.args.claims.now) c.args.ends.now.durable c.args.self.now,
  λ front disk S shows are. subst (HasBefore S c.args.store 0 0) (sym c.requires.none) (nothing_yet S c.args.store),
)

pub scan_page-requires : goal.scan_page-requires
scan_page-requires g c =
    subst (λ (it : Geometry). HasPage it (the_page c.args.store c.loop-page.page)) (sym c.loop-page.invariant.0.geometry)
    (inside_so (geometry_of c.args.self.now).stores (the_page c.args.store c.loop-page.page) c.pages_in-page-end.result c.pages_in-page-end.ensures c.loop-page-test.true)

pub loop-page-preserved : goal.loop-page-preserved
loop-page-preserved g c =
    let old = c.args.self.now in
    let mid = c.loop-page.self in
    let new = c.scan_page.new.self in
    let K = claims_in g.C.Claims c.args.claims.now in
    let inv = c.loop-page.invariant in
    let e = c.in_ok-scan_page.ensures in (
      answers K c.args.ends.now.durable _ tt old new (reads_then K c.args.ends.now.durable tt old mid new inv.0 _ e.reads),
      λ front disk S shows are.
          let shown = shown_mid K c.args.ends.now.durable tt old mid mid inv.0 front disk S shows are in
          e.scanned front shown.0 S shown.1 shown.2 S refl (inv.1 front disk S shows are),
    )

pub returns-in_err-scan_page-clause-reads : goal.returns-in_err-scan_page-clause-reads
returns-in_err-scan_page-clause-reads g c =
    let old = c.args.self.now in
    let mid = c.loop-page.self in
    let new = c.scan_page.new.self in
    let K = claims_in g.C.Claims c.args.claims.now in
    hands_on K c.args.ends.now.durable old new c.from_residual.result _ c.from_residual.ensures.1 (reads_then K c.args.ends.now.durable tt old mid new c.loop-page.invariant.0 _ c.in_err-scan_page.ensures.reads)

pub returns-in_err-scan_page-clause-refused : goal.returns-in_err-scan_page-clause-refused
returns-in_err-scan_page-clause-refused g c front disk holds up_to =
    let old = c.args.self.now in
    let mid = c.loop-page.self in
    let K = claims_in g.C.Claims c.args.claims.now in
    let goes = c.loop-page.invariant.0 in
    let id = the_page c.args.store c.loop-page.page in
    let one = goes.wrote front disk holds in
    let has : HasPage (geometry_of old) id = inside_so (geometry_of old).stores id c.pages_in-page-end.result c.pages_in-page-end.ensures c.loop-page-test.true in
    let why = refused_then K c.args.ends.now.durable tt old mid mid goes _ id c.args.ends.now.last (λ page. page.store ≡ c.args.store) refl has up_to front disk holds (c.in_err-scan_page.ensures.refused front one.0 one.1) in
    if_err c.from_residual.result c.from_residual.ensures.1 (λ fault is. subst (λ f. IsRefused (geometry_of old) disk c.args.store c.args.ends.now.last f ⊎ AsksForForce old c.args.ends.now.durable f) (sym is) why)

pub returns-clause-reads : goal.returns-clause-reads
returns-clause-reads g c = answers (claims_in g.C.Claims c.args.claims.now) c.args.ends.now.durable tt _ c.args.self.now c.loop-page.self c.loop-page.invariant.0

pub returns-clause-scanned : goal.returns-clause-scanned
returns-clause-scanned g c front disk S shows are =
    let end : c.loop-page.page ≡ c.pages_in-page-end.result = omega (arith, c.loop-page.auto.page-end, c.loop-page-test.false) in
    all_pages S (geometry_of c.args.self.now) c.args.store c.pages_in-page-end.result c.loop-page.list c.pages_in-page-end.ensures
    (subst (λ (n : ℕ). HasBefore S c.args.store n 0 c.loop-page.list) end (c.loop-page.invariant.1 front disk S shows are))

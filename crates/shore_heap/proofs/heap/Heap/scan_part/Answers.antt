use Rattle.std.proofs.Common.{◌≡◌, ◌<◌, ◌⊎◌, ℕ, List, Option, true, false, inl, inr, length, slice_get, unwrap_or, refl, sym, ap, subst, ◌∙◌, arith}
use Rattle.std.proofs.lemmas.Bool.{cases_lt}
use Rattle.shore_dwrite.proofs.Moves.{if_err}
use Rattle.shore_types.specs.declared.ids.PageId.{PageId}
use Rattle.shore_types.specs.declared.ids.Rid.{Rid}
use Rattle.shore_types.specs.declared.layout.Geometry.{Geometry}
use Rattle.shore_types.specs.Layout.{HasPage}
use Rattle.shore_heap.specs.Heaps.{AsksForForce, claims_in, geometry_of}
use Rattle.shore_heap.specs.Places.{IsRefusedAmong}
use Rattle.shore_heap.specs.Scans.{IsFrom, IsPart, IsReadFor, slots_from}
use Rattle.shore_heap.proofs.Going.{answers, goes_nowhere, hands_on, reads_then, refused_then, shown_mid}
use Rattle.shore_heap.proofs.Scanned.{inside_so, masked_there, nothing_before, one_part, page_below}
use Rattle.shore_heap.proofs.heap.Heap.scan_part.Goals as goal

abbrev the_page : ℕ → ℕ → PageId
the_page store page = record { store = store; page = page }

pub loop-page-init : goal.loop-page-init
loop-page-init g c = (
  goes_nowhere (claims_in g.C.Claims c.args.claims.now) c.args.ends.now.durable c.args.self.now,
  omega arith,
  λ front disk S shows are. (
    subst (IsPart S c.args.first.store c.args.first.page c.args.first.page) (sym c.clear.ensures) (nothing_before S c.args.first.store c.args.first.page),
    λ to part low high is. absurd (omega (arith, low, high)),
  ),
)

pub scan_page-requires : goal.scan_page-requires
scan_page-requires g c =
    subst (λ (it : Geometry). HasPage it (the_page c.args.first.store c.loop-page.page)) (sym c.loop-page.invariant.0.geometry)
    (inside_so (geometry_of c.args.self.now).stores (the_page c.args.first.store c.loop-page.page) c.pages_in-page-end.result c.pages_in-page-end.ensures c.loop-page-test.true)

pub loop-page-preserved : goal.loop-page-preserved
loop-page-preserved g c =
    let old = c.args.self.now in
    let mid = c.loop-page.self in
    let new = c.scan_page.new.self in
    let K = claims_in g.C.Claims c.args.claims.now in
    let inv = c.loop-page.invariant in
    let from = c.args.first.page in
    let e = c.in_ok-scan_page.ensures in (
      answers K c.args.ends.now.durable _ tt old new (reads_then K c.args.ends.now.durable tt old mid new inv.0 _ e.reads),
      omega (arith, inv.1),
      λ front disk S shows are.
          let shown = shown_mid K c.args.ends.now.durable tt old mid mid inv.0 front disk S shows are in
          let so_far = inv.2 front disk S shows are in (
            e.scanned front shown.0 S shown.1 shown.2 (slots_from from S) (masked_there from S (the_page c.args.first.store c.loop-page.page) inv.1) so_far.0,
            λ to part low high is. elim (cases_lt to c.loop-page.page) [
              | inl earlier ↦ so_far.1 to part low earlier is
              | inr last ↦ (
                  let here : to ≡ c.loop-page.page = omega (arith, high, last) in
                  let same : part ≡ c.loop-page.list = one_part S c.args.first.store from c.loop-page.page part c.loop-page.list (subst (λ (n : ℕ). IsPart S c.args.first.store from n part) here is) so_far.0 in
                  elim (cases_lt (length c.loop-page.list) c.args.most) [
                    | inl few ↦ omega (arith, ap (λ (l : List (Rid × List ℕ)). length l) same, few)
                    | inr many ↦ absurd (let clash : true ≡ false = sym (c.is_enough.ensures.1 (omega (arith, low, here), omega (arith, many, c.len.ensures))) ∙ c.if-is_enough.false in cc)
                  ])
            ],
          ),
    )

pub returns-in_err-scan_page-clause-reads : goal.returns-in_err-scan_page-clause-reads
returns-in_err-scan_page-clause-reads g c =
    let old = c.args.self.now in
    let mid = c.loop-page.self in
    let new = c.scan_page.new.self in
    let K = claims_in g.C.Claims c.args.claims.now in
    hands_on K c.args.ends.now.durable old new c.from_residual.result _ c.from_residual.ensures.1 (reads_then K c.args.ends.now.durable tt old mid new c.loop-page.invariant.0 _ c.in_err-scan_page.ensures.reads)

pub returns-in_err-scan_page-clause-refused : goal.returns-in_err-scan_page-clause-refused
returns-in_err-scan_page-clause-refused g c front disk holds up_to =
    let old = c.args.self.now in
    let mid = c.loop-page.self in
    let K = claims_in g.C.Claims c.args.claims.now in
    let goes = c.loop-page.invariant.0 in
    let id = the_page c.args.first.store c.loop-page.page in
    let one = goes.wrote front disk holds in
    let has : HasPage (geometry_of old) id = inside_so (geometry_of old).stores id c.pages_in-page-end.result c.pages_in-page-end.ensures c.loop-page-test.true in
    let why = refused_then K c.args.ends.now.durable tt old mid mid goes _ id c.args.ends.now.last (IsFrom c.args.first) (refl, c.loop-page.invariant.1) has up_to front disk holds (c.in_err-scan_page.ensures.refused front one.0 one.1) in
    if_err c.from_residual.result c.from_residual.ensures.1 (λ fault is. subst (λ f. IsRefusedAmong (geometry_of old) disk (IsFrom c.args.first) c.args.ends.now.last f ⊎ AsksForForce old c.args.ends.now.durable f) (sym is) why)

-- the pages before it are listed, and have fewer than were asked for
pub returns-in_err-scan_page-clause-stops : goal.returns-in_err-scan_page-clause-stops
returns-in_err-scan_page-clause-stops g c front disk S shows are up_to =
    let old = c.args.self.now in
    let mid = c.loop-page.self in
    let K = claims_in g.C.Claims c.args.claims.now in
    let inv = c.loop-page.invariant in
    let first = c.args.first in
    let id = the_page first.store c.loop-page.page in
    let one = inv.0.wrote front disk shows.holds in
    let has : HasPage (geometry_of old) id = inside_so (geometry_of old).stores id c.pages_in-page-end.result c.pages_in-page-end.ensures c.loop-page-test.true in
    let few : first.page < id.page → (part : List (Rid × List ℕ)) → IsPart S first.store first.page id.page part → length part < c.args.most =
    λ behind part is.
    let same : part ≡ c.loop-page.list = one_part S first.store first.page id.page part c.loop-page.list is (inv.2 front disk S shows are).0 in
    elim (cases_lt (length c.loop-page.list) c.args.most) [
      | inl few ↦ omega (arith, ap (λ (l : List (Rid × List ℕ)). length l) same, few)
      | inr many ↦ absurd (let clash : true ≡ false = sym (c.is_enough.ensures.1 (behind, omega (arith, many, c.len.ensures))) ∙ c.if-is_enough.false in cc)
    ] in
    let why = refused_then K c.args.ends.now.durable tt old mid mid inv.0 _ id c.args.ends.now.last (IsReadFor S first c.args.most) ((refl, inv.1), few) has up_to front disk shows.holds
    (c.in_err-scan_page.ensures.refused front one.0 one.1) in
    if_err c.from_residual.result c.from_residual.ensures.1
    (λ fault is. subst (λ f. IsRefusedAmong (geometry_of old) disk (IsReadFor S first c.args.most) c.args.ends.now.last f ⊎ AsksForForce old c.args.ends.now.durable f) (sym is) why)

pub returns-clause-reads : goal.returns-clause-reads
returns-clause-reads g c = answers (claims_in g.C.Claims c.args.claims.now) c.args.ends.now.durable tt _ c.args.self.now c.loop-page.self c.loop-page.invariant.0

-- it goes on with the next page
pub returns-then-is_enough-clause-reads : goal.returns-then-is_enough-clause-reads
returns-then-is_enough-clause-reads g c = answers (claims_in g.C.Claims c.args.claims.now) c.args.ends.now.durable _ _ c.args.self.now c.loop-page.self c.loop-page.invariant.0

pub returns-then-is_enough-clause-scanned : goal.returns-then-is_enough-clause-scanned
returns-then-is_enough-clause-scanned g c front disk S shows are = (c.loop-page.invariant.2 front disk S shows are).0

pub returns-then-is_enough-clause-short : goal.returns-then-is_enough-clause-short
returns-then-is_enough-clause-short g c front disk S shows are = (c.loop-page.invariant.2 front disk S shows are).1

pub returns-then-is_enough-clause-next : goal.returns-then-is_enough-clause-next
returns-then-is_enough-clause-next g c = (
  refl,
  inside_so (geometry_of c.args.self.now).stores (the_page c.args.first.store c.loop-page.page) c.pages_in-page-end.result c.pages_in-page-end.ensures c.loop-page-test.true,
  (c.is_enough.ensures.0 c.if-is_enough.true).0,
  omega (arith, (c.is_enough.ensures.0 c.if-is_enough.true).1, c.len.ensures),
)

-- .. or the store ends
pub returns-clause-scanned : goal.returns-clause-scanned
returns-clause-scanned g c front disk S shows are =
    let pages = c.pages_in-page-end.result in
    let first : c.args.first.page < pages = page_below (geometry_of c.args.self.now).stores c.args.first pages c.pages_in-page-end.ensures c.requires in
    let end : c.loop-page.page ≡ pages = omega (arith, first, c.loop-page.auto.page-end, c.loop-page-test.false) in
    subst (λ (n : ℕ). IsPart S c.args.first.store c.args.first.page n c.loop-page.list) (end ∙ sym (ap (λ (o : Option ℕ). unwrap_or o 0) c.pages_in-page-end.ensures)) (c.loop-page.invariant.2 front disk S shows are).0

pub returns-clause-short : goal.returns-clause-short
returns-clause-short g c front disk S shows are to part low high is =
    let pages = c.pages_in-page-end.result in
    let last : unwrap_or (slice_get (geometry_of c.args.self.now).stores c.args.first.store) 0 ≡ pages = ap (λ (o : Option ℕ). unwrap_or o 0) c.pages_in-page-end.ensures in
    (c.loop-page.invariant.2 front disk S shows are).1 to part low (omega (arith, high, last, c.loop-page-test.false)) is

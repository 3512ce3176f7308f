use Rattle.std.proofs.Common.{◌≡◌, ◌⊎◌, ◌<◌, ℕ, List, IsSomeAnd, inl, inr, refl, sym, subst, arith}
use Rattle.std.proofs.lemmas.Bool.{cases_lt}
use Rattle.shore_dwrite.proofs.Moves.{if_err}
use Rattle.shore_types.specs.declared.ids.PageId.{PageId}
use Rattle.shore_types.specs.declared.layout.Geometry.{Geometry}
use Rattle.shore_types.specs.Layout.{HasPage, HasSlot}
use Rattle.shore_page.specs.Room.{IsCandidate}
use Rattle.shore_page.specs.Slots.{Slot}
use Rattle.shore_heap.specs.Contents.{AreBounds, AreKept}
use Rattle.shore_heap.specs.Heaps.{AsksForForce, Shows, allowed_by, claims_in, frame_of, geometry_of}
use Rattle.shore_heap.specs.Places.{HasNoSlot, IsFirstSlot, IsRefused, slots_of}
use Rattle.shore_heap.proofs.Finding.{NoneOn, if_none_at, if_some_at, is_place, no_place, none_by_bound, none_next, none_unused, slot_there}
use Rattle.shore_heap.proofs.Going.{Goes, answers, goes_nowhere, hands_on, reads_then, refused_then, shown_mid}
use Rattle.shore_heap.proofs.Scanned.{inside_of}
use Rattle.shore_heap.proofs.heap.Heap.place_for.Goals as goal
use Rattle.shore_heap.proofs.heap.Heap.place_for.Goals.{then-may_use+in_ok-tried+in_default-tried, else-may_use}

abbrev the_page : ℕ → ℕ → PageId
the_page store page = record { store = store; page = page }

pub loop-from-init : goal.loop-from-init
loop-from-init g c = record { goes = goes_nowhere (claims_in g.C.Claims c.args.claims.now) c.args.ends.now.durable c.args.self.now; none = λ front disk S shows are j less. absurd (omega (arith, less)) }

pub returns-in_default-clause-reads : goal.returns-in_default-clause-reads
returns-in_default-clause-reads g c = answers (claims_in g.C.Claims c.args.claims.now) c.args.ends.now.durable tt _ c.args.self.now c.loop-from.self c.loop-from.invariant.goes

pub returns-in_err-tried-clause-reads : goal.returns-in_err-tried-clause-reads
returns-in_err-tried-clause-reads g c =
    let old = c.args.self.now in
    let mid = c.loop-from.self in
    let new = c.try_page.new.self in
    let K = claims_in g.C.Claims c.args.claims.now in
    hands_on K c.args.ends.now.durable old new c.from_residual.result _ c.from_residual.ensures.1 (reads_then K c.args.ends.now.durable tt old mid new c.loop-from.invariant.goes _ c.in_err-tried.ensures.reads)

pub returns-in-Some-tried-clause-reads : goal.returns-in-Some-tried-clause-reads
returns-in-Some-tried-clause-reads g c =
    let old = c.args.self.now in
    let mid = c.loop-from.self in
    let new = c.try_page.new.self in
    let K = claims_in g.C.Claims c.args.claims.now in
    answers K c.args.ends.now.durable _ _ old new (reads_then K c.args.ends.now.durable tt old mid new c.loop-from.invariant.goes _ c.in_ok-tried.ensures.reads)

pub returns-clause-reads : goal.returns-clause-reads
returns-clause-reads g c = answers (claims_in g.C.Claims c.args.claims.now) c.args.ends.now.durable tt _ c.args.self.now c.loop-from.self c.loop-from.invariant.goes

pub returns-in_default-clause-none : goal.returns-in_default-clause-none
returns-in_default-clause-none g c front disk S shows are =
    let old = c.args.self.now in
    let mid = c.loop-from.self in
    let inv = c.loop-from.invariant in
    let allowed = allowed_by g.P.Places c.args.places.now in
    let shown = shown_mid (claims_in g.C.Claims c.args.claims.now) c.args.ends.now.durable tt old mid mid inv.goes front disk S shows are in
    let bounds = subst (λ (it : Geometry). AreBounds it mid.free.items S) inv.goes.geometry shown.1.bounds in
    let none = c.next_page.ensures.none c.in_default.is in
    no_place (geometry_of old) S c.args.store c.args.bytes allowed (λ j. elim (cases_lt j c.loop-from.from) [
      | inl low ↦ inv.none front disk S shows are j low
      | inr high ↦ none_by_bound (geometry_of old) S c.args.store c.args.bytes allowed mid.free.items bounds j (none j high)
    ])

pub returns-in_err-tried-clause-refused : goal.returns-in_err-tried-clause-refused
returns-in_err-tried-clause-refused g c front disk holds up_to =
    let old = c.args.self.now in
    let mid = c.loop-from.self in
    let K = claims_in g.C.Claims c.args.claims.now in
    let goes = c.loop-from.invariant.goes in
    let id = the_page c.args.store c.in-Some.page in
    let one = goes.wrote front disk holds in
    let has : HasPage (geometry_of old) id = subst (λ (it : Geometry). HasPage it id) goes.geometry c.in-Some.ensures.there in
    let why = refused_then K c.args.ends.now.durable tt old mid mid goes _ id c.args.ends.now.last (λ page. page.store ≡ c.args.store) refl has up_to front disk holds (c.in_err-tried.ensures.refused front one.0 one.1) in
    if_err c.from_residual.result c.from_residual.ensures.1 (λ fault is. subst (λ f. IsRefused (geometry_of old) disk c.args.store c.args.ends.now.last f ⊎ AsksForForce old c.args.ends.now.durable f) (sym is) why)

pub returns-in-Some-tried-clause-found : goal.returns-in-Some-tried-clause-found
returns-in-Some-tried-clause-found g c front disk S shows are =
    let old = c.args.self.now in
    let mid = c.loop-from.self in
    let inv = c.loop-from.invariant in
    let page = c.in-Some.page in
    let id = the_page c.args.store page in
    let allowed = allowed_by g.P.Places c.args.places.now in
    let shown = shown_mid (claims_in g.C.Claims c.args.claims.now) c.args.ends.now.durable tt old mid mid inv.goes front disk S shows are in
    let bounds = subst (λ (it : Geometry). AreBounds it mid.free.items S) inv.goes.geometry shown.1.bounds in
    let first =
    subst (λ (it : Geometry). IsFirstSlot it.version (S id) c.args.bytes (slots_of allowed id) c.in-Some-tried.slot) inv.goes.geometry
    (if_some_at (IsFirstSlot (geometry_of mid).version (S id) c.args.bytes (slots_of allowed id)) c.in_ok-tried.tried c.in-Some-tried.slot c.in-Some-tried.is (c.in_ok-tried.ensures.found front shown.0 S shown.1 shown.2)) in
    is_place (geometry_of old) S c.args.store c.args.bytes allowed page c.in-Some-tried.slot (λ j less. elim (cases_lt j c.loop-from.from) [
      | inl low ↦ inv.none front disk S shows are j low
      | inr high ↦ none_by_bound (geometry_of old) S c.args.store c.args.bytes allowed mid.free.items bounds j (c.in-Some.ensures.passed j high less)
    ]) (subst (λ (it : Geometry). HasPage it id) inv.goes.geometry c.in-Some.ensures.there) first

pub returns-in-Some-tried-clause-framed : goal.returns-in-Some-tried-clause-framed
returns-in-Some-tried-clause-framed g c =
    let id = the_page c.args.store c.in-Some.page in
    let mid = c.loop-from.self in
    subst (λ (it : Geometry). IsSomeAnd (frame_of c.try_page.new.self id) (λ f. IsCandidate it.version f.page.slots c.in-Some-tried.slot c.args.bytes)) c.loop-from.invariant.goes.geometry
    (if_some_at (λ (slot : ℕ). IsSomeAnd (frame_of c.try_page.new.self id) (λ f. IsCandidate (geometry_of mid).version f.page.slots slot c.args.bytes)) c.in_ok-tried.tried c.in-Some-tried.slot c.in-Some-tried.is c.in_ok-tried.ensures.framed)

pub returns-in-Some-tried-clause-there : goal.returns-in-Some-tried-clause-there
returns-in-Some-tried-clause-there g c =
    let mid = c.loop-from.self in
    let id = the_page c.args.store c.in-Some.page in
    let framed = if_some_at (λ (slot : ℕ). IsSomeAnd (frame_of c.try_page.new.self id) (λ f. IsCandidate (geometry_of mid).version f.page.slots slot c.args.bytes)) c.in_ok-tried.tried c.in-Some-tried.slot c.in-Some-tried.is c.in_ok-tried.ensures.framed in
    subst (λ (it : Geometry). HasSlot it (record { page = id; slot = c.in-Some-tried.slot })) c.loop-from.invariant.goes.geometry
    (slot_there (geometry_of mid) (record { page = id; slot = c.in-Some-tried.slot }) (frame_of c.try_page.new.self id) c.args.bytes c.in-Some.ensures.there framed)

pub loop-from-preserved : goal.loop-from-preserved
loop-from-preserved g c =
    let old = c.args.self.now in
    let mid = c.loop-from.self in
    let inv = c.loop-from.invariant in
    let page = c.in-Some.page in
    let store = c.args.store in
    let bytes = c.args.bytes in
    let K = claims_in g.C.Claims c.args.claims.now in
    let allowed = allowed_by g.P.Places c.args.places.now in
    let below = λ (front : List ℕ) (disk : ℕ → List ℕ) (S : PageId → List Slot) (shows : Shows K old front disk S) (are : AreKept (geometry_of old) K S) (here : NoneOn (geometry_of old) S store bytes allowed page).
    let shown = shown_mid K c.args.ends.now.durable tt old mid mid inv.goes front disk S shows are in
    let bounds = subst (λ (it : Geometry). AreBounds it mid.free.items S) inv.goes.geometry shown.1.bounds in
    none_next (geometry_of old) S store bytes allowed c.loop-from.from page (inv.none front disk S shows are)
    (λ j high less. none_by_bound (geometry_of old) S store bytes allowed mid.free.items bounds j (c.in-Some.ensures.passed j high less)) here in
    elim c.if-may_use.branch [
      | then-may_use+in_ok-tried+in_default-tried w ↦
          let new = w.try_page.new.self in
          let e = w.in_ok-tried.ensures in record {
            goes = subst (λ h. Goes K c.args.ends.now.durable old h) (sym w.self-is) (answers K c.args.ends.now.durable _ tt old new (reads_then K c.args.ends.now.durable tt old mid new inv.goes _ e.reads));
            none = λ front disk S shows are.
                let shown = shown_mid K c.args.ends.now.durable tt old mid mid inv.goes front disk S shows are in
                let none = subst (λ (it : Geometry). HasNoSlot it.version (S (the_page store page)) bytes (slots_of allowed (the_page store page))) inv.goes.geometry
                (if_none_at (HasNoSlot (geometry_of mid).version (S (the_page store page)) bytes (slots_of allowed (the_page store page))) w.in_ok-tried.tried w.in_default-tried.is (e.none front shown.0 S shown.1 shown.2)) in
                below front disk S shows are (λ has. none);
          }
      | else-may_use w ↦ record {
        goes = subst (λ h. Goes K c.args.ends.now.durable old h) (sym w.self-is) inv.goes;
        none = λ front disk S shows are. below front disk S shows are (none_unused (geometry_of old) S store bytes allowed page (c.may_use.ensures.none w.if-may_use.false));
      }
    ]

pub returns-clause-none : goal.returns-clause-none
returns-clause-none g c front disk S shows are =
    let old = c.args.self.now in
    let store = c.args.store in
    no_place (geometry_of old) S store c.args.bytes (allowed_by g.P.Places c.args.places.now) (λ j has.
    let inside : j < c.pages_in-end.result = inside_of (geometry_of old).stores (the_page store j) c.pages_in-end.result c.pages_in-end.ensures has in
    c.loop-from.invariant.none front disk S shows are j (omega (arith, inside, c.loop-from-test.false)) has)

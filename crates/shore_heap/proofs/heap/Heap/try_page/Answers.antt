use Rattle.std.proofs.Common.{inl, inr, sym, subst, ◌∙◌, IsSomeAnd}
use Rattle.shore_dwrite.proofs.Moves.{if_err}
use Rattle.shore_pool.specs.Pools as pools
use Rattle.shore_dwrite.specs.Volumes.{page_number}
use Rattle.shore_types.specs.declared.layout.Geometry.{Geometry}
use Rattle.shore_types.specs.Layout.{HasPage}
use Rattle.shore_heap.specs.Heaps.{allowed_by, claims_in, geometry_of}
use Rattle.shore_heap.specs.Places.{HasNoSlot, IsFirstSlot, slots_of}
use Rattle.shore_heap.proofs.Frames.{of_shown}
use Rattle.shore_heap.proofs.Going.{answers, hands_on, learns}
use Rattle.shore_heap.proofs.OwnVersions.{some_to}
use Rattle.shore_page.specs.Room.{IsCandidate}
use Rattle.shore_heap.proofs.heap.Heap.try_page.Goals as goal

pub returns-in_err-fetch-clause-reads : goal.returns-in_err-fetch-clause-reads
returns-in_err-fetch-clause-reads g c = hands_on (claims_in g.C.Claims c.args.claims.now) c.args.ends.now.durable c.args.self.now c.fetch.new.self c.from_residual.result _ c.from_residual.ensures.1 c.in_err-fetch.ensures.reads

pub returns-in_err-fetch-clause-refused : goal.returns-in_err-fetch-clause-refused
returns-in_err-fetch-clause-refused g c front disk holds =
    if_err c.from_residual.result c.from_residual.ensures.1 (λ fault is. elim (c.in_err-fetch.ensures.refused front disk holds) [
      | inl device ↦ inl (is ∙ device)
      | inr other ↦ elim other [
        | inl memory ↦ inr (inl (is ∙ memory))
        | inr last ↦ elim last [
          | inl damaged ↦ inr (inr (inl (is ∙ damaged.0, damaged.1)))
          | inr force ↦ inr (inr (inr (force.0, is ∙ force.1, force.2)))
        ]
      ]
    ])

pub returns-in-Some-clause-reads : goal.returns-in-Some-clause-reads
returns-in-Some-clause-reads g c = answers (claims_in g.C.Claims c.args.claims.now) c.args.ends.now.durable _ _ c.args.self.now c.fetch.new.self c.in_ok-fetch.ensures.reads

pub returns-in-Some-clause-found : goal.returns-in-Some-clause-found
returns-in-Some-clause-found g c front disk S shows are =
    let K = claims_in g.C.Claims c.args.claims.now in
    let it = c.fetch.new.self.pool in
    let id = c.args.id in
    let shown = c.in_ok-fetch.ensures.reads.kept front disk S shows are in
    subst (λ (it : Geometry). IsFirstSlot it.version (S id) c.args.bytes (slots_of (allowed_by g.P.Places c.args.places.now) id) c.in-Some.slot) c.fetch.ensures.reads.geometry
    (of_shown (geometry_of c.fetch.new.self).version (λ slots. IsFirstSlot (geometry_of c.fetch.new.self).version slots c.args.bytes (slots_of (allowed_by g.P.Places c.args.places.now) id) c.in-Some.slot)
    (pools.frame_of it id) (shown.0 (page_number (pools.geometry_of it) id)) id (K id) (S id)
    (shown.1.pages id (subst (λ (g : Geometry). HasPage g id) (sym c.fetch.ensures.reads.geometry) c.requires.there)) c.in-Some.ensures)

pub returns-in-None-clause-reads : goal.returns-in-None-clause-reads
returns-in-None-clause-reads g c =
    let K = claims_in g.C.Claims c.args.claims.now in
    learns K c.args.ends.now.durable _ c.args.self.now c.fetch.new.self c.refuse_if_full.new.self c.refuse_if_full.ensures.pool _ c.in_ok-fetch.ensures.reads (λ front disk S shows. c.refuse_if_full.ensures.bounds K front disk S shows)

pub returns-in-None-clause-none : goal.returns-in-None-clause-none
returns-in-None-clause-none g c front disk S shows are =
    let K = claims_in g.C.Claims c.args.claims.now in
    let it = c.fetch.new.self.pool in
    let id = c.args.id in
    let shown = c.in_ok-fetch.ensures.reads.kept front disk S shows are in
    subst (λ (it : Geometry). HasNoSlot it.version (S id) c.args.bytes (slots_of (allowed_by g.P.Places c.args.places.now) id)) c.fetch.ensures.reads.geometry
    (of_shown (geometry_of c.fetch.new.self).version (λ slots. HasNoSlot (geometry_of c.fetch.new.self).version slots c.args.bytes (slots_of (allowed_by g.P.Places c.args.places.now) id))
    (pools.frame_of it id) (shown.0 (page_number (pools.geometry_of it) id)) id (K id) (S id)
    (shown.1.pages id (subst (λ (g : Geometry). HasPage g id) (sym c.fetch.ensures.reads.geometry) c.requires.there)) c.in-None.ensures)

pub returns-in-Some-clause-framed : goal.returns-in-Some-clause-framed
returns-in-Some-clause-framed g c =
    let id = c.args.id in
    let new = c.fetch.new.self in
    let may = slots_of (allowed_by g.P.Places c.args.places.now) id in
    subst (λ (it : Geometry). IsSomeAnd (pools.frame_of new.pool id) (λ f. IsCandidate it.version f.page.slots c.in-Some.slot c.args.bytes)) c.fetch.ensures.reads.geometry
    (some_to (λ f. IsFirstSlot (geometry_of new).version f.page.slots c.args.bytes may c.in-Some.slot) (λ f. IsCandidate (geometry_of new).version f.page.slots c.in-Some.slot c.args.bytes)
    (λ f first. first.candidate) (pools.frame_of new.pool id) c.in-Some.ensures)

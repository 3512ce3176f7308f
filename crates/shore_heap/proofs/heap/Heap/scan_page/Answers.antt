use Rattle.std.proofs.Common.{inl, inr, ◌∙◌}
use Rattle.shore_dwrite.proofs.Moves.{if_err}
use Rattle.shore_heap.specs.Heaps.{claims_in}
use Rattle.shore_heap.proofs.Going.{answers, hands_on, lacks_memory}
use Rattle.shore_heap.proofs.heap.Heap.scan_page.Goals as goal

pub returns-in_err-fetch-clause-reads : goal.returns-in_err-fetch-clause-reads
returns-in_err-fetch-clause-reads g c = hands_on (claims_in g.C.Claims c.args.claims.now) c.args.ends.now.durable c.args.self.now c.fetch.new.self c.from_residual.result _ c.from_residual.ensures.1 c.in_err-fetch.ensures.reads

pub returns-in_err-fetch-clause-refused : goal.returns-in_err-fetch-clause-refused
returns-in_err-fetch-clause-refused g c front disk holds =
    if_err c.from_residual.result c.from_residual.ensures.1 (λ fault is. elim (c.in_err-fetch.ensures.refused front disk holds) [
      | inl device ↦ inl (is ∙ device)
      | inr other ↦ elim other [
        | inl memory ↦ inr (inl (is ∙ memory))
        | inr last ↦ elim last [
          | inl damaged ↦ inr (inr (inl (is ∙ damaged.0, damaged.1)))
          | inr force ↦ inr (inr (inr (force.0, is ∙ force.1, force.2)))
        ]
      ]
    ])

pub returns-in_err-copy_page-clause-reads : goal.returns-in_err-copy_page-clause-reads
returns-in_err-copy_page-clause-reads g c = lacks_memory (claims_in g.C.Claims c.args.claims.now) c.args.ends.now.durable _ c.args.self.now c.fetch.new.self c.from_residual-in_err-copy_page.result c.from_residual-in_err-copy_page.ensures.1 c.in_ok-fetch.ensures.reads

pub returns-clause-reads : goal.returns-clause-reads
returns-clause-reads g c = answers (claims_in g.C.Claims c.args.claims.now) c.args.ends.now.durable _ _ c.args.self.now c.fetch.new.self c.in_ok-fetch.ensures.reads

pub returns-clause-scanned : goal.returns-clause-scanned
returns-clause-scanned g c front disk S shows are P like before =
    let shown = c.in_ok-fetch.ensures.reads.kept front disk S shows are in
    c.in_ok-copy_page.ensures (claims_in g.C.Claims c.args.claims.now) front shown.0 S shown.1 P like before

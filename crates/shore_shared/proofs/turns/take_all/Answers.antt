use Rattle.std.proofs.Common.{◌≡◌, ◌⊎◌, ◌++◌, inl, inr, ⊎_elim, Bool, true, false, Ok, refl, ap, ◌∙◌, arith}
use Rattle.shore_shared.proofs.turns.take_all.Goals as goal

one_or_other : (b : Bool) → (b ≡ true) ⊎ (b ≡ false)
one_or_other true = inl refl
one_or_other false = inr refl

-- The queue was found empty.
pub returns-then-not-branch-clause-all : goal.returns-then-not-branch-clause-all
returns-then-not-branch-clause-all g c =
    let none : c.in_ok-take_one.field-0 ≡ false = c.if-not-branch.true in
    let empty = c.take_one.ensures.emptied (c.in_ok-take_one.was ∙ ap Ok none) in
    let same = c.take_one.ensures.none (c.in_ok-take_one.was ∙ ap Ok none) in
    inl (empty.0, same.1 ∙ empty.1 ∙ ap (λ l. l ++ empty.0) c.loop-count.invariant.1)

pub loop-count-preserved : goal.loop-count-preserved
loop-count-preserved g c =
    let i = c.loop-count.invariant in
    let s = c.take_one.ensures.same in
    let yes : c.in_ok-take_one.field-0 ≡ true = c.if-not-branch.false in
    let more = c.take_one.ensures.some (c.in_ok-take_one.was ∙ ap Ok yes) in
    (omega (arith, i.0, more), s.8 ∙ i.1, s.0 ∙ i.2, s.1 ∙ i.3, s.2 ∙ i.4, s.4 ∙ i.5, s.5 ∙ i.6, s.7 ∙ i.7, s.3 ∙ i.8, s.9 ∙ i.9, s.10 ∙ i.10, λ none. c.take_one.ensures.texts.1 (i.11 none))

-- .. or the last one takes it behind so many.
pub returns-clause-all : goal.returns-clause-all
returns-clause-all g c =
    let i = c.loop-count.invariant in
    let is = c.in_ok-take_one-2.was in
    ⊎_elim
    (λ yes. let more = c.take_one-2.ensures.some (is ∙ ap Ok yes) in inr (omega (arith, i.0, more)))
    (λ no.
    let empty = c.take_one-2.ensures.emptied (is ∙ ap Ok no) in
    let same = c.take_one-2.ensures.none (is ∙ ap Ok no) in
    inl (empty.0, same.1 ∙ empty.1 ∙ ap (λ l. l ++ empty.0) i.1))
    (one_or_other c.in_ok-take_one-2.field-0)

use Rattle.std.proofs.Common.{◌≡◌, ◌≤◌, ◌+◌, ◌∷◌, ◌++◌, [], ℕ, List, IsSomeAnd, get_or, length, take, subst, sym, arith}
use Rattle.std.proofs.lemmas.List.{take_more, take_all}
use Rattle.std.proofs.lemmas.List.Elements.{All-get_or, All-push}
use Rattle.shore_pool.specs.FrameMaps as maps
use Rattle.shore_pool.specs.Pages.{AreUpTo}
use Rattle.shore_pool.proofs.pool.Pool.is_up_to.Goals as goal

pub loop-i-preserved : goal.loop-i-preserved
loop-i-preserved g c =
    let at = maps.frame_at c.args.self.now.frames in
    let ns = c.numbers-numbers.result.now in
    let i = c.loop-i.i in
    let n = get_or ns i 0 in
    let longer : take (i + 1) ns ≡ take i ns ++ n ∷ [] = take_more ns i 0 c.loop-i-test.true in
    subst (AreUpTo at c.args.durable) (sym longer) (All-push (λ k. IsSomeAnd (at k) (λ f. f.page.number ≤ c.args.durable)) (take i ns) n c.loop-i.invariant (c.is_up_to.ensures.yes c.if-not-is_up_to.false))

pub returns-clause-yes : goal.returns-clause-yes
returns-clause-yes g c = λ _.
    let at = maps.frame_at c.args.self.now.frames in
    let ns = c.numbers-numbers.result.now in
    let i = c.loop-i.i in
    let whole : take i ns ≡ ns = take_all i ns (omega (arith, c.loop-i-test.false)) in
    subst (AreUpTo at c.args.durable) c.numbers-numbers.ensures (subst (AreUpTo at c.args.durable) whole c.loop-i.invariant)

pub returns-then-not-is_up_to-clause-no : goal.returns-then-not-is_up_to-clause-no
returns-then-not-is_up_to-clause-no g c = λ _ all.
    let at = maps.frame_at c.args.self.now.frames in
    let ns = c.numbers-numbers.result.now in
    c.is_up_to.ensures.no c.if-not-is_up_to.true
    (All-get_or (λ k. IsSomeAnd (at k) (λ f. f.page.number ≤ c.args.durable)) ns c.loop-i.i 0 c.loop-i-test.true (subst (AreUpTo at c.args.durable) (sym c.numbers-numbers.ensures) all))

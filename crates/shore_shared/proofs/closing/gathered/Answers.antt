use Rattle.std.proofs.Common.{◌≡◌, ◌≤◌, ◌+◌, ℕ, All, IsTrue, List, ◌∷◌, true, length, map, sum, sym, ap, ◌∙◌, arith}
use Rattle.std.proofs.lemmas.List.Elements.{All-cons, All-same}
use Rattle.std.proofs.lemmas.List.Sums.{sum-map, sum_by-cons}
use Rattle.shore_held.specs.Trails.{has_failure, noted_in}
use Rattle.shore_words.specs.Words.{heard_of}
use Rattle.shore_shared.proofs.closing.gathered.Goals as goal

-- what is shown of the rest, once it is shown of the next
with_next : {X : Type 0} (x : X) (xs ys all : List X) (P : X → Type 0) → ys ≡ x ∷ xs → P x → (All P ys → All P all) → All P xs → All P all
with_next x xs ys all P steps here were are = were (All-same P ys (x ∷ xs) steps (All-cons P x xs here are))

-- so much for the next, and for the rest
sum_next : {X : Type 0} (x : X) (xs ys : List X) (f : X → ℕ) → ys ≡ x ∷ xs → sum (map f ys) ≡ f x + sum (map f xs)
sum_next x xs ys f steps = ap (λ zs. sum (map f zs)) steps ∙ sum-map f (x ∷ xs) ∙ sum_by-cons f x xs ∙ ap (λ n. f x + n) (sym (sum-map f xs))

pub loop-session-preserved : goal.loop-session-preserved
loop-session-preserved g c =
    let inv = c.loop-session.invariant in
    let s = c.in-Some.session in
    let was = c.loop-session.session-iterator.rest.items in
    let rest = c.next.new.self.rest.items in
    let steps = c.in-Some.ensures.steps.0 in
    let all = c.args.sessions.items in
    let s1 = c.show-in-loop-session.ensures.same in
    let s2 = c.show-in-loop-session-2.ensures.same in
    let amounts : sum (map (λ x. x.share.amount) was) ≡ s.share.amount + sum (map (λ x. x.share.amount) rest) = sum_next s rest was (λ x. x.share.amount) steps in
    let long : length was ≡ length rest + 1 = omega (arith, ap length steps) in
    let seen : s.seat.seen ≤ c.args.held.now.told = omega (arith, c.compare.ensures.seen, ap (λ h. h.told) inv.2) in
    let found : s.seat.failed ≡ true → IsTrue (has_failure c.args.core.now.asked.items) =
    λ p. ap has_failure (sym inv.5) ∙ c.show-in-loop-session.ensures.failed (ap (λ v. v.failed) c.compare.ensures.same.1 ∙ p) in
    let heard : heard_of s.number (noted_in c.args.core.now.asked.items c.args.core.now.stepped.items) ≡ s.ear.heard =
    (λ i. heard_of (sym s.listens.1 i) (noted_in (sym (s1.2 ∙ inv.5) i) (sym (s1.3 ∙ inv.6) i))) ∙ c.show-in-loop-session-2.ensures.whole s.listens.0.0 in (
      omega (arith, c.merge.ensures.parts, inv.0, s.part, long),
      omega (arith, c.merge.ensures.amount, inv.1, amounts),
      c.compare.ensures.same.0 ∙ inv.2,
      with_next s rest was all (λ x. x.seat.seen ≤ c.args.held.now.told) steps seen inv.3,
      with_next s rest was all (λ x. heard_of x.number (noted_in c.args.core.now.asked.items c.args.core.now.stepped.items) ≡ x.ear.heard) steps heard inv.4,
      s2.2 ∙ s1.2 ∙ inv.5,
      s2.3 ∙ s1.3 ∙ inv.6,
      s2.0 ∙ s1.0 ∙ inv.7,
      s2.1 ∙ s1.1 ∙ inv.8,
      s2.4 ∙ s1.4 ∙ inv.9,
      s2.5 ∙ s1.5 ∙ inv.10,
      s2.6 ∙ s1.6 ∙ inv.11,
      with_next s rest was all (λ x. x.seat.failed ≡ true → IsTrue (has_failure c.args.core.now.asked.items)) steps found inv.12,
    )

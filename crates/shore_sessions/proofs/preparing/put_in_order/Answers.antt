use Rattle.std.proofs.Common.{◌≡◌, ℕ, List, rules}
use Rattle.std.specs.Cmp.Lexicographic.{slice_cmp}
use Rattle.std.specs.Ordering.{is_lt, nat_cmp}
use Rattle.std.proofs.lemmas.Cmp.{nat_list_cmp_total}
use Rattle.std.proofs.lemmas.Fn.{always_returns_same}
use Rattle.std.proofs.lemmas.List.Sorted.{ranks_by}
use Rattle.shore_sessions.proofs.preparing.put_in_order.Goals as goal

name : List ℕ × ℕ → List ℕ
name p = p.0

pub returns-clause-order : goal.returns-clause-order
unfolding name
returns-clause-order c = c.sort_unstable_by.ensures.sorted (λ x y. is_lt (slice_cmp nat_cmp (name x) (name y))) (ranks_by nat_list_cmp_total name)
    (always_returns_same _ (λ a r. is_lt r ≡ is_lt (slice_cmp nat_cmp (name a.0.now) (name a.1.0.now))) _ (λ a r q k. search rules))

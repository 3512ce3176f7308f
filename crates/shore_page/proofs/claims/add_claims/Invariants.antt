use Rattle.std.proofs.Common.{◌≡◌, ◌-◌, ◌++◌, length, replicate, vec_capacity}
use Rattle.shore_page.proofs.claims.add_claims.Given as goal

abbrev pub invariant-loop : goal.invariant-loop
invariant-loop l = record {
  claims : l.claims.items ≡ l.initial.claims.items ++ replicate (l.counter - length l.initial.claims.items) 0;
  capacity : vec_capacity l.claims ≡ vec_capacity l.initial.claims;
}

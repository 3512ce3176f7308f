use Rattle.std.proofs.Common.{◌≡◌, rules}
use Rattle.std.proofs.lemmas.Fn.{always_returns_same}
use Rattle.shore_types.specs.declared.locking.Granule.{Granule}
use Rattle.shore_model.specs.declared.requests.Request.{Request}
use Rattle.shore_locks.proofs.listings.put_in_order.Goals as goal

key : Request → Granule × Rattle.std.specs.Prelude.ℕ
key r = (r.granule, r.txn)

pub returns-clause-order : goal.returns-clause-order
unfolding key
returns-clause-order c = c.sort_unstable_by_key.ensures.sorted key (always_returns_same _ (λ a r. r ≡ key a.0.now) _ (λ a r q k. search rules))

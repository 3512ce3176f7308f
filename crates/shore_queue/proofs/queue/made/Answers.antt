use Rattle.std.proofs.Common.{rules}
use Rattle.shore_queue.proofs.Relays.{begins, forks}
use Rattle.shore_queue.proofs.queue.made.Goals as goal

pub with_rule-requires : goal.with_rule-requires
with_rule-requires g c = begins g.N.Numbers.first_number

pub another-receiver-requires-clause-rule : goal.another-receiver-requires-clause-rule
another-receiver-requires-clause-rule g c = forks g.N.Numbers.first_number _ _ (search rules) (search rules)

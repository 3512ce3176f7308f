use Rattle.std.proofs.Common.{ap}
use Rattle.shore_queue.proofs.Relays.{lifts}
use Rattle.shore_queue.proofs.queue.handed_on.Goals as goal

pub another-requires-clause-rule : goal.another-requires-clause-rule
another-requires-clause-rule g c = lifts _ _ _ (ap (λ v. v.sends) c.requires.1) (ap (λ v. v.receives) c.requires.1)

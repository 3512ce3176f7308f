use Rattle.std.proofs.Common.{ap}
use Rattle.shore_queue.proofs.Relays.{sends}
use Rattle.shore_queue.proofs.queue.send.Goals as goal

pub push_as-requires-clause-rule : goal.push_as-requires-clause-rule
push_as-requires-clause-rule g c = λ n. sends _ n _ _ _ (ap (λ v. v.sends) c.requires.pass.1) c.requires.numbers c.requires.some

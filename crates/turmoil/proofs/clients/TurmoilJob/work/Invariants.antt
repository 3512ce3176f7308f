use Rattle.turmoil.specs.Commits.{IsNoted}
use Rattle.turmoil.proofs.clients.TurmoilJob.work.Given as goal

abbrev pub invariant-loop-turn : goal.invariant-loop-turn
invariant-loop-turn g l = IsNoted (g.C.Client.known l.client).durable l.number l.notes.commits (g.C.Client.told l.client)

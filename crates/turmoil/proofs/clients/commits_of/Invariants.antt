use Rattle.turmoil.proofs.Commits.{IsReading}
use Rattle.turmoil.proofs.clients.commits_of.Given as goal

abbrev pub invariant-loop-from : goal.invariant-loop-from
invariant-loop-from g l = IsReading l.number l.from l.commits (g.C.Client.told l.client)

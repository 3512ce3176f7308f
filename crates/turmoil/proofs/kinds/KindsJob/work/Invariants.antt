use Rattle.turmoil.specs.Counts.{IsCounted}
use Rattle.turmoil.proofs.kinds.KindsJob.work.Given as goal

abbrev pub invariant-loop-turn : goal.invariant-loop-turn
invariant-loop-turn g l = IsCounted (g.C.Client.known l.client).durable l.number l.notes.commits (g.C.Client.told l.client)

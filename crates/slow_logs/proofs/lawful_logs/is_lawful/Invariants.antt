use Rattle.slow_logs.proofs.LawfulScans.{LawfulBelow}
use Rattle.slow_logs.proofs.lawful_logs.is_lawful.Given as goal

abbrev pub invariant-loop-index : goal.invariant-loop-index
invariant-loop-index l = LawfulBelow l.records l.index

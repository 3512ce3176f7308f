use Rattle.laws_runs.proofs.Checkpointing.{moves_go, step_goes}
use Rattle.laws_runs.proofs.checkpoints.managers_stay_at_checkpoints.Goals as goal

pub returns-clause-each : goal.returns-clause-each
returns-clause-each c g ring_bytes o found es m new e k h = step_goes g ring_bytes o found es m k e new h

pub returns-clause-moves : goal.returns-clause-moves
returns-clause-moves c g ring_bytes o found es m last events made k h = moves_go g ring_bytes o found es m k events last made h

use Rattle.slow_logs.proofs.lawful_logs.may_say.Goals as goal

pub returns-in-Change : goal.returns-in-Change
returns-in-Change c = rw c.in-Change.is c.change_may_follow.ensures

pub returns-in-CheckpointEnd : goal.returns-in-CheckpointEnd
returns-in-CheckpointEnd c = rw (c.in-CheckpointEnd.is, ← c.as_slice-in-CheckpointEnd.ensures) c.is_as_at_begin.ensures

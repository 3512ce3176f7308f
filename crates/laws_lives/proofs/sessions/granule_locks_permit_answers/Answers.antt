use Rattle.laws_lives.proofs.GranuleLocks.{permitted}
use Rattle.laws_lives.proofs.sessions.granule_locks_permit_answers.Goals as goal

pub returns : goal.returns
returns d held t c answer h = permitted held t c answer h

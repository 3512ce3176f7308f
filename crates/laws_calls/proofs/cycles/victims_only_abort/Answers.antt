use Rattle.laws_calls.proofs.VictimLaws.{told_only_aborts, victim_doomed}
use Rattle.laws_calls.proofs.cycles.victims_only_abort.Goals as goal

pub returns-clause-doomed : goal.returns-clause-doomed
returns-clause-doomed d = victim_doomed

pub returns-clause-refused : goal.returns-clause-refused
returns-clause-refused d = told_only_aborts

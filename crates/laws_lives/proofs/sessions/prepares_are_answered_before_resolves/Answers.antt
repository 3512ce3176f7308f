use Rattle.laws_lives.proofs.WorkedDoubts.{late_answer_is_nobodys, late_answer_is_not_kept}
use Rattle.laws_lives.proofs.sessions.prepares_are_answered_before_resolves.Goals as goal

pub returns-clause-nobodys : goal.returns-clause-nobodys
returns-clause-nobodys c R n global h = late_answer_is_nobodys R n global h

pub returns-clause-not_kept : goal.returns-clause-not_kept
returns-clause-not_kept c global ds h = late_answer_is_not_kept global ds h

use Rattle.laws_lives.proofs.WorkedCommits.{below_is_lost, early_is_unsound, unrecorded_is_not_kept}
use Rattle.laws_lives.proofs.commits.wrong_commits_are_not_kept.Goals as goal

pub returns-clause-early : goal.returns-clause-early
returns-clause-early c o a x z at_a other sound = early_is_unsound o a x z at_a other sound

pub returns-clause-below : goal.returns-clause-below
returns-clause-below c a z h = below_is_lost a z h

pub returns-clause-unrecorded : goal.returns-clause-unrecorded
returns-clause-unrecorded c a z ds h = unrecorded_is_not_kept a z ds h

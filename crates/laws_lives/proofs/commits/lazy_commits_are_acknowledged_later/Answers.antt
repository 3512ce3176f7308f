use Rattle.laws_lives.proofs.WorkedCommits.{not_yet, then}
use Rattle.laws_lives.proofs.commits.lazy_commits_are_acknowledged_later.Goals as goal

pub returns-clause-not_yet : goal.returns-clause-not_yet
returns-clause-not_yet c o a x z at_a = not_yet a o x z at_a

pub returns-clause-then : goal.returns-clause-then
returns-clause-then c o a x z at_a = then a o x z at_a

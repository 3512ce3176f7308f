use Rattle.std.proofs.Common.{◌≡◌, ◌++◌, drop}
use Rattle.shore_model.specs.Histories.{commits_with, tickets}
use Rattle.slow_histories.proofs.decisions.push_commits.Given as goal

abbrev pub invariant-loop-entry : goal.invariant-loop-entry
invariant-loop-entry l = l.found ++ commits_with l.ticket (tickets (drop l.entry-index l.before)) ≡ l.fn.found ++ commits_with l.ticket (tickets l.before)

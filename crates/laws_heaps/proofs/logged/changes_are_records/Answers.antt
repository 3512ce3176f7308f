use Rattle.laws_heaps.proofs.Made.{appended_is, passed_is, redone_is, without_is}
use Rattle.laws_heaps.proofs.logged.changes_are_records.Goals as goal

pub returns-clause-appended : goal.returns-clause-appended
returns-clause-appended g c = appended_is

pub returns-clause-redone : goal.returns-clause-redone
returns-clause-redone g c = redone_is

pub returns-clause-passed : goal.returns-clause-passed
returns-clause-passed g c = passed_is

pub returns-clause-without : goal.returns-clause-without
returns-clause-without g c = without_is

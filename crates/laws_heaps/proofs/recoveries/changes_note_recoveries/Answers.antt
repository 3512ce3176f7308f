use Rattle.laws_heaps.proofs.Noted.{appended_noted, passed_noted, redone_noted, without_noted}
use Rattle.laws_heaps.proofs.recoveries.changes_note_recoveries.Goals as goal

pub returns-clause-appended : goal.returns-clause-appended
returns-clause-appended g c = appended_noted

pub returns-clause-redone : goal.returns-clause-redone
returns-clause-redone g c = redone_noted

pub returns-clause-passed : goal.returns-clause-passed
returns-clause-passed g c = passed_noted

pub returns-clause-without : goal.returns-clause-without
returns-clause-without g c = without_noted

use Rattle.laws_lives.proofs.Restarts.{crash_then_restart, events_restart, restart_shows}
use Rattle.laws_lives.proofs.UndoRecords.{undone_lawful, undone_tells, undone_doubts}
use Rattle.laws_lives.proofs.recovery.restart_is_repeatable.Goals as goal

pub returns-clause-goes_on : goal.returns-clause-goes_on
returns-clause-goes_on c found s events last kept k moves = events_restart found s events last kept k moves

pub returns-clause-same : goal.returns-clause-same
returns-clause-same c found s lawful k =
    (undone_lawful found k.turns s.log k.undone lawful, undone_tells found k.turns s.log k.undone, undone_doubts found k.turns s.log k.undone)

pub returns-clause-shows : goal.returns-clause-shows
returns-clause-shows c found s lawful kept k whole none p i = restart_shows found s lawful kept k whole none p i

pub returns-clause-after_a_crash : goal.returns-clause-after_a_crash
returns-clause-after_a_crash c s n left begin events last kept lawful crash restart whole none p i =
    crash_then_restart s n left begin events last kept lawful crash restart whole none p i

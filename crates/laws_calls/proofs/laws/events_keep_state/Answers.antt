use Rattle.std.proofs.Common.{[]}
use Rattle.laws_calls.proofs.SessionOpens.{sessions_after_open}
use Rattle.laws_calls.proofs.SettledStates.{session_entries_come, session_events_make, session_events_stay}
use Rattle.laws_calls.proofs.laws.events_keep_state.Goals as goal

pub returns-clause-entries : goal.returns-clause-entries
returns-clause-entries d g s last events h = session_events_make g s events last h

pub returns-clause-events : goal.returns-clause-events
returns-clause-events d g s last events made h = session_entries_come g s events last made h

pub returns-clause-keep : goal.returns-clause-keep
returns-clause-keep d g o found first last events made opened moves = session_events_stay g o found [] first events last made (sessions_after_open o found first opened) moves

-- The locks that the sessions of a state hold have their intentions.
use Rattle.std.proofs.Common.{List, sym, subst}
use Rattle.shore_model.specs.declared.histories.Entry.{Entry}
use Rattle.shore_model.specs.declared.histories.Opening.{Opening}
use Rattle.shore_model.specs.declared.log_records.LogRecord.{LogRecord}
use Rattle.shore_model.specs.Locks.{WellRooted}
use Rattle.shore_path.proofs.Intentions.{well_rooted}
use Rattle.laws_calls.specs.Events.{IsStateAfter}
use Rattle.laws_calls.specs.States.{State}

pub stay_rooted : (o : Opening) (found : List LogRecord) (es : List Entry) (s : State) → IsStateAfter o found es s → WellRooted s.sessions.held
stay_rooted o found es s k = subst WellRooted (sym k.sessions.locks.held) (well_rooted s.locks.requests k.sessions.locks.rooted)

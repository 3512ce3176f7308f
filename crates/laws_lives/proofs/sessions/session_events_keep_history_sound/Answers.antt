use Rattle.laws_lives.proofs.SessionsAgree.{event_agrees}
use Rattle.laws_lives.proofs.Steps.{event_stays_sound}
use Rattle.laws_lives.proofs.sessions.session_events_keep_history_sound.Goals as goal

pub returns-clause-sound : goal.returns-clause-sound
returns-clause-sound c o es old new e k agree moves = event_stays_sound o es old new e k agree moves

pub returns-clause-agree : goal.returns-clause-agree
returns-clause-agree c o es old new e k agree moves = event_agrees o es old new e k agree moves

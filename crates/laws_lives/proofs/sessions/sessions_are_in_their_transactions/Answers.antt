use Rattle.laws_lives.proofs.OwnSeats.{event_seats, open_seats}
use Rattle.laws_lives.proofs.sessions.sessions_are_in_their_transactions.Goals as goal

pub returns-clause-open : goal.returns-clause-open
returns-clause-open c o s h = open_seats o s h

pub returns-clause-each : goal.returns-clause-each
returns-clause-each c o es old new e agree k h = event_seats o es old agree k e new h

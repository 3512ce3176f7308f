use Rattle.shore_sessions.specs.Controls.{txns_in}
use Rattle.shore_sessions.proofs.Answered.{none_so, some_so}
use Rattle.shore_sessions.proofs.SeatSteps.{seat_of}
use Rattle.shore_sessions.proofs.Seats.{in_no_txn, in_none_of}
use Rattle.shore_sessions.proofs.control.Control.seat.Goals as goal

pub returns-clause-of_some : goal.returns-clause-of_some
returns-clause-of_some c = some_so c.seat.result (λ seat own s was t m at. seat_of (txns_in c.args.self.now) s.sessions was.txns.seats t m c.args.session (own t m at)) c.seat.ensures.own

pub returns-clause-of_none : goal.returns-clause-of_none
returns-clause-of_none c = none_so c.seat.result (λ none s was. in_none_of (txns_in c.args.self.now) s was.txns c.args.session none) c.seat.ensures.none

pub returns-clause-free : goal.returns-clause-free
returns-clause-free c = none_so c.seat.result
    (λ none s was seats works idle. in_no_txn (txns_in c.args.self.now) s was.txns seats c.args.session none) c.seat.ensures.none

use Rattle.std.proofs.Common.{sym, ap, subst, ◌∙◌}
use Rattle.laws_lives.specs.Views.{IsAmong}
use Rattle.shore_txn.specs.Txns.{as_session_txn}
use Rattle.shore_model.specs.declared.sessions.SessionState.{SessionState}
use Rattle.shore_sessions.specs.Controls.{txns_in}
use Rattle.shore_sessions.proofs.SeatSteps.{seat_of, sits_in}
use Rattle.shore_sessions.proofs.Seats.{active_above}
use Rattle.shore_sessions.proofs.control.Control.txn.Goals as goal

pub returns-clause-of_session : goal.returns-clause-of_session
returns-clause-of_session c own free s was =
    let t = c.txn.result.now in
    let of = own t c.txn.ensures.among c.txn.ensures.number in
    let there = subst (IsAmong (as_session_txn t)) (sym was.txns.active) c.txn.ensures.there in (
      (
        there,
        ap s.sessions.seats of.1 ∙ sits_in (txns_in c.args.self.now) s.sessions was.txns.seats t c.txn.ensures.among c.args.seat.now.session of free,
        active_above (txns_in c.args.self.now) s was.txns (as_session_txn t) there,
      ),
      of.1,
    )

pub returns-clause-prepared : goal.returns-clause-prepared
returns-clause-prepared c own doubt s was =
    let t = c.txn.result.now in
    ap (λ (p : SessionState). p.prepared) (seat_of (txns_in c.args.self.now) s.sessions was.txns.seats t c.txn.ensures.among c.args.seat.now.session (own t c.txn.ensures.among c.txn.ensures.number)) ∙ doubt

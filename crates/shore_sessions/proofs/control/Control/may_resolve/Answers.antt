use Rattle.std.proofs.Common.{inl, refl}
use Rattle.shore_sessions.specs.Controls.{txns_in}
use Rattle.shore_sessions.proofs.Named.{may_by_name}
use Rattle.shore_sessions.proofs.Seats.{in_no_txn}
use Rattle.shore_sessions.proofs.control.Control.may_resolve.Goals as goal

pub returns-in-None : goal.returns-in-None
returns-in-None c s was seats works idle = (
  λ told. inl (in_no_txn (txns_in c.args.self.now) s was.txns seats c.args.session c.in-None.ensures.none),
  λ may. refl,
)

pub returns-in-Some : goal.returns-in-Some
returns-in-Some c s was seats works idle =
    let of = c.in-Some.ensures.own c.txn.result.now c.txn.ensures.among c.txn.ensures.number in
    let may = may_by_name (txns_in c.args.self.now) s was.txns c.args.session c.args.global.now c.txn.result.now c.txn.ensures.among of in
    (λ told. may.0 (c.has_global.ensures.0 told), λ m. c.has_global.ensures.1 (may.1 m))

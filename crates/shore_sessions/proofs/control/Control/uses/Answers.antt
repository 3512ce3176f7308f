use Rattle.std.proofs.Common.{Some, ◌≡◌, ◌≢◌, inl, inr, ⊎_elim, ◌∙◌, true, false, sym}
use Rattle.std.proofs.lemmas.Bool.{cases_Bool}
use Rattle.shore_model.specs.declared.calls.Call.TheVariants as call
use Rattle.shore_model.specs.declared.calls.Outcome.{Outcome}
use Rattle.shore_txn.specs.Transactions.{AtSeat, IsSeatIn}
use Rattle.shore_txn.specs.Txns.{global_of}
use Rattle.shore_txn.specs.declared.seat.Seat.{Seat}
use Rattle.shore_sessions.specs.Controls.{txns_in, waits_in}
use Rattle.shore_sessions.specs.declared.waits.WaitingCall.{WaitingCall}
use Rattle.shore_sessions.proofs.Answered.{both_some, none_told, some_told}
use Rattle.shore_sessions.proofs.Named.{free_unused, seat_named, taken_not_unused}
use Rattle.shore_sessions.proofs.Taking.{among_all}
use Rattle.shore_sessions.proofs.control.Control.uses.Goals as goal

clash : true ≡ false → ⊥
clash e = cc

pub returns-then-is_some-clause-taken : goal.returns-then-is_some-clause-taken
returns-then-is_some-clause-taken c = (
  λ told.
      let txns = txns_in c.args.self.now in
      let global = c.args.global.now in
      let seat = some_told (λ (seat : Seat). IsSeatIn seat txns × AtSeat seat txns (λ t. global_of t ≡ Some global)) c.seat_of_global.result (sym c.is_some.ensures ∙ told)
      (both_some c.seat_of_global.result (λ seat seated named. (seated.0, named)) c.seat_of_global.ensures.some c.seat_of_global.ensures.named) in
      inl (seat_named txns seat.0 global seat.1.0 seat.1.1),
  λ taken. c.if-is_some.true,
)

pub returns-then-is_some-clause-used : goal.returns-then-is_some-clause-used
returns-then-is_some-clause-used c told s was works = taken_not_unused c.args.self.now s was works c.args.global.now ((returns-then-is_some-clause-taken c).0 told)

pub returns-else-is_some-clause-taken : goal.returns-else-is_some-clause-taken
returns-else-is_some-clause-taken c = (
  λ told. inr (c.resolves.ensures.some told),
  λ taken. ⊎_elim
      (λ t. absurd (none_told c.seat_of_global.result (sym c.is_some.ensures ∙ c.if-is_some.false) c.seat_of_global.ensures.none t.0 t.1 t.2))
      (λ w. ⊎_elim
      (λ told. told)
      (λ not_told. absurd (among_all (λ (v : WaitingCall). (asked : Outcome) → v.call ≢ call.Resolve c.args.global.now asked) (waits_in c.args.self.now) (c.resolves.ensures.none not_told) w.0 w.2 w.1 w.3))
      (cases_Bool c.resolves.result)) taken,
)

pub returns-else-is_some-clause-used : goal.returns-else-is_some-clause-used
returns-else-is_some-clause-used c told s was works = taken_not_unused c.args.self.now s was works c.args.global.now ((returns-else-is_some-clause-taken c).0 told)

pub returns-else-is_some-clause-unused : goal.returns-else-is_some-clause-unused
returns-else-is_some-clause-unused c not_told s was works =
    free_unused c.args.self.now s was works c.args.global.now (λ taken. clash (sym ((returns-else-is_some-clause-taken c).1 taken) ∙ not_told))

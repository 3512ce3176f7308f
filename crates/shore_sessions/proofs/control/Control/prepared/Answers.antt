use Rattle.std.proofs.Common.{◌≡◌, ◌≢◌, true, false, sym, ap, ◌∙◌}
use Rattle.shore_txn.specs.Transactions as table
use Rattle.shore_txn.specs.Txns.{state_of}
use Rattle.shore_txn.specs.declared.txn_state.TxnState.TheVariants.{Preparing}
use Rattle.shore_txn.proofs.ActiveSteps.{one_at_number}
use Rattle.shore_sessions.specs.Controls.{txns_in}
use Rattle.shore_sessions.proofs.Answered.{none_if}
use Rattle.shore_sessions.proofs.Named.{can_resolve, none_answered, none_named}
use Rattle.shore_sessions.proofs.control.Control.prepared.Goals as goal
use Rattle.shore_sessions.proofs.control.Control.prepared.Goals.{in-Preparing, in_default}

clash : true ≡ false → ⊥
clash e = cc

pub returns-in_err-seat-clause-none : goal.returns-in_err-seat-clause-none
returns-in_err-seat-clause-none c = none_if c.from_residual.result
    (λ s a was works differ. none_named c.args.self.now s was works a c.args.global.now c.in_err-seat.ensures.none)

pub returns-then-matches-clause-none : goal.returns-then-matches-clause-none
returns-then-matches-clause-none c s a was works differ =
    none_answered c.args.self.now s was works differ c.txn.result.now c.txn.ensures.among c.args.global.now
    (c.in_ok-seat.ensures.named c.txn.result.now c.txn.ensures.among c.txn.ensures.number) (sym c.state.ensures ∙ preparing) a
  where
    preparing : c.state.result ≡ Preparing
    preparing = elim c.match-matches.branch [
      | in-Preparing w ↦ w.in-Preparing.is
      | in_default w ↦ absurd (clash (sym c.if-matches.true ∙ w.matches-is))
    ]

pub returns-clause-named : goal.returns-clause-named
returns-clause-named c t m at = (c.in_ok-seat.ensures.named t m at, λ same. other (c.state.ensures ∙ sym (ap state_of one) ∙ same))
  where
    other : c.state.result ≢ Preparing
    other = elim c.match-matches.branch [
      | in-Preparing w ↦ absurd (clash (sym w.matches-is ∙ c.if-matches.false))
      | in_default w ↦ w.in_default.not-Preparing
    ]

    one : t ≡ c.txn.result.now
    one = let txns = txns_in c.args.self.now in one_at_number (table.txns_in txns) txns.numbers t c.txn.result.now m c.txn.ensures.among (at ∙ sym c.txn.ensures.number)

pub returns-clause-can : goal.returns-clause-can
returns-clause-can c s was works t m at =
    let its = returns-clause-named c t m at in
    can_resolve c.args.self.now s was works t m c.args.global.now its.0 its.1

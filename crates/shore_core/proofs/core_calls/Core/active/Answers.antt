use Rattle.std.proofs.Common.{◌≡◌, None, Some, inl, inr, refl, sym, ap, ◌∙◌}
use Rattle.shore_model.specs.declared.rollbacks.Rollback.{Rollback}
use Rattle.shore_model.specs.declared.rollbacks.Rollback.TheVariants.{Whole}
use Rattle.shore_txn.specs.Txns.{as_session_txn, rolling_of, state_of}
use Rattle.shore_txn.specs.TxnStates.{is_in_doubt}
use Rattle.shore_txn.specs.declared.txn_state.TxnState.TheVariants as state
use Rattle.shore_core.specs.Cores.{txns_of}
use Rattle.shore_core.proofs.Callers.{at_seat}
use Rattle.shore_core.proofs.core_calls.Core.active.Goals as goal

pub returns-in-Active-clause-of_session : goal.returns-in-Active-clause-of_session
returns-in-Active-clause-of_session g c s was = c.txn-own.ensures.of_session c.requires.own (ap is_in_doubt (sym c.state.ensures ∙ c.in-Active.is)) s was

pub returns-in-Active-clause-open : goal.returns-in-Active-clause-open
returns-in-Active-clause-open g c t m number =
    at_seat (txns_of c.args.self.now) c.args.seat.now c.txn-own.result.now c.txn-own.ensures.among c.txn-own.ensures.number (λ u. state_of u ≡ state.Active) (sym c.state.ensures ∙ c.in-Active.is) t m number

pub returns-in-Doomed-clause-not_open : goal.returns-in-Doomed-clause-not_open
returns-in-Doomed-clause-not_open g c s was = inl (
  refl,
  (
    as_session_txn c.txn-own.result.now,
    c.txn-own.ensures.of_session c.requires.own (elim c.in-Doomed.is [ inl doomed ↦ ap is_in_doubt (sym c.state.ensures ∙ doomed) | inr rolls ↦ ap is_in_doubt (sym c.state.ensures ∙ rolls.1) ]) s was,
    λ none. elim c.in-Doomed.is [ inl doomed ↦ begun Whole (sym (ap rolling_of (sym c.state.ensures ∙ doomed)) ∙ none) | inr rolls ↦ begun rolls.0 (sym (ap rolling_of (sym c.state.ensures ∙ rolls.1)) ∙ none) ],
  ),
)
  where
    begun : (r : Rollback) → Some r ≡ None → ⊥
    begun r e = cc

-- What is in doubt can be resolved either way.
use Rattle.std.proofs.Common.{◌≡◌, ℕ, List, Bool, true, refl, sym, ap, subst, ◌∙◌}
use Rattle.shore_model.specs.declared.histories.Entry.{Entry}
use Rattle.shore_model.specs.declared.histories.Opening.{Opening}
use Rattle.shore_model.specs.declared.log_records.LogRecord.{LogRecord}
use Rattle.laws_lives.proofs.Members.{txn_among, txn_of_one}
use Rattle.laws_lives.proofs.Steps.{prepared_among}
use Rattle.laws_lives.specs.Doubts.{TracksDoubts}
use Rattle.laws_lives.specs.SessionSteps.{AppendResolve, AppendRollback, EndRollback, StepsTo}
use Rattle.laws_lives.specs.Sessions.{PreparedTxn, SessionTxn, Sessions, in_doubt_of, resolved_of}
use Rattle.laws_lives.specs.Soundness.{SessionsAgree}
use Rattle.laws_lives.specs.Views.{IsAmong}

module _ (o : Opening) (es : List Entry) (s : Sessions) (p : PreparedTxn) (k : SessionsAgree o es s) (among : IsAmong p s.prepared) (answered : p.answered ≡ true) where
  its_txn : (a : SessionTxn) × IsAmong a s.active × (a.txn ≡ p.txn)
  its_txn = txn_of_one p.txn s.active (k.under_way p.txn (prepared_among p s.prepared among))

  as_answered : IsAmong (record { txn = its_txn.0.txn; global = p.global; answered = true }) s.prepared
  as_answered = subst (λ (q : PreparedTxn). IsAmong q s.prepared) (same_prepared its_txn.0.txn p.txn p.answered (sym its_txn.2) answered) among
    where
      same_prepared : (t u : ℕ) (b : Bool) → u ≡ t → b ≡ true → ◌≡◌ {A = PreparedTxn} (record { txn = u; global = p.global; answered = b }) (record { txn = t; global = p.global; answered = true })
      same_prepared t u b e f =
          ap (λ t. record { txn = t; global = p.global; answered = b }) e ∙ ap (λ b. record { txn = t; global = p.global; answered = b }) f

  pub commit_can_come : (a : SessionTxn) × (new : Sessions) × (a.txn ≡ p.txn) × StepsTo s (AppendResolve a p.global) new
  commit_can_come = (
    its_txn.0,
    _,
    its_txn.2,
    (its_txn.1, k.unrolled its_txn.0 its_txn.1 (subst (λ t. IsAmong t (in_doubt_of s)) (sym its_txn.2) (prepared_among p s.prepared among)), as_answered, refl),
  )

  pub abort_can_come : (a : SessionTxn) × (new : Sessions) × (a.txn ≡ p.txn) × StepsTo s (AppendRollback a p.global) new
  abort_can_come = (its_txn.0, _, its_txn.2, (its_txn.1, as_answered, refl))

pub end_can_come : (log : List LogRecord) (s : Sessions) (a : SessionTxn) → TracksDoubts log s → IsAmong a s.active → IsAmong a.txn (resolved_of s) → (new : Sessions) × StepsTo s (EndRollback a) new
end_can_come log s a k among resolved = (_, ((among, (k.rolled a.txn (txn_among a s.active among) resolved).1), resolved, refl))

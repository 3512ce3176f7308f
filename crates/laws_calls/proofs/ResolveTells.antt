-- What the log tells behind a resolve: one to commit tells what its transaction has written, and one to roll back nothing.
use Rattle.std.proofs.Common.{◌≡◌, inl, inr, ◌++◌, ◌∷◌, ℕ, List, [], refl, sym, ap, ◌∙◌, length, map}
use Rattle.shore_types.specs.declared.layout.Geometry.{Geometry}
use Rattle.shore_model.specs.declared.histories.Decision.TheVariants as decision
use Rattle.shore_model.specs.declared.calls.Call.TheVariants as call
use Rattle.shore_model.specs.declared.histories.Entry.{Entry}
use Rattle.shore_model.specs.declared.histories.Entry.TheVariants.{Decided}
use Rattle.shore_model.specs.declared.histories.Opening.{Opening}
use Rattle.shore_model.specs.declared.log_records.LogRecord.{LogRecord}
use Rattle.shore_model.specs.declared.step.Step.{Step}
use Rattle.shore_model.specs.declared.step.Step.TheVariants.{Done, Nothing, Refused, Waits}
use Rattle.shore_model.specs.declared.step.Wait.{Wait}
use Rattle.shore_model.specs.Records.{overlay}
use Rattle.laws_lives.specs.LogTells.{records_committed}
use Rattle.laws_lives.specs.Sessions.{SessionTxn}
use Rattle.laws_lives.specs.Soundness.{serial_after, written_by}
use Rattle.laws_calls.proofs.ResolveEnds.{awaits_stays, no_seat, rolled_logged}
use Rattle.laws_calls.proofs.ResolveStates.{decided_stays}
use Rattle.laws_calls.proofs.ResolveStays.{commit_stays, has_decided, its_record, made_by, out_of, still_idle}
use Rattle.laws_calls.proofs.StoppedRollbacks.{stopped_passes}
use Rattle.laws_calls.proofs.TakenLocks.{sessions_of}
use Rattle.laws_calls.proofs.UnderGlobal.{under_one, used_in_doubt}
use Rattle.laws_calls.specs.CallHistories.{txn_under}
use Rattle.laws_calls.specs.Events.{IsStateAfter}
use Rattle.laws_calls.specs.Resolves.{AbortsResolve, CommitsResolve, DecidesRollback, MayResolve, rollback_decided, rollback_done, rollback_number}
use Rattle.laws_calls.specs.States.{DoesNotWait, State}
use Rattle.laws_calls.proofs.QuietTells.{quietly_telling_none, whole_told}
use Rattle.shore_model.specs.declared.calls.Outcome.TheVariants as outcome
use Rattle.laws_lives.proofs.EndSteps.{commit_now}
use Rattle.laws_lives.proofs.Turns.{decision_after}

module _ (g : Geometry) (o : Opening) (found : List LogRecord) (es : List Entry) (s : State) (k : IsStateAfter o found es s) (session : ℕ) (global : List ℕ) (may : MayResolve s session global)
    (idle : DoesNotWait s session) where
  told : records_committed s.log ≡ serial_after o es
  told = whole_told (length found) o es s.log k.sessions.decides

  pub resolve_commit_tells : (wait : Wait) (new : State) → CommitsResolve s session global (Waits wait) new
      → records_committed new.log ≡ overlay (records_committed s.log) (written_by o es (txn_under s.sessions global))
  resolve_commit_tells wait new h =
      let a = h.0 in
      let its = under_one o es s.sessions k.sessions.agree a.txn global (used_in_doubt s.sessions _ h.1.1) in
      whole_told (length found) o (es ++ Decided (decision.Commit a.txn) ∷ []) new.log (commit_stays g o found es s k session global may idle wait new h).sessions.decides
      ∙ commit_now k.sessions.sound a h.1.0
      ∙ ap (λ R. overlay R (written_by o es a.txn)) (sym told)
      ∙ ap (λ t. overlay (records_committed s.log) (written_by o es t)) (sym its)

  decided_tells : (b : SessionTxn) (d : State) → DecidesRollback s global b d → records_committed d.log ≡ records_committed s.log
  decided_tells b d (inr h) = ap (λ (x : State). records_committed x.log) h.1
  decided_tells b d (inl h) =
      ap (λ (x : State). records_committed x.log) h.3
      ∙ whole_told (length found) o (es ++ Decided (decision.RollBack h.0.txn) ∷ []) (rollback_decided s h.0 global).log (decided_stays o found es s k h.0 global h.1).sessions.decides
      ∙ decision_after o es (decision.RollBack h.0.txn) (λ R. refl)
      ∙ sym told

  ended_tells : (b : SessionTxn) (d : State) (by : DecidesRollback s global b d) → records_committed (rollback_done d b).log ≡ records_committed s.log
  ended_tells b d by =
      let made = made_by s global b d by in
      let h = has_decided g o found es s k session global b d by in
      let n = its_record g o found es s k session global b d made h in
      let awaits = awaits_stays o found (es ++ map Decided made) d h.stays b global h.rolls session (still_idle g o found es s k session global may idle b d made h) (out_of g o found es s k session global may idle b d made h)
      (rollback_number b.txn d.log) n.some n.within n.decided in
      whole_told (length found) o (es ++ map Decided made) (rollback_done d b).log awaits.sessions.decides
      ∙ sym (whole_told (length found) o (es ++ map Decided made) d.log h.stays.sessions.decides)
      ∙ decided_tells b d by

  pub resolve_abort_tells : (step : Step) (new : State) → AbortsResolve s session global step new → records_committed new.log ≡ records_committed s.log
  resolve_abort_tells (Waits wait) new h = ap (λ (x : State). records_committed x.log) h.3.2 ∙ ended_tells h.0 h.1 h.2
  resolve_abort_tells (Done answer) new h = ap (λ (x : State). records_committed x.log) h.3.2 ∙ ended_tells h.0 h.1 h.2
  resolve_abort_tells Nothing new h = absurd h.3
  resolve_abort_tells (Refused f) new h =
      let made = made_by s global h.0 h.1 h.2 in
      let d = has_decided g o found es s k session global h.0 h.1 h.2 in
      quietly_telling_none (length found) o (es ++ map Decided made) g session h.1 new _ (sessions_of o found (es ++ map Decided made) h.1 d.stays.sessions)
      (stopped_passes g o found (es ++ map Decided made) h.1 d.stays h.0 d.rolls.0 (rolled_logged o found (es ++ map Decided made) h.1 d.stays h.0 global d.rolls).1
      (no_seat o found (es ++ map Decided made) h.1 d.stays h.0 global d.rolls) session (call.Resolve global outcome.Abort) f new h.3)
      ∙ decided_tells h.0 h.1 h.2

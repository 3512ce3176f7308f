-- What a state after a history tells of who waits, as a lock is asked for.
use Rattle.std.proofs.Common.{◌≡◌, ℕ, List, false, sym, ap, subst, ◌∙◌}
use Rattle.shore_model.specs.declared.calls.Call.{Call}
use Rattle.shore_model.specs.declared.histories.Entry.{Entry}
use Rattle.shore_model.specs.declared.histories.Opening.{Opening}
use Rattle.shore_model.specs.declared.log_records.LogRecord.{LogRecord}
use Rattle.shore_locks.specs.Tables.{is_waiting}
use Rattle.shore_path.specs.declared.answers.OnConflict.TheVariants as conflict
use Rattle.laws_locks.specs.CallLocks.{Asked}
use Rattle.laws_lives.specs.Sessions.{SessionTxn}
use Rattle.laws_lives.specs.Views.{IsAmong}
use Rattle.laws_calls.proofs.Sessions.{one_member, one_txn}
use Rattle.laws_calls.specs.CallSteps.{on_conflict_of}
use Rattle.laws_calls.specs.Events.{IsStateAfter}
use Rattle.laws_calls.specs.States.{DoesNotWait, HasSeat, State}
use Rattle.shore_sessions.specs.Calls.{name_of}
use Rattle.shore_sessions.specs.Controls.{txns_in, waits_in}
use Rattle.shore_sessions.specs.Noting.{HasSessionsOf}
use Rattle.shore_sessions.specs.Standing.{AreResolving, HasControl, HasTxns, HasWaits}
use Rattle.shore_sessions.specs.declared.control.Control.{Control}
use Rattle.shore_sessions.proofs.LockRounds.{IsStart}
use Rattle.shore_sessions.proofs.Sitting.{seat_sits, sitting, sitting_seat}

module _ (o : Opening) (found : List LogRecord) (es : List Entry) (s : State) (k : IsStateAfter o found es s) (works : s.failed ≡ false) where
  -- whose name it is
  of_name : (n : ℕ × ℕ) → IsAmong n (sitting s.sessions) → (b : SessionTxn) × HasSeat s.sessions b × (name_of b ≡ n)
  of_name n m = sitting_seat s.sessions n m

  by_number : (n m : ℕ × ℕ) → IsAmong n (sitting s.sessions) → IsAmong m (sitting s.sessions) → n.1 ≡ m.1 → n.0 ≡ m.0
  by_number n m there here same =
      let b = of_name n there in
      let d = of_name m here in
      ap (λ (x : ℕ × ℕ). x.0) (sym b.2)
      ∙ ap (λ (a : SessionTxn). a.session) (one_member k.sessions b.0 d.0 b.1.0 d.1.0 (ap (λ (x : ℕ × ℕ). x.1) b.2 ∙ same ∙ ap (λ (x : ℕ × ℕ). x.1) (sym d.2))) ∙ ap (λ (x : ℕ × ℕ). x.0) d.2

  by_session : (n m : ℕ × ℕ) → IsAmong n (sitting s.sessions) → IsAmong m (sitting s.sessions) → n.0 ≡ m.0 → n.1 ≡ m.1
  by_session n m there here same =
      let b = of_name n there in
      let d = of_name m here in
      ap (λ (x : ℕ × ℕ). x.1) (sym b.2) ∙ one_txn s.sessions b.0 d.0 b.1.1 d.1.1 (ap (λ (x : ℕ × ℕ). x.0) b.2 ∙ same ∙ ap (λ (x : ℕ × ℕ). x.0) (sym d.2)) ∙ ap (λ (x : ℕ × ℕ). x.1) d.2

  pub starts : (a : SessionTxn) (c : Call) (lock : Asked) (may_wait : on_conflict_of c ≡ conflict.Wait) → HasSeat s.sessions a → is_waiting a.txn s.locks.requests ≡ false → DoesNotWait s a.session
      → IsStart a c lock may_wait s
  starts a c lock may_wait seat quiet idle = record {
    fair = record {
      orderly = k.sessions.locks.orderly;
      rooted = k.sessions.locks.rooted;
      under = λ u waits. let b = k.sessions.locks.waiters u waits in (name_of b.0, seat_sits s.sessions b.0 b.1, b.2);
      quiet = λ n there none.
          let b = of_name n there in
          subst (λ (x : ℕ × ℕ). is_waiting x.1 s.locks.requests ≡ false) b.2
          (k.sessions.locks.waits works b.0 b.1.0 (λ w l asks same. none w l asks (same ∙ ap (λ (x : ℕ × ℕ). x.0) b.2)));
      by_number = by_number;
      by_session = by_session;
    };
    there = seat_sits s.sessions a seat;
    quiet = quiet;
    idle = idle;
  }

-- a control with the same transactions and calls has the same sessions, whatever its locks
pub stands_for : (control new : Control) (s : State) → HasControl control s → txns_in new ≡ txns_in control → waits_in new ≡ waits_in control → HasSessionsOf new s
stands_for control new s was same calls = record {
  txns = subst (λ x. HasTxns x s) (sym same) was.txns;
  waits = subst (λ x. HasWaits x s) (sym calls) was.waits;
  resolving = subst (λ x. AreResolving x (waits_in new) s) (sym same) (subst (λ x. AreResolving (txns_in control) x s) (sym calls) was.resolving);
}

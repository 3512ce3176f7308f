use Rattle.std.proofs.Common.{◌≡◌, ◌≤◌, ℕ, Ok, Err, Result, length, refl, sym, ap, subst, ◌∙◌}
use Rattle.std.specs.Prelude.{IfOk, OnErr, OnOk}
use Rattle.std.specs.declared.alloc.AllocError.{AllocError}
use Rattle.shore_types.specs.declared.layout.TheConstants.{MOST_MAX_LOCKS}
use Rattle.shore_model.specs.declared.calls.Answer.TheVariants.{Saved}
use Rattle.shore_model.specs.declared.calls.Call.TheVariants as call
use Rattle.laws_lives.specs.Sessions.{SessionTxn, with_undo}
use Rattle.laws_lives.specs.Views.{IsAmong}
use Rattle.laws_calls.specs.StateChanges.{answered}
use Rattle.laws_calls.specs.States.{State}
use Rattle.shore_txn.specs.ActiveTxns.{OneBecomes, with_mark}
use Rattle.shore_txn.specs.Transactions as table
use Rattle.shore_txn.specs.Transactions.{undos_in}
use Rattle.shore_txn.specs.Txns.{IsAfterSavepoint, SameTxn}
use Rattle.shore_txn.proofs.ActiveSteps.{becomes_so}
use Rattle.shore_sessions.specs.Controls.{locks_in, txns_in, waits_in}
use Rattle.shore_sessions.specs.Standing.{HasControl, IsAt}
use Rattle.shore_sessions.specs.Waits.{AreMarked}
use Rattle.shore_sessions.proofs.ControlSteps.{resolving_kept}
use Rattle.shore_sessions.proofs.RollbackSteps.{savepoint_logged}
use Rattle.shore_sessions.proofs.SeatSteps.{rolled_kept, same_seated, savepoint_seated}
use Rattle.shore_sessions.proofs.TxnSteps.{txns_same, txns_still}
use Rattle.shore_sessions.proofs.WaitSteps.{names-with_undo, waits_kept}
use Rattle.shore_sessions.proofs.control.Control.savepoint.Goals as goal

pub returns-clause-stands : goal.returns-clause-stands
returns-clause-stands c = each _ _ c.savepoint.result c.savepoint.ensures.set c.savepoint.ensures.index c.savepoint.ensures.undos
  where
    each : (few : (locks_in c.args.self.now).limit ≤ MOST_MAX_LOCKS) (marks : AreMarked (locks_in c.args.self.now).requests c.args.self.now.waits) (r : Result ℕ AllocError) → OnOk r (OneBecomes c.args.seat.now.txn IsAfterSavepoint (table.txns_in (txns_in c.args.self.now)) (table.txns_in c.savepoint.new.self))
        → IfOk r (λ index. (a : SessionTxn) → IsAmong a (undos_in (txns_in c.args.self.now)) → a.txn ≡ c.args.seat.now.txn → index ≡ length a.undo.marks)
        → OnOk r ((a : SessionTxn) → IsAmong a (undos_in (txns_in c.args.self.now)) → a.txn ≡ c.args.seat.now.txn → undos_in c.savepoint.new.self ≡ with_undo a.txn (with_mark a.undo) (undos_in (txns_in c.args.self.now)))
        → IfOk r (λ index. (s : State) (a : SessionTxn) → HasControl c.args.self.now s → IsAt c.args.seat.now s a
        → (index ≡ length a.undo.marks) × HasControl (record c.args.self.now { txns = c.savepoint.new.self; few_locks = few; marked = marks }) (answered s a call.Savepoint (Saved index) s.counts))
    each few marks (Err e) none more undos = none
    each few marks (Ok index) one its undos = λ s a was own.
        let here = subst (IsAmong a) was.txns.active own.0 in
        let new : State = answered s a call.Savepoint (Saved index) s.counts in (
          its a here own.1,
          record {
            txns = txns_still (txns_in c.args.self.now) c.savepoint.new.self s was.txns new (becomes_so savepoint_logged one) (becomes_so savepoint_seated one)
                (ap (with_undo a.txn (with_mark a.undo)) was.txns.active ∙ sym (undos a here own.1)) (λ n. refl) refl c.savepoint.ensures.doubts refl refl refl c.savepoint.ensures.next c.savepoint.ensures.room;
            waits = waits_kept (waits_in c.args.self.now) s was.waits new refl (names-with_undo a.txn (with_mark a.undo) s.sessions.active) (λ n. refl) refl refl;
            resolving = resolving_kept (txns_in c.args.self.now) c.savepoint.new.self (waits_in c.args.self.now) (waits_in c.args.self.now) s new (rolled_kept (becomes_so savepoint_seated one)) refl refl (λ f. f) was.resolving;
            locks = was.locks;
          },
        )

pub returns-clause-unchanged : goal.returns-clause-unchanged
returns-clause-unchanged c = each _ _ c.savepoint.result c.savepoint.ensures.same c.savepoint.ensures.unchanged
  where
    each : (few : (locks_in c.args.self.now).limit ≤ MOST_MAX_LOCKS) (marks : AreMarked (locks_in c.args.self.now).requests c.args.self.now.waits) (r : Result ℕ AllocError) → OnErr r (OneBecomes c.args.seat.now.txn SameTxn (table.txns_in (txns_in c.args.self.now)) (table.txns_in c.savepoint.new.self))
        → OnErr r (undos_in c.savepoint.new.self ≡ undos_in (txns_in c.args.self.now)) → OnErr r ((s : State) → HasControl c.args.self.now s → HasControl (record c.args.self.now { txns = c.savepoint.new.self; few_locks = few; marked = marks }) s)
    each few marks (Ok index) none undos = none
    each few marks (Err e) one undos = λ s was. record {
      txns = txns_same (txns_in c.args.self.now) c.savepoint.new.self s was.txns one undos c.savepoint.ensures.doubts c.savepoint.ensures.next c.savepoint.ensures.room;
      waits = was.waits;
      resolving = resolving_kept (txns_in c.args.self.now) c.savepoint.new.self (waits_in c.args.self.now) (waits_in c.args.self.now) s s (rolled_kept (becomes_so same_seated one)) refl refl (λ f. f) was.resolving;
      locks = was.locks;
    }

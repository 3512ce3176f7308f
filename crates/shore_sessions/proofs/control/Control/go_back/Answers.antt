use Rattle.std.proofs.Common.{refl, sym, ap, subst, ◌∙◌}
use Rattle.shore_model.specs.declared.calls.Answer.TheVariants.{WentBack}
use Rattle.shore_model.specs.declared.calls.Call.TheVariants as call
use Rattle.laws_lives.specs.Logged.{and_compensations}
use Rattle.laws_lives.specs.Sessions.{with_undo}
use Rattle.laws_lives.specs.UndoLists.{mark_of, undo_after_answer}
use Rattle.laws_lives.specs.Views.{IsAmong}
use Rattle.laws_calls.specs.StateChanges.{answered}
use Rattle.laws_calls.specs.States.{State}
use Rattle.shore_txn.proofs.ActiveSteps.{becomes_so}
use Rattle.shore_txn.proofs.OneOfMany.{among_middle}
use Rattle.shore_txn.specs.ActiveTxns.{back_at}
use Rattle.shore_txn.specs.Transactions.{undos_in}
use Rattle.shore_sessions.specs.Controls.{txns_in, waits_in}
use Rattle.shore_sessions.proofs.ControlSteps.{resolving_kept}
use Rattle.shore_sessions.proofs.RollbackSteps.{all_left, back_logged, becomes_of}
use Rattle.shore_sessions.proofs.SeatSteps.{back_seated, rolled_kept}
use Rattle.shore_sessions.proofs.TxnSteps.{txns_still}
use Rattle.shore_sessions.proofs.WaitSteps.{names-with_undo, waits_kept}
use Rattle.shore_sessions.proofs.control.Control.go_back.Goals as goal

pub returns-clause-stands : goal.returns-clause-stands
returns-clause-stands c s a was its none =
    let done = c.go_back.ensures in
    let index = c.args.index in
    let new : State = answered s a (call.BackTo index) WentBack s.counts in
    let undo = undo_after_answer s.sessions.records a.undo (call.BackTo index) WentBack in
    let one = done.back in
    let free = c.requires.unprepared one.before (subst (IsAmong one.before) (sym one.was) (among_middle one.newer one.older one.before)) one.txn in
    let seated = becomes_of one (back_seated index one.before one.after free one.becomes) in
    record {
      txns = txns_still (txns_in c.args.self.now) c.go_back.new.self s was.txns new (becomes_so (back_logged index) one) seated
          (ap (with_undo a.txn undo) was.txns.active
          ∙ ap (λ l. with_undo a.txn (back_at index (record a.undo { images = l })) (undos_in (txns_in c.args.self.now))) (all_left (mark_of a.undo index) a.undo.images none)
          ∙ sym (done.undos a (subst (IsAmong a) was.txns.active its.0) its.1))
          (λ n. refl) refl done.doubts refl refl (ap (and_compensations a.txn s.log) none) done.next done.room;
      waits = waits_kept (waits_in c.args.self.now) s was.waits new refl (names-with_undo a.txn undo s.sessions.active) (λ n. refl) refl refl;
      resolving = resolving_kept (txns_in c.args.self.now) c.go_back.new.self (waits_in c.args.self.now) (waits_in c.args.self.now) s new (rolled_kept seated) refl refl (λ f. f) was.resolving;
      locks = was.locks;
    }

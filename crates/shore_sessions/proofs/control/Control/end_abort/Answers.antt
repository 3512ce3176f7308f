use Rattle.std.proofs.Common.{◌≢◌, ◌+◌, ℕ, [], cond, refl, sym, ap, subst, ◌∙◌}
use Rattle.std.specs.Prelude.{All}
use Rattle.shore_types.specs.declared.layout.TheConstants.{ENDING_COST}
use Rattle.shore_txn.specs.Transactions.{room_in}
use Rattle.shore_locks.specs.Grants.{released}
use Rattle.shore_locks.specs.Tables.{Table}
use Rattle.laws_lives.specs.Sessions.{EachOnce, txns_of}
use Rattle.laws_lives.specs.Views.{IsAmong}
use Rattle.shore_sessions.specs.Controls.{locks_in, txns_in, waits_in}
use Rattle.shore_sessions.specs.Standing.{AreResolving, HasWaits, abort_ended}
use Rattle.shore_sessions.specs.declared.waits.WaitingCall.{WaitingCall}
use Rattle.shore_sessions.proofs.ControlSteps.{resolving_kept}
use Rattle.shore_sessions.proofs.Marks.{marked_but_told}
use Rattle.shore_sessions.proofs.RollbackSteps.{txns_aborted}
use Rattle.shore_sessions.proofs.RollingBack.{control_rolled}
use Rattle.shore_sessions.proofs.TxnSteps.{rolled_left}
use Rattle.shore_sessions.proofs.WaitSteps.{waits_freed}
use Rattle.shore_sessions.proofs.control.Control.end_abort.Goals as goal

left_by : ℕ → Table → Table
left_by txn t = record { limit = t.limit; requests = released txn t.requests }

pub returns-clause-locks : goal.returns-clause-locks
unfolding left_by
returns-clause-locks c = c.release_all.ensures.table ∙ ap (λ txn. left_by txn (locks_in c.args.self.now)) c.note_end-txn.ensures.number

pub returns-clause-stands : goal.returns-clause-stands
unfolding left_by
returns-clause-stands c s a was its at =
    let done = c.note_end-txn.ensures in
    let old = txns_in c.args.self.now in
    let new = c.note_end-txn.new.self in
    let calls = waits_in c.args.self.now in
    let here = subst (IsAmong a) was.txns.active its.0.0 in
    let once = subst (λ ts. EachOnce (txns_of ts)) (sym was.txns.active) c.args.self.now.txns.numbers in
    let free = subst (λ n. All (λ (w : WaitingCall). w.session ≢ n) calls) (sym its.1) c.requires.free in
    record {
      txns = txns_aborted old new s was.txns c.args.seat.now.txn [] a done.left its.0.0 at (done.undos a here at) done.doubts done.next done.stream its.0.1 c.args.logged done.kept;
      waits = subst (λ cs. HasWaits cs (abort_ended s a c.args.logged)) (sym c.note_let_through.ensures.calls) (waits_freed calls s was.waits a its.0.0 once free (abort_ended s a c.args.logged) refl refl refl refl (λ n. refl));
      resolving = subst (λ cs. AreResolving new cs (abort_ended s a c.args.logged)) (sym c.note_let_through.ensures.calls)
          (resolving_kept old new calls calls s (abort_ended s a c.args.logged) (rolled_left old new s was.txns c.args.seat.now.txn [] a done.left its.0.0 at its.0.1) refl refl (λ f. f) was.resolving);
      locks = ap (left_by a.txn) was.locks ∙ ap (λ n. left_by n (locks_in c.args.self.now)) at ∙ sym (returns-clause-locks c);
    }

pub returns-clause-resolves : goal.returns-clause-resolves
unfolding left_by
returns-clause-resolves c s a r was works its there own logged =
    let done = c.note_end-txn.ensures in
    let here = subst (IsAmong a) was.txns.active its.0 in
    control_rolled c.args.self.now _ s was works a r its.0 there own (c.requires.empty a here its.1) done.left its.1 (done.undos a here its.1) done.doubts done.next
    (done.kept ∙ ap (λ b. (room_in (txns_in c.args.self.now)).kept + cond b ENDING_COST 0) logged) done.stream c.note_let_through.ensures.calls
    (returns-clause-locks c ∙ ap (λ n. left_by n (locks_in c.args.self.now)) (sym its.1))

pub invariant_of-self-clause-marked : goal.invariant_of-self-clause-marked
invariant_of-self-clause-marked c =
    c.note_let_through.ensures.marks
    (marked_but_told c.args.self.now.waits (locks_in c.args.self.now).requests c.release_all.new.self.requests c.nobody-let_through.result c.release_all.new.let_through c.args.self.now.marked c.release_all.ensures.told)

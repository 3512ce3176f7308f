use Rattle.std.proofs.Common.{◌≢◌, ℕ, refl, sym, ap, subst, ◌∙◌}
use Rattle.std.specs.Prelude.{All}
use Rattle.shore_locks.specs.Grants.{released}
use Rattle.shore_locks.specs.Tables.{Table}
use Rattle.laws_lives.specs.Sessions.{EachOnce, txns_of}
use Rattle.laws_lives.specs.Views.{IsAmong}
use Rattle.laws_calls.specs.StateChanges.{committed}
use Rattle.shore_sessions.specs.Controls.{locks_in, txns_in, waits_in}
use Rattle.shore_sessions.specs.Standing.{AreResolving, HasWaits}
use Rattle.shore_sessions.specs.declared.waits.WaitingCall.{WaitingCall}
use Rattle.shore_sessions.proofs.ControlSteps.{resolving_kept}
use Rattle.shore_sessions.proofs.DoubtTables.{doubts_but}
use Rattle.shore_sessions.proofs.Marks.{marked_but_told}
use Rattle.shore_sessions.proofs.TxnSteps.{rolled_left, txns_committed, undone}
use Rattle.shore_sessions.proofs.WaitSteps.{waits_freed}
use Rattle.shore_sessions.proofs.control.Control.commit.Goals as goal

left_by : ℕ → Table → Table
left_by txn t = record { limit = t.limit; requests = released txn t.requests }

pub returns-clause-locks : goal.returns-clause-locks
unfolding left_by
returns-clause-locks c = c.release_all.ensures.table ∙ ap (λ txn. left_by txn (locks_in c.args.self.now)) c.note_commit-txn.ensures.number

pub returns-clause-undone : goal.returns-clause-undone
returns-clause-undone c s a was its =
    undone (txns_in c.args.self.now) c.note_commit-txn.new.self s was.txns c.args.seat.now.txn c.note_commit-txn.result.1.items a c.note_commit-txn.ensures.left its.0 its.1

pub returns-clause-stands : goal.returns-clause-stands
unfolding left_by
returns-clause-stands c s a was its at =
    let done = c.note_commit-txn.ensures in
    let old = txns_in c.args.self.now in
    let new = c.note_commit-txn.new.self in
    let number = c.args.seat.now.txn in
    let changes = c.note_commit-txn.result.1.items in
    let calls = waits_in c.args.self.now in
    let here = subst (IsAmong a) was.txns.active its.0.0 in
    let once = subst (λ ts. EachOnce (txns_of ts)) (sym was.txns.active) c.args.self.now.txns.numbers in
    let free = subst (λ n. All (λ (w : WaitingCall). w.session ≢ n) calls) (sym its.1) c.requires.free in
    record {
      txns = txns_committed old new s was.txns number changes a done.left its.0.0 at its.0.1
          (done.undos a here at) (done.doubts ∙ doubts_but old s.sessions was.txns.seats a here its.0.1 number at) done.next done.kept done.stream;
      waits = subst (λ cs. HasWaits cs (committed s a)) (sym c.note_let_through.ensures.calls) (waits_freed calls s was.waits a its.0.0 once free (committed s a) refl refl refl refl (λ n. refl));
      resolving = subst (λ cs. AreResolving new cs (committed s a)) (sym c.note_let_through.ensures.calls)
          (resolving_kept old new calls calls s (committed s a) (rolled_left old new s was.txns number changes a done.left its.0.0 at its.0.1) refl refl (λ f. f) was.resolving);
      locks = ap (left_by a.txn) was.locks ∙ ap (λ n. left_by n (locks_in c.args.self.now)) at ∙ sym (returns-clause-locks c);
    }

pub invariant_of-self-clause-marked : goal.invariant_of-self-clause-marked
invariant_of-self-clause-marked c =
    c.note_let_through.ensures.marks
    (marked_but_told c.args.self.now.waits (locks_in c.args.self.now).requests c.release_all.new.self.requests c.nobody-let_through.result c.release_all.new.let_through c.args.self.now.marked c.release_all.ensures.told)

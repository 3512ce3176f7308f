use Rattle.std.proofs.Common.{◌≡◌, ◌∷◌, ℕ, List, sym, ap, subst, ◌∙◌}
use Rattle.shore_locks.specs.Grants.{released}
use Rattle.shore_locks.specs.Tables.{Table}
use Rattle.shore_model.specs.declared.calls.Call.TheVariants as call
use Rattle.shore_model.specs.declared.calls.Outcome.TheVariants.{Commit}
use Rattle.laws_lives.specs.Views.{IsAmong}
use Rattle.laws_calls.specs.StateChanges.{decision_waiting}
use Rattle.laws_calls.specs.States.{State}
use Rattle.shore_sessions.specs.Controls.{locks_in, txns_in}
use Rattle.shore_sessions.specs.Standing.{HasControl, HasControlBut}
use Rattle.shore_sessions.specs.declared.control.Control.{Control}
use Rattle.shore_sessions.proofs.Committing.{control_resolving, resolved_state, resolver_free, rolled_stay, txns_resolved}
use Rattle.shore_sessions.proofs.Marks.{marked_but_told}
use Rattle.shore_sessions.proofs.TxnSteps.{undone}
use Rattle.shore_sessions.proofs.control.Control.resolve.Goals as goal

pub returns-clause-undone : goal.returns-clause-undone
returns-clause-undone c s a was its =
    undone (txns_in c.args.self.now) c.note_commit-txn.new.self s was.txns c.args.seat.now.txn c.note_commit-txn.result.1.items a c.note_commit-txn.ensures.left its.0 its.1

left_by : ℕ → Table → Table
left_by txn t = record { limit = t.limit; requests = released txn t.requests }

-- by another word for its number
but_of : (global : List ℕ) (control : Control) (s : State) (t n : ℕ) → t ≡ n → HasControlBut (record { txn = t; global = global; outcome = Commit }) control s
    → HasControlBut (record { txn = n; global = global; outcome = Commit }) control s
but_of global control s t n same but = subst (λ k. HasControlBut (record { txn = k; global = global; outcome = Commit }) control s) same but

pub returns-clause-stands : goal.returns-clause-stands
unfolding left_by
returns-clause-stands c s a was its can may differ number =
    let done = c.note_commit-txn.ensures in
    let old = txns_in c.args.self.now in
    let new = c.note_commit-txn.new.self in
    let changes = c.note_commit-txn.result.1.items in
    let here = subst (IsAmong a) was.txns.active its.0 in
    let mid = resolved_state s a c.args.global in
    let txns = txns_resolved old new s was.txns a c.args.global can c.args.seat.now.txn changes done.left its.1 (done.undos a here its.1) done.doubts done.next done.kept done.stream in
    let rolled = rolled_stay old new s was.txns a c.args.global can c.args.seat.now.txn changes done.left its.1 in
    let locks = c.release_all.ensures.table ∙ ap (λ n. left_by n (locks_in c.args.self.now)) (done.number ∙ sym its.1) in
    subst (λ n. HasControl c.await_resolve.new.self (record mid { waiting = decision_waiting c.args.seat.now.session (call.Resolve c.args.global Commit) n ∷ s.waiting })) number
    (c.await_resolve.ensures.stands mid
    (but_of c.args.global _ mid a.txn c.note_commit-txn.result.0 (its.1 ∙ sym done.number)
    (control_resolving c.args.self.now _ s was a c.args.global can txns rolled c.note_let_through.ensures.calls locks))
    (resolver_free s c.args.seat.now.session a c.args.global can may differ))

pub invariant_of-self-clause-marked : goal.invariant_of-self-clause-marked
invariant_of-self-clause-marked c =
    c.note_let_through.ensures.marks
    (marked_but_told c.args.self.now.waits (locks_in c.args.self.now).requests c.release_all.new.self.requests c.nobody-let_through.result c.release_all.new.let_through c.args.self.now.marked c.release_all.ensures.told)

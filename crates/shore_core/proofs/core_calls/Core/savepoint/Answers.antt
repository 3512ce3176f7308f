use Rattle.std.proofs.Common.{◌≡◌, ◌+◌, ◌<◌, ◌≤◌, inl, inr, length, refl, sym, ap, subst, ◌∙◌, arith}
use Rattle.shore_types.specs.declared.faults.Fault.TheVariants as fault
use Rattle.shore_types.specs.declared.layout.TheConstants.{LAST_OPENED, MAX_SAVEPOINTS}
use Rattle.shore_model.specs.declared.calls.Answer.TheVariants.{Saved}
use Rattle.shore_model.specs.declared.calls.Call.TheVariants as call
use Rattle.laws_room.proofs.Leaving.{marked_slots}
use Rattle.laws_lives.specs.Sessions.{SessionTxn}
use Rattle.laws_calls.specs.StateChanges.{answered}
use Rattle.laws_calls.specs.States.{State}
use Rattle.shore_sessions.specs.Controls.{txns_in}
use Rattle.shore_txn.proofs.OneOfMany.{once_same}
use Rattle.shore_txn.specs.Transactions.{undos_in}
use Rattle.shore_txn.specs.Txns.{as_session_txn}
use Rattle.shore_core.specs.Cores.{first_of, txns_of, waiting_of}
use Rattle.shore_core.proofs.Changed.{earlier_marked}
use Rattle.shore_core.proofs.Coming.{comes_same}
use Rattle.shore_core.proofs.Moving.{comes_moved}
use Rattle.shore_core.proofs.Opening.{inner_savepoint, replied_not_open}
use Rattle.shore_core.proofs.Taking.{replied_as}
use Rattle.shore_core.proofs.Serving.{call_still, not_open_aside, refused_still}
use Rattle.shore_core.proofs.core_calls.Core.savepoint.Goals as goal

pub returns-in_err-own-clause-replied : goal.returns-in_err-own-clause-replied
returns-in_err-own-clause-replied g c running front disk before s store is safe over idle =
    replied_not_open c.args.self.now front disk before s store c.args.seat.now.session call.Savepoint c.from_residual.result c.in_err-own.field-0.0 is over inner_savepoint
    (is.beside.parts.failed_is ∙ running) idle c.from_residual.ensures.1 (c.in_err-own.ensures.not_open s is.beside.parts.stands)

pub returns-then-savepoints-ge-MAX_SAVEPOINTS-clause-replied : goal.returns-then-savepoints-ge-MAX_SAVEPOINTS-clause-replied
returns-then-savepoints-ge-MAX_SAVEPOINTS-clause-replied g c running front disk before s store is safe over idle =
    let old = c.args.self.now in
    let a = as_session_txn c.in_ok-own.own.now in
    let its = c.in_ok-own.ensures.of_session s is.beside.parts.stands in
    let many : MAX_SAVEPOINTS ≤ length a.undo.marks = omega (arith, c.savepoints.ensures, c.if-savepoints-ge-MAX_SAVEPOINTS.true) in
    record {
      later = s;
      replies = inr (inr (inr (inr (inr (inl (is.beside.parts.failed_is ∙ running, idle, (a, its, inr (inl (c.in_ok-own.ensures.whole, inr (inr (inr (inl (refl, (refl, many, refl))))))))))))));
      comes = inr (comes_same old front disk before s store is over);
    }

pub savepoint-requires-clause-few : goal.savepoint-requires-clause-few
savepoint-requires-clause-few g c a m of =
    let txns = txns_of c.args.self.now in
    let own = as_session_txn c.in_ok-own.own.now in
    let same : own ≡ a = once_same (λ (b : SessionTxn). b.txn) (undos_in txns) txns.numbers own a c.in_ok-own.ensures.there m (c.in_ok-own.ensures.some.1 ∙ sym of) in
    subst (λ (b : SessionTxn). length b.undo.marks < MAX_SAVEPOINTS) same (omega (arith, c.savepoints.ensures, c.if-savepoints-ge-MAX_SAVEPOINTS.false))

pub invariant_of-self : goal.invariant_of-self
invariant_of-self g c =
    let old = c.args.self.now in
    let done = c.savepoint.ensures in
    let next = first_of old + length (waiting_of old) in
    record {
      some_number = old.some_number;
      forced = old.forced;
      numbers = subst (λ r. next + r.reserved ≤ LAST_OPENED) (sym done.room) old.numbers;
      earlier = earlier_marked (txns_of old) (txns_in c.savepoint.new.self) next old.earlier c.args.seat.now.txn c.savepoint.result done.set done.same;
    }

pub returns-in_err-index-clause-replied : goal.returns-in_err-index-clause-replied
returns-in_err-index-clause-replied g c running front disk before s store is safe over idle =
    replied_as c.args.self.now _ front before s store c.args.seat.now.session call.Savepoint c.from_residual-in_err-index.result fault.Memory c.from_residual-in_err-index.ensures.1 (inl (refl, refl))
    (inr (comes_moved c.args.self.now _ front disk before s s store refl refl refl refl refl c.savepoint.ensures.claims (c.in_err-index.ensures.unchanged s is.beside.parts.stands) refl refl refl
    (λ p. refl) is over))

pub returns-clause-replied : goal.returns-clause-replied
returns-clause-replied g c running front disk before s store is safe over idle =
    let old = c.args.self.now in
    let was = is.beside.parts.stands in
    let a = as_session_txn c.in_ok-own.own.now in
    let its = c.in_ok-own.ensures.of_session s was in
    let set = c.in_ok-index.ensures.stands s a was (its.0.0, c.in_ok-own.ensures.some.1) in
    let later : State = answered s a call.Savepoint (Saved c.in_ok-index.index) s.counts in
    let few : length a.undo.marks < MAX_SAVEPOINTS = omega (arith, c.savepoints.ensures, c.if-savepoints-ge-MAX_SAVEPOINTS.false) in
    record {
      later = later;
      replies = inr (inr (inr (inr (inr (inl (is.beside.parts.failed_is ∙ running, idle, (a, its, inr (inl (c.in_ok-own.ensures.whole, inr (inr (inr (inl (refl, (few, ap Saved set.0, refl))))))))))))));
      comes = comes_moved old _ front disk before s later store refl refl refl refl refl c.savepoint.ensures.claims set.1 refl refl refl
          (λ p. marked_slots _ s.sessions.records s.sessions.active s.counts safe.roomy.pages a its.0.0 _ refl p (s.counts p)) is over;
    }

pub returns-in_err-own-clause-serves : goal.returns-in_err-own-clause-serves
returns-in_err-own-clause-serves g c =
    refused_still _ _ _ _ _ _ c.from_residual.ensures.1 refl refl refl refl (not_open_aside _ c.in_err-own.ensures.refused)

pub returns-then-savepoints-ge-MAX_SAVEPOINTS-clause-serves : goal.returns-then-savepoints-ge-MAX_SAVEPOINTS-clause-serves
returns-then-savepoints-ge-MAX_SAVEPOINTS-clause-serves g c = call_still _ _ _ _ _ refl refl refl refl tt tt

pub returns-in_err-index-clause-serves : goal.returns-in_err-index-clause-serves
returns-in_err-index-clause-serves g c = refused_still _ _ _ _ _ fault.Memory c.from_residual-in_err-index.ensures.1 refl refl refl refl tt

pub returns-clause-serves : goal.returns-clause-serves
returns-clause-serves g c = call_still _ _ _ _ _ refl refl refl refl tt refl

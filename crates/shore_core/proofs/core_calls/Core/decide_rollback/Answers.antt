use Rattle.std.proofs.Common.{◌≡◌, ◌+◌, ◌++◌, ◌∷◌, [], false, true, inl, inr, length, length-append, refl, sym, ap, ◌∙◌, arith}
use Rattle.shore_model.specs.declared.log_records.LogRecord.{LogRecord}
use Rattle.shore_model.specs.declared.log_records.Payload.TheVariants.{RollbackDecided}
use Rattle.shore_model.specs.declared.rollbacks.Rollback.TheVariants.{Whole}
use Rattle.shore_model.specs.Logs.{previous_of}
use Rattle.laws_room.proofs.Leaving.{marked_slots}
use Rattle.laws_lives.specs.UndoLists.{undo_rolled}
use Rattle.laws_calls.proofs.Unwinding.{its_list}
use Rattle.laws_calls.specs.Resolves.{rollback_decided}
use Rattle.laws_calls.specs.Rollbacks.{rolled}
use Rattle.laws_calls.specs.States.{State}
use Rattle.shore_txn.specs.Transactions as table
use Rattle.shore_txn.specs.TxnStates.{is_in_doubt}
use Rattle.shore_txn.specs.Txns.{as_session_txn, state_of}
use Rattle.shore_txn.proofs.Seats.{seat_becomes}
use Rattle.shore_sessions.specs.Controls.{txns_in}
use Rattle.shore_sessions.specs.Standing.{IsLogged}
use Rattle.shore_core.specs.Cores.{control_of, durable_of, first_of, has_failed, txns_of, waiting_of}
use Rattle.shore_core.proofs.Callers.{at_seat}
use Rattle.shore_core.proofs.Coming.{comes_same}
use Rattle.shore_core.proofs.Decided.{comes_logged}
use Rattle.shore_core.proofs.Leaving.{comes_lacking}
use Rattle.shore_core.proofs.Prepared.{can_decide, decided_unprepared, earlier_decided, rolling_on}
use Rattle.shore_core.proofs.Serving.{nothing_called}
use Rattle.shore_core.proofs.Tables.{each_among, next_is}
use Rattle.shore_core.proofs.Keeping.{both}
use Rattle.shore_core.proofs.core_calls.Core.decide_rollback.Goals as goal

pub returns-then-not-is_in_doubt-clause-decides : goal.returns-then-not-is_in_doubt-clause-decides
returns-then-not-is_in_doubt-clause-decides g c running front disk before s store is safe over global to =
    let old = c.args.self.now in
    let own = c.txn-own.result.now in
    let b = as_session_txn own in
    let rolls = rolling_on s own global (sym c.is_in_doubt.ensures ∙ c.if-not-is_in_doubt.true) (to own c.txn-own.ensures.among c.txn-own.ensures.number) in
    (b, s, inr (rolls, refl), (rolls.0, c.txn-own.ensures.number), comes_same old front disk before s store is over)

pub returns-then-not-is_in_doubt-clause-unprepared : goal.returns-then-not-is_in_doubt-clause-unprepared
returns-then-not-is_in_doubt-clause-unprepared g c =
    at_seat (txns_of c.args.self.now) c.args.seat.now c.txn-own.result.now c.txn-own.ensures.among c.txn-own.ensures.number (λ t. is_in_doubt (state_of t) ≡ false) (sym c.is_in_doubt.ensures ∙ c.if-not-is_in_doubt.true)

pub push-requires-clause-previous : goal.push-requires-clause-previous
push-requires-clause-previous g c =
    let earlier = c.args.self.now.earlier c.txn-own.result.now c.txn-own.ensures.among in
    omega (arith, c.last.ensures, earlier)

pub invariant_of-self : goal.invariant_of-self
invariant_of-self g c =
    let old = c.args.self.now in
    let same = ap length c.in-Err.ensures.none_added in
    let first = c.push.ensures.first in
    record {
      some_number = omega (arith, same, first, old.some_number);
      forced = omega (arith, same, first, old.forced);
      numbers = omega (arith, same, first, old.numbers);
      earlier = λ t m. omega (arith, same, first, old.earlier t m);
    }

pub returns-in-Err-clause-decides : goal.returns-in-Err-clause-decides
returns-in-Err-clause-decides g c running front disk before s store is safe over global to = (
  c.in-Err.ensures.refused,
  comes_lacking c.args.self.now _ front disk before s store refl c.push.ensures.first c.in-Err.ensures.none_added refl refl refl is.beside.parts.stands is over,
)

pub note_rollback-requires-clause-doubt : goal.note_rollback-requires-clause-doubt
note_rollback-requires-clause-doubt g c =
    at_seat (txns_of c.args.self.now) c.args.seat.now c.txn-own.result.now c.txn-own.ensures.among c.txn-own.ensures.number (λ t. is_in_doubt (state_of t) ≡ true) (sym c.is_in_doubt.ensures ∙ c.if-not-is_in_doubt.false)

pub invariant_of-self-2 : goal.invariant_of-self-2
invariant_of-self-2 g c =
    let old = c.args.self.now in
    let now = first_of old + length (waiting_of old) in
    let more = ap length c.in-Ok.ensures.added ∙ length-append (waiting_of old) (_ ∷ []) in
    let risen : g.T.Tail.first c.push.new.self + length (g.T.Tail.records c.push.new.self) ≡ now + 1 = omega (arith, more, c.push.ensures.first) in
    record {
      some_number = omega (arith, risen, old.some_number);
      forced = omega (arith, risen, old.forced);
      numbers = omega (arith, risen, c.note_rollback.ensures.reserved, old.numbers);
      earlier = λ t m. omega (arith, risen, earlier_decided (txns_of old) (txns_in c.note_rollback.new.self) now old.earlier c.note_rollback.ensures.decided c.in-Ok.ensures.number t m);
    }

pub returns-clause-decides : goal.returns-clause-decides
returns-clause-decides g c running front disk before s store is safe over global to =
    let old = c.args.self.now in
    let own = c.txn-own.result.now in
    let a = as_session_txn own in
    let stands = is.beside.parts.stands in
    let can = can_decide s own global (sym c.is_in_doubt.ensures ∙ c.if-not-is_in_doubt.false) (to own c.txn-own.ensures.among c.txn-own.ensures.number) in
    let number = c.in-Ok.ensures.number ∙ sym (next_is (control_of old) (waiting_of old) (durable_of old) (has_failed old) before s is.beside.parts (first_of old) is.beside.first 0) in
    let later : State = rollback_decided s a global in
    let r : LogRecord = record { txn = a.txn; previous = previous_of a.txn s.log; payload = RollbackDecided } in
    let last = each_among (IsLogged s.log) (table.txns_in (txns_of old)) stands.txns.each own c.txn-own.ensures.among in
    let added : g.T.Tail.records c.push.new.self ≡ waiting_of old ++ r ∷ [] =
    c.in-Ok.ensures.added ∙ ap (λ n. waiting_of old ++ record { txn = n; previous = c.last.result; payload = RollbackDecided } ∷ []) c.id.ensures.number
    ∙ ap (λ n. waiting_of old ++ record { txn = a.txn; previous = n; payload = RollbackDecided } ∷ []) (c.last.ensures ∙ last.last) in (
      rolled a a.undo.images Whole,
      later,
      inl (a, can, refl, refl),
      (its_list a (undo_rolled a.undo a.undo.images Whole) s.sessions.active can.0, c.txn-own.ensures.number),
      comes_logged old _ front disk before s later store is over refl c.push.ensures.first refl refl c.note_rollback.ensures.claims
          (λ p. marked_slots _ s.sessions.records s.sessions.active s.counts safe.roomy.pages a can.0 _ refl p (s.counts p)) r added refl
          (c.note_rollback.ensures.stands s a global stands (can.0, c.txn-own.ensures.number) can number) refl refl refl,
    )

pub returns-clause-seated : goal.returns-clause-seated
returns-clause-seated g c =
    seat_becomes (txns_of c.args.self.now) (txns_in c.note_rollback.new.self) c.args.seat.now (λ before after becomes. becomes.txn) c.note_rollback.ensures.decided c.requires

pub returns-clause-unprepared : goal.returns-clause-unprepared
returns-clause-unprepared g c = decided_unprepared (txns_of c.args.self.now) (txns_in c.note_rollback.new.self) c.args.seat.now c.note_rollback.ensures.decided

pub returns-then-not-is_in_doubt-clause-no_call : goal.returns-then-not-is_in_doubt-clause-no_call
returns-then-not-is_in_doubt-clause-no_call g c = nothing_called _ _ refl refl refl refl

pub returns-in-Err-clause-no_call : goal.returns-in-Err-clause-no_call
returns-in-Err-clause-no_call g c = nothing_called _ _ refl refl (both c.push.ensures.first c.push.ensures.told) refl

pub returns-clause-no_call : goal.returns-clause-no_call
returns-clause-no_call g c = nothing_called _ _ refl refl (both c.push.ensures.first c.push.ensures.told) refl

pub returns-in-Err-clause-longer : goal.returns-in-Err-clause-longer
returns-in-Err-clause-longer g c =
    let same = ap length c.in-Err.ensures.none_added in
    omega (arith, same, c.push.ensures.first)

pub returns-clause-longer : goal.returns-clause-longer
returns-clause-longer g c =
    let old = c.args.self.now in
    let more = ap length c.in-Ok.ensures.added ∙ length-append (waiting_of old) (_ ∷ []) in
    omega (arith, more, c.push.ensures.first)

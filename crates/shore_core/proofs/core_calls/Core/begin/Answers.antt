use Rattle.std.proofs.Common.{inl, inr, refl, sym, ap, ◌∙◌, arith}
use Rattle.shore_types.specs.declared.faults.Fault.TheVariants as fault
use Rattle.shore_types.specs.declared.layout.TheConstants.{ENDING_COST}
use Rattle.shore_model.specs.declared.calls.Answer.TheVariants.{Began}
use Rattle.shore_model.specs.declared.calls.Call.TheVariants as call
use Rattle.laws_room.proofs.Leaving.{begun_slots}
use Rattle.laws_lives.specs.UndoLists.{nothing_to_undo}
use Rattle.laws_calls.specs.StateChanges.{begun}
use Rattle.laws_calls.specs.States.{State, page_slots}
use Rattle.shore_heap.proofs.Showing.{shows_same}
use Rattle.shore_sessions.proofs.Seats.{in_no_txn}
use Rattle.shore_sessions.specs.Controls.{txns_in}
use Rattle.shore_txn.specs.Transactions.{kept_in}
use Rattle.shore_core.specs.Cores.{control_of, durable_of, first_of, has_failed, txns_of, waiting_of}
use Rattle.shore_core.proofs.Begun.{begun_earlier, begun_reserved}
use Rattle.shore_core.proofs.Coming.{comes_same, over_as, pages_told}
use Rattle.shore_core.proofs.Tables.{has_no_room, has_room, parts_moved}
use Rattle.shore_core.proofs.Taking.{replied_as, true_false}
use Rattle.shore_core.proofs.core_calls.Core.begin.Goals.{then-not-admits-via-then-not-admits, then-not-admits-via-else-not-admits+then-next-ge-LAST_TXN}
use Rattle.shore_core.proofs.Serving.{call_still, refused_still}
use Rattle.shore_core.proofs.core_calls.Core.begin.Goals as goal

pub returns-then-count-ge-MAX_TRANSACTIONS-clause-replied : goal.returns-then-count-ge-MAX_TRANSACTIONS-clause-replied
returns-then-count-ge-MAX_TRANSACTIONS-clause-replied g c running front disk before s store is safe over idle =
    let old = c.args.self.now in
    let works = is.beside.parts.failed_is ∙ running in
    let none = in_no_txn (txns_of old) s is.beside.parts.stands.txns safe.after.sessions.seats c.args.session c.requires in
    let count = c.count.ensures.count s is.beside.parts.stands works in
    record {
      later = s;
      replies = inr (inr (inr (inl (works, idle, refl, (inr (inl (refl, none, omega (arith, count, c.if-count-ge-MAX_TRANSACTIONS.true))), refl)))));
      comes = inr (comes_same old front disk before s store is over);
    }

pub returns-then-not-admits-clause-replied : goal.returns-then-not-admits-clause-replied
returns-then-not-admits-clause-replied g c running front disk before s store is safe over idle =
    let old = c.args.self.now in
    let works = is.beside.parts.failed_is ∙ running in
    let none = in_no_txn (txns_of old) s is.beside.parts.stands.txns safe.after.sessions.seats c.args.session c.requires in
    let count = c.count.ensures.count s is.beside.parts.stands works in
    elim c.then-not-admits.branch [
      | then-not-admits-via-then-not-admits w ↦ record {
        later = s;
        replies = inr (inr (inr (inl (
          works,
          idle,
          refl,
          (
            inr (inr (
              refl,
              none,
              omega (arith, count, c.if-count-ge-MAX_TRANSACTIONS.false),
              λ may. has_no_room (control_of old) (waiting_of old) (durable_of old) (has_failed old) before s is.beside.parts (first_of old) is.beside.first ENDING_COST
                  (λ h. true_false (sym (c.admits.ensures.1 h) ∙ w.if-not-admits.true)) may.0,
            )),
            refl,
          ),
        ))));
        comes = inr (comes_same old front disk before s store is over);
      }
      | then-not-admits-via-else-not-admits+then-next-ge-LAST_TXN w ↦ record {
        later = s;
        replies = inr (inr (inr (inl (
          works,
          idle,
          refl,
          (
            inr (inr (
              refl,
              none,
              omega (arith, count, c.if-count-ge-MAX_TRANSACTIONS.false),
              λ may. omega (arith, may.1, is.beside.parts.stands.txns.next, w.next.ensures, w.if-next-ge-LAST_TXN.true),
            )),
            refl,
          ),
        ))));
        comes = inr (comes_same old front disk before s store is over);
      }
    ]

pub invariant_of-self : goal.invariant_of-self
invariant_of-self g c =
    let old = c.args.self.now in
    let ensures = c.begin.ensures in
    let reserved = begun_reserved (txns_of old) (txns_in c.begin.new.self) c.args.session c.begin.result ensures.listed ensures.refused in
    let admits = c.if-not-admits.ensures.0 refl in
    record {
      some_number = old.some_number;
      forced = old.forced;
      numbers = omega (arith, reserved, admits.0, admits.1, (txns_of old).room.short);
      earlier = begun_earlier (txns_of old) (txns_in c.begin.new.self) c.args.session c.begin.result _ (omega (arith, old.some_number)) ensures.listed ensures.refused old.earlier;
    }

pub returns-in_err-txn-clause-replied : goal.returns-in_err-txn-clause-replied
returns-in_err-txn-clause-replied g c running front disk before s store is safe over idle =
    let old = c.args.self.now in
    let stands = c.in_err-txn.ensures.unchanged s is.beside.parts.stands in
    let parts = parts_moved (control_of old) c.begin.new.self (waiting_of old) (durable_of old) (has_failed old) before s s is.beside.parts stands refl refl refl in
    replied_as old _ front before s store c.args.session call.Begin c.from_residual.result fault.Memory c.from_residual.ensures.1 (inl (refl, refl))
    (inr (comes_same _ front disk before s store (record {
      beside = record { first = is.beside.first; parts = parts };
      pages = λ w. pages_told old.heap (txns_of old) (txns_in c.begin.new.self) front disk (page_slots s) c.in_err-txn.ensures.claims (is.pages w);
    }) (over_as old _ disk s s store refl refl refl refl over)))

pub returns-clause-replied : goal.returns-clause-replied
returns-clause-replied g c running front disk before s store is safe over idle =
    let old = c.args.self.now in
    let works = is.beside.parts.failed_is ∙ running in
    let none = in_no_txn (txns_of old) s is.beside.parts.stands.txns safe.after.sessions.seats c.args.session c.requires in
    let count = c.count.ensures.count s is.beside.parts.stands works in
    let later : State = begun s c.args.session in
    let parts = parts_moved (control_of old) c.begin.new.self (waiting_of old) (durable_of old) (has_failed old) before s later is.beside.parts (c.in_ok-txn.ensures.stands s is.beside.parts.stands idle) refl refl refl in
    record {
      later = later;
      replies = inr (inr (inr (inl (
        works,
        idle,
        refl,
        (
          none,
          omega (arith, count, c.if-count-ge-MAX_TRANSACTIONS.false),
          (
            has_room (control_of old) (waiting_of old) (durable_of old) (has_failed old) before s is.beside.parts (first_of old) is.beside.first ENDING_COST (c.if-not-admits.ensures.0 refl),
            omega (arith, is.beside.parts.stands.txns.next, c.next.ensures, c.if-next-ge-LAST_TXN.false),
          ),
          ap Began (c.in_ok-txn.ensures.number ∙ sym is.beside.parts.stands.txns.next),
          refl,
        ),
      ))));
      comes = comes_same _ front disk before later store (record {
        beside = record { first = is.beside.first; parts = parts };
        pages = λ w. pages_told old.heap (txns_of old) (txns_in c.begin.new.self) front disk (page_slots later) c.in_ok-txn.ensures.claims
            (shows_same old.heap (kept_in (txns_of old)) front disk (page_slots s) (page_slots later) (λ p there. begun_slots s.sessions.records s.sessions.active (record { session = c.args.session; txn = s.sessions.next_txn; undo = nothing_to_undo }) refl p (s.counts p)) (is.pages w));
      }) (over_as old _ disk s later store refl refl refl refl over);
    }

pub returns-then-count-ge-MAX_TRANSACTIONS-clause-serves : goal.returns-then-count-ge-MAX_TRANSACTIONS-clause-serves
returns-then-count-ge-MAX_TRANSACTIONS-clause-serves g c = call_still _ _ _ _ _ refl refl refl refl tt tt

pub returns-then-not-admits-clause-serves : goal.returns-then-not-admits-clause-serves
returns-then-not-admits-clause-serves g c = call_still _ _ _ _ _ refl refl refl refl tt tt

pub returns-in_err-txn-clause-serves : goal.returns-in_err-txn-clause-serves
returns-in_err-txn-clause-serves g c = refused_still _ _ _ _ _ fault.Memory c.from_residual.ensures.1 refl refl refl refl tt

pub returns-clause-serves : goal.returns-clause-serves
returns-clause-serves g c = call_still _ _ _ _ _ refl refl refl refl tt refl

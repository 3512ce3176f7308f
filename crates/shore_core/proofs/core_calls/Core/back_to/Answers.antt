use Rattle.std.proofs.Common.{◌≡◌, ◌⊎◌, ◌+◌, ◌≤◌, None, Some, inl, inr, length, refl, sym, ap, subst, ◌∙◌, arith}
use Rattle.shore_types.specs.declared.layout.TheConstants.{LAST_OPENED}
use Rattle.shore_model.specs.declared.calls.Answer.TheVariants.{WentBack}
use Rattle.shore_model.specs.declared.calls.Call.TheVariants as call
use Rattle.laws_lives.specs.UndoLists.{MayRoll}
use Rattle.shore_model.specs.declared.rollbacks.Rollback.TheVariants.{To}
use Rattle.laws_calls.proofs.RollingCalls.{mark_of_within}
use Rattle.laws_calls.specs.StateChanges.{answered}
use Rattle.laws_calls.specs.States.{State}
use Rattle.shore_sessions.specs.Controls.{txns_in}
use Rattle.shore_txn.specs.TxnStates.{is_in_doubt}
use Rattle.shore_txn.specs.Txns.{as_session_txn, rolling_of}
use Rattle.shore_txn.specs.declared.txn_state.TxnState.{TxnState}
use Rattle.shore_core.specs.Cores.{CoreComesTo, first_of, geometry_of, txns_of, waiting_of}
use Rattle.shore_core.proofs.Coming.{comes_same, comes_then}
use Rattle.shore_core.proofs.Moving.{comes_moved}
use Rattle.shore_core.proofs.Rolling.{goes_back_done, goes_on_from, none_since}
use Rattle.shore_core.proofs.RolledBack.{back_log, back_slots, earlier_back, interrupted_replied, mark_inside, mark_is, mark_past, may_take, takes_back}
use Rattle.shore_core.proofs.Opening.{replied_prepared}
use Rattle.shore_core.proofs.Taking.{true_false}
use Rattle.shore_core.proofs.Serving.{as_aside, call_still, call_then, nothing_called, refused_as, refused_still}
use Rattle.shore_core.proofs.core_calls.Core.back_to.Goals as goal

pub returns-then-not-may_go_back-clause-replied : goal.returns-then-not-may_go_back-clause-replied
returns-then-not-may_go_back-clause-replied g c running front disk before s store is safe over idle =
    let old = c.args.self.now in
    let a = as_session_txn c.txn-own.result.now in
    let its = c.txn-own.ensures.of_session c.requires.own (c.in_ok-check_unprepared.ensures.unprepared c.txn-own.result.now c.txn-own.ensures.among c.txn-own.ensures.number) s is.beside.parts.stands in
    let at_seat = c.txn-own.ensures.number in
    let works = is.beside.parts.failed_is ∙ running in
    record {
      later = s;
      replies = inr (inr (inr (inr (inr (inl (
        works,
        idle,
        (
          a,
          its,
          inl (
            tt,
            (λ takes. true_false (sym (c.may_go_back.ensures.1 (ap is_in_doubt c.state.ensures ∙ c.in_ok-check_unprepared.ensures.unprepared c.txn-own.result.now c.txn-own.ensures.among c.txn-own.ensures.number, subst (λ (st : TxnState). (rolling_of st ≡ None) ⊎ (rolling_of st ≡ Some (To c.args.index))) (sym c.state.ensures) (may_take a.undo c.args.index takes))) ∙ c.if-not-may_go_back.true)),
            refl,
            refl,
          ),
        ),
      ))))));
      comes = inr (comes_same old front disk before s store is over);
    }

pub returns-in_default-clause-replied : goal.returns-in_default-clause-replied
returns-in_default-clause-replied g c running front disk before s store is safe over idle =
    let old = c.args.self.now in
    let a = as_session_txn c.txn-own.result.now in
    let its = c.txn-own.ensures.of_session c.requires.own (c.in_ok-check_unprepared.ensures.unprepared c.txn-own.result.now c.txn-own.ensures.among c.txn-own.ensures.number) s is.beside.parts.stands in
    let at_seat = c.txn-own.ensures.number in
    let works = is.beside.parts.failed_is ∙ running in
    let past : length a.undo.marks ≤ c.args.index = mark_past a.undo.marks c.args.index (λ mark has. c.in_default.not-Some mark (c.mark.ensures ∙ has)) in
    record {
      later = s;
      replies = inr (inr (inr (inr (inr (inl (works, idle, (a, its, inr (inr (inl (c.args.index, refl, takes_back a.undo c.args.index (subst (λ (st : TxnState). (rolling_of st ≡ None) ⊎ (rolling_of st ≡ Some (To c.args.index))) c.state.ensures (c.if-not-may_go_back.ensures.0 refl).1), inl (refl, past, refl)))))))))));
      comes = inr (comes_same old front disk before s store is over);
    }

pub returns-in_err-put_back-clause-replied : goal.returns-in_err-put_back-clause-replied
returns-in_err-put_back-clause-replied g c running front disk before s store is safe over idle =
    let old = c.args.self.now in
    let a = as_session_txn c.txn-own.result.now in
    let its = c.txn-own.ensures.of_session c.requires.own (c.in_ok-check_unprepared.ensures.unprepared c.txn-own.result.now c.txn-own.ensures.among c.txn-own.ensures.number) s is.beside.parts.stands in
    let at_seat = c.txn-own.ensures.number in
    let works = is.beside.parts.failed_is ∙ running in
    let inside = mark_inside a.undo.marks c.args.index c.in-Some.least (sym c.mark.ensures ∙ c.in-Some.is) in
    let may : MayRoll a.undo (To c.args.index) = (inside, subst (λ (st : TxnState). (rolling_of st ≡ None) ⊎ (rolling_of st ≡ Some (To c.args.index))) c.state.ensures (c.if-not-may_go_back.ensures.0 refl).1) in
    let at = mark_is a.undo c.args.index c.in-Some.least (sym c.mark.ensures ∙ c.in-Some.is) in
    let within = mark_of_within (geometry_of old) safe.opening safe.found safe.entries c.args.seat.now.session a its.1 s safe.after.sessions its.0 c.args.index inside in
    interrupted_replied old c.put_back.new.self front before s store c.args.seat.now.session a safe works idle (To c.args.index) may (inl its) c.in-Some.least at c.from_residual-in_err-put_back.result _ c.from_residual-in_err-put_back.ensures.1
    (c.in_err-put_back.ensures.unwinds running front disk before s store is safe over a idle (its.0.0, at_seat) (inl its) may at (omega (arith, at, within)))

pub go_back-requires : goal.go_back-requires
go_back-requires g c = record { seated = c.put_back.ensures.seated; unprepared = c.put_back.ensures.unprepared }

pub invariant_of-self : goal.invariant_of-self
invariant_of-self g c =
    let mid = c.put_back.new.self in
    let done = c.go_back.ensures in
    let next = first_of mid + length (waiting_of mid) in
    record {
      some_number = mid.some_number;
      forced = mid.forced;
      numbers = subst (λ r. next + r.reserved ≤ LAST_OPENED) (sym done.room) mid.numbers;
      earlier = earlier_back (txns_of mid) (txns_in c.go_back.new.self) next c.args.seat.now.txn c.args.index mid.earlier done.back;
    }

pub returns-clause-replied : goal.returns-clause-replied
returns-clause-replied g c running front disk before s store is safe over idle =
    let old = c.args.self.now in
    let mid = c.put_back.new.self in
    let n = c.args.index in
    let a = as_session_txn c.txn-own.result.now in
    let its = c.txn-own.ensures.of_session c.requires.own (c.in_ok-check_unprepared.ensures.unprepared c.txn-own.result.now c.txn-own.ensures.among c.txn-own.ensures.number) s is.beside.parts.stands in
    let at_seat = c.txn-own.ensures.number in
    let works = is.beside.parts.failed_is ∙ running in
    let inside = mark_inside a.undo.marks n c.in-Some.least (sym c.mark.ensures ∙ c.in-Some.is) in
    let may : MayRoll a.undo (To n) = (inside, subst (λ (st : TxnState). (rolling_of st ≡ None) ⊎ (rolling_of st ≡ Some (To c.args.index))) c.state.ensures (c.if-not-may_go_back.ensures.0 refl).1) in
    let at = mark_is a.undo n c.in-Some.least (sym c.mark.ensures ∙ c.in-Some.is) in
    let within = mark_of_within (geometry_of old) safe.opening safe.found safe.entries c.args.seat.now.session a its.1 s safe.after.sessions its.0 n inside in
    let h = c.in_ok-put_back.ensures.unwinds running front disk before s store is safe over a idle (its.0.0, at_seat) (inl its) may at (omega (arith, at, within)) in
    let comes = h.2 in
    let here = goes_on_from (geometry_of old) s safe c.args.seat.now.session a works idle (To n) may (inl its) its.0.0 its.0.2 c.in-Some.least h.0 (omega (arith, at)) h.1 in
    let level : length here.its.undo.images ≡ _ = here.left ∙ at ∙ sym (here.mark n refl) in
    let none = none_since here.its.undo n level in
    let later : State = answered h.0 here.its (call.BackTo n) WentBack h.0.counts in
    let two = comes_moved mid _ front comes.left before h.0 later comes.after refl refl refl refl refl c.go_back.ensures.claims
    (c.go_back.ensures.stands h.0 here.its comes.is_in.beside.parts.stands (here.there, here.number ∙ at_seat) none) (back_log h.0 here.its n none level) refl refl
    (back_slots h.0 here.its n none level (geometry_of old) here.stays_safe here.there) comes.is_in comes.over in
    record {
      later = answered s a (call.BackTo n) WentBack s.counts;
      replies = goes_back_done (geometry_of old) s safe c.args.seat.now.session a works idle its n may;
      comes = subst (CoreComesTo _ front before store) (here.goes_back n refl) (comes_then mid _ front before h.0 later store comes two);
    }

pub returns-then-not-may_go_back-clause-serves : goal.returns-then-not-may_go_back-clause-serves
returns-then-not-may_go_back-clause-serves g c = call_still _ _ _ _ _ refl refl refl refl tt tt

pub returns-in_default-clause-serves : goal.returns-in_default-clause-serves
returns-in_default-clause-serves g c = call_still _ _ _ _ _ refl refl refl refl tt tt

pub returns-in_err-put_back-clause-serves : goal.returns-in_err-put_back-clause-serves
returns-in_err-put_back-clause-serves g c = refused_as _ _ _ _ _ _ c.from_residual-in_err-put_back.ensures.1 c.in_err-put_back.ensures.serves c.in_err-put_back.ensures.failed

pub returns-clause-serves : goal.returns-clause-serves
returns-clause-serves g c =
    call_then _ _ _ _ c.put_back.new.self _ _ _ c.in_ok-put_back.ensures.serves c.in_ok-put_back.ensures.failed (nothing_called _ _ refl refl refl refl) tt refl

pub returns-in_err-check_unprepared-clause-replied : goal.returns-in_err-check_unprepared-clause-replied
returns-in_err-check_unprepared-clause-replied g c running front disk before s store is safe over idle =
    replied_prepared c.args.self.now front disk before s store c.args.seat.now.session (call.BackTo c.args.index) c.from_residual.result _ is over tt (is.beside.parts.failed_is ∙ running) idle
    c.from_residual.ensures.1 c.in_err-check_unprepared.ensures.refused.0 (c.in_err-check_unprepared.ensures.refused.1 s is.beside.parts.stands)

pub returns-in_err-check_unprepared-clause-serves : goal.returns-in_err-check_unprepared-clause-serves
returns-in_err-check_unprepared-clause-serves g c =
    refused_still _ _ _ _ _ _ c.from_residual.ensures.1 refl refl refl refl (as_aside _ _ c.in_err-check_unprepared.ensures.refused.0 tt)

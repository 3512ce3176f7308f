use Rattle.std.proofs.Common.{◌≡◌, ◌<◌, ◌≤◌, ◌+◌, inl, inr, None, Ok, Err, true, false, length, refl, sym, ap, subst, ◌∙◌}
use Rattle.std.specs.Prelude.{IsSome}
use Rattle.shore_types.specs.declared.layout.TheConstants.{LAST_OPENED}
use Rattle.laws_lives.specs.Views.{IsAmong}
use Rattle.shore_locks.specs.Tables.{Table, is_waiting}
use Rattle.laws_locks.specs.CallLocks.{lock_asked_by}
use Rattle.laws_calls.specs.StateChanges.{after_refusal, wait_refused}
use Rattle.laws_calls.specs.CallSteps.{ResumesWait}
use Rattle.laws_calls.specs.Settling.{SettledResume}
use Rattle.laws_calls.proofs.SessionStates.{waits_whole}
use Rattle.laws_calls.specs.States.{State, Waiting}
use Rattle.shore_model.specs.declared.step.Step.{Step}
use Rattle.shore_model.specs.declared.step.Step.TheVariants.{Waits}
use Rattle.shore_model.specs.declared.step.Wait.{Wait}
use Rattle.shore_model.specs.declared.step.Wait.TheVariants.{Lock}
use Rattle.shore_txn.specs.Transactions as table
use Rattle.shore_txn.specs.Transactions.{AtSeat, IsSeatIn, kept_in, room_in}
use Rattle.shore_txn.specs.declared.transactions.Transactions.{Transactions}
use Rattle.shore_sessions.proofs.WaitSteps.{call_waits}
use Rattle.shore_sessions.specs.Calls.{as_waiting}
use Rattle.shore_sessions.specs.Controls.{HasNoWait}
use Rattle.shore_txn.specs.Txns as txns
use Rattle.shore_txn.specs.Txns.{IsOf}
use Rattle.shore_txn.specs.declared.txn.Txn.{Txn}
use Rattle.shore_core.specs.Callers.{IsOfCaller}
use Rattle.shore_core.specs.Cores.{first_of, geometry_of, locks_of, txns_of, waiting_of, waits_of}
use Rattle.shore_core.specs.Replies.{ReadsWaiting, Serves}
use Rattle.shore_core.proofs.Coming.{comes_same, over_as}
use Rattle.shore_core.proofs.Going.{asked_resumes, asks_lock, blocked_spared, lock_waits, none_of, safe_woken}
use Rattle.shore_core.proofs.Settling.{resumed_to_nothing}
use Rattle.shore_core.proofs.Moving.{comes_moved, in_moved}
use Rattle.shore_core.proofs.core_calls.Core.resume_call.Goals as goal
use Rattle.shore_core.proofs.Serving.{serves_answered, serves_noted, serves_still}

pub returns-then-is_waiting-clause-step : goal.returns-then-is_waiting-clause-step
returns-then-is_waiting-clause-step g c running front disk before s store is safe over w m same waits a its number =
    let old = c.args.self.now in
    let was = is.beside.parts.stands in
    let works = is.beside.parts.failed_is ∙ running in
    let held : is_waiting a.txn s.locks.requests ≡ is_waiting c.args.txn (locks_of old).requests =
    ap (λ t. is_waiting t s.locks.requests) number ∙ ap (λ (t : Table). is_waiting c.args.txn t.requests) was.locks in
    let blocked : is_waiting a.txn s.locks.requests ≡ true = held ∙ sym c.if-is_waiting.ensures in
    let at = c.args.granule in
    record {
      later = s;
      moves = resumed_to_nothing (geometry_of old) s s c.args.session (Waits (Lock at))
          (inr (
            w,
            m,
            same,
            inr (
              works,
              subst (λ (x : Wait). ResumesWait (geometry_of old) s w x (Waits (Lock at)) s) (sym waits) (a, (its.0, its.1 ∙ sym same), inl (blocked, refl, refl)),
              blocked_spared (geometry_of old) s safe c.args.session a works its w m same blocked,
            ),
          )) refl;
      comes = comes_same old front disk before s store is over;
    }

pub invariant_of-self : goal.invariant_of-self
invariant_of-self g c =
    let old = c.args.self.now in
    let same = sym c.take_wait.ensures.txns in
    let next = first_of old + length (waiting_of old) in
    record {
      some_number = old.some_number;
      forced = old.forced;
      numbers = subst (λ x. next + (room_in x).reserved ≤ LAST_OPENED) same old.numbers;
      earlier = subst (λ x. (t : Txn) → IsAmong t (table.txns_in x) → txns.last_of t < next) same old.earlier;
    }

pub returns-in_default-clause-step : goal.returns-in_default-clause-step
returns-in_default-clause-step g c running front disk before s store is safe over w m same waits a its number =
    absurd (c.in_default.ensures.of_none s is.beside.parts.stands a its)

pub take_locks-requires-clause-seated : goal.take_locks-requires-clause-seated
take_locks-requires-clause-seated g c = subst (IsSeatIn c.in-Some.seat) (sym c.take_wait.ensures.txns) c.in-Some.ensures.some.0

pub take_locks-requires-clause-own : goal.take_locks-requires-clause-own
take_locks-requires-clause-own g c =
    subst (IsOfCaller c.in-Some.seat) (sym c.take_wait.ensures.txns) (subst (λ n. AtSeat c.in-Some.seat (txns_of c.args.self.now) (IsOf n)) (sym c.in-Some.ensures.some.1) c.in-Some.ensures.own)

pub take_locks-requires-clause-free : goal.take_locks-requires-clause-free
take_locks-requires-clause-free g c = subst (λ n. HasNoWait n c.take_wait.new.self) (sym c.in-Some.ensures.some.1) c.take_wait.ensures.free

pub returns-in_default-take_wait-clause-step : goal.returns-in_default-take_wait-clause-step
returns-in_default-take_wait-clause-step g c running front disk before s store is safe over w m same waits a its number =
    absurd ((c.in_default-take_wait.ensures.same s is.beside.parts.stands).0 w m same)

pub returns-in-Some-cycle-clause-step : goal.returns-in-Some-cycle-clause-step
returns-in-Some-cycle-clause-step g c running front disk before s store is safe over w m same waits a its number =
    let old = c.args.self.now in
    let was = is.beside.parts.stands in
    let v = c.in-Some-take_wait.waiting in
    let there : IsAmong (as_waiting v) s.waiting = call_waits (waits_of old) s was.waits v c.in-Some-take_wait.ensures.some.0 in
    let one : w ≡ as_waiting v = safe.after.waits.once w (as_waiting v) m there (same ∙ sym c.in-Some-take_wait.ensures.some.1) in
    let waited : v.wait ≡ Lock c.args.granule = sym (ap (λ (x : Waiting). x.wait) one) ∙ waits in
    let woken : State = wait_refused s c.args.session in
    let stands = c.in-Some-take_wait.ensures.stands s was (λ works. asks_lock v c.args.granule waited) in
    record {
      later = woken;
      moves = inl (record {
        running = is.beside.parts.failed_is ∙ running;
        waited = as_waiting v;
        there = there;
        of = c.in-Some-take_wait.ensures.some.1;
        cycle = c.in-Some-cycle.cycle;
        victim = c.in-Some-cycle.is;
        told = refl;
        is = refl;
      });
      comes = comes_moved old _ front disk before s woken store refl refl refl refl refl (λ p. ap (λ (t : Transactions). kept_in t p) c.in-Some-take_wait.ensures.txns) stands refl refl refl (λ p. refl) is over;
    }

pub returns-in-Ok-clause-step : goal.returns-in-Ok-clause-step
returns-in-Ok-clause-step g c running front disk before s store is safe over w m same waits a its number =
    let old = c.args.self.now in
    let was = is.beside.parts.stands in
    let works = is.beside.parts.failed_is ∙ running in
    let v = c.in-Some-take_wait.waiting in
    let there : IsAmong (as_waiting v) s.waiting = call_waits (waits_of old) s was.waits v c.in-Some-take_wait.ensures.some.0 in
    let one : w ≡ as_waiting v = safe.after.waits.once w (as_waiting v) m there (same ∙ sym c.in-Some-take_wait.ensures.some.1) in
    let spared : v.cycle ≡ None = none_of v.cycle c.in_default-cycle.not-Some in
    let waited : v.wait ≡ Lock c.args.granule = sym (ap (λ (x : Waiting). x.wait) one) ∙ waits in
    let lock = lock_waits _ s (as_waiting v) c.args.granule safe.after.waits there waited in
    let asks : IsSome (lock_asked_by v.call) = subst IsSome (sym lock.asked) refl in
    let whole = waits_whole safe.opening safe.found safe.entries s safe.after (as_waiting v) there spared c.args.granule a waited (its.0, its.1 ∙ sym c.in-Some-take_wait.ensures.some.1) in
    let quiet : is_waiting a.txn s.locks.requests ≡ false =
    ap (λ t. is_waiting t s.locks.requests) number ∙ ap (λ (t : Table). is_waiting c.args.txn t.requests) was.locks ∙ sym c.if-is_waiting.ensures in
    let woken : State = wait_refused s c.args.session in
    let stands = c.in-Some-take_wait.ensures.stands s was (λ works. asks_lock v c.args.granule waited) in
    let r = c.in-Ok.ensures.asked asks running front disk before woken store
    (in_moved old _ front disk before s woken store refl refl refl refl refl (λ p. ap (λ (t : Transactions). kept_in t p) c.in-Some-take_wait.ensures.txns) stands refl refl refl (λ p. refl) is)
    (safe_woken (geometry_of old) s safe c.args.session a its quiet) (over_as old _ disk s woken store refl refl refl refl over) a (its.0, its.1 ∙ sym c.in-Some.ensures.some.1) number whole in
    record {
      later = r.later;
      moves = asked_resumes _ _ front before s store a (Ok c.in-Ok.step) c.args.session (as_waiting v) c.args.granule works there c.in-Some-take_wait.ensures.some.1 waited spared
          (safe.asks (as_waiting v) c.args.granule there waited) its quiet r;
      comes = r.comes;
    }

pub returns-in-Err-clause-step : goal.returns-in-Err-clause-step
returns-in-Err-clause-step g c running front disk before s store is safe over w m same waits a its number =
    let old = c.args.self.now in
    let was = is.beside.parts.stands in
    let works = is.beside.parts.failed_is ∙ running in
    let v = c.in-Some-take_wait.waiting in
    let there : IsAmong (as_waiting v) s.waiting = call_waits (waits_of old) s was.waits v c.in-Some-take_wait.ensures.some.0 in
    let one : w ≡ as_waiting v = safe.after.waits.once w (as_waiting v) m there (same ∙ sym c.in-Some-take_wait.ensures.some.1) in
    let spared : v.cycle ≡ None = none_of v.cycle c.in_default-cycle.not-Some in
    let waited : v.wait ≡ Lock c.args.granule = sym (ap (λ (x : Waiting). x.wait) one) ∙ waits in
    let lock = lock_waits _ s (as_waiting v) c.args.granule safe.after.waits there waited in
    let asks : IsSome (lock_asked_by v.call) = subst IsSome (sym lock.asked) refl in
    let whole = waits_whole safe.opening safe.found safe.entries s safe.after (as_waiting v) there spared c.args.granule a waited (its.0, its.1 ∙ sym c.in-Some-take_wait.ensures.some.1) in
    let quiet : is_waiting a.txn s.locks.requests ≡ false =
    ap (λ t. is_waiting t s.locks.requests) number ∙ ap (λ (t : Table). is_waiting c.args.txn t.requests) was.locks ∙ sym c.if-is_waiting.ensures in
    let woken : State = wait_refused s c.args.session in
    let stands = c.in-Some-take_wait.ensures.stands s was (λ works. asks_lock v c.args.granule waited) in
    let r = c.in-Err.ensures.asked asks running front disk before woken store
    (in_moved old _ front disk before s woken store refl refl refl refl refl (λ p. ap (λ (t : Transactions). kept_in t p) c.in-Some-take_wait.ensures.txns) stands refl refl refl (λ p. refl) is)
    (safe_woken (geometry_of old) s safe c.args.session a its quiet) (over_as old _ disk s woken store refl refl refl refl over) a (its.0, its.1 ∙ sym c.in-Some.ensures.some.1) number whole in
    record {
      later = after_refusal c.in-Err.fault r.later;
      moves = subst (λ (x : Step). SettledResume (geometry_of old) s c.args.session x (after_refusal c.in-Err.fault r.later)) (sym c.refuse.ensures.refused)
          (asked_resumes _ _ front before s store a (Err c.in-Err.fault) c.args.session (as_waiting v) c.args.granule works there c.in-Some-take_wait.ensures.some.1 waited spared
          (safe.asks (as_waiting v) c.args.granule there waited) its quiet r);
      comes = c.refuse.ensures.left front before r.later store r.comes;
    }

pub returns-then-is_waiting-clause-serves : goal.returns-then-is_waiting-clause-serves
returns-then-is_waiting-clause-serves g c = serves_still _ _ _ _ _ refl refl refl refl tt

pub returns-in_default-clause-serves : goal.returns-in_default-clause-serves
returns-in_default-clause-serves g c = serves_still _ _ _ _ _ refl refl refl refl tt

pub returns-in_default-take_wait-clause-serves : goal.returns-in_default-take_wait-clause-serves
returns-in_default-take_wait-clause-serves g c = serves_still _ _ _ _ _ refl refl refl refl tt

pub returns-in-Some-cycle-clause-serves : goal.returns-in-Some-cycle-clause-serves
returns-in-Some-cycle-clause-serves g c = serves_still _ _ _ _ _ refl refl refl refl tt

pub returns-in-Ok-clause-serves : goal.returns-in-Ok-clause-serves
returns-in-Ok-clause-serves g c =
    let behind = c.in-Ok.ensures.serves in
    let serves = behind.beside in
    serves_answered _ _ _ _ _ (record {
      beside = record {
        volume = record { geometry = serves.volume.geometry; honest = serves.volume.honest; size = serves.volume.size };
        durable = serves.durable;
        first = serves.first;
        any_moment = serves.any_moment;
        damaged = λ front disk holds. tt;
        forced = λ front disk holds. tt;
        cause = serves.cause;
      };
      failed = behind.failed;
      plain = behind.plain;
    })

pub returns-in-Err-clause-serves : goal.returns-in-Err-clause-serves
returns-in-Err-clause-serves g c =
    let old = c.args.self.now in
    let v = c.in-Some-take_wait.waiting in
    let serves = c.in-Err.ensures.serves.beside in
    let first : Serves (ReadsWaiting old c.args.session) old (Err c.in-Err.fault) old c.take_locks.new.self = record {
      volume = record { geometry = serves.volume.geometry; honest = serves.volume.honest; size = serves.volume.size };
      durable = serves.durable;
      first = serves.first;
      any_moment = serves.any_moment;
      damaged = λ front disk holds d offset is.
          let why = serves.damaged front disk holds d offset is in
          let page = why.1 in (why.0, (page.0, (v, c.in-Some-take_wait.ensures.some.0, c.in-Some-take_wait.ensures.some.1, page.1), page.2, page.3, page.4));
      forced = serves.forced;
      cause = serves.cause;
    } in
    serves_noted _ _ _ _ c.take_locks.new.self _ _ _ c.refuse.ensures.refused c.refuse.ensures.heap c.refuse.ensures.durable c.refuse.ensures.tail (λ needs. needs) first

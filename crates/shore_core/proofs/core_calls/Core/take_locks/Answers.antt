use Rattle.std.proofs.Common.{◌≡◌, ◌<◌, ◌≤◌, ◌+◌, ◌∷◌, inr, Ok, Err, false, length, map, refl, sym, ap, subst, ◌∙◌}
use Rattle.shore_types.specs.declared.layout.Geometry.{Geometry}
use Rattle.shore_types.specs.declared.layout.TheConstants.{LAST_OPENED}
use Rattle.shore_locks.specs.Tables.{Table, is_waiting}
use Rattle.shore_path.specs.Acquires.{IsReached}
use Rattle.shore_path.specs.declared.answers.Acquired.{Acquired}
use Rattle.shore_path.specs.declared.answers.Acquired.TheVariants as acquire
use Rattle.laws_locks.specs.CallLocks.{Asked}
use Rattle.laws_lives.specs.Views.{IsAmong}
use Rattle.laws_calls.specs.CallSteps.{MayAsk, RefusesEarly, lock_waiting}
use Rattle.laws_calls.specs.LockRounds.{LocksTo}
use Rattle.laws_calls.specs.States.{DoesNotWait, State}
use Rattle.laws_calls.proofs.LockRounds.{MayLock, lock_done, lock_refused, lock_waits}
use Rattle.shore_sessions.specs.Controls.{locks_in}
use Rattle.shore_txn.specs.Transactions as table
use Rattle.shore_txn.specs.Transactions.{kept_in, room_in}
use Rattle.shore_txn.specs.Txns.{last_of}
use Rattle.shore_txn.specs.declared.transactions.Transactions.{Transactions}
use Rattle.shore_txn.specs.declared.txn.Txn.{Txn}
use Rattle.shore_core.specs.Callers.{IsOfCaller}
use Rattle.shore_core.specs.Cores.{control_of, first_of, geometry_of, txns_of, waiting_of}
use Rattle.shore_core.specs.Replies.{as_step, once_noted}
use Rattle.shore_core.proofs.Acquiring.{asked_blocked, asked_early, asked_lacks, asked_waits, done_waits_not, idle_of, lasts_below, same_some, served_at_once}
use Rattle.shore_core.proofs.Asking.{asks_no_decision}
use Rattle.shore_core.proofs.Coming.{comes_same, over_as}
use Rattle.shore_core.proofs.Leaving.{comes_lacking}
use Rattle.shore_core.proofs.Moving.{comes_moved, goes_served, in_moved}
use Rattle.shore_core.proofs.SafeRounds.{MayLockSafely, locked_pages, safe_locked, still_active}
use Rattle.shore_core.proofs.Serving.{call_still, early_aside, no_device, refused_still}
use Rattle.shore_types.specs.declared.faults.Fault.TheVariants as fault
use Rattle.shore_core.proofs.core_calls.Core.take_locks.Goals as goal

pub returns-in_err-check-clause-asked : goal.returns-in_err-check-clause-asked
returns-in_err-check-clause-asked g c asks running front disk before s store is safe over a its number whole =
    let old = c.args.self.now in
    let f = c.in_err-check.field-0.0 in
    asked_early old old front before s store a c.args.call c.from_residual.result f c.from_residual.ensures.1
    (subst (λ (it : Geometry). RefusesEarly it c.args.call f) c.geometry.ensures c.in_err-check.ensures.refused) (comes_same old front disk before s store is over)

pub invariant_of-self : goal.invariant_of-self
invariant_of-self g c =
    let old = c.args.self.now in
    let txns = sym c.reserve_wait.ensures.txns in
    let next = first_of old + length (waiting_of old) in
    record {
      some_number = old.some_number;
      forced = old.forced;
      numbers = subst (λ x. next + (room_in x).reserved ≤ LAST_OPENED) txns old.numbers;
      earlier = subst (λ x. (t : Txn) → IsAmong t (table.txns_in x) → last_of t < next) txns old.earlier;
    }

pub returns-in_err-reserve_wait-clause-asked : goal.returns-in_err-reserve_wait-clause-asked
returns-in_err-reserve_wait-clause-asked g c asks running front disk before s store is safe over a its number whole =
    let old = c.args.self.now in
    let may : MayAsk (geometry_of old) c.args.call = subst (λ (it : Geometry). MayAsk it c.args.call) c.geometry.ensures (c.in_ok-check.ensures.may asks) in
    asked_lacks old _ front before s store a c.args.call c.from_residual-in_err-reserve_wait.result c.from_residual-in_err-reserve_wait.ensures.1 may
    (comes_lacking old _ front disk before s store refl refl refl refl refl c.reserve_wait.ensures.txns (c.reserve_wait.ensures.stands s is.beside.parts.stands) is over)

pub invariant_of-self-in-Break-branch-3 : goal.invariant_of-self-in-Break-branch-3
invariant_of-self-in-Break-branch-3 g c =
    let old = c.args.self.now in
    let next = first_of old + length (waiting_of old) in
    record {
      some_number = old.some_number;
      forced = old.forced;
      numbers = subst (λ n. next + n.reserved ≤ LAST_OPENED) (sym (c.lock.ensures.room ∙ ap room_in c.reserve_wait.ensures.txns)) old.numbers;
      earlier = lasts_below (table.txns_in (txns_of old)) _ next (c.lock.ensures.lasts ∙ ap (λ x. map last_of (table.txns_in x)) c.reserve_wait.ensures.txns) old.earlier;
    }

pub returns-in_err-acquired-clause-asked : goal.returns-in_err-acquired-clause-asked
returns-in_err-acquired-clause-asked g c asks running front disk before s store is safe over a its number whole =
    let old = c.args.self.now in
    let call = c.args.call in
    let works = is.beside.parts.failed_is ∙ running in
    let was = is.beside.parts.stands in
    let lock : Asked = record { granule = c.in-Some.asked.granule; mode = c.in-Some.asked.mode } in
    let may : MayAsk (geometry_of old) call = subst (λ (it : Geometry). MayAsk it call) c.geometry.ensures (c.in_ok-check.ensures.may asks) in
    let quiet : is_waiting a.txn s.locks.requests ≡ false =
    ap (λ t. is_waiting t s.locks.requests) number ∙ ap (λ (t : Table). is_waiting c.args.txn t.requests) was.locks ∙ c.requires.quiet in
    let idle : DoesNotWait s a.session = idle_of (control_of old) s a c.args.seat.now.session was c.requires.free its.1 in
    let locked = c.in_err-acquired.ensures.locks s safe.opening safe.found safe.entries a call (c.reserve_wait.ensures.stands s was) safe.after works its number (sym c.on_conflict-on_conflict.ensures) in
    let at_first : MayLock safe.opening safe.found safe.entries a s = record { after = safe.after; active = its.0; idle = idle; running = works } in
    let same = locked_pages (geometry_of old) a call lock (sym c.in-Some.ensures) may whole s
    (record { safe = safe; active = its.0; idle = idle; quiet = quiet; running = works }) (Err c.in_err-acquired.field-0.0) locked.0 locked.1 in
    asked_blocked old _ front before s store a call may c.from_residual-in_err-acquired.result c.in_err-acquired.field-0.0 c.from_residual-in_err-acquired.ensures.1 c.in_err-acquired.ensures.plain locked.0
    (lock_refused (geometry_of old) safe.opening safe.found safe.entries a call lock (sym c.in-Some.ensures) may whole s at_first c.in_err-acquired.field-0.0 locked.0 locked.1)
    (comes_moved old _ front disk before s locked.0 store refl refl refl refl refl (λ p. c.lock.ensures.claims p ∙ ap (λ (t : Transactions). kept_in t p) c.reserve_wait.ensures.txns) locked.2 same.log same.durable same.failed same.slots is over)

pub invariant_of-self-in-Done : goal.invariant_of-self-in-Done
invariant_of-self-in-Done g c =
    let old = c.args.self.now in
    let next = first_of old + length (waiting_of old) in
    record {
      some_number = old.some_number;
      forced = old.forced;
      numbers = subst (λ n. next + n.reserved ≤ LAST_OPENED) (sym (c.lock.ensures.room ∙ ap room_in c.reserve_wait.ensures.txns)) old.numbers;
      earlier = lasts_below (table.txns_in (txns_of old)) _ next (c.lock.ensures.lasts ∙ ap (λ x. map last_of (table.txns_in x)) c.reserve_wait.ensures.txns) old.earlier;
    }

pub behind_locks-requires-clause-reached : goal.behind_locks-requires-clause-reached
behind_locks-requires-clause-reached g c lock asks =
    let asked : Asked = record { granule = c.in-Some.asked.granule; mode = c.in-Some.asked.mode } in
    subst (λ (it : Asked). IsReached (locks_in c.lock.new.self).requests c.args.txn it.granule it.mode) (same_some asked lock (c.in-Some.ensures ∙ asks)) (c.in_ok-acquired.ensures.reached (ap Ok c.in-Done.is))

pub behind_locks-requires-clause-own : goal.behind_locks-requires-clause-own
behind_locks-requires-clause-own g c = c.lock.ensures.own (subst (IsOfCaller c.args.seat.now) (sym c.reserve_wait.ensures.txns) c.requires.own)

pub behind_locks-requires-clause-quiet : goal.behind_locks-requires-clause-quiet
behind_locks-requires-clause-quiet g c = c.in_ok-acquired.ensures.quiet (λ at waits. done_waits_not at (sym (ap Ok c.in-Done.is) ∙ waits))

pub invariant_of-self-in-Waiting : goal.invariant_of-self-in-Waiting
invariant_of-self-in-Waiting g c =
    let old = c.args.self.now in
    let next = first_of old + length (waiting_of old) in
    record {
      some_number = old.some_number;
      forced = old.forced;
      numbers = subst (λ n. next + n.reserved ≤ LAST_OPENED) (sym (ap room_in c.wait.ensures.txns ∙ c.lock.ensures.room ∙ ap room_in c.reserve_wait.ensures.txns)) old.numbers;
      earlier = lasts_below (table.txns_in (txns_of old)) _ next
          (ap (λ x. map last_of (table.txns_in x)) c.wait.ensures.txns ∙ c.lock.ensures.lasts ∙ ap (λ x. map last_of (table.txns_in x)) c.reserve_wait.ensures.txns) old.earlier;
    }

pub returns-in-Done-clause-asked : goal.returns-in-Done-clause-asked
returns-in-Done-clause-asked g c asks running front disk before s store is safe over a its number whole =
    let old = c.args.self.now in
    let call = c.args.call in
    let works = is.beside.parts.failed_is ∙ running in
    let was = is.beside.parts.stands in
    let lock : Asked = record { granule = c.in-Some.asked.granule; mode = c.in-Some.asked.mode } in
    let may : MayAsk (geometry_of old) call = subst (λ (it : Geometry). MayAsk it call) c.geometry.ensures (c.in_ok-check.ensures.may asks) in
    let quiet : is_waiting a.txn s.locks.requests ≡ false =
    ap (λ t. is_waiting t s.locks.requests) number ∙ ap (λ (t : Table). is_waiting c.args.txn t.requests) was.locks ∙ c.requires.quiet in
    let idle : DoesNotWait s a.session = idle_of (control_of old) s a c.args.seat.now.session was c.requires.free its.1 in
    let locked = c.in_ok-acquired.ensures.locks s safe.opening safe.found safe.entries a call (c.reserve_wait.ensures.stands s was) safe.after works its number (sym c.on_conflict-on_conflict.ensures) in
    let done : LocksTo s a call lock (Ok acquire.Done) locked.0 = subst (λ (x : Acquired). LocksTo s a call lock (Ok x) locked.0) c.in-Done.is locked.1 in
    let at_first : MayLock safe.opening safe.found safe.entries a s = record { after = safe.after; active = its.0; idle = idle; running = works } in
    let k : MayLockSafely (geometry_of old) a call lock (sym c.in-Some.ensures) may whole s = record { safe = safe; active = its.0; idle = idle; quiet = quiet; running = works } in
    let same = locked_pages (geometry_of old) a call lock (sym c.in-Some.ensures) may whole s k (Ok acquire.Done) locked.0 done in
    let behind = safe_locked (geometry_of old) a call lock (sym c.in-Some.ensures) may whole s k locked.0 done in
    let r = c.behind_locks.ensures.served running front disk before locked.0 store
    (in_moved old _ front disk before s locked.0 store refl refl refl refl refl (λ p. c.lock.ensures.claims p ∙ ap (λ (t : Transactions). kept_in t p) c.reserve_wait.ensures.txns) locked.2 same.log same.durable same.failed same.slots is)
    behind.0 (over_as old _ disk s locked.0 store refl same.log same.durable same.failed over) a (behind.1, its.1) number in
    record {
      later = r.later;
      asks = inr (
        may,
        lock_done (geometry_of old) safe.opening safe.found safe.entries a call lock (sym c.in-Some.ensures) may whole s at_first locked.0 done (as_step c.behind_locks.result) (once_noted c.behind_locks.result r.later)
            (served_at_once (geometry_of old) locked.0 a call c.behind_locks.result (once_noted c.behind_locks.result r.later) r.serves)
            (λ later has. goes_served (geometry_of old) later a call locked.0 has c.behind_locks.result (once_noted c.behind_locks.result r.later) r.serves),
      );
      comes = r.comes;
    }

pub returns-in-Waiting-clause-asked : goal.returns-in-Waiting-clause-asked
returns-in-Waiting-clause-asked g c asks running front disk before s store is safe over a its number whole =
    let old = c.args.self.now in
    let call = c.args.call in
    let works = is.beside.parts.failed_is ∙ running in
    let was = is.beside.parts.stands in
    let at = c.in-Waiting.granule in
    let lock : Asked = record { granule = c.in-Some.asked.granule; mode = c.in-Some.asked.mode } in
    let may : MayAsk (geometry_of old) call = subst (λ (it : Geometry). MayAsk it call) c.geometry.ensures (c.in_ok-check.ensures.may asks) in
    let quiet : is_waiting a.txn s.locks.requests ≡ false =
    ap (λ t. is_waiting t s.locks.requests) number ∙ ap (λ (t : Table). is_waiting c.args.txn t.requests) was.locks ∙ c.requires.quiet in
    let idle : DoesNotWait s a.session = idle_of (control_of old) s a c.args.seat.now.session was c.requires.free its.1 in
    let locked = c.in_ok-acquired.ensures.locks s safe.opening safe.found safe.entries a call (c.reserve_wait.ensures.stands s was) safe.after works its number (sym c.on_conflict-on_conflict.ensures) in
    let waits : LocksTo s a call lock (Ok (acquire.Waiting at)) locked.0 = subst (λ (x : Acquired). LocksTo s a call lock (Ok x) locked.0) c.in-Waiting.is locked.1 in
    let at_first : MayLock safe.opening safe.found safe.entries a s = record { after = safe.after; active = its.0; idle = idle; running = works } in
    let k : MayLockSafely (geometry_of old) a call lock (sym c.in-Some.ensures) may whole s = record { safe = safe; active = its.0; idle = idle; quiet = quiet; running = works } in
    let same = locked_pages (geometry_of old) a call lock (sym c.in-Some.ensures) may whole s k (Ok (acquire.Waiting at)) locked.0 waits in
    let active = still_active (geometry_of old) a call lock (sym c.in-Some.ensures) may whole s k at locked.0 waits in
    let later : State = record locked.0 { waiting = lock_waiting a call at ∷ locked.0.waiting } in
    asked_waits old _ front before s store a call may at later
    (lock_waits (geometry_of old) safe.opening safe.found safe.entries a call lock (sym c.in-Some.ensures) may whole s at_first at locked.0 waits)
    (comes_moved old _ front disk before s later store refl refl refl refl refl (λ p. ap (λ (t : Transactions). kept_in t p) c.wait.ensures.txns ∙ c.lock.ensures.claims p ∙ ap (λ (t : Transactions). kept_in t p) c.reserve_wait.ensures.txns) (c.wait.ensures.stands locked.0 a locked.2 (active, its.1) number (asks_no_decision call asks)) same.log same.durable same.failed same.slots is over)

pub returns-in_err-check-clause-serves : goal.returns-in_err-check-clause-serves
returns-in_err-check-clause-serves g c = refused_still _ _ _ _ _ _ c.from_residual.ensures.1 refl refl refl refl (early_aside c.geometry.result.now c.args.call c.in_err-check.field-0.0 c.in_err-check.ensures.refused)

pub returns-in_default-clause-serves : goal.returns-in_default-clause-serves
returns-in_default-clause-serves g c = call_still _ _ _ _ _ refl refl refl refl tt refl

pub returns-in_err-reserve_wait-clause-serves : goal.returns-in_err-reserve_wait-clause-serves
returns-in_err-reserve_wait-clause-serves g c = refused_still _ _ _ _ _ fault.Memory c.from_residual-in_err-reserve_wait.ensures.1 refl refl refl refl tt

pub returns-in_err-acquired-clause-serves : goal.returns-in_err-acquired-clause-serves
returns-in_err-acquired-clause-serves g c = refused_still _ _ _ _ _ _ c.from_residual-in_err-acquired.ensures.1 refl refl refl refl (no_device _ c.in_err-acquired.ensures.plain)

pub returns-in-Done-clause-serves : goal.returns-in-Done-clause-serves
returns-in-Done-clause-serves g c =
    let behind = c.behind_locks.ensures.serves in
    let serves = behind.beside in
    record {
      beside = record {
        volume = record { geometry = serves.volume.geometry; honest = serves.volume.honest; size = serves.volume.size };
        durable = serves.durable;
        first = serves.first;
        any_moment = serves.any_moment;
        damaged = serves.damaged;
        forced = serves.forced;
        cause = serves.cause;
      };
      failed = behind.failed;
      plain = behind.plain;
    }

pub returns-in-Waiting-clause-serves : goal.returns-in-Waiting-clause-serves
returns-in-Waiting-clause-serves g c = call_still _ _ _ _ _ refl refl refl refl tt refl

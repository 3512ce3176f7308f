use Rattle.std.proofs.Common.{◌≡◌, ◌⊎◌, ◌-◌, inl, inr, Ok, Err, refl, sym, ap, subst, ◌∙◌, arith}
use Rattle.shore_types.specs.declared.faults.Fault.{Fault}
use Rattle.shore_types.specs.declared.faults.Fault.TheVariants as fault
use Rattle.shore_pool.specs.Pools.{NeedsForce}
use Rattle.shore_locks.specs.Tables.{Table}
use Rattle.shore_heap.specs.Contents.{AreKept}
use Rattle.shore_heap.specs.Heaps.{Shows}
use Rattle.shore_heap.specs.Places.{HasNoPlace, IsPlace}
use Rattle.shore_heap.proofs.Finding.{if_none_at, if_some_at}
use Rattle.shore_txn.specs.Transactions.{kept_in}
use Rattle.laws_calls.specs.StateChanges.{IsPageFault}
use Rattle.laws_calls.specs.States.{page_slots}
use Rattle.shore_core.specs.Cores.{durable_of, geometry_of, heap_of, last_of, locks_of, txns_of}
use Rattle.shore_core.specs.Replies.{can_lock}
use Rattle.shore_core.proofs.Coming.{kept_lent, pages_may_go, stays_as, stays_read}
use Rattle.shore_core.proofs.Forcing.{forced_as, store_fault, store_force}
use Rattle.shore_core.proofs.Pairs.{match_as}
use Rattle.shore_core.proofs.Earning.{earned_as, store_earned}
use Rattle.shore_core.proofs.Serving.{cause_aside, cause_handed, none_failed}
use Rattle.shore_core.proofs.core_calls.Core.find_place.Goals as goal

pub returns-in-Some-clause-found : goal.returns-in-Some-clause-found
returns-in-Some-clause-found g c running front disk before s plain is safe over =
    let old = c.args.self.now in
    let works = is.beside.parts.failed_is ∙ running in
    let shows = subst (λ t. Shows (kept_in t) old.heap front disk (page_slots s)) (sym c.txns.ensures) (is.pages works) in
    let may_go = subst (λ t. AreKept (geometry_of old) (kept_in t) (page_slots s)) (sym c.txns.ensures) (pages_may_go old before s is.beside safe) in
    subst (λ (l : Table). IsPlace (geometry_of old) (page_slots s) c.args.store c.args.len (can_lock l.requests c.args.txn) c.in-Some.id) c.locks.ensures
    (if_some_at (IsPlace (geometry_of old) (page_slots s) c.args.store c.args.len (can_lock c.locks.result.now.requests c.args.txn)) c.in_ok-place.place c.in-Some.id c.in-Some.is
    (c.in_ok-place.ensures.found front disk (page_slots s) shows may_go))

pub returns-in-None-clause-found : goal.returns-in-None-clause-found
returns-in-None-clause-found g c running front disk before s plain is safe over =
    let old = c.args.self.now in
    let works = is.beside.parts.failed_is ∙ running in
    let shows = subst (λ t. Shows (kept_in t) old.heap front disk (page_slots s)) (sym c.txns.ensures) (is.pages works) in
    let may_go = subst (λ t. AreKept (geometry_of old) (kept_in t) (page_slots s)) (sym c.txns.ensures) (pages_may_go old before s is.beside safe) in
    inl (
      refl,
      subst (λ (l : Table). HasNoPlace (geometry_of old) (page_slots s) c.args.store c.args.len (can_lock l.requests c.args.txn)) c.locks.ensures
          (if_none_at (HasNoPlace (geometry_of old) (page_slots s) c.args.store c.args.len (can_lock c.locks.result.now.requests c.args.txn)) c.in_ok-place.place c.in-None.is
          (c.in_ok-place.ensures.none front disk (page_slots s) shows may_go)),
    )

pub returns-in_err-place-clause-found : goal.returns-in_err-place-clause-found
returns-in_err-place-clause-found g c running front disk before s plain is safe over =
    let old = c.args.self.now in
    let works = is.beside.parts.failed_is ∙ running in
    match_as (IsPlace (geometry_of old) (page_slots s) c.args.store c.args.len (can_lock (locks_of old).requests c.args.txn))
    (λ (f : Fault). ((f ≡ fault.StoreFull) × HasNoPlace (geometry_of old) (page_slots s) c.args.store c.args.len (can_lock (locks_of old).requests c.args.txn)) ⊎ (f ≡ fault.Memory) ⊎ IsPageFault s f) c.from_residual.result _ c.from_residual.ensures.1
    (inr (store_fault (heap_of old) s plain disk over.kept (over.pages works) (durable_of old) _ (λ page. page.store ≡ c.args.store) _ (sym is.beside.parts.durable_is)
    (c.in_err-place.ensures.refused front disk (is.pages works).holds (omega (arith, old.forced, c.last.view_is, c.next.ensures)))))

pub returns-in-Some-clause-of_store : goal.returns-in-Some-clause-of_store
returns-in-Some-clause-of_store g c = if_some_at (λ it. it.page.store ≡ c.args.store) c.in_ok-place.place c.in-Some.id c.in-Some.is c.in_ok-place.ensures.of_store

pub returns-in-Some-clause-lockable : goal.returns-in-Some-clause-lockable
returns-in-Some-clause-lockable g c =
    subst (λ (l : Table). can_lock l.requests c.args.txn c.in-Some.id) c.locks.ensures
    (if_some_at (can_lock c.locks.result.now.requests c.args.txn) c.in_ok-place.place c.in-Some.id c.in-Some.is c.in_ok-place.ensures.allowed)

pub returns-in-Some-clause-stays : goal.returns-in-Some-clause-stays
returns-in-Some-clause-stays g c front disk before s plain is safe over =
    let old = c.args.self.now in
    stays_read old _ front disk before s plain is over (record { volume = record { geometry = c.place_for.ensures.reads.geometry; honest = c.place_for.ensures.reads.honest; size = c.place_for.ensures.reads.size }; durable = refl; failed = refl; tail = refl; control = refl }) c.place_for.ensures.reads.any_moment (Ok c.in_ok-place.place)
    (λ runs. kept_lent old.heap c.place_for.new.self (Ok c.in_ok-place.place) (durable_of old) front disk (page_slots s) c.txns.result.now (txns_of old) c.txns.ensures
    (c.in_ok-place.ensures.reads.kept front disk (page_slots s)) (is.pages runs) (pages_may_go old before s is.beside safe))

pub returns-in-None-clause-stays : goal.returns-in-None-clause-stays
returns-in-None-clause-stays g c front disk before s plain is safe over =
    let old = c.args.self.now in
    inr (stays_read old _ front disk before s plain is over (record { volume = record { geometry = c.place_for.ensures.reads.geometry; honest = c.place_for.ensures.reads.honest; size = c.place_for.ensures.reads.size }; durable = refl; failed = refl; tail = refl; control = refl }) c.place_for.ensures.reads.any_moment (Ok c.in_ok-place.place)
    (λ runs. kept_lent old.heap c.place_for.new.self (Ok c.in_ok-place.place) (durable_of old) front disk (page_slots s) c.txns.result.now (txns_of old) c.txns.ensures
    (c.in_ok-place.ensures.reads.kept front disk (page_slots s)) (is.pages runs) (pages_may_go old before s is.beside safe)))

pub returns-in_err-place-clause-stays : goal.returns-in_err-place-clause-stays
returns-in_err-place-clause-stays g c front disk before s plain is safe over =
    let old = c.args.self.now in
    stays_as _ front before s plain c.from_residual.result _ c.from_residual.ensures.1
    (stays_read old _ front disk before s plain is over (record { volume = record { geometry = c.place_for.ensures.reads.geometry; honest = c.place_for.ensures.reads.honest; size = c.place_for.ensures.reads.size }; durable = refl; failed = refl; tail = refl; control = refl }) c.place_for.ensures.reads.any_moment {A = Unit {0}} (Err c.in_err-place.field-0.0)
    (λ runs. kept_lent {A = Unit {0}} old.heap c.place_for.new.self (Err c.in_err-place.field-0.0) (durable_of old) front disk (page_slots s) c.txns.result.now (txns_of old) c.txns.ensures
    (c.in_err-place.ensures.reads.kept front disk (page_slots s)) (is.pages runs) (pages_may_go old before s is.beside safe)))

pub returns-in-Some-clause-reads : goal.returns-in-Some-clause-reads
returns-in-Some-clause-reads g c = record { volume = record { geometry = c.place_for.ensures.reads.geometry; honest = c.place_for.ensures.reads.honest; size = c.place_for.ensures.reads.size }; durable = refl; failed = refl; tail = refl; control = refl }

pub returns-in-None-clause-reads : goal.returns-in-None-clause-reads
returns-in-None-clause-reads g c = record { volume = record { geometry = c.place_for.ensures.reads.geometry; honest = c.place_for.ensures.reads.honest; size = c.place_for.ensures.reads.size }; durable = refl; failed = refl; tail = refl; control = refl }

pub returns-in_err-place-clause-reads : goal.returns-in_err-place-clause-reads
returns-in_err-place-clause-reads g c = record { volume = record { geometry = c.place_for.ensures.reads.geometry; honest = c.place_for.ensures.reads.honest; size = c.place_for.ensures.reads.size }; durable = refl; failed = refl; tail = refl; control = refl }

pub returns-in-Some-clause-serves : goal.returns-in-Some-clause-serves
returns-in-Some-clause-serves g c = record {
  volume = record { geometry = c.place_for.ensures.reads.geometry; honest = c.place_for.ensures.reads.honest; size = c.place_for.ensures.reads.size };
  durable = refl;
  first = refl;
  any_moment = c.place_for.ensures.reads.any_moment;
  damaged = λ front disk holds. tt;
  forced = λ front disk holds. tt;
  cause = cause_aside (Ok _) _ _ (none_failed _ _ _ c.in_ok-place.ensures.reads.cause) tt;
}

pub returns-in-None-clause-serves : goal.returns-in-None-clause-serves
returns-in-None-clause-serves g c = record {
  volume = record { geometry = c.place_for.ensures.reads.geometry; honest = c.place_for.ensures.reads.honest; size = c.place_for.ensures.reads.size };
  durable = refl;
  first = refl;
  any_moment = c.place_for.ensures.reads.any_moment;
  damaged = λ front disk holds device offset is. absurd cc;
  forced = λ front disk holds number is. absurd cc;
  cause = cause_aside (Err fault.StoreFull) _ _ (none_failed _ _ _ c.in_ok-place.ensures.reads.cause) tt;
}

pub returns-in_err-place-clause-serves : goal.returns-in_err-place-clause-serves
returns-in_err-place-clause-serves g c = record {
  volume = record { geometry = c.place_for.ensures.reads.geometry; honest = c.place_for.ensures.reads.honest; size = c.place_for.ensures.reads.size };
  durable = refl;
  first = refl;
  any_moment = c.place_for.ensures.reads.any_moment;
  damaged = λ front disk holds.
      let old = c.args.self.now in
      earned_as (geometry_of old) disk (last_of old) (λ page. page.store ≡ c.args.store) c.from_residual.result _ c.from_residual.ensures.1
      (store_earned (geometry_of old) disk (last_of old) (λ page. page.store ≡ c.args.store) (λ page. page.store ≡ c.args.store) (NeedsForce (heap_of old).pool (durable_of old)) _ _ (ap (λ n. n - 1) (c.last.view_is ∙ c.next.ensures)) (λ id there of_store. of_store)
      (c.in_err-place.ensures.refused front disk holds (omega (arith, old.forced, c.last.view_is, c.next.ensures))));
  forced = λ front disk holds.
      let old = c.args.self.now in
      forced_as (NeedsForce (heap_of old).pool (durable_of old)) c.from_residual.result _ c.from_residual.ensures.1
      (store_force (heap_of old) (durable_of old) (geometry_of old) disk _ (λ page. page.store ≡ c.args.store) _ (c.in_err-place.ensures.refused front disk holds (omega (arith, old.forced, c.last.view_is, c.next.ensures))));
  cause = cause_handed _ _ _ _ c.from_residual.ensures.1 c.in_err-place.ensures.reads.cause;
}

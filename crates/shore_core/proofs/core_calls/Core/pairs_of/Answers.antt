use Rattle.std.proofs.Common.{◌≡◌, ◌⊎◌, ◌-◌, refl, sym, ap, subst, ◌∙◌, arith}
use Rattle.shore_types.specs.declared.faults.Fault.TheVariants as fault
use Rattle.shore_model.specs.Records.{scan_of}
use Rattle.shore_pool.specs.Pools.{NeedsForce}
use Rattle.shore_heap.specs.Contents.{AreKept}
use Rattle.shore_heap.specs.Heaps.{Shows}
use Rattle.shore_txn.specs.Transactions.{kept_in}
use Rattle.laws_calls.specs.StateChanges.{IsPageFault}
use Rattle.laws_calls.specs.States.{page_slots}
use Rattle.shore_core.specs.Cores.{durable_of, geometry_of, heap_of, last_of, txns_of}
use Rattle.shore_core.proofs.Coming.{kept_lent, pages_may_go, stays_read}
use Rattle.shore_core.proofs.Forcing.{store_fault, store_force}
use Rattle.shore_core.proofs.Pairs.{map_ok}
use Rattle.shore_core.proofs.Placing.{scan_is}
use Rattle.shore_core.proofs.Taking.{map_err}
use Rattle.shore_core.proofs.Earning.{store_earned}
use Rattle.shore_core.proofs.core_calls.Core.pairs_of.Goals as goal

pub returns-clause-pairs : goal.returns-clause-pairs
returns-clause-pairs g c running front disk before s plain is safe over =
    let old = c.args.self.now in
    let works = is.beside.parts.failed_is ∙ running in
    map_ok _ (λ pairs. pairs ≡ scan_of c.args.store s.sessions.records) c.scan.result (λ pairs scan. scan_is (geometry_of old) s safe.roomy.pages c.args.store safe.inside pairs scan)
    (c.scan.ensures.scanned front disk (page_slots s) (subst (λ t. Shows (kept_in t) old.heap front disk (page_slots s)) (sym c.txns.ensures) (is.pages works))
    (subst (λ t. AreKept (geometry_of old) (kept_in t) (page_slots s)) (sym c.txns.ensures) (pages_may_go old before s is.beside safe)))

pub returns-clause-refused : goal.returns-clause-refused
returns-clause-refused g c running front disk before s plain is safe over =
    let old = c.args.self.now in
    let works = is.beside.parts.failed_is ∙ running in
    map_err _ (λ f. (f ≡ fault.Memory) ⊎ IsPageFault s f) c.scan.result
    (λ f. store_fault (heap_of old) s plain disk over.kept (over.pages works) (durable_of old) _ (λ page. page.store ≡ c.args.store) f (sym is.beside.parts.durable_is))
    (c.scan.ensures.refused front disk (is.pages works).holds (omega (arith, old.forced, c.last.view_is, c.next.ensures)))

pub returns-clause-stays : goal.returns-clause-stays
returns-clause-stays g c front disk before s plain is safe over =
    let old = c.args.self.now in
    stays_read old _ front disk before s plain is over
    (record { volume = record { geometry = c.scan.ensures.reads.geometry; honest = c.scan.ensures.reads.honest; size = c.scan.ensures.reads.size }; durable = refl; failed = refl; tail = refl; control = refl })
    c.scan.ensures.reads.any_moment c.scan.result
    (λ works. kept_lent old.heap c.scan.new.self c.scan.result (durable_of old) front disk (page_slots s) c.txns.result.now (txns_of old) c.txns.ensures
    (c.scan.ensures.reads.kept front disk (page_slots s)) (is.pages works) (pages_may_go old before s is.beside safe))

pub returns-clause-reads : goal.returns-clause-reads
returns-clause-reads g c = record {
  volume = record { geometry = c.scan.ensures.reads.geometry; honest = c.scan.ensures.reads.honest; size = c.scan.ensures.reads.size };
  durable = refl;
  failed = refl;
  tail = refl;
  control = refl;
}

pub returns-clause-serves : goal.returns-clause-serves
returns-clause-serves g c = record {
  volume = record { geometry = c.scan.ensures.reads.geometry; honest = c.scan.ensures.reads.honest; size = c.scan.ensures.reads.size };
  durable = refl;
  first = refl;
  any_moment = c.scan.ensures.reads.any_moment;
  damaged = λ front disk holds.
      let old = c.args.self.now in
      map_err _ _ c.scan.result
      (λ f. store_earned (geometry_of old) disk (last_of old) (λ page. page.store ≡ c.args.store) (λ page. page.store ≡ c.args.store) (NeedsForce (heap_of old).pool (durable_of old)) _ f (ap (λ n. n - 1) (c.last.view_is ∙ c.next.ensures)) (λ id there of_store. of_store))
      (c.scan.ensures.refused front disk holds (omega (arith, old.forced, c.last.view_is, c.next.ensures)));
  forced = λ front disk holds.
      let old = c.args.self.now in
      map_err _ _ c.scan.result (λ f. store_force (heap_of old) (durable_of old) (geometry_of old) disk _ (λ page. page.store ≡ c.args.store) f)
      (c.scan.ensures.refused front disk holds (omega (arith, old.forced, c.last.view_is, c.next.ensures)));
  cause = c.scan.ensures.reads.cause;
}

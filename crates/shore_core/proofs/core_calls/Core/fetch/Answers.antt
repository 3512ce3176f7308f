use Rattle.std.proofs.Common.{◌≡◌, ◌⊎◌, ◌-◌, refl, sym, ap, ◌∙◌}
use Rattle.shore_types.specs.declared.faults.Fault.TheVariants as fault
use Rattle.laws_calls.specs.StateChanges.{IsPageFault}
use Rattle.laws_calls.specs.States.{page_slots}
use Rattle.shore_pool.specs.Pools.{NeedsForce}
use Rattle.shore_core.proofs.Taking.{map_err}
use Rattle.shore_core.proofs.Coming.{kept_lent, pages_may_go, stays_read}
use Rattle.shore_core.proofs.Forcing.{both_err, fetch_force, force_still, page_fault, wrote_ok}
use Rattle.shore_core.specs.Cores.{durable_of, geometry_of, heap_of, last_of, txns_of}
use Rattle.shore_core.proofs.Earning.{page_earned}
use Rattle.shore_core.proofs.core_calls.Core.fetch.Goals as goal

pub returns-clause-refused : goal.returns-clause-refused
returns-clause-refused g c running front disk before s store is safe over =
    let old = c.args.self.now in
    let works = is.beside.parts.failed_is ∙ running in
    map_err _ (λ f. (f ≡ fault.Memory) ⊎ IsPageFault s f) c.fetch.result
    (λ f. page_fault (heap_of old) s store disk over.kept (over.pages works) (durable_of old) _ c.args.page f (sym is.beside.parts.durable_is))
    (c.fetch.ensures.refused front disk (is.pages works).holds)

pub returns-clause-stays : goal.returns-clause-stays
returns-clause-stays g c front disk before s store is safe over =
    let old = c.args.self.now in
    stays_read old _ front disk before s store is over
    (record { volume = record { geometry = c.fetch.ensures.reads.geometry; honest = c.fetch.ensures.reads.honest; size = c.fetch.ensures.reads.size }; durable = refl; failed = refl; tail = refl; control = refl })
    c.fetch.ensures.reads.any_moment c.fetch.result
    (λ works. kept_lent old.heap c.fetch.new.self c.fetch.result (durable_of old) front disk (page_slots s) c.txns.result.now (txns_of old) c.txns.ensures
    (c.fetch.ensures.reads.kept front disk (page_slots s)) (is.pages works) (pages_may_go old before s is.beside safe))

-- where a force is needed no page has moved
pub returns-clause-forced_now : goal.returns-clause-forced_now
returns-clause-forced_now g c front disk holds =
    let old = c.args.self.now in
    let durable = durable_of old in
    let needs = map_err _ _ c.fetch.result (λ f. fetch_force (heap_of old) durable (geometry_of old) disk _ c.args.page f) (c.fetch.ensures.refused front disk holds) in
    both_err _ _ _ c.fetch.result (λ f forced still number is. force_still (heap_of old).pool c.fetch.new.self.pool durable number (still number is) (forced number is)) needs (c.fetch.ensures.unmoved front disk holds)

pub returns-clause-wrote : goal.returns-clause-wrote
returns-clause-wrote g c = wrote_ok (heap_of c.args.self.now) c.fetch.new.self (durable_of c.args.self.now) c.fetch.result c.fetch.ensures.reads.wrote

pub returns-clause-reads : goal.returns-clause-reads
returns-clause-reads g c = record {
  volume = record { geometry = c.fetch.ensures.reads.geometry; honest = c.fetch.ensures.reads.honest; size = c.fetch.ensures.reads.size };
  durable = refl;
  failed = refl;
  tail = refl;
  control = refl;
}

pub returns-clause-serves : goal.returns-clause-serves
returns-clause-serves g c = record {
  volume = record { geometry = c.fetch.ensures.reads.geometry; honest = c.fetch.ensures.reads.honest; size = c.fetch.ensures.reads.size };
  durable = refl;
  first = refl;
  any_moment = c.fetch.ensures.reads.any_moment;
  damaged = λ front disk holds.
      let old = c.args.self.now in
      map_err _ _ c.fetch.result (λ f. page_earned (geometry_of old) disk (last_of old) (λ id. id ≡ c.args.page) (NeedsForce (heap_of old).pool (durable_of old)) c.args.page _ f (ap (λ n. n - 1) (c.last.view_is ∙ c.next.ensures)) refl c.requires)
      (c.fetch.ensures.refused front disk holds);
  forced = λ front disk holds.
      let old = c.args.self.now in
      map_err _ _ c.fetch.result (λ f. fetch_force (heap_of old) (durable_of old) (geometry_of old) disk _ c.args.page f) (c.fetch.ensures.refused front disk holds);
  cause = c.fetch.ensures.reads.cause;
}

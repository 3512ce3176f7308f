use Rattle.std.proofs.Common.{◌≡◌, ◌⊎◌, ◌-◌, ◌<◌, ◌≤◌, ℕ, Option, None, Some, IfSome, length, refl, sym, ap, subst, ◌∙◌, arith}
use Rattle.shore_types.specs.Layout.{HasPage}
use Rattle.shore_types.specs.declared.faults.Fault.TheVariants as fault
use Rattle.shore_types.specs.declared.ids.PageId.{PageId}
use Rattle.shore_types.specs.declared.layout.Geometry.{Geometry}
use Rattle.shore_model.specs.Records.{part_of}
use Rattle.shore_pool.specs.Pools.{NeedsForce}
use Rattle.shore_heap.specs.Contents.{AreKept}
use Rattle.shore_heap.specs.Heaps.{Shows}
use Rattle.shore_heap.specs.Scans.{IsFrom, IsReadFor, part_end}
use Rattle.shore_txn.specs.Transactions.{kept_in}
use Rattle.laws_calls.specs.StateChanges.{IsPageFault}
use Rattle.laws_calls.specs.States.{page_slots}
use Rattle.shore_core.specs.Cores.{durable_of, geometry_of, heap_of, last_of, txns_of}
use Rattle.shore_core.specs.Replies.{ReadsPart}
use Rattle.shore_core.proofs.Coming.{kept_lent, pages_may_go, stays_read}
use Rattle.shore_core.proofs.Forcing.{store_fault, store_force}
use Rattle.shore_core.proofs.Pairs.{both_ok}
use Rattle.shore_core.proofs.Placing.{part_is, part_shows}
use Rattle.shore_core.proofs.Taking.{map_err}
use Rattle.shore_core.proofs.Earning.{store_earned}
use Rattle.shore_core.proofs.core_calls.Core.part_from.Goals as goal

-- the page that comes next is there
behind : (g : Geometry) (first : PageId) (most found : ℕ) (next : Option PageId) → IfSome next (λ id. (id.store ≡ first.store) × HasPage g id × (first.page < id.page) × (most ≤ found))
    → IfSome next (λ id. (id.store ≡ first.store) × HasPage g id)
behind g first most found None there = tt
behind g first most found (Some id) there = (there.0, there.1)

pub returns-clause-shown : goal.returns-clause-shown
returns-clause-shown g c running front disk before s plain is safe over =
    let old = c.args.self.now in
    let first = c.args.first in
    let works = is.beside.parts.failed_is ∙ running in
    both_ok _ _ (λ next. c.scan_part.new.list ≡ part_of first.store first.page (part_end (geometry_of old) first.store next) s.sessions.records) c.scan_part.result
    (λ next part there. part_is (geometry_of old) s safe.roomy.pages first.store safe.inside first.page next (behind (geometry_of old) first c.args.most (length c.scan_part.new.list) next there) c.scan_part.new.list part)
    (c.scan_part.ensures.scanned front disk (page_slots s) (subst (λ t. Shows (kept_in t) old.heap front disk (page_slots s)) (sym c.txns.ensures) (is.pages works))
    (subst (λ t. AreKept (geometry_of old) (kept_in t) (page_slots s)) (sym c.txns.ensures) (pages_may_go old before s is.beside safe)))
    c.scan_part.ensures.next

pub returns-clause-short : goal.returns-clause-short
returns-clause-short g c running front disk before s plain is safe over =
    let old = c.args.self.now in
    let first = c.args.first in
    let works = is.beside.parts.failed_is ∙ running in
    both_ok _ _ (λ next. (to : ℕ) → first.page < to → to < part_end (geometry_of old) first.store next → length (part_of first.store first.page to s.sessions.records) < c.args.most) c.scan_part.result
    (λ next short there to low high. short to (part_of first.store first.page to s.sessions.records) low high
    (part_shows (geometry_of old) s safe.roomy.pages first.store safe.inside first.page next (behind (geometry_of old) first c.args.most (length c.scan_part.new.list) next there) to (omega (arith, high))))
    (c.scan_part.ensures.short front disk (page_slots s) (subst (λ t. Shows (kept_in t) old.heap front disk (page_slots s)) (sym c.txns.ensures) (is.pages works))
    (subst (λ t. AreKept (geometry_of old) (kept_in t) (page_slots s)) (sym c.txns.ensures) (pages_may_go old before s is.beside safe)))
    c.scan_part.ensures.next

pub returns-clause-refused : goal.returns-clause-refused
returns-clause-refused g c running front disk before s plain is safe over =
    let old = c.args.self.now in
    let works = is.beside.parts.failed_is ∙ running in
    map_err _ (λ f. (f ≡ fault.Memory) ⊎ IsPageFault s f) c.scan_part.result
    (λ f. store_fault (heap_of old) s plain disk over.kept (over.pages works) (durable_of old) _ (IsFrom c.args.first) f (sym is.beside.parts.durable_is))
    (c.scan_part.ensures.refused front disk (is.pages works).holds (omega (arith, old.forced, c.last.view_is, c.next.ensures)))

-- a page that is read behind the first has fewer records before it, in the model too
pub returns-clause-stops : goal.returns-clause-stops
returns-clause-stops g c running front disk before s plain is safe over =
    let old = c.args.self.now in
    let first = c.args.first in
    let works = is.beside.parts.failed_is ∙ running in
    map_err _ _ c.scan_part.result
    (λ f. store_earned (geometry_of old) disk (last_of old) (ReadsPart s first c.args.most) (IsReadFor (page_slots s) first c.args.most) (NeedsForce (heap_of old).pool (durable_of old)) _ f (ap (λ n. n - 1) (c.last.view_is ∙ c.next.ensures))
    (λ id there read. (
      read.0,
      λ behind. read.1 behind (part_of first.store first.page id.page s.sessions.records)
          (part_shows (geometry_of old) s safe.roomy.pages first.store safe.inside first.page (Some id) (read.0.0, there) id.page (omega arith)),
    )))
    (c.scan_part.ensures.stops front disk (page_slots s) (subst (λ t. Shows (kept_in t) old.heap front disk (page_slots s)) (sym c.txns.ensures) (is.pages works))
    (subst (λ t. AreKept (geometry_of old) (kept_in t) (page_slots s)) (sym c.txns.ensures) (pages_may_go old before s is.beside safe))
    (omega (arith, old.forced, c.last.view_is, c.next.ensures)))

pub returns-clause-stays : goal.returns-clause-stays
returns-clause-stays g c front disk before s plain is safe over =
    let old = c.args.self.now in
    stays_read old _ front disk before s plain is over
    (record { volume = record { geometry = c.scan_part.ensures.reads.geometry; honest = c.scan_part.ensures.reads.honest; size = c.scan_part.ensures.reads.size }; durable = refl; failed = refl; tail = refl; control = refl })
    c.scan_part.ensures.reads.any_moment c.scan_part.result
    (λ works. kept_lent old.heap c.scan_part.new.self c.scan_part.result (durable_of old) front disk (page_slots s) c.txns.result.now (txns_of old) c.txns.ensures
    (c.scan_part.ensures.reads.kept front disk (page_slots s)) (is.pages works) (pages_may_go old before s is.beside safe))

pub returns-clause-reads : goal.returns-clause-reads
returns-clause-reads g c = record {
  volume = record { geometry = c.scan_part.ensures.reads.geometry; honest = c.scan_part.ensures.reads.honest; size = c.scan_part.ensures.reads.size };
  durable = refl;
  failed = refl;
  tail = refl;
  control = refl;
}

pub returns-clause-serves : goal.returns-clause-serves
returns-clause-serves g c = record {
  volume = record { geometry = c.scan_part.ensures.reads.geometry; honest = c.scan_part.ensures.reads.honest; size = c.scan_part.ensures.reads.size };
  durable = refl;
  first = refl;
  any_moment = c.scan_part.ensures.reads.any_moment;
  damaged = λ front disk holds.
      let old = c.args.self.now in
      map_err _ _ c.scan_part.result
      (λ f. store_earned (geometry_of old) disk (last_of old) (IsFrom c.args.first) (IsFrom c.args.first) (NeedsForce (heap_of old).pool (durable_of old)) _ f (ap (λ n. n - 1) (c.last.view_is ∙ c.next.ensures)) (λ id there from. from))
      (c.scan_part.ensures.refused front disk holds (omega (arith, old.forced, c.last.view_is, c.next.ensures)));
  forced = λ front disk holds.
      let old = c.args.self.now in
      map_err _ _ c.scan_part.result (λ f. store_force (heap_of old) (durable_of old) (geometry_of old) disk _ (IsFrom c.args.first) f)
      (c.scan_part.ensures.refused front disk holds (omega (arith, old.forced, c.last.view_is, c.next.ensures)));
  cause = c.scan_part.ensures.reads.cause;
}

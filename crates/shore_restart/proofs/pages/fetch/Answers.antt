use Rattle.std.proofs.Common.{Ok, Err, inl, inr, refl, ap}
use Rattle.shore_heap.specs.Heaps.{faults_of}
use Rattle.shore_restart.proofs.PageErrors.{device_error, earned_page, page_cause, refused_page}
use Rattle.shore_restart.proofs.Standing.{fetched, stands_kept, stops}
use Rattle.shore_restart.proofs.HeldPages.{fetch_leaves, fetch_names}
use Rattle.shore_restart.proofs.pages.fetch.Goals as goal

pub returns-in-Ok-clause-fetches : goal.returns-in-Ok-clause-fetches
returns-in-Ok-clause-fetches g c front disk s stands low =
    let heap = c.args.heap.now in
    let kept = c.in-Ok.ensures.reads.kept front disk stands.slots stands.shows (stands_kept front disk heap s stands) in
    fetched front disk heap c.fetch.new.self s c.args.ends.now.durable (Ok tt) stands low c.fetch.ensures.reads.geometry kept (c.fetch.ensures.reads.any_moment front disk stands.shows.holds)

pub returns-in-Err-clause-fetches : goal.returns-in-Err-clause-fetches
returns-in-Err-clause-fetches g c front disk s stands low =
    let heap = c.args.heap.now in
    let leaves = c.fetch.ensures.reads.any_moment front disk stands.shows.holds in
    elim (c.in-Err.ensures.reads.kept front disk stands.slots stands.shows (stands_kept front disk heap s stands)) [
      | inl device ↦ record {
        later = s;
        work = stops front disk heap c.fetch.new.self s c.args.ends.now.durable stands low leaves;
        same = record { log = refl; durable = refl; redone = refl; in_place = refl };
        stands = inl (ap Err (device_error c.in-Err.fault c.page_error.result c.page_error.ensures device));
      }
      | inr kept ↦ fetched front disk heap c.fetch.new.self s c.args.ends.now.durable (Err c.page_error.result) stands low c.fetch.ensures.reads.geometry kept leaves
    ]

pub returns-in-Err-clause-device : goal.returns-in-Err-clause-device
returns-in-Err-clause-device g c front disk s stands low h is =
    refused_page disk c.args.heap.now s c.args.page c.args.ends.now c.in-Err.fault h c.page_error.result stands.store stands.recoverable c.requires low
    (c.in-Err.ensures.refused front disk stands.shows.holds) c.page_error.ensures is

pub returns-in-Err-clause-earned : goal.returns-in-Err-clause-earned
returns-in-Err-clause-earned g c front disk holds =
    earned_page disk c.args.heap.now c.args.page c.args.ends.now c.in-Err.fault c.page_error.result c.requires (c.in-Err.ensures.refused front disk holds) c.page_error.ensures

pub returns-in-Err-clause-cause : goal.returns-in-Err-clause-cause
returns-in-Err-clause-cause g c =
    page_cause (Unit {0}) c.in-Err.fault c.page_error.result (faults_of c.args.heap.now) (faults_of c.fetch.new.self) c.page_error.ensures c.in-Err.ensures.reads.cause

pub returns-in-Ok-clause-any_pages : goal.returns-in-Ok-clause-any_pages
returns-in-Ok-clause-any_pages g c front first disk done held low = record {
  named = tt;
  stays = inr (fetch_leaves front first disk c.args.heap.now c.fetch.new.self done c.args.page c.args.ends.now.last c.args.ends.now.durable held low (c.in-Ok.ensures.reads.wrote front disk held.holds) (c.fetch.ensures.framed front disk held.holds) c.fetch.ensures.reads.geometry);
}

pub returns-in-Err-clause-any_pages : goal.returns-in-Err-clause-any_pages
returns-in-Err-clause-any_pages g c front first disk done held low = record {
  named = λ f is. fetch_names front first disk c.args.heap.now done c.args.page c.args.ends.now c.in-Err.fault f c.page_error.result c.requires held
      (c.in-Err.ensures.refused front disk held.holds) c.page_error.ensures is;
  stays = elim (c.in-Err.ensures.reads.wrote front disk held.holds) [
    | inl device ↦ inl (ap Err (device_error c.in-Err.fault c.page_error.result c.page_error.ensures device))
    | inr wrote ↦ inr (fetch_leaves front first disk c.args.heap.now c.fetch.new.self done c.args.page c.args.ends.now.last c.args.ends.now.durable held low wrote (c.fetch.ensures.framed front disk held.holds) c.fetch.ensures.reads.geometry)
  ];
}

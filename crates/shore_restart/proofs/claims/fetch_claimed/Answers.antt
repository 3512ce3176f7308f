use Rattle.std.proofs.Common.{ℕ, inl, inr, refl, arith}
use Rattle.shore_types.specs.declared.log_ends.LogEnds.{LogEnds}
use Rattle.shore_heap.specs.Heaps.{faults_of}
use Rattle.shore_txn.specs.Transactions.{kept_in}
use Rattle.shore_restart.proofs.ClaimsKept.{stands_fetched, stopped_there, wrote}
use Rattle.shore_restart.proofs.AnyClaims.{fetch_keeps}
use Rattle.shore_restart.proofs.HeldPages.{low_names}
use Rattle.shore_restart.proofs.PageErrors.{page_cause, refused_page}
use Rattle.shore_restart.proofs.claims.fetch_claimed.Goals as goal

abbrev ends_at : ℕ → LogEnds
ends_at last = record { last = last; durable = last }

pub returns-in-Ok-clause-keeps : goal.returns-in-Ok-clause-keeps
returns-in-Ok-clause-keeps g c so_far slots front disk s stands low =
    let old = c.args.heap.now in
    let mid = c.fetch.new.self in
    let (left, holds, stay) = c.in-Ok.ensures.reads.wrote front disk stands.holds in
    let kept = wrote front disk old mid s c.args.last stands.store stands.recoverable low (c.fetch.ensures.reads.any_moment front disk stands.holds) left c.fetch.ensures.reads.geometry holds stay in
    record {
      later = kept.later;
      work = kept.work;
      same = kept.same;
      volume = kept.volume;
      stands = (
        left,
        stands_fetched front disk left old mid s (kept_in c.args.txns.now) so_far slots stands c.args.page c.requires c.fetch.ensures.reads.geometry stay.same c.args.last (c.fetch.ensures.framed front disk stands.holds) kept holds
            c.fetch.ensures.bounds,
      );
      notes = kept.notes;
    }

pub returns-in-Err-clause-keeps : goal.returns-in-Err-clause-keeps
returns-in-Err-clause-keeps g c so_far slots front disk s stands low =
    let old = c.args.heap.now in
    let mid = c.fetch.new.self in
    let moments = c.fetch.ensures.reads.any_moment front disk stands.holds in
    elim (c.in-Err.ensures.reads.wrote front disk stands.holds) [
      | inl device ↦ record {
        later = s;
        work = stopped_there front disk old mid s c.args.last stands.store stands.recoverable low moments;
        same = record { log = refl; durable = refl; redone = refl; in_place = refl };
        volume = λ p. inl refl;
        stands = tt;
        notes = tt;
      }
      | inr back ↦
          let kept = wrote front disk old mid s c.args.last stands.store stands.recoverable low moments back.0 c.fetch.ensures.reads.geometry back.1 back.2 in
          record { later = kept.later; work = kept.work; same = kept.same; volume = kept.volume; stands = tt; notes = tt }
    ]

pub returns-in-Err-clause-device : goal.returns-in-Err-clause-device
returns-in-Err-clause-device g c so_far slots front disk s stands long low f is =
    elim (refused_page disk c.args.heap.now s c.args.page (ends_at c.args.last) c.in-Err.fault f c.page_error.result stands.store stands.recoverable c.requires long (c.in-Err.ensures.refused front disk stands.holds) c.page_error.ensures is) [
      | inl device ↦ device
      | inr force ↦ let above = force.2 in let within = force.3 in absurd (omega (arith, above, within, long))
    ]

pub returns-in-Ok-clause-any_pages : goal.returns-in-Ok-clause-any_pages
returns-in-Ok-clause-any_pages g c so_far front first disk done held = record {
  named = tt;
  stays = fetch_keeps front first done c.args.last (kept_in c.args.txns.now) so_far disk c.args.heap.now c.fetch.new.self c.args.page c.requires c.fetch.ensures.reads.geometry held (c.fetch.ensures.framed front disk held.holds)
      (c.in-Ok.ensures.reads.wrote front disk held.holds);
}

pub returns-in-Err-clause-any_pages : goal.returns-in-Err-clause-any_pages
returns-in-Err-clause-any_pages g c so_far front first disk done held = record {
  named = λ f is. elim (low_names disk c.args.heap.now c.args.page (ends_at c.args.last) c.in-Err.fault f c.page_error.result c.requires held.low (c.in-Err.ensures.refused front disk held.holds) c.page_error.ensures is) [
    | inl of ↦ of
    | inr force ↦ let above = force.2 in let within = force.3 in absurd (omega (arith, above, within))
  ];
  stays = tt;
}

pub returns-in-Err-clause-cause : goal.returns-in-Err-clause-cause
returns-in-Err-clause-cause g c =
    page_cause (Unit {0}) c.in-Err.fault c.page_error.result (faults_of c.args.heap.now) (faults_of c.fetch.new.self) c.page_error.ensures c.in-Err.ensures.reads.cause

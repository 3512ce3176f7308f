use Rattle.std.proofs.Common.{◌≡◌, inl, inr, ℕ, List, Option, length, refl, sym, ap, subst, ◌∙◌, arith}
use Rattle.shore_pool.specs.Pages.{AreUpTo}
use Rattle.shore_pool.specs.Pools.{amid_of, batch_of, batch_texts_of, device_of, frame_at, geometry_of, history_of}
use Rattle.shore_pool.proofs.Moments.{while_shown, while_still}
use Rattle.shore_pool.proofs.Steps.{wrote_still}
use Rattle.shore_dwrite.specs.Shown.{RiseFrom}
use Rattle.shore_pool.specs.Batches.{AreDue}
use Rattle.shore_flush.specs.Batches.{pages_of}
use Rattle.shore_flush.specs.Flushes.{AreFirst}
use Rattle.shore_flush.proofs.Turns.{is_zero, no_pages}
use Rattle.shore_pool.proofs.Syncs.{once_at_most}
use Rattle.shore_flush.proofs.flush.begin_on.Goals as goal

pub returns-then-is_empty-clause-any_moment : goal.returns-then-is_empty-clause-any_moment
returns-then-is_empty-clause-any_moment g c front disk holds =
    let pool = c.args.pool.now in
    while_still (device_of pool) (frame_at pool) c.args.durable front disk (batch_of pool) (batch_texts_of pool) (amid_of pool) holds.settled

pub returns-in_err-begin-clause-any_moment : goal.returns-in_err-begin-clause-any_moment
returns-in_err-begin-clause-any_moment g c front disk holds =
    let pool = c.args.pool.now in
    while_shown (geometry_of pool) (frame_at pool) c.args.durable front disk _ _ (c.begin.ensures.any_moment front disk holds)

pub returns-clause-any_moment : goal.returns-clause-any_moment
returns-clause-any_moment g c front disk holds =
    let pool = c.args.pool.now in
    while_shown (geometry_of pool) (frame_at pool) c.args.durable front disk _ _ (c.begin.ensures.any_moment front disk holds)

pub returns-clause-kept : goal.returns-clause-kept
returns-clause-kept g c front disk holds = wrote_still c.args.pool.now c.begin.new.self c.args.durable front disk c.begin.ensures.frames (c.in_ok-begin.ensures.kept front disk holds)

pub returns-then-is_empty-clause-goes_on : goal.returns-then-is_empty-clause-goes_on
returns-then-is_empty-clause-goes_on g c =
    let pages = pages_of c.choose-batch.result in
    let none : length pages ≡ 0 = ap (λ (l : List ℕ). length l) (sym c.pages-pages.ensures) ∙ is_zero (length c.pages-pages.result.now) (sym c.is_empty.ensures ∙ c.if-is_empty.true) in
    inr (refl, c.choose-batch.ensures.none (no_pages pages none), refl)

pub returns-clause-goes_on : goal.returns-clause-goes_on
returns-clause-goes_on g c =
    let pool = c.args.pool.now in
    let is : batch_of c.begin.new.self ≡ pages_of c.choose-batch.result = c.in_ok-begin.ensures.begun.1 ∙ c.pages-pages.ensures in
    inl (
      refl,
      record {
        amid = c.in_ok-begin.ensures.begun.0;
        rise = subst (RiseFrom 0) (sym is) c.choose-batch.ensures.rise;
        due = subst (AreDue pool c.args.durable) (sym is) c.choose-batch.ensures.due;
        first = subst (AreFirst pool c.args.durable) (sym is) c.choose-batch.ensures.first;
        frames = c.begin.ensures.frames;
      },
    )

pub returns-clause-syncs : goal.returns-clause-syncs
returns-clause-syncs g c honest = once_at_most c.begin.result (history_of c.args.pool.now) (history_of c.begin.new.self) (c.begin.ensures.syncs honest)

pub returns-in_err-begin-clause-syncs : goal.returns-in_err-begin-clause-syncs
returns-in_err-begin-clause-syncs g c honest = once_at_most c.begin.result (history_of c.args.pool.now) (history_of c.begin.new.self) (c.begin.ensures.syncs honest)

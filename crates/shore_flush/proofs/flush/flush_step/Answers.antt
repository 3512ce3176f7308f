use Rattle.std.proofs.Common.{◌≡◌, ◌==◌, ℕ, Option, option_map, true, false, inl, inr, List, [], ◌∷◌, length, refl, sym, ap, subst, ◌∙◌, arith}
use Rattle.shore_pool.specs.Pages.{AreUpTo}
use Rattle.shore_disk.specs.Device.{LeavesOnly}
use Rattle.shore_disk.proofs.Moments.{joined}
use Rattle.shore_types.specs.declared.layout.Geometry.{Geometry}
use Rattle.shore_pool.specs.declared.frame.Frame.{Frame}
use Rattle.shore_pool.specs.declared.frames.Frames.{Frames}
use Rattle.shore_pool.specs.FrameMaps as maps
use Rattle.shore_pool.specs.Pools.{LeavesPages, amid_of, batch_of, batch_texts_of, device_of, frame_at, geometry_of, history_of}
use Rattle.shore_pool.proofs.Steps.{match_err, wrote_from}
use Rattle.shore_dwrite.specs.Shown.{RiseFrom}
use Rattle.shore_pool.specs.Batches.{AreDue}
use Rattle.shore_pool.specs.Changes.{settled}
use Rattle.shore_flush.specs.Flushes.{AreFirst}
use Rattle.shore_pool.proofs.Choices.{up_to}
use Rattle.shore_pool.proofs.Moments.{Leaves, while_shown, while_still}
use Rattle.shore_flush.specs.Batches.{pages_of}
use Rattle.shore_flush.proofs.Turns.{is_zero, no_pages}
use Rattle.shore_flush.proofs.flush.flush_step.Goals as goal

pub returns-then-is_empty-clause-any_moment : goal.returns-then-is_empty-clause-any_moment
returns-then-is_empty-clause-any_moment g c front disk holds = while_still (device_of c.args.pool.now) (frame_at c.args.pool.now) c.args.durable front disk (batch_of c.args.pool.now) (batch_texts_of c.args.pool.now) (amid_of c.args.pool.now) holds.settled

pub returns-then-is_empty-clause-flushed : goal.returns-then-is_empty-clause-flushed
returns-then-is_empty-clause-flushed g c =
    let pages = pages_of c.choose-batch.result in
    let none : length pages ≡ 0 = ap (λ (l : List ℕ). length l) (sym c.pages-pages.ensures) ∙ is_zero (length c.pages-pages.result.now) (sym c.is_empty.ensures ∙ c.if-is_empty.true) in
    record {
      pages = pages;
      count_is = none;
      rise = c.choose-batch.ensures.rise;
      due = c.choose-batch.ensures.due;
      first = c.choose-batch.ensures.first;
      clean = λ k has. absurd (omega (arith, none, has.1));
      others = λ k other. refl;
      none = λ is. c.choose-batch.ensures.none (no_pages pages none);
    }

pub returns-in_err-finish-clause-any_moment : goal.returns-in_err-finish-clause-any_moment
returns-in_err-finish-clause-any_moment g c front disk holds =
    let pool = c.args.pool.now in
    while_shown (geometry_of pool) (frame_at pool) c.args.durable front disk _ _ (c.finish.ensures.any_moment front disk holds)

pub returns-in_err-write-clause-any_moment : goal.returns-in_err-write-clause-any_moment
returns-in_err-write-clause-any_moment g c front disk holds =
    let pool = c.args.pool.now in
    let mid = c.finish.new.self in
    let is : frame_at mid ≡ frame_at pool = ap (λ (it : Frames). maps.frame_at it) c.finish.ensures.frames in
    let up : AreUpTo (frame_at mid) c.args.durable c.pages-pages.result.now = subst (λ (at : ℕ → Option Frame). AreUpTo at c.args.durable c.pages-pages.result.now) (sym is)
    (subst (AreUpTo (frame_at pool) c.args.durable) (sym c.pages-pages.ensures) (up_to pool c.args.durable (pages_of c.choose-batch.result) c.choose-batch.ensures.due)) in
    joined _ _ _ (LeavesPages pool c.args.durable front disk) (while_shown (geometry_of pool) (frame_at pool) c.args.durable front disk _ _ (c.finish.ensures.any_moment front disk holds))
    (subst (λ (at : ℕ → Option Frame). LeavesOnly (history_of mid) (history_of c.write.new.self) (Leaves (geometry_of pool) at c.args.durable front disk)) is
    (subst (λ (it : Geometry). LeavesOnly (history_of mid) (history_of c.write.new.self) (Leaves it (frame_at mid) c.args.durable front disk)) c.finish.ensures.geometry
    (c.write.ensures.any_moment front disk c.args.durable (c.in_ok-finish.ensures.kept front disk holds) up)))

pub returns-clause-any_moment : goal.returns-clause-any_moment
returns-clause-any_moment g c front disk holds =
    let pool = c.args.pool.now in
    let mid = c.finish.new.self in
    let is : frame_at mid ≡ frame_at pool = ap (λ (it : Frames). maps.frame_at it) c.finish.ensures.frames in
    let up : AreUpTo (frame_at mid) c.args.durable c.pages-pages.result.now = subst (λ (at : ℕ → Option Frame). AreUpTo at c.args.durable c.pages-pages.result.now) (sym is)
    (subst (AreUpTo (frame_at pool) c.args.durable) (sym c.pages-pages.ensures) (up_to pool c.args.durable (pages_of c.choose-batch.result) c.choose-batch.ensures.due)) in
    joined _ _ _ (LeavesPages pool c.args.durable front disk) (while_shown (geometry_of pool) (frame_at pool) c.args.durable front disk _ _ (c.finish.ensures.any_moment front disk holds))
    (subst (λ (at : ℕ → Option Frame). LeavesOnly (history_of mid) (history_of c.write.new.self) (Leaves (geometry_of pool) at c.args.durable front disk)) is
    (subst (λ (it : Geometry). LeavesOnly (history_of mid) (history_of c.write.new.self) (Leaves it (frame_at mid) c.args.durable front disk)) c.finish.ensures.geometry
    (c.write.ensures.any_moment front disk c.args.durable (c.in_ok-finish.ensures.kept front disk holds) up)))

pub returns-clause-kept : goal.returns-clause-kept
returns-clause-kept g c front disk holds =
    let pool = c.args.pool.now in
    let mid = c.finish.new.self in
    let is : frame_at mid ≡ frame_at pool = ap (λ (it : Frames). maps.frame_at it) c.finish.ensures.frames in
    let up : AreUpTo (frame_at mid) c.args.durable c.pages-pages.result.now = subst (λ (at : ℕ → Option Frame). AreUpTo at c.args.durable c.pages-pages.result.now) (sym is)
    (subst (AreUpTo (frame_at pool) c.args.durable) (sym c.pages-pages.ensures) (up_to pool c.args.durable (pages_of c.choose-batch.result) c.choose-batch.ensures.due)) in
    wrote_from pool mid c.write.new.self c.finish.ensures.geometry is c.args.durable front disk (c.in_ok-write.ensures.kept front disk c.args.durable (c.in_ok-finish.ensures.kept front disk holds) up)

pub returns-in_err-write-clause-kept : goal.returns-in_err-write-clause-kept
returns-in_err-write-clause-kept g c front disk holds =
    let pool = c.args.pool.now in
    let mid = c.finish.new.self in
    let is : frame_at mid ≡ frame_at pool = ap (λ (it : Frames). maps.frame_at it) c.finish.ensures.frames in
    let up : AreUpTo (frame_at mid) c.args.durable c.pages-pages.result.now = subst (λ (at : ℕ → Option Frame). AreUpTo at c.args.durable c.pages-pages.result.now) (sym is)
    (subst (AreUpTo (frame_at pool) c.args.durable) (sym c.pages-pages.ensures) (up_to pool c.args.durable (pages_of c.choose-batch.result) c.choose-batch.ensures.due)) in
    match_err _ c.from_residual-in_err-write.result c.from_residual-in_err-write.ensures.1 (λ fault said. elim (c.in_err-write.ensures.kept front disk c.args.durable (c.in_ok-finish.ensures.kept front disk holds) up) [
      | inl device ↦ inl (said ∙ device)
      | inr w ↦ inr (wrote_from pool mid c.write.new.self c.finish.ensures.geometry is c.args.durable front disk w)
    ])

pub returns-clause-flushed : goal.returns-clause-flushed
returns-clause-flushed g c =
    let pool = c.args.pool.now in
    let mid = c.finish.new.self in
    let is : (k : ℕ) → frame_at mid k ≡ frame_at pool k = λ k. ap (λ (it : Frames). maps.frame_at it k) c.finish.ensures.frames in
    let pages = c.pages-pages.result.now in
    let same = sym c.pages-pages.ensures in
    record {
      pages = pages;
      count_is = refl;
      rise = subst (RiseFrom 0) same c.choose-batch.ensures.rise;
      due = subst (AreDue pool c.args.durable) same c.choose-batch.ensures.due;
      first = subst (AreFirst pool c.args.durable) same c.choose-batch.ensures.first;
      clean = λ k has. c.in_ok-write.ensures.clean k has ∙ ap (option_map settled) (is k);
      others = λ k apart. c.in_ok-write.ensures.others k apart ∙ is k;
      none = λ zero. c.choose-batch.ensures.none (no_pages (pages_of c.choose-batch.result) (ap (λ (l : List ℕ). length l) same ∙ zero));
    }

use Rattle.std.proofs.Common.{◌≡◌, inl, inr, ℕ, List, Option, IfOk, true, refl, sym, ap, subst, ◌∙◌}
use Rattle.shore_pool.specs.Pages.{AreUpTo}
use Rattle.shore_pool.specs.Pools.{amid_of, batch_of, batch_texts_of, device_of, frame_at, geometry_of, history_of}
use Rattle.shore_pool.proofs.Moments.{while_shown, while_still}
use Rattle.shore_pool.proofs.Steps.{wrote_still}
use Rattle.shore_pool.specs.declared.frames.Frames.{Frames}
use Rattle.shore_pool.specs.FrameMaps as maps
use Rattle.shore_pool.specs.declared.amid.Amid.{Amid}
use Rattle.shore_flush.specs.Flushes.{GoesOnFrom}
use Rattle.shore_pool.proofs.Syncs.{once_at_most}
use Rattle.shore_flush.proofs.flush.flush_on.Goals as goal

pub returns-in_ok-place-in-Opened-clause-any_moment : goal.returns-in_ok-place-in-Opened-clause-any_moment
returns-in_ok-place-in-Opened-clause-any_moment g c front disk holds =
    let pool = c.args.pool.now in
    while_shown (geometry_of pool) (frame_at pool) c.args.durable front disk _ _ (c.place.ensures.any_moment front disk holds)

pub returns-in_ok-end-in-Placed-clause-any_moment : goal.returns-in_ok-end-in-Placed-clause-any_moment
returns-in_ok-end-in-Placed-clause-any_moment g c front disk holds =
    let pool = c.args.pool.now in
    while_shown (geometry_of pool) (frame_at pool) c.args.durable front disk _ _ (c.end.ensures.any_moment front disk holds)

pub returns-in_ok-place-in-Opened-clause-kept : goal.returns-in_ok-place-in-Opened-clause-kept
returns-in_ok-place-in-Opened-clause-kept g c front disk holds =
    wrote_still c.args.pool.now c.place.new.self c.args.durable front disk (λ k. ap (λ (it : Frames). maps.frame_at it k) c.place.ensures.frames) (c.in_ok-place-in-Opened.ensures.kept front disk holds)

pub returns-in_ok-end-in-Placed-clause-kept : goal.returns-in_ok-end-in-Placed-clause-kept
returns-in_ok-end-in-Placed-clause-kept g c front disk holds =
    wrote_still c.args.pool.now c.end.new.self c.args.durable front disk (λ k. ap (λ (it : Frames). maps.frame_at it k) c.end.ensures.frames) (c.in_ok-end-in-Placed.ensures.kept front disk holds)

pub returns-in-Rest-clause-goes_on : goal.returns-in-Rest-clause-goes_on
returns-in-Rest-clause-goes_on g c =
    subst (λ (far : Amid). IfOk c.begin_on.result (λ made. GoesOnFrom far c.args.pool.now c.begin_on.new.pool c.args.durable made)) (sym (sym c.amid.ensures ∙ c.in-Rest.is)) c.begin_on.ensures.goes_on

pub returns-in-Written-clause-goes_on : goal.returns-in-Written-clause-goes_on
returns-in-Written-clause-goes_on g c =
    subst (λ (far : Amid). IfOk c.open_on.result (λ made. GoesOnFrom far c.args.pool.now c.open_on.new.pool c.args.durable made)) (sym (sym c.amid.ensures ∙ c.in-Written.is)) c.open_on.ensures.goes_on

pub returns-in_ok-place-in-Opened-clause-goes_on : goal.returns-in_ok-place-in-Opened-clause-goes_on
returns-in_ok-place-in-Opened-clause-goes_on g c =
    subst (λ (far : Amid). GoesOnFrom far c.args.pool.now c.place.new.self c.args.durable true) (sym (sym c.amid.ensures ∙ c.in-Opened.is)) (
      refl,
      record {
        amid = c.in_ok-place-in-Opened.ensures.placed;
        batch = c.place.ensures.batch;
        frames = λ k. ap (λ (it : Frames). maps.frame_at it k) c.place.ensures.frames;
      },
    )

pub returns-in_ok-end-in-Placed-clause-goes_on : goal.returns-in_ok-end-in-Placed-clause-goes_on
returns-in_ok-end-in-Placed-clause-goes_on g c =
    subst (λ (far : Amid). GoesOnFrom far c.args.pool.now c.end.new.self c.args.durable true) (sym (sym c.amid.ensures ∙ c.in-Placed.is)) (
      refl,
      record {
        amid = c.in_ok-end-in-Placed.ensures.ended;
        batch = c.end.ensures.batch;
        frames = λ k. ap (λ (it : Frames). maps.frame_at it k) c.end.ensures.frames;
      },
    )

pub returns-in_ok-place-in-Opened-clause-syncs : goal.returns-in_ok-place-in-Opened-clause-syncs
returns-in_ok-place-in-Opened-clause-syncs g c honest = once_at_most c.place.result (history_of c.args.pool.now) (history_of c.place.new.self) (c.place.ensures.syncs honest)

pub returns-in_ok-end-in-Placed-clause-syncs : goal.returns-in_ok-end-in-Placed-clause-syncs
returns-in_ok-end-in-Placed-clause-syncs g c honest = once_at_most c.end.result (history_of c.args.pool.now) (history_of c.end.new.self) (c.end.ensures.syncs honest)

pub returns-in_err-place-in-Opened-clause-syncs : goal.returns-in_err-place-in-Opened-clause-syncs
returns-in_err-place-in-Opened-clause-syncs g c honest = once_at_most c.place.result (history_of c.args.pool.now) (history_of c.place.new.self) (c.place.ensures.syncs honest)

pub returns-in_err-end-in-Placed-clause-syncs : goal.returns-in_err-end-in-Placed-clause-syncs
returns-in_err-end-in-Placed-clause-syncs g c honest = once_at_most c.end.result (history_of c.args.pool.now) (history_of c.end.new.self) (c.end.ensures.syncs honest)

use Rattle.std.proofs.Common.{◌≡◌, inl, inr, ℕ, List, Option, refl, sym, ap, subst, ◌∙◌}
use Rattle.shore_pool.specs.Pages.{AreUpTo}
use Rattle.shore_pool.specs.Pools.{amid_of, batch_of, batch_texts_of, device_of, frame_at, geometry_of, history_of}
use Rattle.shore_pool.proofs.Moments.{while_shown, while_still}
use Rattle.shore_pool.proofs.Steps.{wrote_still}
use Rattle.shore_pool.proofs.Choices.{cases_contains}
use Rattle.shore_pool.specs.declared.frames.Frames.{Frames}
use Rattle.shore_pool.specs.FrameMaps as maps
use Rattle.shore_pool.proofs.Syncs.{once_at_most}
use Rattle.shore_flush.proofs.flush.open_on.Goals as goal

pub returns-in_err-open-clause-any_moment : goal.returns-in_err-open-clause-any_moment
returns-in_err-open-clause-any_moment g c front disk holds = c.open.ensures.any_moment front disk c.args.durable holds (c.is_up_to.ensures.yes c.if-not-is_up_to.false)

pub returns-clause-any_moment : goal.returns-clause-any_moment
returns-clause-any_moment g c front disk holds = c.open.ensures.any_moment front disk c.args.durable holds (c.is_up_to.ensures.yes c.if-not-is_up_to.false)

pub returns-clause-kept : goal.returns-clause-kept
returns-clause-kept g c front disk holds = c.in_ok-open.ensures.kept front disk c.args.durable holds (c.is_up_to.ensures.yes c.if-not-is_up_to.false)

pub returns-clause-frames : goal.returns-clause-frames
returns-clause-frames g c k = elim (cases_contains (batch_of c.args.pool.now) k) [
  | inl has ↦ inr (c.in_ok-open.ensures.clean k has)
  | inr apart ↦ inl (c.in_ok-open.ensures.others k apart)
]

pub returns-clause-goes_on : goal.returns-clause-goes_on
returns-clause-goes_on g c = (
  refl,
  inl (record {
    amid = c.in_ok-open.ensures.opened;
    batch = c.open.ensures.batch;
    durable_all = c.is_up_to.ensures.yes c.if-not-is_up_to.false;
    clean = c.in_ok-open.ensures.clean;
    others = c.in_ok-open.ensures.others;
  }),
)

pub returns-clause-syncs : goal.returns-clause-syncs
returns-clause-syncs g c honest = once_at_most c.open.result (history_of c.args.pool.now) (history_of c.open.new.self) (c.open.ensures.syncs honest)

pub returns-in_err-open-clause-syncs : goal.returns-in_err-open-clause-syncs
returns-in_err-open-clause-syncs g c honest = once_at_most c.open.result (history_of c.args.pool.now) (history_of c.open.new.self) (c.open.ensures.syncs honest)

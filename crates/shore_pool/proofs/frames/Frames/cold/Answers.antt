use Rattle.std.proofs.Common.{◌≡◌, Option, None, IsSomeAnd, subst}
use Rattle.shore_pool.specs.declared.frame.Frame.{Frame}
use Rattle.shore_pool.proofs.frames.Frames.cold.Goals as goal

pub returns-in-Some-clean_at-clause-same : goal.returns-in-Some-clean_at-clause-same
returns-in-Some-clean_at-clause-same c = c.loop.invariant.0

pub returns-in-Some-clean_at-clause-shape : goal.returns-in-Some-clean_at-clause-shape
returns-in-Some-clean_at-clause-shape c = record { count = c.loop.invariant.1.count; limit = c.loop.invariant.1.limit; pages = c.loop.invariant.1.pages }

pub returns-in-Some-clean_at-clause-clean : goal.returns-in-Some-clean_at-clause-clean
returns-in-Some-clean_at-clause-clean c = subst (λ (o : Option Frame). IsSomeAnd o (λ f. f.recovery ≡ None)) (c.loop.invariant.0 c.in-Some-clean_at.number) c.in-Some-clean_at.ensures.clean

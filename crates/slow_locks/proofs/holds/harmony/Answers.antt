use Rattle.slow_locks.proofs.Harmonies.{harmony_from_apart, apart_from_harmony}
use Rattle.slow_locks.proofs.holds.harmony.Goals as goal

pub returns-then-stand_together : goal.returns-then-stand_together
returns-then-stand_together c = (
  λ apart. harmony_from_apart c.args.held.now (c.stand_together.ensures.0 c.if-stand_together.true) (c.none_interferes.ensures.0 apart),
  λ h. c.none_interferes.ensures.1 (apart_from_harmony c.args.held.now h),
)

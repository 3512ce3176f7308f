use Rattle.std.proofs.Common.{◌≡◌, false, true}
use Rattle.shore_model.specs.Locks.{ancestors}
use Rattle.shore_model.proofs.RecordPaths.{not_head, rest_contained}
use Rattle.slow_locks.proofs.holds.lies_under.Goals as goal

pub returns-else-is_same : goal.returns-else-is_same
returns-else-is_same c =
    let differ : c.is_same.result ≡ false = c.if-is_same.false in (
      λ above. rest_contained _ _ c.args.outer.now (c.is_ancestor.ensures.0 above),
      λ h. c.is_ancestor.ensures.1 (not_head c.args.inner.now (ancestors c.args.inner.now) c.args.outer.now
          (λ e. let same : c.is_same.result ≡ true = c.is_same.ensures.1 e in cc) h),
    )

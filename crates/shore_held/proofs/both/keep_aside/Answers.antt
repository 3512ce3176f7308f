use Rattle.std.proofs.Common.{◌≡◌, ◌∙◌, arith, refl}
use Rattle.shore_check.specs.Stages.{bytes_to_log, records_to_log}
use Rattle.shore_check.specs.declared.stage.Stage.{Stage}
use Rattle.shore_check.specs.declared.stage.Stage.TheVariants as stage
use Rattle.shore_held.proofs.both.keep_aside.Goals as goal

-- no record has no bytes
no_bytes : (s : Stage) → records_to_log s ≡ 0 → bytes_to_log s ≡ 0
no_bytes stage.Resting none = refl
no_bytes (stage.Begun b) none = absurd (omega (arith, none))
no_bytes (stage.Ended e) none = absurd (omega (arith, none))
no_bytes (stage.Named m) none = refl

pub returns-clause-idle : goal.returns-clause-idle
returns-clause-idle g c none = c.keep_aside.ensures.idle (c.records_to_log.ensures.is ∙ none) (c.bytes_to_log.ensures.is ∙ no_bytes _ none)

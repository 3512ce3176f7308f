use Rattle.std.proofs.Common.{rules}
use Rattle.shore_analysis.proofs.KeptSteps.{kept_none}
use Rattle.shore_analysis.proofs.kept_passes.KeptPass.new.Goals as goal

pub returns-clause-knows : goal.returns-clause-knows
returns-clause-knows c g cut = kept_none g cut _ (λ t. search rules) (λ t. search rules) (search rules)

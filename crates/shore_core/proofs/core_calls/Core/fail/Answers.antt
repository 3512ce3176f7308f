use Rattle.std.proofs.Common.{refl}
use Rattle.shore_core.proofs.Taking.{in_failed, over_failed}
use Rattle.shore_core.proofs.core_calls.Core.fail.Goals as goal

pub returns-clause-failed : goal.returns-clause-failed
returns-clause-failed g c front disk before s store is safe over =
    (in_failed c.args.self.now _ front disk before s is.beside refl refl refl refl, over_failed _ disk s store over.kept)

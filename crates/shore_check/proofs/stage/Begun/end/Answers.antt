use Rattle.std.proofs.Common.{◌∷◌, []}
use Rattle.shore_frames.proofs.LoggedLemmas.{AreNumbered-test}
use Rattle.shore_check.proofs.stage.Begun.end.Goals as goal

pub returns-clause-fits : goal.returns-clause-fits
returns-clause-fits c = (AreNumbered-test 1 (c.args.self.end ∷ []) c.args.self.fits).0

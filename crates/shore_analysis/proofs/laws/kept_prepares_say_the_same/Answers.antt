use Rattle.std.proofs.Common.{ap}
use Rattle.std.specs.Prelude.{option_map}
use Rattle.laws_lives.specs.Doubts.{LoggedDoubt}
use Rattle.shore_analysis.proofs.DoubtsLawful.{doubt_kept}
use Rattle.shore_analysis.proofs.laws.kept_prepares_say_the_same.Goals as goal

pub returns : goal.returns
returns c log cut n lt = let same = doubt_kept log cut n lt in (same, ap (option_map (λ (d : LoggedDoubt). (d.global, d.granules))) same)

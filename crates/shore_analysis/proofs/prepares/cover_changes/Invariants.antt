use Rattle.std.proofs.Common.{◌≡◌, ◌<◌, ℕ}
use Rattle.shore_types.specs.declared.layout.Geometry.{Geometry}
use Rattle.shore_model.specs.Logs.{last_of}
use Rattle.shore_analysis.specs.Meant.{AreMeantOf}
use Rattle.shore_analysis.specs.Padded.{padded}
use Rattle.shore_analysis.proofs.Covered.{SeenBack}
use Rattle.shore_analysis.proofs.prepares.cover_changes.Given as goal

abbrev pub invariant-loop : goal.invariant-loop
invariant-loop l = (g : Geometry) (t : ℕ) → AreMeantOf g t (padded l.cut l.before) → 0 < t → l.fn.last ≡ last_of t (padded l.cut l.before) → SeenBack t l.granules (padded l.cut l.before) l.number l.counter

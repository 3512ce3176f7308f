use Rattle.std.proofs.Common.{◌≡◌, ◌<◌, ◌+◌, ℕ, []}
use Rattle.shore_types.specs.declared.layout.Geometry.{Geometry}
use Rattle.shore_model.specs.Logs.{unanswered, undo_next_of}
use Rattle.shore_analysis.specs.Meant.{AreMeantOf}
use Rattle.shore_analysis.specs.Padded.{padded}
use Rattle.shore_analysis.proofs.ChangesLeft.{AreListed}
use Rattle.shore_analysis.proofs.kept_doubts.newest_first.Given as goal

abbrev pub invariant-loop : goal.invariant-loop
invariant-loop l = ((g : Geometry) (t : ℕ) → 0 < t → AreMeantOf g t (padded l.cut l.kept) → l.fn.newest ≡ undo_next_of (unanswered t (padded l.cut l.kept))
    → AreListed t (padded l.cut l.kept) l.numbers.items l.next (l.cut + l.counter))
    × (l.fn.newest ≡ 0 → (l.next ≡ 0) × (l.numbers.items ≡ []))

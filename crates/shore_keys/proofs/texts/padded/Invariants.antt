use Rattle.std.proofs.Common.{◌≡◌, ◌≤◌, ◌++◌, ℕ, List, length}
use Rattle.shore_keys.proofs.texts.padded.Given as goal

abbrev pub invariant-loop-at : goal.invariant-loop-at
invariant-loop-at l = (rest : List ℕ) × (l.long.items ≡ l.fn.text.items ++ rest) × (length rest ≡ l._at) × (l._at ≤ l.more)

use Rattle.std.proofs.Common.{◌<◌, ◌≤◌, ℕ, length, get_or}
use Rattle.shore_cycles.proofs.victims.index_of_greatest.Given as goal

abbrev pub invariant-loop-index : goal.invariant-loop-index
invariant-loop-index l = (l.greatest < length l.txns) × ((k : ℕ) → k < l.index → get_or l.txns k 0 ≤ get_or l.txns l.greatest 0)

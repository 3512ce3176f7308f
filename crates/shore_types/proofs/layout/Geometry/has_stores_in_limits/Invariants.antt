use Rattle.std.proofs.Common.{◌≡◌, ℕ, ◌+◌, ◌<◌, ◌≤◌, List, take, get_or}
use Rattle.std.specs.Prelude.{sum}
use Rattle.shore_types.specs.declared.layout.TheConstants.{MAX_PAGES}
use Rattle.shore_types.proofs.layout.Geometry.has_stores_in_limits.Given as goal

pub record SoFar (stores : List ℕ) (index left : ℕ) : Type 0 where
  pub each : (k : ℕ) → k < index → 1 ≤ get_or stores k 0
  pub together : sum (take index stores) + left ≡ MAX_PAGES

abbrev pub invariant-loop-pages : goal.invariant-loop-pages
invariant-loop-pages l = SoFar l.stores l.pages-index l.left

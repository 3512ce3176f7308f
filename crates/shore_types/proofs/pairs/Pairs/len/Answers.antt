use Rattle.std.proofs.Common.{ℕ, List, ap, length, arith}
use Rattle.shore_types.specs.declared.ids.Rid.{Rid}
use Rattle.shore_types.proofs.PairLemmas.{length_in}
use Rattle.shore_types.proofs.pairs.Pairs.len.Goals as goal

pub returns : goal.returns
returns c = omega (arith, c.len.ensures, length_in c.self.inside.bytes.items 0 c.self.inside.ends.items, ap (λ (l : List (Rid × List ℕ)). length l) c.self.view_is)

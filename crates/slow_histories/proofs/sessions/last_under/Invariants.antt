use Rattle.std.proofs.Common.{◌≡◌, drop}
use Rattle.std.specs.Prelude.{None}
use Rattle.shore_model.specs.Histories.{last_under}
use Rattle.slow_histories.proofs.sessions.last_under.Given as goal

abbrev pub invariant-loop-pair : goal.invariant-loop-pair
invariant-loop-pair l = last_under l.global l.found (drop l.pair-index l.pairs) ≡ last_under l.global None l.pairs

use Rattle.std.proofs.Common.{◌≡◌, drop}
use Rattle.shore_cycles.specs.Reached.{extended}
use Rattle.shore_cycles.proofs.reached.Trail.extend.Given as goal

abbrev pub invariant-loop-txn : goal.invariant-loop-txn
invariant-loop-txn l = extended l.parent (drop l.txn-index l.found) l.self ≡ extended l.parent l.found l.initial.self

use Rattle.std.proofs.Common.{take}
use Rattle.shore_txn.specs.Chains.{AreHeads, buckets_of}
use Rattle.shore_txn.proofs.chains.heads_of.Given as goal

abbrev pub invariant-loop-index : goal.invariant-loop-index
invariant-loop-index l = AreHeads (buckets_of (take l.index l.links)) l.heads.items

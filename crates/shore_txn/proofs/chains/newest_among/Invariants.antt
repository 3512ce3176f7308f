use Rattle.std.proofs.Common.{◌≡◌, ◌≤◌, length, take}
use Rattle.shore_txn.specs.Chains.{buckets_of, newest_in}
use Rattle.shore_txn.proofs.chains.newest_among.Given as goal

abbrev pub invariant-loop-place : goal.invariant-loop-place
invariant-loop-place l = (l.place ≤ length l.links) × (newest_in l.bucket (buckets_of (take l.place l.links)) ≡ newest_in l.bucket (buckets_of l.links))

abbrev pub decreases-loop-place : goal.decreases-loop-place
decreases-loop-place l = l.place

use Rattle.std.proofs.Common.{◌≡◌, ◌+◌, length}
use Rattle.shore_model.specs.Requests.{AreRequests, requests_by}
use Rattle.shore_nodes.specs.Orderly.{IsOrderly}
use Rattle.shore_locks.specs.Grants.{released}
use Rattle.shore_locks.proofs.Tellings.{IsReleasing}
use Rattle.shore_locks.proofs.changes.release.Given as goal

abbrev pub invariant-loop-count : goal.invariant-loop-count
invariant-loop-count l =
    AreRequests l.nodes.requests × (released l.txn l.nodes.requests ≡ released l.txn l.initial.nodes.requests)
    × (l.nodes.limit ≡ l.initial.nodes.limit) × (l.count + length (requests_by l.txn l.nodes.requests) ≡ length (requests_by l.txn l.initial.nodes.requests))
    × (IsOrderly l.initial.nodes.requests → IsReleasing l.txn l.initial.nodes.requests l.initial.let_through l.nodes.requests l.let_through)

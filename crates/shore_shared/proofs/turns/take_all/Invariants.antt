use Rattle.std.proofs.Common.{◌≡◌, ◌≤◌, ◌+◌, length}
use Rattle.shore_shared.proofs.turns.take_all.Given as goal

abbrev pub invariant-loop-count : goal.invariant-loop-count
invariant-loop-count g l = (length l.fn.held.got + l.count ≤ length l.held.got) × (l.held.met ≡ l.fn.held.met) × (l.held.anchors ≡ l.fn.held.anchors) × (l.held.cut ≡ l.fn.held.cut) × (l.held.stable ≡ l.fn.held.stable)
    × (l.held.told ≡ l.fn.held.told) × (l.held.failed ≡ l.fn.held.failed) × (l.held.history ≡ l.fn.held.history)
    × (l.held.staged ≡ l.fn.held.staged) × (l.held.free ≡ l.fn.held.free) × (l.held.faults ≡ l.fn.held.faults) × (l.fn.held.textless ≡ 0 → l.held.textless ≡ 0)

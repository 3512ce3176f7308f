use Rattle.std.proofs.Common.{◌≡◌, ◌≤◌, map, vec_capacity, vec_len}
use Rattle.shore_shared.specs.Told.{AreFresh, shown_by}
use Rattle.shore_shared.proofs.serving.with_sessions.Given as goal

abbrev pub invariant-loop-number : goal.invariant-loop-number
invariant-loop-number g l = (vec_len l.sessions ≡ l.number) × (l.fn.count ≤ vec_capacity l.sessions) × AreFresh 1 (map (λ s. shown_by s.ear s.seat) l.sessions.items)

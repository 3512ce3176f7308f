use Rattle.std.proofs.Common.{◌≡◌, ◌+◌, ◌≤◌, All, IsTrue, sum, map, true, vec_len, length}
use Rattle.shore_words.specs.Words.{heard_of}
use Rattle.shore_held.specs.Trails.{has_failure, noted_in}
use Rattle.shore_shared.proofs.closing.gathered.Given as goal

abbrev pub invariant-loop-session : goal.invariant-loop-session
invariant-loop-session g l = (l.calls.parts + length l.session-iterator.rest.items ≡ vec_len l.fn.sessions)
    × (l.calls.amount + sum (map (λ s. s.share.amount) l.session-iterator.rest.items) ≡ sum (map (λ s. s.share.amount) l.fn.sessions.items))
    × (l.held ≡ l.fn.held)
    × (All (λ s. s.seat.seen ≤ l.fn.held.told) l.session-iterator.rest.items → All (λ s. s.seat.seen ≤ l.fn.held.told) l.fn.sessions.items)
    × (All (λ s. heard_of s.number (noted_in l.fn.core.asked.items l.fn.core.stepped.items) ≡ s.ear.heard) l.session-iterator.rest.items
    → All (λ s. heard_of s.number (noted_in l.fn.core.asked.items l.fn.core.stepped.items) ≡ s.ear.heard) l.fn.sessions.items)
    × (l.core.asked.items ≡ l.fn.core.asked.items) × (l.core.stepped.items ≡ l.fn.core.stepped.items) × (l.core.core ≡ l.fn.core.core) × (l.core.stage ≡ l.fn.core.stage)
    × (l.core.made ≡ l.fn.core.made) × (l.core.rest ≡ l.fn.core.rest) × (l.core.seat ≡ l.fn.core.seat)
    × (All (λ s. s.seat.failed ≡ true → IsTrue (has_failure l.fn.core.asked.items)) l.session-iterator.rest.items
    → All (λ s. s.seat.failed ≡ true → IsTrue (has_failure l.fn.core.asked.items)) l.fn.sessions.items)

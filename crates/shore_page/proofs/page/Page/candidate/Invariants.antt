use Rattle.std.proofs.Common.{◌<◌, ◌≤◌, ℕ}
use Rattle.shore_page.specs.Room.{IsCandidate}
use Rattle.shore_page.proofs.page.Page.candidate.Given as goal

abbrev pub invariant-loop-slot : goal.invariant-loop-slot
invariant-loop-slot l = (other : ℕ) → l.from ≤ other → other < l.slot → IsCandidate l.self.version l.self.slots other l.bytes → ⊥

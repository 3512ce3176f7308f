use Rattle.std.proofs.Common.{◌≢◌, ◌-◌, ◌<◌, ◌≤◌, ℕ, length, get_or, None}
use Rattle.shore_page.proofs.text.PageBytes.full_until.Given as goal

abbrev pub invariant-loop-slot : goal.invariant-loop-slot
invariant-loop-slot l = record {
  from : l.from ≤ l.slot;
  there : l.slot ≤ length l.self.images;
  full : (slot : ℕ) → l.from ≤ slot → slot < l.slot → get_or l.self.images slot None ≢ None;
}

abbrev pub decreases-loop-slot : goal.decreases-loop-slot
decreases-loop-slot l = length l.self.images - l.slot

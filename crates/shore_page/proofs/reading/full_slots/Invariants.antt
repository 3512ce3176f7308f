use Rattle.std.proofs.Common.{◌≢◌, ◌<◌, ℕ}
use Rattle.shore_page.specs.Text.{offset_at}
use Rattle.shore_page.proofs.reading.full_slots.Given as goal

abbrev pub invariant-loop-slot : goal.invariant-loop-slot
invariant-loop-slot l = (slot : ℕ) → slot < l.slot → offset_at l.version l.bytes slot ≢ 0

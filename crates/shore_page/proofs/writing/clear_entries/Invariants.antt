use Rattle.std.proofs.Common.{◌≡◌, ◌<◌, ◌≤◌, ℕ}
use Rattle.shore_page.specs.Text.{table_of, offset_at, length_at}
use Rattle.shore_page.specs.Writing.{KeepsBeside}
use Rattle.shore_page.proofs.writing.clear_entries.Given as goal

abbrev pub invariant-loop-slot : goal.invariant-loop-slot
invariant-loop-slot l = record {
  empty : (slot : ℕ) → l.slots ≤ slot → slot < l.slot → (offset_at l.version l.out slot ≡ 0) × (length_at l.version l.out slot ≡ 0);
  beside : KeepsBeside l.initial.out l.out (table_of l.version l.slot) (table_of l.version l.slots);
}

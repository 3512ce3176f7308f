use Rattle.std.proofs.Common.{◌≡◌, ◌-◌, length}
use Rattle.shore_page.specs.Reading.{marks_of}
use Rattle.shore_page.proofs.SlotsRead.{Checked}
use Rattle.shore_page.proofs.reading.marked_end.Given as goal

abbrev pub invariant-loop-slot : goal.invariant-loop-slot
invariant-loop-slot l = record {
  checked : Checked l.version l.bytes l.slots (marks_of l.marks (l.table - 24)) l.slot l.end;
  words : length l.marks ≡ 256;
}

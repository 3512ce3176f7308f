use Rattle.shore_page.specs.Writing.{KeepsHeader}
use Rattle.shore_page.proofs.SlotsWritten.{Written}
use Rattle.shore_page.proofs.compaction.compact.Given as goal

abbrev pub invariant-loop-slot : goal.invariant-loop-slot
invariant-loop-slot l = record {
  written : Written l.version l.out l.kept l.slots l.slot l.offset;
  header : KeepsHeader l.initial.out l.out;
}

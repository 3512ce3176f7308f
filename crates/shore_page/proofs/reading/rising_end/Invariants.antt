use Rattle.shore_page.proofs.RisingLemmas.{Rising}
use Rattle.shore_page.proofs.reading.rising_end.Given as goal

abbrev pub invariant-loop-slot : goal.invariant-loop-slot
invariant-loop-slot l = record {
  rising : Rising l.version l.bytes l.slots l.slot l.end;
}

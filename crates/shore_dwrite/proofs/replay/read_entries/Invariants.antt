use Rattle.std.proofs.Common.{◌≡◌, ◌-◌}
use Rattle.shore_dwrite.specs.Checks.{page_verdict}
use Rattle.shore_dwrite.proofs.ReadLemmas.{HasRead}
use Rattle.shore_dwrite.proofs.replay.read_entries.Given as goal

abbrev pub invariant-loop-i : goal.invariant-loop-i
invariant-loop-i l = record {
  read : HasRead l.table l.fn.pages l.numbers.items l.i l.low;
  verdict : page_verdict l.fn.pages l.table 0 0 l.fn.count ≡ page_verdict l.fn.pages l.table l.i l.low (l.fn.count - l.i);
}

use Rattle.std.proofs.Common.{◌≡◌, take}
use Rattle.std.specs.Io.KnownBytes.{Appends}
use Rattle.shore_script.specs.Texts.{log_lines}
use Rattle.shore_script.proofs.Printing.{number_after}
use Rattle.shore_script.proofs.render.log_records.Given as goal

abbrev pub invariant-loop-record : goal.invariant-loop-record
invariant-loop-record g l = record {
  number : l.number ≡ number_after l.first l.record-index;
  lines : Appends (g.W.Write.contents l.initial.out) (g.W.Write.contents l.out) (log_lines l.first (take l.record-index l.records));
}

use Rattle.std.proofs.Common.{◌≡◌, ◌+◌, ◌≤◌, ◌++◌, List, length}
use Rattle.shore_model.specs.declared.log_records.LogRecord.{LogRecord}
use Rattle.shore_logrec.specs.Text.{texts}
use Rattle.shore_frames.specs.Frames.{AreNumbered}
use Rattle.shore_frames.proofs.reading.read_group.Given as goal

abbrev pub invariant-loop-rest : goal.invariant-loop-rest
invariant-loop-rest l = record {
  parts : l.bytes ≡ texts l.records.items ++ l.rest;
  numbered : AreNumbered l.number l.records.items;
  next : l.next ≡ l.number + length l.records.items;
  small : l.next + length l.rest ≤ l.number + length l.bytes;
  only : (rs : List LogRecord) → AreNumbered l.number rs → l.bytes ≡ texts rs → (more : List LogRecord) × (rs ≡ l.records.items ++ more) × (l.rest ≡ texts more);
}

abbrev pub decreases-loop-rest : goal.decreases-loop-rest
decreases-loop-rest l = length l.rest

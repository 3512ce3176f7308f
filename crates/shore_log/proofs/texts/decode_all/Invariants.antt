use Rattle.std.proofs.Common.{◌-◌, ◌≡◌, ◌≤◌, List, length}
use Rattle.std.specs.Prelude.{All}
use Rattle.shore_model.specs.declared.log_records.LogRecord.{LogRecord}
use Rattle.shore_logrec.specs.Text.{Fits, texts}
use Rattle.shore_log.proofs.TextLemmas.{IsFront}
use Rattle.shore_log.proofs.texts.decode_all.Given as goal

abbrev pub invariant-loop-at : goal.invariant-loop-at
invariant-loop-at l = record {
  so_far : (rs : List LogRecord) → All Fits rs → l.bytes ≡ texts rs → IsFront rs l.records.items l.at;
  inside : l.at ≤ length l.bytes;
}

abbrev pub decreases-loop-at : goal.decreases-loop-at
decreases-loop-at l = length l.bytes - l.at

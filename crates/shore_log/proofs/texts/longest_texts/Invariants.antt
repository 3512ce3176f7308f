use Rattle.std.proofs.Common.{◌-◌, ◌≡◌, ◌≤◌, List, length}
use Rattle.std.specs.Prelude.{All}
use Rattle.shore_model.specs.declared.log_records.LogRecord.{LogRecord}
use Rattle.shore_logrec.specs.Text.{Fits, texts}
use Rattle.shore_log.proofs.TextLemmas.{IsCounted}
use Rattle.shore_log.proofs.texts.longest_texts.Given as goal

abbrev pub invariant-loop-len : goal.invariant-loop-len
invariant-loop-len l = record {
  counted : (rs : List LogRecord) → All Fits rs → l.bytes ≡ texts rs → IsCounted rs l.count l.len;
  fits : l.len ≤ 65536;
  inside : l.len ≤ length l.bytes;
  few : l.count ≤ l.len;
  end_is : l.end ≡ length l.bytes;
}

abbrev pub decreases-loop-len : goal.decreases-loop-len
decreases-loop-len l = length l.bytes - l.len

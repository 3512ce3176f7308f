use Rattle.std.proofs.Common.{◌≡◌, ◌++◌, take}
use Rattle.shore_logrec.specs.Text.{texts}
use Rattle.shore_log.proofs.texts.encode_all.Given as goal

abbrev pub invariant-loop-record : goal.invariant-loop-record
invariant-loop-record l = l.out.items ≡ l.initial.out.items ++ texts (take l.record-index l.records)

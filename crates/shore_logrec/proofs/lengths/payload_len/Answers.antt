use Rattle.std.proofs.Common.{ap, arith, length}
use Rattle.shore_model.specs.declared.log_records.DirtyPage.{DirtyPage}
use Rattle.shore_model.specs.declared.log_records.LogTxn.{LogTxn}
use Rattle.shore_model.specs.declared.log_records.Payload.{Payload}
use Rattle.std.proofs.Common.{List}
use Rattle.shore_logrec.specs.Text.{payload_text}
use Rattle.shore_logrec.proofs.TextLengths.{length-checkpoint_text}
use Rattle.shore_logrec.proofs.lengths.payload_len.Goals as goal

pub returns-in-CheckpointEnd-clause-len : goal.returns-in-CheckpointEnd-clause-len
returns-in-CheckpointEnd-clause-len c =
    let says = c.in-CheckpointEnd in
    omega (
      arith,
      ap (λ (p : Payload). length (payload_text p)) says.is,
      length-checkpoint_text says.begin says.next says.txns says.dirty,
      c.end_text_len.ensures.len,
      ap (λ (l : List LogTxn). length l) c.as_slice-in-CheckpointEnd.ensures,
      ap (λ (l : List DirtyPage). length l) c.as_slice-in-CheckpointEnd-2.ensures,
    )

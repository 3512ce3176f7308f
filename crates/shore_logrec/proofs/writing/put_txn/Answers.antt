use Rattle.std.proofs.Common.{subst}
use Rattle.shore_model.specs.declared.log_records.LogTxn.{LogTxn}
use Rattle.shore_logrec.specs.Room.{Puts}
use Rattle.shore_logrec.specs.Text.{txn_text}
use Rattle.shore_logrec.proofs.Puttings.{Puts-then, txn_put}
use Rattle.shore_logrec.proofs.writing.put_txn.Goals as goal

pub returns : goal.returns
returns c =
    subst (λ (t : LogTxn). Puts c.args.out.now c.put_u64-5.new.out (txn_text t)) c.entry.view_is
    (txn_put _ c.state_number.result c.state_number.ensures
    (Puts-then (Puts-then (Puts-then (Puts-then (Puts-then c.put_u64.ensures c.put.ensures) c.put_u64-2.ensures) c.put_u64-3.ensures) c.put_u64-4.ensures) c.put_u64-5.ensures))

use Rattle.std.proofs.Common.{◌≡◌, ◌∙◌, ap, get_or, subst, arith}
use Rattle.std.proofs.lemmas.List.Elements.{All-more}
use Rattle.shore_model.specs.declared.log_records.LogTxn.{LogTxn}
use Rattle.shore_logrec.specs.Text.{TxnFits}
use Rattle.shore_check.proofs.tables.txns_fit.Goals as goal

pub loop-entry-preserved : goal.loop-entry-preserved
loop-entry-preserved c =
    let own : c.read-entry.result ≡ get_or c.args.txns.now c.loop-entry.entry-index c.entry-item.result = c.read-entry.ensures ∙ c.entry-item.is in
    let fits : TxnFits c.read-entry.result = record { some = omega (arith, c.requires c.loop-entry.entry-index c.entry-item.result c.loop-entry-test.true, ap (λ (e : LogTxn). e.txn) own); txn = omega arith; first = omega arith; last = omega arith; undo_next = omega arith; prepare = omega arith } in
    All-more TxnFits c.args.txns.now c.loop-entry.entry-index c.entry-item.result c.loop-entry-test.true c.loop-entry.invariant (subst TxnFits own fits)

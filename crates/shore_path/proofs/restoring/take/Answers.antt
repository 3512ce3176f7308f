use Rattle.std.proofs.Common.{sym, ◌∙◌}
use Rattle.std.proofs.lemmas.Result.{err_from_is_err_and}
use Rattle.shore_path.proofs.Restored.{refused, took}
use Rattle.shore_path.proofs.restoring.take.Goals as goal

pub returns-in_err-ask-clause-err : goal.returns-in_err-ask-clause-err
returns-in_err-ask-clause-err c =
    let p = err_from_is_err_and c.from_residual.result c.from_residual.ensures.1 in
    rw (p.1, p.2)
    (refused c.args.txn c.args.granule.now c.args.mode c.args.table.now c.tables_are_orderly.ensures c.requires c.in_err-ask.field-0.0
    (sym c.ask.ensures.answer ∙ c.in_err-ask.was) c.ask.new.table c.ask.ensures.table)

pub returns-clause-ok : goal.returns-clause-ok
returns-clause-ok c =
    took c.args.txn c.args.granule.now c.args.mode c.args.table.now c.tables_are_orderly.ensures c.requires c.in_ok-ask.field-0 (sym c.ask.ensures.answer ∙ c.in_ok-ask.was) c.ask.new.table
    c.ask.ensures.table

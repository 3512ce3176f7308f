use Rattle.std.proofs.Common.{refl}
use Rattle.std.proofs.lemmas.Result.{err_from_is_err_and}
use Rattle.shore_types.specs.declared.locking.Mode.TheVariants.{EX}
use Rattle.shore_path.specs.Walks.{asked_of}
use Rattle.shore_path.proofs.RestoredPaths.{asked_itself, keeps_after, stops_above_whole, stops_after, whole_after}
use Rattle.shore_path.proofs.restoring.restore.Goals as goal

pub returns-in_err-intend_above-clause-err : goal.returns-in_err-intend_above-clause-err
returns-in_err-intend_above-clause-err c =
    let p = err_from_is_err_and c.from_residual.result c.from_residual.ensures.1 in
    rw (p.1, p.2) (stops_above_whole c.args.txn c.args.granule.now c.args.table.now c.intend_above.new.table c.in_err-intend_above.field-0.0 c.in_err-intend_above.ensures.err)

pub returns-clause-ok : goal.returns-clause-ok
returns-clause-ok c =
    whole_after c.args.txn c.args.granule.now c.args.table.now c.intend_above.new.table c.take.new.table c.in_ok-intend_above.ensures.ok c.take.result c.take.ensures.ok

pub returns-clause-err : goal.returns-clause-err
returns-clause-err c =
    stops_after c.args.txn c.args.granule.now c.args.table.now c.intend_above.new.table c.take.new.table c.in_ok-intend_above.ensures.ok c.take.result EX (asked_of c.args.granule.now EX)
    (asked_itself c.args.granule.now) c.take.ensures.err

pub returns-clause-keeps : goal.returns-clause-keeps
returns-clause-keeps c =
    keeps_after c.args.txn c.args.granule.now c.args.table.now c.intend_above.new.table c.take.new.table c.in_ok-intend_above.ensures.ok c.take.result EX refl c.intend_above.ensures.keeps
    c.take.ensures.ok c.take.ensures.err

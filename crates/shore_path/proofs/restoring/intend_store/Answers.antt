use Rattle.std.proofs.Common.{refl}
use Rattle.std.proofs.lemmas.Result.{err_from_is_err_and}
use Rattle.shore_types.specs.declared.locking.Granule.TheVariants.{Store}
use Rattle.shore_types.specs.declared.locking.Mode.TheVariants.{IX}
use Rattle.shore_path.proofs.RestoredPaths.{intention_after, keeps_after, stops_above, stops_after}
use Rattle.shore_path.proofs.restoring.intend_store.Goals as goal

pub returns-in_err-intend_volume-clause-err : goal.returns-in_err-intend_volume-clause-err
returns-in_err-intend_volume-clause-err c =
    let p = err_from_is_err_and c.from_residual.result c.from_residual.ensures.1 in
    rw (p.1, p.2) (stops_above c.args.txn (Store c.args.store) c.args.table.now c.intend_volume.new.table c.in_err-intend_volume.field-0.0 c.in_err-intend_volume.ensures.err)

pub returns-clause-ok : goal.returns-clause-ok
returns-clause-ok c =
    intention_after c.args.txn (Store c.args.store) c.args.table.now c.intend_volume.new.table c.take.new.table c.in_ok-intend_volume.ensures.ok c.take.result c.take.ensures.ok

pub returns-clause-err : goal.returns-clause-err
returns-clause-err c =
    stops_after c.args.txn (Store c.args.store) c.args.table.now c.intend_volume.new.table c.take.new.table c.in_ok-intend_volume.ensures.ok c.take.result IX (λ g. IX) refl c.take.ensures.err

pub returns-clause-keeps : goal.returns-clause-keeps
returns-clause-keeps c =
    keeps_after c.args.txn (Store c.args.store) c.args.table.now c.intend_volume.new.table c.take.new.table c.in_ok-intend_volume.ensures.ok c.take.result IX refl c.intend_volume.ensures.keeps c.take.ensures.ok
    c.take.ensures.err

use Rattle.shore_types.specs.declared.locking.Granule.TheVariants.{Record}
use Rattle.shore_types.specs.declared.locking.Mode.TheVariants.{EX}
use Rattle.shore_path.specs.declared.answers.OnConflict.TheVariants.{Refuse}
use Rattle.shore_path.proofs.Acquiring.{told_done, told_quiet, told_refused}
use Rattle.shore_path.proofs.intending.acquire_in_store.Goals as goal

pub returns-clause-done : goal.returns-clause-done
returns-clause-done c =
    told_done Refuse c.args.txn (Record c.args.id.now) EX c.args.table.now c.walk_in_store.new.table c.walk_in_store.result c.tables_are_orderly.ensures c.requires.quiet c.walk_in_store.ensures

pub returns-clause-quiet : goal.returns-clause-quiet
returns-clause-quiet c =
    told_quiet Refuse c.args.txn (Record c.args.id.now) EX c.args.table.now c.walk_in_store.new.table c.walk_in_store.result c.tables_are_orderly.ensures c.requires.quiet c.walk_in_store.ensures

pub returns-clause-refused : goal.returns-clause-refused
returns-clause-refused c =
    told_refused Refuse c.args.txn (Record c.args.id.now) EX c.args.table.now c.walk_in_store.new.table c.walk_in_store.result c.tables_are_orderly.ensures c.requires.quiet c.walk_in_store.ensures

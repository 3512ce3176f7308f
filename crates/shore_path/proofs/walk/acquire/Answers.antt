use Rattle.shore_path.proofs.Acquiring.{told_done, told_grows, told_none_weaker, told_others, told_quiet, told_refused, told_rooted, told_waiting}
use Rattle.shore_path.proofs.walk.acquire.Goals as goal

pub returns-clause-done : goal.returns-clause-done
returns-clause-done c =
    told_done c.args.on_conflict c.args.txn c.args.target c.args.mode c.args.table.now c.walk.new.table c.walk.result c.tables_are_orderly.ensures c.requires c.walk.ensures

pub returns-clause-waiting : goal.returns-clause-waiting
returns-clause-waiting c =
    told_waiting c.args.on_conflict c.args.txn c.args.target c.args.mode c.args.table.now c.walk.new.table c.walk.result c.tables_are_orderly.ensures c.requires c.walk.ensures

pub returns-clause-quiet : goal.returns-clause-quiet
returns-clause-quiet c =
    told_quiet c.args.on_conflict c.args.txn c.args.target c.args.mode c.args.table.now c.walk.new.table c.walk.result c.tables_are_orderly.ensures c.requires c.walk.ensures

pub returns-clause-refused : goal.returns-clause-refused
returns-clause-refused c =
    told_refused c.args.on_conflict c.args.txn c.args.target c.args.mode c.args.table.now c.walk.new.table c.walk.result c.tables_are_orderly.ensures c.requires c.walk.ensures

pub returns-clause-grows : goal.returns-clause-grows
returns-clause-grows c =
    told_grows c.args.on_conflict c.args.txn c.args.target c.args.mode c.args.table.now c.walk.new.table c.walk.result c.tables_are_orderly.ensures c.requires c.walk.ensures

pub returns-clause-others : goal.returns-clause-others
returns-clause-others c =
    told_others c.args.on_conflict c.args.txn c.args.target c.args.mode c.args.table.now c.walk.new.table c.walk.result c.tables_are_orderly.ensures c.requires c.walk.ensures

pub returns-clause-none_weaker : goal.returns-clause-none_weaker
returns-clause-none_weaker c =
    told_none_weaker c.args.on_conflict c.args.txn c.args.target c.args.mode c.args.table.now c.walk.new.table c.walk.result c.tables_are_orderly.ensures c.requires c.walk.ensures

pub returns-clause-rooted : goal.returns-clause-rooted
returns-clause-rooted c =
    told_rooted c.args.on_conflict c.args.txn c.args.target c.args.mode c.args.table.now c.walk.new.table c.walk.result c.tables_are_orderly.ensures c.requires c.walk.ensures

use Rattle.shore_logrec.proofs.Puttings.{entries_put, entry_put, entry_room, none_put}
use Rattle.shore_logrec.proofs.tables.put_entries.Goals as goal

pub loop-entry-init : goal.loop-entry-init
loop-entry-init g c = none_put g.T.Entry.entry_text c.args.out.now c.args.entries.now

pub put-requires : goal.put-requires
put-requires g c =
    entry_room g.T.Entry.entry_text c.args.entries.now c.loop-entry.entry-index c.loop-entry.invariant c.entry-item.result c.loop-entry-test.true c.entry-item.is
    c.requires

pub loop-entry-preserved : goal.loop-entry-preserved
loop-entry-preserved g c =
    entry_put g.T.Entry.entry_text c.args.entries.now c.loop-entry.entry-index c.loop-entry.invariant c.entry-item.result c.loop-entry-test.true c.entry-item.is c.put.ensures

pub returns : goal.returns
returns g c = entries_put g.T.Entry.entry_text c.args.entries.now c.loop-entry.entry-index c.loop-entry.invariant c.loop-entry-test.false

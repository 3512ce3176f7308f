use Rattle.shore_logrec.proofs.Puttings.{Puts-then, granule_put}
use Rattle.shore_logrec.proofs.writing.put_granule.Goals as goal

pub returns : goal.returns
returns c =
    granule_put c.args.granule.now c.depth.result c.ids.result c.depth.ensures c.ids.ensures (Puts-then c.put.ensures c.put_rid.ensures)

use Rattle.laws_calls.proofs.ToldLater.{opened_told_among}
use Rattle.laws_calls.proofs.settled_refusals.cycles_to_be_told_stood.Goals as goal

pub returns : goal.returns
returns d g o found first last events w cycle opened h m is = opened_told_among g o found first events last opened h w m cycle is

use Rattle.laws_lives.proofs.LifeSteps.{doubts_come_back}
use Rattle.laws_lives.proofs.lives.doubts_return.Goals as goal

pub returns : goal.returns
returns c o s l next f opening h up = doubts_come_back o s f opening l h next up

use Rattle.laws_lives.proofs.ComesThrough.{comes_through}
use Rattle.laws_lives.proofs.recovery.restarts_can_come_through.Goals as goal

pub returns : goal.returns
returns c s k lawful = comes_through s k lawful

use Rattle.shore_sessions.proofs.Alone.{alone_behind}
use Rattle.shore_sessions.proofs.laws.writers_are_alone.Goals as goal

pub returns : goal.returns
returns c o found es s a on_conflict id k m quiet done = alone_behind o found es s k a m quiet on_conflict id done

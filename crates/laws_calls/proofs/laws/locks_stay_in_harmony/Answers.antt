use Rattle.laws_calls.proofs.Rooted.{stay_rooted}
use Rattle.laws_calls.proofs.laws.locks_stay_in_harmony.Goals as goal

pub returns-clause-held : goal.returns-clause-held
returns-clause-held d o found es s k = k.sessions.locks.held

pub returns-clause-rooted : goal.returns-clause-rooted
returns-clause-rooted d o found es s k = stay_rooted o found es s k

pub returns-clause-harmony : goal.returns-clause-harmony
returns-clause-harmony d o found es s k = k.sessions.sound.stand.harmony

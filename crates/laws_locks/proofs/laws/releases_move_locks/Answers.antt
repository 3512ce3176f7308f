use Rattle.laws_locks.proofs.Held.{gone_of, released_moves}
use Rattle.laws_locks.proofs.laws.releases_move_locks.Goals as goal

pub returns-clause-moves : goal.returns-clause-moves
returns-clause-moves c s rs t held orderly rooted below idle = released_moves s rs t held orderly rooted below idle

pub returns-clause-gone : goal.returns-clause-gone
returns-clause-gone c rs t orderly = gone_of rs t orderly

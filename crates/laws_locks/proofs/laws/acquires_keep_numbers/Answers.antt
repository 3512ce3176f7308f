use Rattle.laws_locks.proofs.Held.{numbers_of}
use Rattle.laws_locks.proofs.laws.acquires_keep_numbers.Goals as goal

pub returns : goal.returns
returns c rs new t n below low others = numbers_of rs new t n below low others

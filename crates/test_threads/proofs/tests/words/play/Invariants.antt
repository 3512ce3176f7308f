use Rattle.std.proofs.Common.{◌≡◌, true}
use Rattle.test_threads.proofs.tests.words.play.Given as goal

abbrev pub invariant-loop-round : goal.invariant-loop-round
invariant-loop-round g l = (l.teller.table_id ≡ l.initial.teller.table_id) × (l.teller.me.0.tells ≡ true) × (l.teller.me.0.told ≡ l.round) × (l.reader.table_id ≡ l.initial.reader.table_id)

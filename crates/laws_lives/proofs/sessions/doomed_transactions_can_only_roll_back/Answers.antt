use Rattle.laws_lives.proofs.Doomed.{doomed_left, doomed_to_savepoint, reply_to_doomed, stays_doomed}
use Rattle.laws_lives.proofs.sessions.doomed_transactions_can_only_roll_back.Goals as goal

pub returns-clause-left : goal.returns-clause-left
returns-clause-left c s new a b doom among same = doomed_left s new a b doom among same

pub returns-clause-reply : goal.returns-clause-reply
returns-clause-reply k s new a c reply whole step = reply_to_doomed s new a whole c reply step

pub returns-clause-savepoint : goal.returns-clause-savepoint
returns-clause-savepoint c s new a kept e n whole step = doomed_to_savepoint s new a whole kept e n step

pub returns-clause-stays : goal.returns-clause-stays
returns-clause-stays c o es s new e a b sound k among whole step still same = stays_doomed k (λ t b. sound.below t b) a among whole b same new e step still

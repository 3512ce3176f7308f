use Rattle.laws_room.proofs.Settled.{one_alone, one_decided}
use Rattle.laws_room.proofs.laws.one_transaction_has_no_others.Goals as goal

pub returns-clause-alone : goal.returns-clause-alone
returns-clause-alone c = one_alone

pub returns-clause-decided : goal.returns-clause-decided
returns-clause-decided c v R counts a k = one_decided v R counts a k

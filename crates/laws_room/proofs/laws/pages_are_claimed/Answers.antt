use Rattle.std.proofs.Common.{sym}
use Rattle.laws_room.proofs.Settled.{claims_settled, opens_claimed}
use Rattle.laws_room.proofs.Tables.{page_undos}
use Rattle.laws_room.proofs.laws.pages_are_claimed.Goals as goal

pub returns-clause-alike : goal.returns-clause-alike
returns-clause-alike c R p n = sym (claims_settled R p n)

pub returns-clause-settled : goal.returns-clause-settled
returns-clause-settled c v = opens_claimed v

pub returns-clause-each : goal.returns-clause-each
returns-clause-each c v R undos counts p turns k = page_undos v R undos counts k p turns

use Rattle.shore_analysis.specs.Doubts.{doubts_left}
use Rattle.shore_txn.specs.Transactions.{txns_in}
use Rattle.shore_restart.proofs.DoubtLaws.{prepared_same, reserved_same, undos_same}
use Rattle.shore_restart.proofs.laws.doubts_are_those_of_sessions.Goals as goal

pub returns-clause-undos : goal.returns-clause-undos
returns-clause-undos c log txns back = undos_same log (doubts_left log) (txns_in txns) back

pub returns-clause-prepared : goal.returns-clause-prepared
returns-clause-prepared c log txns back = prepared_same log (doubts_left log) (txns_in txns) back

pub returns-clause-reserved : goal.returns-clause-reserved
returns-clause-reserved c log = reserved_same log (doubts_left log)

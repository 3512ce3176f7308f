use Rattle.shore_txn.specs.Transactions.{txns_in, undos_in}
use Rattle.shore_txn.proofs.ActiveKept.{back_again, claims_back, fit_again, fit_read}
use Rattle.shore_txn.proofs.KeptLemmas.{read_slots}
use Rattle.shore_txn.proofs.laws.claimed_pages_may_go.Goals as goal

pub returns-clause-claims : goal.returns-clause-claims
returns-clause-claims c v = claims_back v (txns_in c.args.table.now)

pub returns-clause-fit : goal.returns-clause-fit
returns-clause-fit c v = fit_read v (txns_in c.args.table.now)

pub returns-clause-read : goal.returns-clause-read
returns-clause-read c R = read_slots R (undos_in c.args.table.now)

pub returns-clause-kept : goal.returns-clause-kept
returns-clause-kept c v R counts p claimed = let ts = txns_in c.args.table.now in (back_again v ts R counts p claimed, fit_again v ts R counts p claimed)

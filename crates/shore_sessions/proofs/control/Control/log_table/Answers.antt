use Rattle.shore_sessions.specs.Controls.{txns_in}
use Rattle.shore_sessions.proofs.Answered.{ok_both}
use Rattle.shore_sessions.proofs.UnendedTxns.{few_listed, table_listed}
use Rattle.shore_sessions.proofs.control.Control.log_table.Goals as goal

pub returns-clause-few : goal.returns-clause-few
returns-clause-few c = ok_both c.log_table.result (λ listed moved rises. few_listed (txns_in c.args.self.now) listed.items moved) c.log_table.ensures.each c.log_table.ensures.rising

pub returns-clause-table : goal.returns-clause-table
returns-clause-table c = ok_both c.log_table.result (λ listed moved rises s was tells. table_listed (txns_in c.args.self.now) s was.txns tells listed.items moved rises) c.log_table.ensures.each c.log_table.ensures.rising

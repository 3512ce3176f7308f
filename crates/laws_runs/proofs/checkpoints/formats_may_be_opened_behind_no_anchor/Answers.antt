use Rattle.std.proofs.Common.{arith}
use Rattle.laws_runs.proofs.FormatsBehind.{format_behind}
use Rattle.laws_runs.proofs.checkpoints.formats_may_be_opened_behind_no_anchor.Goals as goal

pub returns-clause-opened : goal.returns-clause-opened
returns-clause-opened c g ring_bytes least most = format_behind g ring_bytes least most

pub returns-clause-nothing_cut : goal.returns-clause-nothing_cut
returns-clause-nothing_cut c ring_bytes log = omega arith

use Rattle.laws_heaps.proofs.Flushes.{left_amid}
use Rattle.laws_heaps.proofs.LoggedLeft.{left_cut, left_settled}
use Rattle.laws_heaps.proofs.logged.crashes_leave_pages.Goals as goal

pub returns-clause-amid : goal.returns-clause-amid
returns-clause-amid g c = left_amid

pub returns-clause-settled : goal.returns-clause-settled
returns-clause-settled g c = left_settled

pub returns-clause-cut : goal.returns-clause-cut
returns-clause-cut g c = left_cut

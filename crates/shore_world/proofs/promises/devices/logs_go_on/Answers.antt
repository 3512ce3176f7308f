use Rattle.shore_world.proofs.KeptOn.{cut_by, cut_rises, kept_on}
use Rattle.shore_world.proofs.promises.devices.logs_go_on.Goals as goal

pub returns-clause-kept : goal.returns-clause-kept
returns-clause-kept c d w new o es ws e step k served one = (cut_rises w o es ws k e step new served one, kept_on w o es ws k e step new served one)

pub returns-clause-cut : goal.returns-clause-cut
returns-clause-cut c d w new o es ws e step k served one = cut_by w o es ws k e step new served one

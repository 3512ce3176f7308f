use Rattle.std.proofs.Common.{subst}
use Rattle.shore_script.specs.Reading.{Reads}
use Rattle.shore_script.specs.Bytes.{IsPairs}
use Rattle.shore_script.proofs.Spaceless.{prepare_spells}
use Rattle.shore_script.proofs.command.prepare_of.Goals as goal

pub returns-in-None-clause-asks : goal.returns-in-None-clause-asks
returns-in-None-clause-asks c = prepare_spells c.args.global.now (subst (Reads (IsPairs c.args.global.now)) c.in-None.is c.in_ok-global.ensures)

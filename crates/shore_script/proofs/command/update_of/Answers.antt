use Rattle.std.proofs.Common.{subst}
use Rattle.shore_script.specs.Reading.{Reads}
use Rattle.shore_script.specs.Bytes.{SpellsBytes}
use Rattle.shore_script.proofs.Spaceless.{update_spells}
use Rattle.shore_script.proofs.command.update_of.Goals as goal

pub returns-in-None-clause-asks : goal.returns-in-None-clause-asks
returns-in-None-clause-asks c = update_spells c.args.id.now c.args.bytes.now (subst (Reads (SpellsBytes c.args.bytes.now)) c.in-None.is c.in_ok-bytes.ensures)

use Rattle.std.proofs.Common.{subst}
use Rattle.shore_script.specs.Reading.{Reads}
use Rattle.shore_script.specs.Bytes.{SpellsBytes}
use Rattle.shore_script.proofs.Spaceless.{insert_spells}
use Rattle.shore_script.proofs.command.insert_of.Goals as goal

pub returns-in-None-clause-asks : goal.returns-in-None-clause-asks
returns-in-None-clause-asks c = insert_spells c.args.store.now c.args.bytes.now (subst (Reads (SpellsBytes c.args.bytes.now)) c.in-None.is c.in_ok-bytes.ensures)

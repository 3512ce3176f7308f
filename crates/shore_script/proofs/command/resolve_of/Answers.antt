use Rattle.std.proofs.Common.{subst}
use Rattle.shore_script.specs.Reading.{Reads}
use Rattle.shore_script.specs.Bytes.{IsPairs}
use Rattle.shore_script.proofs.Spaceless.{resolve_spells}
use Rattle.shore_script.proofs.command.resolve_of.Goals as goal

pub returns-in-None-clause-asks : goal.returns-in-None-clause-asks
returns-in-None-clause-asks c =
    let none = subst (Reads (IsPairs c.args.global.now)) c.in-None.is c.in_ok-global.ensures in
    resolve_spells c.args.global.now c.args.outcome.now (λ bytes o h k. none bytes h)

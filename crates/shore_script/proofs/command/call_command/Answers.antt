use Rattle.std.proofs.Common.{subst}
use Rattle.shore_script.specs.Lines.{InWords}
use Rattle.shore_script.specs.Reading.{Reads}
use Rattle.shore_script.specs.Words.{AskCall}
use Rattle.shore_script.proofs.command.call_command.Goals as goal

pub returns-in-None-clause-asks : goal.returns-in-None-clause-asks
returns-in-None-clause-asks c = λ x h. (subst (Reads (InWords AskCall c.args.text.now)) c.in-None.is c.in_ok-call.ensures.asks) h.0 h.2

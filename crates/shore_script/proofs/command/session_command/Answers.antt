use Rattle.shore_script.specs.Lines.{AsksIn, IsCallOf}
use Rattle.shore_script.specs.Reading.{Reads}
use Rattle.shore_script.proofs.Splits.{call_asks, on_ok}
use Rattle.shore_script.proofs.command.session_command.Goals as goal

pub returns-in_default-clause-asks : goal.returns-in_default-clause-asks
returns-in_default-clause-asks c =
    let text = c.args.text.now in
    let session = c.args.session in
    on_ok (Reads (IsCallOf text session)) (Reads (AsksIn text session)) (call_asks text session c.in_default.not-lazy c.in_default.not-giveup) c.call_command.result c.call_command.ensures.asks

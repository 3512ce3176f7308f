use Rattle.shore_script.specs.Reading.{Reads}
use Rattle.shore_script.specs.Lines.{IsLineOf, TextAsks}
use Rattle.shore_script.proofs.Splits.{on_ok, line_reads}
use Rattle.shore_script.proofs.command.read_line.Goals as goal

pub returns-in-Ok-clause-asks : goal.returns-in-Ok-clause-asks
returns-in-Ok-clause-asks c =
    let line = c.args.line.now in
    let text = c.in-Ok.ensures.cases in
    let asks = c.parse.ensures.asks in
    on_ok (Reads (TextAsks line)) (Reads (IsLineOf line)) (line_reads line c.if-line-gt-MAX_LINE_BYTES.false text.1) c.parse.result (rw text.0 at asks)

use Rattle.std.proofs.Common.{arith}
use Rattle.shore_script.specs.Reading.{Reads}
use Rattle.shore_script.specs.Lines.{InWords}
use Rattle.shore_script.specs.Words.{AskCall}
use Rattle.shore_script.proofs.Cuts.{lacks_at, cuts_at}
use Rattle.shore_script.proofs.Spaceless.{AskCall-spaceless}
use Rattle.shore_script.proofs.Splits.{on_ok, three_of_call, two_words}
use Rattle.shore_script.proofs.command.call_of.Goals as goal

pub returns-in-Some-split_once-clause-asks : goal.returns-in-Some-split_once-clause-asks
returns-in-Some-split_once-clause-asks c =
    let text = c.args.text.now in
    let parts = c.in-Some in
    let more = c.in-Some-split_once in
    let cut = cuts_at 32 text c.split_once.result c.split_once.ensures.cases (omega arith) parts.word parts.rest parts.is in
    let again = cuts_at 32 parts.rest.now c.split_once-in-Some.result c.split_once-in-Some.ensures.cases (omega arith) more.first more.second more.is in
    on_ok _ (Reads (InWords AskCall text))
    (three_of_call text parts.word.now parts.rest.now more.first.now more.second.now cut.0 cut.1 again.0 again.1)
    c.call_with_two.result c.call_with_two.ensures.asks

pub returns-in-None-split_once-clause-asks : goal.returns-in-None-split_once-clause-asks
returns-in-None-split_once-clause-asks c =
    let text = c.args.text.now in
    let parts = c.in-Some in
    let cut = cuts_at 32 text c.split_once.result c.split_once.ensures.cases (omega arith) parts.word parts.rest parts.is in
    let lacks = lacks_at 32 parts.rest.now c.split_once-in-Some.result c.split_once-in-Some.ensures.cases (omega arith) c.in-None-split_once.is in
    on_ok _ (Reads (InWords AskCall text)) (two_words AskCall (λ words x h. (AskCall-spaceless words x h).first) (λ words x h. (AskCall-spaceless words x h).second) text parts.word.now parts.rest.now cut.0 cut.1 lacks)
    c.call_with_a_word.result c.call_with_a_word.ensures.asks

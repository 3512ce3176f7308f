use Rattle.std.proofs.Common.{arith}
use Rattle.shore_script.proofs.Cuts.{cuts_at, lacks_at}
use Rattle.shore_script.proofs.Splits.{four_of_plain, three_of_plain, two_of_plain}
use Rattle.shore_script.proofs.command.plain_command.Goals as goal

pub returns-in-Some-split_once-2-clause-asks : goal.returns-in-Some-split_once-2-clause-asks
returns-in-Some-split_once-2-clause-asks c =
    let text = c.args.text.now in
    let parts = c.in-Some in
    let more = c.in-Some-split_once in
    let last = c.in-Some-split_once-2 in
    let cut = cuts_at 32 text c.split_once.result c.split_once.ensures.cases (omega arith) parts.word parts.rest parts.is in
    let again = cuts_at 32 parts.rest.now c.split_once-in-Some.result c.split_once-in-Some.ensures.cases (omega arith) more.first more.others more.is in
    let third = cuts_at 32 more.others.now c.split_once-in-Some-split_once.result c.split_once-in-Some-split_once.ensures.cases (omega arith) last.second last.third last.is in
    four_of_plain text parts.word.now parts.rest.now more.first.now more.others.now last.second.now last.third.now cut.0 cut.1 again.0 again.1 third.0 third.1
    c.command_with_three.result c.command_with_three.ensures.asks

pub returns-in-None-split_once-2-clause-asks : goal.returns-in-None-split_once-2-clause-asks
returns-in-None-split_once-2-clause-asks c =
    let text = c.args.text.now in
    let parts = c.in-Some in
    let more = c.in-Some-split_once in
    let cut = cuts_at 32 text c.split_once.result c.split_once.ensures.cases (omega arith) parts.word parts.rest parts.is in
    let again = cuts_at 32 parts.rest.now c.split_once-in-Some.result c.split_once-in-Some.ensures.cases (omega arith) more.first more.others more.is in
    let lacks = lacks_at 32 more.others.now c.split_once-in-Some-split_once.result c.split_once-in-Some-split_once.ensures.cases (omega arith) c.in-None-split_once-2.is in
    three_of_plain text parts.word.now parts.rest.now more.first.now more.others.now cut.0 cut.1 again.0 again.1 lacks c.command_with_two.result c.command_with_two.ensures.asks

pub returns-in-None-split_once-clause-asks : goal.returns-in-None-split_once-clause-asks
returns-in-None-split_once-clause-asks c =
    let text = c.args.text.now in
    let parts = c.in-Some in
    let cut = cuts_at 32 text c.split_once.result c.split_once.ensures.cases (omega arith) parts.word parts.rest parts.is in
    let lacks = lacks_at 32 parts.rest.now c.split_once-in-Some.result c.split_once-in-Some.ensures.cases (omega arith) c.in-None-split_once.is in
    two_of_plain text parts.word.now parts.rest.now cut.0 cut.1 lacks c.command_with_one.result c.command_with_one.ensures.asks

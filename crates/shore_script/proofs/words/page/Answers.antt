use Rattle.std.proofs.Common.{arith}
use Rattle.shore_script.proofs.Cuts.{lacks_at, cuts_at}
use Rattle.shore_script.proofs.Names.{page_needs_a_dot, page_reads}
use Rattle.shore_script.proofs.words.page.Goals as goal

pub returns-in_err-store_word : goal.returns-in_err-store_word
returns-in_err-store_word c =
    let word = c.args.word.now in
    let lacks = lacks_at 46 word c.split_once.result c.split_once.ensures.cases (omega arith) c.in_err-store_word.was in
    rw c.from_residual.ensures (page_needs_a_dot word lacks)

pub returns : goal.returns
returns c =
    let word = c.args.word.now in
    let parts = c.in_ok-store_word in
    let cut = cuts_at 46 word c.split_once.result c.split_once.ensures.cases (omega arith) parts.store_word parts.page_word parts.was in
    page_reads word parts.store_word.now parts.page_word.now cut.0 cut.1 c.page_of.result c.page_of.ensures

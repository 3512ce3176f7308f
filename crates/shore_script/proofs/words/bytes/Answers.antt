use Rattle.std.proofs.Common.{rules, tests, ◌≢◌, codes, arith}
use Rattle.shore_script.specs.Reading.{Reads}
use Rattle.shore_script.specs.Bytes.{SpellsBytes}
use Rattle.shore_script.proofs.Cuts.{lacks_at, cuts_at}
use Rattle.shore_script.proofs.Splits.{on_ok}
use Rattle.shore_script.proofs.Starred.{starred_reads, plain_reads}
use Rattle.shore_script.proofs.words.bytes.Goals as goal

pub returns-in-Some : goal.returns-in-Some
returns-in-Some c =
    let word = c.args.word.now in
    let parts = c.in-Some in
    let some : word ≢ codes "-" = λ e. search (rules, tests, e) in
    let cut = cuts_at 42 word c.split_once.result c.split_once.ensures.cases (omega arith) parts.pair parts.count parts.is in
    on_ok _ (Reads (SpellsBytes word)) (starred_reads word parts.pair.now parts.count.now cut.0 cut.1 some) c.copies.result c.copies.ensures

pub returns-in-None : goal.returns-in-None
returns-in-None c =
    let word = c.args.word.now in
    let some : word ≢ codes "-" = λ e. search (rules, tests, e) in
    let lacks = lacks_at 42 word c.split_once.result c.split_once.ensures.cases (omega arith) c.in-None.is in
    on_ok _ (Reads (SpellsBytes word)) (plain_reads word lacks some) c.pairs.result c.pairs.ensures

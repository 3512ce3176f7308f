use Rattle.std.proofs.Common.{ℕ, ap, subst}
use Rattle.shore_analysis.specs.declared.analysis.NotAnalysed.{NotAnalysed}
use Rattle.shore_analysis.specs.declared.analysis.NotAnalysed.TheVariants.{Memory, Unlawful}
use Rattle.shore_analysis.specs.AnchoredMeant.{IsFirstUnmeantAnchored}
use Rattle.shore_analysis.specs.KeptPasses.{IsFirstOf}
use Rattle.shore_analysis.proofs.AnchoredFirsts.{all_anchored, first_unmeant, none_first}
use Rattle.shore_analysis.proofs.KeptFirsts.{every_ok, no_unlawful, told_known, told_none, told_some}
use Rattle.shore_analysis.proofs.kept_analysis.analyse_kept.Goals as goal

abbrev number_in : NotAnalysed → ℕ
number_in Memory = 0
number_in (Unlawful n) = n

pub judge-requires-clause-knows : goal.judge-requires-clause-knows
judge-requires-clause-knows c = c.new-pass.ensures.knows c.args.geometry.now c.args.cut

pub returns-in-Some-clause-unlawful : goal.returns-in-Some-clause-unlawful
returns-in-Some-clause-unlawful c n is =
    let g = c.args.geometry.now in
    let cut = c.args.cut in
    let kept = c.args.kept.now in
    let told = c.in_ok-refused.ensures in
    let numbers = c.first_awaited-awaited.ensures in
    let refused = c.in_ok-refused.refused in
    let awaited = c.first_awaited-awaited.result in
    let unmeant = c.first_of-unmeant.result in
    let unended = c.unended_end-unended.result in
    subst (IsFirstUnmeantAnchored g cut c.args.checkpoint kept) (ap number_in is)
    (first_unmeant g cut c.args.checkpoint kept unmeant unended
    (told_none g cut kept c.judge.new.pass told.ends refused awaited told.all told.first told.awaited numbers.none numbers.some numbers.first unmeant c.first_of-unmeant.ensures)
    (told_some g cut kept c.judge.new.pass told.ends refused awaited told.all told.first told.awaited numbers.none numbers.some numbers.first unmeant c.first_of-unmeant.ensures)
    c.unended_end-unended.ensures.none c.unended_end-unended.ensures.some c.in-Some.number (subst (IsFirstOf unmeant unended) c.in-Some.is c.first_of.ensures))

pub returns-clause-meant : goal.returns-clause-meant
returns-clause-meant c =
    let told = c.in_ok-refused.ensures in
    let numbers = c.first_awaited-awaited.ensures in
    let unmeant = c.first_of-unmeant.result in
    let unended = c.unended_end-unended.result in
    every_ok c.tables_of.result
    (none_first unmeant unended
    (told_none c.args.geometry.now c.args.cut c.args.kept.now c.judge.new.pass told.ends c.in_ok-refused.refused c.first_awaited-awaited.result told.all told.first told.awaited numbers.none numbers.some numbers.first unmeant c.first_of-unmeant.ensures)
    (subst (IsFirstOf unmeant unended) c.in-None.is c.first_of.ensures))

pub returns-clause-tables : goal.returns-clause-tables
returns-clause-tables c =
    let told = c.in_ok-refused.ensures in
    let numbers = c.first_awaited-awaited.ensures in
    let g = c.args.geometry.now in
    let cut = c.args.cut in
    let kept = c.args.kept.now in
    let refused = c.in_ok-refused.refused in
    let awaited = c.first_awaited-awaited.result in
    let unmeant = c.first_of-unmeant.result in
    let unended = c.unended_end-unended.result in
    let none = subst (IsFirstOf unmeant unended) c.in-None.is c.first_of.ensures in
    c.tables_of.ensures.tables g cut
    (none_first unmeant unended
    (told_known g cut kept c.judge.new.pass told.ends refused awaited told.all told.first told.awaited numbers.none numbers.some numbers.first unmeant c.first_of-unmeant.ensures)
    none)
    (none_first unmeant unended
    (told_none g cut kept c.judge.new.pass told.ends refused awaited told.all told.first told.awaited numbers.none numbers.some numbers.first unmeant c.first_of-unmeant.ensures)
    none)

pub returns-clause-anchored : goal.returns-clause-anchored
returns-clause-anchored c =
    let told = c.in_ok-refused.ensures in
    let numbers = c.first_awaited-awaited.ensures in
    let unmeant = c.first_of-unmeant.result in
    let unended = c.unended_end-unended.result in
    every_ok c.tables_of.result
    (all_anchored c.args.geometry.now c.args.cut c.args.checkpoint c.args.kept.now unmeant unended
    (told_none c.args.geometry.now c.args.cut c.args.kept.now c.judge.new.pass told.ends c.in_ok-refused.refused c.first_awaited-awaited.result told.all told.first told.awaited numbers.none numbers.some numbers.first unmeant c.first_of-unmeant.ensures)
    c.unended_end-unended.ensures.none (subst (IsFirstOf unmeant unended) c.in-None.is c.first_of.ensures))

pub returns-clause-unlawful : goal.returns-clause-unlawful
returns-clause-unlawful c = no_unlawful (IsFirstUnmeantAnchored c.args.geometry.now c.args.cut c.args.checkpoint c.args.kept.now) c.tables_of.result c.tables_of.ensures.memory

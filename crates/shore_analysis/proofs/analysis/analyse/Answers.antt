use Rattle.std.proofs.Common.{◌≡◌, ◌<◌, ℕ, Some, length, take, take_all, sym, ap, subst, refl, arith}
use Rattle.std.specs.Prelude.{slice_get}
use Rattle.std.proofs.lemmas.Option.{slice_get_read}
use Rattle.laws_lives.proofs.Redo.{take_next}
use Rattle.shore_analysis.specs.declared.analysis.NotAnalysed.{NotAnalysed}
use Rattle.shore_analysis.specs.declared.analysis.NotAnalysed.TheVariants.{Memory, Unlawful}
use Rattle.shore_analysis.specs.Meant.{AreMeant, MayBeNext}
use Rattle.shore_analysis.specs.Passes.{Knows}
use Rattle.shore_analysis.proofs.MeantLogs.{AreMeant-push, first_unmeant}
use Rattle.shore_analysis.proofs.analysis.analyse.Goals as goal

abbrev number_in : NotAnalysed → ℕ
number_in Memory = 0
number_in (Unlawful n) = n

pub returns-then-not-branch-clause-unlawful : goal.returns-then-not-branch-clause-unlawful
returns-then-not-branch-clause-unlawful c n is =
    let rs = c.args.records.now in
    let i = c.loop-index.index in
    let within : i < length rs = omega arith in
    let r = c.index-records-index.result in
    let at : slice_get rs i ≡ Some r = slice_get_read rs (length rs) i r refl within c.index-records-index.is in
    first_unmeant c.args.geometry.now rs i r at c.loop-index.invariant.1 (λ goes. let yes = c.in_ok-goes_on.ensures.test.1 goes in let off = c.if-not-branch.true in cc) n (ap number_in is)

pub loop-index-preserved : goal.loop-index-preserved
loop-index-preserved c =
    let g = c.args.geometry.now in
    let rs = c.args.records.now in
    let i = c.loop-index.index in
    let within : i < length rs = omega arith in
    let r = c.index-records-index.result in
    let at : slice_get rs i ≡ Some r = slice_get_read rs (length rs) i r refl within c.index-records-index.is in
    let goes : MayBeNext g (take i rs) r = c.in_ok-goes_on.ensures.test.0 c.if-not-branch.false in
    let next = sym (take_next rs i r at) in (
      subst (λ xs. Knows xs c.goes_on.new.self) next (c.in_ok-goes_on.ensures.knows c.if-not-branch.false),
      subst (AreMeant g) next (AreMeant-push g (take i rs) r c.loop-index.invariant.1 goes),
    )

pub returns-clause-meant : goal.returns-clause-meant
returns-clause-meant c =
    let rs = c.args.records.now in
    subst (AreMeant c.args.geometry.now) (take_all c.loop-index.index rs (omega arith)) c.loop-index.invariant.1

pub returns-clause-tables : goal.returns-clause-tables
returns-clause-tables c =
    let rs = c.args.records.now in
    let whole = take_all c.loop-index.index rs (omega arith) in
    c.in_ok-into_tables.ensures c.args.geometry.now rs (subst (λ xs. Knows xs c.loop-index.pass) whole c.loop-index.invariant.0) (subst (AreMeant c.args.geometry.now) whole c.loop-index.invariant.1)

use Rattle.std.proofs.Common.{◌≡◌, ◌++◌, ◌<◌, Some, length, take_all, refl, subst, arith}
use Rattle.std.specs.Prelude.{slice_get}
use Rattle.std.proofs.lemmas.Option.{slice_get_read}
use Rattle.shore_analysis.specs.KeptPasses.{KnowsEnds}
use Rattle.shore_analysis.proofs.KeptSteps.{ends_more}
use Rattle.shore_analysis.proofs.kept_passes.KeptPass.note_rest.Goals as goal

pub loop-logged-preserved : goal.loop-logged-preserved
loop-logged-preserved c =
    let rest = c.args.rest.now in
    let i = c.loop-logged.logged-index in
    let r = c.logged-item.result in
    let within : i < length rest = omega arith in
    let at : slice_get rest i ≡ Some r = slice_get_read rest (length rest) i r refl within c.logged-item.is in
    let done = c.in_ok-note_kept.ensures in (
      λ cut before ends.
          let known = c.loop-logged.invariant.0 cut before ends in
          ends_more cut before rest i r at 1 c.loop-logged.self _ known done.running done.over (done.nobody known.nobody),
      c.loop-logged.invariant.1,
    )

pub returns-clause-ends : goal.returns-clause-ends
returns-clause-ends c cut before ends =
    let rest = c.args.rest.now in
    let i = c.loop-logged.logged-index in
    subst (λ xs. KnowsEnds cut (before ++ xs) c.loop-logged.self) (take_all i rest (omega arith)) (c.loop-logged.invariant.0 cut before ends)

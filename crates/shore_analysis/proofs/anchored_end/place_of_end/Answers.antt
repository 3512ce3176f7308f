use Rattle.std.proofs.Common.{◌≡◌, ◌<◌, Some, length, take_all, refl, sym, ap, subst, ◌∙◌, arith}
use Rattle.std.specs.Prelude.{IsSomeAnd, slice_get}
use Rattle.std.proofs.lemmas.Option.{slice_get_read}
use Rattle.laws_checkpoints.specs.Checkpoints.{Checkpoint, end_among, end_in}
use Rattle.shore_analysis.specs.AnchoredMeant.{IsAnchoredEnd}
use Rattle.shore_analysis.proofs.KeptFound.{end_of, passed}
use Rattle.shore_analysis.proofs.anchored_end.place_of_end.Goals as goal

pub loop-index-preserved : goal.loop-index-preserved
loop-index-preserved c =
    let kept = c.args.kept.now in
    let i = c.loop-index.index in
    let within : i < length kept = omega arith in
    let r = c.index-kept-index.result in
    let at : slice_get kept i ≡ Some r = slice_get_read kept (length kept) i r refl within c.index-kept-index.is in
    passed c.args.checkpoint kept i r at (sym c.is_end_of.ensures ∙ c.if-is_end_of.false) c.loop-index.invariant

pub returns-then-is_end_of-clause-some : goal.returns-then-is_end_of-clause-some
returns-then-is_end_of-clause-some c =
    let kept = c.args.kept.now in
    let i = c.loop-index.index in
    let within : i < length kept = omega arith in
    let r = c.index-kept-index.result in
    let at : slice_get kept i ≡ Some r = slice_get_read kept (length kept) i r refl within c.index-kept-index.is in
    let one = end_of (end_in c.args.checkpoint r.payload) (sym c.is_end_of.ensures ∙ c.if-is_end_of.true) in
    subst (λ o. IsSomeAnd o (λ x. (e : Checkpoint) × IsAnchoredEnd c.args.checkpoint kept i x e)) (sym at) (one.0, record { its = one.1; first = c.loop-index.invariant })

pub returns-clause-none : goal.returns-clause-none
returns-clause-none c =
    let kept = c.args.kept.now in
    let i = c.loop-index.index in
    ap (end_among c.args.checkpoint) (sym (take_all i kept (omega arith))) ∙ c.loop-index.invariant

use Rattle.std.proofs.Common.{◌≡◌, Some, length, refl, sym, ap, ◌∙◌}
use Rattle.std.specs.Prelude.{slice_get}
use Rattle.std.proofs.lemmas.Option.{slice_get_read}
use Rattle.laws_checkpoints.specs.Checkpoints.{Checkpoint}
use Rattle.shore_analysis.specs.AnchoredMeant.{IsAnchoredEnd}
use Rattle.shore_analysis.specs.KeptTables.{next_told, redo_table}
use Rattle.shore_analysis.proofs.KeptFound.{at_read, found, if_ok}
use Rattle.shore_analysis.proofs.kept_analysis.told_by_end.Goals as goal

pub returns-clause-redo : goal.returns-clause-redo
returns-clause-redo c =
    let kept = c.args.kept.now in
    let i = c.in-Some.index in
    let q = c.index-kept-index.result in
    let here : slice_get kept i ≡ Some q = slice_get_read kept (length kept) i q refl c.in-Some.ensures.within c.index-kept-index.is in
    let its = at_read (λ x. (d : Checkpoint) × IsAnchoredEnd c.args.checkpoint kept i x d) kept i q here c.in-Some.ensures.some in
    if_ok c.told_by.result (λ told h. (h c.args.checkpoint its.0 its.1.its).0 ∙ ap redo_table (sym (found c.args.checkpoint kept i q its.0 here its.1))) c.told_by.ensures

pub returns-clause-next : goal.returns-clause-next
returns-clause-next c =
    let kept = c.args.kept.now in
    let i = c.in-Some.index in
    let q = c.index-kept-index.result in
    let here : slice_get kept i ≡ Some q = slice_get_read kept (length kept) i q refl c.in-Some.ensures.within c.index-kept-index.is in
    let its = at_read (λ x. (d : Checkpoint) × IsAnchoredEnd c.args.checkpoint kept i x d) kept i q here c.in-Some.ensures.some in
    if_ok c.told_by.result (λ told h. (h c.args.checkpoint its.0 its.1.its).1 ∙ ap next_told (sym (found c.args.checkpoint kept i q its.0 here its.1))) c.told_by.ensures

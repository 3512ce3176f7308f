use Rattle.std.proofs.Common.{◌≡◌, not, sym, ap, subst, ◌∙◌}
use Rattle.std.specs.Prelude.{◌↔◌, IsTrue}
use Rattle.std.proofs.lemmas.Bool.{eqb-true, eq-eqb}
use Rattle.shore_model.specs.Logs.{LieUnder, MayEnd, undo_next_of}
use Rattle.shore_analysis.specs.declared.progress.Progress.{Progress}
use Rattle.shore_analysis.specs.Meant.{AreGranules, Means}
use Rattle.shore_analysis.specs.Padded.{padded}
use Rattle.shore_analysis.specs.Passes.{is_doubtful, is_free}
use Rattle.shore_analysis.proofs.Progresses.{free_told, nothing_next, told, undoable_told}
use Rattle.shore_analysis.proofs.passes.means.Goals as goal

pub returns-then-not-is_doubtful : goal.returns-then-not-is_doubtful
returns-then-not-is_doubtful c t some meant is =
    let before = padded c.args.cut c.args.before.now in
    let p = c.args.progress.now in
    let tells = told t before p is in
    let says = ap (Means c.args.geometry.now before t) c.in-End.is in
    let n = c.progress.inside.0.1.0.0 in
    let newest : n ≡ p.newest = ap (λ (q : Progress). q.newest) c.progress.view_is in
    let doubtful = ap (λ (q : Progress). is_doubtful q.phase) (sym c.progress.view_is) ∙ sym c.is_doubtful.ensures ∙ c.if-not-is_doubtful.true in
    let undoable = sym (undoable_told t before p tells) ∙ ap not doubtful in (
      λ h. subst (λ P. P) (sym says) (undoable, nothing_next t before p tells (sym newest ∙ eqb-true n 0 h)),
      λ m.
          let may : MayEnd before t = subst (λ P. P) says m in
          eq-eqb n 0 (newest ∙ tells.newest ∙ ap undo_next_of may.1),
    )

pub returns-then-is_free-2 : goal.returns-then-is_free-2
returns-then-is_free-2 c t some meant is =
    let g = c.args.geometry.now in
    let before = padded c.args.cut c.args.before.now in
    let p = c.args.progress.now in
    let tells = told t before p is in
    let says = ap (Means g before t) c.in-Prepare.is in
    let free = sym (free_told t before p tells) ∙ ap (λ (q : Progress). is_free q.phase) (sym c.progress.view_is) ∙ sym c.is_free-in-Prepare.ensures ∙ c.if-is_free-2.true in
    let may = c.may_prepare.ensures t some meant (ap (λ (q : Progress). q.last) c.progress.view_is ∙ tells.last) in
    let all = subst (λ gs. IsTrue c.may_prepare.result ↔ (AreGranules g gs × LieUnder before t gs)) c.as_slice.ensures may in (
      λ h. let both = all.0 h in subst (λ P. P) (sym says) (both.0, (free, both.1)),
      λ m. let prepares = subst (λ P. P) says m in all.1 (prepares.0, prepares.1.1),
    )

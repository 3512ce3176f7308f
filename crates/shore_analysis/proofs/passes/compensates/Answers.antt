use Rattle.std.proofs.Common.{not, sym, ap, ◌∙◌}
use Rattle.shore_analysis.specs.Padded.{padded}
use Rattle.shore_analysis.proofs.Progresses.{told, undoable_told}
use Rattle.shore_analysis.proofs.passes.compensates.Goals as goal

pub returns : goal.returns
returns c t one meant is =
    let before = padded c.args.cut c.args.before.now in
    let p = c.args.progress.now in
    let tells = told t before p is in
    let answer = c.is_answer.ensures c.args.geometry.now t one meant tells.newest in
    let undoable = sym (undoable_told t before p tells) ∙ ap not (sym c.is_doubtful.ensures ∙ c.if-is_doubtful.false) in
    (λ h. (c.has_slot.ensures.0 c.if-not-has_slot.false, (undoable, answer.0 h)), λ m. answer.1 m.1.1)

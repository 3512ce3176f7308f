use Rattle.std.proofs.Common.{rules}
use Rattle.shore_types.specs.Images.{Image}
use Rattle.shore_types.specs.declared.ids.Rid.{Rid}
use Rattle.shore_analysis.specs.Padded.{padded}
use Rattle.shore_restart.specs.Doubts.{IsChangeAt}
use Rattle.shore_restart.proofs.KeptReads.{IsNoChange, none_or, read_none, read_other, read_there}
use Rattle.shore_restart.proofs.doubts.change_at.Goals as goal

pub returns-in_err-id-clause-none : goal.returns-in_err-id-clause-none
returns-in_err-id-clause-none c =
    none_or ((id : Rid) (before : Image) → IsChangeAt (padded c.args.cut c.args.kept.now) c.args.number id before → ⊥) c.from_residual.result
    (read_none c.args.cut c.args.kept.now c.args.number c.in_err-id.ensures.some)

pub returns-in-Change-clause-some : goal.returns-in-Change-clause-some
returns-in-Change-clause-some c =
    let here = read_there c.args.cut c.args.kept.now c.args.number c.in_ok-id.field-0.now (λ le. let clash = c.in_ok-id.ensures.none le in cc) c.in_ok-id.ensures.some in
    (here.0, (c.in_ok-id.field-0.now, c.in-Change.after, here.1, c.in-Change.is))

pub returns-in-Compensation-clause-none : goal.returns-in-Compensation-clause-none
returns-in-Compensation-clause-none c =
    let none : IsNoChange c.in_ok-id.field-0.now.payload = search rules in
    read_other c.args.cut c.args.kept.now c.args.number c.in_ok-id.field-0.now (λ le. let clash = c.in_ok-id.ensures.none le in cc) c.in_ok-id.ensures.some none

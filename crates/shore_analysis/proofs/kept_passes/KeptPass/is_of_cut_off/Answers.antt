use Rattle.std.proofs.Common.{◌<◌, ◌∙◌, arith}
use Rattle.shore_analysis.proofs.KeptStandings.{no_own, none_cut_off, own_told}
use Rattle.shore_analysis.proofs.kept_passes.KeptPass.is_of_cut_off.Goals as goal

pub returns-then-txn-eq0 : goal.returns-then-txn-eq0
returns-then-txn-eq0 c g before knows m = no_own c.args.cut before c.args.logged.now (omega (arith, c.if-txn-eq0.true, c.txn.view_is))

pub returns-then-cut-eq0 : goal.returns-then-cut-eq0
returns-then-cut-eq0 c g before knows m =
    none_cut_off g c.args.cut before c.args.logged.now (omega (arith, c.if-cut-eq0.true)) (omega (arith, c.if-txn-eq0.false, c.txn.view_is)) m

pub returns : goal.returns
returns c g before knows m =
    let r = c.args.logged.now in
    let one : 0 < r.txn = omega (arith, c.if-txn-eq0.false, c.txn.view_is) in
    c.is_cut_off.ensures ∙ own_told g c.args.cut before r one m c.standing-standing.result (c.standing-standing.ensures g before one knows)

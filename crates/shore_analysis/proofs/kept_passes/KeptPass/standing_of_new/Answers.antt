use Rattle.std.proofs.Common.{sym, ap, subst, ◌∙◌}
use Rattle.std.specs.BTreeSet.{contains}
use Rattle.std.specs.Ordering.{nat_cmp}
use Rattle.shore_model.specs.declared.log_records.LogRecord.{LogRecord}
use Rattle.shore_analysis.specs.KeptPasses.{StandsAs, standing_of_first}
use Rattle.shore_analysis.proofs.KeptStandings.{stands_first, stands_over}
use Rattle.shore_analysis.proofs.kept_passes.KeptPass.standing_of_new.Goals as goal

pub returns-then-contains : goal.returns-then-contains
returns-then-contains c g before one knows none =
    let pass = c.args.self.now in
    stands_over g c.args.cut before c.args.logged.now one pass knows none
    (ap (λ (r : LogRecord). contains nat_cmp pass.over r.txn) (sym c.logged.view_is) ∙ sym c.contains.ensures ∙ c.if-contains.true)

pub returns : goal.returns
returns c g before one knows none =
    let pass = c.args.self.now in
    subst (StandsAs g c.args.cut before c.args.logged.now) (sym c.first_standing.ensures)
    (subst (λ (x : LogRecord). StandsAs g c.args.cut before c.args.logged.now (standing_of_first c.args.cut x.previous)) (sym c.logged.view_is)
    (stands_first g c.args.cut before c.args.logged.now one pass knows none
    (ap (λ (r : LogRecord). contains nat_cmp pass.over r.txn) (sym c.logged.view_is) ∙ sym c.contains.ensures ∙ c.if-contains.false)))

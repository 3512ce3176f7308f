use Rattle.std.proofs.Common.{◌≡◌, true, subst, ◌∙◌}
use Rattle.std.specs.Prelude.{◌↔◌, All, IsTrue}
use Rattle.std.specs.BTreeSet.{contains}
use Rattle.std.specs.Ordering.{nat_cmp}
use Rattle.shore_analysis.specs.KeptMeant.{names_cut_off}
use Rattle.shore_analysis.proofs.KeptFound.{listed_by}
use Rattle.shore_analysis.proofs.anchored_end.have_listed_ended.Goals as goal

pub returns-in-CheckpointEnd : goal.returns-in-CheckpointEnd
returns-in-CheckpointEnd c checkpoint e its =
    let end = c.in-CheckpointEnd in
    subst (λ es. IsTrue c.have_ended.result ↔ All (λ e. names_cut_off c.args.cut e ≡ true → contains nat_cmp c.args.over.now e.txn ≡ true) es)
    (c.as_slice.ensures ∙ listed_by checkpoint c.args.payload.now end.begin end.next end.txns end.dirty e end.is its) c.have_ended.ensures

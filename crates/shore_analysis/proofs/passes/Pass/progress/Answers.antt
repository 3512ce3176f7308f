use Rattle.std.proofs.Common.{◌≡◌, Some, None, false, sym, ap, ◌∙◌}
use Rattle.std.specs.Ordering.{nat_cmp}
use Rattle.std.specs.BTreeMap.{get}
use Rattle.std.specs.BTreeSet.{contains}
use Rattle.shore_model.specs.Logs.{is_over}
use Rattle.shore_analysis.specs.declared.progress.Progress.{Progress}
use Rattle.shore_analysis.specs.Passes.{entry_at}
use Rattle.shore_analysis.proofs.KnownNext.{progress_new, progress_told}
use Rattle.shore_analysis.proofs.passes.Pass.progress.Goals as goal

pub returns-in-Some : goal.returns-in-Some
returns-in-Some c rs knows one =
    let t = c.args.txn in
    let there : entry_at t rs ≡ Some c.in-Some.entry.now = sym (knows.running t) ∙ ap (get nat_cmp c.args.self.now.running) (sym c.txn.view_is) ∙ sym c.in-Some.ensures.value in
    ap (λ (p : Progress). Some p) c.progress_of.ensures ∙ progress_told rs t c.in-Some.entry.now there

pub returns-in-None-2 : goal.returns-in-None-2
returns-in-None-2 c rs knows one =
    let t = c.args.txn in
    let absent : entry_at t rs ≡ None = sym (knows.running t) ∙ ap (get nat_cmp c.args.self.now.running) (sym c.txn.view_is) ∙ sym c.in-None.ensures.value in
    let runs : is_over t rs ≡ false = sym (knows.over t) ∙ ap (contains nat_cmp c.args.self.now.over) (sym c.txn.view_is) ∙ sym c.contains.ensures ∙ c.if-contains.false in
    progress_new rs t one absent runs

use Rattle.std.proofs.Common.{◌≡◌, ◌∙◌, get_or, subst, arith}
use Rattle.std.proofs.lemmas.List.Elements.{All-more}
use Rattle.shore_logrec.specs.Text.{DirtyFits}
use Rattle.shore_check.proofs.tables.pages_fit.Goals as goal

pub loop-entry-preserved : goal.loop-entry-preserved
loop-entry-preserved c =
    let own : c.read-entry.result ≡ get_or c.args.dirty.now c.loop-entry.entry-index c.entry-item.result = c.read-entry.ensures ∙ c.entry-item.is in
    let fits : DirtyFits c.read-entry.result = record { store = omega arith; page = omega arith; recovery = omega arith } in
    All-more DirtyFits c.args.dirty.now c.loop-entry.entry-index c.entry-item.result c.loop-entry-test.true c.loop-entry.invariant (subst DirtyFits own fits)

use Rattle.std.proofs.Common.{◌≡◌, true, subst, take_all, refl}
use Rattle.std.specs.Prelude.{All}
use Rattle.std.specs.BTreeSet.{contains}
use Rattle.std.specs.Ordering.{nat_cmp}
use Rattle.std.proofs.lemmas.List.Elements.{All-more}
use Rattle.shore_model.specs.declared.log_records.LogTxn.{LogTxn}
use Rattle.shore_analysis.specs.KeptMeant.{names_cut_off}
use Rattle.shore_analysis.proofs.anchored_end.have_ended.Goals as goal

pub loop-entry-preserved : goal.loop-entry-preserved
loop-entry-preserved c =
    let ended : LogTxn → Type 0 = λ e. names_cut_off c.args.cut e ≡ true → contains nat_cmp c.args.over.now e.txn ≡ true in
    All-more ended c.args.entries.now c.loop-entry.entry-index c.entry-item.result c.loop-entry-test.true c.loop-entry.invariant (subst ended c.entry-item.is (c.has_ended.ensures.0 c.if-not-has_ended.false))

pub returns : goal.returns
returns c = (
  λ h. subst (All (λ e. names_cut_off c.args.cut e ≡ true → contains nat_cmp c.args.over.now e.txn ≡ true)) (take_all c.loop-entry.entry-index c.args.entries.now c.loop-entry-test.false) c.loop-entry.invariant,
  λ h. refl,
)

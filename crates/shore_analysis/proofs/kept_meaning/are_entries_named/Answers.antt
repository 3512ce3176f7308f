use Rattle.std.proofs.Common.{subst, take_all, refl}
use Rattle.std.specs.Prelude.{All}
use Rattle.std.proofs.lemmas.List.Elements.{All-more}
use Rattle.shore_analysis.specs.KeptMeant.{IsEntryNamed}
use Rattle.shore_analysis.proofs.kept_meaning.are_entries_named.Goals as goal

pub loop-entry-preserved : goal.loop-entry-preserved
loop-entry-preserved c =
    All-more (IsEntryNamed c.args.cut c.args.before.now) c.args.entries.now c.loop-entry.entry-index c.entry-item.result c.loop-entry-test.true c.loop-entry.invariant
    (subst (IsEntryNamed c.args.cut c.args.before.now) c.entry-item.is (c.is_entry_named.ensures.0 c.if-not-is_entry_named.false))

pub returns : goal.returns
returns c =
    (λ h. subst (All (IsEntryNamed c.args.cut c.args.before.now)) (take_all c.loop-entry.entry-index c.args.entries.now c.loop-entry-test.false) c.loop-entry.invariant, λ h. refl)

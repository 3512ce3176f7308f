use Rattle.std.proofs.Common.{subst, take_all, refl}
use Rattle.std.specs.Prelude.{All}
use Rattle.std.proofs.lemmas.List.Elements.{All-more}
use Rattle.shore_analysis.specs.KeptMeant.{IsEntryInBounds}
use Rattle.shore_analysis.proofs.kept_meaning.are_entries_in_bounds.Goals as goal

pub loop-entry-preserved : goal.loop-entry-preserved
loop-entry-preserved c =
    All-more (IsEntryInBounds c.args.number) c.args.entries.now c.loop-entry.entry-index c.entry-item.result c.loop-entry-test.true c.loop-entry.invariant
    (subst (IsEntryInBounds c.args.number) c.entry-item.is (c.is_entry_in_bounds.ensures.0 c.if-not-is_entry_in_bounds.false))

pub returns : goal.returns
returns c =
    (λ h. subst (All (IsEntryInBounds c.args.number)) (take_all c.loop-entry.entry-index c.args.entries.now c.loop-entry-test.false) c.loop-entry.invariant, λ h. refl)

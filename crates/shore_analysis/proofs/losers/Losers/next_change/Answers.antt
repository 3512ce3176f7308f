use Rattle.std.proofs.Common.{sym, subst}
use Rattle.shore_analysis.specs.Losers.{AreEntriesOfLosers}
use Rattle.shore_analysis.proofs.InTurn.{next_is_first, none_left}
use Rattle.shore_analysis.proofs.losers.Losers.next_change.Goals as goal

pub returns-in-Some : goal.returns-in-Some
returns-in-Some c log t h loser next =
    let held = subst (AreEntriesOfLosers log) (sym c.as_slice.ensures.value) h in
    next_is_first log c.as_slice.result.now c.in-Some.loser t held c.in-Some.ensures.some c.in-Some.ensures.first loser next

pub returns-in-None : goal.returns-in-None
returns-in-None c log t h loser next =
    let held = subst (AreEntriesOfLosers log) (sym c.as_slice.ensures.value) h in
    absurd (none_left log c.as_slice.result.now c.in-None.ensures.none held t loser)

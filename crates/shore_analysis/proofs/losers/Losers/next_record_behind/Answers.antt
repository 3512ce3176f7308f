use Rattle.std.proofs.Common.{sym, subst}
use Rattle.shore_analysis.specs.Losers.{AreEntriesOfLosers}
use Rattle.shore_analysis.proofs.InTurn.{entry_of_one, next_to_undo}
use Rattle.shore_analysis.proofs.KeptUndone.{loser_meant, none_cut_off}
use Rattle.shore_analysis.proofs.losers.Losers.next_record_behind.Goals as goal

pub returns-clause-loser : goal.returns-clause-loser
returns-clause-loser c log h =
    let held = subst (AreEntriesOfLosers log) (sym c.as_slice.ensures.value) h in
    (entry_of_one log c.as_slice.result.now c.in-Some.loser held.each c.in-Some.ensures.some).loser

pub returns-clause-turn : goal.returns-clause-turn
returns-clause-turn c log h =
    let held = subst (AreEntriesOfLosers log) (sym c.as_slice.ensures.value) h in
    next_to_undo log c.as_slice.result.now c.in-Some.loser held c.in-Some.ensures.some c.in-Some.ensures.first

pub returns-clause-undoes : goal.returns-clause-undoes
returns-clause-undoes c g whole turns log ended is_kept meant undone h =
    let cut = c.args.cut in
    let kept = c.args.found.now in
    let t = c.in-Some.loser.txn in
    let held = subst (AreEntriesOfLosers log) (sym c.as_slice.ensures.value) h in
    let entry = entry_of_one log c.as_slice.result.now c.in-Some.loser held.each c.in-Some.ensures.some in
    let none = none_cut_off g cut kept meant t whole ended is_kept turns log undone entry.loser in
    let all = loser_meant g cut kept meant t whole ended is_kept turns log undone entry.loser in
    let says = c.in_ok-payload.ensures g whole turns log t entry.loser.is_one ended.0 none is_kept all undone entry.undo_next in
    λ i. record { txn = t; previous = entry.last i; payload = says i }

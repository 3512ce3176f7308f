use Rattle.std.proofs.Common.{◌<◌, ◌++◌, ◌∷◌, [], map, ◌∙◌, sym, ap, subst}
use Rattle.std.specs.Prelude.{filter}
use Rattle.shore_analysis.specs.Losers.{AreEntriesOfLosers, is_another, turns_left_of, with_numbers}
use Rattle.shore_analysis.proofs.Entries.{left, renumbered}
use Rattle.shore_analysis.proofs.Turns.{fewer_by_compensation, fewer_by_end}
use Rattle.shore_analysis.proofs.losers.Losers.note_logged.Goals as goal

pub returns-in-Some-clause-losers : goal.returns-in-Some-clause-losers
returns-in-Some-clause-losers c log h loser is number =
    subst (λ es. AreEntriesOfLosers (log ++ c.args.logged.now ∷ []) es) (sym c.renumber.ensures)
    (subst (λ r. AreEntriesOfLosers (log ++ r ∷ []) (map (with_numbers c.args.logged.now.txn c.args.number c.in-Some.undo_next) c.args.self.now.entries.items)) (sym is)
    (renumbered log c.args.logged.now.txn loser c.args.self.now.entries.items h c.in-Some.ensures.0 c.in-Some.ensures.1 c.in-Some.undo_next
    (sym (ap (λ r. r.payload) is) ∙ c.in-Some.ensures.2) c.args.number number))

pub returns-in-None-clause-losers : goal.returns-in-None-clause-losers
returns-in-None-clause-losers c log h loser is number =
    subst (λ es. AreEntriesOfLosers (log ++ c.args.logged.now ∷ []) es) (sym c.leave.ensures)
    (subst (λ r. AreEntriesOfLosers (log ++ r ∷ []) (filter (is_another c.args.logged.now.txn) c.args.self.now.entries.items)) (sym is)
    (left log c.args.logged.now.txn loser c.args.self.now.entries.items h
    (λ id image u says. c.in-None.ensures id image u (ap (λ r. r.payload) is ∙ says))))

pub returns-in-Some-clause-fewer : goal.returns-in-Some-clause-fewer
returns-in-Some-clause-fewer c log h loser is =
    subst (λ es. turns_left_of (log ++ c.args.logged.now ∷ []) es < turns_left_of log c.args.self.now.entries.items) (sym c.renumber.ensures)
    (subst (λ r. turns_left_of (log ++ r ∷ []) (map (with_numbers c.args.logged.now.txn c.args.number c.in-Some.undo_next) c.args.self.now.entries.items)
    < turns_left_of log c.args.self.now.entries.items) (sym is)
    (fewer_by_compensation log c.args.logged.now.txn c.args.self.now.entries.items c.in-Some.ensures.0 c.in-Some.ensures.1 c.args.number c.in-Some.undo_next
    (sym (ap (λ r. r.payload) is) ∙ c.in-Some.ensures.2) (h.every c.args.logged.now.txn loser)))

pub returns-in-None-clause-fewer : goal.returns-in-None-clause-fewer
returns-in-None-clause-fewer c log h loser is =
    subst (λ es. turns_left_of (log ++ c.args.logged.now ∷ []) es < turns_left_of log c.args.self.now.entries.items) (sym c.leave.ensures)
    (subst (λ r. turns_left_of (log ++ r ∷ []) (filter (is_another c.args.logged.now.txn) c.args.self.now.entries.items) < turns_left_of log c.args.self.now.entries.items) (sym is)
    (fewer_by_end log c.args.logged.now.txn c.args.self.now.entries.items (h.every c.args.logged.now.txn loser)))

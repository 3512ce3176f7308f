use Rattle.std.proofs.Common.{map, sym, ap, ◌∙◌}
use Rattle.std.specs.Prelude.{reverse}
use Rattle.shore_model.specs.declared.unanswered_changes.UnansweredChange.{UnansweredChange}
use Rattle.shore_model.specs.Logs.{undo_next_of}
use Rattle.shore_analysis.proofs.KeptMeans.{unanswered_padded}
use Rattle.shore_analysis.proofs.KeptUndone.{meant_of_whole}
use Rattle.shore_analysis.proofs.kept_doubts.to_be_undone_behind.Goals as goal

pub returns-clause-all : goal.returns-clause-all
returns-clause-all c g t one all whole is =
    let same = unanswered_padded t one c.args.cut c.args.kept.now in
    c.reverse.ensures.items
    ∙ ap reverse (c.in_ok-numbers.ensures.all g t one (meant_of_whole g c.args.cut c.args.kept.now all t one whole) (is ∙ ap undo_next_of (sym same))
    ∙ ap (map (λ (x : UnansweredChange). x.number)) same)

pub returns-clause-none : goal.returns-clause-none
returns-clause-none c none = c.reverse.ensures.items ∙ ap reverse (c.in_ok-numbers.ensures.none none)

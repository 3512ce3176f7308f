use Rattle.std.proofs.Common.{None, sym, ap, ◌∙◌}
use Rattle.std.proofs.lemmas.Option.{same_Some}
use Rattle.shore_model.specs.Histories.{all_prepared, decisions, last_under}
use Rattle.shore_sessions.proofs.laws.names_in_use_differ.Goals as goal

pub returns : goal.returns
returns c o es s agree p q m n same =
    same_Some p.0 q.0 (sym (agree.under p m) ∙ ap (λ g. last_under g None (all_prepared o.in_doubt (decisions es))) same ∙ agree.under q n)

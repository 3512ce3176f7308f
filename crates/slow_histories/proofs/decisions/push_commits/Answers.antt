use Rattle.std.proofs.Common.{◌≡◌, ◌<◌, ◌==◌, ◌++◌, ◌∷◌, [], ℕ, List, length, map, arith, ap, ◌∙◌}
use Rattle.std.specs.Prelude.{filter}
use Rattle.std.proofs.lemmas.List.{map-append}
use Rattle.std.proofs.lemmas.List.Elements.{filter-append}
use Rattle.shore_model.specs.declared.histories.Decision.TheVariants.{Commit}
use Rattle.shore_model.specs.declared.histories.Entry.{Entry}
use Rattle.shore_model.specs.Histories.{commits_with, ticket_in, tickets}
use Rattle.shore_model.proofs.Steps.{one_part, found_parts}
use Rattle.slow_histories.proofs.decisions.push_commits.Goals as goal

commit_parts : (ticket : ℕ) (e : Entry) (es : List Entry) → commits_with ticket (tickets (e ∷ es)) ≡ commits_with ticket (tickets (e ∷ [])) ++ commits_with ticket (tickets es)
commit_parts ticket e es =
    let has = λ (p : ℕ × ℕ). p.0 == ticket in
    let commit = λ (p : ℕ × ℕ). Commit p.1 in
    ap (commits_with ticket) (found_parts ticket_in e es)
    ∙ ap (map commit) (filter-append has (tickets (e ∷ [])) (tickets es))
    ∙ map-append commit (filter has (tickets (e ∷ []))) (filter has (tickets es))

pub loop-entry-preserved : goal.loop-entry-preserved
loop-entry-preserved c =
    let within : c.loop-entry.entry-index < length c.args.before.now = omega arith in
    one_part (λ es. commits_with c.args.ticket (tickets es)) (commit_parts c.args.ticket) c.args.before.now c.loop-entry.entry-index c.entry-item.result within c.entry-item.is
    c.loop-entry.found c.push_some.new.found _ c.loop-entry.invariant
    (c.in_ok-push_some.ensures ∙ ap (λ ds. c.loop-entry.found ++ ds) c.commit_of.ensures)

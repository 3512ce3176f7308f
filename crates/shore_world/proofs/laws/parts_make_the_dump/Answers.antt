use Rattle.std.proofs.Common.{◌++◌, List, ℕ, ap, ◌∙◌}
use Rattle.shore_types.specs.declared.ids.Rid.{Rid}
use Rattle.shore_model.specs.Records.{part_of}
use Rattle.shore_world.specs.Worlds.{geometry_in}
use Rattle.shore_world.proofs.PartsInTurn.{all_in_turn}
use Rattle.shore_world.proofs.PartsJoined.{alike_parts, parts_joined, whole_part}
use Rattle.shore_world.proofs.laws.parts_make_the_dump.Goals as goal

pub returns-clause-join : goal.returns-clause-join
returns-clause-join k d w store a b c p q rises goes_on first second front disk s kept is safe over =
    ap (λ (l : List (Rid × List ℕ)). l ++ q) (first front disk s kept is safe over) ∙ ap (λ (l : List (Rid × List ℕ)). part_of store a b s.sessions.records ++ l) (second front disk s kept is safe over)
    ∙ parts_joined store a b c rises goes_on s.sessions.records

pub returns-clause-whole : goal.returns-clause-whole
returns-clause-whole k d w store part all front disk s kept is safe over = all front disk s kept is safe over ∙ whole_part (geometry_in w) store s.sessions.records safe.inside

pub returns-clause-in_turn : goal.returns-clause-in_turn
returns-clause-in_turn k d w log_front front disk s kept store parts at safe are = all_in_turn store parts w log_front front disk s kept at safe are

pub returns-clause-held : goal.returns-clause-held
returns-clause-held k d store a b c R S rises goes_on same =
    ap (λ (l : List (Rid × List ℕ)). l ++ part_of store b c S) (alike_parts store a b R S same) ∙ parts_joined store a b c rises goes_on S

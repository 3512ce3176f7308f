use Rattle.std.proofs.Common.{refl, sym, ap, ◌∙◌}
use Rattle.shore_model.specs.Logs.{image_of_record}
use Rattle.laws_lives.specs.Writers.{image_committed}
use Rattle.laws_runs.specs.WorkedLogs.{second_id}
use Rattle.laws_migrations.specs.WorkedMigration.{read_log}
use Rattle.laws_migrations.proofs.WorkedMigration.{none_committed, second_stands, some_none}
use Rattle.laws_migrations.proofs.worked.wrong_readings_are_none.Goals as goal

pub returns-clause-nothing_written : goal.returns-clause-nothing_written
returns-clause-nothing_written c = λ a b global granules h. some_none (sym (second_stands a b global granules) ∙ h.every second_id refl tt ∙ none_committed a b global granules)

pub returns-clause-before : goal.returns-clause-before
returns-clause-before c = λ a b d global granules w same is h.
    some_none (sym is ∙ h.each.0.1 ∙ ap (image_committed (read_log a b global granules)) same ∙ none_committed a b global granules)

pub returns-clause-after : goal.returns-clause-after
returns-clause-after c = λ a b global granules w same is h.
    some_none (sym (sym is ∙ h.each.0.2 ∙ ap (image_of_record (read_log a b global granules)) same ∙ second_stands a b global granules))

use Rattle.std.proofs.Common.{List, ℕ, ap, ◌∙◌}
use Rattle.toml.specs.Data.{get_member}
use Rattle.toml.specs.View.{table_view}
use Rattle.toml.proofs.Views.{table_get}
use Rattle.shore_script.proofs.settings.value_of.Goals as goal

pub returns : goal.returns
returns c =
    table_get c.get.result c.key.result.now c.args.table.now.entries c.get.ensures.value
    ∙ ap (λ (k : List ℕ). get_member k (table_view c.args.table.now)) c.key.ensures

use Rattle.laws_migrations.proofs.Legs.{opens_alike}
use Rattle.laws_migrations.proofs.migrations.lives_go_on_behind_migrations.Goals as goal

pub returns : goal.returns
returns c = opens_alike

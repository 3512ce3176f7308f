use Rattle.laws_migrations.proofs.LegLives.{legs_live}
use Rattle.laws_migrations.proofs.migrations.committed_work_survives_migrations.Goals as goal

pub returns : goal.returns
returns c = λ g ring_bytes o a last_anchor rs last pages last_pages legs stays may opening served h. legs_live g ring_bytes o a rs pages may opening served legs stays last_anchor last last_pages h

use Rattle.laws_migrations.proofs.WorkedMigration.{not_under_none}
use Rattle.laws_migrations.proofs.worked.wrong_migrations_are_none.Goals as goal

pub returns-clause-under : goal.returns-clause-under
returns-clause-under c = λ committed t u global w h. not_under_none w.id h.under.0

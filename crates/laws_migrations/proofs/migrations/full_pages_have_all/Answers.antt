use Rattle.laws_migrations.proofs.FullPages.{full_has}
use Rattle.laws_migrations.proofs.migrations.full_pages_have_all.Goals as goal

pub returns : goal.returns
returns c = λ log. ((λ p. (full_has p log).0), (λ p. (full_has p log).1))

use Rattle.laws_migrations.proofs.Checkpointing.{found_in_order}
use Rattle.laws_migrations.proofs.migrations.migrated_pairs_are_in_order.Goals as goal

pub returns : goal.returns
returns c = λ t records doubts txns pages some may apart table as_of all_done. found_in_order t records some doubts may apart txns table pages as_of all_done

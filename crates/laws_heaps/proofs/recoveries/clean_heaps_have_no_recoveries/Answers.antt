use Rattle.laws_heaps.proofs.DirtyTables.{no_numbers, numbers_unmoved}
use Rattle.laws_heaps.proofs.recoveries.clean_heaps_have_no_recoveries.Goals as goal

pub returns-clause-opened : goal.returns-clause-opened
returns-clause-opened g c = no_numbers

pub returns-clause-unmoved : goal.returns-clause-unmoved
returns-clause-unmoved g c = numbers_unmoved

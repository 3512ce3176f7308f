use Rattle.laws_heaps.proofs.DirtyTables.{clean_ones_are_written, lacks_none_below}
use Rattle.laws_heaps.proofs.recoveries.volumes_lack_nothing_below.Goals as goal

pub returns-clause-dirty : goal.returns-clause-dirty
returns-clause-dirty g c = lacks_none_below

pub returns-clause-clean : goal.returns-clause-clean
returns-clause-clean g c = clean_ones_are_written

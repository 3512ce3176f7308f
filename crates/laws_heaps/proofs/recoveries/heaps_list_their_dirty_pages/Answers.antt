use Rattle.laws_heaps.proofs.DirtyTables.{table_is}
use Rattle.laws_heaps.proofs.recoveries.heaps_list_their_dirty_pages.Goals as goal

pub returns : goal.returns
returns g c = table_is

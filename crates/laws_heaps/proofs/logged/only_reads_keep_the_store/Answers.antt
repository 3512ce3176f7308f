use Rattle.laws_heaps.proofs.Stores.{store_unmoved, store_unwritten}
use Rattle.laws_heaps.proofs.logged.only_reads_keep_the_store.Goals as goal

pub returns-clause-unwritten : goal.returns-clause-unwritten
returns-clause-unwritten g c = store_unwritten

pub returns-clause-same_frames : goal.returns-clause-same_frames
returns-clause-same_frames g c = store_unmoved

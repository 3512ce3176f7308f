use Rattle.laws_threads.proofs.Pairs.{whole_pair}
use Rattle.laws_threads.proofs.amid.pairs_of_threads_stand.Goals as goal

pub returns : goal.returns
returns c g log_bytes volume_bytes o found es m new e anchor stable seen volume_image log_left volume_left k is label left =
    whole_pair g log_bytes volume_bytes o found es m k e new anchor stable seen is volume_image label log_left volume_left left

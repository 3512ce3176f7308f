use Rattle.laws_heaps.proofs.OneStore.{one_store}
use Rattle.laws_heaps.proofs.logged.heaps_have_one_store.Goals as goal

pub returns : goal.returns
returns g c = one_store

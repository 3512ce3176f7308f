use Rattle.std.proofs.Common.{refl}
use Rattle.laws_threads.proofs.Stays as stays
use Rattle.laws_threads.proofs.amid.stays_in_threads_are_stays.Goals as goal

pub returns : goal.returns
returns c g ring_bytes o a rs pages r may opening h = (
  stays.run g ring_bytes o a rs pages may opening r h,
  stays.is_up g ring_bytes o a rs pages may opening r h,
  refl,
  refl,
  stays.same_left g ring_bytes o a rs pages may opening r h,
  refl,
  refl,
)

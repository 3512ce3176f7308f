use Rattle.std.proofs.Common.{refl}
use Rattle.laws_threads.proofs.Moments as moments
use Rattle.laws_threads.proofs.amid.crashes_in_threads_are_crashes_of_a_manager.Goals as goal

pub returns : goal.returns
returns c g ring_bytes o found es m new e anchor stable seen n left k is least lost = (
  moments.moves g ring_bytes o found es m k e new anchor stable seen is n left least lost,
  moments.last g ring_bytes o found es m k e new anchor stable seen is n left least lost,
  record {
    other = (moments.behind g ring_bytes o found es m k e new anchor stable seen is n left least lost).other;
    alike = moments.alike g ring_bytes o found es m k e new anchor stable seen is n left least lost;
    are = refl;
    lead = moments.leads g ring_bytes o found es m k e new anchor stable seen is n left least lost;
  },
  moments.is_lost g ring_bytes o found es m k e new anchor stable seen is n left least lost,
  moments.may g ring_bytes o found es m k e new anchor stable seen is n left least lost,
  moments.same_log g ring_bytes o found es m k e new anchor stable seen is n left least lost,
)

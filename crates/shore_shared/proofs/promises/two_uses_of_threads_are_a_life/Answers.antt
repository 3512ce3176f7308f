use Rattle.std.proofs.Common.{List, ℕ, inl, refl, sym, subst}
use Rattle.std.proofs.Math.Logic.{∥∥₁_map}
use Rattle.shore_world.specs.Managers.{AreLeftInThreads}
use Rattle.shore_shared.proofs.LegsOfThreads.{led}
use Rattle.shore_shared.proofs.promises.two_uses_of_threads_are_a_life.Goals as goal

pub returns : goal.returns
returns c d g log_bytes volume_bytes t log_left volume_left log volume opened w cut kept asked stepped seen found is there log_stands volume_stands log_long volume_long opens geometry long ended durable last_long last_volume_long = (
  found,
  is,
  (
    record {
      lengths = (log_long, volume_long);
      among = λ i j may_log may_volume.
          subst (λ (x : List ℕ). AreLeftInThreads t x j) (sym (log_stands.only i may_log)) (subst (AreLeftInThreads t log_left) (sym (volume_stands.only j may_volume)) there);
    },
    record {
      opens = opens;
      legs = ((λ o found_log entries up. ∥∥₁_map (ended o found_log entries up) (led opened w cut kept asked stepped geometry long up), durable), refl);
    },
    record {
      lengths = (last_long, last_volume_long);
      among = λ i j may_log may_volume. inl (may_log, may_volume);
    },
  ),
)

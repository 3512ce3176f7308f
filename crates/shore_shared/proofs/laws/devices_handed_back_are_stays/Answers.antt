use Rattle.std.proofs.Common.{◌≡◌, ◌∷◌, [], List, ℕ, sym, subst, ◌∙◌}
use Rattle.std.proofs.Math.Logic.{∥∥₁_map}
use Rattle.shore_disk.specs.Device.{DeviceHistory, left_since, moment}
use Rattle.laws_runs.specs.CheckpointSteps.{Goes}
use Rattle.laws_runs.specs.StoredRuns.{Tend}
use Rattle.shore_shared.proofs.HandedBack.{now_left}
use Rattle.shore_shared.proofs.laws.devices_handed_back_are_stays.Goals as goal

pub returns : goal.returns
returns g c t asked stepped back trail_is step_is log_is volume_is o found es up = ∥∥₁_map (back o found es up) (λ b. record {
  plain = b.plain;
  ready = b.last;
  made = b.made;
  lead = b.moves;
  are = b.are ∙ sym trail_is;
  under_way = Goes (Tend []);
  new = b.last;
  is = sym step_is;
  left = λ log_image volume_image left. b.left log_image volume_image
      (now_left t.log_now log_image (subst (λ (x : DeviceHistory). left_since x (moment t.log_now) log_image) log_is left.0))
      (now_left t.volume_now volume_image (subst (λ (x : DeviceHistory). left_since x (moment t.volume_now) volume_image) volume_is left.1));
})

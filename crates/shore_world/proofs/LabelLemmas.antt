-- The labels at the fronts stay where the fronts do, and a world that was opened has them.
use Rattle.std.proofs.Common.{◌≡◌, ◌-◌, ℕ, List, sym, subst, ◌∙◌, take, arith}
use Rattle.shore_types.specs.declared.versions.Version.{Version}
use Rattle.shore_types.specs.Versions.{least_log-least}
use Rattle.shore_types.specs.declared.faults.Device.TheVariants.{Log, Volume}
use Rattle.shore_types.specs.declared.layout.Geometry.{Geometry}
use Rattle.shore_types.specs.declared.layout.TheConstants.{LOG_FRONT_BYTES}
use Rattle.shore_disk.specs.Device.{DeviceHistory, seen, size}
use Rattle.shore_dwrite.proofs.Overwrites.{take_again}
use Rattle.shore_dwrite.specs.declared.places.TheConstants.{GATE_AT}
use Rattle.shore_fronts.specs.Fronts.{IsLogLength, log_label}
use Rattle.shore_fronts.specs.Volumes.{volume_bytes, volume_label}
use Rattle.shore_gate.specs.Label.{HoldsLabel}
use Rattle.shore_gate.specs.declared.anchors.Anchor.{Anchor}
use Rattle.shore_model.specs.declared.log_records.LogRecord.{LogRecord}
use Rattle.laws_lives.specs.Pages.{LoggedPages}
use Rattle.laws_images.specs.StandsBehind.{StandsForBehind}
use Rattle.shore_world.specs.Labels.{IsLogFront, IsVolumeFront}

pub log_front_stays : (g later : Geometry) (bytes bytes_later : ℕ) (front front_later : List ℕ) → later ≡ g → bytes_later ≡ bytes → take 512 front_later ≡ take 512 front → IsLogFront g bytes front
    → IsLogFront later bytes_later front_later
log_front_stays g later bytes bytes_later front front_later geometry long same k =
    subst (λ (x : Geometry × ℕ). IsLogFront x.0 x.1 front_later) (λ i. (sym geometry i, sym long i))
    (record { label = subst (λ (l : List ℕ). HoldsLabel Log bytes l (log_label g bytes)) (sym same) k.label; long = k.long })

-- devices of which the streams are as long are as long themselves
pub as_long : (v : Version) (bytes bytes_later : ℕ) → IsLogLength v bytes → bytes_later - LOG_FRONT_BYTES ≡ bytes - LOG_FRONT_BYTES → bytes_later ≡ bytes
as_long v bytes bytes_later long same = let least = long.0 in let is = same in omega (arith, least_log-least v)

module _ (g : Geometry) (anchor : Anchor) (rs : List LogRecord) (pages : LoggedPages) (log volume : DeviceHistory)
    (stood : StandsForBehind g (size log) (size volume) anchor rs pages (seen log) (seen volume)) where
  pub found_log_front : IsLogFront g (size log) (take LOG_FRONT_BYTES (seen log))
  found_log_front = record {
    label = subst (λ (l : List ℕ). HoldsLabel Log (size log) l (log_label g (size log))) (sym (take_again 512 LOG_FRONT_BYTES (seen log) (omega arith))) stood.front.label;
    long = stood.front.long;
  }

  volume_long : size volume ≡ volume_bytes g
  volume_long = sym stood.volume.label.limits.of_device

  pub found_volume_front : IsVolumeFront g (take GATE_AT (seen volume))
  found_volume_front = record {
    label = subst (λ (l : List ℕ). HoldsLabel Volume (volume_bytes g) l (volume_label g)) (sym (take_again 512 GATE_AT (seen volume) (omega arith)))
        (subst (λ n. HoldsLabel Volume n (take 512 (seen volume)) (volume_label g)) volume_long stood.volume.label);
    whole = take_again GATE_AT GATE_AT (seen volume) (omega arith);
  }

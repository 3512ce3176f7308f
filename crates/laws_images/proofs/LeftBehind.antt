-- What a loss of power leaves of a manager with checkpoints stands, behind the anchor that is left, for a prefix of its log.
use Rattle.std.proofs.Common.{◌≡◌, ⊎_elim, ◌≤◌, ◌-◌, ℕ, List, [], sym, ap, subst, take, arith}
use Rattle.shore_types.specs.declared.faults.Device.TheVariants.{Volume}
use Rattle.shore_types.specs.declared.ids.PageId.{PageId}
use Rattle.shore_types.specs.declared.layout.Geometry.{Geometry}
use Rattle.shore_types.specs.declared.layout.TheConstants.{LOG_FRONT_BYTES}
use Rattle.shore_gate.specs.Label.{HoldsLabel}
use Rattle.shore_gate.specs.declared.anchors.Anchor.{Anchor}
use Rattle.shore_model.specs.declared.histories.Entry.{Entry}
use Rattle.shore_model.specs.declared.histories.Opening.{Opening}
use Rattle.shore_model.specs.declared.log_records.LogRecord.{LogRecord}
use Rattle.shore_dwrite.specs.declared.places.TheConstants.{GATE_AT}
use Rattle.laws_lives.specs.Pages.{LoggedPages, empty_page}
use Rattle.laws_heaps.proofs.LoggedLeft.{left_cut}
use Rattle.laws_heaps.specs.LoggedHeaps.{LeavesStore}
use Rattle.shore_types.specs.Versions.{least_log-least}
use Rattle.laws_runs.proofs.CheckpointCrashes.{leaves_behind}
use Rattle.laws_runs.proofs.FormatsBehind.{format_behind}
use Rattle.laws_runs.specs.CheckpointSteps.{CheckpointedState}
use Rattle.laws_runs.specs.CheckpointedStates.{IsAtCheckpoints, MayBeAnchored}
use Rattle.laws_runs.specs.SoundStores.{IsLost}
use Rattle.shore_format.specs.Pairs.{AreFormatted}
use Rattle.shore_fronts.specs.Fronts.{first_anchor}
use Rattle.shore_fronts.specs.Volumes.{volume_label}
use Rattle.laws_images.proofs.Left.{formatted_stand, label_stays}
use Rattle.laws_images.specs.Moments.{ShowsLeft}
use Rattle.laws_images.specs.StandsBehind.{GivesKept, HasAnchor, StandsForBehind, anchored_by}

pub formatted_behind : (g : Geometry) (log_bytes volume_bytes : ℕ) (log volume : List ℕ) → AreFormatted g log_bytes volume_bytes log volume
    → StandsForBehind g log_bytes volume_bytes first_anchor [] (λ p. empty_page) log volume
formatted_behind g log_bytes volume_bytes log volume f =
    let stood = formatted_stand g log_bytes volume_bytes log volume f in
    let least = f.log.long.0 in
    let most = f.log.long.1 in
    record {
      front = record { label = stood.log.front.label; slot = stood.log.front.slot; counts = stood.log.front.anchor; long = stood.log.long };
      log = stood.log.log;
      volume = stood.volume;
      opened = format_behind g (log_bytes - LOG_FRONT_BYTES) (omega (arith, least, least_log-least g.version)) (omega (arith, most));
    }

module _ (g : Geometry) (log_bytes volume_bytes : ℕ) (o : Opening) (found : List LogRecord) (es : List Entry) (m : CheckpointedState)
    (k : IsAtCheckpoints g (log_bytes - LOG_FRONT_BYTES) o found es m) (volume_image : List ℕ) (label : HoldsLabel Volume volume_bytes (take 512 volume_image) (volume_label g)) where
  -- no page that is left has a number above the records that survive
  below : (n : ℕ) (left : LoggedPages) → IsLost m.store.store n left → (p : PageId) → (left p).number ≤ n
  below n left lost p =
      let least = lost.least in
      ⊎_elim
      (λ of_volume. let ahead = k.in_order.recoverable.ahead p in let same = ap (λ page. page.number) of_volume in omega (arith, ahead, same, least))
      (λ in_place. let durable = in_place.1 in let same = ap (λ page. page.number) in_place.0 in omega (arith, durable, same, least))
      (lost.shows p)

  pub record StandBehind (anchor : Anchor) (log_left volume_left : List ℕ) : Type 0 where
    pub survive : ℕ
    pub pages : LoggedPages
    pub lost : IsLost m.store.store survive pages
    pub stands : StandsForBehind g log_bytes volume_bytes anchor (take survive m.store.store.log) pages log_left volume_left

  pub stand_behind : (anchor : Anchor) → MayBeAnchored m.store (anchored_by anchor) → (log_left volume_left : List ℕ) → HasAnchor g log_bytes anchor log_left
      → GivesKept anchor m.store.store.durable m.store.store.log log_left → ShowsLeft g (take GATE_AT volume_image) m.store.store volume_left → StandBehind anchor log_left volume_left
  stand_behind anchor may log_left volume_left front gives shows =
      let n = gives.0 in
      let left = shows.0 in
      let lost : IsLost m.store.store n left = record { least = gives.1; most = gives.2; shows = shows.1 } in
      let same = shows.2.1.0 in
      record {
        survive = n;
        pages = left;
        lost = lost;
        stands = record {
          front = front;
          log = gives.3;
          volume = record {
            label = label_stays g log_bytes volume_bytes volume_image volume_left label same;
            shows = subst (λ front. LeavesStore (take n m.store.store.log) g front left volume_left) (sym same)
                (left_cut m.store.store.log g (take GATE_AT volume_image) left volume_left n shows.2 (below n left lost));
          };
          opened = leaves_behind g (log_bytes - LOG_FRONT_BYTES) o found es m k n left lost (anchored_by anchor) may;
        };
      }

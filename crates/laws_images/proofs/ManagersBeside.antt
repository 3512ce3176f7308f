-- What a manager with checkpoints gives of its volume and of its log, each by itself, and of both in the midst of a step.
use Rattle.std.proofs.Common.{◌≡◌, inl, ◌++◌, ◌-◌, ◌≤◌, ℕ, List, min, refl, sym, ap, subst, ◌∙◌, length, take, arith}
use Rattle.std.proofs.lemmas.List.{length-take-le, take-append-le}
use Rattle.shore_types.specs.declared.faults.Device.TheVariants.{Volume}
use Rattle.shore_types.specs.declared.ids.PageId.{PageId}
use Rattle.shore_types.specs.declared.layout.Geometry.{Geometry}
use Rattle.shore_types.specs.declared.layout.TheConstants.{LOG_FRONT_BYTES}
use Rattle.shore_frames.specs.Frames.{GivesFrom}
use Rattle.shore_gate.specs.Label.{HoldsLabel}
use Rattle.shore_gate.specs.declared.anchors.Anchor.{Anchor}
use Rattle.shore_model.specs.declared.histories.Entry.{Entry}
use Rattle.shore_model.specs.declared.histories.Opening.{Opening}
use Rattle.shore_model.specs.declared.log_records.LogRecord.{LogRecord}
use Rattle.shore_dwrite.specs.declared.places.TheConstants.{GATE_AT}
use Rattle.shore_fronts.specs.Volumes.{volume_label}
use Rattle.laws_heaps.proofs.LoggedLeft.{left_cut}
use Rattle.laws_heaps.specs.LoggedHeaps.{LeavesStore}
use Rattle.laws_runs.proofs.CheckpointCrashes.{leaves_behind}
use Rattle.laws_runs.specs.CheckpointSteps.{CheckpointedState}
use Rattle.laws_runs.specs.CheckpointedStates.{IsAtCheckpoints, MayBeAnchored}
use Rattle.laws_runs.specs.SoundStores.{IsLost}
use Rattle.laws_images.proofs.Joined.{prefix_stands_beside}
use Rattle.laws_images.proofs.Left.{label_stays}
use Rattle.laws_images.specs.Moments.{ShowsLeft}
use Rattle.laws_images.specs.StandsBehind.{GivesKept, HasAnchor, StandsForBehind, anchored_by, kept_behind}
use Rattle.laws_images.specs.StandsBeside.{LogStandsBehind, VolumeStandsBehind}

module _ (g : Geometry) (ring_bytes volume_bytes : ℕ) (o : Opening) (found : List LogRecord) (es : List Entry) (m : CheckpointedState) (k : IsAtCheckpoints g ring_bytes o found es m)
    (volume_image volume_left : List ℕ) (label : HoldsLabel Volume volume_bytes (take 512 volume_image) (volume_label g))
    (shows : ShowsLeft g (take GATE_AT volume_image) m.store.store volume_left) where
  pub volume_left_behind : (anchor : Anchor) (n : ℕ) → MayBeAnchored m.store (anchored_by anchor) → m.store.store.durable ≤ n → n ≤ length m.store.store.log
      → VolumeStandsBehind g volume_bytes anchor (take n m.store.store.log) shows.0 volume_left
  volume_left_behind anchor n may least most =
      let left = shows.0 in
      let lost : IsLost m.store.store n left = record { least = least; most = most; shows = shows.1 } in
      let opened = leaves_behind g ring_bytes o found es m k n left lost (anchored_by anchor) may in
      let same = shows.2.1.0 in
      let few : (p : PageId) → (left p).number ≤ n = λ p. omega (arith, (opened.opened.as_of p).within, length-take-le n m.store.store.log most) in
      record {
        shows = record {
          label = label_stays g 0 volume_bytes volume_image volume_left label same;
          shows = subst (λ front. LeavesStore (take n m.store.store.log) g front left volume_left) (sym same)
              (left_cut m.store.store.log g (take GATE_AT volume_image) left volume_left n shows.2 few);
        };
        as_of = opened.opened.as_of;
        anchored = opened.in_order.anchor;
      }

module _ (g : Geometry) (log_bytes : ℕ) (o : Opening) (found : List LogRecord) (es : List Entry) (m : CheckpointedState)
    (k : IsAtCheckpoints g (log_bytes - LOG_FRONT_BYTES) o found es m) where
  pub log_left_behind : (anchor : Anchor) → MayBeAnchored m.store (anchored_by anchor) → (n : ℕ) → m.store.store.durable ≤ n → n ≤ length m.store.store.log
      → (log_left : List ℕ) → HasAnchor g log_bytes anchor log_left → GivesFrom anchor.tail anchor.tail_place (kept_behind anchor (take n m.store.store.log)) log_left
      → LogStandsBehind g log_bytes anchor (take n m.store.store.log) log_left
  log_left_behind anchor may n least most log_left front gives =
      let lost : IsLost m.store.store n m.store.store.volume = record { least = least; most = most; shows = λ p. inl refl } in
      let opened = leaves_behind g (log_bytes - LOG_FRONT_BYTES) o found es m k n m.store.store.volume lost (anchored_by anchor) may in
      record { front = front; gives = gives; lawful = opened.opened.lawful; ends = opened.in_order.ends; doubts = opened.opened.doubts; roomy = opened.opened.roomy }

-- ---- in the midst of a step

module _ (g : Geometry) (log_bytes volume_bytes : ℕ) (o : Opening) (found : List LogRecord) (es later : List Entry) (m new : CheckpointedState) (more : List LogRecord)
    (k : IsAtCheckpoints g (log_bytes - LOG_FRONT_BYTES) o found es m) (next : IsAtCheckpoints g (log_bytes - LOG_FRONT_BYTES) o found later new)
    (grows : new.store.store.log ≡ m.store.store.log ++ more) (told : m.store.store.durable ≤ new.store.store.durable) where
  -- a prefix of the log before the step is one of the log behind it
  same_front : (n : ℕ) → n ≤ length m.store.store.log → take n m.store.store.log ≡ take n new.store.store.log
  same_front n few = sym (take-append-le n m.store.store.log more few) ∙ ap (take n) (sym grows)

  module _ (anchor : Anchor) (old_may : MayBeAnchored m.store (anchored_by anchor)) (new_may : MayBeAnchored new.store (anchored_by anchor)) (log_left : List ℕ)
      (front : HasAnchor g log_bytes anchor log_left) (gives : GivesKept anchor new.store.store.durable new.store.store.log log_left) (volume_image volume_left : List ℕ)
      (label : HoldsLabel Volume volume_bytes (take 512 volume_image) (volume_label g)) (shows : ShowsLeft g (take GATE_AT volume_image) m.store.store volume_left) where
    -- as many records as the log before the step has of those that the log device gives
    abbrev known : ℕ
    known = min gives.0 (length m.store.store.log)

    pub stands_within : StandsForBehind g log_bytes volume_bytes anchor (take gives.0 new.store.store.log) shows.0 log_left volume_left
    stands_within =
        let least = gives.1 in
        let durable = k.in_order.recoverable.durable in
        prefix_stands_beside g log_bytes volume_bytes anchor known gives.0 (omega arith) new.store.store.log shows.0 log_left volume_left
        (subst (λ rs. VolumeStandsBehind g volume_bytes anchor rs shows.0 volume_left) (same_front known (omega arith))
        (volume_left_behind g (log_bytes - LOG_FRONT_BYTES) volume_bytes o found es m k volume_image volume_left label shows anchor known old_may
        (omega (arith, durable, told, least)) (omega arith)))
        (log_left_behind g log_bytes o found later new next anchor new_may gives.0 least gives.2 log_left front gives.3)

-- A volume that stands behind an anchor for a list stands beside each image of the log that gives what is kept of a longer one.
use Rattle.std.proofs.Common.{◌≡◌, inr, ◌++◌, ◌-◌, ◌≤◌, ℕ, List, sym, subst, ◌∙◌, length, take, drop, arith}
use Rattle.std.proofs.Math.Seq.{take-length}
use Rattle.std.proofs.lemmas.List.{take-append-le}
use Rattle.shore_types.specs.declared.layout.Geometry.{Geometry}
use Rattle.shore_types.specs.declared.layout.TheConstants.{LOG_FRONT_BYTES}
use Rattle.shore_frames.specs.Frames.{GivesFrom}
use Rattle.shore_gate.specs.declared.anchors.Anchor.{Anchor}
use Rattle.shore_model.specs.declared.log_records.LogRecord.{LogRecord}
use Rattle.shore_model.specs.Logs.{Lawful}
use Rattle.shore_dwrite.specs.declared.places.TheConstants.{GATE_AT}
use Rattle.laws_lives.proofs.UndoRecords.{lawful_front}
use Rattle.laws_lives.specs.Pages.{AreAsOfOwnNumbers, LoggedPages}
use Rattle.laws_checkpoints.proofs.Lists.{front_of}
use Rattle.laws_checkpoints.specs.Checkpoints.{Checkpoint, IsAnchoredAt, cut_of}
use Rattle.laws_runs.proofs.Checkpointing.{cut_durable}
use Rattle.laws_runs.proofs.MovedAnchors.{cost_of_more, roomier}
use Rattle.laws_runs.specs.CheckpointSteps.{log_limit}
use Rattle.laws_runs.specs.CheckpointedStates.{found_behind}
use Rattle.laws_images.proofs.InOrder.{found_in_order}
use Rattle.laws_images.proofs.Longer.{anchored_longer, as_of_longer, leaves_longer}
use Rattle.laws_images.specs.StandsBehind.{HasAnchor, StandsForBehind, anchored_by, kept_behind}
use Rattle.laws_images.specs.StandsBeside.{LogStandsBehind, VolumeStandsBehind}

module _ (g : Geometry) (log_bytes volume_bytes : ℕ) (anchor : Anchor) where
  -- ---- the parts of a pair that stands

  module _ (rs : List LogRecord) (pages : LoggedPages) (log_image volume_image : List ℕ) (stood : StandsForBehind g log_bytes volume_bytes anchor rs pages log_image volume_image) where
    pub volume_part : VolumeStandsBehind g volume_bytes anchor rs pages volume_image
    volume_part = record { shows = stood.volume; as_of = stood.opened.opened.as_of; anchored = stood.opened.in_order.anchor }

    pub log_part : LogStandsBehind g log_bytes anchor rs log_image
    log_part = record {
      front = stood.front;
      gives = stood.log;
      lawful = stood.opened.opened.lawful;
      ends = stood.opened.in_order.ends;
      doubts = stood.opened.opened.doubts;
      roomy = stood.opened.opened.roomy;
    }

  -- ---- joined again

  module _ (first more : List LogRecord) (pages : LoggedPages) (log_image volume_image : List ℕ) (volume : VolumeStandsBehind g volume_bytes anchor first pages volume_image)
      (log : LogStandsBehind g log_bytes anchor (first ++ more) log_image) where
    first_lawful : Lawful first
    first_lawful = subst Lawful (take-append-le (length first) first more (omega arith) ∙ take-length first) (lawful_front (first ++ more) (length first) log.lawful)

    as_of : AreAsOfOwnNumbers (first ++ more) pages
    as_of = as_of_longer first more pages volume.as_of

    pub stands_beside : StandsForBehind g log_bytes volume_bytes anchor (first ++ more) pages log_image volume_image
    stands_beside =
        let most = log.front.long.1 in
        record {
          front = log.front;
          log = log.gives;
          volume = record { label = volume.shows.label; shows = leaves_longer first more pages volume.as_of g (take GATE_AT volume_image) volume_image volume.shows.shows };
          opened = record {
            opened = record { lawful = log.lawful; doubts = log.doubts; roomy = log.roomy; as_of = as_of };
            in_order = found_in_order (first ++ more) log.lawful pages as_of (anchored_by anchor) log.ends
                (anchored_longer first more first_lawful pages (anchored_by anchor) volume.anchored);
            short = omega (arith, most);
          };
        }

module _ (g : Geometry) (log_bytes volume_bytes : ℕ) (anchor : Anchor) where
  -- the same of two prefixes of one list
  pub prefix_stands_beside : (m n : ℕ) → m ≤ n → (rs : List LogRecord) (pages : LoggedPages) (log_left volume_image : List ℕ)
      → VolumeStandsBehind g volume_bytes anchor (take m rs) pages volume_image → LogStandsBehind g log_bytes anchor (take n rs) log_left
      → StandsForBehind g log_bytes volume_bytes anchor (take n rs) pages log_left volume_image
  prefix_stands_beside m n more rs pages log_left volume_image volume log =
      let parts : take m rs ++ drop m (take n rs) ≡ take n rs = front_of rs m n more in
      subst (λ l. StandsForBehind g log_bytes volume_bytes anchor l pages log_left volume_image) parts
      (stands_beside g log_bytes volume_bytes anchor (take m rs) (drop m (take n rs)) pages log_left volume_image volume (subst (λ l. LogStandsBehind g log_bytes anchor l log_left) (sym parts) log))

  -- ---- where the anchor has moved

  module _ (next : Anchor) (c : Checkpoint) (first more : List LogRecord) (pages : LoggedPages) (log_image log_left volume_image : List ℕ)
      (volume : VolumeStandsBehind g volume_bytes anchor first pages volume_image) (log : LogStandsBehind g log_bytes anchor (first ++ more) log_image) (later : anchor.tail ≤ next.tail)
      (at : IsAnchoredAt first (length first) pages pages (anchored_by next) c) (front : HasAnchor g log_bytes next log_left)
      (gives : GivesFrom next.tail next.tail_place (kept_behind next (first ++ more)) log_left) where
    abbrev limit_behind : Anchor → ℕ
    limit_behind a = log_limit (log_bytes - LOG_FRONT_BYTES) (cut_of (anchored_by a)) (first ++ more)

    -- what is cut off more is room more
    no_less : limit_behind anchor ≤ limit_behind next
    no_less = let cost = cost_of_more (first ++ more) (cut_of (anchored_by anchor)) (cut_of (anchored_by next)) (omega (arith, later)) in omega (arith, cost)

    cut_off : cut_of (anchored_by next) ≤ length (first ++ more)
    cut_off =
        let lawful = first_lawful g log_bytes volume_bytes anchor first more pages log_image volume_image volume log in
        let as_of = as_of_longer first more pages volume.as_of in
        cut_durable (found_behind (anchored_by next) (first ++ more) pages)
        (found_in_order (first ++ more) log.lawful pages as_of (anchored_by next) log.ends (anchored_longer first more lawful pages (anchored_by next) (inr (c, at))))

    pub stands_behind_next : StandsForBehind g log_bytes volume_bytes next (first ++ more) pages log_left volume_image
    stands_behind_next = stands_beside g log_bytes volume_bytes next first more pages log_left volume_image
        (record { shows = volume.shows; as_of = volume.as_of; anchored = inr (c, at) })
        (record {
          front = front;
          gives = gives;
          lawful = log.lawful;
          ends = log.ends;
          doubts = log.doubts;
          roomy = roomier g (limit_behind anchor) (limit_behind next) no_less (length (first ++ more)) (first ++ more)
              (λ n whole. let cost = cost_of_more (first ++ more) (cut_of (anchored_by next)) n (omega (arith, cut_off, whole)) in let most = front.long.1 in omega (arith, cost, most)) log.roomy;
        })

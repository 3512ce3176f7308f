-- What a loss of power leaves of the log device stays a prefix of its records with all that are durable.
use Rattle.std.proofs.Common.{◌≡◌, ◌⊎◌, ◌≤◌, ◌<◌, ◌+◌, ◌-◌, inl, inr, ℕ, zero, suc, Bool, true, false, true≢false, List, [], ◌∷◌, ◌++◌, length, take, drop, refl, sym, ◌∙◌, ap, subst, arith, length-append, append_assoc}
use Rattle.std.proofs.lemmas.List.{length-take-le, take-append-le, take-append-drop, take-take, take_at}
use Rattle.shore_types.specs.declared.faults.Device.TheVariants.{Log}
use Rattle.shore_types.specs.declared.layout.Geometry.{Geometry}
use Rattle.shore_disk.specs.Device.{DeviceHistory, LeavesOnly, may_leave, overwritten}
use Rattle.shore_disk.specs.declared.device.Disk.{Ghosts}
use Rattle.shore_disk.proofs.Moments.{at_end, started, widened}
use Rattle.shore_frames.specs.Frames.{GivesBehindFrom, GivesWithOrWithoutFrom}
use Rattle.shore_fronts.specs.Fronts.{log_label}
use Rattle.shore_gate.specs.Anchor.{Counts, offset_of, other_of}
use Rattle.shore_gate.specs.Label.{HoldsLabel}
use Rattle.shore_gate.specs.declared.anchors.Anchor.{Anchor}
use Rattle.shore_gate.specs.declared.anchors.Anchors.{Anchors}
use Rattle.shore_gate.specs.declared.anchors.Slot.{Slot}
use Rattle.shore_gate.specs.declared.anchors.Slot.TheVariants.{A, B}
use Rattle.shore_model.specs.declared.log_records.LogRecord.{LogRecord}
use Rattle.shore_log.specs.declared.device.LogDev.{LogDev}
use Rattle.shore_log.specs.Indexes.{frame_with}
use Rattle.shore_log.specs.Settled.{IsAnchored, IsLeftByMove, IsSettledFrom, IsStagedFrom, KeepsFrames, LosesFront, anchor_of, cut_of_log, next_anchor, records_of_log, stable, waiting}
use Rattle.shore_log.proofs.CutLemmas.{listed_of, with_below}
use Rattle.shore_world.proofs.MovedLemmas.{with_above}
use Rattle.shore_world.proofs.WorldLemmas.{ready_frames, ready_gives}
use Rattle.shore_world.specs.Labels.{IsLogFront}
use Rattle.shore_world.specs.Ready.{IsReadyLog}
use Rattle.shore_held.specs.Comings.{HasAim}
use Rattle.shore_held.specs.Logs.{IsKept, IsNextOf}

take_own : {A : Type 0} (n : ℕ) (xs : List A) → take (length (take n xs)) xs ≡ take n xs
take_own zero xs = refl
take_own (suc n) [] = refl
take_own (suc n) (x ∷ xs) = ap (λ l. x ∷ l) (take_own n xs)

take_short : {A : Type 0} (n : ℕ) (xs : List A) → length (take n xs) ≤ length xs
take_short n xs = omega (arith, sym (ap length (take-append-drop n xs)), length-append (take n xs) (drop n xs))

-- beside the slots of its anchors a front is as it was
over_at : (front bytes : List ℕ) (at : ℕ) → 512 ≤ at → at ≤ length front → take 512 (overwritten front at bytes) ≡ take 512 front
over_at front bytes at low within =
    let long = length-take-le at front within in
    ap (take 512) (append_assoc (take at front) bytes (drop (at + length bytes) front))
    ∙ take-append-le 512 (take at front) (bytes ++ drop (at + length bytes) front) (omega (arith, long, low)) ∙ take-take 512 at front low

over_label : (front bytes : List ℕ) (slot : Slot) → length front ≡ 4096 → take 512 (overwritten front (offset_of slot) bytes) ≡ take 512 front
over_label front bytes A long = over_at front bytes 1024 (omega arith) (omega (arith, long))
over_label front bytes B long = over_at front bytes 2048 (omega arith) (omega (arith, long))

-- so the label stays behind a move of the anchor
pub label_stays : {g : Geometry} {log_bytes : ℕ} (front bytes : List ℕ) (slot : Slot) → length front ≡ 4096 → IsLogFront g log_bytes front → IsLogFront g log_bytes (overwritten front (offset_of slot) bytes)
label_stays {g} {log_bytes} front bytes slot long is = record {
  label = subst (λ (l : List ℕ). HoldsLabel Log log_bytes l (log_label g log_bytes)) (sym (over_label front bytes slot long)) is.label;
  long = is.long;
}

-- .. and in what is left amid one
pub label_amid : (from : Anchors) (next : Anchor) (front : List ℕ) (rs : List LogRecord) (image : List ℕ) → length front ≡ 4096 → IsLeftByMove from next front rs image → take 512 image ≡ take 512 front
label_amid from next front rs image long amid = sym (take-take 512 4096 image (omega arith)) ∙ ap (take 512) amid.beside.is ∙ over_label front amid.bytes (other_of from.slot) long

module _ {L : Type 0} {G : Ghosts L} where
  -- its anchor counts in the front as long as it is the same
  anchored_same : (old new : LogDev L G) → new.anchors ≡ old.anchors → (front : List ℕ) → IsAnchored old front → IsAnchored new front
  anchored_same old new same front is = record { long = is.long; counts = subst (λ (a : Anchors). Counts front a.slot a.anchor) (sym same) is.counts }

  -- such an image behind this front
  abbrev pub Gives : LogDev L G → List ℕ → List LogRecord → List ℕ → Type 0
  Gives log front rs image = GivesBehindFrom front (anchor_of log).tail (anchor_of log).tail_place rs image

  -- ---- what a loss of power leaves amid a force

  -- a prefix of its records with all that are forced
  abbrev pub GivesForced : LogDev L G → List ℕ → List ℕ → Type 0
  GivesForced log front image = (n : ℕ) × (length (stable log) ≤ n) × (n ≤ length (records_of_log log)) × Gives log front (take n (records_of_log log)) image

  -- the longest group that waits stands behind the forced records, or it does not
  reached : (log : LogDev L G) (front image : List ℕ) (count : ℕ) → GivesWithOrWithoutFrom front (anchor_of log).tail (anchor_of log).tail_place (stable log) (take count (waiting log)) image
      → GivesForced log front image
  reached log front image count (inl without) = (
    length (stable log),
    omega arith,
    take_short log.forced (records_of_log log),
    subst (λ (x : List LogRecord). Gives log front x image) (sym (take_own log.forced (records_of_log log))) without,
  )
  reached log front image count (inr with_it) =
      let group = take count (waiting log) in
      let parts : records_of_log log ≡ (stable log ++ group) ++ drop count (waiting log) =
      sym (take-append-drop log.forced (records_of_log log)) ∙ ap (λ l. stable log ++ l) (sym (take-append-drop count (waiting log))) ∙ sym (append_assoc (stable log) group (drop count (waiting log))) in (
        length (stable log ++ group),
        omega (arith, length-append (stable log) group),
        omega (arith, ap length parts, length-append (stable log ++ group) (drop count (waiting log))),
        subst (λ (x : List LogRecord). Gives log front x image)
            (sym (ap (take (length (stable log ++ group))) parts ∙ take_at (stable log ++ group) (drop count (waiting log)) (length (stable log ++ group)) refl)) with_it,
      )

  -- the first so many that wait are staged, or go into effect
  pub group_leaves : (log : LogDev L G) (later : DeviceHistory) (front : List ℕ) (count : ℕ)
      → LeavesOnly (G.history log.device) later (GivesWithOrWithoutFrom front (anchor_of log).tail (anchor_of log).tail_place (stable log) (take count (waiting log)))
      → LeavesOnly (G.history log.device) later (GivesForced log front)
  group_leaves log later front count moments =
      widened (G.history log.device) later (GivesWithOrWithoutFrom front (anchor_of log).tail (anchor_of log).tail_place (stable log) (take count (waiting log))) (GivesForced log front) moments
      (λ image gives. reached log front image count gives)

  -- nothing goes into effect
  pub stable_leaves : (log : LogDev L G) (later : DeviceHistory) (front : List ℕ)
      → LeavesOnly (G.history log.device) later (GivesBehindFrom front (anchor_of log).tail (anchor_of log).tail_place (stable log)) → LeavesOnly (G.history log.device) later (GivesForced log front)
  stable_leaves log later front moments =
      widened (G.history log.device) later (GivesBehindFrom front (anchor_of log).tail (anchor_of log).tail_place (stable log)) (GivesForced log front) moments
      (λ image gives. reached log front image 0 (inl gives))

  -- as contracts see it
  pub as_held : (log : LogDev L G) (waits : List LogRecord) (front image : List ℕ) → GivesForced log front image
      → (n : ℕ) × (length (stable log) ≤ n) × (n + length waits ≤ length (records_of_log log ++ waits)) × Gives log front (take n (records_of_log log ++ waits)) image
  as_held log waits front image gives = (
    gives.0,
    gives.1,
    (let most = gives.2 in omega (arith, most, length-append (records_of_log log) waits)),
    subst (λ (x : List LogRecord). Gives log front x image) (sym (take-append-le gives.0 (records_of_log log) waits gives.2)) gives.3,
  )

  -- What is cut off is the first of what is kept, of which all was durable.
  pub lost_front : (old new : LogDev L G) → LosesFront old new → (waits : List LogRecord)
      → (gone : List LogRecord) × (records_of_log old ++ waits ≡ gone ++ (records_of_log new ++ waits)) × (stable old ≡ gone ++ stable new) × (cut_of_log new ≡ cut_of_log old + length gone)
  lost_front old new lost waits =
      let rs = records_of_log old in
      let count = cut_of_log new - cut_of_log old in
      let within : count ≤ length (stable old) = omega (arith, lost.last, lost.rises) in
      let forced : length (stable old) ≡ old.forced = length-take-le old.forced rs old.forced_inside in
      let gone = take count (stable old) in
      let same : gone ≡ take count rs = take-take count old.forced rs (omega (arith, within, forced)) in (
        gone,
        ap (λ l. l ++ waits) (sym (take-append-drop count rs) ∙ (λ i. sym same i ++ sym lost.records i)) ∙ append_assoc gone (records_of_log new) waits,
        sym (take-append-drop count (stable old)) ∙ ap (λ l. gone ++ l) (sym lost.forced),
        omega (arith, lost.rises, length-take-le count (stable old) within),
      )

  -- So is one of which a failure is noted.
  pub kept_failed : {g : Geometry} {log_bytes : ℕ} {aim : ℕ × ℕ} (log : LogDev L G) (failed : Bool) → IsKept g log_bytes log failed aim → IsKept g log_bytes log true aim
  kept_failed log failed k = record { front = k.front; labelled = k.labelled; images = k.images; anchored = k.anchored; ready = λ running. absurd (true≢false running) }

  -- One that has not failed is kept whatever is said of it.
  pub kept_running : {g : Geometry} {log_bytes : ℕ} {aim : ℕ × ℕ} (log : LogDev L G) (failed other : Bool) → failed ≡ false → IsKept g log_bytes log failed aim → IsKept g log_bytes log other aim
  kept_running log failed other runs k = record { front = k.front; labelled = k.labelled; images = k.images; anchored = k.anchored; ready = λ _. k.ready runs }

  next_same : (old new : LogDev L G) → KeepsFrames old new → (checkpoint number : ℕ) → next_anchor new checkpoint number ≡ next_anchor old checkpoint number
  next_same old new k checkpoint number = λ i. record {
    sequence = (k.anchors i).anchor.sequence + 1;
    checkpoint = checkpoint;
    tail = (frame_with number (k.tail i) (k.index i)).first;
    tail_place = (frame_with number (k.tail i) (k.index i)).place;
  }

  -- the tail of the next anchor is no lower than now, and no higher than the record that is to be kept
  pub next_bounds : (log : LogDev L G) (checkpoint number : ℕ) → cut_of_log log < number
      → ((anchor_of log).tail ≤ (next_anchor log checkpoint number).tail) × ((next_anchor log checkpoint number).tail ≤ number)
  next_bounds log checkpoint number low =
      let first = log.anchored.0 in
      let some = log.gone_below in
      let at_tail : log.tail.first ≤ number = omega (arith, low, some) in
      let below : (frame_with number log.tail log.frames.items).first ≤ number = with_below log.frames.items number log.tail at_tail in
      let above : log.tail.first ≤ (frame_with number log.tail log.frames.items).first =
      with_above log.frames.items log.head (log.tail.first + log.forced) number log.tail (listed_of log.head (log.tail.first + log.forced) log.frames.items log.listed) (omega (arith, log.begins.0)) in
      (omega (arith, first, above), below)

  abbrev pub Left : LogDev L G → List LogRecord → ℕ × ℕ → List ℕ → List ℕ → Type 0
  Left log waits aim front image =
      ((n : ℕ) × (length (stable log) ≤ n) × (n + length waits ≤ length (records_of_log log ++ waits)) × Gives log front (take n (records_of_log log ++ waits)) image)
      ⊎ (HasAim aim × ((next : Anchor) × IsNextOf log.anchors aim next × IsLeftByMove log.anchors next front (stable log) image))

  pub forced_left : (log : LogDev L G) (waits : List LogRecord) (aim : ℕ × ℕ) (later : DeviceHistory) (front : List ℕ) → LeavesOnly (G.history log.device) later (GivesForced log front)
      → LeavesOnly (G.history log.device) later (Left log waits aim front)
  forced_left log waits aim later front leaves =
      widened (G.history log.device) later (GivesForced log front) (Left log waits aim front) leaves (λ image gives. inl (as_held log waits front image gives))

  -- what is kept where no call is made
  pub kept_left : {g : Geometry} {log_bytes : ℕ} {aim : ℕ × ℕ} (log : LogDev L G) (failed : Bool) (waits : List LogRecord) → (k : IsKept g log_bytes log failed aim)
      → LeavesOnly (G.history log.device) (G.history log.device) (Left log waits aim k.front)
  kept_left {aim = aim} log failed waits k =
      started (G.history log.device) (Left log waits aim k.front)
      (λ image left. elim (k.images image left) [
        | inl was ↦ inl (as_held log waits k.front image was)
        | inr torn ↦
            let low = torn.0 in
            let bounds = next_bounds log aim.0 aim.1 low in
            inr (omega (arith, low), (next_anchor log aim.0 aim.1, record { checkpoint = refl; rises = bounds.0; below = bounds.1 }, torn.1))
      ])

  -- It is ready behind a move as it was before.
  pub ready_moved : (old new : LogDev L G) (after front : List ℕ) → IsReadyLog old front
      → (IsSettledFrom (anchor_of old).tail (anchor_of old).tail_place old front → IsSettledFrom (anchor_of new).tail (anchor_of new).tail_place new after)
      → ((group : List LogRecord) → IsStagedFrom (anchor_of old).tail (anchor_of old).tail_place old front group → IsStagedFrom (anchor_of new).tail (anchor_of new).tail_place new after group)
      → new.staged ≡ old.staged → IsReadyLog new after
  ready_moved old new after front (inl s) settled staged same = inl (settled s.0, same ∙ s.1)
  ready_moved old new after front (inr s) settled staged same = inr (s.0, staged s.0 s.1)

  module _ {g : Geometry} {log_bytes : ℕ} {aim : ℕ × ℕ} (old new : LogDev L G) where
    pub kept_longer : (failed : Bool) → IsKept g log_bytes old failed aim → new.device ≡ old.device → KeepsFrames old new → (more : List LogRecord) → records_of_log new ≡ records_of_log old ++ more → IsKept g log_bytes new failed aim
    kept_longer failed k device keeps more are = record {
      front = k.front;
      labelled = k.labelled;
      images = λ image left. elim (k.images image (subst (λ (d : L). may_leave (G.history d) image) device left)) [
        | inl was ↦ inl (
          was.0,
          omega (arith, was.1, ap length keeps.forced),
          omega (arith, was.2, ap length are, length-append (records_of_log old) more),
          subst (λ (a : Anchors). GivesBehindFrom k.front a.anchor.tail a.anchor.tail_place (take was.0 (records_of_log new)) image) (sym keeps.anchors)
              (subst (λ (rs : List LogRecord). Gives old k.front rs image) (sym (ap (take was.0) are ∙ take-append-le was.0 (records_of_log old) more was.2)) was.3),
        )
        | inr was ↦ inr (
          (let low = was.0 in omega (arith, low, ap (λ t. t.first) keeps.tail)),
          subst (λ (x : Anchors × Anchor × List LogRecord). IsLeftByMove x.0 x.1 k.front x.2 image)
              (λ i. (sym keeps.anchors i, sym (next_same old new keeps aim.0 aim.1) i, sym keeps.forced i)) was.1,
        )
      ];
      anchored = anchored_same old new keeps.anchors k.front k.anchored;
      ready = λ running. ready_frames old new keeps k.front (k.ready running);
    }

    -- the anchor is the same
    module _ (front : List ℕ) (labelled : IsLogFront g log_bytes front) (anchors : new.anchors ≡ old.anchors) (anchored : IsAnchored old front) where
      pub kept_ready : (failed : Bool) → IsReadyLog new front → IsKept g log_bytes new failed aim
      kept_ready failed ready = record {
        front = front;
        labelled = labelled;
        images = λ image left. inl (
          length (stable new),
          omega arith,
          take_short new.forced (records_of_log new),
          subst (λ (rs : List LogRecord). Gives new front rs image) (sym (take_own new.forced (records_of_log new))) (ready_gives new front ready image left),
        );
        anchored = anchored_same old new anchors front anchored;
        ready = λ running. ready;
      }

      -- What failed has left the stable records, with the frame under way or without it.
      pub kept_torn : (failed : Bool) → (failed ≡ false → ⊥) → stable new ≡ stable old → records_of_log new ≡ records_of_log old
          → LeavesOnly (G.history old.device) (G.history new.device) (GivesForced old front) → IsKept g log_bytes new failed aim
      kept_torn failed never forced same moments = record {
        front = front;
        labelled = labelled;
        images = λ image left. inl (as_now image (at_end (G.history old.device) (G.history new.device) (GivesForced old front) moments image left));
        anchored = anchored_same old new anchors front anchored;
        ready = λ running. absurd (never running);
      }
        where
          as_now : (image : List ℕ) → GivesForced old front image → GivesForced new front image
          as_now image was = (
            was.0,
            (let least = was.1 in omega (arith, least, ap length forced)),
            (let most = was.2 in omega (arith, most, ap length same)),
            subst (λ (x : Anchors × List LogRecord). GivesBehindFrom front x.0.anchor.tail x.0.anchor.tail_place (take was.0 x.1) image) (λ i. (sym anchors i, sym same i)) was.3,
          )

    -- The anchor has moved.
    pub kept_moved : (failed : Bool) (front : List ℕ) → IsLogFront g log_bytes front → IsAnchored new front → IsReadyLog new front → IsKept g log_bytes new failed aim
    kept_moved failed front labelled anchored ready = record {
      front = front;
      labelled = labelled;
      images = λ image left. inl (
        length (stable new),
        omega arith,
        take_short new.forced (records_of_log new),
        subst (λ (rs : List LogRecord). Gives new front rs image) (sym (take_own new.forced (records_of_log new))) (ready_gives new front ready image left),
      );
      anchored = anchored;
      ready = λ running. ready;
    }

    -- A move of the anchor that failed has left the old one or the one that it made.
    pub kept_unmoved : (failed : Bool) → (failed ≡ false → ⊥) → (front : List ℕ) → IsLogFront g log_bytes front → IsAnchored old front → cut_of_log old < aim.1 → new.anchors ≡ old.anchors → new.tail ≡ old.tail → new.frames ≡ old.frames
        → stable new ≡ stable old
        → LeavesOnly (G.history old.device) (G.history new.device) (IsLeftByMove old.anchors (next_anchor old aim.0 aim.1) front (stable old)) → IsKept g log_bytes new failed aim
    kept_unmoved failed never front labelled anchored low anchors tail frames forced moments = record {
      front = front;
      labelled = labelled;
      images = λ image left. inr (
        omega (arith, low, tail_is),
        subst (λ (x : Anchors × Anchor × List LogRecord). IsLeftByMove x.0 x.1 front x.2 image)
            (λ i. (sym anchors i, sym next_is i, sym forced i))
            (at_end (G.history old.device) (G.history new.device) (IsLeftByMove old.anchors (next_anchor old aim.0 aim.1) front (stable old)) moments image left),
      );
      anchored = anchored_same old new anchors front anchored;
      ready = λ running. absurd (never running);
    }
      where
        tail_is : new.tail.first ≡ old.tail.first
        tail_is = λ i. (tail i).first

        next_is : next_anchor new aim.0 aim.1 ≡ next_anchor old aim.0 aim.1
        next_is = λ i. record {
          sequence = (anchors i).anchor.sequence + 1;
          checkpoint = aim.0;
          tail = (frame_with aim.1 (tail i) (frames i).items).first;
          tail_place = (frame_with aim.1 (tail i) (frames i).items).place;
        }

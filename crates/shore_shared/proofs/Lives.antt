-- What each lock keeps of a world, and what both keep together in the end.
use Rattle.std.proofs.Common.{◌≡◌, ◌⊎◌, inl, inr, ◌≤◌, ◌<◌, ◌+◌, ◌-◌, ℕ, zero, suc, Bool, true, false, true≢false, IsTrue, List, [], ◌∷◌, ◌++◌, Option, Some, None, Result, Ok, Err, length, length-append, append-nil, append_assoc, take, drop, refl, sym, ◌∙◌, ap, subst, arith, slice_index}
use Rattle.std.proofs.lemmas.List.{drop-append-le, drop-take, take-append-drop, length-take-le, take-take}
use Rattle.std.proofs.Math.Seq.{drop-append_seam, take-append_seam}
use Rattle.shore_check.specs.declared.stage.Stage.{Stage}
use Rattle.shore_disk.specs.Device.{DeviceHistory, may_leave, size}
use Rattle.shore_disk.specs.declared.device.Disk as disk
use Rattle.shore_frames.specs.Frames.{GivesBehindFrom}
use Rattle.shore_fronts.specs.Fronts.{log_label}
use Rattle.shore_fronts.specs.Volumes.{volume_bytes}
use Rattle.shore_gate.specs.Anchor.{Counts}
use Rattle.shore_gate.specs.Label.{HoldsLabel}
use Rattle.shore_gate.specs.declared.anchors.Anchor.{Anchor}
use Rattle.shore_types.specs.declared.faults.Device.TheVariants.{Log}
use Rattle.shore_types.specs.declared.layout.Geometry.{Geometry}
use Rattle.shore_types.specs.declared.layout.TheConstants.{LOG_FRONT_BYTES}
use Rattle.shore_heap.specs.Heaps as heaps
use Rattle.shore_pool.specs.Pools as pools
use Rattle.shore_log.proofs.MoveLemmas.{front_counts}
use Rattle.shore_log.specs.declared.device.LogDev.{LogDev}
use Rattle.shore_log.specs.declared.tail.Tail as tail
use Rattle.shore_log.specs.Settled.{anchor_of, cut_of_log, next_anchor, records_of_log}
use Rattle.shore_model.specs.declared.histories.Entry.{Entry}
use Rattle.shore_model.specs.declared.histories.Opening.{Opening}
use Rattle.shore_model.specs.declared.log_records.LogRecord.{LogRecord}
use Rattle.shore_model.specs.declared.step.Step.{Step}
use Rattle.laws_calls.specs.States.{State}
use Rattle.laws_checkpoints.specs.CheckpointedStores.{CheckpointedStore}
use Rattle.laws_images.proofs.LeftBehind.{stand_behind}
use Rattle.laws_images.specs.Moments.{ShowsLeft}
use Rattle.laws_images.specs.StandsBehind.{HasAnchor, StandsForBehind, anchored_by}
use Rattle.laws_runs.specs.CheckpointSteps.{CheckpointedState}
use Rattle.laws_runs.specs.CheckpointedStates.{IsAtCheckpoints}
use Rattle.shore_txn.specs.Transactions.{room_in}
use Rattle.shore_core.specs.declared.core_calls.Core.{Core}
use Rattle.shore_core.specs.Cores.{IsIn, IsOver, durable_of, geometry_of, has_failed, heap_of, history_of, txns_of, waiting_of}
use Rattle.shore_world.proofs.LogParts.{log_long}
use Rattle.shore_world.proofs.StoredLemmas.{IsUpAt, left_of}
use Rattle.shore_world.proofs.WorldLemmas.{running_gives}
use Rattle.shore_world.specs.declared.world.World.{World}
use Rattle.shore_world.specs.EventMoves.{PlainMove}
use Rattle.shore_world.specs.Worlds.{IsAt, IsUnchanged, SurvivesCrashes, anchor_in, anchors_in, before_in, cut_in, durable_in, failed_in, geometry_in, history_in, last_in, list_in, stream_bytes_in, volume_history_in}
use Rattle.shore_held.proofs.Comings.{ring_of, under_way}
use Rattle.shore_held.proofs.Worlds.{comes_by_nothing, keeps_log}
use Rattle.shore_held.proofs.Aims.{never_aims}
use Rattle.shore_held.specs.Comings.{Beginning, HasAim, HasComeBy, IsAimOf}
use Rattle.shore_world.specs.Labels.{IsLogFront, IsVolumeFront}
use Rattle.shore_held.specs.Logs.{IsKept}
use Rattle.shore_held.specs.Trails.{moves_of}
use Rattle.shore_world.specs.Legs.{IsUpIn}
use Rattle.shore_held.specs.Worlds.{begins_with}
use Rattle.shore_held.specs.declared.asked.Asked.{Asked}
use Rattle.shore_shared.specs.Lives.{AreKept, HasEnded, StandAll}
use Rattle.shore_shared.specs.Remains.{IfDevices, IfWorld}
use Rattle.shore_shared.specs.declared.serving.Left.{Left}
use Rattle.shore_shared.specs.declared.serving.Left.TheVariants as left

-- ---- at the beginning

module _ {L V : Type 0} {G : disk.Ghosts L} {H : disk.Ghosts V} where
  -- the records of a world that is at the state of a manager were handed over, and nothing else was done
  pub are_kept : (old w : World L V G H) → IsUnchanged old w → waiting_of w.core ≡ [] → failed_in w ≡ false
      → (opening : Opening) (found : List LogRecord) (entries : List Entry) → (up : IsUpIn old opening found entries) → AreKept (begins_with up) w.core w.log w.stage
  are_kept old w same emptied running opening found entries up =
      let g : geometry_in w ≡ geometry_in old = ap pools.geometry_of same.pool in
      let long : stream_bytes_in w ≡ stream_bytes_in old = ap (λ (d : L). size (G.history d) - LOG_FRONT_BYTES) same.device in
      let bytes : size (history_in w) ≡ size (history_in old) = ap (λ (d : L). size (G.history d)) same.device in
      let at = same.at up.log_front up.front up.disk up.last.state up.last.store up.at in
      let way : IsAtCheckpoints (geometry_in w) (stream_bytes_in w) opening found entries up.last =
      subst (λ (x : Geometry × ℕ). IsAtCheckpoints x.0 x.1 opening found entries up.last) (λ i. (sym g i, sym long i)) up.under_way in (
        comes_by_nothing w (geometry_in w) (stream_bytes_in w) opening found entries up.last up.log_front up.front up.disk at way refl refl
            (subst (λ (x : Geometry). IsVolumeFront x up.front) (sym g) up.volume_labelled),
        keeps_log w (geometry_in w) (size (history_in w)) up.log_front
            (subst (λ (x : Geometry × ℕ). IsLogFront x.0 x.1 up.log_front) (λ i. (sym g i, sym bytes i)) up.log_labelled) at.log running,
      )

-- ---- in the end

-- either something has failed, or nothing has
one_or_other : (b : Bool) → (b ≡ true) ⊎ (b ≡ false)
one_or_other true = inl refl
one_or_other false = inr refl

-- The core of a manager for threads, whose log buffer went through the queue, is that of a world, whose records are all at the log device.
module _ {T L V : Type 0} {K : tail.Ghosts T} {G : disk.Ghosts L} {H : disk.Ghosts V} {start : Beginning} (cut : ℕ) (kept : List LogRecord) (old : Core T V K H) (w : World L V G H) (asked : List (Asked × ℕ))
    (stepped : List (Step × ℕ)) (h : HasComeBy start cut kept old w.stage (anchored_by (anchor_in w)) (moves_of asked stepped)) (heap : heap_of w.core ≡ heap_of old) (ring : ring_of w.core ≡ ring_of old)
    (state : (front : List ℕ) (disk : ℕ → List ℕ) (before after : List LogRecord) (s : State) → before ++ waiting_of old ≡ after ++ waiting_of w.core → IsIn front disk before old s → IsIn front disk after w.core s)
    (over : (disk : ℕ → List ℕ) (s : State) (store : CheckpointedStore) → IsOver disk old s store → IsOver disk w.core s store)
    (emptied : waiting_of w.core ≡ []) (gone : List LogRecord) (records : kept ++ waiting_of old ≡ gone ++ records_of_log w.log) (cut_off : cut_in w ≡ cut + length gone) where
  -- all records before the log buffer
  abbrev before : List LogRecord
  before = h.before ++ waiting_of old

  abbrev all_gone : List LogRecord
  all_gone = take cut h.before ++ gone

  all_long : length all_gone ≡ cut_in w
  all_long = omega (arith, length-append (take cut h.before) gone, length-take-le cut h.before h.cut_off, cut_off)

  before_is : before ≡ all_gone ++ records_of_log w.log
  before_is =
      ap (λ l. l ++ waiting_of old) (sym (take-append-drop cut h.before) ∙ ap (λ l. take cut h.before ++ l) h.kept_is) ∙ append_assoc (take cut h.before) kept (waiting_of old)
      ∙ ap (λ l. take cut h.before ++ l) records ∙ sym (append_assoc (take cut h.before) gone (records_of_log w.log))

  pub in_world : IsIn h.front h.disk before w.core h.last.state
  in_world = state h.front h.disk h.before before h.last.state (sym (ap (λ l. before ++ l) emptied ∙ append-nil before)) h.is_in

  abbrev pub come_by : HasComeBy start cut (gone ++ records_of_log w.log) w.core w.stage (anchored_by (anchor_in w)) (moves_of asked stepped)
  come_by = record {
    geometry = h.geometry;
    is = ap heaps.geometry_of heap ∙ h.is;
    ring_bytes = h.ring_bytes;
    ring = ring ∙ h.ring;
    began = h.began;
    plain = h.plain;
    made = h.made;
    last = h.last;
    moves = h.moves;
    are = h.are;
    before = before;
    cut_off = omega (arith, h.cut_off, length-append h.before (waiting_of old));
    kept_is = drop-append-le cut h.before (waiting_of old) h.cut_off ∙ ap (λ l. l ++ waiting_of old) h.kept_is ∙ records;
    front = h.front;
    is_front = h.is_front;
    labelled = h.labelled;
    disk = h.disk;
    is_in = in_world;
    over = over h.disk h.last.state h.last.store h.over;
    volume = λ c may. h.volume c (subst (λ (y : DeviceHistory). may_leave y c) (ap heaps.history_of heap) may);
    at = h.at;
    anchored_is = h.anchored_is;
  }

  log_is : h.last.state.log ≡ all_gone ++ records_of_log w.log
  log_is = in_world.beside.parts.log ∙ ap (λ l. before ++ l) emptied ∙ append-nil before ∙ before_is

  -- what the state has of its log is what is cut off, and what the log device has
  behind : take (cut_in w) h.last.state.log ++ records_of_log w.log ≡ before
  behind =
      ap (λ l. l ++ records_of_log w.log) (ap (take (cut_in w)) log_is ∙ ap (λ n. take n (all_gone ++ records_of_log w.log)) (sym all_long) ∙ take-append_seam all_gone (records_of_log w.log))
      ∙ sym before_is

  same_geometry : h.geometry ≡ geometry_in w
  same_geometry = sym (ap heaps.geometry_of heap ∙ h.is)

  volume : (c : List ℕ) → may_leave (volume_history_in w) c → ShowsLeft (geometry_in w) h.front h.last.store.store c
  volume c may = subst (λ (g : Geometry). ShowsLeft g h.front h.last.store.store c) same_geometry (h.volume c (subst (λ (y : DeviceHistory). may_leave y c) (ap heaps.history_of heap) may))

  -- what the log device's lock keeps, of a world whose core was told of its failure, and whose checkpoint has come to where a move of the anchor that has failed was to lead
  module _ (failed : Bool) (noted : failed ≡ true → IsTrue (failed_in w)) (aim : ℕ × ℕ) (aims : HasAim aim → IsAimOf w.stage (durable_in w) aim)
      (k : IsKept (geometry_in w) (size (history_in w)) w.log failed aim) where
    runs : failed_in w ≡ false → failed ≡ false
    runs running = elim (one_or_other failed) [
      | inl fails ↦ absurd (true≢false (sym (noted fails) ∙ running))
      | inr not ↦ not
    ]

    list : list_in w ≡ records_of_log w.log
    list = ap (λ l. records_of_log w.log ++ l) emptied ∙ append-nil (records_of_log w.log)

    survives : SurvivesCrashes w k.front
    survives = record {
      images = λ c left. elim (k.images c left) [
        | inl was ↦ inl (
          was.0,
          was.1,
          omega (arith, was.2, ap length list),
          subst (λ (rs : List LogRecord). GivesBehindFrom k.front (anchor_of w.log).tail (anchor_of w.log).tail_place (take was.0 rs) c) (sym list) was.3,
        )
        | inr torn ↦
            let low = torn.0 in
            let a = aims (omega (arith, low)) in
            inr (next_anchor w.log aim.0 aim.1, record { named = a.named; at = a.at; durable = a.logged; anchor = ap (λ (x : ℕ × ℕ). next_anchor w.log x.0 x.1) a.is }, torn.1)
      ];
      anchored = k.anchored;
      ready = λ running. k.ready (runs running);
    }

    pub ended : HasEnded start cut kept asked stepped w
    ended = record {
      logged = waiting_of old;
      gone = gone;
      records = records;
      cut_off = cut_off;
      emptied = emptied;
      come_by = come_by;
      log_front = k.front;
      log_labelled = k.labelled;
      at = record {
        is_in = subst (λ (l : List LogRecord). IsIn h.front h.disk l w.core h.last.state) (sym behind) in_world;
        over = over h.disk h.last.state h.last.store h.over;
        log = survives;
        volume = volume;
        stage = h.at;
        anchored = h.anchored_is;
      };
    }

-- it is up again
module _ {L V : Type 0} {G : disk.Ghosts L} {H : disk.Ghosts V} {start : Beginning} (cut : ℕ) (kept : List LogRecord) (asked : List (Asked × ℕ)) (stepped : List (Step × ℕ)) (w : World L V G H)
    (ended : HasEnded start cut kept asked stepped w) where
  abbrev h : HasComeBy start cut (ended.gone ++ records_of_log w.log) w.core w.stage (anchored_by (anchor_in w)) (moves_of asked stepped)
  h = ended.come_by

  pub its_bytes : h.ring_bytes ≡ stream_bytes_in w
  its_bytes = omega (arith, w.ring, h.ring)

  abbrev pub up_again : IsUpIn w start.opening start.found (start.earlier ++ h.made)
  up_again = record {
    log_front = ended.log_front;
    front = h.front;
    disk = h.disk;
    last = h.last;
    at = ended.at;
    log_labelled = ended.log_labelled;
    volume_labelled = subst (λ (g : Geometry). IsVolumeFront g h.front) (sym h.is) h.labelled;
    under_way = subst (λ (x : Geometry × ℕ). IsAtCheckpoints x.0 x.1 start.opening start.found (start.earlier ++ h.made) h.last) (λ i. (sym h.is i, its_bytes i))
        (under_way cut (ended.gone ++ records_of_log w.log) w.core w.stage (anchored_by (anchor_in w)) (moves_of asked stepped) h);
  }

-- ---- any world that is up

module _ {L V : Type 0} {G : disk.Ghosts L} {H : disk.Ghosts V} (w : World L V G H) (o : Opening) (found : List LogRecord) (es : List Entry) (up : IsUpIn w o found es) where
  up_at : IsUpAt (geometry_in w) (stream_bytes_in w) o found (take 512 up.log_front) up.front es w up.last
  up_at = record { log_front = up.log_front; labelled = refl; disk = up.disk; at = up.at; geometry = refl; long = refl; under_way = up.under_way }

  -- in each image that is left its anchor counts, as long as no device has failed
  pub its_anchor_counts : failed_in w ≡ false → (c : List ℕ) → may_leave (history_in w) c → Counts c (anchors_in w).slot (anchor_in w)
  its_anchor_counts running c left =
      front_counts (anchors_in w).slot (anchor_in w) c up.log_front (running_gives w up.log_front up.at.log running c left).3.0 up.at.log.anchored.counts

  pub all_stand : StandAll w up.last
  all_stand log_image volume_image log_left volume_left =
      let is = left_of (geometry_in w) (stream_bytes_in w) o found (take 512 up.log_front) up.front es w up.last up_at log_image volume_image (inl (log_left, volume_left)) in
      let has : HasAnchor (geometry_in w) (size (history_in w)) is.anchor log_image = record {
        label = subst (λ (l : List ℕ). HoldsLabel Log (size (history_in w)) l (log_label (geometry_in w) (size (history_in w)))) (sym is.labelled) up.log_labelled.label;
        slot = is.slot;
        counts = is.counts;
        long = up.log_labelled.long;
      } in
      let shows = subst (λ (l : List ℕ). ShowsLeft (geometry_in w) l up.last.store.store volume_image) (sym up.volume_labelled.whole) is.volume in
      let stored = up.under_way.under_way.stored in
      let stand = stand_behind (geometry_in w) (size (history_in w)) (volume_bytes (geometry_in w)) o found es up.last up.under_way up.front up.volume_labelled.label is.anchor is.may
      log_image volume_image has is.gives shows in (
        is.anchor,
        is.may,
        stand.survive,
        stand.pages,
        omega (arith, stand.lost.least, stored.durable, up.at.is_in.beside.parts.durable_is),
        omega (arith, stand.lost.most, ap length stored.log, log_long w up.last.state up.at.is_in.beside),
        subst (λ (l : List LogRecord). StandsForBehind (geometry_in w) (size (history_in w)) (volume_bytes (geometry_in w)) is.anchor (take stand.survive l) stand.pages log_image volume_image) stored.log stand.stands,
      )

-- what holds of a world that is left holds so of it
pub if_world : {L V : Type 0} {G : disk.Ghosts L} {H : disk.Ghosts V} {P Q : World L V G H → Type 0} (x : Left L V G H) → ((w : World L V G H) → P w → Q w) → IfWorld x P → IfWorld x Q
if_world (left.World w) f holds = f w holds
if_world (left.Devices log volume refusal) f holds = tt

pub if_devices : {L V : Type 0} {G : disk.Ghosts L} {H : disk.Ghosts V} {P Q : L → V → Type 0} (x : Left L V G H) → ((log : L) (volume : V) → P log volume → Q log volume) → IfDevices x P → IfDevices x Q
if_devices (left.World w) f holds = tt
if_devices (left.Devices log volume refusal) f holds = f log volume holds

-- A world that no threads had has ended by no call.
module _ {L V : Type 0} {G : disk.Ghosts L} {H : disk.Ghosts V} {start : Beginning} (w : World L V G H) (kept : AreKept start w.core w.log w.stage) (emptied : waiting_of w.core ≡ []) where
  -- where nothing waits the records before are the same
  same_before : (before after : List LogRecord) → before ++ waiting_of w.core ≡ after ++ waiting_of w.core → before ≡ after
  same_before before after same =
      sym (ap (λ l. before ++ l) emptied ∙ append-nil before) ∙ same ∙ (ap (λ l. after ++ l) emptied ∙ append-nil after)

  pub untouched : HasEnded start (cut_of_log w.log) (records_of_log w.log) [] [] w
  untouched =
      ended (cut_of_log w.log) (records_of_log w.log) w.core w [] [] kept.0 refl refl
      (λ front disk before after s same is. subst (λ l. IsIn front disk l w.core s) (same_before before after same) is) (λ disk s store is. is) emptied []
      (ap (λ l. records_of_log w.log ++ l) emptied ∙ append-nil (records_of_log w.log)) (omega arith) false (λ fails. absurd (true≢false (sym fails))) (0, 0) (never_aims (0, 0) refl) kept.1

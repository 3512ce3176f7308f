-- The way of an open: both devices are synced, the double-write area is replayed, and a restart goes on from there.
use Rattle.std.proofs.Common.{◌≡◌, ◌≢◌, inl, inr, ◌-◌, ◌∷◌, [], ℕ, List, None, Err, length, take, map, refl, sym, ap, subst, ◌∙◌, arith}
use Rattle.std.proofs.lemmas.List.{take_all}
use Rattle.shore_types.specs.declared.layout.Geometry.{Geometry}
use Rattle.shore_types.specs.declared.layout.TheConstants.{LOG_FRONT_BYTES}
use Rattle.shore_types.specs.declared.faults.Device.TheVariants.{Log, Volume}
use Rattle.shore_types.specs.declared.faults.Fault.{Fault}
use Rattle.shore_types.specs.declared.ids.PageId.{PageId}
use Rattle.shore_types.specs.Layout.{HasPage}
use Rattle.shore_disk.specs.Device.{DeviceHistory, LeavesOnly, Stands, seen, size}
use Rattle.shore_disk.specs.declared.device.Disk.{Ghosts}
use Rattle.shore_disk.proofs.Moments.{at_end, started, widened}
use Rattle.shore_gate.specs.Anchor.{Counts}
use Rattle.shore_gate.specs.Label.{HoldsLabel}
use Rattle.shore_gate.specs.declared.anchors.Anchors.{Anchors}
use Rattle.shore_model.specs.declared.log_records.LogRecord.{LogRecord}
use Rattle.shore_frames.specs.Frames.{GivesFrom}
use Rattle.shore_gate.specs.declared.anchors.Anchor.{Anchor}
use Rattle.shore_log.specs.Settled.{IsSettledFrom, cut_of_log, records_of_log, stable}
use Rattle.shore_log.specs.declared.device.LogDev.{LogDev}
use Rattle.shore_page.specs.Slots.{settled}
use Rattle.shore_page.specs.Text.{IsPageText}
use Rattle.shore_dwrite.specs.Shown.{Shows, ShowsBehind}
use Rattle.shore_dwrite.specs.Volumes.{page_number}
use Rattle.shore_dwrite.specs.declared.places.TheConstants.{GATE_AT}
use Rattle.shore_heap.specs.Contents.{unclaimed}
use Rattle.shore_heap.specs.declared.heap.Heap.{Heap}
use Rattle.shore_heap.specs.Heaps as heaps
use Rattle.laws_lives.specs.Pages.{LoggedPages}
use Rattle.laws_lives.specs.Recovery.{RecoveryState}
use Rattle.laws_runs.specs.CheckpointedStates.{found_behind}
use Rattle.shore_fronts.specs.Barriers.{IsBehindBarrier}
use Rattle.shore_fronts.specs.Fronts.{log_label}
use Rattle.shore_fronts.specs.Pairs.{HaveFronts}
use Rattle.shore_fronts.specs.Volumes.{volume_label}
use Rattle.laws_images.specs.Moments.{Moment, ShowsLeft}
use Rattle.laws_images.specs.MomentsBehind.{GivesKeptPrefix, PathBehind, begun_behind}
use Rattle.laws_images.specs.StandsBehind.{StandsForBehind, anchored_by, kept_behind}
use Rattle.shore_gate.specs.Checks.{IsFromOutside}
use Rattle.shore_types.specs.declared.faults.Fault.TheVariants as fault
use Rattle.shore_restart.specs.declared.errors.RestartError.{RestartError}
use Rattle.shore_restart.specs.declared.errors.RestartError.TheVariants as error
use Rattle.shore_analysis.specs.Padded.{padded}
use Rattle.shore_restart.specs.Standing.{IsFound, log_history, log_seen, stream_bytes_of}
use Rattle.shore_restart.specs.Turns.{IsBadRecord, LacksRoom}
use Rattle.shore_world.proofs.RestartRefusals.{refused_from_outside}
use Rattle.shore_world.specs.Refusals.{ShowsLogged, cut_behind}
use Rattle.shore_world.proofs.RestartNames.{IsJudged, anchor_lost}
use Rattle.shore_world.proofs.ShownPages.{cut_same, found_over, shown_by, shows_logged, texts_shown, texts_told, told_images}
use Rattle.shore_restart.proofs.Paths.{path_on, step_log, step_volume}
use Rattle.shore_world.specs.Opens.{OpenWay, OpensAlong, log_kept}

module _ (g : Geometry) (anchor : Anchor) (log volume : DeviceHistory) (rs : List LogRecord) (pages : LoggedPages) (log_behind volume_behind : DeviceHistory)
    (barred : IsBehindBarrier log log_behind × IsBehindBarrier volume volume_behind) where
  abbrev pub way_of : (moments : List Moment) (last : Moment) → PathBehind g (take LOG_FRONT_BYTES (seen log)) (take GATE_AT (seen volume)) anchor (begun_behind log_behind volume_behind anchor rs pages) moments last
      → OpenWay g anchor log volume rs pages
  way_of moments last path = record { log_behind = log_behind; volume_behind = volume_behind; barriers = barred; moments = moments; last = last; path = path }

module _ (g : Geometry) (log_bytes volume_bytes : ℕ) (anchor : Anchor) (rs : List LogRecord) (pages : LoggedPages) (log_image volume_image : List ℕ)
    (stood : StandsForBehind g log_bytes volume_bytes anchor rs pages log_image volume_image) where
  abbrev log_front : List ℕ
  log_front = take LOG_FRONT_BYTES log_image

  abbrev front : List ℕ
  front = take GATE_AT volume_image

  abbrev s : RecoveryState
  s = (found_behind (anchored_by anchor) rs pages).store

  -- the volume shows the pages as the log speaks of them
  pub logged : ShowsLogged g anchor (kept_behind anchor rs) rs pages volume_image
  logged = shows_logged g (log_bytes - LOG_FRONT_BYTES) anchor rs pages stood.opened volume_image stood.volume.shows

  -- the texts of the pages
  abbrev pub texts : ℕ → List ℕ
  texts = texts_shown g anchor (kept_behind anchor rs) rs pages volume_image logged

  pub shown : Shows g volume_image texts
  shown = logged.shown.1.1

  all_records : take (length rs) rs ≡ rs
  all_records = take_all (length rs) rs (omega arith)

  log_covered : (c : List ℕ) → c ≡ log_image → GivesKeptPrefix log_front anchor s c
  log_covered c is =
      subst (GivesKeptPrefix log_front anchor s) (sym is)
      (length rs, omega arith, omega arith, (refl, subst (λ (l : List LogRecord). GivesFrom anchor.tail anchor.tail_place (kept_behind anchor l) log_image) (sym all_records) stood.log))

  volume_covered : (c : List ℕ) → c ≡ volume_image → ShowsLeft g front s c
  volume_covered c is = subst (ShowsLeft g front s) (sym is) (pages, (λ p. inl refl), stood.volume.shows)

  -- the anchor that counts, in its slot
  abbrev pub counting : Anchors
  counting = record { slot = stood.front.slot; anchor = anchor }

  pub have_fronts : (log volume : DeviceHistory) → size log ≡ log_bytes → size volume ≡ volume_bytes → seen log ≡ log_image → seen volume ≡ volume_image → HaveFronts g counting log volume
  have_fronts log volume log_long volume_long log_read volume_read = (
    (
      subst (λ n. HoldsLabel Log n (take 512 (seen log)) (log_label g n)) (sym log_long)
          (subst (λ i. HoldsLabel Log log_bytes (take 512 i) (log_label g log_bytes)) (sym log_read) stood.front.label),
      subst (λ n. HoldsLabel Volume n (take 512 (seen volume)) (volume_label g)) (sym volume_long)
          (subst (λ i. HoldsLabel Volume volume_bytes (take 512 i) (volume_label g)) (sym volume_read) stood.volume.label),
    ),
    subst (λ i. Counts i stood.front.slot anchor) (sym log_read) stood.front.counts,
  )

  -- by the geometry that the fronts told
  pub shown_at : (h : Geometry) → h ≡ g → Shows h volume_image texts
  shown_at = shown_by g anchor (kept_behind anchor rs) rs pages volume_image logged

  pub texts_at : (h : Geometry) → h ≡ g → (p : PageId) → HasPage h p → IsPageText h.version (texts (page_number h p)) p (pages p).number (told_images rs pages p)
  texts_at = texts_told g anchor (kept_behind anchor rs) rs pages volume_image logged

  pub replay_at : (h : Geometry) → h ≡ g → (mid now : DeviceHistory) → LeavesOnly mid now (ShowsBehind h front texts) → LeavesOnly mid now (ShowsBehind g front texts)
  replay_at h same mid now leaves = subst (λ (x : Geometry). LeavesOnly mid now (ShowsBehind x front texts)) same leaves

  module _ (log volume : DeviceHistory) (log_stands : Stands log log_image) (volume_stands : Stands volume volume_image) where
    abbrev pub first : Moment
    first = begun_behind log volume anchor rs pages

    -- a device that was only read leaves what it was opened with
    pub log_read : (now : DeviceHistory) → now ≡ log → LeavesOnly log now (GivesKeptPrefix log_front anchor s)
    log_read now same = subst (λ (h : DeviceHistory). LeavesOnly log h (GivesKeptPrefix log_front anchor s)) (sym same) (started log (GivesKeptPrefix log_front anchor s) (λ c left. log_covered c (log_stands.only c left)))

    pub volume_read : (now : DeviceHistory) → now ≡ volume → LeavesOnly volume now (ShowsLeft g front s)
    volume_read now same = subst (λ (h : DeviceHistory). LeavesOnly volume h (ShowsLeft g front s)) (sym same) (started volume (ShowsLeft g front s) (λ c left. volume_covered c (volume_stands.only c left)))

    -- .. and so does a replay
    pub volume_replayed : (now : DeviceHistory) → LeavesOnly volume now (ShowsBehind g front texts) → LeavesOnly volume now (ShowsLeft g front s)
    volume_replayed now replay = widened volume now (ShowsBehind g front texts) (ShowsLeft g front s) replay (λ c shows. (pages, (λ p. inl refl), (texts, shows, logged.shown.2)))

    -- where both devices stand then
    abbrev pub at : DeviceHistory → DeviceHistory → Moment
    at log_now volume_now = record { log = log_now; volume = volume_now; store = s }

    pub way : (log_now volume_now : DeviceHistory) → LeavesOnly log log_now (GivesKeptPrefix log_front anchor s) → LeavesOnly volume volume_now (ShowsLeft g front s)
        → PathBehind g log_front front anchor first (at log_now volume ∷ at log_now volume_now ∷ []) (at log_now volume_now)
    way log_now volume_now of_log of_volume =
        let log_covers = at_end log log_now (GivesKeptPrefix log_front anchor s) of_log in
        let volume_covers = at_end volume volume_now (ShowsLeft g front s) of_volume in (
          step_log g log_front front anchor volume log log_now s s [] tt (λ c left. volume_covered c (volume_stands.only c left)) refl of_log,
          (step_volume g log_front front anchor log_now volume volume_now s s [] tt log_covers refl of_volume, (refl, record { log = log_covers; volume = volume_covers })),
        )

    -- .. and on from there
    pub way_on : (log_now volume_now : DeviceHistory) → LeavesOnly log log_now (GivesKeptPrefix log_front anchor s) → LeavesOnly volume volume_now (ShowsLeft g front s)
        → (moments : List Moment) (last : Moment) → PathBehind g log_front front anchor (at log_now volume_now) moments last
        → PathBehind g log_front front anchor first (at log_now volume ∷ at log_now volume_now ∷ moments) last
    way_on log_now volume_now of_log of_volume moments last on =
        path_on g log_front front anchor first (at log_now volume ∷ at log_now volume_now ∷ []) (at log_now volume_now) moments last (way log_now volume_now of_log of_volume) on

  -- ---- what a restart finds

  -- of a log device opened behind the anchor that the fronts told, and a heap
  module _ {L V : Type 0} {G : Ghosts L} {H : Ghosts V} (anchors : Anchors) (told : anchors ≡ counting) (log : LogDev L G) (heap : Heap V H)
      (log_settled : IsSettledFrom anchors.anchor.tail anchors.anchor.tail_place log log_front) (waits : (log.staged ≡ None) × (stable log ≡ records_of_log log))
      (only : GivesFrom anchors.anchor.tail anchors.anchor.tail_place (kept_behind anchor rs) log_image → records_of_log log ≡ kept_behind anchor rs)
      (geometry : heaps.geometry_of heap ≡ g) (frames : (k : ℕ) → heaps.frame_at heap k ≡ None) (shows : heaps.Shows unclaimed heap front texts (λ p. map settled (told_images rs pages p))) where
    settled_at : IsSettledFrom anchor.tail anchor.tail_place log log_front
    settled_at = subst (λ (a : Anchors). IsSettledFrom a.anchor.tail a.anchor.tail_place log log_front) told log_settled

    pub list : records_of_log log ≡ kept_behind anchor rs
    list = only (subst (λ (a : Anchors). GivesFrom a.anchor.tail a.anchor.tail_place (kept_behind anchor rs) log_image) (sym told) stood.log)

    pub found : IsFound log_front front anchor texts log heap s
    found = found_over g anchor (kept_behind anchor rs) rs pages volume_image logged log_front log heap settled_at waits.0 waits.1 list geometry frames shows

    pub cuts : cut_of_log log ≡ cut_behind anchor
    cuts = cut_same g anchor (kept_behind anchor rs) rs pages volume_image logged log_front log heap settled_at waits.0 waits.1 list geometry frames shows

    -- it has what is kept behind the anchor
    pub seen_is : log_seen log ≡ log_kept anchor rs
    seen_is = ap (λ n. padded n (records_of_log log)) cuts ∙ ap (padded (cut_behind anchor)) list

    -- so it is refused by what comes from outside alone
    pub restart_outside : size (log_history log) ≡ log_bytes → (e : RestartError) (f : Fault)
        → (e ≢ error.Memory → IsJudged (heaps.geometry_of heap) (cut_of_log log) anchors.anchor.checkpoint (records_of_log log) e)
        → ((n : ℕ) → e ≡ error.BadRecord n → IsBadRecord (heaps.geometry_of heap) (cut_of_log log) anchors.anchor.checkpoint (records_of_log log) rs n)
        → (e ≡ error.NoRoom → LacksRoom (cut_of_log log) (records_of_log log) (stream_bytes_of log)) → ((h : Fault) → e ≡ error.Page h → h ≡ fault.Device)
        → ((h : Fault) → e ≡ error.Log h → h ≡ fault.Device) → (e ≡ error.Memory → f ≡ fault.Memory) → ((h : Fault) → e ≡ error.Page h → f ≡ h)
        → ((h : Fault) → e ≡ error.Log h → f ≡ h) → IsFromOutside f
    restart_outside long e f judged bad room page force memory on_page on_log =
        refused_from_outside g (log_bytes - LOG_FRONT_BYTES) anchor rs pages stood.opened settled_at.holds.some e f
        (λ is. anchor_lost g (cut_behind anchor) anchor.checkpoint (kept_behind anchor rs) e (here (judged (λ other. let clash : error.BadAnchor ≡ error.Memory = sym is ∙ other in cc))) is)
        (λ n at. subst (λ (l : List LogRecord). IsBadRecord g (cut_behind anchor) anchor.checkpoint l rs n) list
        (subst (λ k. IsBadRecord g k anchor.checkpoint (records_of_log log) rs n) cuts (subst (λ (x : Geometry). IsBadRecord x (cut_of_log log) anchor.checkpoint (records_of_log log) rs n) geometry
        (subst (λ (a : Anchors). IsBadRecord (heaps.geometry_of heap) (cut_of_log log) a.anchor.checkpoint (records_of_log log) rs n) told (bad n at)))))
        (λ at. subst (λ (l : List LogRecord). LacksRoom (cut_behind anchor) l (log_bytes - LOG_FRONT_BYTES)) list (subst (λ k. LacksRoom k (records_of_log log) (log_bytes - LOG_FRONT_BYTES)) cuts
        (subst (λ n. LacksRoom (cut_of_log log) (records_of_log log) (n - LOG_FRONT_BYTES)) long (room at))))
        page force memory on_page on_log
      where
        here : IsJudged (heaps.geometry_of heap) (cut_of_log log) anchors.anchor.checkpoint (records_of_log log) e → IsJudged g (cut_behind anchor) anchor.checkpoint (kept_behind anchor rs) e
        here is = subst (λ (l : List LogRecord). IsJudged g (cut_behind anchor) anchor.checkpoint l e) list (subst (λ k. IsJudged g k anchor.checkpoint (records_of_log log) e) cuts
            (subst (λ (x : Geometry). IsJudged x (cut_of_log log) anchor.checkpoint (records_of_log log) e) geometry
            (subst (λ (a : Anchors). IsJudged (heaps.geometry_of heap) (cut_of_log log) a.anchor.checkpoint (records_of_log log) e) told is)))

-- ---- an open that was refused behind its barriers, before its restart

module _ (g : Geometry) (anchor : Anchor) (log volume : DeviceHistory) (rs : List LogRecord) (pages : LoggedPages)
    (stood : StandsForBehind g (size log) (size volume) anchor rs pages (seen log) (seen volume)) (log_behind volume_behind : DeviceHistory)
    (barred : IsBehindBarrier log log_behind × IsBehindBarrier volume volume_behind) where
  pub stopped : {L V : Type 0} (G : Ghosts L) (H : Ghosts V) (f : Fault) (log_now : L) (volume_now : V)
      → LeavesOnly log_behind (G.history log_now) (GivesKeptPrefix (take LOG_FRONT_BYTES (seen log)) anchor (found_behind (anchored_by anchor) rs pages).store)
      → LeavesOnly volume_behind (H.history volume_now) (ShowsLeft g (take GATE_AT (seen volume)) (found_behind (anchored_by anchor) rs pages).store)
      → OpensAlong {L = L} {V = V} {G = G} {H = H} (Err (f, log_now, volume_now)) g anchor log volume rs pages
  stopped G H f log_now volume_now of_log of_volume =
      let end : Moment = record { log = G.history log_now; volume = H.history volume_now; store = (found_behind (anchored_by anchor) rs pages).store } in
      let mid : Moment = record { log = G.history log_now; volume = volume_behind; store = (found_behind (anchored_by anchor) rs pages).store } in
      let path = way g (size log) (size volume) anchor rs pages (seen log) (seen volume) stood log_behind volume_behind barred.0.stands barred.1.stands (G.history log_now) (H.history volume_now) of_log of_volume in
      inr (way_of g anchor log volume rs pages log_behind volume_behind barred (mid ∷ end ∷ []) end path, refl, refl)

  -- .. or went on by its restart
  abbrev pub goes_on : (log_now volume_now : DeviceHistory) → LeavesOnly log_behind log_now (GivesKeptPrefix (take LOG_FRONT_BYTES (seen log)) anchor (found_behind (anchored_by anchor) rs pages).store)
      → LeavesOnly volume_behind volume_now (ShowsLeft g (take GATE_AT (seen volume)) (found_behind (anchored_by anchor) rs pages).store) → (moments : List Moment) (last : Moment)
      → PathBehind g (take LOG_FRONT_BYTES (seen log)) (take GATE_AT (seen volume)) anchor (record { log = log_now; volume = volume_now; store = (found_behind (anchored_by anchor) rs pages).store }) moments last
      → OpenWay g anchor log volume rs pages
  goes_on log_now volume_now of_log of_volume moments last on =
      let mid : Moment = record { log = log_now; volume = volume_behind; store = (found_behind (anchored_by anchor) rs pages).store } in
      let at : Moment = record { log = log_now; volume = volume_now; store = (found_behind (anchored_by anchor) rs pages).store } in
      way_of g anchor log volume rs pages log_behind volume_behind barred (mid ∷ at ∷ moments) last
      (way_on g (size log) (size volume) anchor rs pages (seen log) (seen volume) stood log_behind volume_behind barred.0.stands barred.1.stands log_now volume_now of_log of_volume moments last on)

-- The way of a restart behind an anchor: what power leaves that is lost on it.
use Rattle.std.proofs.Common.{◌≡◌, ⊎_elim, ◌++◌, ◌≤◌, ◌-◌, ℕ, List, [], ◌∷◌, refl, sym, ap, subst, ◌∙◌, take, arith}
use Rattle.std.specs.List.{AllByRecursion}
use Rattle.std.proofs.lemmas.List.{take-take}
use Rattle.shore_types.specs.declared.faults.Device.TheVariants.{Log}
use Rattle.shore_types.specs.declared.ids.PageId.{PageId}
use Rattle.shore_types.specs.declared.layout.Geometry.{Geometry}
use Rattle.shore_types.specs.declared.layout.TheConstants.{LOG_FRONT_BYTES}
use Rattle.shore_disk.specs.Device.{DeviceHistory}
use Rattle.shore_disk.proofs.Moments.{started}
use Rattle.shore_gate.specs.Anchor.{HoldsAnchor, IsOlder, other_of}
use Rattle.shore_gate.specs.Label.{HoldsLabel}
use Rattle.shore_gate.specs.declared.anchors.Anchor.{Anchor}
use Rattle.shore_model.specs.declared.log_records.LogRecord.{LogRecord}
use Rattle.shore_dwrite.specs.declared.places.TheConstants.{GATE_AT}
use Rattle.shore_format.proofs.FrontLemmas.{same_slot}
use Rattle.shore_fronts.specs.Fronts.{log_label}
use Rattle.laws_lives.specs.Pages.{LoggedPages}
use Rattle.laws_lives.specs.Recovery.{RecoveryEvent, RecoveryState}
use Rattle.laws_lives.specs.Restarts.{RestartsTo}
use Rattle.laws_heaps.proofs.LoggedLeft.{left_cut}
use Rattle.laws_heaps.specs.LoggedHeaps.{LeavesStore}
use Rattle.laws_runs.proofs.CheckpointedStays.{cut_leaves}
use Rattle.laws_runs.proofs.KeptBehind.{restart_noted}
use Rattle.laws_runs.proofs.PlainWorks.{restart_goes}
use Rattle.laws_runs.proofs.SoundStores.{restarts_join}
use Rattle.laws_runs.specs.CheckpointedStates.{found_behind}
use Rattle.laws_runs.specs.CheckpointedStays.{CheckpointedCut, IsCheckpointedCut, LosesNoPower, left_by_cut}
use Rattle.laws_runs.specs.SoundStores.{IsLost}
use Rattle.laws_images.proofs.Left.{label_stays}
use Rattle.laws_images.specs.Moments.{IsLostAlong, Moment, ShowsLeft}
use Rattle.laws_images.specs.MomentsBehind.{GivesKeptPrefix, PathBehind, RestartGoesOnBehind, begun_behind}
use Rattle.shore_frames.specs.Frames.{GivesFrom}
use Rattle.laws_images.specs.StandsBehind.{HasAnchor, StandsForBehind, anchored_by, kept_behind}
use Rattle.laws_images.specs.StandsFor.{HaveFrontsOf}

both_lose_none : (works later : List RecoveryEvent) → AllByRecursion LosesNoPower works → AllByRecursion LosesNoPower later → AllByRecursion LosesNoPower (works ++ later)
both_lose_none [] later h k = k
both_lose_none (e ∷ works) later h k = (h.0, both_lose_none works later h.1 k)

module _ (g : Geometry) (log_front front : List ℕ) (anchor : Anchor) where
  -- the store that a restart has come to
  pub record ReachesBehind (first last : RecoveryState) : Type 0 where
    pub works : List RecoveryEvent
    pub restarts : RestartsTo first works last
    pub loses_none : AllByRecursion LosesNoPower works

  reaches_on : (first next : Moment) → RestartGoesOnBehind g log_front front anchor first next → (last : RecoveryState) → ReachesBehind next.store last → ReachesBehind first.store last
  reaches_on first next goes last rest = record {
    works = goes.works ++ rest.works;
    restarts = restarts_join first.store goes.works next.store rest.works last goes.work rest.restarts;
    loses_none = both_lose_none goes.works rest.works goes.loses_none rest.loses_none;
  }

  pub path_reaches : (first : Moment) (moments : List Moment) (last : Moment) → PathBehind g log_front front anchor first moments last → ReachesBehind first.store last.store
  path_reaches first [] last path = record { works = []; restarts = subst (λ (m : Moment). m.store ≡ first.store) (sym path.0) refl; loses_none = tt }
  path_reaches first (next ∷ later) last path = reaches_on first next path.0 last.store (path_reaches next later last path.1)

  -- power lost over it leaves these images
  pub record LostBehind (first : RecoveryState) (log_image volume_image : List ℕ) : Type 0 where
    pub store : RecoveryState
    pub reached : ReachesBehind first store
    pub log : GivesKeptPrefix log_front anchor store log_image
    pub volume : ShowsLeft g front store volume_image

  nothing_done : (s : RecoveryState) → ReachesBehind s s
  nothing_done s = record { works = []; restarts = refl; loses_none = tt }

  pub lost_behind : (first : Moment) (moments : List Moment) (last : Moment) → PathBehind g log_front front anchor first moments last → (log_image volume_image : List ℕ)
      → IsLostAlong first moments log_image volume_image → LostBehind first.store log_image volume_image
  lost_behind first [] last path log_image volume_image lost = record {
    store = first.store;
    reached = nothing_done first.store;
    log = (started first.log (GivesKeptPrefix log_front anchor first.store) path.1.log).each log_image lost.0;
    volume = (started first.volume (ShowsLeft g front first.store) path.1.volume).each volume_image lost.1;
  }
  lost_behind first (next ∷ later) last path log_image volume_image lost =
      ⊎_elim
      (λ here. record {
        store = first.store;
        reached = nothing_done first.store;
        log = path.0.log.each log_image here.0;
        volume = path.0.volume.each volume_image here.1;
      })
      (λ later_on.
      let rest = lost_behind next later last path.1 log_image volume_image later_on in
      record { store = rest.store; reached = reaches_on first next path.0 rest.store rest.reached; log = rest.log; volume = rest.volume })
      lost

-- ---- an open that loses power

-- the front is what the first 4,096 bytes say
anchor_stays : (g : Geometry) (device_bytes : ℕ) (anchor : Anchor) (image c : List ℕ) → HasAnchor g device_bytes anchor image → take 4096 c ≡ take 4096 image → HasAnchor g device_bytes anchor c
anchor_stays g device_bytes anchor image c has same =
    let label : take 512 c ≡ take 512 image = sym (take-take 512 4096 c (omega arith)) ∙ ap (take 512) same ∙ take-take 512 4096 image (omega arith) in
    record {
      label = subst (λ (l : List ℕ). HoldsLabel Log device_bytes l (log_label g device_bytes)) (sym label) has.label;
      slot = has.slot;
      counts = record {
        here = subst (λ (l : List ℕ). HoldsAnchor l anchor) (sym (same_slot has.slot image c same)) has.counts.here;
        older = subst (λ (l : List ℕ). IsOlder l anchor.sequence) (sym (same_slot (other_of has.slot) image c same)) has.counts.older;
        limits = has.counts.limits;
      };
      long = has.long;
    }

pub record CutOffBehind (g : Geometry) (log_bytes volume_bytes : ℕ) (anchor : Anchor) (rs : List LogRecord) (pages : LoggedPages) (log_image volume_image log_left volume_left : List ℕ) : Type 0 where
  pub cut : CheckpointedCut
  pub is_cut : IsCheckpointedCut (anchored_by anchor) rs pages cut
  pub stands : StandsForBehind g log_bytes volume_bytes anchor (left_by_cut cut) cut.pages log_left volume_left
  pub fronts : HaveFrontsOf log_image volume_image log_left volume_left

module _ (g : Geometry) (log_bytes volume_bytes : ℕ) (anchor : Anchor) (rs : List LogRecord) (pages : LoggedPages) (log_image volume_image : List ℕ)
    (stood : StandsForBehind g log_bytes volume_bytes anchor rs pages log_image volume_image) (log volume : DeviceHistory) (moments : List Moment) (last : Moment)
    (path : PathBehind g (take LOG_FRONT_BYTES log_image) (take GATE_AT volume_image) anchor (begun_behind log volume anchor rs pages) moments last) where
  pub cut_off_behind : (log_left volume_left : List ℕ) → IsLostAlong (begun_behind log volume anchor rs pages) moments log_left volume_left
      → CutOffBehind g log_bytes volume_bytes anchor rs pages log_image volume_image log_left volume_left
  cut_off_behind log_left volume_left lost_here =
      let over =
      lost_behind g (take LOG_FRONT_BYTES log_image) (take GATE_AT volume_image) anchor (begun_behind log volume anchor rs pages) moments last path log_left volume_left lost_here in
      let noted = restart_noted (found_behind (anchored_by anchor) rs pages) over.reached.works over.store over.reached.restarts over.reached.loses_none in
      let n = over.log.0 in
      let left = over.volume.0 in
      let lost_over : IsLost over.store n left = record { least = over.log.1; most = over.log.2; shows = over.volume.1 } in
      let lost : IsLost noted.0.store n left = subst (λ s. IsLost s n left) (sym noted.2) lost_over in
      let cut : CheckpointedCut = record { restart = over.reached.works; reached = noted.0; survive = n; pages = left } in
      let is_cut : IsCheckpointedCut (anchored_by anchor) rs pages cut = record { restarts = noted.1; lost = lost } in
      let opened = cut_leaves g (log_bytes - LOG_FRONT_BYTES) (anchored_by anchor) rs pages stood.opened cut is_cut in
      let same = over.volume.2.1.0 in
      let logs : over.store.log ≡ noted.0.store.log = ap (λ (s : RecoveryState). s.log) (sym noted.2) in
      let order = (restart_goes (found_behind (anchored_by anchor) rs pages) over.reached.works noted.0 stood.opened.in_order noted.1).in_order in
      let below : (p : PageId) → (left p).number ≤ n = λ p.
      ⊎_elim
      (λ of_volume. let ahead = order.recoverable.ahead p in let e = ap (λ page. page.number) of_volume in let least = lost.least in omega (arith, ahead, e, least))
      (λ in_place. let durable = in_place.1 in let e = ap (λ page. page.number) in_place.0 in let least = lost.least in omega (arith, durable, e, least))
      (lost.shows p) in
      record {
        cut = cut;
        is_cut = is_cut;
        stands = record {
          front = anchor_stays g log_bytes anchor log_image log_left stood.front over.log.3.0;
          log = subst (λ l. GivesFrom anchor.tail anchor.tail_place (kept_behind anchor (take n l)) log_left) logs over.log.3.1;
          volume = record {
            label = label_stays g log_bytes volume_bytes volume_image volume_left stood.volume.label same;
            shows = subst (λ l. LeavesStore (take n l) g (take GATE_AT volume_left) left volume_left) logs
                (subst (λ front. LeavesStore (take n over.store.log) g front left volume_left) (sym same)
                (left_cut over.store.log g (take GATE_AT volume_image) left volume_left n over.volume.2 below));
          };
          opened = opened;
        };
        fronts = record { log = over.log.3.0; volume = same };
      }

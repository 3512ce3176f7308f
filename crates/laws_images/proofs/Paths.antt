-- The way of a restart: what power leaves that is lost on it.
use Rattle.std.proofs.Common.{◌≡◌, ⊎_elim, ◌++◌, ◌-◌, ℕ, List, [], ◌∷◌, refl, sym, ap, subst, ◌∙◌, take}
use Rattle.shore_types.specs.declared.layout.Geometry.{Geometry}
use Rattle.shore_types.specs.declared.layout.TheConstants.{LOG_FRONT_BYTES}
use Rattle.shore_disk.specs.Device.{DeviceHistory, size}
use Rattle.shore_disk.proofs.Moments.{started}
use Rattle.shore_model.specs.declared.log_records.LogRecord.{LogRecord}
use Rattle.shore_dwrite.specs.declared.places.TheConstants.{GATE_AT}
use Rattle.laws_lives.specs.Pages.{LoggedPages}
use Rattle.laws_lives.specs.Recovery.{RecoveryEvent, RecoveryState}
use Rattle.laws_lives.specs.Restarts.{RestartsTo}
use Rattle.laws_runs.proofs.SoundStores.{found_sound, restart_sound, restarts_join}
use Rattle.laws_runs.specs.SoundStores.{found_state}
use Rattle.laws_runs.specs.Stays.{IsStoredCut, StoredCut}
use Rattle.laws_images.proofs.Left.{left_stand}
use Rattle.laws_images.specs.Moments.{GivesPrefix, RestartGoesOn, IsLostAlong, Moment, Path, ShowsLeft}
use Rattle.laws_images.specs.StandsFor.{HaveFrontsOf, StandsFor, begun_on}

module _ (g : Geometry) (log_front front : List ℕ) where
  -- the store that a restart has come to
  pub record HasReached (first last : RecoveryState) : Type 0 where
    pub works : List RecoveryEvent
    pub restarts : RestartsTo first works last

  reached_on : (first next : Moment) → RestartGoesOn g log_front front first next → (last : RecoveryState) → HasReached next.store last → HasReached first.store last
  reached_on first next goes last rest = record {
    works = goes.works ++ rest.works;
    restarts = restarts_join first.store goes.works next.store rest.works last goes.work rest.restarts;
  }

  pub path_restarts : (first : Moment) (moments : List Moment) (last : Moment) → Path g log_front front first moments last → HasReached first.store last.store
  path_restarts first [] last path = record { works = []; restarts = subst (λ (m : Moment). m.store ≡ first.store) (sym path.0) refl }
  path_restarts first (next ∷ later) last path = reached_on first next path.0 last.store (path_restarts next later last path.1)

  -- no device grows on the way
  pub path_long : (first : Moment) (moments : List Moment) (last : Moment) → Path g log_front front first moments last
      → (size last.log ≡ size first.log) × (size last.volume ≡ size first.volume)
  path_long first [] last path = (ap (λ (m : Moment). size m.log) path.0, ap (λ (m : Moment). size m.volume) path.0)
  path_long first (next ∷ later) last path =
      let rest = path_long next later last path.1 in
      (rest.0 ∙ ap size path.0.log.later.1, rest.1 ∙ ap size path.0.volume.later.1)

  -- .. and power lost over it leaves these images
  pub record IsLostOver (first : RecoveryState) (log_image volume_image : List ℕ) : Type 0 where
    pub store : RecoveryState
    pub reached : HasReached first store
    pub log : GivesPrefix log_front store log_image
    pub volume : ShowsLeft g front store volume_image

  pub lost_on_path : (first : Moment) (moments : List Moment) (last : Moment) → Path g log_front front first moments last → (log_image volume_image : List ℕ)
      → IsLostAlong first moments log_image volume_image → IsLostOver first.store log_image volume_image
  lost_on_path first [] last path log_image volume_image lost = record {
    store = first.store;
    reached = record { works = []; restarts = refl };
    log = (started first.log (GivesPrefix log_front first.store) path.1.log).each log_image lost.0;
    volume = (started first.volume (ShowsLeft g front first.store) path.1.volume).each volume_image lost.1;
  }
  lost_on_path first (next ∷ later) last path log_image volume_image lost =
      ⊎_elim
      (λ here. record {
        store = first.store;
        reached = record { works = []; restarts = refl };
        log = path.0.log.each log_image here.0;
        volume = path.0.volume.each volume_image here.1;
      })
      (λ later_on.
      let rest = lost_on_path next later last path.1 log_image volume_image later_on in
      record { store = rest.store; reached = reached_on first next path.0 rest.store rest.reached; log = rest.log; volume = rest.volume })
      lost

-- ---- an open that loses power

pub record IsCutOffAs (g : Geometry) (log_bytes volume_bytes : ℕ) (rs : List LogRecord) (pages : LoggedPages) (log_image volume_image log_left volume_left : List ℕ) : Type 0 where
  pub cut : StoredCut
  pub is_cut : IsStoredCut (found_state rs pages) cut
  pub stands : StandsFor g log_bytes volume_bytes (take cut.survive cut.reached.log) cut.pages log_left volume_left
  pub fronts : HaveFrontsOf log_image volume_image log_left volume_left

module _ (g : Geometry) (log_bytes volume_bytes : ℕ) (rs : List LogRecord) (pages : LoggedPages) (log_image volume_image : List ℕ)
    (stood : StandsFor g log_bytes volume_bytes rs pages log_image volume_image) (log volume : DeviceHistory) (moments : List Moment) (last : Moment)
    (path : Path g (take LOG_FRONT_BYTES log_image) (take GATE_AT volume_image) (begun_on log volume rs pages) moments last) where
  pub cut_off_as : (log_left volume_left : List ℕ) → IsLostAlong (begun_on log volume rs pages) moments log_left volume_left
      → IsCutOffAs g log_bytes volume_bytes rs pages log_image volume_image log_left volume_left
  cut_off_as log_left volume_left lost =
      let over =
      lost_on_path g (take LOG_FRONT_BYTES log_image) (take GATE_AT volume_image) (begun_on log volume rs pages) moments last path log_left volume_left lost in
      let sound =
      restart_sound g (log_bytes - LOG_FRONT_BYTES) (found_state rs pages) over.reached.works over.store
      (found_sound g (log_bytes - LOG_FRONT_BYTES) rs pages stood.opened) over.reached.restarts in
      let left = left_stand g log_bytes volume_bytes rs pages log_image volume_image stood over.store sound log_left volume_left over.log over.volume in
      record {
        cut = record { restart = over.reached.works; reached = over.store; survive = left.survive; pages = left.pages };
        is_cut = record { restarts = over.reached.restarts; lost = left.lost };
        stands = left.stands;
        fronts = left.fronts;
      }

-- What a format leaves stands for no record, and what a loss of power leaves of a sound store stands for a prefix of its log.
use Rattle.std.proofs.Common.{◌≡◌, inl, ⊎_elim, ◌≤◌, ◌-◌, ℕ, List, [], refl, sym, ap, subst, ◌∙◌, take, arith}
use Rattle.std.proofs.lemmas.List.{take-take}
use Rattle.shore_types.specs.declared.faults.Device.TheVariants.{Volume}
use Rattle.shore_types.specs.declared.ids.PageId.{PageId}
use Rattle.shore_types.specs.declared.layout.Geometry.{Geometry}
use Rattle.shore_types.specs.declared.layout.TheConstants.{LOG_FRONT_BYTES}
use Rattle.shore_gate.specs.Label.{HoldsLabel}
use Rattle.shore_model.specs.declared.log_records.LogRecord.{LogRecord}
use Rattle.shore_dwrite.specs.Volumes.{page_at}
use Rattle.shore_dwrite.specs.declared.places.TheConstants.{GATE_AT}
use Rattle.laws_lives.specs.Pages.{LoggedPages, empty_page}
use Rattle.laws_lives.specs.Recovery.{RecoveryState}
use Rattle.shore_types.specs.Versions.{least_log-least}
use Rattle.laws_runs.proofs.SoundStores.{format_may_be_opened, left_may_be_opened}
use Rattle.laws_runs.specs.SoundStores.{IsLost, IsSoundStore}
use Rattle.laws_heaps.proofs.LoggedLeft.{empty_texts, left_cut}
use Rattle.laws_heaps.specs.LoggedHeaps.{LeavesStore}
use Rattle.shore_format.proofs.FrontLemmas.{front_stays}
use Rattle.shore_format.specs.Pairs.{AreFormatted}
use Rattle.shore_fronts.specs.Volumes.{volume_label}
use Rattle.laws_images.specs.Moments.{GivesPrefix, ShowsLeft}
use Rattle.laws_images.specs.StandsFor.{HaveFrontsOf, StandsFor}

module _ (g : Geometry) (log_bytes volume_bytes : ℕ) where
  pub formatted_stand : (log volume : List ℕ) → AreFormatted g log_bytes volume_bytes log volume → StandsFor g log_bytes volume_bytes [] (λ p. empty_page) log volume
  formatted_stand log volume f =
      let least = f.log.long.0 in
      let most = f.log.long.1 in
      record {
        log = f.log;
        volume = record {
          label = f.volume.label;
          shows = (page_at g.version volume, (refl, inl (f.volume.shut, λ k below. refl)), empty_texts g (page_at g.version volume) f.volume.empty);
        };
        opened = format_may_be_opened g (log_bytes - LOG_FRONT_BYTES) (omega (arith, least, least_log-least g.version)) (omega (arith, most));
      }

  -- the label stands where it stood
  pub label_stays : (image c : List ℕ) → HoldsLabel Volume volume_bytes (take 512 image) (volume_label g) → take GATE_AT c ≡ take GATE_AT image
      → HoldsLabel Volume volume_bytes (take 512 c) (volume_label g)
  label_stays image c holds same =
      subst (λ bytes. HoldsLabel Volume volume_bytes bytes (volume_label g))
      (sym (take-take 512 4096 image (omega arith)) ∙ ap (take 512) (sym same) ∙ take-take 512 4096 c (omega arith)) holds

  -- no page that is left has a number above the records that survive
  left_below : (s : RecoveryState) (n : ℕ) (left : LoggedPages) → IsSoundStore g (log_bytes - LOG_FRONT_BYTES) s → IsLost s n left → (p : PageId) → (left p).number ≤ n
  left_below s n left k lost p =
      let least = lost.least in
      ⊎_elim
      (λ of_volume. let ahead = k.recoverable.ahead p in let same = ap (λ page. page.number) of_volume in omega (arith, ahead, same, least))
      (λ in_place. let durable = in_place.1 in let same = ap (λ page. page.number) in_place.0 in omega (arith, durable, same, least))
      (lost.shows p)

  -- what a loss of power leaves
  pub record StandLost (s : RecoveryState) (log_image volume_image log_left volume_left : List ℕ) : Type 0 where
    pub survive : ℕ
    pub pages : LoggedPages
    pub lost : IsLost s survive pages
    pub stands : StandsFor g log_bytes volume_bytes (take survive s.log) pages log_left volume_left
    pub fronts : HaveFrontsOf log_image volume_image log_left volume_left

  pub left_stand : (rs : List LogRecord) (pages : LoggedPages) (log_image volume_image : List ℕ) → StandsFor g log_bytes volume_bytes rs pages log_image volume_image
      → (s : RecoveryState) → IsSoundStore g (log_bytes - LOG_FRONT_BYTES) s → (log_left volume_left : List ℕ)
      → GivesPrefix (take LOG_FRONT_BYTES log_image) s log_left → ShowsLeft g (take GATE_AT volume_image) s volume_left
      → StandLost s log_image volume_image log_left volume_left
  left_stand rs pages log_image volume_image stood s k log_left volume_left gives shows =
      let n = gives.0 in
      let left = shows.0 in
      let lost : IsLost s n left = record { least = gives.1; most = gives.2; shows = shows.1 } in
      let front = shows.2.1.0 in
      record {
        survive = n;
        pages = left;
        lost = lost;
        stands = record {
          log = record { front = front_stays g log_bytes log_image log_left stood.log.front gives.3.0; log = gives.3.1; long = stood.log.long };
          volume = record {
            label = label_stays volume_image volume_left stood.volume.label front;
            shows = subst (λ front. LeavesStore (take n s.log) g front left volume_left) (sym front)
                (left_cut s.log g (take GATE_AT volume_image) left volume_left n shows.2 (left_below s n left k lost));
          };
          opened = left_may_be_opened g (log_bytes - LOG_FRONT_BYTES) s k n left lost;
        };
        fronts = record { log = gives.3.0; volume = front };
      }

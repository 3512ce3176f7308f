-- What an End of a roomy log lists lies in bounds, since the records do that it names.
use Rattle.std.proofs.Common.{◌≡◌, ◌++◌, ◌<◌, ◌≤◌, ◌-◌, ℕ, List, [], ◌∷◌, None, Option, Some, refl, ap, subst, length, take}
use Rattle.std.specs.Prelude.{All, IsSomeAnd, slice_get}
use Rattle.std.specs.List.{AllByRecursion}
use Rattle.std.proofs.lemmas.List.Elements.{recursion_from_All}
use Rattle.shore_types.specs.Images.{Image}
use Rattle.shore_types.specs.Layout.{HasPage}
use Rattle.shore_types.specs.declared.ids.PageId.{PageId}
use Rattle.shore_types.specs.declared.ids.Rid.{Rid}
use Rattle.shore_types.specs.declared.layout.Geometry.{Geometry}
use Rattle.shore_types.specs.declared.layout.TheConstants.{LAST_TXN}
use Rattle.shore_model.specs.declared.log_records.DirtyPage.{DirtyPage}
use Rattle.shore_model.specs.declared.log_records.LogRecord.{LogRecord}
use Rattle.shore_model.specs.declared.log_records.LogTxn.{LogTxn}
use Rattle.shore_model.specs.declared.log_records.Payload.{Payload}
use Rattle.shore_model.specs.declared.log_records.Payload.TheVariants.{Change, CheckpointEnd, Compensation}
use Rattle.shore_model.specs.declared.log_records.Payload.TheVariants as payload
use Rattle.shore_model.specs.Logs.{id_in, image_in}
use Rattle.shore_analysis.specs.Meant.{IsInBounds, IsPageListed, ListsInBounds, next_in}
use Rattle.shore_analysis.proofs.MeantLogs.{before_last}
use Rattle.laws_lives.proofs.Lists.{recursion-at, recursion-take}
use Rattle.laws_lives.proofs.Redo.{slice_get_last}
use Rattle.laws_checkpoints.specs.RecoveryNumbers.{ChangesPage, EndsListChanges, ListsChanges}
use Rattle.laws_runs.proofs.Prefixes.{whole_placed}
use Rattle.laws_runs.specs.RoomyLogs.{AreRoomy}

unwrap : {A : Type 0} {x y : A} → Some x ≡ Some y → x ≡ y
unwrap e = cc

no_image : {A : Type 0} {x : A} → ◌≡◌ {A = Option A} None (Some x) → ⊥
no_image e = cc

-- a record that leaves an image names its id
names_id : (p : Payload) (e : Rid × Image) → image_in p ≡ Some e → id_in p ≡ Some e.0
names_id (Change id was image) e is = ap (λ (x : Rid × Image). Some x.0) (unwrap is)
names_id (Compensation id image undo_next) e is = ap (λ (x : Rid × Image). Some x.0) (unwrap is)
names_id _ e is = absurd (no_image is)

module _ (g : Geometry) where
  page_of_image : (o : Option (Rid × Image)) (r : LogRecord) (p : PageId) → IsInBounds g r → image_in r.payload ≡ o → IsSomeAnd o (λ e. e.0.page ≡ p) → HasPage g p
  page_of_image None r p bounds is h = absurd h
  page_of_image (Some e) r p bounds is h = subst (HasPage g) h (bounds.id e.0 (names_id r.payload e is)).0

  page_of_record : (rs : List LogRecord) (o : Option LogRecord) (p : PageId) → AllByRecursion (IsInBounds g) rs → (n : ℕ) → slice_get rs n ≡ o
      → IsSomeAnd o (λ r. IsSomeAnd (image_in r.payload) (λ e. e.0.page ≡ p)) → HasPage g p
  page_of_record rs None p all n at h = absurd h
  page_of_record rs (Some r) p all n at h = page_of_image (image_in r.payload) r p (recursion-at (IsInBounds g) rs n r all at) refl h

  pages_listed : (rs : List LogRecord) → AllByRecursion (IsInBounds g) rs → (begin : ℕ) (dirty : List DirtyPage)
      → AllByRecursion (λ d. (d.recovery < begin) × ChangesPage rs d.recovery d.page) dirty → AllByRecursion (IsPageListed g begin) dirty
  pages_listed rs all begin [] h = tt
  pages_listed rs all begin (d ∷ dirty) h =
      ((page_of_record rs (slice_get rs (d.recovery - 1)) d.page all (d.recovery - 1) refl h.0.1.1, h.0.0), pages_listed rs all begin dirty h.1)

  -- so what an End lists that lists changes
  lists_in_bounds : (rs : List LogRecord) → AllByRecursion (IsInBounds g) rs → (p : Payload)
      → ((begin next : ℕ) (txns : List LogTxn) (dirty : List DirtyPage) → p ≡ CheckpointEnd begin next txns dirty → ListsChanges rs begin dirty) → ListsInBounds g p
  lists_in_bounds rs all (Change id was image) h = tt
  lists_in_bounds rs all (Compensation id image undo_next) h = tt
  lists_in_bounds rs all payload.Commit h = tt
  lists_in_bounds rs all payload.End h = tt
  lists_in_bounds rs all (payload.Prepare global granules) h = tt
  lists_in_bounds rs all payload.RollbackDecided h = tt
  lists_in_bounds rs all payload.CheckpointBegin h = tt
  lists_in_bounds rs all (CheckpointEnd begin next txns dirty) h = pages_listed rs all begin dirty (h begin next txns dirty refl)
  lists_in_bounds rs all (payload.Anchor checkpoint tail) h = tt

  -- .. behind records that are in bounds
  pub last_in_bounds : (rs : List LogRecord) (r : LogRecord) → All (IsInBounds g) rs → EndsListChanges (rs ++ r ∷ []) → ListsInBounds g r.payload
  last_in_bounds rs r all ends =
      lists_in_bounds rs (recursion_from_All (IsInBounds g) rs all) r.payload
      (λ begin next txns dirty is.
      subst (λ l. ListsChanges l begin dirty) (before_last rs r) (ends (length rs) r begin next txns dirty (slice_get_last rs r) is))

pub end_in_limits : (g : Geometry) (stream_bytes least : ℕ) (log : List LogRecord) → AreRoomy g stream_bytes least log → EndsListChanges log → (n : ℕ) (r : LogRecord) (begin next : ℕ)
    (txns : List LogTxn) (dirty : List DirtyPage) → slice_get log n ≡ Some r → r.payload ≡ CheckpointEnd begin next txns dirty → (next ≤ LAST_TXN) × AllByRecursion (IsPageListed g begin) dirty
end_in_limits g stream_bytes least log k ends n r begin next txns dirty at is =
    let inside = recursion_from_All (IsInBounds g) log (whole_placed g stream_bytes least log k).inside in
    let here = recursion-at (IsInBounds g) log n r inside at in
    (subst (λ p. next_in p ≤ LAST_TXN) is here.next, pages_listed g (take n log) (recursion-take (IsInBounds g) n log inside) begin dirty (ends n r begin next txns dirty at is))

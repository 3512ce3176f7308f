-- What comes of an insert behind its locks can be told.
use Rattle.std.proofs.Common.{◌≡◌, ◌⊎◌, inl, inr, ⊎_elim, ◌+◌, ◌<◌, ℕ, List, Some, None, Option, refl, ap, subst, ◌∙◌, length, Ok, Err}
use Rattle.std.specs.FinMap.{get}
use Rattle.std.specs.Prelude.{Option, IsSomeAnd, Result, slice_get}
use Rattle.shore_types.specs.declared.faults.Fault.{Fault}
use Rattle.shore_types.specs.declared.ids.Rid.{Rid}
use Rattle.shore_types.specs.declared.layout.Geometry.{Geometry}
use Rattle.shore_types.specs.declared.locking.Granule.{Granule}
use Rattle.shore_types.specs.declared.locking.Granule.TheVariants as granule
use Rattle.shore_types.specs.declared.locking.Mode.{Mode}
use Rattle.shore_types.specs.declared.locking.Mode.TheVariants.{EX}
use Rattle.shore_types.specs.Versions.{slot_limit}
use Rattle.shore_model.specs.declared.requests.Request.{Request}
use Rattle.shore_path.specs.Walks.{acquired}
use Rattle.shore_path.specs.declared.answers.Acquired.{Acquired}
use Rattle.shore_path.specs.declared.answers.Acquired.TheVariants as acquire
use Rattle.shore_path.specs.declared.answers.OnConflict.TheVariants as conflict
use Rattle.laws_locks.specs.CallLocks.{CanLockNow}
use Rattle.laws_calls.proofs.Decided.{OrNot, at_most, both, fits_or_not, none_or_not, page_or_not, same_number}
use Rattle.laws_calls.proofs.LowestPlaces.{lowest_or_none}
use Rattle.laws_calls.specs.CallSteps.{IsPlaceOf, ServesTxn}
use Rattle.laws_calls.specs.States.{State, page_slots}

pub can_lock_or_not : (rs : List Request) (t : ℕ) (at : Granule) (mode : Mode) → OrNot (CanLockNow rs t at mode)
can_lock_or_not rs t at mode = by (acquired conflict.Refuse (record { limit = length rs + 4; requests = rs }) t at mode).answer
  where
    by : (r : Result Acquired Fault) → OrNot (r ≡ Ok acquire.Done)
    by (Ok acquire.Done) = inl refl
    by (Ok (acquire.Waiting h)) = inr (λ e. absurd cc)
    by (Err f) = inr (λ e. absurd cc)

-- ---- the place of an insert

module _ (g : Geometry) (s : State) (t store : ℕ) (bytes : List ℕ) where
  pub serves_or_not : (id : Rid) → OrNot (ServesTxn g s t store bytes id)
  serves_or_not id =
      ⊎_elim
      (λ h. inl (record { of_store = h.0; inside = h.1.0; empty = h.1.1.0; reached = h.1.1.1.0; fits = h.1.1.1.1.0; free = h.1.1.1.1.1 }))
      (λ none. inr (λ h. none (h.of_store, (h.inside, (h.empty, (h.reached, (h.fits, h.free)))))))
      (both (same_number id.page.store store) (both (page_or_not g id.page) (both (none_or_not (get s.sessions.records id))
      (both (at_most id.slot (s.counts id.page)) (both (fits_or_not g.version (page_slots s id.page) id.slot (length bytes)) (can_lock_or_not s.locks.requests t (granule.Record id) EX))))))

  abbrev pub PlaceOrNone : Type 0
  PlaceOrNone = ((id : Rid) × IsPlaceOf g s t store bytes id) ⊎ ((id : Rid) → ServesTxn g s t store bytes id → ⊥)

  pub page_inside : (n : ℕ) (o : Option ℕ) → o ≡ Some n → (page : ℕ) → IsSomeAnd o (λ pages. page < pages) → page < n
  page_inside n o is page h = subst (λ o. IsSomeAnd o (λ pages. page < pages)) is h

  pub no_page : (o : Option ℕ) → o ≡ None → (page : ℕ) → IsSomeAnd o (λ pages. page < pages) → ⊥
  no_page o is page h = subst (λ o. IsSomeAnd o (λ pages. page < pages)) is h

  pub place_or_none : PlaceOrNone
  place_or_none = by (slice_get g.stores store) refl
    where
      by : (o : Option ℕ) → slice_get g.stores store ≡ o → PlaceOrNone
      by None none = inr (λ id h. no_page (slice_get g.stores id.page.store) (ap (slice_get g.stores) h.of_store ∙ none) id.page.page h.inside)
      by (Some pages) has =
          lowest_or_none (ServesTxn g s t store bytes) serves_or_not store pages (slot_limit g.version)
          (λ id h. (h.of_store, page_inside pages (slice_get g.stores id.page.store) (ap (slice_get g.stores) h.of_store ∙ has) id.page.page h.inside, h.fits.there))

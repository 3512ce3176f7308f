-- That a fault which says that a device is damaged names a page that could not be read.
use Rattle.std.proofs.Common.{◌≡◌, ◌⊎◌, inl, inr, ℕ, List, Result, Ok, Err, IfErr, IsErrAnd, sym, subst, ◌∙◌}
use Rattle.shore_dwrite.specs.Volumes.{HasNoPage, page_number, page_offset}
use Rattle.shore_heap.specs.Places.{IsRefusedAmong}
use Rattle.shore_types.specs.Layout.{HasPage}
use Rattle.shore_types.specs.declared.faults.Device.{Device}
use Rattle.shore_types.specs.declared.faults.Device.TheVariants.{Volume}
use Rattle.shore_types.specs.declared.faults.Fault.{Fault}
use Rattle.shore_types.specs.declared.faults.Fault.TheVariants as fault
use Rattle.shore_types.specs.declared.ids.PageId.{PageId}
use Rattle.shore_types.specs.declared.layout.Geometry.{Geometry}
use Rattle.shore_core.specs.Replies.{IsEarned}

module _ (g : Geometry) (disk : ℕ → List ℕ) (last : ℕ) (IsRead : PageId → Type 0) where
  -- a fault that says nothing of a device
  pub says_nothing : (f : Fault) → ((d : Device) (offset : ℕ) → f ≡ fault.Damaged d offset → ⊥) → IsEarned g disk last IsRead f
  says_nothing f none d offset is = absurd (none d offset is)

  pub page_earned : (X : ℕ → Type 0) (id : PageId) (n : ℕ) (f : Fault) → n ≡ last → IsRead id → HasPage g id
      → (f ≡ fault.Device) ⊎ (f ≡ fault.Memory) ⊎ ((f ≡ fault.Damaged Volume (page_offset g.version (page_number g id))) × HasNoPage g.version (disk (page_number g id)) id n)
      ⊎ ((number : ℕ) × (f ≡ fault.NeedForce number) × X number) → IsEarned g disk last IsRead f
  page_earned X id n f same read there (inl device) d offset is = absurd cc
  page_earned X id n f same read there (inr (inl memory)) d offset is = absurd cc
  page_earned X id n f same read there (inr (inr (inl damaged))) d offset is =
      let at : fault.Damaged d offset ≡ fault.Damaged Volume (page_offset g.version (page_number g id)) = sym is ∙ damaged.0 in
      (cc, (id, read, there, cc, subst (HasNoPage g.version (disk (page_number g id)) id) same damaged.1))
  page_earned X id n f same read there (inr (inr (inr force))) d offset is = absurd (apart (sym is ∙ force.1))
    where
      apart : fault.Damaged d offset ≡ fault.NeedForce force.0 → ⊥
      apart e = cc

  pub store_earned : (IsFetched : PageId → Type 0) (X : ℕ → Type 0) (n : ℕ) (f : Fault) → n ≡ last → ((id : PageId) → HasPage g id → IsFetched id → IsRead id)
      → IsRefusedAmong g disk IsFetched n f ⊎ ((number : ℕ) × (f ≡ fault.NeedForce number) × X number) → IsEarned g disk last IsRead f
  store_earned IsFetched X n f same read (inl (inl device)) d offset is = absurd cc
  store_earned IsFetched X n f same read (inl (inr (inl memory))) d offset is = absurd cc
  store_earned IsFetched X n f same read (inl (inr (inr (id, there, fetched, damaged, no_page)))) d offset is =
      let at : fault.Damaged d offset ≡ fault.Damaged Volume (page_offset g.version (page_number g id)) = sym is ∙ damaged in
      (cc, (id, read id there fetched, there, cc, subst (HasNoPage g.version (disk (page_number g id)) id) same no_page))
  store_earned IsFetched X n f same read (inr force) d offset is = absurd (apart (sym is ∙ force.1))
    where
      apart : fault.Damaged d offset ≡ fault.NeedForce force.0 → ⊥
      apart e = cc

  -- a fault that is handed on
  pub earned_as : {A : Type 0} (r : Result A Fault) (f : Fault) → IsErrAnd r (λ e. e ≡ f) → IsEarned g disk last IsRead f → IfErr r (IsEarned g disk last IsRead)
  earned_as (Err e) f same earned = λ d offset is. earned d offset (sym same ∙ is)
  earned_as (Ok x) f same earned = tt

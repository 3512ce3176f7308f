-- The first place of a store, by what is known of its pages.
use Rattle.std.proofs.Common.{◌≡◌, ◌+◌, ◌<◌, ◌≤◌, ℕ, List, Option, None, Some, IfNone, IfSome, IsSomeAnd, refl, sym, ap, subst, ◌∙◌, inl, inr, arith}
use Rattle.std.proofs.lemmas.Bool.{cases_eq, cases_lt}
use Rattle.shore_types.specs.declared.ids.PageId.{PageId}
use Rattle.shore_types.specs.declared.ids.Rid.{Rid}
use Rattle.shore_types.specs.declared.layout.Geometry.{Geometry}
use Rattle.shore_types.specs.Layout.{HasPage, HasSlot}
use Rattle.shore_page.specs.Room.{IsCandidate}
use Rattle.shore_page.specs.Slots.{Slot}
use Rattle.shore_heap.specs.Contents.{AreBounds, bound_of}
use Rattle.shore_pool.specs.declared.frame.Frame.{Frame}
use Rattle.shore_heap.specs.Places.{HasNoPlace, HasNoSlot, IsFirstSlot, IsPlace, Takes, slots_of}

abbrev the_page : ℕ → ℕ → PageId
the_page store page = record { store = store; page = page }

abbrev the_id : ℕ → ℕ → ℕ → Rid
the_id store page slot = record { page = the_page store page; slot = slot }

pub if_some_at : {A : Type 0} (P : A → Type 0) (o : Option A) (x : A) → o ≡ Some x → IfSome o P → P x
if_some_at P None x is p = let clash : None ≡ Some x = is in absurd cc
if_some_at P (Some y) x is p = let same : y ≡ x = cc in subst P same p

pub if_none_at : {A : Type 0} (P : Type 0) (o : Option A) → o ≡ None → IfNone o P → P
if_none_at P None is p = p
if_none_at P (Some y) is p = let clash : Some y ≡ None = is in absurd cc

module _ (g : Geometry) (S : PageId → List Slot) (store bytes : ℕ) (MayTake : Rid → Type 0) where
  -- no slot of a page takes so many bytes and may be taken
  abbrev pub NoneOn : ℕ → Type 0
  NoneOn page = HasPage g (the_page store page) → HasNoSlot g.version (S (the_page store page)) bytes (slots_of MayTake (the_page store page))

  page_is : (id : PageId) → id.store ≡ store → the_page store id.page ≡ id
  page_is id of_store = ap (λ (n : ℕ). the_page n id.page) (sym of_store)

  refused : (id : Rid) → Takes g S store bytes MayTake id → NoneOn id.page.page → ⊥
  refused id takes none =
      subst (λ (p : PageId). HasPage g p → HasNoSlot g.version (S p) bytes (slots_of MayTake p)) (page_is id.page takes.of_store) none takes.there id.slot takes.candidate takes.allowed

  pub no_place : ((page : ℕ) → NoneOn page) → HasNoPlace g S store bytes MayTake
  no_place each id takes = refused id takes (each id.page.page)

  pub is_place : (page slot : ℕ) → ((j : ℕ) → j < page → NoneOn j) → HasPage g (the_page store page) → IsFirstSlot g.version (S (the_page store page)) bytes (slots_of MayTake (the_page store page)) slot
      → IsPlace g S store bytes MayTake (the_id store page slot)
  is_place page slot below there first = record {
    takes = record { there = there; of_store = refl; candidate = first.candidate; allowed = first.allowed };
    first = λ other takes. (
      elim (cases_lt other.page.page page) [ inl less ↦ absurd (refused other takes (below other.page.page less)) | inr more ↦ more ],
      λ same.
          let here : other.page ≡ the_page store page = sym (page_is other.page takes.of_store) ∙ ap (λ (n : ℕ). the_page store n) same in
          first.first other.slot (subst (λ (p : PageId). IsCandidate g.version (S p) other.slot bytes) here takes.candidate) (subst (λ (p : PageId). slots_of MayTake p other.slot) here takes.allowed),
    );
  }

  -- what the bounds refuse
  pub none_by_bound : (free : List (List ℕ)) → AreBounds g free S → (page : ℕ) → bound_of free (the_page store page) ≤ bytes → NoneOn page
  none_by_bound free are page up_to has slot takes allowed = are (the_page store page) bytes has up_to slot takes.empty takes.fits

  -- no place of a page may be taken
  pub none_unused : (page : ℕ) → ((id : Rid) → id.page ≡ the_page store page → MayTake id → ⊥) → NoneOn page
  none_unused page none has slot takes allowed = none (the_id store page slot) refl allowed

  -- a page more has none
  pub none_next : (from page : ℕ) → ((j : ℕ) → j < from → NoneOn j) → ((j : ℕ) → from ≤ j → j < page → NoneOn j) → NoneOn page → (j : ℕ) → j < page + 1 → NoneOn j
  none_next from page below passed here j less = elim (cases_eq j page) [
    | inl same ↦ subst NoneOn (sym same) here
    | inr other ↦ elim (cases_lt j from) [ inl low ↦ below j low | inr high ↦ passed j high (omega (arith, other, less)) ]
  ]

-- a slot that takes bytes in a frame is one that a record may have
pub slot_there : (g : Geometry) (id : Rid) (o : Option Frame) (bytes : ℕ) → HasPage g id.page → IsSomeAnd o (λ f. IsCandidate g.version f.page.slots id.slot bytes) → HasSlot g id
slot_there g id (Some f) bytes there free = (there, free.fits.there)
slot_there g id None bytes there free = absurd free

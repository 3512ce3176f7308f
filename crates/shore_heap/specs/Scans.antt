-- The records of a store, in place order.
use Rattle.std.specs.Prelude.{◌≡◌, ◌≢◌, ◌⊎◌, ◌<◌, ◌≤◌, ℕ, T, List, [], ◌∷◌, Option, None, Some, length, nat_lt, slice_get, unwrap_or, if◌then◌else◌}
use Rattle.std.specs.FinMap.{get}
use Rattle.std.specs.FinMap.Entries.{find, is_sorted}
use Rattle.shore_types.specs.declared.ids.PageId.{PageId}
use Rattle.shore_types.specs.declared.ids.Rid.{Rid}
use Rattle.shore_types.specs.declared.layout.Geometry.{Geometry}
use Rattle.shore_types.specs.Ids.{rid_cmp}
use Rattle.shore_types.specs.Layout.{HasPage}
use Rattle.shore_model.specs.Records.{Records, part_of, scan_of}
use Rattle.shore_page.specs.Slots.{Slot, image_at_slot}

-- an id of a store that comes before a slot of one of its pages
abbrev pub IsBefore : ℕ → ℕ → ℕ → Rid → Type 0
IsBefore store page slot id = (id.page.store ≡ store) × ((id.page.page < page) ⊎ ((id.page.page ≡ page) × (id.slot < slot)))

-- the ids of all these records do
abbrev pub AreBefore : ℕ → ℕ → ℕ → List (Rid × List ℕ) → Type 0
AreBefore store page slot [] = Unit {0}
AreBefore store page slot (e ∷ es) = IsBefore store page slot e.0 × AreBefore store page slot es

module _ (S : PageId → List Slot) where
  -- the records before a slot of a page, each once, and no other: their ids rise
  pub record HasBefore (store page slot : ℕ) (list : List (Rid × List ℕ)) : Type 0 where
    pub rises : T (is_sorted rid_cmp list)
    pub before : AreBefore store page slot list
    pub has : (id : Rid) → IsBefore store page slot id → find rid_cmp id list ≡ image_at_slot (S id.page) id.slot
    pub none : (id : Rid) → (IsBefore store page slot id → ⊥) → find rid_cmp id list ≡ None

  -- the records of a store, each once, and no other: their ids rise
  pub record IsScan (g : Geometry) (store : ℕ) (list : List (Rid × List ℕ)) : Type 0 where
    pub rises : T (is_sorted rid_cmp list)
    pub has : (id : Rid) → id.page.store ≡ store → HasPage g id.page → find rid_cmp id list ≡ image_at_slot (S id.page) id.slot
    pub none : (id : Rid) → (HasPage g id.page → id.page.store ≢ store) → find rid_cmp id list ≡ None

-- the slots of pages from one on; those before it are taken for empty
abbrev pub slots_from : ℕ → (PageId → List Slot) → PageId → List Slot
slots_from from S id = if nat_lt id.page from then [] else S id

-- the records on the pages of a store from one on and before another, each once, and no other: their ids rise
abbrev pub IsPart : (PageId → List Slot) → ℕ → ℕ → ℕ → List (Rid × List ℕ) → Type 0
IsPart S store from to list = HasBefore (slots_from from S) store to 0 list

-- a page of the same store from one on
abbrev pub IsFrom : PageId → PageId → Type 0
IsFrom first id = (id.store ≡ first.store) × (first.page ≤ id.page)

-- .. that a part has to read: it is the first, or the pages before it have fewer records than were asked for
abbrev pub IsReadFor : (PageId → List Slot) → PageId → ℕ → PageId → Type 0
IsReadFor S first most id = IsFrom first id × (first.page < id.page → (part : List (Rid × List ℕ)) → IsPart S first.store first.page id.page part → length part < most)

-- where a part ends: before the page that comes next, or with the store
abbrev pub part_end : Geometry → ℕ → Option PageId → ℕ
part_end g store None = unwrap_or (slice_get g.stores store) 0
part_end g store (Some next) = next.page

-- the pages have these records, and each record is in a page
pub record Tells (g : Geometry) (S : PageId → List Slot) (R : Records) : Type 0 where
  pub inside : (id : Rid) → HasPage g id.page → get R id ≡ image_at_slot (S id.page) id.slot
  pub outside : (id : Rid) → (HasPage g id.page → ⊥) → get R id ≡ None

-- such a list is the model's scan of the store
abbrev pub ScansAsTheModel : Type 0
ScansAsTheModel = (g : Geometry) (S : PageId → List Slot) (store : ℕ) (list : List (Rid × List ℕ)) (R : Records) → IsScan S g store list → Tells g S R → list ≡ scan_of store R

-- .. and such a part is the model's part of it
abbrev pub PartsAsTheModel : Type 0
PartsAsTheModel = (g : Geometry) (S : PageId → List Slot) (store from to : ℕ) (list : List (Rid × List ℕ)) (R : Records) → to ≤ unwrap_or (slice_get g.stores store) 0
    → IsPart S store from to list → Tells g S R → list ≡ part_of store from to R

-- Where an insert goes: the lowest slot, on the lowest page of its store, that is empty, fits the record, and can be locked now.
use Rattle.std.specs.Prelude.{◌≡◌, ◌⊎◌, ◌<◌, ◌≤◌, ◌+◌, ℕ, zero, suc, List, Bool, IsTrue, Option, None, Some, if◌then◌else◌}
use Rattle.std.specs.FinMap.{get}
use Rattle.shore_types.specs.declared.ids.Rid.{Rid}
use Rattle.shore_types.specs.declared.versions.Version.{Version}
use Rattle.shore_model.specs.Records.{Records}
use Rattle.shore_page.specs.Room.{Fits}
use Rattle.laws_lives.specs.Sessions.{SessionTxn}
use Rattle.laws_room.specs.Claims.{SlotCounts, rid_on, slots_of}

-- A new record of so many bytes may have the id: its slot is an empty one or the one behind the last, the bytes fit the page, and the id
-- can be locked now.
pub record Serves (v : Version) (R : Records) (undos : List SessionTxn) (counts : SlotCounts) (store pages bytes : ℕ) (may_lock : Rid → Bool) (id : Rid) : Type 0 where
  pub of_store : id.page.store ≡ store
  pub of_page : id.page.page < pages
  pub empty : get R id ≡ None
  pub reached : id.slot ≤ counts id.page
  pub fits : Fits v (slots_of R undos id.page (counts id.page)) id.slot bytes
  pub locks : IsTrue (may_lock id)

-- of two ids of a store, the one comes before the other
abbrev pub IsBefore : Rid → Rid → Type 0
IsBefore a b = (a.page.page < b.page.page) ⊎ ((a.page.page ≡ b.page.page) × (a.slot < b.slot))

pub record IsLowest (P : Rid → Type 0) (id : Rid) : Type 0 where
  pub serves : P id
  pub lowest : (other : Rid) → IsBefore other id → P other → ⊥

-- The lowest id that serves, or none if none serves: only then the store is full.
abbrev pub IsChoice : (Rid → Type 0) → Option Rid → Type 0
IsChoice P (Some id) = IsLowest P id
IsChoice P None = (id : Rid) → P id → ⊥

-- ---- a search for it

-- the first of n numbers that passes a test, from one number on
abbrev pub first_from : (ℕ → Bool) → ℕ → ℕ → Option ℕ
first_from test at zero = None
first_from test at (suc n) = if test at then Some at else first_from test (suc at) n

-- the id of a slot of a page, if one was found there, else what was found on later pages
abbrev pub or_later : ℕ → ℕ → Option ℕ → Option Rid → Option Rid
or_later store page (Some slot) later = Some (rid_on (record { store = store; page = page }) slot)
or_later store page None later = later

-- the first id that passes a test on n pages of a store, from one page on: each page's slots, and the one behind them
abbrev pub first_of : (Rid → Bool) → SlotCounts → ℕ → ℕ → ℕ → Option Rid
first_of test counts store page zero = None
first_of test counts store page (suc n) =
    or_later store page (first_from (λ i. test (rid_on (record { store = store; page = page }) i)) 0 (counts (record { store = store; page = page }) + 1))
    (first_of test counts store (suc page) n)

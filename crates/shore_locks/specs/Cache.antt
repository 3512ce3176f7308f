-- What the cache of locks says of a transaction.
use Rattle.std.specs.Prelude.{◌≡◌, ◌⊎◌, ◌==◌, ◌%◌, false, ℕ, List, Option, None, Some, Contains, cond, slice_index_or}
use Rattle.shore_types.specs.declared.ids.PageId.{PageId}
use Rattle.shore_types.specs.declared.locking.Granule.{Granule}
use Rattle.shore_types.specs.declared.locking.Granule.TheVariants.{Page, Record, Store, Volume}
use Rattle.shore_types.specs.declared.locking.Mode.{Mode}
use Rattle.shore_types.specs.Locking.{same_granule}
use Rattle.shore_model.specs.declared.requests.Request.{Request}
use Rattle.shore_locks.specs.declared.cache.Entry.{Entry}
use Rattle.shore_locks.specs.declared.cache.TheConstants.{ENTRIES}
use Rattle.shore_nodes.specs.Orderly.{IsOrderlyWithin}
use Rattle.shore_nodes.specs.Tables.{Table, is_waiting}
use Rattle.shore_locks.specs.Grants.{first_hold}

-- where the entry of a transaction is
abbrev pub index_of : ℕ → ℕ
index_of t = t % ENTRIES

-- the entry of a transaction that holds nothing
abbrev pub nothing_of : ℕ → Entry
nothing_of t = record { txn = t; volume = None; store = None; page = None }

-- the entry, as the transaction has it
abbrev pub own_of : ℕ → Entry → Entry
own_of t e = cond (e.txn == t) e (nothing_of t)

-- a mode that was noted for a store, if it is the one that is asked for
abbrev pub of_store : Option (ℕ × Mode) → ℕ → Option Mode
of_store None s = None
of_store (Some noted) s = cond (same_granule (Store noted.0) (Store s)) (Some noted.1) None

-- .. and for a page
abbrev pub of_page : Option (PageId × Mode) → PageId → Option Mode
of_page None p = None
of_page (Some noted) p = cond (same_granule (Page noted.0) (Page p)) (Some noted.1) None

-- the mode that an entry says, if it is its transaction's
abbrev pub mode_in : Entry → Granule → Option Mode
mode_in e Volume = e.volume
mode_in e (Store s) = of_store e.store s
mode_in e (Page p) = of_page e.page p
mode_in e (Record r) = None

-- what an entry says of a transaction
abbrev pub said_of : Entry → ℕ → Granule → Option Mode
said_of e t g = cond (e.txn == t) (mode_in e g) None

-- what the cache says of it
abbrev pub cached : List Entry → ℕ → Granule → Option Mode
cached entries t g = said_of (slice_index_or entries (index_of t) (nothing_of 0)) t g

-- what an entry says is what was noted, or it was said before, and of another transaction or granule
abbrev pub IsNotedIn : Entry → Entry → ℕ → Granule → Mode → Type 0
IsNotedIn old new t g m =
    (u : ℕ) (h : Granule) (k : Mode) → said_of new u h ≡ Some k → (first_hold t g m ≡ first_hold u h k) ⊎ ((said_of old u h ≡ Some k) × (u ≡ t → h ≡ g → ⊥))

-- .. and so it is with the cache
abbrev pub IsNoted : List Entry → List Entry → ℕ → Granule → Mode → Type 0
IsNoted old new t g m =
    (u : ℕ) (h : Granule) (k : Mode) → cached new u h ≡ Some k → (first_hold t g m ≡ first_hold u h k) ⊎ ((cached old u h ≡ Some k) × (u ≡ t → h ≡ g → ⊥))

-- nothing is said of the transaction any more
abbrev pub IsForgotten : List Entry → List Entry → ℕ → Type 0
IsForgotten old new t = (u : ℕ) (h : Granule) (k : Mode) → cached new u h ≡ Some k → (cached old u h ≡ Some k) × (u ≡ t → ⊥)

-- what the cache says is so: the transaction holds the granule in the mode, and wants no more of it
abbrev pub AreHeld : List Entry → List Request → Type 0
AreHeld entries rs = (t : ℕ) (g : Granule) (m : Mode) → cached entries t g ≡ Some m → Contains rs (first_hold t g m)

-- nobody of whom the cache says anything waits
abbrev pub AreQuiet : List Entry → List Request → Type 0
AreQuiet entries rs = (t : ℕ) (g : Granule) (m : Mode) → cached entries t g ≡ Some m → is_waiting t rs ≡ false

-- the requests are orderly, and what the cache says of them is so
pub record IsSound (table : Table) (entries : List Entry) : Type 0 where
  pub kept : IsOrderlyWithin table.limit table.requests
  pub known : AreHeld entries table.requests
  pub quiet : AreQuiet entries table.requests

-- What the slots of a page claim while several transactions are not decided: a function of the records in place, of the undo lists,
-- and of how many slots the page has.
use Rattle.std.specs.Prelude.{◌≡◌, ◌≢◌, ◌<◌, ◌≤◌, ◌+◌, ℕ, zero, suc, max, List, [], ◌∷◌, ◌++◌, None, if◌then◌else◌}
use Rattle.std.specs.FinMap.{get}
use Rattle.std.specs.List.{AllByRecursion}
use Rattle.std.specs.Ordering.{eq_by_cmp}
use Rattle.shore_types.specs.Ids.{rid_cmp}
use Rattle.shore_types.specs.Images.{Image}
use Rattle.shore_types.specs.declared.ids.PageId.{PageId}
use Rattle.shore_types.specs.declared.ids.Rid.{Rid}
use Rattle.shore_types.specs.declared.versions.Version.{Version}
use Rattle.shore_model.specs.Records.{Records}
use Rattle.shore_page.specs.Room.{HasRoom}
use Rattle.shore_page.specs.Slots.{Slot}
use Rattle.shore_page.specs.Undo.{Undecided, claiming_all}
use Rattle.laws_lives.specs.Sessions.{EachOnce, SessionTxn, txns_of}
use Rattle.laws_lives.specs.Views.{IsAmong}

abbrev pub rid_on : PageId → ℕ → Rid
rid_on p slot = record { page = p; slot = slot }

-- the image of an entry, if the entry is the id's
abbrev pub before_of : Rid → Rid × Image → List Image
before_of id e = if eq_by_cmp rid_cmp id e.0 then e.1 ∷ [] else []

-- the images of an undo list that could come back to an id, the newest first; the undo list has the oldest first
abbrev pub befores_in : Rid → List (Rid × Image) → List Image
befores_in id [] = []
befores_in id (e ∷ es) = befores_in id es ++ before_of id e

-- those of the undo lists of all transactions
abbrev pub befores_at : Rid → List SessionTxn → List Image
befores_at id [] = []
befores_at id (a ∷ others) = befores_in id a.undo.images ++ befores_at id others

abbrev pub undecided_at : Records → List SessionTxn → Rid → Undecided
undecided_at R undos id = record { image = get R id; befores = befores_at id undos }

-- n values of a function, from that of a number on
abbrev pub each_from : {A : Type 0} → (ℕ → A) → ℕ → ℕ → List A
each_from f first zero = []
each_from f first (suc n) = f first ∷ each_from f (suc first) n

-- the slots of a page that has n of them, each with the images that could come back to it
abbrev pub undecided_on : Records → List SessionTxn → PageId → ℕ → List Undecided
undecided_on R undos p n = each_from (λ i. undecided_at R undos (rid_on p i)) 0 n

-- The slots as the page must have them, with their claims.
abbrev pub slots_of : Records → List SessionTxn → PageId → ℕ → List Slot
slots_of R undos p n = claiming_all (undecided_on R undos p n)

-- no transaction but t could put an image back to the id
abbrev pub NoOthers : List SessionTxn → ℕ → Rid → Type 0
NoOthers undos t id = (b : SessionTxn) → IsAmong b undos → b.txn ≢ t → befores_in id b.undo.images ≡ []

-- how many slots each page has: a slot never goes away
abbrev pub SlotCounts : Type 0
SlotCounts = PageId → ℕ

-- Each page has room for its slots as they claim. Behind the last slot no record is, and no image comes back there. What could come
-- back to a slot is one transaction's.
pub record Claimed (v : Version) (R : Records) (undos : List SessionTxn) (counts : SlotCounts) : Type 0 where
  pub room : (p : PageId) → HasRoom v (slots_of R undos p (counts p))
  pub behind : (id : Rid) → counts id.page ≤ id.slot → get R id ≡ None
  pub within : (a : SessionTxn) → IsAmong a undos → AllByRecursion (λ e. e.0.slot < counts e.0.page) a.undo.images
  pub owned : (a : SessionTxn) → IsAmong a undos → AllByRecursion (λ e. NoOthers undos a.txn e.0) a.undo.images
  pub once : EachOnce (txns_of undos)

-- the page of an id has slots up to the id's, and every other page as many as before
pub record Grows (old new : SlotCounts) (id : Rid) : Type 0 where
  pub here : new id.page ≡ max (old id.page) (id.slot + 1)
  pub others : (p : PageId) → p ≢ id.page → new p ≡ old p

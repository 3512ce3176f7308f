-- What the code does to the claims of a page: when a transaction is decided, and when a page is fetched again.
use Rattle.std.specs.Prelude.{◌≡◌, ◌<◌, ℕ, List, [], ◌∷◌, length, if◌then◌else◌}
use Rattle.std.specs.FinMap.{get}
use Rattle.std.specs.Ordering.{eq_by_cmp}
use Rattle.shore_types.specs.Ids.{page_cmp}
use Rattle.shore_types.specs.Images.{Image, image_len}
use Rattle.shore_types.specs.declared.ids.PageId.{PageId}
use Rattle.shore_types.specs.declared.ids.Rid.{Rid}
use Rattle.shore_types.specs.declared.versions.Version.{Version}
use Rattle.shore_model.specs.Records.{Records}
use Rattle.shore_page.specs.Room.{Fits, lowered, raised}
use Rattle.shore_page.specs.Slots.{Slot, settled, with_change}
use Rattle.laws_lives.specs.Sessions.{SessionTxn}
use Rattle.laws_room.specs.Claims.{each_from, rid_on}

-- one slot of the page after another changed, for each entry of an undo list that is on the page
abbrev pub on_each_entry : (Image → Slot → Slot) → PageId → List (Rid × Image) → List Slot → List Slot
on_each_entry h p [] slots = slots
on_each_entry h p (e ∷ es) slots = on_each_entry h p es (if eq_by_cmp page_cmp p e.0.page then with_change (h e.1) slots e.0.slot else slots)

-- `Page::unreserve` with no bytes, for each entry: each slot of the transaction claims what its record takes
abbrev pub let_go : PageId → List (Rid × Image) → List Slot → List Slot
let_go p es slots = on_each_entry (λ image. lowered 0) p es slots

-- `Page::reserve` for each entry: its image may come back
abbrev pub reserved_for : PageId → List (Rid × Image) → List Slot → List Slot
reserved_for p es slots = on_each_entry (λ image. raised (image_len image)) p es slots

-- for the undo lists of all transactions
abbrev pub reserved_for_all : PageId → List SessionTxn → List Slot → List Slot
reserved_for_all p [] slots = slots
reserved_for_all p (a ∷ undos) slots = reserved_for_all p undos (reserved_for p a.undo.images slots)

-- a page as it is read: each slot claims what its record takes
abbrev pub settled_slots : Records → PageId → ℕ → List Slot
settled_slots R p n = each_from (λ i. settled (get R (rid_on p i))) 0 n

-- `Page::reserve` may be called for each entry, one after another
abbrev pub ReservesFit : Version → PageId → List (Rid × Image) → List Slot → Type 0
ReservesFit v p [] slots = Unit {0}
ReservesFit v p (e ∷ es) slots = (p ≡ e.0.page → (e.0.slot < length slots) × Fits v slots e.0.slot (image_len e.1))
    × ReservesFit v p es (if eq_by_cmp page_cmp p e.0.page then with_change (raised (image_len e.1)) slots e.0.slot else slots)

abbrev pub AllReservesFit : Version → PageId → List SessionTxn → List Slot → Type 0
AllReservesFit v p [] slots = Unit {0}
AllReservesFit v p (a ∷ undos) slots = ReservesFit v p a.undo.images slots × AllReservesFit v p undos (reserved_for p a.undo.images slots)

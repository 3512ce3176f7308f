-- What a table tells of a page claims what its undo lists do.
use Rattle.std.proofs.Common.{◌≡◌, ◌<◌, ℕ, zero, suc, max, Bool, true, false, cond, List, [], ◌∷◌, map, refl, sym, ap, subst, ◌∙◌, arith}
use Rattle.std.specs.FinMap.{get}
use Rattle.std.specs.List.{AllByRecursion}
use Rattle.std.specs.Ordering.{eq_by_cmp}
use Rattle.std.proofs.lemmas.Map.Views.{tells_apart}
use Rattle.shore_types.specs.Ids.{exact_pages, page_cmp}
use Rattle.shore_types.specs.Images.{Image, image_len}
use Rattle.shore_types.specs.declared.ids.PageId.{PageId}
use Rattle.shore_model.specs.Records.{Records}
use Rattle.shore_page.specs.Claims.{AreThere, claimed_by}
use Rattle.shore_page.specs.Room.{raised}
use Rattle.shore_page.specs.Slots.{Slot, settled, with_change}
use Rattle.shore_page.specs.Text as text
use Rattle.shore_page.specs.Undo.{claiming}
use Rattle.laws_lives.specs.Sessions.{SessionTxn}
use Rattle.laws_room.specs.Claims.{SlotCounts, rid_on, slots_of, undecided_at}
use Rattle.laws_room.specs.Settling.{reserved_for, settled_slots}
use Rattle.laws_room.proofs.Leaving.{map_each}
use Rattle.shore_txn.specs.UndoEntries.{claims_on, images_of}
use Rattle.shore_txn.specs.declared.undo.UndoEntry.{UndoEntry}

-- ---- claims rise in any order

raised_twice : (a b : ℕ) (s : Slot) → raised a (raised b s) ≡ raised b (raised a s)
raised_twice a b s = let same : max (max s.claim b) a ≡ max (max s.claim a) b = omega arith in ap (λ (n : ℕ). record { image = s.image; claim = n }) same

change_same : (a b : ℕ) (slots : List Slot) (i j : ℕ) → with_change (raised a) (with_change (raised b) slots j) i ≡ with_change (raised b) (with_change (raised a) slots i) j
change_same a b [] i j = refl
change_same a b (s ∷ slots) zero zero = ap (λ (t : Slot). t ∷ slots) (raised_twice a b s)
change_same a b (s ∷ slots) zero (suc j) = refl
change_same a b (s ∷ slots) (suc i) zero = refl
change_same a b (s ∷ slots) (suc i) (suc j) = ap (λ (l : List Slot). s ∷ l) (change_same a b slots i j)

pub claimed_first : (rest : List (ℕ × ℕ)) (slot bytes : ℕ) (slots : List Slot) → claimed_by rest (with_change (raised bytes) slots slot) ≡ with_change (raised bytes) (claimed_by rest slots) slot
claimed_first [] slot bytes slots = refl
claimed_first (c ∷ rest) slot bytes slots = ap (λ (l : List Slot). with_change (raised c.1) l c.0) (claimed_first rest slot bytes slots) ∙ change_same c.1 bytes (claimed_by rest slots) c.0 slot

pub told_reserved : (p : PageId) (es : List UndoEntry) (slots : List Slot) → claimed_by (claims_on p es) slots ≡ reserved_for p (images_of es) slots
told_reserved p [] slots = refl
told_reserved p (e ∷ es) slots = each (told_reserved p es) (eq_by_cmp page_cmp p e.id.page)
  where
    each : ((slots : List Slot) → claimed_by (claims_on p es) slots ≡ reserved_for p (images_of es) slots) → (here : Bool) → claimed_by (cond here ((e.id.slot, image_len e.before) ∷ claims_on p es) (claims_on p es)) slots ≡ reserved_for p (images_of es) (cond here (with_change (raised (image_len e.before)) slots e.id.slot) slots)
    each rest true = sym (claimed_first (claims_on p es) e.id.slot (image_len e.before) slots) ∙ rest (with_change (raised (image_len e.before)) slots e.id.slot)
    each rest false = rest slots

-- ---- a page that was read

pub read_slots : (R : Records) (undos : List SessionTxn) (p : PageId) (n : ℕ) → map settled (text.images_of (slots_of R undos p n)) ≡ settled_slots R p n
read_slots R undos p n =
    let image : Slot → Image = λ s. s.image in
    ap (λ (l : List Slot). map settled (map image l)) (map_each claiming (λ i. undecided_at R undos (rid_on p i)) 0 n)
    ∙ ap (map settled) (map_each image (λ i. claiming (undecided_at R undos (rid_on p i))) 0 n)
    ∙ map_each settled (λ i. get R (rid_on p i)) 0 n

-- the entries of a page are of slots that it has
pub told_there : (counts : SlotCounts) (p : PageId) (es : List UndoEntry) → AllByRecursion (λ e. e.0.slot < counts e.0.page) (images_of es) → AreThere (counts p) (claims_on p es)
told_there counts p [] within = tt
told_there counts p (e ∷ es) within = each (told_there counts p es within.1) (eq_by_cmp page_cmp p e.id.page) refl
  where
    each : AreThere (counts p) (claims_on p es) → (here : Bool) → eq_by_cmp page_cmp p e.id.page ≡ here → AreThere (counts p) (cond here ((e.id.slot, image_len e.before) ∷ claims_on p es) (claims_on p es))
    each rest true is = (subst (λ (q : PageId). e.id.slot < counts q) (sym (tells_apart exact_pages p e.id.page is)) within.0, rest)
    each rest false is = rest

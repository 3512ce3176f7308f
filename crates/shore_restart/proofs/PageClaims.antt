-- What pages claim for the undo lists of several transactions, as the table has them and as the sessions do. Nothing is asked of the pages' room: that is what a
-- restart finds out.
use Rattle.std.proofs.Common.{◌≡◌, ℕ, max, List, [], ◌∷◌, ◌++◌, Bool, true, false, cond, refl, sym, ap, ◌∙◌, arith}
use Rattle.std.specs.FinMap.{get}
use Rattle.std.specs.Ordering.{eq_by_cmp}
use Rattle.shore_types.specs.Ids.{page_cmp, rid_cmp}
use Rattle.shore_types.specs.Images.{Image, image_len}
use Rattle.shore_types.specs.declared.ids.PageId.{PageId}
use Rattle.shore_types.specs.declared.ids.Rid.{Rid}
use Rattle.shore_model.specs.Records.{Records}
use Rattle.shore_page.specs.Claims.{claimed_by}
use Rattle.shore_page.specs.Room.{raised}
use Rattle.shore_page.specs.Slots.{Slot, settled, with_change}
use Rattle.shore_page.specs.Undo.{claiming, longest}
use Rattle.laws_room.specs.Claims.{before_of, befores_at, befores_in, each_from, rid_on, slots_of, undecided_at}
use Rattle.laws_room.specs.Settling.{settled_slots}
use Rattle.laws_room.proofs.Fetching.{longest_append}
use Rattle.laws_room.proofs.Leaving.{AreOn, map_each, one_each}
use Rattle.laws_room.proofs.Lists.{each_alike}
use Rattle.shore_txn.specs.ActiveTxns.{all_changes, session_txns}
use Rattle.shore_txn.specs.Txns.{entries_of}
use Rattle.shore_txn.specs.UndoEntries.{claims_on, image_of, images_of}
use Rattle.shore_txn.specs.declared.txn.Txn.{Txn}
use Rattle.shore_txn.specs.declared.undo.UndoEntry.{UndoEntry}

-- ---- a slot at a time

-- what entries make a slot claim
abbrev raised_by : Rid → List UndoEntry → Slot → Slot
raised_by id [] slot = slot
raised_by id (e ∷ es) slot = cond (eq_by_cmp rid_cmp id e.id) (raised (image_len e.before) (raised_by id es slot)) (raised_by id es slot)

claimed_each : (p : PageId) (n : ℕ) (es : List UndoEntry) (f : ℕ → Slot) → AreOn p n (images_of es) → claimed_by (claims_on p es) (each_from f 0 n) ≡ each_from (λ i. raised_by (rid_on p i) es (f i)) 0 n
claimed_each p n [] f on = refl
claimed_each p n (e ∷ es) f on =
    by (eq_by_cmp page_cmp p e.id.page)
    ∙ ap (λ (slots : List Slot). cond (eq_by_cmp page_cmp p e.id.page) (with_change (raised (image_len e.before)) slots e.id.slot) slots) (claimed_each p n es f on.1)
    ∙ one_each (λ image. raised (image_len image)) p n (image_of e) (λ i. raised_by (rid_on p i) es (f i)) on.0
  where
    by : (here : Bool) → claimed_by (cond here ((e.id.slot, image_len e.before) ∷ claims_on p es) (claims_on p es)) (each_from f 0 n)
        ≡ cond here (with_change (raised (image_len e.before)) (claimed_by (claims_on p es) (each_from f 0 n)) e.id.slot) (claimed_by (claims_on p es) (each_from f 0 n))
    by true = refl
    by false = refl

abbrev slot_with : Image → ℕ → Slot
slot_with image n = record { image = image; claim = n }

abbrev longest_in : Rid → List UndoEntry → ℕ
longest_in id es = longest (befores_in id (images_of es))

raised_most : (id : Rid) (image : Image) (claim : ℕ) (es : List UndoEntry) → raised_by id es (slot_with image claim) ≡ slot_with image (max claim (longest_in id es))
raised_most id image claim [] = ap (slot_with image) (none claim)
  where
    none : (n : ℕ) → n ≡ max n 0
    none n = omega arith
raised_most id image claim (e ∷ es) = by (raised_most id image claim es) (eq_by_cmp rid_cmp id e.id) (longest_append (befores_in id (images_of es)) (before_of id (image_of e)))
  where
    by : raised_by id es (slot_with image claim) ≡ slot_with image (max claim (longest_in id es)) → (here : Bool) → longest (befores_in id (images_of es) ++ cond here (e.before ∷ []) []) ≡ max (longest_in id es) (longest (cond here (e.before ∷ []) []))
        → cond here (raised (image_len e.before) (raised_by id es (slot_with image claim))) (raised_by id es (slot_with image claim))
        ≡ slot_with image (max claim (longest (befores_in id (images_of es) ++ cond here (e.before ∷ []) [])))
    by rest true parts = ap (raised (image_len e.before)) rest ∙ ap (slot_with image) (more claim (longest_in id es) (image_len e.before) _ parts)
      where
        more : (c l n k : ℕ) → k ≡ max l (max n 0) → max (max c l) n ≡ max c k
        more c l n k is = omega arith
    by rest false parts = rest ∙ ap (slot_with image) (same claim (longest_in id es) _ parts)
      where
        same : (c l k : ℕ) → k ≡ max l 0 → max c l ≡ max c k
        same c l k is = omega arith

-- ---- of all transactions

longest_both : (id : Rid) (xs ys : List UndoEntry) → longest_in id (xs ++ ys) ≡ max (longest_in id xs) (longest_in id ys)
longest_both id [] ys = omega arith
longest_both id (e ∷ xs) ys =
    let rest = longest_both id xs ys in
    let whole = longest_append (befores_in id (images_of (xs ++ ys))) (before_of id (image_of e)) in
    let first = longest_append (befores_in id (images_of xs)) (before_of id (image_of e)) in
    omega (arith, rest, whole, first)

longest_all : (id : Rid) (ts : List Txn) → longest_in id (all_changes ts) ≡ longest (befores_at id (session_txns ts))
longest_all id [] = refl
longest_all id (t ∷ older) =
    let both = longest_both id (all_changes older) (entries_of t) in
    let rest = longest_all id older in
    let whole = longest_append (befores_in id (images_of (entries_of t))) (befores_at id (session_txns older)) in
    omega (arith, both, rest, whole)

-- the claims that the table tells of a page are those of the sessions
pub claimed_slots : (R : Records) (ts : List Txn) (p : PageId) (n : ℕ) → AreOn p n (images_of (all_changes ts)) → claimed_by (claims_on p (all_changes ts)) (settled_slots R p n) ≡ slots_of R (session_txns ts) p n
claimed_slots R ts p n on =
    claimed_each p n (all_changes ts) (λ i. settled (get R (rid_on p i))) on
    ∙ each_alike (λ i. raised_by (rid_on p i) (all_changes ts) (settled (get R (rid_on p i)))) (λ i. claiming (undecided_at R (session_txns ts) (rid_on p i))) 0 n (λ i least most. one (rid_on p i))
    ∙ sym (map_each claiming (λ i. undecided_at R (session_txns ts) (rid_on p i)) 0 n)
  where
    one : (id : Rid) → raised_by id (all_changes ts) (settled (get R id)) ≡ claiming (undecided_at R (session_txns ts) id)
    one id = raised_most id (get R id) (image_len (get R id)) (all_changes ts) ∙ ap (λ (k : ℕ). slot_with (get R id) (max (image_len (get R id)) k)) (longest_all id ts)

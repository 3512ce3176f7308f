-- A page is fetched again: its claims come back from the undo lists.
use Rattle.std.proofs.Common.{◌≡◌, inl, inr, ◌+◌, ◌-◌, ◌<◌, ◌≤◌, ℕ, zero, suc, max, List, [], ◌∷◌, ◌++◌, length, get_or, Option, Some, None, true, false, cond, refl, sym, ap, subst, ◌∙◌, arith}
use Rattle.std.specs.FinMap.{get}
use Rattle.std.specs.List.{AllByRecursion, slice_get}
use Rattle.std.specs.Ordering.{eq_by_cmp}
use Rattle.std.proofs.lemmas.List.Sums.{sum_by-cons}
use Rattle.std.proofs.lemmas.List.Elements.{All-get_or}
use Rattle.std.proofs.lemmas.Option.{get_or_from_slice_get}
use Rattle.std.proofs.lemmas.Map.Views.{tells_apart}
use Rattle.shore_types.specs.Ids.{page_cmp, rid_cmp, exact_rids}
use Rattle.shore_types.specs.declared.ids.PageId.{PageId}
use Rattle.shore_types.specs.declared.ids.Rid.{Rid}
use Rattle.shore_types.specs.Images.{Image, image_len}
use Rattle.shore_types.specs.declared.versions.Version.{Version}
use Rattle.shore_types.specs.Versions.{record_limit, slot_limit-fills}
use Rattle.shore_model.specs.Records.{Records}
use Rattle.shore_page.specs.Room.{Fits, HasRoom, HoldsItsImage, claims, raised}
use Rattle.shore_page.specs.Slots.{Slot, settled, with_change}
use Rattle.shore_page.specs.Undo.{claiming, longest}
use Rattle.laws_room.specs.Claims.{Claimed, SlotCounts, before_of, befores_at, befores_in, each_from, rid_on, slots_of, undecided_at}
use Rattle.laws_room.specs.Settling.{AllReservesFit, ReservesFit, reserved_for_all, settled_slots}
use Rattle.laws_lives.specs.Sessions.{SessionTxn}
use Rattle.laws_lives.specs.Views.{IsAmong}
use Rattle.laws_room.proofs.Leaving.{AreOn, are_on, at_all, map_each, on_each, one_each, same_page}
use Rattle.laws_room.proofs.Lists.{each_alike, each_at, length-each}
use Rattle.laws_room.proofs.Pages.{back_same}
use Rattle.laws_lives.proofs.Lists.{recursion-weaker}
use Rattle.shore_page.proofs.RoomLemmas.{need_inside}

pub longest_append : (xs ys : List Image) → longest (xs ++ ys) ≡ max (longest xs) (longest ys)
longest_append [] ys = omega arith
longest_append (x ∷ xs) ys = let h = longest_append xs ys in omega arith

abbrev slot_with : Image → ℕ → Slot
slot_with image n = record { image = image; claim = n }

-- each image at the id raises the claim
raised_at : (id : Rid) (image : Image) (claim : ℕ) (es : List (Rid × Image))
    → at_all (λ i. raised (image_len i)) id es (slot_with image claim) ≡ slot_with image (max claim (longest (befores_in id es)))
raised_at id image claim [] = ap (slot_with image) (none claim)
  where
    none : (n : ℕ) → n ≡ max n 0
    none n = omega arith
raised_at id image claim (e ∷ es) =
    let parts = longest_append (befores_in id es) (before_of id e) in
    elim (eq_by_cmp rid_cmp id e.0) as
    (λ b. longest (befores_in id es ++ cond b (e.1 ∷ []) []) ≡ max (longest (befores_in id es)) (longest (cond b (e.1 ∷ []) []))
    → at_all (λ i. raised (image_len i)) id es (cond b (raised (image_len e.1) (slot_with image claim)) (slot_with image claim))
    ≡ slot_with image (max claim (longest (befores_in id es ++ cond b (e.1 ∷ []) [])))) [
      | true ↦ λ parts. raised_at id image (max claim (image_len e.1)) es
          ∙ ap (slot_with image) (here claim (image_len e.1) (longest (befores_in id es)) _ parts)
      | false ↦ λ parts. raised_at id image claim es ∙ ap (slot_with image) (there claim (longest (befores_in id es)) _ parts)
    ] parts
  where
    here : (c n l k : ℕ) → k ≡ max l (max n 0) → max (max c n) l ≡ max c k
    here c n l k e = omega arith

    there : (c l k : ℕ) → k ≡ max l 0 → max c l ≡ max c k
    there c l k e = omega arith

abbrev all_at : Rid → List SessionTxn → Slot → Slot
all_at id [] s = s
all_at id (a ∷ undos) s = all_at id undos (at_all (λ i. raised (image_len i)) id a.undo.images s)

all_raised_at : (id : Rid) (image : Image) (claim : ℕ) (undos : List SessionTxn)
    → all_at id undos (slot_with image claim) ≡ slot_with image (max claim (longest (befores_at id undos)))
all_raised_at id image claim [] = ap (slot_with image) (none claim)
  where
    none : (n : ℕ) → n ≡ max n 0
    none n = omega arith
all_raised_at id image claim (a ∷ undos) =
    ap (all_at id undos) (raised_at id image claim a.undo.images)
    ∙ all_raised_at id image (max claim (longest (befores_in id a.undo.images))) undos
    ∙ ap (slot_with image)
    (both claim (longest (befores_in id a.undo.images)) (longest (befores_at id undos)) _ (longest_append (befores_in id a.undo.images) (befores_at id undos)))
  where
    both : (c l m k : ℕ) → k ≡ max l m → max (max c l) m ≡ max c k
    both c l m k e = omega arith

all_each : (p : PageId) (n : ℕ) (undos : List SessionTxn) (f : ℕ → Slot) → ((a : SessionTxn) → IsAmong a undos → AreOn p n a.undo.images)
    → reserved_for_all p undos (each_from f 0 n) ≡ each_from (λ i. all_at (rid_on p i) undos (f i)) 0 n
all_each p n [] f on = refl
all_each p n (a ∷ undos) f on =
    ap (reserved_for_all p undos) (on_each (λ i. raised (image_len i)) p n a.undo.images f (on a (inl refl)))
    ∙ all_each p n undos (λ i. at_all (λ i. raised (image_len i)) (rid_on p i) a.undo.images (f i)) (λ b m. on b (inr m))

-- the claims come back as they were
pub fetched : (v : Version) (R : Records) (undos : List SessionTxn) (counts : SlotCounts) → Claimed v R undos counts → (p : PageId)
    → reserved_for_all p undos (settled_slots R p (counts p)) ≡ slots_of R undos p (counts p)
fetched v R undos counts k p =
    all_each p (counts p) undos (λ i. settled (get R (rid_on p i))) (λ a m. are_on counts p a.undo.images (k.within a m))
    ∙ each_alike (λ i. all_at (rid_on p i) undos (settled (get R (rid_on p i)))) (λ i. claiming (undecided_at R undos (rid_on p i))) 0 (counts p)
    (λ i ge less. all_raised_at (rid_on p i) (get R (rid_on p i)) (image_len (get R (rid_on p i))) undos)
    ∙ sym (map_each claiming (λ i. undecided_at R undos (rid_on p i)) 0 (counts p))

-- ---- each reserve fits

-- no image of a list is longer than the longest that could come back to its id
longer_list : (x : Rid × Image) (es : List (Rid × Image)) (q : Rid) → longest (befores_in q es) ≤ longest (befores_in q (x ∷ es))
longer_list x es q = let h = longest_append (befores_in q es) (before_of q x) in omega arith

pub its_longest : (es : List (Rid × Image)) → AllByRecursion (λ e. image_len e.1 ≤ longest (befores_in e.0 es)) es
its_longest [] = tt
its_longest (e ∷ es) =
    let h = longest_append (befores_in e.0 es) (before_of e.0 e) in
    let it : longest (before_of e.0 e) ≡ max (image_len e.1) 0 = ap longest (back_same e.0 e.1) in
    (omega arith, recursion-weaker (λ x. image_len x.1 ≤ longest (befores_in x.0 es)) (λ x. image_len x.1 ≤ longest (befores_in x.0 (e ∷ es))) (λ x le. let more = longer_list e es x.0 in omega arith) es (its_longest es))

pub longest_of_all : (q : Rid) (undos : List SessionTxn) (a : SessionTxn) → IsAmong a undos
    → longest (befores_in q a.undo.images) ≤ longest (befores_at q undos)
longest_of_all q [] a m = absurd m
longest_of_all q (b ∷ undos) a (inl same) =
    subst (λ (c : SessionTxn). longest (befores_in q c.undo.images) ≤ longest (befores_at q (b ∷ undos))) same
    (let h = longest_append (befores_in q b.undo.images) (befores_at q undos) in omega arith)
longest_of_all q (b ∷ undos) a (inr m) =
    let h = longest_append (befores_in q b.undo.images) (befores_at q undos) in let rest = longest_of_all q undos a m in omega arith

pub claims_less : (f g : ℕ → Slot) (first n : ℕ) → ((i : ℕ) → (f i).claim ≤ (g i).claim) → claims (each_from f first n) ≤ claims (each_from g first n)
claims_less f g first zero less = omega arith
claims_less f g first (suc n) less =
    omega (arith, less first, claims_less f g (suc first) n less, sum_by-cons (λ (s : Slot). s.claim) (f first) (each_from f (suc first) n), sum_by-cons (λ (s : Slot). s.claim) (g first) (each_from g (suc first) n))

pub claims_raised : (bytes : ℕ) (slots : List Slot) (i : ℕ) (x : Slot) → slice_get slots i ≡ Some x
    → claims (with_change (raised bytes) slots i) ≡ claims slots + (bytes - x.claim)
claims_raised bytes [] i x at = absurd (none at)
  where
    none : ◌≡◌ {A = Option Slot} None (Some x) → ⊥
    none e = cc
claims_raised bytes (s ∷ slots) zero x at =
    let same : s.claim ≡ x.claim = ap (λ (s : Slot). s.claim) (some_is at) in
    omega (arith, sum_by-cons (λ (s : Slot). s.claim) s slots, sum_by-cons (λ (s : Slot). s.claim) (raised bytes s) slots)
  where
    some_is : ◌≡◌ {A = Option Slot} (Some s) (Some x) → s ≡ x
    some_is e = cc
claims_raised bytes (s ∷ slots) (suc i) x at =
    omega (arith, claims_raised bytes slots i x at, sum_by-cons (λ (s : Slot). s.claim) s slots, sum_by-cons (λ (s : Slot). s.claim) s (with_change (raised bytes) slots i))

module _ (v : Version) (p : PageId) (n : ℕ) (F : ℕ → Slot) (room : HasRoom v (each_from F 0 n)) where
  -- the slots of the entries are there, and no image is longer than what its slot claims in the end
  abbrev pub AreWithin : List (Rid × Image) → Type 0
  AreWithin es = AllByRecursion (λ e. p ≡ e.0.page → (e.0.slot < n) × (image_len e.1 ≤ (F e.0.slot).claim)) es

  pub most_claim : (i : ℕ) → i < n → (F i).claim ≤ record_limit v
  most_claim i less =
      let read : F i ≡ get_or (each_from F 0 n) i (F i) = sym (get_or_from_slice_get (each_from F 0 n) i (F i) (F i) (each_at F n i less)) in
      let holds : HoldsItsImage v (F i) =
      subst (HoldsItsImage v) (sym read) (All-get_or (HoldsItsImage v) (each_from F 0 n) i (F i) (omega (arith, length-each F 0 n)) room.each) in
      holds.1

  pub raised_less : (e : Rid × Image) (f : ℕ → Slot) → (p ≡ e.0.page → (e.0.slot < n) × (image_len e.1 ≤ (F e.0.slot).claim))
      → ((i : ℕ) → (f i).claim ≤ (F i).claim)
      → (i : ℕ) → (cond (eq_by_cmp rid_cmp (rid_on p i) e.0) (raised (image_len e.1) (f i)) (f i)).claim ≤ (F i).claim
  raised_less e f within less i =
      elim (eq_by_cmp rid_cmp (rid_on p i) e.0) as
      (λ b. eq_by_cmp rid_cmp (rid_on p i) e.0 ≡ b → (cond b (raised (image_len e.1) (f i)) (f i)).claim ≤ (F i).claim) [
        | true ↦ λ is.
            let same = tells_apart exact_rids (rid_on p i) e.0 is in
            let w = within (ap (λ (r : Rid). r.page) same) in
            let at : image_len e.1 ≤ (F i).claim = subst (λ j. image_len e.1 ≤ (F j).claim) (sym (ap (λ (r : Rid). r.slot) same)) w.1 in
            let below = less i in
            omega arith
        | false ↦ λ is. less i
      ] refl

  pub kept_fits : (e : Rid × Image) (f : ℕ → Slot) → (p ≡ e.0.page → (e.0.slot < n) × (image_len e.1 ≤ (F e.0.slot).claim))
      → ((i : ℕ) → (f i).claim ≤ (F i).claim) → p ≡ e.0.page
      → (e.0.slot < length (each_from f 0 n)) × Fits v (each_from f 0 n) e.0.slot (image_len e.1)
  kept_fits e f within less same =
      let w = within same in
      let slots = each_from f 0 n in
      let len : length slots ≡ n = length-each f 0 n in
      let lenF : length (each_from F 0 n) ≡ n = length-each F 0 n in
      let at : slice_get slots e.0.slot ≡ Some (f e.0.slot) = each_at f n e.0.slot w.0 in
      let inside : e.0.slot < length slots = omega (arith, w.0) in
      let read : f e.0.slot ≡ get_or slots e.0.slot (f e.0.slot) = sym (get_or_from_slice_get slots e.0.slot (f e.0.slot) (f e.0.slot) at) in
      let it : with_change (raised (image_len e.1)) slots e.0.slot ≡ each_from
      (λ i. cond (eq_by_cmp rid_cmp (rid_on p i) e.0) (raised (image_len e.1) (f i)) (f i)) 0 n =
      sym (ap (λ b. cond b (with_change (raised (image_len e.1)) slots e.0.slot) slots) (subst (λ q. eq_by_cmp page_cmp p q ≡ true) same (same_page p)))
      ∙ one_each (λ i. raised (image_len i)) p n e f (λ s. (within s).0) in
      let sum : claims (with_change (raised (image_len e.1)) slots e.0.slot) ≤ claims (each_from F 0 n) =
      subst (λ l. claims l ≤ claims (each_from F 0 n)) (sym it)
      (claims_less (λ i. cond (eq_by_cmp rid_cmp (rid_on p i) e.0) (raised (image_len e.1) (f i)) (f i)) F 0 n (raised_less e f within less)) in (
        inside,
        record {
          there = omega (arith, room.room, slot_limit-fills v);
          most = omega (arith, w.1, most_claim e.0.slot w.0);
          room = omega (arith, need_inside slots e.0.slot (image_len e.1) (f e.0.slot) inside read, claims_raised (image_len e.1) slots e.0.slot (f e.0.slot) at, sum, room.room);
        },
      )

  all_kept_fit : (es : List (Rid × Image)) (f : ℕ → Slot) → AreWithin es → ((i : ℕ) → (f i).claim ≤ (F i).claim) → ReservesFit v p es (each_from f 0 n)
  all_kept_fit [] f within less = tt
  all_kept_fit (e ∷ es) f within less = (
    kept_fits e f within.0 less,
    subst (ReservesFit v p es) (sym (one_each (λ i. raised (image_len i)) p n e f (λ s. (within.0 s).0)))
        (all_kept_fit es (λ i. cond (eq_by_cmp rid_cmp (rid_on p i) e.0) (raised (image_len e.1) (f i)) (f i)) within.1 (raised_less e f within.0 less)),
  )

  all_less : (es : List (Rid × Image)) (f : ℕ → Slot) → AreWithin es → ((i : ℕ) → (f i).claim ≤ (F i).claim) → (i : ℕ)
      → (at_all (λ i. raised (image_len i)) (rid_on p i) es (f i)).claim ≤ (F i).claim
  all_less [] f within less i = less i
  all_less (e ∷ es) f within less i =
      all_less es (λ i. cond (eq_by_cmp rid_cmp (rid_on p i) e.0) (raised (image_len e.1) (f i)) (f i)) within.1 (raised_less e f within.0 less) i

  all_fit : (undos : List SessionTxn) (f : ℕ → Slot) → ((a : SessionTxn) → IsAmong a undos → AreWithin a.undo.images) → ((i : ℕ) → (f i).claim ≤ (F i).claim)
      → AllReservesFit v p undos (each_from f 0 n)
  all_fit [] f within less = tt
  all_fit (a ∷ undos) f within less =
      let its = within a (inl refl) in
      let on : AreOn p n a.undo.images =
      recursion-weaker (λ e. p ≡ e.0.page → (e.0.slot < n) × (image_len e.1 ≤ (F e.0.slot).claim)) (λ e. p ≡ e.0.page → e.0.slot < n)
      (λ e w s. (w s).0) a.undo.images its in (
        all_kept_fit a.undo.images f its less,
        subst (AllReservesFit v p undos) (sym (on_each (λ i. raised (image_len i)) p n a.undo.images f on))
            (all_fit undos (λ i. at_all (λ i. raised (image_len i)) (rid_on p i) a.undo.images (f i)) (λ b m. within b (inr m)) (all_less a.undo.images f its less)),
      )

pub fetching_fits : (v : Version) (R : Records) (undos : List SessionTxn) (counts : SlotCounts) → Claimed v R undos counts → (p : PageId)
    → AllReservesFit v p undos (settled_slots R p (counts p))
fetching_fits v R undos counts k p =
    all_fit v p (counts p) (λ i. claiming (undecided_at R undos (rid_on p i)))
    (subst (HasRoom v) (map_each claiming (λ i. undecided_at R undos (rid_on p i)) 0 (counts p)) (k.room p)) undos (λ i. settled (get R (rid_on p i)))
    (λ a m. both a m a.undo.images (k.within a m) (its_longest a.undo.images))
    (λ i. least (image_len (get R (rid_on p i))) (longest (befores_at (rid_on p i) undos)))
  where
    least : (a b : ℕ) → a ≤ max a b
    least a b = omega arith

    both : (a : SessionTxn) → IsAmong a undos → (es : List (Rid × Image)) → AllByRecursion (λ e. e.0.slot < counts e.0.page) es
        → AllByRecursion (λ e. image_len e.1 ≤ longest (befores_in e.0 a.undo.images)) es
        → AllByRecursion (λ e. p ≡ e.0.page → (e.0.slot < counts p) × (image_len e.1 ≤ max (image_len (get R (rid_on p e.0.slot))) (longest (befores_at (rid_on p e.0.slot) undos)))) es
    both a m [] within longs = tt
    both a m (e ∷ es) within longs = (
      λ same.
          let at : rid_on p e.0.slot ≡ e.0 = ap (λ q. rid_on q e.0.slot) same in
          let le : image_len e.1 ≤ longest (befores_at e.0 undos) = let l = longest_of_all e.0 undos a m in let s = longs.0 in omega arith in
          (subst (λ q. e.0.slot < counts q) (sym same) within.0, over (image_len e.1) (image_len (get R (rid_on p e.0.slot))) (longest (befores_at (rid_on p e.0.slot) undos)) (subst (λ q. image_len e.1 ≤ longest (befores_at q undos)) (sym at) le)),
      both a m es within.1 longs.1,
    )
      where
        over : (l a b : ℕ) → l ≤ b → l ≤ max a b
        over l a b le = omega arith

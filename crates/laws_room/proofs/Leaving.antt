-- A transaction leaves the table, as it is decided or has ended; it enters the table; and its savepoints change.
use Rattle.std.proofs.Common.{◌≡◌, ◌≢◌, ◌⊎◌, inl, inr, ⊎_elim, ◌<◌, ◌≤◌, ℕ, zero, suc, max, min, List, [], ◌∷◌, ◌++◌, map, true, false, cond, refl, sym, ap, subst, ◌∙◌, arith}
use Rattle.std.specs.FinMap.{get}
use Rattle.std.specs.List.{AllByRecursion}
use Rattle.std.specs.Ordering.{eq_by_cmp}
use Rattle.std.specs.Cmp.{eq_by_cmp_equiv}
use Rattle.std.proofs.lemmas.List.{append-nil}
use Rattle.std.proofs.lemmas.Map.Views.{tells_apart}
use Rattle.shore_types.specs.Ids.{page_cmp, pages_total, exact_pages, rid_cmp}
use Rattle.shore_types.specs.declared.ids.PageId.{PageId}
use Rattle.shore_types.specs.declared.ids.Rid.{Rid}
use Rattle.shore_types.specs.Images.{Image, image_len}
use Rattle.shore_types.specs.declared.versions.Version.{Version}
use Rattle.shore_model.specs.Records.{Records}
use Rattle.shore_page.specs.Room.{HasRoom, lowered}
use Rattle.shore_page.specs.Slots.{Slot, settled, with_change}
use Rattle.shore_page.specs.Undo.{Undecided, claiming, claiming_all, longest}
use Rattle.laws_room.specs.Claims.{Claimed, NoOthers, SlotCounts, before_of, befores_at, befores_in, each_from, rid_on, slots_of, undecided_at}
use Rattle.laws_room.specs.Settling.{let_go, on_each_entry}
use Rattle.laws_lives.specs.Sessions.{EachOnce, SessionTxn, txns_of, with_undo, without_txn}
use Rattle.laws_lives.specs.UndoLists.{UndoList}
use Rattle.laws_lives.specs.Views.{IsAmong}
use Rattle.laws_lives.proofs.Ids.{told_apart}
use Rattle.laws_lives.proofs.Members.{among_with, among_without, once_without, txns_with}
use Rattle.laws_lives.proofs.Lists.{recursion-weaker}
use Rattle.laws_room.proofs.Lists.{IsSplit, append_empty, befores_append, each_alike, each_changed, none_at, not_empty, split}
use Rattle.laws_room.proofs.Pages.{alike_with, other_id, page_or_other, same_id}
use Rattle.laws_room.proofs.Rooms.{lower_room, no_others_with}

-- ---- a slot at a time

-- what the entries at an id do to its slot
abbrev pub at_all : (Image → Slot → Slot) → Rid → List (Rid × Image) → Slot → Slot
at_all h id [] s = s
at_all h id (e ∷ es) s = at_all h id es (cond (eq_by_cmp rid_cmp id e.0) (h e.1 s) s)

pub map_each : {A B : Type 0} (g : A → B) (f : ℕ → A) (first n : ℕ) → map g (each_from f first n) ≡ each_from (λ i. g (f i)) first n
map_each g f first zero = refl
map_each g f first (suc n) = ap (λ l. g (f first) ∷ l) (map_each g f (suc first) n)

pub same_page : (p : PageId) → eq_by_cmp page_cmp p p ≡ true
same_page p = (eq_by_cmp_equiv pages_total).refl p

other_page : (p q : PageId) → p ≢ q → eq_by_cmp page_cmp p q ≡ false
other_page p q other = elim (eq_by_cmp page_cmp p q) as (λ b. eq_by_cmp page_cmp p q ≡ b → b ≡ false) [
  | true ↦ λ e. absurd (other (tells_apart exact_pages p q e))
  | false ↦ λ e. refl
] refl

-- entries on the page have slots that are there
abbrev pub AreOn : PageId → ℕ → List (Rid × Image) → Type 0
AreOn p n es = AllByRecursion (λ e. p ≡ e.0.page → e.0.slot < n) es

-- one entry
pub one_each : (h : Image → Slot → Slot) (p : PageId) (n : ℕ) (e : Rid × Image) (f : ℕ → Slot) → (p ≡ e.0.page → e.0.slot < n)
    → cond (eq_by_cmp page_cmp p e.0.page) (with_change (h e.1) (each_from f 0 n) e.0.slot) (each_from f 0 n)
    ≡ each_from (λ i. cond (eq_by_cmp rid_cmp (rid_on p i) e.0) (h e.1 (f i)) (f i)) 0 n
one_each h p n e f on =
    let g : ℕ → Slot = λ i. cond (eq_by_cmp rid_cmp (rid_on p i) e.0) (h e.1 (f i)) (f i) in
    let left : (i : ℕ) → rid_on p i ≢ e.0 → g i ≡ f i = λ i other. ap (λ b. cond b (h e.1 (f i)) (f i)) (other_id (rid_on p i) e.0 other) in
    ⊎_elim
    (λ (same : p ≡ e.0.page).
    let it : rid_on p e.0.slot ≡ e.0 = ap (λ q. rid_on q e.0.slot) same in
    ap (λ b. cond b (with_change (h e.1) (each_from f 0 n) e.0.slot) (each_from f 0 n)) (subst (λ q. eq_by_cmp page_cmp p q ≡ true) same (same_page p))
    ∙ sym (each_changed (h e.1) f g n e.0.slot
    (ap (λ b. cond b (h e.1 (f e.0.slot)) (f e.0.slot)) (subst (λ q. eq_by_cmp rid_cmp (rid_on p e.0.slot) q ≡ true) it (same_id (rid_on p e.0.slot))))
    (λ j other. left j (λ e. other (ap (λ (r : Rid). r.slot) e)))
    (on same)))
    (λ other.
    ap (λ b. cond b (with_change (h e.1) (each_from f 0 n) e.0.slot) (each_from f 0 n)) (other_page p e.0.page other)
    ∙ each_alike f g 0 n (λ i ge less. sym (left i (λ e. other (ap (λ (r : Rid). r.page) e)))))
    (page_or_other p e.0.page)

pub on_each : (h : Image → Slot → Slot) (p : PageId) (n : ℕ) (es : List (Rid × Image)) (f : ℕ → Slot) → AreOn p n es
    → on_each_entry h p es (each_from f 0 n) ≡ each_from (λ i. at_all h (rid_on p i) es (f i)) 0 n
on_each h p n [] f on = refl
on_each h p n (e ∷ es) f on =
    ap (on_each_entry h p es) (one_each h p n e f on.0)
    ∙ on_each h p n es (λ i. cond (eq_by_cmp rid_cmp (rid_on p i) e.0) (h e.1 (f i)) (f i)) on.1

pub are_on : (counts : SlotCounts) (p : PageId) (es : List (Rid × Image)) → AllByRecursion (λ e. e.0.slot < counts e.0.page) es → AreOn p (counts p) es
are_on counts p es all =
    recursion-weaker (λ e. e.0.slot < counts e.0.page) (λ e. p ≡ e.0.page → e.0.slot < counts p)
    (λ e less same. subst (λ q. e.0.slot < counts q) (sym same) less) es all

slot_is : (image : Image) (a b : ℕ) → a ≡ b → ◌≡◌ {A = Slot} record { image = image; claim = a } record { image = image; claim = b }
slot_is image a b same = ap (λ (n : ℕ). slot image n) same
  where
    slot : Image → ℕ → Slot
    slot image n = record { image = image; claim = n }

-- ---- let go

stays_settled : (id : Rid) (image : Image) (es : List (Rid × Image)) → at_all (λ _. lowered 0) id es (settled image) ≡ settled image
stays_settled id image [] = refl
stays_settled id image (e ∷ es) =
    elim (eq_by_cmp rid_cmp id e.0) as (λ b. at_all (λ _. lowered 0) id es (cond b (lowered 0 (settled image)) (settled image)) ≡ settled image) [
      | true ↦ ap (at_all (λ _. lowered 0) id es) (slot_is image _ _ (least (image_len image))) ∙ stays_settled id image es
      | false ↦ stays_settled id image es
    ]
  where
    least : (a : ℕ) → min a (max a 0) ≡ a
    least a = omega arith

not_at : (id : Rid) (s : Slot) (es : List (Rid × Image)) → befores_in id es ≡ [] → at_all (λ _. lowered 0) id es s ≡ s
not_at id s [] none = refl
not_at id s (e ∷ es) none =
    let parts = append_empty (befores_in id es) (before_of id e) none in
    elim (eq_by_cmp rid_cmp id e.0) as (λ b. cond b (e.1 ∷ []) [] ≡ [] → at_all (λ _. lowered 0) id es (cond b (lowered 0 s) s) ≡ s) [
      | true ↦ λ some. absurd (not_empty some)
      | false ↦ λ _. not_at id s es parts.0
    ] parts.1

settled_at : (id : Rid) (image : Image) (claim : ℕ) (es : List (Rid × Image)) → image_len image ≤ claim → befores_in id es ≢ []
    → at_all (λ _. lowered 0) id es record { image = image; claim = claim } ≡ settled image
settled_at id image claim [] holds some = absurd (some refl)
settled_at id image claim (e ∷ es) holds some =
    elim (eq_by_cmp rid_cmp id e.0) as
    (λ b. befores_in id es ++ cond b (e.1 ∷ []) [] ≢ [] → at_all (λ _. lowered 0) id es (cond b (lowered 0 record { image = image; claim = claim }) record { image = image; claim = claim }) ≡ settled image) [
      | true ↦ λ _. ap (at_all (λ _. lowered 0) id es) (slot_is image _ _ (least (image_len image) claim holds)) ∙ stays_settled id image es
      | false ↦ λ more. settled_at id image claim es holds (λ none. more (append-nil (befores_in id es) ∙ none))
    ] some
  where
    least : (a b : ℕ) → a ≤ b → min b (max a 0) ≡ a
    least a b le = omega arith

pub empty_or_not : {A : Type 0} (xs : List A) → (xs ≡ []) ⊎ (xs ≢ [])
empty_or_not [] = inl refl
empty_or_not (x ∷ xs) = inr not_empty

-- what holds at each entry holds at an id that an image could come back to
pub found_at : (P : Rid → Type 0) (id : Rid) (es : List (Rid × Image)) → AllByRecursion (λ e. P e.0) es → befores_in id es ≢ [] → P id
found_at P id [] all some = absurd (some refl)
found_at P id (e ∷ es) all some = ⊎_elim (λ same. subst P (sym same) all.0)
    (λ other. found_at P id es all.1 (λ none. some (ap (λ b. befores_in id es ++ cond b (e.1 ∷ []) []) other ∙ append-nil (befores_in id es) ∙ none)))
    (told_apart id e.0)

let_go_room : (v : Version) (p : PageId) (es : List (Rid × Image)) (slots : List Slot) → HasRoom v slots → HasRoom v (let_go p es slots)
let_go_room v p [] slots room = room
let_go_room v p (e ∷ es) slots room =
    let_go_room v p es _ (elim (eq_by_cmp page_cmp p e.0.page) as (λ b. HasRoom v (cond b (with_change (lowered 0) slots e.0.slot) slots)) [
      | true ↦ lower_room v 0 slots e.0.slot room
      | false ↦ room
    ])

module _ (v : Version) (R : Records) (undos : List SessionTxn) (counts : SlotCounts) (k : Claimed v R undos counts) (a : SessionTxn) (m : IsAmong a undos) where
  s : IsSplit undos a
  s = split undos a k.once m

  left_at : (id : Rid) → claiming (undecided_at R (without_txn a.txn undos) id) ≡ at_all (λ _. lowered 0) id a.undo.images (claiming (undecided_at R undos id))
  left_at id =
      let parts : befores_at id (without_txn a.txn undos) ≡ befores_at id s.front ++ befores_at id s.back = ap (befores_at id) s.left_out
      ∙ befores_append id s.front s.back in
      let whole : befores_at id undos ≡ befores_at id s.front ++ (befores_in id a.undo.images ++ befores_at id s.back) = ap (befores_at id) s.whole
      ∙ befores_append id s.front (a ∷ s.back) in
      ⊎_elim
      (λ none.
      let same : befores_at id (without_txn a.txn undos) ≡ befores_at id undos = parts
      ∙ sym (whole ∙ ap (λ l. befores_at id s.front ++ (l ++ befores_at id s.back)) none) in
      ap (λ l. of (get R id) l) same ∙ sym (not_at id (claiming (undecided_at R undos id)) a.undo.images none))
      (λ some.
      let alone : NoOthers undos a.txn id = found_at (NoOthers undos a.txn) id a.undo.images (k.owned a m) some in
      let gone : befores_at id (without_txn a.txn undos) ≡ [] =
      parts ∙ ap (λ l. l ++ befores_at id s.back) (none_at id s.front (λ b m. let o = s.others b (inl m) in alone b o.0 o.1))
      ∙ none_at id s.back (λ b m. let o = s.others b (inr m) in alone b o.0 o.1) in
      ap (λ l. of (get R id) l) gone ∙ slot_is (get R id) _ _ (bare (image_len (get R id)))
      ∙ sym (settled_at id (get R id) _ a.undo.images (holds (image_len (get R id)) (longest (befores_at id undos))) some))
      (empty_or_not (befores_in id a.undo.images))
    where
      of : Image → List Image → Slot
      of image befores = claiming record { image = image; befores = befores }

      bare : (n : ℕ) → max n 0 ≡ n
      bare n = omega arith

      holds : (n l : ℕ) → n ≤ max n l
      holds n l = omega arith

  -- each slot that the transaction has changed claims what its record takes, and no other claim changes
  pub left_slots : (p : PageId) → slots_of R (without_txn a.txn undos) p (counts p) ≡ let_go p a.undo.images (slots_of R undos p (counts p))
  left_slots p =
      let f : ℕ → Slot = λ i. claiming (undecided_at R undos (rid_on p i)) in
      map_each claiming (λ i. undecided_at R (without_txn a.txn undos) (rid_on p i)) 0 (counts p)
      ∙ each_alike (λ i. claiming (undecided_at R (without_txn a.txn undos) (rid_on p i))) (λ i. at_all (λ _. lowered 0) (rid_on p i) a.undo.images (f i)) 0
      (counts p) (λ i ge less. left_at (rid_on p i))
      ∙ sym (on_each (λ _. lowered 0) p (counts p) a.undo.images f (are_on counts p a.undo.images (k.within a m)))
      ∙ ap (let_go p a.undo.images) (sym (map_each claiming (λ i. undecided_at R undos (rid_on p i)) 0 (counts p)))

  pub left_keeps : Claimed v R (without_txn a.txn undos) counts
  left_keeps = record {
    room = λ p. subst (HasRoom v) (sym (left_slots p)) (let_go_room v p a.undo.images (slots_of R undos p (counts p)) (k.room p));
    behind = k.behind;
    within = λ b among. k.within b (among_without a.txn b undos among).0;
    owned = λ b among. recursion-weaker (λ e. NoOthers undos b.txn e.0) (λ e. NoOthers (without_txn a.txn undos) b.txn e.0)
        (λ e none c there other. none c (among_without a.txn c undos there).0 other) b.undo.images (k.owned b (among_without a.txn b undos among).0);
    once = once_without a.txn undos k.once;
  }

  -- only its savepoints change
  module _ (undo : UndoList) (same : undo.images ≡ a.undo.images) where
    pub marked_at : (id : Rid) → befores_at id (with_undo a.txn undo undos) ≡ befores_at id undos
    marked_at id = alike_with s id undo (ap (befores_in id) same)

    pub marked_slots : (p : PageId) (n : ℕ) → slots_of R (with_undo a.txn undo undos) p n ≡ slots_of R undos p n
    marked_slots p n =
        ap claiming_all (each_alike (λ i. undecided_at R (with_undo a.txn undo undos) (rid_on p i)) (λ i. undecided_at R undos (rid_on p i)) 0 n (λ i ge less. ap (λ l. of (get R (rid_on p i)) l) (marked_at (rid_on p i))))
      where
        of : Image → List Image → Undecided
        of image befores = record { image = image; befores = befores }

    none_still : (u : ℕ) (q : Rid) → NoOthers undos u q → NoOthers (with_undo a.txn undo undos) u q
    none_still u q none = no_others_with undos a.txn undo u q none (λ other. ap (befores_in q) same ∙ none a m other)

    pub marked_keeps : Claimed v R (with_undo a.txn undo undos) counts
    marked_keeps = record {
      room = λ p. subst (HasRoom v) (sym (marked_slots p (counts p))) (k.room p);
      behind = k.behind;
      within = λ b among.
          let o = among_with a.txn undo b undos among in
          ⊎_elim
          (λ new. subst (λ (tr : UndoList). AllByRecursion (λ e. e.0.slot < counts e.0.page) tr.images) (sym new.1) (subst (AllByRecursion (λ e. e.0.slot < counts e.0.page)) (sym same) (k.within a m)))
          (λ old. subst (λ (c : SessionTxn). AllByRecursion (λ e. e.0.slot < counts e.0.page) c.undo.images) (sym old.1) (k.within o.was o.there))
          o.one;
      owned = λ b among.
          let o = among_with a.txn undo b undos among in
          let weaker : (u : ℕ) (es : List (Rid × Image)) → AllByRecursion (λ e. NoOthers undos u e.0) es → AllByRecursion
          (λ e. NoOthers (with_undo a.txn undo undos) u e.0) es =
          λ u es all. recursion-weaker (λ e. NoOthers undos u e.0) (λ e. NoOthers (with_undo a.txn undo undos) u e.0)
          (λ e none. none_still u e.0 none) es all in
          ⊎_elim
          (λ new. subst (λ t. AllByRecursion (λ e. NoOthers (with_undo a.txn undo undos) t e.0) b.undo.images) (sym new.0)
          (subst (λ (tr : UndoList). AllByRecursion (λ e. NoOthers (with_undo a.txn undo undos) a.txn e.0) tr.images) (sym new.1)
          (weaker a.txn undo.images (subst (AllByRecursion (λ e. NoOthers undos a.txn e.0)) (sym same) (k.owned a m)))))
          (λ old. subst (λ (c : SessionTxn). AllByRecursion (λ e. NoOthers (with_undo a.txn undo undos) c.txn e.0) c.undo.images) (sym old.1) (weaker o.was.txn o.was.undo.images (k.owned o.was o.there)))
          o.one;
      once = subst EachOnce (sym (txns_with a.txn undo undos)) k.once;
    }

-- ---- a transaction begins

pub begun_slots : (R : Records) (undos : List SessionTxn) (a : SessionTxn) → a.undo.images ≡ [] → (p : PageId) (n : ℕ)
    → slots_of R (a ∷ undos) p n ≡ slots_of R undos p n
begun_slots R undos a empty p n =
    ap claiming_all (each_alike (λ i. undecided_at R (a ∷ undos) (rid_on p i)) (λ i. undecided_at R undos (rid_on p i)) 0 n
    (λ i ge less. ap (λ l. of (get R (rid_on p i)) l) (ap (λ es. befores_in (rid_on p i) es ++ befores_at (rid_on p i) undos) empty)))
  where
    of : Image → List Image → Undecided
    of image befores = record { image = image; befores = befores }

pub begun_keeps : (v : Version) (R : Records) (undos : List SessionTxn) (counts : SlotCounts) → Claimed v R undos counts → (a : SessionTxn) → a.undo.images ≡ []
    → (IsAmong a.txn (txns_of undos) → ⊥) → Claimed v R (a ∷ undos) counts
begun_keeps v R undos counts k a empty fresh =
    let none : (u : ℕ) (q : Rid) → NoOthers undos u q → NoOthers (a ∷ undos) u q =
    λ u q h b there other. ⊎_elim (λ same. subst (λ (c : SessionTxn). befores_in q c.undo.images ≡ []) same (ap (befores_in q) empty))
    (λ later. h b later other) there in
    record {
      room = λ p. subst (HasRoom v) (sym (begun_slots R undos a empty p (counts p))) (k.room p);
      behind = k.behind;
      within = λ b there. ⊎_elim
          (λ same. subst (λ (c : SessionTxn). AllByRecursion (λ e. e.0.slot < counts e.0.page) c.undo.images) same (subst (AllByRecursion (λ e. e.0.slot < counts e.0.page)) (sym empty) tt)) (λ later. k.within b later) there;
      owned =
          λ b there. ⊎_elim (λ same. subst (λ (c : SessionTxn). AllByRecursion (λ e. NoOthers (a ∷ undos) c.txn e.0) c.undo.images) same (subst (AllByRecursion (λ e. NoOthers (a ∷ undos) a.txn e.0)) (sym empty) tt))
          (λ later. recursion-weaker (λ e. NoOthers undos b.txn e.0) (λ e. NoOthers (a ∷ undos) b.txn e.0) (λ e h. none b.txn e.0 h) b.undo.images (k.owned b later)) there;
      once = (fresh, k.once);
    }

-- The slots of pages, step by step: each step is what `shore_page` says of undecided slots.
use Rattle.std.proofs.Common.{◌≡◌, ◌≢◌, ◌⊎◌, inl, inr, ⊎_elim, ◌+◌, ◌-◌, ◌<◌, ◌≤◌, ℕ, max, List, [], ◌∷◌, ◌++◌, length, replicate, Option, Some, true, false, cond, refl, sym, ap, subst, ◌∙◌, arith}
use Rattle.std.specs.Prelude.{slice_get, IfSome}
use Rattle.std.specs.Option.{option_and_then}
use Rattle.std.specs.FinMap.{get}
use Rattle.std.specs.List.{AllByRecursion}
use Rattle.std.specs.Ordering.{eq_by_cmp}
use Rattle.std.specs.Cmp.{eq_by_cmp_equiv}
use Rattle.std.proofs.lemmas.List.{append-nil, length-map}
use Rattle.std.proofs.lemmas.Map.Views.{tells_apart}
use Rattle.shore_types.specs.Ids.{page_cmp, pages_total, exact_pages, rid_cmp, rids_total}
use Rattle.shore_types.specs.declared.ids.PageId.{PageId}
use Rattle.shore_types.specs.declared.ids.Rid.{Rid}
use Rattle.shore_types.specs.Images.{Image, image_len}
use Rattle.shore_types.specs.declared.versions.Version.{Version}
use Rattle.shore_model.specs.Records.{Records, put_image}
use Rattle.shore_page.specs.Room.{Fits}
use Rattle.shore_page.specs.Slots.{with_change}
use Rattle.shore_page.specs.Undo.{Undecided, changing, claiming, claiming_all, undone, undoing, undo_image, untouched, with_undecided}
use Rattle.shore_page.proofs.UndoLemmas.{undos_fit}
use Rattle.laws_room.specs.Claims.{Claimed, NoOthers, SlotCounts, before_of, befores_at, befores_in, each_from, rid_on, slots_of, undecided_at, undecided_on}
use Rattle.shore_model.specs.declared.rollbacks.Rollback.{Rollback}
use Rattle.laws_lives.specs.Sessions.{SessionTxn, with_undo}
use Rattle.laws_lives.specs.UndoLists.{UndoList, with_before_image}
use Rattle.laws_lives.specs.Views.{IsAmong}
use Rattle.laws_lives.proofs.Ids.{put_here, put_there, told_apart}
use Rattle.laws_room.proofs.Lists.{IsSplit, befores_append, befores_push, each_alike, each_append, each_at, each_changed, each_same, length-each, none_at, split, with_its}

-- ---- ids

pub same_id : (id : Rid) → eq_by_cmp rid_cmp id id ≡ true
same_id id = (eq_by_cmp_equiv rids_total).refl id

pub other_id : (q id : Rid) → q ≢ id → eq_by_cmp rid_cmp q id ≡ false
other_id q id other = ⊎_elim (λ same. absurd (other same)) (λ e. e) (told_apart q id)

pub page_or_other : (p q : PageId) → (p ≡ q) ⊎ (p ≢ q)
page_or_other p q =
    elim (eq_by_cmp page_cmp p q) as (λ b. eq_by_cmp page_cmp p q ≡ b → (p ≡ q) ⊎ (p ≢ q)) [
      | true ↦ λ e. inl (tells_apart exact_pages p q e)
      | false ↦ λ e. inr (λ same. clash e (subst (λ q. eq_by_cmp page_cmp p q ≡ true) same ((eq_by_cmp_equiv pages_total).refl p)))
    ] refl
  where
    clash : eq_by_cmp page_cmp p q ≡ false → eq_by_cmp page_cmp p q ≡ true → ⊥
    clash e f = cc

pub on_here : (id : Rid) → rid_on id.page id.slot ≡ id
on_here id = refl

-- ---- images that come back

pub back_same : (id : Rid) (image : Image) → before_of id (id, image) ≡ image ∷ []
back_same id image = ap (λ b. cond b (image ∷ []) []) (same_id id)

pub back_other : (q : Rid) (e : Rid × Image) → q ≢ e.0 → before_of q e ≡ []
back_other q e other = ap (λ b. cond b (e.1 ∷ []) []) (other_id q e.0 other)

pub pushed_here : (es : List (Rid × Image)) (e : Rid × Image) → befores_in e.0 (es ++ e ∷ []) ≡ e.1 ∷ befores_in e.0 es
pushed_here es e = befores_push e.0 es e ∙ ap (λ l. l ++ befores_in e.0 es) (back_same e.0 e.1)

pub pushed_there : (q : Rid) (es : List (Rid × Image)) (e : Rid × Image) → q ≢ e.0 → befores_in q (es ++ e ∷ []) ≡ befores_in q es
pushed_there q es e other = befores_push q es e ∙ ap (λ l. l ++ befores_in q es) (back_other q e other)

pub none_behind : (counts : SlotCounts) (id : Rid) (es : List (Rid × Image)) → counts id.page ≤ id.slot → AllByRecursion (λ e. e.0.slot < counts e.0.page) es
    → befores_in id es ≡ []
none_behind counts id [] behind all = refl
none_behind counts id (e ∷ es) behind all =
    ap (λ l. l ++ before_of id e) (none_behind counts id es behind all.1)
    ∙ back_other id e (λ same. low (subst (λ (q : Rid). q.slot < counts q.page) (sym same) all.0))
  where
    low : id.slot < counts id.page → ⊥
    low less = omega arith

pub all_behind : (counts : SlotCounts) (id : Rid) (undos : List SessionTxn) → counts id.page ≤ id.slot
    → ((a : SessionTxn) → IsAmong a undos → AllByRecursion (λ e. e.0.slot < counts e.0.page) a.undo.images) → befores_at id undos ≡ []
all_behind counts id undos behind within = none_at id undos (λ b m. none_behind counts id b.undo.images behind (within b m))

module _ {undos : List SessionTxn} {a : SessionTxn} (s : IsSplit undos a) where
  -- if only one transaction has images of the id
  pub lone : (id : Rid) (x : SessionTxn) → NoOthers undos a.txn id → befores_at id (s.front ++ x ∷ s.back) ≡ befores_in id x.undo.images
  lone id x none =
      befores_append id s.front (x ∷ s.back)
      ∙ ap (λ l. l ++ (befores_in id x.undo.images ++ befores_at id s.back)) (none_at id s.front (λ b m. let o = s.others b (inl m) in none b o.0 o.1))
      ∙ ap (λ l. befores_in id x.undo.images ++ l) (none_at id s.back (λ b m. let o = s.others b (inr m) in none b o.0 o.1))
      ∙ append-nil (befores_in id x.undo.images)

  pub lone_with : (id : Rid) (undo : UndoList) → NoOthers undos a.txn id → befores_at id (with_undo a.txn undo undos) ≡ befores_in id undo.images
  lone_with id undo none = ap (befores_at id) (s.with_it undo) ∙ lone id (with_its a undo) none

  pub lone_at : (id : Rid) → NoOthers undos a.txn id → befores_at id undos ≡ befores_in id a.undo.images
  lone_at id none = ap (befores_at id) s.whole ∙ lone id a none

  -- if its images of the id are what they were
  pub alike_with : (id : Rid) (undo : UndoList) → befores_in id undo.images ≡ befores_in id a.undo.images
      → befores_at id (with_undo a.txn undo undos) ≡ befores_at id undos
  alike_with id undo same =
      ap (befores_at id) (s.with_it undo) ∙ befores_append id s.front (with_its a undo ∷ s.back)
      ∙ ap (λ l. befores_at id s.front ++ (l ++ befores_at id s.back)) same
      ∙ sym (ap (befores_at id) s.whole ∙ befores_append id s.front (a ∷ s.back))

undecided_is : {i j : Image} {l m : List Image} → i ≡ j → l ≡ m → ◌≡◌ {A = Undecided} record { image = i; befores = l } record { image = j; befores = m }
undecided_is {i} {j} {l} {m} same alike = ap (λ (k : Image). of k l) same ∙ ap (λ (k : List Image). of j k) alike
  where
    of : Image → List Image → Undecided
    of image befores = record { image = image; befores = befores }

pub length-on : (R : Records) (undos : List SessionTxn) (p : PageId) (n : ℕ) → length (undecided_on R undos p n) ≡ n
length-on R undos p n = length-each (λ i. undecided_at R undos (rid_on p i)) 0 n

pub length-slots : (R : Records) (undos : List SessionTxn) (p : PageId) (n : ℕ) → length (slots_of R undos p n) ≡ n
length-slots R undos p n = length-map (undecided_on R undos p n) claiming ∙ length-on R undos p n

-- ---- a change

module _ (v : Version) (R : Records) (undos : List SessionTxn) (counts : SlotCounts) (k : Claimed v R undos counts) (a : SessionTxn) (m : IsAmong a undos) where
  its : IsSplit undos a
  its = split undos a k.once m

  module _ (id : Rid) (image : Image) (alone : NoOthers undos a.txn id) where
    abbrev changed_undos : List SessionTxn
    changed_undos = with_undo a.txn (with_before_image R a.undo id) undos

    abbrev changed_records : Records
    changed_records = put_image R id image

    change_here : undecided_at changed_records changed_undos id ≡ changing image (undecided_at R undos id)
    change_here =
        undecided_is (put_here R id image)
        (lone_with its id (with_before_image R a.undo id) alone ∙ pushed_here a.undo.images (id, get R id) ∙ ap (λ l. get R id ∷ l) (sym (lone_at its id alone)))

    change_there : (q : Rid) → q ≢ id → undecided_at changed_records changed_undos q ≡ undecided_at R undos q
    change_there q other =
        undecided_is (put_there R id image q (other_id q id other))
        (alike_with its q (with_before_image R a.undo id) (pushed_there q a.undo.images (id, get R id) other))

    -- the page of the id, as `shore_page` changes it
    pub changed_page : (n : ℕ) → n ≡ max (counts id.page) (id.slot + 1)
        → undecided_on changed_records changed_undos id.page n ≡ with_undecided (undecided_on R undos id.page (counts id.page)) id.slot image
    changed_page n is =
        let now : ℕ → Undecided = λ i. undecided_at R undos (rid_on id.page i) in
        let new : ℕ → Undecided = λ i. undecided_at changed_records changed_undos (rid_on id.page i) in
        let c = counts id.page in
        each_changed (changing image) now new n id.slot change_here (λ j other. change_there (rid_on id.page j) (λ e. other (ap (λ (r : Rid). r.slot) e)))
        (omega arith)
        ∙ ap (λ (l : List Undecided). with_change (changing image) l id.slot)
        (ap (each_from now 0) (parts n c id.slot is) ∙ each_append now c (id.slot + 1 - c)
        ∙ ap (λ (l : List Undecided). each_from now 0 c ++ l) (each_same now untouched c (id.slot + 1 - c) nothing_there)
        ∙ ap (λ (m : ℕ). each_from now 0 c ++ replicate (id.slot + 1 - m) untouched) (sym (length-on R undos id.page c)))
      where
        parts : (n c i : ℕ) → n ≡ max c (i + 1) → n ≡ c + (i + 1 - c)
        parts n c i is = omega arith

        nothing_there : (i : ℕ) → counts id.page ≤ i → undecided_at R undos (rid_on id.page i) ≡ untouched
        nothing_there i behind = undecided_is (k.behind (rid_on id.page i) behind) (all_behind counts (rid_on id.page i) undos behind k.within)

    pub changed_other : (p : PageId) (n : ℕ) → p ≢ id.page → undecided_on changed_records changed_undos p n ≡ undecided_on R undos p n
    changed_other p n other =
        each_alike (λ i. undecided_at changed_records changed_undos (rid_on p i)) (λ i. undecided_at R undos (rid_on p i)) 0 n
        (λ j ge less. change_there (rid_on p j) (λ e. other (ap (λ (r : Rid). r.page) e)))

  -- ---- the newest image put back

  module _ (kept : List (Rid × Image)) (e : Rid × Image) (marks : List ℕ) (rolling : Option Rollback) (is : a.undo.images ≡ kept ++ e ∷ []) where
    abbrev left : UndoList
    left = record { images = kept; marks = marks; rolling = rolling }

    abbrev undone_undos : List SessionTxn
    undone_undos = with_undo a.txn left undos

    abbrev undone_records : Records
    undone_records = put_image R e.0 e.1

    last_of_all : (P : Rid × Image → Type 0) (es : List (Rid × Image)) → AllByRecursion P (es ++ e ∷ []) → P e
    last_of_all P [] all = all.0
    last_of_all P (x ∷ es) all = last_of_all P es all.1

    pub all_but_last : (P : Rid × Image → Type 0) (es : List (Rid × Image)) → AllByRecursion P (es ++ e ∷ []) → AllByRecursion P es
    all_but_last P [] all = tt
    all_but_last P (x ∷ es) all = (all.0, all_but_last P es all.1)

    pub its_own : NoOthers undos a.txn e.0
    its_own = last_of_all (λ e. NoOthers undos a.txn e.0) kept (subst (AllByRecursion (λ e. NoOthers undos a.txn e.0)) is (k.owned a m))

    pub its_slot : e.0.slot < counts e.0.page
    its_slot = last_of_all (λ e. e.0.slot < counts e.0.page) kept (subst (AllByRecursion (λ e. e.0.slot < counts e.0.page)) is (k.within a m))

    pub newest : befores_at e.0 undos ≡ e.1 ∷ befores_in e.0 kept
    newest = lone_at its e.0 its_own ∙ ap (befores_in e.0) is ∙ pushed_here kept e

    undo_here : undecided_at undone_records undone_undos e.0 ≡ undoing (undecided_at R undos e.0)
    undo_here = undecided_is (put_here R e.0 e.1) (lone_with its e.0 left its_own) ∙ sym (ap (undone (get R e.0)) newest)

    undo_there : (q : Rid) → q ≢ e.0 → undecided_at undone_records undone_undos q ≡ undecided_at R undos q
    undo_there q other =
        undecided_is (put_there R e.0 e.1 q (other_id q e.0 other)) (alike_with its q left (sym (ap (befores_in q) is ∙ pushed_there q kept e other)))

    pub undone_page : undecided_on undone_records undone_undos e.0.page (counts e.0.page)
        ≡ with_change undoing (undecided_on R undos e.0.page (counts e.0.page)) e.0.slot
    undone_page =
        each_changed undoing (λ i. undecided_at R undos (rid_on e.0.page i)) (λ i. undecided_at undone_records undone_undos (rid_on e.0.page i))
        (counts e.0.page) e.0.slot undo_here (λ j other. undo_there (rid_on e.0.page j) (λ e. other (ap (λ (r : Rid). r.slot) e))) its_slot

    pub undone_other : (p : PageId) (n : ℕ) → p ≢ e.0.page → undecided_on undone_records undone_undos p n ≡ undecided_on R undos p n
    undone_other p n other =
        each_alike (λ i. undecided_at undone_records undone_undos (rid_on p i)) (λ i. undecided_at R undos (rid_on p i)) 0 n
        (λ j ge less. undo_there (rid_on p j) (λ e. other (ap (λ (r : Rid). r.page) e)))

    pub stands_there : slice_get (undecided_on R undos e.0.page (counts e.0.page)) e.0.slot
        ≡ Some record { image = get R e.0; befores = e.1 ∷ befores_in e.0 kept }
    stands_there =
        each_at (λ i. undecided_at R undos (rid_on e.0.page i)) (counts e.0.page) e.0.slot its_slot
        ∙ ap (λ (s : Undecided). Some s) (undecided_is refl newest)

    -- it fits
    pub undo_fits : Fits v (slots_of R undos e.0.page (counts e.0.page)) e.0.slot (image_len e.1)
    undo_fits =
        let slots = undecided_on R undos e.0.page (counts e.0.page) in
        let it : undo_image slots e.0.slot ≡ Some e.1 = ap (λ (o : Option Undecided). option_and_then (λ s. slice_get s.befores 0) o) stands_there in
        subst (λ (o : Option Image). IfSome o (λ before. Fits v (claiming_all slots) e.0.slot (image_len before))) it
        (undos_fit v slots (e.0.slot ∷ []) (k.room e.0.page)).0

-- Claims let go one entry after another, when a transaction is decided. Those of the other transactions stay.
use Rattle.std.proofs.Common.{◌≡◌, ◌≢◌, ◌++◌, ◌∷◌, [], inl, inr, ℕ, List, Option, None, Some, Bool, true, false, cond, is_some, map, refl, sym, ap, subst, ◌∙◌}
use Rattle.std.specs.Ordering.{eq_by_cmp}
use Rattle.std.proofs.lemmas.List.{map-append}
use Rattle.std.proofs.lemmas.Map.Views.{tells_apart}
use Rattle.shore_disk.specs.declared.device.Disk as disk
use Rattle.shore_types.specs.Ids.{exact_pages, page_cmp}
use Rattle.shore_types.specs.declared.ids.PageId.{PageId}
use Rattle.shore_types.specs.declared.ids.Rid.{Rid}
use Rattle.shore_types.specs.Images.{Image, image_len}
use Rattle.shore_types.specs.declared.versions.Version.{Version}
use Rattle.shore_page.specs.Room.{lowered}
use Rattle.shore_page.specs.Slots.{Slot, settled, with_change}
use Rattle.shore_page.specs.Text as texts
use Rattle.shore_heap.specs.declared.heap.Heap.{Heap}
use Rattle.shore_heap.specs.Contents.{FitIn, ClaimsOfPages, claimed_by, with_slots}
use Rattle.shore_heap.specs.Heaps.{Shows, device_of, frame_at, frame_of, geometry_of}
use Rattle.shore_dwrite.specs.Settled as settled_device
use Rattle.shore_dwrite.specs.Volumes.{page_number}
use Rattle.shore_heap.proofs.Bounds.{cases_page, slots_here, slots_other}
use Rattle.shore_heap.proofs.Released.{images_claimed}
use Rattle.shore_heap.proofs.Showing.{shows_same, shows_told}
use Rattle.laws_lives.specs.Sessions.{SessionTxn, without_txn}
use Rattle.laws_lives.specs.Views.{IsAmong}
use Rattle.laws_room.specs.Claims.{Claimed, slots_of}
use Rattle.shore_txn.specs.ActiveTxns.{HasMore, all_changes, session_txns}
use Rattle.shore_txn.proofs.ActiveKept.{left_fit, left_read, no_more}
use Rattle.laws_room.specs.Settling.{let_go}
use Rattle.laws_room.proofs.Leaving.{left_slots, same_page}
use Rattle.laws_calls.specs.StateChanges.{committed}
use Rattle.laws_calls.specs.States.{State, page_slots}
use Rattle.shore_txn.specs.declared.txn.Txn.{Txn}
use Rattle.shore_txn.specs.declared.undo.UndoEntry.{UndoEntry}
use Rattle.shore_txn.specs.UndoEntries.{claims_on, image_of, images_of}

-- the last entry goes last
pub let_go_more : (p : PageId) (es : List (Rid × Image)) (e : Rid × Image) (slots : List Slot) → let_go p (es ++ e ∷ []) slots ≡ let_go p (e ∷ []) (let_go p es slots)
let_go_more p [] e slots = refl
let_go_more p (x ∷ es) e slots = let_go_more p es e _

other_page : (p q : PageId) → p ≢ q → eq_by_cmp page_cmp p q ≡ false
other_page p q apart = never (eq_by_cmp page_cmp p q) (λ same. apart (tells_apart exact_pages p q same))
  where
    never : (b : Bool) → (b ≡ true → ⊥) → b ≡ false
    never true h = absurd (h refl)
    never false h = refl

-- ---- the pages of entries

-- some entry is of the page
abbrev pub touched : PageId → List UndoEntry → Bool
touched p [] = false
touched p (e ∷ es) = cond (eq_by_cmp page_cmp p e.id.page) true (touched p es)

touched_here : (done : List UndoEntry) (e : UndoEntry) → touched e.id.page (done ++ e ∷ []) ≡ true
touched_here [] e = ap (λ (b : Bool). cond b true false) (same_page e.id.page)
touched_here (x ∷ done) e = ap (cond (eq_by_cmp page_cmp e.id.page x.id.page) true) (touched_here done e) ∙ always (eq_by_cmp page_cmp e.id.page x.id.page)
  where
    always : (b : Bool) → cond b true true ≡ true
    always true = refl
    always false = refl

touched_other : (p : PageId) (done : List UndoEntry) (e : UndoEntry) → p ≢ e.id.page → touched p (done ++ e ∷ []) ≡ touched p done
touched_other p [] e apart = ap (λ (b : Bool). cond b true false) (other_page p e.id.page apart)
touched_other p (x ∷ done) e apart = ap (cond (eq_by_cmp page_cmp p x.id.page) true) (touched_other p done e apart)

-- a page that no entry is of
untouched : (p : PageId) (es : List UndoEntry) (slots : List Slot) → touched p es ≡ false → (let_go p (images_of es) slots ≡ slots) × (claims_on p es ≡ [])
untouched p [] slots none = (refl, refl)
untouched p (e ∷ es) slots none = each (untouched p es slots) (eq_by_cmp page_cmp p e.id.page) none
  where
    each : (touched p es ≡ false → (let_go p (images_of es) slots ≡ slots) × (claims_on p es ≡ [])) → (b : Bool) → cond b true (touched p es) ≡ false
        → (let_go p (images_of es) (cond b (with_change (lowered 0) slots e.id.slot) slots) ≡ slots) × (cond b ((e.id.slot, image_len e.before) ∷ claims_on p es) (claims_on p es) ≡ [])
    each rest true is = absurd (clash is)
      where
        clash : true ≡ false → ⊥
        clash e = cc
    each rest false is = rest is

-- ---- what stands once some entries have let their claims go

-- a page that the volume alone has, as it would be read with these claims
abbrev pub read_with : List (ℕ × ℕ) → List Slot → List Slot
read_with kept slots = claimed_by kept (map settled (texts.images_of slots))

-- a page in a frame has lowered its slots; one that the volume alone has is as it would be read with the claims that stay, once one entry of it has come
abbrev pub slots_left : Bool → PageId → List UndoEntry → List (ℕ × ℕ) → List Slot → List Slot
slots_left framed p done stays slots = cond framed (let_go p (images_of done) slots) (cond (touched p done) (read_with stays slots) slots)

-- .. and these are told of it then
abbrev pub kept_left : PageId → List UndoEntry → List (ℕ × ℕ) → List (ℕ × ℕ) → List (ℕ × ℕ)
kept_left p done stays kept = cond (touched p done) stays kept

images_read : (stays : List (ℕ × ℕ)) (slots : List Slot) (b : Bool) → texts.images_of (cond b (read_with stays slots) slots) ≡ texts.images_of slots
images_read stays slots true = images_claimed stays (texts.images_of slots)
images_read stays slots false = refl

module _ (p : PageId) (done : List UndoEntry) (e : UndoEntry) (stays : List (ℕ × ℕ)) where
  let_go_after : (slots : List Slot) → let_go p (images_of (done ++ e ∷ [])) slots
      ≡ cond (eq_by_cmp page_cmp p e.id.page) (with_change (lowered 0) (let_go p (images_of done) slots) e.id.slot) (let_go p (images_of done) slots)
  let_go_after slots = ap (λ es. let_go p es slots) (map-append image_of done (e ∷ [])) ∙ let_go_more p (images_of done) (image_of e) slots

  left_other : (framed : Bool) (slots : List Slot) → p ≢ e.id.page → slots_left framed p (done ++ e ∷ []) stays slots ≡ slots_left framed p done stays slots
  left_other true slots apart =
      let_go_after slots ∙ ap (λ (b : Bool). cond b (with_change (lowered 0) (let_go p (images_of done) slots) e.id.slot) (let_go p (images_of done) slots)) (other_page p e.id.page apart)
  left_other false slots apart = ap (λ (b : Bool). cond b (read_with stays slots) slots) (touched_other p done e apart)

  kept_other : (kept : List (ℕ × ℕ)) → p ≢ e.id.page → kept_left p (done ++ e ∷ []) stays kept ≡ kept_left p done stays kept
  kept_other kept apart = ap (λ (b : Bool). cond b stays kept) (touched_other p done e apart)

module _ (done : List UndoEntry) (e : UndoEntry) (stays : List (ℕ × ℕ)) where
  left_framed : (slots : List Slot) → slots_left true e.id.page (done ++ e ∷ []) stays slots ≡ with_change (lowered 0) (slots_left true e.id.page done stays slots) e.id.slot
  left_framed slots =
      let_go_after e.id.page done e stays slots
      ∙ ap (λ (b : Bool). cond b (with_change (lowered 0) (let_go e.id.page (images_of done) slots) e.id.slot) (let_go e.id.page (images_of done) slots)) (same_page e.id.page)

  images_left : (slots : List Slot) → texts.images_of (slots_left false e.id.page done stays slots) ≡ texts.images_of slots
  images_left slots = images_read stays slots (touched e.id.page done)

  left_unframed : (slots : List Slot) → slots_left false e.id.page (done ++ e ∷ []) stays slots ≡ read_with stays (slots_left false e.id.page done stays slots)
  left_unframed slots =
      ap (λ (b : Bool). cond b (read_with stays slots) slots) (touched_here done e) ∙ ap (λ (l : List Image). claimed_by stays (map settled l)) (sym (images_left slots))

  kept_here : (kept : List (ℕ × ℕ)) → kept_left e.id.page (done ++ e ∷ []) stays kept ≡ stays
  kept_here kept = ap (λ (b : Bool). cond b stays kept) (touched_here done e)

none_some : {A : Type 0} (o : Option A) → is_some o ≡ true → o ≡ None → ⊥
none_some (Some x) is none = clash x none
  where
    clash : {A : Type 0} (x : A) → Some x ≡ None → ⊥
    clash x e = cc
none_some None is none = clash is
  where
    clash : false ≡ true → ⊥
    clash e = cc

is_none : {A : Type 0} (o : Option A) → is_some o ≡ false → o ≡ None
is_none None is = refl
is_none (Some x) is = absurd (clash is)
  where
    clash : true ≡ false → ⊥
    clash e = cc

-- each page takes these claims, as it would be read
abbrev pub Take : Version → ClaimsOfPages → (PageId → List Slot) → Type 0
Take v stay S = (p : PageId) → FitIn v (stay p) (map settled (texts.images_of (S p)))

-- N are the claims that stay
module _ (framed : PageId → Bool) (K N : ClaimsOfPages) (S : PageId → List Slot) where
  -- what is told of each page, and the slots that it has
  abbrev pub kept_by : List UndoEntry → ClaimsOfPages
  kept_by done p = kept_left p done (N p) (K p)

  abbrev pub slots_by : List UndoEntry → PageId → List Slot
  slots_by done p = slots_left (framed p) p done (N p) (S p)

module _ {V : Type 0} {H : disk.Ghosts V} (framed : PageId → Bool) (K N : ClaimsOfPages) (S : PageId → List Slot) where
  -- what a heap shows once these entries have let their claims go
  abbrev pub ShowsLeft : Heap V H → List ℕ → (ℕ → List ℕ) → List UndoEntry → Type 0
  ShowsLeft heap front disk done = Shows (λ p. kept_left p done (N p) (K p)) heap front disk (λ p. slots_left (framed p) p done (N p) (S p))

  module _ (v : Version) (mid new : Heap V H) (front : List ℕ) (disk : ℕ → List ℕ) (done : List UndoEntry) (e : UndoEntry) where
    -- the other pages are as they were
    slots_are : (put : List Slot → List Slot) → slots_by framed K N S (done ++ e ∷ []) e.id.page ≡ put (slots_by framed K N S done e.id.page)
        → (p : PageId) → slots_by framed K N S (done ++ e ∷ []) p ≡ with_slots (slots_by framed K N S done) e.id.page put p
    slots_are put here p = elim (cases_page p e.id.page) [
      | inl same ↦ ap (slots_by framed K N S (done ++ e ∷ [])) same ∙ here ∙ sym (slots_here (slots_by framed K N S done) e.id.page put) ∙ ap (with_slots (slots_by framed K N S done) e.id.page put) (sym same)
      | inr other ↦ left_other p done e (N p) (framed p) (S p) other ∙ sym (slots_other (slots_by framed K N S done) e.id.page put p other)
    ]

    -- its page is in a frame
    pub released_framed : framed e.id.page ≡ true → is_some (frame_of new e.id.page) ≡ true
        → Shows (kept_by framed K N S done) new front disk (with_slots (slots_by framed K N S done) e.id.page (λ slots. with_change (lowered 0) slots e.id.slot)) → ShowsLeft new front disk (done ++ e ∷ [])
    released_framed is held shows =
        shows_told new (kept_by framed K N S done) (kept_by framed K N S (done ++ e ∷ [])) front disk (slots_by framed K N S (done ++ e ∷ []))
        (λ p has none. kept_other p done e (N p) (K p) (λ same. none_some (frame_of new e.id.page) held (ap (frame_of new) (sym same) ∙ none)))
        (shows_same new (kept_by framed K N S done) front disk (with_slots (slots_by framed K N S done) e.id.page (λ slots. with_change (lowered 0) slots e.id.slot)) (slots_by framed K N S (done ++ e ∷ []))
        (λ p has. slots_are (λ slots. with_change (lowered 0) slots e.id.slot) here p) shows)
      where
        here : slots_by framed K N S (done ++ e ∷ []) e.id.page ≡ with_change (lowered 0) (slots_by framed K N S done e.id.page) e.id.slot
        here =
            ap (λ (b : Bool). slots_left b e.id.page (done ++ e ∷ []) (N e.id.page) (S e.id.page)) is ∙ left_framed done e (N e.id.page) (S e.id.page)
            ∙ ap (λ (b : Bool). with_change (lowered 0) (slots_left b e.id.page done (N e.id.page) (S e.id.page)) e.id.slot) (sym is)

    -- the volume alone has it
    pub released_read : framed e.id.page ≡ false
        → Shows (kept_by framed K N S (done ++ e ∷ [])) new front disk (with_slots (slots_by framed K N S done) e.id.page (read_with (kept_by framed K N S (done ++ e ∷ []) e.id.page)))
        → ShowsLeft new front disk (done ++ e ∷ [])
    released_read is shows =
        shows_same new (kept_by framed K N S (done ++ e ∷ [])) front disk (with_slots (slots_by framed K N S done) e.id.page (read_with (kept_by framed K N S (done ++ e ∷ []) e.id.page))) (slots_by framed K N S (done ++ e ∷ []))
        (λ p has. slots_are (read_with (kept_by framed K N S (done ++ e ∷ []) e.id.page)) here p) shows
      where
        here : slots_by framed K N S (done ++ e ∷ []) e.id.page ≡ read_with (kept_by framed K N S (done ++ e ∷ []) e.id.page) (slots_by framed K N S done e.id.page)
        here =
            ap (λ (b : Bool). slots_left b e.id.page (done ++ e ∷ []) (N e.id.page) (S e.id.page)) is ∙ left_unframed done e (N e.id.page) (S e.id.page)
            ∙ ap (λ (b : Bool). read_with (N e.id.page) (slots_left b e.id.page done (N e.id.page) (S e.id.page))) (sym is)
            ∙ ap (λ kept. read_with kept (slots_by framed K N S done e.id.page)) (sym (kept_here done e (N e.id.page) (K e.id.page)))

    -- the claims that stay fit it
    fits_read : Take v N S → framed e.id.page ≡ false → FitIn v (kept_by framed K N S (done ++ e ∷ []) e.id.page) (map settled (texts.images_of (slots_by framed K N S done e.id.page)))
    fits_read fit is =
        subst (λ kept. FitIn v kept (map settled (texts.images_of (slots_by framed K N S done e.id.page)))) (sym (kept_here done e (N e.id.page) (K e.id.page)))
        (subst (λ (b : Bool). FitIn v (N e.id.page) (map settled (texts.images_of (slots_left b e.id.page done (N e.id.page) (S e.id.page))))) (sym is)
        (subst (λ (l : List Image). FitIn v (N e.id.page) (map settled l)) (sym (images_left done e (N e.id.page) (S e.id.page))) (fit e.id.page)))

  -- one entry more of an undo list has let its claim go
  pub released_more : (v : Version) (mid new : Heap V H) (front : List ℕ) (disk : ℕ → List ℕ) (done more : List UndoEntry) (e : UndoEntry) → more ≡ done ++ e ∷ [] → Take v N S
      → is_some (frame_of mid e.id.page) ≡ framed e.id.page → is_some (frame_of new e.id.page) ≡ framed e.id.page
      → ((L : ClaimsOfPages) (T : PageId → List Slot) → Shows L mid front disk T → (frame_of mid e.id.page ≡ None → L e.id.page ≡ []) → Shows L new front disk (with_slots T e.id.page (λ slots. with_change (lowered 0) slots e.id.slot)))
      → ((L M : ClaimsOfPages) (T : PageId → List Slot) → Shows L mid front disk T → frame_of mid e.id.page ≡ None → ((p : PageId) → p ≢ e.id.page → M p ≡ L p)
      → FitIn v (M e.id.page) (map settled (texts.images_of (T e.id.page))) → Shows M new front disk (with_slots T e.id.page (λ slots. claimed_by (M e.id.page) (map settled (texts.images_of slots)))))
      → ShowsLeft mid front disk done → ShowsLeft new front disk more
  released_more v mid new front disk done more e is fit was held lowers tells shows = subst (ShowsLeft new front disk) (sym is) (each (framed e.id.page) refl)
    where
      each : (b : Bool) → framed e.id.page ≡ b → ShowsLeft new front disk (done ++ e ∷ [])
      each true there =
          released_framed v mid new front disk done e there (held ∙ there)
          (lowers (kept_by framed K N S done) (slots_by framed K N S done) shows (λ none. absurd (none_some (frame_of mid e.id.page) (was ∙ there) none)))
      each false away =
          released_read v mid new front disk done e away
          (tells (kept_by framed K N S done) (kept_by framed K N S (done ++ e ∷ [])) (slots_by framed K N S done) shows (is_none (frame_of mid e.id.page) (was ∙ away))
          (λ p apart. kept_other p done e (N p) (K p) apart) (fits_read v mid new front disk done e fit away))

  -- none has as yet
  pub none_released : (heap : Heap V H) (front : List ℕ) (disk : ℕ → List ℕ) → Shows K heap front disk S → ShowsLeft heap front disk []
  none_released heap front disk shows = shows_same heap K front disk S (slots_by framed K N S []) (λ p has. same (framed p) p) shows
    where
      same : (b : Bool) (p : PageId) → slots_left b p [] (N p) (S p) ≡ S p
      same true p = refl
      same false p = refl

-- a page is in a frame as it was
pub framed_as : {V : Type 0} {H : disk.Ghosts V} (old new : Heap V H) (id : PageId) → device_of new ≡ device_of old → ((k : ℕ) → is_some (frame_at new k) ≡ is_some (frame_at old k))
    → is_some (frame_of new id) ≡ is_some (frame_of old id)
framed_as old new id device held = ap (λ d. is_some (frame_at new (page_number (settled_device.geometry_of d) id))) device ∙ held (page_number (geometry_of old) id)

-- all of them have: the transaction is under way no more
module _ (v : Version) (s : State) (a : SessionTxn) (es : List UndoEntry) (old new : List Txn) (all : images_of es ≡ a.undo.images) (claimed : Claimed v s.sessions.records s.sessions.active s.counts)
    (m : IsAmong a s.sessions.active) (was : s.sessions.active ≡ session_txns old) (out : session_txns new ≡ without_txn a.txn (session_txns old))
    (more : (p : PageId) → HasMore (claims_on p es) (claims_on p (all_changes new)) (claims_on p (all_changes old))) where
  abbrev stay : ClaimsOfPages
  stay p = claims_on p (all_changes new)

  gone : (p : PageId) → page_slots (committed s a) p ≡ let_go p (images_of es) (page_slots s p)
  gone p = left_slots v s.sessions.records s.sessions.active s.counts claimed a m p ∙ ap (λ l. let_go p l (page_slots s p)) (sym all)

  module _ (p : PageId) where
    abbrev told : List SessionTxn → List Slot
    told undos = slots_of s.sessions.records undos p (s.counts p)

    read : let_go p (images_of es) (page_slots s p) ≡ read_with (stay p) (page_slots s p)
    read =
        ap (λ l. let_go p l (page_slots s p)) all
        ∙ subst (λ undos. let_go p a.undo.images (told undos) ≡ read_with (stay p) (told undos)) (sym was)
        (left_read v old new s.sessions.records s.counts a (subst (λ undos. Claimed v s.sessions.records undos s.counts) was claimed) (subst (IsAmong a) was m) out p)

    left_is : (framed : Bool) → page_slots (committed s a) p ≡ slots_left framed p es (stay p) (page_slots s p)
    left_is true = gone p
    left_is false = gone p ∙ each (touched p es) refl
      where
        each : (b : Bool) → touched p es ≡ b → let_go p (images_of es) (page_slots s p) ≡ cond (touched p es) (read_with (stay p) (page_slots s p)) (page_slots s p)
        each true is = read ∙ ap (λ (b : Bool). cond b (read_with (stay p) (page_slots s p)) (page_slots s p)) (sym is)
        each false is = (untouched p es (page_slots s p) is).0 ∙ ap (λ (b : Bool). cond b (read_with (stay p) (page_slots s p)) (page_slots s p)) (sym is)

    kept_is : stay p ≡ kept_left p es (stay p) (claims_on p (all_changes old))
    kept_is = each (touched p es) refl
      where
        each : (b : Bool) → touched p es ≡ b → stay p ≡ cond (touched p es) (stay p) (claims_on p (all_changes old))
        each true is = ap (λ (b : Bool). cond b (stay p) (claims_on p (all_changes old))) (sym is)
        each false is =
            sym (no_more (claims_on p es) (stay p) (claims_on p (all_changes old)) (more p) (untouched p es [] is).1)
            ∙ ap (λ (b : Bool). cond b (stay p) (claims_on p (all_changes old))) (sym is)

  -- the claims that stay fit each page
  pub stays_fit : (p : PageId) → FitIn v (stay p) (map settled (texts.images_of (page_slots s p)))
  stays_fit p =
      subst (λ undos. FitIn v (stay p) (map settled (texts.images_of (slots_of s.sessions.records undos p (s.counts p))))) (sym was)
      (left_fit v old new s.sessions.records s.counts a (subst (λ undos. Claimed v s.sessions.records undos s.counts) was claimed) (subst (IsAmong a) was m) out p)

  pub all_released : {V : Type 0} {H : disk.Ghosts V} (heap : Heap V H) (framed : PageId → Bool) (front : List ℕ) (disk : ℕ → List ℕ)
      → ShowsLeft framed (λ p. claims_on p (all_changes old)) stay (page_slots s) heap front disk es → Shows stay heap front disk (page_slots (committed s a))
  all_released heap framed front disk shows =
      shows_told heap (λ p. kept_left p es (stay p) (claims_on p (all_changes old))) stay front disk (page_slots (committed s a)) (λ p has away. kept_is p)
      (shows_same heap (λ p. kept_left p es (stay p) (claims_on p (all_changes old))) front disk (λ p. slots_left (framed p) p es (stay p) (page_slots s p)) (page_slots (committed s a)) (λ p has. left_is p (framed p)) shows)

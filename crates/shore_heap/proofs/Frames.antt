-- The slots of pages, as frames come and change.
use Rattle.std.proofs.Common.{◌≡◌, ◌≢◌, ◌⊎◌, ◌≤◌, ℕ, List, map, Option, Some, None, IsSomeAnd, is_some, option_map, true, false, refl, sym, ap, subst, ◌∙◌, inl, inr, IsTrue}
use Rattle.shore_types.specs.declared.ids.PageId.{PageId}
use Rattle.shore_types.specs.declared.layout.Geometry.{Geometry}
use Rattle.shore_types.specs.Images.{Image}
use Rattle.shore_types.specs.Layout.{HasPage}
use Rattle.shore_types.specs.declared.versions.Version.{Version}
use Rattle.shore_dwrite.specs.Volumes.{page_number}
use Rattle.shore_dwrite.proofs.Numbers.{one_page}
use Rattle.shore_page.specs.Slots.{PageState, Slot, settled}
use Rattle.shore_page.specs.Text.{IsPageText, images_of, settled_page}
use Rattle.shore_pool.specs.declared.frame.Frame.{Frame}
use Rattle.shore_pool.specs.declared.pool.Fetched.{Fetched}
use Rattle.shore_pool.specs.Changes as changes
use Rattle.shore_pool.specs.Pages.{AreInOrder, IsPage, SamePages}
use Rattle.shore_pool.specs.Pools.{StaysOrGoes}
use Rattle.shore_heap.specs.Contents.{AreKept, FitIn, HasSlots, ClaimsOfPages, claimed_by, claimed_frame, with_slots}
use Rattle.shore_heap.proofs.Bounds.{cases_page, slots_here, slots_other}

-- a fetch found a page, or read it
pub by_how : (A B : Type 0) (how : Fetched) → (how ≡ Fetched.Held → A) → (how ≡ Fetched.Read → B) → A ⊎ B
by_how A B Fetched.Held a b = inl (a refl)
by_how A B Fetched.Read a b = inr (b refl)

pub some_mapped : {A B : Type 0} (f : A → B) (o : Option A) → is_some o ≡ true → is_some (option_map f o) ≡ true
some_mapped f None is = let clash : false ≡ true = is in absurd cc
some_mapped f (Some x) is = refl

-- what holds of the slots in a frame holds of those that are shown
pub of_shown : (v : Version) (P : List Slot → Type 0) (o : Option Frame) (text : List ℕ) (id : PageId) (kept : List (ℕ × ℕ)) (slots : List Slot) → HasSlots v o text id kept slots → IsSomeAnd o (λ f. P f.page.slots) → P slots
of_shown v P None text id kept slots has is = absurd is
of_shown v P (Some f) text id kept slots has is = subst P has is

-- .. and the other way round, if there is a frame: what a caller has to say of a frame
pub to_frame : (v : Version) (P : List Slot → Type 0) (o : Option Frame) (text : List ℕ) (id : PageId) (kept : List (ℕ × ℕ)) (slots : List Slot) → HasSlots v o text id kept slots → is_some o ≡ true → P slots → IsSomeAnd o (λ f. P f.page.slots)
to_frame v P None text id kept slots has held holds = let clash : false ≡ true = held in absurd cc
to_frame v P (Some f) text id kept slots has held holds = subst P (sym has) holds

-- what holds of the slots that are shown holds of the frame that there is
pub shown_to : (v : Version) (P : List Slot → Type 0) (o : Option Frame) (text : List ℕ) (id : PageId) (kept : List (ℕ × ℕ)) (slots : List Slot) → HasSlots v o text id kept slots → IsTrue (is_some o) → P slots → IsSomeAnd o (λ f. P f.page.slots)
shown_to v P None text id kept slots has held holds = cc
shown_to v P (Some f) text id kept slots has held holds = subst P (sym has) holds

-- .. and what holds of a page that was lent holds of its frame
pub of_lent : (P : List Slot → Type 0) (o : Option Frame) (page : PageState) → Some page ≡ option_map (λ f. f.page) o → P page.slots → IsSomeAnd o (λ f. P f.page.slots)
of_lent P None page is holds = let clash : Some page ≡ None = is in absurd cc
of_lent P (Some f) page is holds = let same : page ≡ f.page = cc in subst (λ (p : PageState). P p.slots) same holds

-- the frame of a page that was just read
abbrev pub IsRead : Version → PageId → ℕ → Frame → Type 0
IsRead v id last f = (f.page ≡ settled_page v id f.page.number (images_of f.page.slots)) × (f.page.number ≤ last) × (f.recovery ≡ None)

-- each page has these slots, by these frames
abbrev pub Have : Geometry → (ℕ → Option Frame) → (ℕ → List ℕ) → ClaimsOfPages → (PageId → List Slot) → Type 0
Have g frames disk K S = (id : PageId) → HasPage g id → HasSlots g.version (frames (page_number g id)) (disk (page_number g id)) id (K id) (S id)

-- a page that was read has its slots when so much is kept for them
pub read_slots : (v : Version) (id : PageId) (last : ℕ) (text : List ℕ) (kept : List (ℕ × ℕ)) (slots : List Slot) (f : Frame) → IsRead v id last f → (has : HasSlots v None text id kept slots) → images_of f.page.slots ≡ has.1
    → FitIn v kept f.page.slots × (claimed_by kept f.page.slots ≡ slots)
read_slots v id last text kept slots f is has images =
    let same : f.page.slots ≡ map settled has.1 = ap (λ (p : PageState). p.slots) is.0 ∙ ap (λ (l : List Image). map settled l) images in
    (subst (FitIn v kept) (sym same) has.4, ap (claimed_by kept) same ∙ sym has.3)

-- how the page that is fetched came into its frame: it was read, and then keeps what is told of it
pub record Came (v : Version) (at mid now : ℕ → Option Frame) (n : ℕ) (id : PageId) (kept : List (ℕ × ℕ)) (last : ℕ) : Type 0 where
  pub none : at n ≡ None
  pub read : IsSomeAnd (mid n) (IsRead v id last)
  pub then_kept : (f : Frame) → mid n ≡ Some f → FitIn v kept f.page.slots → now n ≡ Some (claimed_frame kept f)

pub came_slots : (v : Version) (at mid now : ℕ → Option Frame) (n : ℕ) (id : PageId) (kept : List (ℕ × ℕ)) (last : ℕ) (was text : List ℕ) (slots : List Slot) → Came v at mid now n id kept last
    → HasSlots v (at n) was id kept slots → ((f : Frame) (images : List Image) → mid n ≡ Some f → IsRead v id last f → (number : ℕ) → IsPageText v was id number images → images_of f.page.slots ≡ images) → HasSlots v (now n) text id kept slots
came_slots v at mid now n id kept last was text slots came has images = each (mid n) refl came.read
  where
    each : (o : Option Frame) → mid n ≡ o → IsSomeAnd o (IsRead v id last) → HasSlots v (now n) text id kept slots
    each None is read = absurd read
    each (Some f) is read =
        let old : HasSlots v None was id kept slots = subst (λ (o : Option Frame). HasSlots v o was id kept slots) came.none has in
        let both = read_slots v id last was kept slots f read old (images f old.1 is read old.0 old.2) in
        subst (λ (o : Option Frame). HasSlots v o text id kept slots) (sym (came.then_kept f is both.0)) both.1

module _ (g : Geometry) (at now : ℕ → Option Frame) (disk : ℕ → List ℕ) (K : ClaimsOfPages) (S : PageId → List Slot) (id : PageId) (there : HasPage g id) (others : (k : ℕ) → k ≢ page_number g id → now k ≡ at k) (have : Have g at disk K S) where
  elsewhere : (p : PageId) → HasPage g p → p ≢ id → HasSlots g.version (now (page_number g p)) (disk (page_number g p)) p (K p) (S p)
  elsewhere p has apart = subst (λ (o : Option Frame). HasSlots g.version o (disk (page_number g p)) p (K p) (S p)) (sym (others (page_number g p) (λ same. apart (one_page g p id has there same)))) (have p has)

  -- the slots of a page in a frame are changed
  pub have_changed : (change : Frame → Frame) (f : List Slot → List Slot) → ((e : Frame) → (change e).page.slots ≡ f e.page.slots) → now (page_number g id) ≡ option_map change (at (page_number g id))
      → is_some (at (page_number g id)) ≡ true → Have g now disk K (with_slots S id f)
  have_changed change f keeps is held p has = elim (cases_page p id) [
    | inl same ↦ subst (λ (q : PageId). HasSlots g.version (now (page_number g q)) (disk (page_number g q)) q (K q) (with_slots S id f q)) (sym same)
        (subst (λ (o : Option Frame). HasSlots g.version o (disk (page_number g id)) id (K id) (with_slots S id f id)) (sym is) (each (at (page_number g id)) held (have id there)))
    | inr other ↦ subst (λ (l : List Slot). HasSlots g.version (now (page_number g p)) (disk (page_number g p)) p (K p) l) (sym (slots_other S id f p other)) (elsewhere p has other)
  ]
    where
      each : (o : Option Frame) → is_some o ≡ true → HasSlots g.version o (disk (page_number g id)) id (K id) (S id) → HasSlots g.version (option_map change o) (disk (page_number g id)) id (K id) (with_slots S id f id)
      each None some has = let clash : false ≡ true = some in absurd cc
      each (Some e) some has = keeps e ∙ ap f has ∙ sym (slots_here S id f)

-- ---- pages that may have left their frames

module _ (g : Geometry) (at now : ℕ → Option Frame) (disk left : ℕ → List ℕ) (K : ClaimsOfPages) (S : PageId → List Slot) (order : AreInOrder at g) (same : SamePages g.version at disk now left) (have : Have g at disk K S) (are : AreKept g K S) where
  -- a page that has no frame now, whether it had one or not
  have_gone : (p : PageId) → HasPage g p → now (page_number g p) ≡ None → HasSlots g.version None (left (page_number g p)) p (K p) (S p)
  have_gone p has none = each (at (page_number g p)) refl (have p has)
    where
      text_of : (number : ℕ) (images : List Image) → IsPage g.version (at (page_number g p)) (disk (page_number g p)) p number images → IsPageText g.version (left (page_number g p)) p number images
      text_of number images is = subst (λ (o : Option Frame). IsPage g.version o (left (page_number g p)) p number images) none ((same (page_number g p) p number images).0 is)

      each : (o : Option Frame) → at (page_number g p) ≡ o → HasSlots g.version o (disk (page_number g p)) p (K p) (S p) → HasSlots g.version None (left (page_number g p)) p (K p) (S p)
      each None is slots = (slots.0, slots.1, text_of slots.0 slots.1 (subst (λ (o : Option Frame). IsPage g.version o (disk (page_number g p)) p slots.0 slots.1) (sym is) slots.2), slots.3, slots.4)
      each (Some f) is slots =
          let its = order (page_number g p) f is in
          let id : f.page.id ≡ p = one_page g f.page.id p its.0 has its.1 in
          let text = text_of f.page.number (images_of f.page.slots) (subst (λ (o : Option Frame). IsPage g.version o (disk (page_number g p)) p f.page.number (images_of f.page.slots)) (sym is) (id, refl, refl)) in
          let told = are p has in
          (f.page.number, images_of (S p), subst (λ (l : List Slot). IsPageText g.version (left (page_number g p)) p f.page.number (images_of l)) slots text, told.0, told.1)

  -- .. or has the one that it had
  pub have_left : (p : PageId) → HasPage g p → StaysOrGoes (at (page_number g p)) (now (page_number g p)) → HasSlots g.version (now (page_number g p)) (left (page_number g p)) p (K p) (S p)
  have_left p has stays = each (now (page_number g p)) refl stays
    where
      clean_slots : (o : Option Frame) (f : Frame) → option_map changes.settled o ≡ Some f → HasSlots g.version o (disk (page_number g p)) p (K p) (S p) → HasSlots g.version (Some f) (left (page_number g p)) p (K p) (S p)
      clean_slots None f is slots = let clash : None ≡ Some f = is in absurd cc
      clean_slots (Some e) f is slots = subst (λ (o : Option Frame). HasSlots g.version o (left (page_number g p)) p (K p) (S p)) is slots

      each : (o : Option Frame) → now (page_number g p) ≡ o → StaysOrGoes (at (page_number g p)) (now (page_number g p)) → HasSlots g.version o (left (page_number g p)) p (K p) (S p)
      each None is it = have_gone p has is
      each (Some f) is (inl stay) = subst (λ (o : Option Frame). HasSlots g.version o (disk (page_number g p)) p (K p) (S p)) (sym stay ∙ is) (have p has)
      each (Some f) is (inr (inl clean)) = clean_slots (at (page_number g p)) f (sym clean ∙ is) (have p has)
      each (Some f) is (inr (inr gone)) = let clash : None ≡ Some f = sym gone ∙ is in absurd cc

  -- .. after one page was fetched
  pub have_fetched : (mid : ℕ → Option Frame) (id : PageId) (last : ℕ) → HasPage g id → SamePages g.version at disk mid left → ((k : ℕ) → k ≢ page_number g id → StaysOrGoes (at k) (now k))
      → StaysOrGoes (at (page_number g id)) (now (page_number g id)) ⊎ Came g.version at mid now (page_number g id) id (K id) last → Have g now left K S
  have_fetched mid id last there pages others come p has = elim (cases_page p id) [
    | inl here ↦ subst (λ (q : PageId). HasSlots g.version (now (page_number g q)) (left (page_number g q)) q (K q) (S q)) (sym here) (its come)
    | inr other ↦ have_left p has (others (page_number g p) (λ one. other (one_page g p id has there one)))
  ]
    where
      its : StaysOrGoes (at (page_number g id)) (now (page_number g id)) ⊎ Came g.version at mid now (page_number g id) id (K id) last → HasSlots g.version (now (page_number g id)) (left (page_number g id)) id (K id) (S id)
      its (inl stays) = have_left id there stays
      its (inr came) = came_slots g.version at mid now (page_number g id) id (K id) last (disk (page_number g id)) (left (page_number g id)) (S id) came (have id there)
          (λ f images is read number text.
          let was : IsPage g.version (at (page_number g id)) (disk (page_number g id)) id number images = subst (λ (o : Option Frame). IsPage g.version o (disk (page_number g id)) id number images) (sym came.none) text in
          (subst (λ (o : Option Frame). IsPage g.version o (left (page_number g id)) id number images) is ((pages (page_number g id) id number images).0 was)).2)

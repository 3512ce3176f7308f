-- What the pages claim so far, with the claim of one change more.
use Rattle.std.proofs.Common.{◌≡◌, ◌≢◌, ◌++◌, ◌∷◌, ℕ, List, Option, None, Some, false, true, inl, inr, refl, sym, ap, subst, ◌∙◌}
use Rattle.std.specs.Prelude.{IsSomeAnd, IsTrue, is_some, option_map}
use Rattle.shore_types.specs.Images.{image_len}
use Rattle.shore_types.specs.Layout.{HasPage}
use Rattle.shore_types.specs.declared.ids.PageId.{PageId}
use Rattle.shore_types.specs.declared.layout.Geometry.{Geometry}
use Rattle.shore_disk.specs.declared.device.Disk.{Ghosts}
use Rattle.shore_dwrite.specs.Volumes.{page_number}
use Rattle.shore_dwrite.proofs.Numbers.{one_page}
use Rattle.shore_page.specs.Room.{raised}
use Rattle.shore_page.specs.Slots.{Slot}
use Rattle.shore_pool.specs.declared.frame.Frame.{Frame}
use Rattle.shore_pool.specs.Changes.{reclaimed}
use Rattle.shore_pool.specs.Pages.{SamePages}
use Rattle.shore_pool.specs.Pools.{PoolHolds}
use Rattle.shore_heap.specs.declared.heap.Heap.{Heap}
use Rattle.shore_heap.specs.Contents.{AreBounds, CanKeep, claimed_by}
use Rattle.shore_heap.specs.Heaps.{bounds_of, device_of, frame_at, frame_of, geometry_of}
use Rattle.shore_heap.proofs.Bounds.{cases_page}
use Rattle.shore_txn.specs.UndoEntries.{claims_on}
use Rattle.shore_txn.specs.declared.undo.UndoEntry.{UndoEntry}
use Rattle.shore_txn.proofs.ClaimLemmas.{claims_append}
use Rattle.laws_heaps.proofs.Stores.{store_unwritten}
use Rattle.laws_lives.specs.Recovery.{RecoveryState}
use Rattle.shore_restart.specs.GivenBack.{ClaimsSoFar, HaveRoom, StandsSoFar}
use Rattle.shore_restart.proofs.ClaimsKept.{can_there, claims_here, claims_there, could, keeps_one}
use Rattle.shore_restart.proofs.Putting.{same_geometry}

module _ {V : Type 0} {H : Ghosts V} (left : ℕ → List ℕ) (mid : Heap V H) (changes older newer : List UndoEntry) (e : UndoEntry) (order : changes ≡ older ++ e ∷ newer) (slots : PageId → List Slot)
    (there : HasPage (geometry_of mid) e.id.page) (room : (p : PageId) → HasPage (geometry_of mid) p → HaveRoom (geometry_of mid).version (claims_on p newer) (slots p))
    (pages : (p : PageId) → HasPage (geometry_of mid) p → ClaimsSoFar (geometry_of mid).version (frame_of mid p) (left (page_number (geometry_of mid) p)) p (claims_on p changes) (claims_on p newer) (slots p)) where
  abbrev page : PageId
  page = e.id.page

  abbrev number_in : PageId → ℕ
  number_in p = page_number (geometry_of mid) p

  abbrev claim : ℕ × ℕ
  claim = (e.id.slot, image_len e.before)

  abbrev so_far : List Slot
  so_far = claimed_by (claims_on page newer) (slots page)

  all_here : claims_on page changes ≡ claims_on page older ++ claim ∷ claims_on page newer
  all_here = ap (claims_on page) order ∙ claims_append page older (e ∷ newer) ∙ ap (λ (l : List (ℕ × ℕ)). claims_on page older ++ l) (claims_here e newer)

  -- what its page claims
  page_here : (f : Frame) → frame_of mid page ≡ Some f → ClaimsSoFar (geometry_of mid).version (Some f) (left (number_in page)) page (claims_on page older ++ claim ∷ claims_on page newer) (claims_on page newer) (slots page)
  page_here f is =
      subst (λ (l : List (ℕ × ℕ)). ClaimsSoFar (geometry_of mid).version (Some f) (left (number_in page)) page l (claims_on page newer) (slots page)) all_here
      (subst (λ (o : Option Frame). ClaimsSoFar (geometry_of mid).version o (left (number_in page)) page (claims_on page changes) (claims_on page newer) (slots page)) is (pages page there))

  can_so_far : (o : Option Frame) → frame_of mid page ≡ o → IsSomeAnd o (λ f. CanKeep (geometry_of mid).version f.page.slots e.id.slot (image_len e.before)) → CanKeep (geometry_of mid).version so_far e.id.slot (image_len e.before)
  can_so_far None is can = absurd can
  can_so_far (Some f) is can = could (geometry_of mid).version (claims_on page older) (claims_on page newer) claim f (left (number_in page)) page (slots page) (room page there).fit (page_here f is) can

  can_on_page : (o : Option Frame) → frame_of mid page ≡ o → IsTrue (is_some o) → CanKeep (geometry_of mid).version so_far e.id.slot (image_len e.before) → IsSomeAnd o (λ f. CanKeep (geometry_of mid).version f.page.slots e.id.slot (image_len e.before))
  can_on_page None is held can = let clash : false ≡ true = held in cc
  can_on_page (Some f) is held can = can_there (geometry_of mid).version (claims_on page older) (claims_on page newer) claim f (left (number_in page)) page (slots page) (room page there).fit (page_here f is) can

  -- a page that has the room beside what is kept so far has it
  pub has_place : IsTrue (is_some (frame_of mid page)) → CanKeep (geometry_of mid).version so_far e.id.slot (image_len e.before) → IsSomeAnd (frame_of mid page) (λ f. CanKeep (geometry_of mid).version f.page.slots e.id.slot (image_len e.before))
  has_place held can = can_on_page (frame_of mid page) refl held can

  module _ (can : IsSomeAnd (frame_of mid page) (λ f. CanKeep (geometry_of mid).version f.page.slots e.id.slot (image_len e.before))) where
    pub room_more : (p : PageId) → HasPage (geometry_of mid) p → HaveRoom (geometry_of mid).version (claims_on p (e ∷ newer)) (slots p)
    room_more p has = elim (cases_page p page) [
      | inl is ↦ subst (λ (q : PageId). HaveRoom (geometry_of mid).version (claims_on q (e ∷ newer)) (slots q)) (sym is) (
          let it = can_so_far (frame_of mid page) refl can in
          subst (λ (l : List (ℕ × ℕ)). HaveRoom (geometry_of mid).version l (slots page)) (sym (claims_here e newer)) (record { bare = (room page there).bare; fit = (it.0, it.1, (room page there).fit) })
          )
      | inr apart ↦ subst (λ (l : List (ℕ × ℕ)). HaveRoom (geometry_of mid).version l (slots p)) (sym (claims_there p e newer apart)) (room p has)
    ]

    module _ (new : Heap V H) (geometry : geometry_of new ≡ geometry_of mid) (here : frame_of new page ≡ option_map (reclaimed (raised (image_len e.before)) e.id.slot) (frame_of mid page))
        (others : (k : ℕ) → k ≢ page_number (geometry_of mid) page → frame_at new k ≡ frame_at mid k) where
      kept_here : (o : Option Frame) → frame_of mid page ≡ o → IsSomeAnd o (λ f. CanKeep (geometry_of mid).version f.page.slots e.id.slot (image_len e.before))
          → ClaimsSoFar (geometry_of mid).version (option_map (reclaimed (raised (image_len e.before)) e.id.slot) o) (left (number_in page)) page (claims_on page changes) (claims_on page (e ∷ newer)) (slots page)
      kept_here None is it = absurd it
      kept_here (Some f) is it =
          subst (λ (l : List (ℕ × ℕ)). ClaimsSoFar (geometry_of mid).version (Some (reclaimed (raised (image_len e.before)) e.id.slot f)) (left (number_in page)) page l (claims_on page (e ∷ newer)) (slots page)) (sym all_here)
          (subst (λ (l : List (ℕ × ℕ)). ClaimsSoFar (geometry_of mid).version (Some (reclaimed (raised (image_len e.before)) e.id.slot f)) (left (number_in page)) page (claims_on page older ++ claim ∷ claims_on page newer) l (slots page)) (sym (claims_here e newer))
          (keeps_one (geometry_of mid).version (claims_on page older) (claims_on page newer) claim f (left (number_in page)) page (slots page) (room page there).fit (page_here f is) it))

      at_new : (p : PageId) → frame_of new p ≡ frame_at new (number_in p)
      at_new p = ap (λ (g : Geometry). frame_at new (page_number g p)) geometry

      pub pages_more : (p : PageId) → HasPage (geometry_of mid) p → ClaimsSoFar (geometry_of mid).version (frame_of new p) (left (number_in p)) p (claims_on p changes) (claims_on p (e ∷ newer)) (slots p)
      pages_more p has = elim (cases_page p page) [
        | inl is ↦ subst (λ (q : PageId). ClaimsSoFar (geometry_of mid).version (frame_of new q) (left (number_in q)) q (claims_on q changes) (claims_on q (e ∷ newer)) (slots q)) (sym is)
            (subst (λ (o : Option Frame). ClaimsSoFar (geometry_of mid).version o (left (number_in page)) page (claims_on page changes) (claims_on page (e ∷ newer)) (slots page)) (sym here) (kept_here (frame_of mid page) refl can))
        | inr apart ↦
            subst (λ (l : List (ℕ × ℕ)). ClaimsSoFar (geometry_of mid).version (frame_of new p) (left (number_in p)) p (claims_on p changes) l (slots p)) (sym (claims_there p e newer apart))
            (subst (λ (o : Option Frame). ClaimsSoFar (geometry_of mid).version o (left (number_in p)) p (claims_on p changes) (claims_on p newer) (slots p))
            (sym (at_new p ∙ others (number_in p) (λ number. apart (one_page (geometry_of mid) p page has there number)))) (pages p has))
      ]

module _ {V : Type 0} {H : Ghosts V} where
  -- the heap stands with one claim more
  pub claimed_more : (front : List ℕ) (left : ℕ → List ℕ) (mid new : Heap V H) (later : RecoveryState) (changes older newer : List UndoEntry) (e : UndoEntry) → changes ≡ older ++ e ∷ newer → (slots : PageId → List Slot)
      → HasPage (geometry_of mid) e.id.page → StandsSoFar (λ p. claims_on p changes) (λ p. claims_on p newer) slots front left mid later
      → IsSomeAnd (frame_of mid e.id.page) (λ f. CanKeep (geometry_of mid).version f.page.slots e.id.slot (image_len e.before)) → device_of new ≡ device_of mid → bounds_of new ≡ bounds_of mid → PoolHolds new.pool front left
      → SamePages (geometry_of mid).version (frame_at mid) left (frame_at new) left → frame_of new e.id.page ≡ option_map (reclaimed (raised (image_len e.before)) e.id.slot) (frame_of mid e.id.page)
      → ((k : ℕ) → k ≢ page_number (geometry_of mid) e.id.page → frame_at new k ≡ frame_at mid k) → StandsSoFar (λ p. claims_on p changes) (λ p. claims_on p (e ∷ newer)) slots front left new later
  claimed_more front left mid new later changes older newer e order slots there st can device bounds holds same here others =
      let geometry = same_geometry mid new device in
      record {
        store = store_unwritten mid new left later st.store same geometry;
        recoverable = st.recoverable;
        holds = holds;
        bounds = subst (λ (g : Geometry). AreBounds g (bounds_of new) slots) (sym geometry) (subst (λ (free : List (List ℕ)). AreBounds (geometry_of mid) free slots) (sym bounds) st.bounds);
        room = λ p has. subst (λ (g : Geometry). HaveRoom g.version (claims_on p (e ∷ newer)) (slots p)) (sym geometry)
            (room_more left mid changes older newer e order slots there st.room st.pages can p (subst (λ (g : Geometry). HasPage g p) geometry has));
        pages = λ p has. subst (λ (g : Geometry). ClaimsSoFar g.version (frame_of new p) (left (page_number g p)) p (claims_on p changes) (claims_on p (e ∷ newer)) (slots p)) (sym geometry)
            (pages_more left mid changes older newer e order slots there st.room st.pages can new geometry here others p (subst (λ (g : Geometry). HasPage g p) geometry has));
      }

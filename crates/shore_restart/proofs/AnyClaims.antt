-- Claims that are kept on pages of which nothing is known: which Change finds no room on its page, as records make that of its text.
use Rattle.std.proofs.Common.{◌≡◌, ◌≢◌, ◌⊎◌, ◌≤◌, ◌++◌, ◌∷◌, [], ℕ, List, Option, None, Some, true, false, inl, inr, refl, sym, ap, subst, ◌∙◌, map, arith}
use Rattle.std.specs.Prelude.{IsSomeAnd, IsTrue, is_some, option_map}
use Rattle.std.proofs.lemmas.Bool.{cases_eq}
use Rattle.shore_types.specs.Images.{Image, image_len}
use Rattle.shore_types.specs.Layout.{HasPage}
use Rattle.shore_types.specs.declared.faults.Fault.{Fault}
use Rattle.shore_types.specs.declared.ids.PageId.{PageId}
use Rattle.shore_types.specs.declared.layout.Geometry.{Geometry}
use Rattle.shore_types.specs.declared.versions.Version.{Version}
use Rattle.shore_disk.specs.declared.device.Disk.{Ghosts}
use Rattle.shore_dwrite.specs.Volumes.{HasNoPage, page_number}
use Rattle.shore_dwrite.proofs.Numbers.{one_page}
use Rattle.shore_model.specs.declared.log_records.LogRecord.{LogRecord}
use Rattle.shore_page.specs.Room.{raised}
use Rattle.shore_page.specs.Slots.{Slot, settled}
use Rattle.shore_page.specs.Text.{images_of}
use Rattle.shore_pool.proofs.Same.{one_text}
use Rattle.shore_pool.specs.Changes.{reclaimed}
use Rattle.shore_pool.specs.Pages.{IsPage, SamePages}
use Rattle.shore_pool.specs.Pools.{PoolHolds}
use Rattle.shore_pool.specs.declared.frame.Frame.{Frame}
use Rattle.shore_heap.specs.declared.heap.Heap.{Heap}
use Rattle.shore_heap.specs.Contents.{CanKeep, ClaimsOfPages, FitIn, KeepWhatFits, claimed_by}
use Rattle.shore_heap.specs.Heaps.{FramesWere, WroteBack, device_of, frame_at, frame_of, geometry_of}
use Rattle.shore_heap.proofs.Bounds.{cases_page}
use Rattle.shore_heap.proofs.Released.{images_raised}
use Rattle.shore_txn.specs.ActiveTxns.{all_changes}
use Rattle.shore_txn.specs.Transactions.{txns_in}
use Rattle.shore_txn.specs.UndoEntries.{claims_on}
use Rattle.shore_txn.specs.declared.transactions.Transactions.{Transactions}
use Rattle.shore_txn.specs.declared.undo.UndoEntry.{UndoEntry}
use Rattle.shore_txn.proofs.ClaimLemmas.{claims_append}
use Rattle.shore_restart.specs.AnyPages.{IsMadeOf, ReadPage, redone_by}
use Rattle.shore_restart.specs.GivenBack.{CannotKeepOn, ClaimsSoFar}
use Rattle.shore_restart.specs.Held.{HasRead, IsHeld, IsHeldSoFar, IsPageFault, StaysHeldSoFar}
use Rattle.shore_restart.proofs.ClaimsKept.{can_there, claims_here, claims_there, could, keeps_one}
use Rattle.shore_restart.proofs.HeldPages.{fault_back, frame_read, read_frame, released_within}
use Rattle.shore_restart.proofs.Putting.{same_geometry}

-- what records make of a text is one page
pub made_once : (v : Version) (text : List ℕ) (log : List LogRecord) (p : PageId) (a b : ReadPage) → IsMadeOf v text log p a → IsMadeOf v text log p b → a ≡ b
made_once v text log p a b one other =
    let texts = one_text v text p p one.was.number other.was.number one.was.images other.was.images one.read other.read in
    let was : one.was ≡ other.was = ap (λ (n : ℕ). record { number = n; images = one.was.images }) texts.1 ∙ ap (λ (l : List Image). record { number = other.was.number; images = l }) texts.2 in
    one.redone ∙ ap (redone_by log p) was ∙ sym other.redone

module _ {V : Type 0} {H : Ghosts V} (front : List ℕ) (first : ℕ → List ℕ) (done : List LogRecord) (last : ℕ) where
  -- ---- the first

  pub held_unclaimed : (all : ClaimsOfPages) (disk : ℕ → List ℕ) (heap : Heap V H) → IsHeld front first disk heap done last → IsHeldSoFar all (λ p. []) front first disk heap done last
  held_unclaimed all disk heap held = record {
    holds = held.holds;
    low = held.low;
    made = held.made;
    claims = λ p f has is. inl (held.settled (page_number (geometry_of heap) p) f is);
    fits = λ p page has read. tt;
    there = λ p has. inl refl;
  }

  module _ (all so_far : ClaimsOfPages) where
    pub so_far_here : (disk : ℕ → List ℕ) (heap : Heap V H) → IsHeldSoFar all so_far front first disk heap done last → StaysHeldSoFar all so_far front first disk heap heap done last
    so_far_here disk heap held = record { left = disk; held = held; bad = λ id there none. none }

    -- what is kept so far fits the page of the text
    pub fits_made : (disk : ℕ → List ℕ) (heap : Heap V H) → IsHeldSoFar all so_far front first disk heap done last → (p : PageId) (page : ReadPage) → HasPage (geometry_of heap) p
        → IsMadeOf (geometry_of heap).version (first (page_number (geometry_of heap) p)) done p page → FitIn (geometry_of heap).version (so_far p) (map settled page.images)
    fits_made disk heap held p page has made = elim (held.there p has) [
      | inl none ↦ subst (λ (l : List (ℕ × ℕ)). FitIn (geometry_of heap).version l (map settled page.images)) (sym none) tt
      | inr some ↦
          let same : some.0 ≡ page = made_once (geometry_of heap).version (first (page_number (geometry_of heap) p)) done p some.0 page (held.made p some.0 has some.1) made in
          subst (λ (x : ReadPage). FitIn (geometry_of heap).version (so_far p) (map settled x.images)) same (held.fits p some.0 has some.1)
    ]

    -- ---- a fetch

    module _ (disk : ℕ → List ℕ) (old mid : Heap V H) (page : PageId) (there : HasPage (geometry_of old) page) (geometry : geometry_of mid ≡ geometry_of old) (held : IsHeldSoFar all so_far front first disk old done last)
        (were : FramesWere all old mid page last) where
      abbrev number_in : PageId → ℕ
      number_in p = page_number (geometry_of old) p

      abbrev Claims : Geometry → Type 0
      Claims g = (p : PageId) (f : Frame) → HasPage g p → frame_at mid (page_number g p) ≡ Some f
          → (f.page.slots ≡ claimed_by (so_far p) (map settled (images_of f.page.slots))) ⊎ KeepWhatFits g.version (all p) (map settled (images_of f.page.slots)) f.page.slots

      claims_now : Claims (geometry_of old)
      claims_now p f has is = elim (were (number_in p) f is) [
        | inl (h, was, inl kept) ↦
            subst (λ (x : Frame). (x.page.slots ≡ claimed_by (so_far p) (map settled (images_of x.page.slots))) ⊎ KeepWhatFits (geometry_of old).version (all p) (map settled (images_of x.page.slots)) x.page.slots) (sym kept) (held.claims p h has was)
        | inl (h, was, inr clean) ↦
            subst (λ (x : Frame). (x.page.slots ≡ claimed_by (so_far p) (map settled (images_of x.page.slots))) ⊎ KeepWhatFits (geometry_of old).version (all p) (map settled (images_of x.page.slots)) x.page.slots) (sym clean) (held.claims p h has was)
        | inr (here, none, fresh) ↦
            let own : page ≡ p = sym (one_page (geometry_of old) p page has there here) in
            let version : f.page.version ≡ (geometry_of old).version = (mid.pool.in_order (number_in p) f is).2 ∙ ap (λ (g : Geometry). g.version) geometry in
            inr (subst (λ (q : PageId). KeepWhatFits (geometry_of old).version (all q) (map settled (images_of f.page.slots)) f.page.slots) own
            (subst (λ (v : Version). KeepWhatFits v (all page) (map settled (images_of f.page.slots)) f.page.slots) version fresh.slots))
      ]

      low_now : (k : ℕ) (f : Frame) → frame_at mid k ≡ Some f → f.page.number ≤ last
      low_now k f is = elim (were k f is) [
        | inl (h, was, inl kept) ↦ subst (λ (x : Frame). x.page.number ≤ last) (sym kept) (held.low k h was)
        | inl (h, was, inr clean) ↦ subst (λ (x : Frame). x.page.number ≤ last) (sym clean) (held.low k h was)
        | inr (here, none, fresh) ↦ fresh.number
      ]

      abbrev PageIn : (ℕ → List ℕ) → Geometry → PageId → ReadPage → Type 0
      PageIn left g p it = IsPage g.version (frame_at mid (page_number g p)) (left (page_number g p)) p it.number it.images

      pub fetch_keeps : WroteBack old mid last front disk → StaysHeldSoFar all so_far front first disk old mid done last
      fetch_keeps (left, holds, stay) = record {
        left = left;
        held = record {
          holds = holds;
          low = low_now;
          made = λ p it has read. subst (λ (g : Geometry). IsMadeOf g.version (first (page_number g p)) done p it) (sym geometry) (held.made p it (has_old p has) (read_old p it read));
          claims = subst Claims (sym geometry) claims_now;
          fits = λ p it has read. subst (λ (g : Geometry). FitIn g.version (so_far p) (map settled it.images)) (sym geometry) (held.fits p it (has_old p has) (read_old p it read));
          there = λ p has. elim (held.there p (has_old p has)) [
            | inl none ↦ inl none
            | inr some ↦ inr (some.0, subst (λ (g : Geometry). PageIn left g p some.0) (sym geometry) ((stay.same (number_in p) p some.0.number some.0.images).0 some.1))
          ];
        };
        bad = λ id has none. elim (stay.may id has) [
          | inl same ↦ subst (λ (text : List ℕ). HasNoPage (geometry_of old).version text id last) same none
          | inr (number, images, at, seen_too, text) ↦ let above = none number images text in absurd (omega (arith, above, seen_too))
        ];
      }
        where
          has_old : (p : PageId) → HasPage (geometry_of mid) p → HasPage (geometry_of old) p
          has_old p has = subst (λ (g : Geometry). HasPage g p) geometry has

          read_old : (p : PageId) (it : ReadPage) → HasRead mid left p it → HasRead old disk p it
          read_old p it read = (stay.same (number_in p) p it.number it.images).1 (subst (λ (g : Geometry). PageIn left g p it) geometry read)

  -- ---- one behind another

  module _ (all so_far : ClaimsOfPages) (disk : ℕ → List ℕ) (old mid : Heap V H) (geometry : geometry_of mid ≡ geometry_of old) (s : StaysHeldSoFar all so_far front first disk old mid done last) where
    pub so_far_then : (more : ClaimsOfPages) (new : Heap V H) → StaysHeldSoFar all more front first s.left mid new done last → StaysHeldSoFar all more front first disk old new done last
    so_far_then more new w = record { left = w.left; held = w.held; bad = λ id there none. s.bad id there (again w id there none) }
      where
        again : (w : StaysHeldSoFar all more front first s.left mid new done last) (id : PageId) → HasPage (geometry_of old) id → HasNoPage (geometry_of old).version (w.left (page_number (geometry_of old) id)) id last
            → HasNoPage (geometry_of old).version (s.left (page_number (geometry_of old) id)) id last
        again w = subst (λ (g : Geometry). (id : PageId) → HasPage g id → HasNoPage g.version (w.left (page_number g id)) id last → HasNoPage g.version (s.left (page_number g id)) id last) geometry w.bad

    pub so_far_fault : (may_read : PageId → Type 0) (f : Fault) → IsPageFault (geometry_of mid) may_read s.left last f → IsPageFault (geometry_of old) may_read disk last f
    so_far_fault may_read f of = fault_back (geometry_of old) (geometry_of mid) may_read disk s.left last last f geometry s.bad of

-- ---- one claim more

module _ {V : Type 0} {H : Ghosts V} (front : List ℕ) (first disk : ℕ → List ℕ) (done : List LogRecord) (last : ℕ) (heap : Heap V H) (changes older newer : List UndoEntry) (e : UndoEntry) (order : changes ≡ older ++ e ∷ newer)
    (there : HasPage (geometry_of heap) e.id.page) (held : IsHeldSoFar (λ p. claims_on p changes) (λ p. claims_on p newer) front first disk heap done last) where
  abbrev page : PageId
  page = e.id.page

  abbrev claim : ℕ × ℕ
  claim = (e.id.slot, image_len e.before)

  abbrev read_in : Frame → ReadPage
  read_in f = record { number = f.page.number; images = images_of f.page.slots }

  claims_of_frame : (f : Frame) → frame_of heap page ≡ Some f → ClaimsSoFar (geometry_of heap).version (Some f) [] page (claims_on page older ++ claim ∷ claims_on page newer) (claims_on page newer) (map settled (images_of f.page.slots))
  claims_of_frame f is =
      subst (λ (l : List (ℕ × ℕ)). ClaimsSoFar (geometry_of heap).version (Some f) [] page l (claims_on page newer) (map settled (images_of f.page.slots)))
      (ap (claims_on page) order ∙ claims_append page older (e ∷ newer) ∙ ap (λ (l : List (ℕ × ℕ)). claims_on page older ++ l) (claims_here e newer)) (held.claims page f there is)

  fit_of_frame : (f : Frame) → frame_of heap page ≡ Some f → FitIn (geometry_of heap).version (claims_on page newer) (map settled (images_of f.page.slots))
  fit_of_frame f is = held.fits page (read_in f) there (read_frame heap disk page f there is)

  -- it has no room on the page as records make it of its text
  pub lacks_room : (txns : Transactions) → changes ≡ all_changes (txns_in txns) → IsTrue (is_some (frame_of heap page)) → (IsSomeAnd (frame_of heap page) (λ f. CanKeep (geometry_of heap).version f.page.slots e.id.slot (image_len e.before)) → ⊥)
      → CannotKeepOn (geometry_of heap) txns first done e.lsn
  lacks_room txns all held_page wont = at (frame_of heap page) refl held_page wont
    where
      at : (o : Option Frame) → frame_of heap page ≡ o → IsTrue (is_some o) → (IsSomeAnd o (λ f. CanKeep (geometry_of heap).version f.page.slots e.id.slot (image_len e.before)) → ⊥) → CannotKeepOn (geometry_of heap) txns first done e.lsn
      at None is none wont = let clash : false ≡ true = none in cc
      at (Some f) is some wont = record {
        older = older;
        entry = e;
        newer = newer;
        order = sym all ∙ order;
        number = refl;
        first = fits_made front first done last (λ p. claims_on p changes) (λ p. claims_on p newer) disk heap held;
        page = read_in f;
        made = held.made page (read_in f) there (read_frame heap disk page f there is);
        no_room = λ can. wont (can_there (geometry_of heap).version (claims_on page older) (claims_on page newer) claim f [] page (map settled (images_of f.page.slots)) (fit_of_frame f is) (claims_of_frame f is) can);
      }

  module _ (new : Heap V H) (device : device_of new ≡ device_of heap) (can : IsSomeAnd (frame_of heap page) (λ f. CanKeep (geometry_of heap).version f.page.slots e.id.slot (image_len e.before)))
      (here : frame_of new page ≡ option_map (reclaimed (raised (image_len e.before)) e.id.slot) (frame_of heap page)) (others : (k : ℕ) → k ≢ page_number (geometry_of heap) page → frame_at new k ≡ frame_at heap k)
      (holds : PoolHolds new.pool front disk) (same : SamePages (geometry_of heap).version (frame_at heap) disk (frame_at new) disk) where
    abbrev number_at : PageId → ℕ
    number_at p = page_number (geometry_of heap) p

    geometry : geometry_of new ≡ geometry_of heap
    geometry = same_geometry heap new device

    at_same : (p : PageId) → page_number (geometry_of new) p ≡ number_at p
    at_same p = ap (λ (g : Geometry). page_number g p) geometry

    has_before : (p : PageId) → HasPage (geometry_of new) p → HasPage (geometry_of heap) p
    has_before p has = subst (λ (g : Geometry). HasPage g p) geometry has

    abbrev IsPageIn : Geometry → PageId → ReadPage → Type 0
    IsPageIn g p it = IsPage g.version (frame_at new (page_number g p)) (disk (page_number g p)) p it.number it.images

    read_before : (p : PageId) (it : ReadPage) → HasRead new disk p it → HasRead heap disk p it
    read_before p it read = (same (number_at p) p it.number it.images).1 (subst (λ (g : Geometry). IsPageIn g p it) geometry read)

    abbrev IsClaimedIn : Geometry → PageId → List (ℕ × ℕ) → Frame → Type 0
    IsClaimedIn g p so_far f = (f.page.slots ≡ claimed_by so_far (map settled (images_of f.page.slots))) ⊎ KeepWhatFits g.version (claims_on p changes) (map settled (images_of f.page.slots)) f.page.slots

    abbrev IsClaimed : PageId → List (ℕ × ℕ) → Frame → Type 0
    IsClaimed p so_far f = IsClaimedIn (geometry_of heap) p so_far f

    all_here : claims_on page changes ≡ claims_on page older ++ claim ∷ claims_on page newer
    all_here = ap (claims_on page) order ∙ claims_append page older (e ∷ newer) ∙ ap (λ (l : List (ℕ × ℕ)). claims_on page older ++ l) (claims_here e newer)

    claimed_here : (o : Option Frame) → frame_of heap page ≡ o → IsSomeAnd o (λ f. CanKeep (geometry_of heap).version f.page.slots e.id.slot (image_len e.before)) → (f : Frame)
        → option_map (reclaimed (raised (image_len e.before)) e.id.slot) o ≡ Some f → IsClaimed page (claims_on page (e ∷ newer)) f
    claimed_here None is it f now = absurd it
    claimed_here (Some h) is it f now =
        let its = keeps_one (geometry_of heap).version (claims_on page older) (claims_on page newer) claim h [] page (map settled (images_of h.page.slots)) (fit_of_frame h is) (claims_of_frame h is) it in
        let one : reclaimed (raised (image_len e.before)) e.id.slot h ≡ f = cc in
        subst (IsClaimed page (claims_on page (e ∷ newer))) one
        (subst (λ (l : List (ℕ × ℕ)). IsClaimed page l (reclaimed (raised (image_len e.before)) e.id.slot h)) (sym (claims_here e newer))
        (subst (λ (bare : List Slot). ((reclaimed (raised (image_len e.before)) e.id.slot h).page.slots ≡ claimed_by (claim ∷ claims_on page newer) bare) ⊎ KeepWhatFits (geometry_of heap).version (claims_on page changes) bare (reclaimed (raised (image_len e.before)) e.id.slot h).page.slots)
        (ap (map settled) (sym (images_raised (image_len e.before) h.page.slots e.id.slot)))
        (subst (λ (l : List (ℕ × ℕ)). ((reclaimed (raised (image_len e.before)) e.id.slot h).page.slots ≡ claimed_by (claim ∷ claims_on page newer) (map settled (images_of h.page.slots))) ⊎ KeepWhatFits (geometry_of heap).version l (map settled (images_of h.page.slots)) (reclaimed (raised (image_len e.before)) e.id.slot h).page.slots) (sym all_here) its)))

    fits_here : (o : Option Frame) → frame_of heap page ≡ o → IsSomeAnd o (λ f. CanKeep (geometry_of heap).version f.page.slots e.id.slot (image_len e.before)) → (it : ReadPage) → HasRead heap disk page it → FitIn (geometry_of heap).version (claims_on page (e ∷ newer)) (map settled it.images)
    fits_here None is can it read = absurd can
    fits_here (Some f) is can it read =
        let images = (frame_read heap disk page f it is read).1 in
        let kept = could (geometry_of heap).version (claims_on page older) (claims_on page newer) claim f [] page (map settled (images_of f.page.slots)) (fit_of_frame f is) (claims_of_frame f is) can in
        subst (λ (l : List Image). FitIn (geometry_of heap).version (claims_on page (e ∷ newer)) (map settled l)) images
        (subst (λ (l : List (ℕ × ℕ)). FitIn (geometry_of heap).version l (map settled (images_of f.page.slots))) (sym (claims_here e newer)) (kept.0, kept.1, fit_of_frame f is))

    there_here : (o : Option Frame) → frame_of heap page ≡ o → IsSomeAnd o (λ f. CanKeep (geometry_of heap).version f.page.slots e.id.slot (image_len e.before)) → (it : ReadPage) × HasRead heap disk page it
    there_here None is can = absurd can
    there_here (Some f) is can = (read_in f, read_frame heap disk page f there is)

    read_new : (p : PageId) (it : ReadPage) → HasRead heap disk p it → HasRead new disk p it
    read_new p it read = subst (λ (g : Geometry). IsPageIn g p it) (sym geometry) ((same (number_at p) p it.number it.images).0 read)

    pub claim_keeps : IsHeldSoFar (λ p. claims_on p changes) (λ p. claims_on p (e ∷ newer)) front first disk new done last
    claim_keeps = record {
      holds = holds;
      low = λ k f is. elim (cases_eq k (number_at page)) [
        | inl one ↦
            released_within (frame_of heap page) f (raised (image_len e.before)) e.id.slot last (λ h at. held.low (number_at page) h at)
            (sym here ∙ ap (frame_at new) (at_same page) ∙ ap (frame_at new) (sym one) ∙ is)
        | inr apart ↦ held.low k f (sym (others k apart) ∙ is)
      ];
      made = λ p it has read. subst (λ (g : Geometry). IsMadeOf g.version (first (page_number g p)) done p it) (sym geometry) (held.made p it (has_before p has) (read_before p it read));
      claims = λ p f has is. subst (λ (g : Geometry). IsClaimedIn g p (claims_on p (e ∷ newer)) f) (sym geometry) (elim (cases_page p page) [
        | inl one ↦ subst (λ (q : PageId). IsClaimed q (claims_on q (e ∷ newer)) f) (sym one) (claimed_here (frame_of heap page) refl can f (sym here ∙ ap (frame_of new) (sym one) ∙ is))
        | inr apart ↦
            subst (λ (l : List (ℕ × ℕ)). IsClaimed p l f) (sym (claims_there p e newer apart))
            (held.claims p f (has_before p has) (sym (others (number_at p) (λ number. apart (one_page (geometry_of heap) p page (has_before p has) there number))) ∙ ap (frame_at new) (sym (at_same p)) ∙ is))
      ]);
      fits = λ p it has read. subst (λ (g : Geometry). FitIn g.version (claims_on p (e ∷ newer)) (map settled it.images)) (sym geometry) (elim (cases_page p page) [
        | inl one ↦ subst (λ (q : PageId). FitIn (geometry_of heap).version (claims_on q (e ∷ newer)) (map settled it.images)) (sym one)
            (fits_here (frame_of heap page) refl can it (subst (λ (q : PageId). HasRead heap disk q it) one (read_before p it read)))
        | inr apart ↦ subst (λ (l : List (ℕ × ℕ)). FitIn (geometry_of heap).version l (map settled it.images)) (sym (claims_there p e newer apart)) (held.fits p it (has_before p has) (read_before p it read))
      ]);
      there = λ p has. elim (cases_page p page) [
        | inl one ↦ let some = there_here (frame_of heap page) refl can in inr (some.0, read_new p some.0 (subst (λ (q : PageId). HasRead heap disk q some.0) (sym one) some.1))
        | inr apart ↦ elim (held.there p (has_before p has)) [
          | inl none ↦ inl (claims_there p e newer apart ∙ none)
          | inr some ↦ inr (some.0, read_new p some.0 some.1)
        ]
      ];
    }

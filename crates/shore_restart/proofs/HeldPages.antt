-- Pages of which nothing is known: what calls of the heap leave of them, and which faults they tell.
use Rattle.std.proofs.Common.{◌≡◌, ◌++◌, ◌∷◌, [], length, length-append, map, ◌≢◌, ◌⊎◌, ◌≤◌, ◌<◌, ◌+◌, ℕ, List, Option, Some, None, Result, Ok, Err, inl, inr, refl, sym, ap, subst, ◌∙◌, option_map, is_some, true, false, arith}
use Rattle.std.specs.Prelude.{IfErr, IsErrAnd, IsSomeAnd}
use Rattle.std.proofs.lemmas.Bool.{cases_eq}
use Rattle.std.proofs.lemmas.List.{length-take-le}
use Rattle.shore_types.specs.Images.{Image, image_len}
use Rattle.shore_types.specs.Layout.{HasPage}
use Rattle.shore_types.specs.declared.faults.Fault.{Fault}
use Rattle.shore_types.specs.declared.faults.Fault.TheVariants as fault
use Rattle.shore_types.specs.declared.ids.PageId.{PageId}
use Rattle.shore_types.specs.declared.ids.Rid.{Rid}
use Rattle.shore_types.specs.declared.layout.Geometry.{Geometry}
use Rattle.shore_types.specs.declared.log_ends.LogEnds.{LogEnds}
use Rattle.shore_types.specs.declared.versions.Version.{Version}
use Rattle.shore_disk.specs.declared.device.Disk.{Ghosts}
use Rattle.shore_dwrite.specs.Volumes.{HasNoPage, page_number}
use Rattle.shore_log.specs.Settled.{records_of_log, stable}
use Rattle.shore_log.specs.declared.device.LogDev.{LogDev}
use Rattle.shore_model.specs.declared.log_records.LogRecord.{LogRecord}
use Rattle.shore_model.specs.declared.log_records.Payload.{Payload}
use Rattle.shore_model.specs.Logs.{image_in}
use Rattle.shore_dwrite.proofs.Numbers.{one_page}
use Rattle.shore_page.specs.Room.{Fits, lowered}
use Rattle.shore_page.specs.Slots.{Slot, settled}
use Rattle.shore_page.specs.Text.{images_of}
use Rattle.shore_pool.specs.Changes.{changed, reclaimed}
use Rattle.shore_pool.specs.Pages.{IsPage}
use Rattle.shore_pool.proofs.Same.{one_text}
use Rattle.shore_pool.specs.declared.frame.Frame.{Frame}
use Rattle.shore_heap.specs.declared.heap.Heap.{Heap}
use Rattle.shore_heap.specs.Heaps.{FramesWere, KeepsVolume, RefusesPage, WroteBack, frame_at, frame_of, geometry_of}
use Rattle.shore_heap.specs.Contents.{unclaimed}
use Rattle.shore_heap.proofs.Bounds.{cases_page}
use Rattle.laws_heaps.specs.LoggedHeaps.{AreSettled, IsMade, IsReleased}
use Rattle.shore_restart.specs.declared.errors.RestartError.{RestartError}
use Rattle.shore_restart.specs.declared.errors.RestartError.TheVariants.{Page}
use Rattle.shore_restart.specs.Errors.{IsPageError}
use Rattle.shore_restart.specs.AnyPages.{FindsNoRoom, IsMadeOf, ReadPage, redone_by, redone_read, with_image_at}
use Rattle.shore_restart.specs.Held.{FetchesHeld, HasRead, IsHeld, IsPageFault, StaysHeld, WorksHeld}
use Rattle.shore_restart.proofs.PageErrors.{page_is}
use Rattle.shore_restart.proofs.RedoneReads.{images_put, made_more, of_due, of_none, of_other, of_passed}

-- the error is of no page
abbrev pub IsNoPage : RestartError → Type 0
IsNoPage error = (f : Fault) → error ≡ Page f → ⊥

-- ---- faults

-- what is damaged behind some work was so before
pub fault_back : (g now : Geometry) (may_read : PageId → Type 0) (disk left : ℕ → List ℕ) (last later : ℕ) (f : Fault) → now ≡ g
    → ((id : PageId) → HasPage g id → HasNoPage g.version (left (page_number g id)) id later → HasNoPage g.version (disk (page_number g id)) id last) → IsPageFault now may_read left later f → IsPageFault g may_read disk last f
fault_back g now may_read disk left last later f same bad of = by_kind (subst (λ (x : Geometry). IsPageFault x may_read left later f) same of)
  where
    by_kind : IsPageFault g may_read left later f → IsPageFault g may_read disk last f
    by_kind (inl device) = inl device
    by_kind (inr (id, there, read, is, none)) = inr (id, there, read, is, bad id there none)

-- .. also where more pages may be read
pub fault_wider : (g : Geometry) (few more : PageId → Type 0) (disk : ℕ → List ℕ) (last : ℕ) (f : Fault) → ((p : PageId) → few p → more p) → IsPageFault g few disk last f → IsPageFault g more disk last f
fault_wider g few more disk last f all (inl device) = inl device
fault_wider g few more disk last f all (inr (id, there, read, is, none)) = inr (id, there, all id read, is, none)

pub no_page_down : (v : Version) (text : List ℕ) (id : PageId) (last later : ℕ) → last ≤ later → HasNoPage v text id later → HasNoPage v text id last
no_page_down v text id last later more none number images is = let above = none number images is in omega (arith, above, more)

-- each frame has a number up to this one
abbrev pub IsLow : ℕ → (ℕ → Option Frame) → Type 0
IsLow last at = (k : ℕ) (f : Frame) → at k ≡ Some f → f.page.number ≤ last

one_frame : (f h : Frame) → ◌≡◌ {A = Option Frame} (Some f) (Some h) → f ≡ h
one_frame f h is = cc

no_frame : (f : Frame) → ◌≡◌ {A = Option Frame} None (Some f) → ⊥
no_frame f is = cc

made_within : (o : Option Frame) (f : Frame) (number slot last : ℕ) (image : Image) → option_map (changed number slot image) o ≡ Some f → number ≤ last → f.page.number ≤ last
made_within None f number slot last image is low = absurd (no_frame f is)
made_within (Some h) f number slot last image is low = subst (λ (n : ℕ). n ≤ last) (ap (λ (x : Frame). x.page.number) (one_frame (changed number slot image h) f is)) low

pub released_within : (o : Option Frame) (f : Frame) (claim : Slot → Slot) (slot last : ℕ) → ((h : Frame) → o ≡ Some h → h.page.number ≤ last) → option_map (reclaimed claim slot) o ≡ Some f → f.page.number ≤ last
released_within None f claim slot last low is = absurd (no_frame f is)
released_within (Some h) f claim slot last low is =
    let same = one_frame (reclaimed claim slot h) f is in
    subst (λ (n : ℕ). n ≤ last) (ap (λ (x : Frame). x.page.number) same) (low h refl)

pub some_then : (P Q : Frame → Type 0) (o : Option Frame) → ((f : Frame) → P f → Q f) → IsSomeAnd o P → IsSomeAnd o Q
some_then P Q None all is = is
some_then P Q (Some f) all is = all f is

-- no more of a log is durable than there is
pub stable_short : {L : Type 0} {G : Ghosts L} (log : LogDev L G) → length (stable log) ≤ length (records_of_log log)
stable_short log =
    let inside = log.forced_inside in
    let taken = length-take-le log.forced (records_of_log log) inside in
    omega (arith, taken, inside)

-- a record more
pub one_longer : (log later : List LogRecord) (r : LogRecord) → later ≡ log ++ r ∷ [] → length later ≡ length log + 1
one_longer log later r is = let long = ap length is in let both = length-append log (r ∷ []) in omega (arith, long, both)

-- two that are made the same of the same
one_redone : (f : ReadPage → ReadPage) (a b x y : ReadPage) → x ≡ f a → a ≡ b → y ≡ f b → x ≡ y
one_redone f a b x y first same second = first ∙ ap f same ∙ sym second

one_read : (a b : ReadPage) → a.number ≡ b.number → a.images ≡ b.images → a ≡ b
one_read a b number images = ap (λ (n : ℕ). record { number = n; images = a.images }) number ∙ ap (λ (l : List Image). record { number = b.number; images = l }) images

module _ {V : Type 0} {H : Ghosts V} where
  -- ---- the heap alone

  pub held_up : (front : List ℕ) (first disk : ℕ → List ℕ) (heap : Heap V H) (done : List LogRecord) (last later : ℕ) → last ≤ later → IsHeld front first disk heap done last
      → IsHeld front first disk heap done later
  held_up front first disk heap done last later more held = record { holds = held.holds; low = λ k f is. let low = held.low k f is in omega (arith, low, more); settled = held.settled; made = held.made }

  -- nothing was done
  pub held_here : (front : List ℕ) (first disk : ℕ → List ℕ) (heap : Heap V H) (done : List LogRecord) (last later : ℕ) → last ≤ later → IsHeld front first disk heap done last
      → StaysHeld front first disk heap heap last done later
  held_here front first disk heap done last later more held = record {
    left = disk;
    held = held_up front first disk heap done last later more held;
    bad = λ id there none. no_page_down (geometry_of heap).version (disk _) id last later more none;
  }

  -- a record more, that no page in place lacks
  pub held_past : (front : List ℕ) (first disk : ℕ → List ℕ) (heap : Heap V H) (done : List LogRecord) (last : ℕ) (r : LogRecord) → IsHeld front first disk heap done last
      → ((p : PageId) (page : ReadPage) → HasPage (geometry_of heap) p → HasRead heap disk p page → redone_read (length done + 1) (image_in r.payload) p page ≡ page)
      → IsHeld front first disk heap (done ++ r ∷ []) last
  held_past front first disk heap done last r held same = record {
    holds = held.holds;
    low = held.low;
    settled = held.settled;
    made = λ p page there is. made_more (geometry_of heap).version (first (page_number (geometry_of heap) p)) done r p page page (held.made p page there is) (same p page there is);
  }

  -- one call behind another
  module _ (front : List ℕ) (first disk : ℕ → List ℕ) (old mid : Heap V H) (last : ℕ) (done : List LogRecord) (between : ℕ) (s : StaysHeld front first disk old mid last done between) where
    pub held_then : (new : Heap V H) (after : List LogRecord) (later : ℕ) → geometry_of mid ≡ geometry_of old → StaysHeld front first s.left mid new between after later
        → StaysHeld front first disk old new last after later
    held_then new after later same w = record { left = w.left; held = w.held; bad = λ id there none. s.bad id there (again id there none) }
      where
        again : (id : PageId) → HasPage (geometry_of old) id → HasNoPage (geometry_of old).version (w.left (page_number (geometry_of old) id)) id later → HasNoPage (geometry_of old).version (s.left (page_number (geometry_of old) id)) id between
        again = subst (λ (g : Geometry). (id : PageId) → HasPage g id → HasNoPage g.version (w.left (page_number g id)) id later → HasNoPage g.version (s.left (page_number g id)) id between) same w.bad

    -- .. on the heap as it is then
    pub held_changed : (new : Heap V H) (after : List LogRecord) (later : ℕ) → between ≤ later → IsHeld front first s.left new after later → StaysHeld front first disk old new last after later
    held_changed new after later more held = record { left = s.left; held = held; bad = λ id there none. s.bad id there (no_page_down (geometry_of old).version (s.left _) id between later more none) }

    pub held_behind : {A : Type 0} {may_read : PageId → Type 0} (r : Result A RestartError) (new : Heap V H) (after : List LogRecord) (later : ℕ) → geometry_of mid ≡ geometry_of old
        → WorksHeld r may_read front first s.left mid new between after later → WorksHeld r may_read front first disk old new last after later
    held_behind (Ok x) new after later same w = record { named = tt; stays = held_then new after later same w.stays }
    held_behind {may_read = may_read} (Err e) new after later same w = record { named = λ f is. fault_back (geometry_of old) (geometry_of mid) may_read disk s.left last between f same s.bad (w.named f is); stays = tt }

  -- counted otherwise
  pub held_counted : {A : Type 0} {may_read : PageId → Type 0} (r : Result A RestartError) (front : List ℕ) (first disk : ℕ → List ℕ) (old new : Heap V H) (done : List LogRecord) (n m : ℕ) → n ≡ m
      → (IsHeld front first disk old done m → WorksHeld r may_read front first disk old new m done m) → IsHeld front first disk old done n → WorksHeld r may_read front first disk old new n done n
  held_counted {may_read = may_read} r front first disk old new done n m same works held =
      subst (λ (k : ℕ). WorksHeld r may_read front first disk old new k done k) (sym same) (works (subst (IsHeld front first disk old done) same held))

  -- an error that was passed on
  pub held_err : {A B : Type 0} {may_read : PageId → Type 0} (front : List ℕ) (first disk : ℕ → List ℕ) (old new : Heap V H) (last : ℕ) (before : List LogRecord) (now : ℕ) (done : List LogRecord) (later : ℕ) (r : Result A RestartError) (e : RestartError) → IsErrAnd r (λ x. x ≡ e)
      → WorksHeld {A = B} (Err e) may_read front first disk old new last before now → WorksHeld r may_read front first disk old new last done later
  held_err front first disk old new last before now done later (Ok x) e is w = absurd is
  held_err front first disk old new last before now done later (Err x) e is w = record { named = λ f at. w.named f (sym is ∙ at); stays = tt }

  -- .. and one that is of no page
  pub held_other : {A : Type 0} {may_read : PageId → Type 0} (front : List ℕ) (first disk : ℕ → List ℕ) (old new : Heap V H) (last : ℕ) (done : List LogRecord) (later : ℕ) (r : Result A RestartError) (e : RestartError) → IsErrAnd r (λ x. x ≡ e) → IsNoPage e
      → WorksHeld r may_read front first disk old new last done later
  held_other front first disk old new last done later (Ok x) e is none = absurd is
  held_other front first disk old new last done later (Err x) e is none = record { named = λ f at. absurd (none f (sym is ∙ at)); stays = tt }

  -- a call that is of no page, and leaves the heap
  pub held_beside : {A : Type 0} {may_read : PageId → Type 0} (front : List ℕ) (first disk : ℕ → List ℕ) (old new : Heap V H) (last : ℕ) (done : List LogRecord) (later : ℕ) (r : Result A RestartError) → IfErr r IsNoPage → StaysHeld front first disk old new last done later
      → WorksHeld r may_read front first disk old new last done later
  held_beside front first disk old new last done later (Ok x) none stays = record { named = tt; stays = stays }
  held_beside front first disk old new last done later (Err e) none stays = record { named = λ f is. absurd (none f is); stays = tt }

  -- work that may read more pages
  pub held_wider : {A : Type 0} (few more : PageId → Type 0) (r : Result A RestartError) (front : List ℕ) (first disk : ℕ → List ℕ) (old new : Heap V H) (last : ℕ) (done : List LogRecord) (later : ℕ) → ((p : PageId) → few p → more p)
      → WorksHeld r few front first disk old new last done later → WorksHeld r more front first disk old new last done later
  held_wider few more (Ok x) front first disk old new last done later all w = record { named = tt; stays = w.stays }
  held_wider few more (Err e) front first disk old new last done later all w = record { named = λ f is. fault_wider (geometry_of old) few more disk last f all (w.named f is); stays = tt }

  -- ---- a fetch

  pub fetch_leaves : (front : List ℕ) (first disk : ℕ → List ℕ) (old new : Heap V H) (done : List LogRecord) (page : PageId) (last durable : ℕ) → IsHeld front first disk old done last → durable ≤ last
      → WroteBack old new durable front disk → FramesWere unclaimed old new page last → geometry_of new ≡ geometry_of old → StaysHeld front first disk old new last done last
  fetch_leaves front first disk old new done page last durable held low (left, holds, stay) were same = record {
    left = left;
    held = record { holds = holds; low = low_now; settled = settled_now; made = subst (λ (g : Geometry). (p : PageId) (page : ReadPage) → HasPage g p → IsPage g.version (frame_at new (page_number g p)) (left (page_number g p)) p page.number page.images → IsMadeOf g.version (first (page_number g p)) done p page) (sym same) made_now };
    bad = λ id there none. elim (stay.may id there) [
      | inl same ↦ subst (λ (text : List ℕ). HasNoPage (geometry_of old).version text id last) same none
      | inr (number, images, at, seen_too, text) ↦ let above = none number images text in absurd (omega (arith, above, seen_too, low))
    ];
  }
    where
      low_now : IsLow last (frame_at new)
      low_now k f is = elim (were k f is) [
        | inl (h, there, inl kept) ↦ subst (λ (x : Frame). x.page.number ≤ last) (sym kept) (held.low k h there)
        | inl (h, there, inr clean) ↦ subst (λ (x : Frame). x.page.number ≤ last) (sym clean) (held.low k h there)
        | inr (here, none, fresh) ↦ fresh.number
      ]

      settled_now : AreSettled new
      settled_now k f is = elim (were k f is) [
        | inl (h, there, inl kept) ↦ subst (λ (x : Frame). x.page.slots ≡ map settled (images_of x.page.slots)) (sym kept) (held.settled k h there)
        | inl (h, there, inr clean) ↦ subst (λ (x : Frame). x.page.slots ≡ map settled (images_of x.page.slots)) (sym clean) (held.settled k h there)
        | inr (here, none, fresh) ↦ fresh.slots
      ]

      made_now : (p : PageId) (page : ReadPage) → HasPage (geometry_of old) p → IsPage (geometry_of old).version (frame_at new (page_number (geometry_of old) p)) (left (page_number (geometry_of old) p)) p page.number page.images → IsMadeOf (geometry_of old).version (first (page_number (geometry_of old) p)) done p page
      made_now p page there is = held.made p page there ((stay.same (page_number (geometry_of old) p) p page.number page.images).1 is)

  pub low_names : (disk : ℕ → List ℕ) (heap : Heap V H) (page : PageId) (ends : LogEnds) (f h : Fault) (error : RestartError) → HasPage (geometry_of heap) page → IsLow ends.last (frame_at heap)
      → RefusesPage heap disk page ends f → IsPageError f error → error ≡ Page h → IsPageFault (geometry_of heap) (λ p. p ≡ page) disk ends.last h ⊎ ((n : ℕ) × (h ≡ fault.NeedForce n) × (ends.durable < n) × (n ≤ ends.last))
  low_names disk heap page ends f h error there low refuses of is = by_kind refuses
    where
      same : h ≡ f
      same = sym (page_is f h error of is).0

      by_kind : RefusesPage heap disk page ends f → IsPageFault (geometry_of heap) (λ p. p ≡ page) disk ends.last h ⊎ ((n : ℕ) × (h ≡ fault.NeedForce n) × (ends.durable < n) × (n ≤ ends.last))
      by_kind (inl device) = inl (inl (same ∙ device))
      by_kind (inr (inl memory)) = absurd ((page_is f h error of is).1 memory)
      by_kind (inr (inr (inl damaged))) = inl (inr (page, there, refl, same ∙ damaged.0, damaged.1))
      by_kind (inr (inr (inr (n, asks, needs)))) = inr (n, same ∙ asks, needs.above, at (frame_at heap needs.one.0) refl needs.one.1)
        where
          at : (o : Option Frame) → frame_at heap needs.one.0 ≡ o → IsSomeAnd o (λ f. f.page.number ≡ n) → n ≤ ends.last
          at None is none = absurd none
          at (Some it) is number = let most = low needs.one.0 it is in omega (arith, number, most)

  pub fetch_names : (front : List ℕ) (first disk : ℕ → List ℕ) (heap : Heap V H) (done : List LogRecord) (page : PageId) (ends : LogEnds) (f h : Fault) (error : RestartError) → HasPage (geometry_of heap) page → IsHeld front first disk heap done ends.last
      → RefusesPage heap disk page ends f → IsPageError f error → error ≡ Page h → IsPageFault (geometry_of heap) (λ p. p ≡ page) disk ends.last h ⊎ ((n : ℕ) × (h ≡ fault.NeedForce n) × (ends.durable < n) × (n ≤ ends.last))
  fetch_names front first disk heap done page ends f h error there held refuses of is = low_names disk heap page ends f h error there held.low refuses of is

  pub fetch_done : {may_read : PageId → Type 0} (front : List ℕ) (first disk : ℕ → List ℕ) (old new : Heap V H) (done : List LogRecord) (last durable : ℕ) (u : Unit {0}) → FetchesHeld (Ok u) may_read front first disk old new done last durable → StaysHeld front first disk old new last done last
  fetch_done front first disk old new done last durable u f = elim f.stays [
    | inl device ↦ let clash = device in absurd cc
    | inr stays ↦ stays
  ]

  -- .. that needs no force
  pub fetch_alone : {may_read : PageId → Type 0} (front : List ℕ) (first disk : ℕ → List ℕ) (old new : Heap V H) (done : List LogRecord) (last durable : ℕ) (r : Result (Unit {0}) RestartError) → (((n : ℕ) × (r ≡ Err (Page (fault.NeedForce n)))) → ⊥)
      → FetchesHeld r may_read front first disk old new done last durable → WorksHeld r may_read front first disk old new last done last
  fetch_alone front first disk old new done last durable (Ok u) unforced f = record { named = tt; stays = fetch_done front first disk old new done last durable u f }
  fetch_alone front first disk old new done last durable (Err e) unforced f = record {
    named = λ h is. elim (f.named h is) [
      | inl of ↦ of
      | inr force ↦ absurd (unforced (force.0, ap Err (is ∙ ap Page force.1)))
    ];
    stays = tt;
  }

  -- .. since all is durable
  pub fetch_seen : {may_read : PageId → Type 0} (front : List ℕ) (first disk : ℕ → List ℕ) (old new : Heap V H) (done : List LogRecord) (last : ℕ) (r : Result (Unit {0}) RestartError) → FetchesHeld r may_read front first disk old new done last last
      → WorksHeld r may_read front first disk old new last done last
  fetch_seen front first disk old new done last (Ok u) f = record { named = tt; stays = fetch_done front first disk old new done last last u f }
  fetch_seen front first disk old new done last (Err e) f = record {
    named = λ h is. elim (f.named h is) [
      | inl of ↦ of
      | inr force ↦ let above = force.2 in let within = force.3 in absurd (omega (arith, above, within))
    ];
    stays = tt;
  }

  -- .. or that needs one, and leaves the heap
  pub fetch_forced : {may_read : PageId → Type 0} (front : List ℕ) (first disk : ℕ → List ℕ) (old new : Heap V H) (done : List LogRecord) (last durable : ℕ) (r : Result (Unit {0}) RestartError) (n : ℕ) → r ≡ Err (Page (fault.NeedForce n))
      → FetchesHeld r may_read front first disk old new done last durable → StaysHeld front first disk old new last done last
  fetch_forced front first disk old new done last durable r n is f = elim f.stays [
    | inl device ↦ let clash = sym is ∙ device in absurd cc
    | inr stays ↦ stays
  ]

  -- ---- a page in its frame

  -- what it is
  pub read_frame : (heap : Heap V H) (disk : ℕ → List ℕ) (p : PageId) (f : Frame) → HasPage (geometry_of heap) p → frame_of heap p ≡ Some f
      → HasRead heap disk p (record { number = f.page.number; images = images_of f.page.slots })
  read_frame heap disk p f there is =
      let its = heap.pool.in_order (page_number (geometry_of heap) p) f is in
      let one : f.page.id ≡ p = one_page (geometry_of heap) f.page.id p its.0 there its.1 in
      subst (λ (o : Option Frame). IsPage (geometry_of heap).version o (disk (page_number (geometry_of heap) p)) p f.page.number (images_of f.page.slots)) (sym is) (one, refl, refl)

  -- no other is in place
  pub frame_read : (heap : Heap V H) (disk : ℕ → List ℕ) (p : PageId) (f : Frame) (page : ReadPage) → frame_of heap p ≡ Some f → HasRead heap disk p page
      → (f.page.number ≡ page.number) × (images_of f.page.slots ≡ page.images)
  frame_read heap disk p f page is has =
      let it : IsPage (geometry_of heap).version (Some f) (disk (page_number (geometry_of heap) p)) p page.number page.images = subst (λ (o : Option Frame). IsPage (geometry_of heap).version o (disk (page_number (geometry_of heap) p)) p page.number page.images) is has in
      (it.1, it.2)

  -- a record finds no room there
  pub finds_none : (front : List ℕ) (first disk : ℕ → List ℕ) (heap : Heap V H) (done : List LogRecord) (last n : ℕ) (payload : Payload) (id : Rid) (image : Image) (f : Frame) → IsHeld front first disk heap done last
      → HasPage (geometry_of heap) id.page → frame_of heap id.page ≡ Some f → image_in payload ≡ Some (id, image) → f.page.number < n → (Fits (geometry_of heap).version f.page.slots id.slot (image_len image) → ⊥)
      → FindsNoRoom (geometry_of heap) first done n payload
  finds_none front first disk heap done last n payload id image f held there is says lacks wont = record {
    id = id;
    image = image;
    changes = says;
    page = record { number = f.page.number; images = images_of f.page.slots };
    made = held.made id.page _ there (read_frame heap disk id.page f there is);
    lacks = lacks;
    no_room = λ fits. wont (subst (λ (l : List Slot). Fits (geometry_of heap).version l id.slot (image_len image)) (sym (held.settled (page_number (geometry_of heap) id.page) f is)) fits);
  }

  -- .. and it is the page of that text
  pub finds_some : (front : List ℕ) (first disk : ℕ → List ℕ) (heap : Heap V H) (done : List LogRecord) (last n : ℕ) (payload : Payload) (id : Rid) (image : Image) (f : Frame) → IsHeld front first disk heap done last
      → HasPage (geometry_of heap) id.page → frame_of heap id.page ≡ Some f → image_in payload ≡ Some (id, image) → (f.page.number < n → Fits (geometry_of heap).version f.page.slots id.slot (image_len image))
      → FindsNoRoom (geometry_of heap) first done n payload → ⊥
  finds_some front first disk heap done last n payload id image f held there is says fits x = by_id x.id x.image x.changes x.made x.no_room
    where
      here : IsMadeOf (geometry_of heap).version (first (page_number (geometry_of heap) id.page)) done id.page (record { number = f.page.number; images = images_of f.page.slots })
      here = held.made id.page _ there (read_frame heap disk id.page f there is)

      by_id : (other : Rid) (its : Image) → image_in payload ≡ Some (other, its) → IsMadeOf (geometry_of heap).version (first (page_number (geometry_of heap) other.page)) done other.page x.page
          → (Fits (geometry_of heap).version (map settled x.page.images) other.slot (image_len its) → ⊥) → ⊥
      by_id other its changes made wont =
          let same : ◌≡◌ {A = Option (Rid × Image)} (Some (id, image)) (Some (other, its)) = sym says ∙ changes in
          let one : ◌≡◌ {A = Rid × Image} (id, image) (other, its) = cc in
          let id_is : id ≡ other = ap (λ (e : Rid × Image). e.0) one in
          let image_is : image ≡ its = ap (λ (e : Rid × Image). e.1) one in
          let there_made = subst (λ (q : Rid). IsMadeOf (geometry_of heap).version (first (page_number (geometry_of heap) q.page)) done q.page x.page) (sym id_is) made in
          let texts = one_text (geometry_of heap).version (first (page_number (geometry_of heap) id.page)) id.page id.page there_made.was.number here.was.number there_made.was.images here.was.images there_made.read here.read in
          let was : there_made.was ≡ here.was = one_read there_made.was here.was texts.1 texts.2 in
          let page : x.page ≡ record { number = f.page.number; images = images_of f.page.slots } = one_redone (redone_by done id.page) there_made.was here.was x.page (record { number = f.page.number; images = images_of f.page.slots }) there_made.redone was here.redone in
          let low : f.page.number < n = subst (λ (m : ℕ). m < n) (ap (λ (y : ReadPage). y.number) page) x.lacks in
          let slots : f.page.slots ≡ map settled x.page.images = held.settled (page_number (geometry_of heap) id.page) f is ∙ sym (ap (λ (y : ReadPage). map settled y.images) page) in
          let room : Fits (geometry_of heap).version (map settled x.page.images) id.slot (image_len image) = subst (λ (l : List Slot). Fits (geometry_of heap).version l id.slot (image_len image)) slots (fits low) in
          wont (subst (λ (q : Rid). Fits (geometry_of heap).version (map settled x.page.images) q.slot (image_len its)) id_is (subst (λ (i : Image). Fits (geometry_of heap).version (map settled x.page.images) id.slot (image_len i)) image_is room))

  -- .. by what a call says of the frame
  pub finds_none_there : (front : List ℕ) (first disk : ℕ → List ℕ) (heap : Heap V H) (done : List LogRecord) (last n : ℕ) (payload : Payload) (id : Rid) (image : Image) → IsHeld front first disk heap done last
      → HasPage (geometry_of heap) id.page → image_in payload ≡ Some (id, image) → IsSomeAnd (frame_of heap id.page) (λ f. f.page.number < n)
      → (IsSomeAnd (frame_of heap id.page) (λ f. Fits (geometry_of heap).version f.page.slots id.slot (image_len image)) → ⊥) → FindsNoRoom (geometry_of heap) first done n payload
  finds_none_there front first disk heap done last n payload id image held there says lacks wont = each (frame_of heap id.page) refl lacks wont
    where
      each : (o : Option Frame) → frame_of heap id.page ≡ o → IsSomeAnd o (λ f. f.page.number < n) → (IsSomeAnd o (λ f. Fits (geometry_of heap).version f.page.slots id.slot (image_len image)) → ⊥)
          → FindsNoRoom (geometry_of heap) first done n payload
      each None is lacks wont = absurd lacks
      each (Some f) is lacks wont = finds_none front first disk heap done last n payload id image f held there is says lacks wont

  pub finds_some_there : (front : List ℕ) (first disk : ℕ → List ℕ) (heap : Heap V H) (done : List LogRecord) (last n : ℕ) (payload : Payload) (id : Rid) (image : Image) → IsHeld front first disk heap done last
      → HasPage (geometry_of heap) id.page → image_in payload ≡ Some (id, image) → IsSomeAnd (frame_of heap id.page) (λ f. f.page.number < n → Fits (geometry_of heap).version f.page.slots id.slot (image_len image))
      → FindsNoRoom (geometry_of heap) first done n payload → ⊥
  finds_some_there front first disk heap done last n payload id image held there says fits x = each (frame_of heap id.page) refl fits
    where
      each : (o : Option Frame) → frame_of heap id.page ≡ o → IsSomeAnd o (λ f. f.page.number < n → Fits (geometry_of heap).version f.page.slots id.slot (image_len image)) → ⊥
      each None is fits = fits
      each (Some f) is fits = finds_some front first disk heap done last n payload id image f held there is says fits x

  -- a record that its page in a frame does not lack
  pub held_passed : (front : List ℕ) (first disk : ℕ → List ℕ) (heap : Heap V H) (done : List LogRecord) (last : ℕ) (r : LogRecord) (id : Rid) (image : Image) → IsHeld front first disk heap done last
      → image_in r.payload ≡ Some (id, image) → IsSomeAnd (frame_of heap id.page) (λ f. length done + 1 ≤ f.page.number) → IsHeld front first disk heap (done ++ r ∷ []) last
  held_passed front first disk heap done last r id image held says passed = held_past front first disk heap done last r held same
    where
      here : (page : ReadPage) (o : Option Frame) → frame_of heap id.page ≡ o → IsSomeAnd o (λ f. length done + 1 ≤ f.page.number) → HasRead heap disk id.page page
          → redone_read (length done + 1) (image_in r.payload) id.page page ≡ page
      here page None is up has = absurd up
      here page (Some f) is up has =
          let number = (frame_read heap disk id.page f page is has).0 in
          of_passed (length done + 1) (image_in r.payload) id image page says (omega (arith, up, number))

      same : (p : PageId) (page : ReadPage) → HasPage (geometry_of heap) p → HasRead heap disk p page → redone_read (length done + 1) (image_in r.payload) p page ≡ page
      same p page there is = elim (cases_page p id.page) [
        | inl one ↦ subst (λ (q : PageId). redone_read (length done + 1) (image_in r.payload) q page ≡ page) (sym one)
            (here page (frame_of heap id.page) refl passed (subst (λ (q : PageId). HasRead heap disk q page) one is))
        | inr apart ↦ of_other (length done + 1) (image_in r.payload) id image p page says apart
      ]

  -- .. and one that is of no page
  pub held_of_none : (front : List ℕ) (first disk : ℕ → List ℕ) (heap : Heap V H) (done : List LogRecord) (last : ℕ) (r : LogRecord) → IsHeld front first disk heap done last → image_in r.payload ≡ None
      → IsHeld front first disk heap (done ++ r ∷ []) last
  held_of_none front first disk heap done last r held none = held_past front first disk heap done last r held (λ p page there is. of_none (length done + 1) (image_in r.payload) p page none)

  -- each frame has a number below a later one
  pub frame_below : (front : List ℕ) (first disk : ℕ → List ℕ) (heap : Heap V H) (done : List LogRecord) (last : ℕ) → IsHeld front first disk heap done last → (p : PageId) (number : ℕ) → last < number
      → is_some (frame_of heap p) ≡ true → IsSomeAnd (frame_of heap p) (λ f. f.page.number < number)
  frame_below front first disk heap done last held p number more some = each (frame_of heap p) refl some
    where
      each : (o : Option Frame) → frame_of heap p ≡ o → is_some o ≡ true → IsSomeAnd o (λ f. f.page.number < number)
      each None is some = let clash : false ≡ true = some in absurd cc
      each (Some f) is some = let low = held.low (page_number (geometry_of heap) p) f is in omega (arith, low, more)

  -- ---- a change in a frame

  module _ (front : List ℕ) (first disk : ℕ → List ℕ) (old mid new : Heap V H) (id : Rid) (image : Image) (number last : ℕ) (r : LogRecord) (done : List LogRecord) (made : IsMade old mid number id image)
      (released : IsReleased mid new id) (geometry : geometry_of mid ≡ geometry_of old) (again : geometry_of new ≡ geometry_of old) (there : HasPage (geometry_of old) id.page)
      (held : IsHeld front first disk old done last) (says : image_in r.payload ≡ Some (id, image)) (is_next : number ≡ length done + 1)
      (below : IsSomeAnd (frame_of old id.page) (λ f. f.page.number < number)) where
    abbrev g : Geometry
    g = geometry_of old

    abbrev k : ℕ
    k = page_number g id.page

    same_k : page_number (geometry_of mid) id.page ≡ k
    same_k = ap (λ (x : Geometry). page_number x id.page) geometry

    new_here : frame_at new k ≡ option_map (reclaimed (lowered 0) id.slot) (option_map (changed number id.slot image) (frame_at old k))
    new_here = sym (ap (frame_at new) same_k) ∙ released.0 ∙ ap (option_map (reclaimed (lowered 0) id.slot)) (ap (frame_at mid) same_k ∙ made.0)

    new_other : (j : ℕ) → j ≢ k → frame_at new j ≡ frame_at old j
    new_other j apart = released.1 j (λ one. apart (one ∙ same_k)) ∙ made.1 j apart

    abbrev IsMadeIn : Geometry → Type 0
    IsMadeIn g = (p : PageId) (page : ReadPage) → HasPage g p → IsPage g.version (frame_at new (page_number g p)) (disk (page_number g p)) p page.number page.images
        → IsMadeOf g.version (first (page_number g p)) (done ++ r ∷ []) p page

    here_made : (o : Option Frame) → frame_at old k ≡ o → IsSomeAnd o (λ f. f.page.number < number) → (page : ReadPage)
        → IsPage (geometry_of old).version (option_map (reclaimed (lowered 0) id.slot) (option_map (changed number id.slot image) o)) (disk k) id.page page.number page.images → IsMadeOf (geometry_of old).version (first k) (done ++ r ∷ []) id.page page
    here_made None is low page has = absurd low
    here_made (Some f) is low page has =
        let before = held.made id.page _ there (read_frame old disk id.page f there is) in
        let was : ReadPage = record { number = f.page.number; images = images_of f.page.slots } in
        let due = of_due (length done + 1) (image_in r.payload) id image was says (subst (λ (n : ℕ). f.page.number < n) is_next low) in
        let images = sym (images_put f.page.slots id.slot image) ∙ has.2 in
        let now : record { number = length done + 1; images = with_image_at (images_of f.page.slots) id.slot image } ≡ page =
        ap (λ (n : ℕ). record { number = n; images = with_image_at (images_of f.page.slots) id.slot image }) (sym is_next ∙ has.1) ∙ ap (λ (l : List Image). record { number = page.number; images = l }) images in
        made_more (geometry_of old).version (first k) done r id.page was page before (due ∙ now)

    made_now : IsMadeIn (geometry_of old)
    made_now p page has is = elim (cases_page p id.page) [
      | inl same ↦ subst (λ (q : PageId). IsMadeOf (geometry_of old).version (first (page_number g q)) (done ++ r ∷ []) q page) (sym same)
          (here_made (frame_at old k) refl below page (subst (λ (o : Option Frame). IsPage (geometry_of old).version o (disk k) id.page page.number page.images) new_here
          (subst (λ (q : PageId). IsPage (geometry_of old).version (frame_at new (page_number g q)) (disk (page_number g q)) q page.number page.images) same is)))
      | inr apart ↦
          let other = new_other (page_number g p) (λ one. apart (one_page g p id.page has there one)) in
          made_more (geometry_of old).version (first (page_number g p)) done r p page page (held.made p page has (subst (λ (o : Option Frame). IsPage (geometry_of old).version o (disk (page_number g p)) p page.number page.images) other is))
          (of_other (length done + 1) (image_in r.payload) id image p page says apart)
    ]

    pub put_held : KeepsVolume old mid → KeepsVolume mid new → AreSettled new → number ≤ last → IsHeld front first disk new (done ++ r ∷ []) last
    put_held kept again_kept claims low = record {
      holds = (again_kept front disk (kept front disk held.holds).0).0;
      low = released_low;
      settled = claims;
      made = subst (λ (x : Geometry). IsMadeIn x) (sym again) made_now;
    }
      where
        made_low : IsLow last (frame_at mid)
        made_low j f is = elim (cases_eq j k) [
          | inl same ↦ made_within (frame_at old k) f number id.slot last image (sym made.0 ∙ ap (frame_at mid) (sym same) ∙ is) low
          | inr apart ↦ held.low j f (sym (made.1 j apart) ∙ is)
        ]

        released_low : IsLow last (frame_at new)
        released_low j f is = elim (cases_eq j (page_number (geometry_of mid) id.page)) [
          | inl same ↦ released_within (frame_at mid (page_number (geometry_of mid) id.page)) f (lowered 0) id.slot last (λ h at. made_low (page_number (geometry_of mid) id.page) h at) (sym released.0 ∙ ap (frame_at new) (sym same) ∙ is)
          | inr apart ↦ made_low j f (sym (released.1 j apart) ∙ is)
        ]

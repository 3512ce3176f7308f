-- A batch under way: what the volume shows meanwhile, what stands in place, and what frames keep of it.
use Rattle.std.proofs.Common.{◌≡◌, ◌≢◌, ◌<◌, inl, inr, ℕ, zero, suc, Bool, true, List, [], ◌∷◌, Contains, IsTrue, Option, Some, None, IsSomeAnd, is_some, option_map, length, take, drop, if◌then◌else◌, refl, sym, ap, subst, ◌∙◌, arith}
use Rattle.shore_types.specs.declared.layout.Geometry.{Geometry}
use Rattle.shore_types.specs.declared.versions.Version.{Version}
use Rattle.shore_types.specs.Versions.{page_bytes}
use Rattle.std.proofs.lemmas.Bool.{cases_eq, ne_eqb}
use Rattle.shore_disk.specs.Device.{DeviceHistory, LeavesOnly, Stands}
use Rattle.shore_disk.specs.declared.device.Disk.{Ghosts}
use Rattle.shore_dwrite.specs.declared.device.PageDev.{PageDev}
use Rattle.shore_dwrite.specs.Settled.{IsSettled}
use Rattle.shore_dwrite.specs.Shown.{AreTexts, ShowsBehind, overlaid}
use Rattle.shore_dwrite.specs.Volumes.{page_at, page_count}
use Rattle.shore_dwrite.proofs.Batches.{laid_shows}
use Rattle.shore_dwrite.proofs.Moves.{stands_still}
use Rattle.shore_dwrite.proofs.UnderWay.{opened_stays, placed_stays, settled_stays, written_stays}
use Rattle.shore_pool.specs.declared.amid.Amid.{Amid}
use Rattle.shore_pool.specs.declared.amid.Amid.TheVariants as amid
use Rattle.shore_pool.specs.declared.frame.Frame.{Frame}
use Rattle.shore_pool.specs.Changes.{settled, settled_at}
use Rattle.shore_pool.specs.Pages.{HasText, IsTextOf}
use Rattle.shore_pool.specs.UnderWay.{AreHeld, HoldsAmid}
use Rattle.shore_pool.proofs.Settling.{settled_either}

-- ---- what stands

-- an image that stands on the device, and shows these pages
pub record IsShown {D : Type 0} {G : Ghosts D} (dev : PageDev D G) (front : List ℕ) (disk : ℕ → List ℕ) : Type 0 where
  pub honest : IsTrue (G.is_honest dev.device)
  pub image : List ℕ
  pub stands : Stands (G.history dev.device) image
  pub shows : ShowsBehind dev.geometry front disk image

module _ {D : Type 0} {G : Ghosts D} (dev : PageDev D G) (front : List ℕ) (disk : ℕ → List ℕ) (numbers texts : List ℕ) where
  pub is_shown : (way : Amid) → HoldsAmid way dev front disk numbers texts → IsShown dev front disk
  is_shown amid.Rest s = record { honest = s.honest; image = s.image; stands = s.stands; shows = (s.front_is, inl (s.shut, s.in_place)) }
  is_shown amid.Written s = record { honest = s.honest; image = s.image; stands = s.stands; shows = (s.laid.front_is, inl (s.shut, s.in_place)) }
  is_shown amid.Opened (pages, s, is) = record {
    honest = s.honest;
    image = s.image;
    stands = s.stands;
    shows = subst (λ (d : ℕ → List ℕ). ShowsBehind dev.geometry front d s.image) (sym is) (laid_shows dev.geometry front pages numbers texts s.batch s.long s.image s.laid s.is_open);
  }
  is_shown amid.Placed (pages, s, is) = record {
    honest = s.opened.honest;
    image = s.opened.image;
    stands = s.opened.stands;
    shows = subst (λ (d : ℕ → List ℕ). ShowsBehind dev.geometry front d s.opened.image) (sym is)
        (laid_shows dev.geometry front pages numbers texts s.opened.batch s.opened.long s.opened.image s.opened.laid s.opened.is_open);
  }

  -- no call was made
  pub shown_still : (way : Amid) → HoldsAmid way dev front disk numbers texts → LeavesOnly (G.history dev.device) (G.history dev.device) (ShowsBehind dev.geometry front disk)
  shown_still way s = let is = is_shown way s in stands_still (G.history dev.device) is.image (ShowsBehind dev.geometry front disk) is.stands is.shows

-- a page that is not of the batch
pub laid_apart : (v : Version) (ns texts : List ℕ) (pages : ℕ → List ℕ) (k : ℕ) → (Contains ns k → ⊥) → overlaid v ns texts pages k ≡ pages k
laid_apart v [] texts pages k none = refl
laid_apart v (n ∷ ns) texts pages k none = elim (cases_eq n k) [
  | inl same ↦ absurd (none (0, omega arith, same))
  | inr other ↦ ap (λ (b : Bool). if b then take (page_bytes v) texts else overlaid v ns (drop (page_bytes v) texts) pages k) (ne_eqb n k other) ∙ laid_apart v ns (drop (page_bytes v) texts) pages k (λ has. none (suc has.0, omega (arith, has.1), has.2))
]

-- ---- what holds of each text

-- of those of the numbers
pub among : (v : Version) (P Q : ℕ → List ℕ → Type 0) (ns texts : List ℕ) → AreTexts v P ns texts → ((k : ℕ) (text : List ℕ) → Contains ns k → P k text → Q k text) → AreTexts v Q ns texts
among v P Q [] texts are to = tt
among v P Q (n ∷ ns) texts are to = (to n (take (page_bytes v) texts) (0, omega arith, refl) are.0, among v P Q ns (drop (page_bytes v) texts) are.1 (λ k text has. to k text (suc has.0, omega (arith, has.1), has.2)))

pub of_one : (v : Version) (P : ℕ → List ℕ → Type 0) (ns texts : List ℕ) (k : ℕ) → AreTexts v P ns texts → Contains ns k → (text : List ℕ) × P k text
of_one v P [] texts k are has = absurd (omega (arith, has.1))
of_one v P (n ∷ ns) texts k are (zero, inside, is) = (take (page_bytes v) texts, subst (λ (i : ℕ). P i (take (page_bytes v) texts)) is are.0)
of_one v P (n ∷ ns) texts k are (suc i, inside, is) = of_one v P ns (drop (page_bytes v) texts) k are.1 (i, omega (arith, inside), is)

-- ---- frames

there_is_text : (o : Option Frame) (text : List ℕ) → IsSomeAnd o (λ f. IsTextOf f text) → is_some o ≡ true
there_is_text None text has = absurd has
there_is_text (Some f) text has = refl

settled_there : (o : Option Frame) → is_some o ≡ true → is_some (option_map settled o) ≡ true
settled_there None is = is
settled_there (Some f) is = refl

pub mapped_there : (to : Frame → Frame) (o : Option Frame) → is_some o ≡ true → is_some (option_map to o) ≡ true
mapped_there to None is = is
mapped_there to (Some f) is = refl

-- once the gate is open
pub held_open : (v : Version) (at now : ℕ → Option Frame) (ns texts : List ℕ) → ((k : ℕ) → now k ≡ settled_at ns at k) → AreHeld v amid.Written at ns texts → AreHeld v amid.Opened now ns texts
held_open v at now ns texts is held = among v (HasText at) (λ k text. IsTrue (is_some (now k))) ns texts held (λ k text has had.
    let there = there_is_text (at k) text had in
    subst (λ (o : Option Frame). is_some o ≡ true) (sym (is k)) (elim (settled_either at ns k) [
      | inl same ↦ subst (λ (o : Option Frame). is_some o ≡ true) (sym same) there
      | inr clean ↦ subst (λ (o : Option Frame). is_some o ≡ true) (sym clean) (settled_there (at k) there)
    ]))

-- frames that change otherwise
pub held_stays : (v : Version) (way : Amid) (at now : ℕ → Option Frame) (ns texts : List ℕ) → AreHeld v way at ns texts
    → ((k : ℕ) (text : List ℕ) → way ≡ amid.Written → Contains ns k → HasText at k text → HasText now k text)
    → ((k : ℕ) → way ≡ amid.Opened → Contains ns k → is_some (at k) ≡ true → is_some (now k) ≡ true) → AreHeld v way now ns texts
held_stays v amid.Rest at now ns texts held one two = tt
held_stays v amid.Written at now ns texts held one two = among v (HasText at) (HasText now) ns texts held (λ k text has had. one k text refl has had)
held_stays v amid.Opened at now ns texts held one two = among v (λ k text. IsTrue (is_some (at k))) (λ k text. IsTrue (is_some (now k))) ns texts held (λ k text has had. two k refl has had)
held_stays v amid.Placed at now ns texts held one two = tt

-- where the frames are the same
pub held_same : (v : Version) (way : Amid) (at now : ℕ → Option Frame) (ns texts : List ℕ) → ((k : ℕ) → now k ≡ at k) → AreHeld v way at ns texts → AreHeld v way now ns texts
held_same v way at now ns texts same held = held_stays v way at now ns texts held
    (λ k text is has had. subst (λ (o : Option Frame). IsSomeAnd o (λ f. IsTextOf f text)) (sym (same k)) had)
    (λ k is has had. subst (λ (o : Option Frame). is_some o ≡ true) (sym (same k)) had)

-- where one has changed that is not of the batch
pub held_but : (v : Version) (way : Amid) (at now : ℕ → Option Frame) (ns texts : List ℕ) (n : ℕ) → ((k : ℕ) → k ≢ n → now k ≡ at k) → (way ≡ amid.Written → Contains ns n → ⊥)
    → (way ≡ amid.Opened → Contains ns n → is_some (at n) ≡ true → is_some (now n) ≡ true) → AreHeld v way at ns texts → AreHeld v way now ns texts
held_but v way at now ns texts n others apart there held = held_stays v way at now ns texts held
    (λ k text is has had. elim (cases_eq k n) [
      | inl same ↦ absurd (apart is (subst (Contains ns) same has))
      | inr other ↦ subst (λ (o : Option Frame). IsSomeAnd o (λ f. IsTextOf f text)) (sym (others k other)) had
    ])
    (λ k is has had. elim (cases_eq k n) [
      | inl same ↦ subst (λ (i : ℕ). is_some (now i) ≡ true) (sym same) (there is (subst (Contains ns) same has) (subst (λ (i : ℕ). is_some (at i) ≡ true) same had))
      | inr other ↦ subst (λ (o : Option Frame). is_some o ≡ true) (sym (others k other)) had
    ])

-- where one has come
pub held_added : (v : Version) (way : Amid) (at now : ℕ → Option Frame) (ns texts : List ℕ) (n : ℕ) → ((k : ℕ) → k ≢ n → now k ≡ at k) → at n ≡ None → AreHeld v way at ns texts → AreHeld v way now ns texts
held_added v way at now ns texts n others none held = held_stays v way at now ns texts held
    (λ k text is has had. elim (cases_eq k n) [
      | inl same ↦ absurd (no_text (at k) text (ap at same ∙ none) had)
      | inr other ↦ subst (λ (o : Option Frame). IsSomeAnd o (λ f. IsTextOf f text)) (sym (others k other)) had
    ])
    (λ k is has had. elim (cases_eq k n) [
      | inl same ↦ absurd (no_one (at k) (ap at same ∙ none) had)
      | inr other ↦ subst (λ (o : Option Frame). is_some o ≡ true) (sym (others k other)) had
    ])
  where
    no_text : (o : Option Frame) (text : List ℕ) → o ≡ None → IsSomeAnd o (λ f. IsTextOf f text) → ⊥
    no_text None text none has = has
    no_text (Some f) text none has = cc

    no_one : (o : Option Frame) → o ≡ None → is_some o ≡ true → ⊥
    no_one None none is = cc
    no_one (Some f) none is = cc

-- ---- what is in place

no_frame : (v : Version) (at : ℕ → Option Frame) (ns texts : List ℕ) (k : ℕ) → AreTexts v (λ k text. IsTrue (is_some (at k))) ns texts → at k ≡ None → Contains ns k → ⊥
no_frame v at ns texts k held none has = let clash : is_some (at k) ≡ true = (of_one v (λ k text. IsTrue (is_some (at k))) ns texts k held has).1 in never (at k) none clash
  where
    never : (o : Option Frame) → o ≡ None → is_some o ≡ true → ⊥
    never None is there = cc
    never (Some f) is there = cc

-- a page that has no frame stands in its place as the volume shows it
pub in_place_of : {D : Type 0} {G : Ghosts D} (way : Amid) (dev : PageDev D G) (front : List ℕ) (disk : ℕ → List ℕ) (ns texts : List ℕ) (at : ℕ → Option Frame) (k : ℕ) (s : HoldsAmid way dev front disk ns texts)
    → AreHeld dev.geometry.version way at ns texts → k < page_count dev.geometry → at k ≡ None → page_at dev.geometry.version (is_shown dev front disk ns texts way s).image k ≡ disk k
unfolding is_shown
in_place_of amid.Rest dev front disk ns texts at k s held within none = s.in_place k within
in_place_of amid.Written dev front disk ns texts at k s held within none = s.in_place k within
in_place_of amid.Opened dev front disk ns texts at k (pages, s, is) held within none =
    let apart = no_frame dev.geometry.version at ns texts k held none in
    s.laid.others k within apart ∙ sym (ap (λ (d : ℕ → List ℕ). d k) is ∙ laid_apart dev.geometry.version ns texts pages k apart)
in_place_of amid.Placed dev front disk ns texts at k (pages, s, is) held within none = s.in_place k within ∙ sym (ap (λ (d : ℕ → List ℕ). d k) is)

-- ---- another value of the same device

pub amid_stays : {D : Type 0} {G : Ghosts D} (way : Amid) (old new : PageDev D G) → G.history new.device ≡ G.history old.device → G.is_honest new.device ≡ G.is_honest old.device → new.geometry ≡ old.geometry
    → (front : List ℕ) (disk : ℕ → List ℕ) (ns texts : List ℕ) → HoldsAmid way old front disk ns texts → HoldsAmid way new front disk ns texts
amid_stays amid.Rest old new history honest geometry front disk ns texts s = settled_stays old new history honest geometry front disk s
amid_stays amid.Written old new history honest geometry front disk ns texts s = written_stays old new history honest geometry front disk ns texts s
amid_stays amid.Opened old new history honest geometry front disk ns texts (pages, s, is) = (pages, opened_stays old new history honest geometry front pages ns texts s, is ∙ ap (λ (g : Geometry). overlaid g.version ns texts pages) (sym geometry))
amid_stays amid.Placed old new history honest geometry front disk ns texts (pages, s, is) = (pages, placed_stays old new history honest geometry front pages ns texts s, is ∙ ap (λ (g : Geometry). overlaid g.version ns texts pages) (sym geometry))

-- ---- where none is under way

pub at_rest : {D : Type 0} {G : Ghosts D} (way : Amid) (dev : PageDev D G) (front : List ℕ) (disk : ℕ → List ℕ) (ns texts : List ℕ) → way ≡ amid.Rest → HoldsAmid way dev front disk ns texts → IsSettled dev front disk
at_rest way dev front disk ns texts rests s = subst (λ (w : Amid). HoldsAmid w dev front disk ns texts) rests s

pub rests_at : {D : Type 0} {G : Ghosts D} (way : Amid) (dev : PageDev D G) (front : List ℕ) (disk : ℕ → List ℕ) (ns texts : List ℕ) → way ≡ amid.Rest → IsSettled dev front disk → HoldsAmid way dev front disk ns texts
rests_at way dev front disk ns texts rests s = subst (λ (w : Amid). HoldsAmid w dev front disk ns texts) (sym rests) s

pub held_none : (v : Version) (way : Amid) (at : ℕ → Option Frame) (ns texts : List ℕ) → way ≡ amid.Rest → AreHeld v way at ns texts
held_none v way at ns texts rests = subst (λ (w : Amid). AreHeld v w at ns texts) (sym rests) tt

-- Pages that stay what they are, in a frame or out of it.
use Rattle.std.proofs.Common.{◌≡◌, ◌≢◌, ◌⊎◌, ◌↔◌, ◌<◌, ℕ, zero, suc, Contains, option_map, [], ◌∷◌, arith, List, Option, Some, None, IsSomeAnd, is_some, true, length, refl, sym, ap, subst, ◌∙◌, inl, inr}
use Rattle.std.proofs.lemmas.Bool.{cases_eq, cases_lt}
use Rattle.shore_types.specs.declared.ids.PageId.{PageId}
use Rattle.shore_types.specs.Images.{Image}
use Rattle.shore_types.specs.declared.versions.Version.{Version}
use Rattle.shore_page.specs.Reading.{images_in}
use Rattle.shore_page.specs.Text.{IsPageText, images_of}
use Rattle.shore_page.proofs.SlotsRead.{images_are}
use Rattle.shore_pool.specs.declared.frame.Frame.{Frame}
use Rattle.shore_pool.specs.Changes.{changed, first_of, reclaimed, settled}
use Rattle.shore_page.specs.Slots.{Slot, with_change}
use Rattle.shore_pool.specs.FrameMaps.{IsDue}
use Rattle.shore_pool.specs.Pages.{HasText, AreWritten, IsPage, IsTextOf, SamePages}

page_id : ℕ → ℕ → PageId
page_id store page = record { store = store; page = page }

-- bytes are the text of one page at most
pub one_text : (v : Version) (bytes : List ℕ) (a b : PageId) (m n : ℕ) (images others : List Image) → IsPageText v bytes a m images → IsPageText v bytes b n others → (a ≡ b) × (m ≡ n) × (images ≡ others)
one_text v bytes a b m n images others first second =
    let count : length images ≡ length others = sym first.header.count ∙ second.header.count in
    let id : a ≡ b = ap (λ (store : ℕ). record { store = store; page = a.page }) (sym first.header.store ∙ second.header.store) ∙ ap (λ (page : ℕ). record { store = b.store; page = page }) (sym first.header.page ∙ second.header.page) in
    (id, sym first.header.last ∙ second.header.last, sym (images_are v bytes a m images first) ∙ ap (images_in v bytes) count ∙ images_are v bytes b n others second)

-- a clean frame and the volume have one page
pub one_page : (v : Version) (f : Frame) (text : List ℕ) → f.page.version ≡ v → IsTextOf f text → (id : PageId) (number : ℕ) (images : List Image) → IsPage v (Some f) text id number images ↔ IsPage v None text id number images
one_page v f text same its id number images =
    let is = subst (λ (w : Version). IsPageText w text f.page.id f.page.number (images_of f.page.slots)) same its in (
      (λ p. subst (λ (a : PageId). IsPageText v text a number images) p.0 (subst (λ (n : ℕ). IsPageText v text f.page.id n images) p.1 (subst (λ (l : List Image). IsPageText v text f.page.id f.page.number l) p.2 is))),
      (λ p. one_text v text f.page.id id f.page.number number (images_of f.page.slots) images is p),
    )

pub pages_stay : (v : Version) (at now : ℕ → Option Frame) (disk : ℕ → List ℕ) → ((k : ℕ) → now k ≡ at k) → SamePages v at disk now disk
pages_stay v at now disk same k id number images = subst (λ (o : Option Frame). IsPage v (at k) (disk k) id number images ↔ IsPage v o (disk k) id number images) (sym (same k)) ((λ p. p), (λ p. p))

pub pages_on : (v : Version) (at mid now : ℕ → Option Frame) (disk between left : ℕ → List ℕ) → SamePages v at disk mid between → SamePages v mid between now left → SamePages v at disk now left
pages_on v at mid now disk between left one two k id number images = (
  (λ p. (two k id number images).0 ((one k id number images).0 p)),
  (λ p. (one k id number images).1 ((two k id number images).1 p)),
)

pub written_stay : (at now : ℕ → Option Frame) (disk : ℕ → List ℕ) → ((k : ℕ) → (now k ≡ at k) ⊎ (now k ≡ None)) → AreWritten at disk → AreWritten now disk
written_stay at now disk each written k f is clean = elim (each k) [
  | inl same ↦ written k f (sym same ∙ is) clean
  | inr gone ↦ let clash : None ≡ Some f = sym gone ∙ is in absurd (cc)
]

module _ (v : Version) (at now : ℕ → Option Frame) (disk : ℕ → List ℕ) (n : ℕ) (others : (k : ℕ) → k ≢ n → now k ≡ at k) where
  by_page : ((id : PageId) (number : ℕ) (images : List Image) → IsPage v (at n) (disk n) id number images ↔ IsPage v (now n) (disk n) id number images) → SamePages v at disk now disk
  by_page here k id number images = elim (cases_eq k n) [
    | inl same ↦ subst (λ (i : ℕ). IsPage v (at i) (disk i) id number images ↔ IsPage v (now i) (disk i) id number images) (sym same) (here id number images)
    | inr other ↦ subst (λ (o : Option Frame). IsPage v (at k) (disk k) id number images ↔ IsPage v o (disk k) id number images) (sym (others k other)) ((λ p. p), (λ p. p))
  ]

  turned : {A B : Type 0} → A ↔ B → B ↔ A
  turned e = (e.1, e.0)

  -- a clean frame goes
  pub page_goes : AreWritten at disk → ((f : Frame) → at n ≡ Some f → f.page.version ≡ v) → IsSomeAnd (at n) (λ f. f.recovery ≡ None) → now n ≡ None → SamePages v at disk now disk
  page_goes written own clean gone = by_page (λ id number images. each (at n) (written n) own clean id number images)
    where
      each : (slot : Option Frame) → ((f : Frame) → slot ≡ Some f → f.recovery ≡ None → IsTextOf f (disk n)) → ((f : Frame) → slot ≡ Some f → f.page.version ≡ v) → IsSomeAnd slot (λ f. f.recovery ≡ None) → (id : PageId) (number : ℕ) (images : List Image) → IsPage v slot (disk n) id number images ↔ IsPage v (now n) (disk n) id number images
      each None is own clean id number images = absurd clean
      each (Some f) is own clean id number images = subst (λ (o : Option Frame). IsPage v (Some f) (disk n) id number images ↔ IsPage v o (disk n) id number images) (sym gone) (one_page v f (disk n) (own f refl) (is f refl clean) id number images)

  -- a page that was read comes
  pub page_comes : (f : Frame) → f.page.version ≡ v → IsTextOf f (disk n) → at n ≡ None → now n ≡ Some f → SamePages v at disk now disk
  page_comes f own text none here = by_page (λ id number images.
      subst (λ (o : Option Frame). IsPage v o (disk n) id number images ↔ IsPage v (now n) (disk n) id number images) (sym none)
      (subst (λ (o : Option Frame). IsPage v None (disk n) id number images ↔ IsPage v o (disk n) id number images) (sym here) (turned (one_page v f (disk n) own text id number images))))

  pub written_comes : (f : Frame) → IsTextOf f (disk n) → now n ≡ Some f → AreWritten at disk → AreWritten now disk
  written_comes f text here written k e is clean = elim (cases_eq k n) [
    | inl same ↦
        let both : Some f ≡ Some e = sym here ∙ ap now (sym same) ∙ is in
        let one : f ≡ e = cc in
        subst (λ (x : Frame). IsTextOf x (disk k)) one (subst (λ (i : ℕ). IsTextOf f (disk i)) (sym same) text)
    | inr other ↦ written k e (sym (others k other) ∙ is) clean
  ]

pub stay_or_go : (at now : ℕ → Option Frame) (n : ℕ) → now n ≡ None → ((k : ℕ) → k ≢ n → now k ≡ at k) → (k : ℕ) → (now k ≡ at k) ⊎ (now k ≡ None)
stay_or_go at now n gone others k = elim (cases_eq k n) [
  | inl same ↦ inr (ap now same ∙ gone)
  | inr other ↦ inl (others k other)
]

pub there_is : (P : Frame → Type 0) (slot : Option Frame) → IsSomeAnd slot P → is_some slot ≡ true
there_is P None p = absurd p
there_is P (Some f) p = refl

pub contains_one : (n k : ℕ) → Contains (n ∷ []) k → n ≡ k
contains_one n k (zero, inside, is) = is
contains_one n k (suc i, inside, is) = absurd (omega arith)

pub settled_clean : (slot now : Option Frame) (P : Frame → Type 0) → IsSomeAnd slot P → now ≡ option_map settled slot → IsSomeAnd now (λ f. f.recovery ≡ None)
settled_clean None now P is same = absurd is
settled_clean (Some f) now P is same = subst (λ (o : Option Frame). IsSomeAnd o (λ e. e.recovery ≡ None)) (sym same) refl

-- all pages are dirty, and none may be written: each has a number above
pub all_above : (at : ℕ → Option Frame) (durable : ℕ) → ((k : ℕ) (f : Frame) → at k ≡ Some f → f.recovery ≢ None) → ((k : ℕ) (f : Frame) → at k ≡ Some f → IsDue durable f → ⊥) → (k : ℕ) (f : Frame) → at k ≡ Some f → (f.recovery ≢ None) × (durable < f.page.number)
all_above at durable dirty none k f is = (
  dirty k f is,
  elim (cases_lt durable f.page.number) [
    | inl above ↦ above
    | inr up_to ↦ absurd (none k f is (dirty k f is, up_to))
  ],
)

pub one_above : (at : ℕ → Option Frame) (durable number : ℕ) (one : (k : ℕ) × IsSomeAnd (at k) (λ f. f.page.number ≡ number)) → ((k : ℕ) (f : Frame) → at k ≡ Some f → (f.recovery ≢ None) × (durable < f.page.number)) → durable < number
one_above at durable number one all = each (at one.0) (all one.0) one.1
  where
    each : (slot : Option Frame) → ((f : Frame) → slot ≡ Some f → (f.recovery ≢ None) × (durable < f.page.number)) → IsSomeAnd slot (λ f. f.page.number ≡ number) → durable < number
    each None is has = absurd has
    each (Some f) is has = subst (λ (n : ℕ). durable < n) has (is f refl).1

-- claims change, and no image with them
images_stay : (claim : Slot → Slot) → ((s : Slot) → (claim s).image ≡ s.image) → (slots : List Slot) (slot : ℕ) → images_of (with_change claim slots slot) ≡ images_of slots
images_stay claim keeps [] slot = refl
images_stay claim keeps (s ∷ slots) zero = ap (λ (i : Image). i ∷ images_of slots) (keeps s)
images_stay claim keeps (s ∷ slots) (suc slot) = ap (λ (l : List Image). s.image ∷ l) (images_stay claim keeps slots slot)

module _ (v : Version) (at now : ℕ → Option Frame) (disk : ℕ → List ℕ) (n slot : ℕ) (claim : Slot → Slot) (keeps : (s : Slot) → (claim s).image ≡ s.image) (here : now n ≡ option_map (reclaimed claim slot) (at n)) (others : (k : ℕ) → k ≢ n → now k ≡ at k) where
  pub claims_stay : SamePages v at disk now disk
  claims_stay = by_page v at now disk n others (λ id number images. subst (λ (o : Option Frame). IsPage v (at n) (disk n) id number images ↔ IsPage v o (disk n) id number images) (sym here) (each (at n) id number images))
    where
      each : (o : Option Frame) (id : PageId) (number : ℕ) (images : List Image) → IsPage v o (disk n) id number images ↔ IsPage v (option_map (reclaimed claim slot) o) (disk n) id number images
      each None id number images = ((λ p. p), (λ p. p))
      each (Some f) id number images = (
        (λ p. (p.0, p.1, images_stay claim keeps f.page.slots slot ∙ p.2)),
        (λ p. (p.0, p.1, sym (images_stay claim keeps f.page.slots slot) ∙ p.2)),
      )

  pub claims_written : AreWritten at disk → AreWritten now disk
  claims_written written k f is clean = elim (cases_eq k n) [
    | inl same ↦ each (at k) (written k) (sym (subst (λ (i : ℕ). now i ≡ option_map (reclaimed claim slot) (at i)) (sym same) here) ∙ is)
    | inr other ↦ written k f (sym (others k other) ∙ is) clean
  ]
    where
      each : (o : Option Frame) → ((e : Frame) → o ≡ Some e → e.recovery ≡ None → IsTextOf e (disk k)) → option_map (reclaimed claim slot) o ≡ Some f → IsTextOf f (disk k)
      each None text there = absurd (cc)
      each (Some e) text there =
          let both : reclaimed claim slot e ≡ f = cc in
          let dirty : e.recovery ≡ None = ap (λ (x : Frame). x.recovery) both ∙ clean in
          subst (λ (x : Frame). IsTextOf x (disk k)) both (subst (λ (l : List Image). IsPageText e.page.version (disk k) e.page.id e.page.number l) (sym (images_stay claim keeps e.page.slots slot)) (text e refl dirty))

  -- the text of its page is no other, and it stays
  pub claims_text : (k : ℕ) (text : List ℕ) → HasText at k text → HasText now k text
  claims_text k text has = elim (cases_eq k n) [
    | inl same ↦ subst (λ (o : Option Frame). IsSomeAnd o (λ f. IsTextOf f text)) (sym (subst (λ (i : ℕ). now i ≡ option_map (reclaimed claim slot) (at i)) (sym same) here)) (each (at k) has)
    | inr other ↦ subst (λ (o : Option Frame). IsSomeAnd o (λ f. IsTextOf f text)) (sym (others k other)) has
  ]
    where
      each : (o : Option Frame) → IsSomeAnd o (λ f. IsTextOf f text) → IsSomeAnd (option_map (reclaimed claim slot) o) (λ f. IsTextOf f text)
      each None has = has
      each (Some e) has = subst (λ (l : List Image). IsPageText e.page.version text e.page.id e.page.number l) (sym (images_stay claim keeps e.page.slots slot)) has

  pub claims_some : (k : ℕ) → is_some (at k) ≡ true → is_some (now k) ≡ true
  claims_some k is = elim (cases_eq k n) [
    | inl same ↦ subst (λ (o : Option Frame). is_some o ≡ true) (sym (subst (λ (i : ℕ). now i ≡ option_map (reclaimed claim slot) (at i)) (sym same) here)) (each (at k) is)
    | inr other ↦ subst (λ (o : Option Frame). is_some o ≡ true) (sym (others k other)) is
  ]
    where
      each : (o : Option Frame) → is_some o ≡ true → is_some (option_map (reclaimed claim slot) o) ≡ true
      each None there = there
      each (Some e) there = refl

-- a page that was changed is dirty
pub change_written : (at now : ℕ → Option Frame) (disk : ℕ → List ℕ) (n lsn slot : ℕ) (after : Image) → now n ≡ option_map (changed lsn slot after) (at n) → ((k : ℕ) → k ≢ n → now k ≡ at k) → AreWritten at disk → AreWritten now disk
change_written at now disk n lsn slot after here others written k f is clean = elim (cases_eq k n) [
  | inl same ↦ absurd (each (at n) (sym here ∙ ap now (sym same) ∙ is))
  | inr other ↦ written k f (sym (others k other) ∙ is) clean
]
  where
    never : (first : Option ℕ) → first_of first lsn ≡ None → ⊥
    never None is = cc
    never (Some m) is = cc

    each : (o : Option Frame) → option_map (changed lsn slot after) o ≡ Some f → ⊥
    each None there = cc
    each (Some e) there =
        let both : changed lsn slot after e ≡ f = cc in
        never e.recovery (ap (λ (x : Frame). x.recovery) both ∙ clean)

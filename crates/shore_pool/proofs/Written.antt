-- Pages that were written from their frames as a batch.
use Rattle.std.proofs.Common.{is_some, true, ◌≡◌, ◌⊎◌, ◌↔◌, ◌<◌, ◌≤◌, ℕ, suc, Bool, List, [], ◌∷◌, All, Contains, Option, Some, None, IsSomeAnd, option_map, length, take, drop, if◌then◌else◌, refl, sym, ap, subst, ◌∙◌, inl, inr, arith}
use Rattle.std.proofs.lemmas.Bool.{cases_eq, eq-eqb, ne_eqb}
use Rattle.std.proofs.lemmas.List.Elements.{All-contains, All-weaker}
use Rattle.shore_types.specs.declared.ids.PageId.{PageId}
use Rattle.shore_types.specs.declared.layout.Geometry.{Geometry}
use Rattle.shore_types.specs.Images.{Image}
use Rattle.shore_types.specs.Layout.{HasPage}
use Rattle.shore_types.specs.declared.versions.Version.{Version}
use Rattle.shore_types.specs.Versions.{page_bytes}
use Rattle.shore_dwrite.specs.Shown.{AreTexts, IsBatch, RiseFrom, overlaid}
use Rattle.shore_dwrite.specs.Volumes.{IsImageOf, page_count, page_number}
use Rattle.shore_dwrite.proofs.Numbers.{image_is, page_within}
use Rattle.shore_page.specs.Text.{IsPageText, images_of}
use Rattle.shore_pool.specs.declared.frame.Frame.{Frame}
use Rattle.shore_pool.specs.Changes.{settled, settled_at}
use Rattle.shore_pool.specs.Pages.{AreInOrder, AreUpTo, AreWritten, HasText, IsPage, IsTextOf, MayBeLeft, SamePages}

-- what holds of each text
pub texts_weaker : (v : Version) (P Q : ℕ → List ℕ → Type 0) → ((k : ℕ) (text : List ℕ) → P k text → Q k text) → (numbers texts : List ℕ) → AreTexts v P numbers texts → AreTexts v Q numbers texts
texts_weaker v P Q weaker [] texts are = tt
texts_weaker v P Q weaker (n ∷ numbers) texts are = (weaker n (take (page_bytes v) texts) are.0, texts_weaker v P Q weaker numbers (drop (page_bytes v) texts) are.1)

-- pages that have frames are of the volume's version
pub of_version : (at : ℕ → Option Frame) (g : Geometry) (v : Version) → v ≡ g.version → AreInOrder at g → (numbers : List ℕ) → All (λ k. is_some (at k) ≡ true) numbers
    → All (λ k. IsSomeAnd (at k) (λ f. f.page.version ≡ v)) numbers
of_version at g v same order numbers there = All-weaker (λ k. is_some (at k) ≡ true) (λ k. IsSomeAnd (at k) (λ f. f.page.version ≡ v)) (λ k is. one (at k) (λ f held. (order k f held).2) is) numbers there
  where
    one : (slot : Option Frame) → ((f : Frame) → slot ≡ Some f → f.page.version ≡ g.version) → is_some slot ≡ true → IsSomeAnd slot (λ f. f.page.version ≡ v)
    one None own is = cc
    one (Some f) own is = own f refl ∙ sym same

-- pages that have frames can be a batch
pub is_batch : (at : ℕ → Option Frame) (g : Geometry) (numbers texts : List ℕ) → AreInOrder at g → 1 ≤ length numbers → length numbers ≤ 32 → RiseFrom 0 numbers → All (λ k. is_some (at k) ≡ true) numbers
    → AreTexts g.version (HasText at) numbers texts → IsBatch g numbers texts
is_batch at g numbers texts order some most rise there texts_are = record {
  some = some;
  most = most;
  rise = rise;
  on_volume = All-weaker (λ k. is_some (at k) ≡ true) (λ k. k < page_count g) (λ k is. within k (at k) (order k) is) numbers there;
  images = texts_weaker g.version (HasText at) (IsImageOf g) (λ k text has. image k (at k) (order k) text has) numbers texts texts_are;
}
  where
    within : (k : ℕ) (slot : Option Frame) → ((f : Frame) → slot ≡ Some f → HasPage g f.page.id × (page_number g f.page.id ≡ k) × (f.page.version ≡ g.version)) → is_some slot ≡ true → k < page_count g
    within k None is there = absurd (cc)
    within k (Some f) is there = subst (λ (n : ℕ). n < page_count g) (is f refl).1 (page_within g.stores f.page.id.store f.page.id.page (is f refl).0).1

    image : (k : ℕ) (slot : Option Frame) → ((f : Frame) → slot ≡ Some f → HasPage g f.page.id × (page_number g f.page.id ≡ k) × (f.page.version ≡ g.version)) → (text : List ℕ) → IsSomeAnd slot (λ f. IsTextOf f text) → IsImageOf g k text
    image k None is text has = absurd has
    image k (Some f) is text has = image_is g k f.page.id text f.page.number _ (is f refl).0 (is f refl).1
        (subst (λ (v : Version). IsPageText v text f.page.id f.page.number (images_of f.page.slots)) (is f refl).2 has)

module _ (v : Version) (at : ℕ → Option Frame) where
  laid_here : (n k : ℕ) (ns texts : List ℕ) (disk : ℕ → List ℕ) → n ≡ k → overlaid v (n ∷ ns) texts disk k ≡ take (page_bytes v) texts
  laid_here n k ns texts disk is = ap (λ (b : Bool). if b then take (page_bytes v) texts else overlaid v ns (drop (page_bytes v) texts) disk k) (eq-eqb n k is)

  laid_behind : (n k : ℕ) (ns texts : List ℕ) (disk : ℕ → List ℕ) → (n ≡ k → ⊥) → overlaid v (n ∷ ns) texts disk k ≡ overlaid v ns (drop (page_bytes v) texts) disk k
  laid_behind n k ns texts disk other = ap (λ (b : Bool). if b then take (page_bytes v) texts else overlaid v ns (drop (page_bytes v) texts) disk k) (ne_eqb n k other)

  settled_first : (n k : ℕ) (ns : List ℕ) → n ≡ k → settled_at (n ∷ ns) at k ≡ option_map settled (at k)
  settled_first n k ns is = ap (λ (b : Bool). if b then option_map settled (at k) else settled_at ns at k) (eq-eqb n k is)

  settled_behind : (n k : ℕ) (ns : List ℕ) → (n ≡ k → ⊥) → settled_at (n ∷ ns) at k ≡ settled_at ns at k
  settled_behind n k ns other = ap (λ (b : Bool). if b then option_map settled (at k) else settled_at ns at k) (ne_eqb n k other)

  -- a page was written, and has the text of its frame, or not
  pub record IsNew (ns : List ℕ) (left : ℕ → List ℕ) (now : Option Frame) (k : ℕ) : Type 0 where
    pub among : Contains ns k
    pub text : HasText at k (left k)
    pub clean : now ≡ option_map settled (at k)

  pub record IsOld (disk left : ℕ → List ℕ) (now : Option Frame) (k : ℕ) : Type 0 where
    pub text : left k ≡ disk k
    pub same : now ≡ at k

  new_behind : (n k : ℕ) (ns : List ℕ) → Contains ns k → Contains (n ∷ ns) k
  new_behind n k ns has = (suc has.0, omega (arith, has.1), has.2)

  pub each_page : (ns texts : List ℕ) (disk : ℕ → List ℕ) → AreTexts v (HasText at) ns texts → (k : ℕ) → IsOld disk (overlaid v ns texts disk) (settled_at ns at k) k ⊎ IsNew ns (overlaid v ns texts disk) (settled_at ns at k) k
  each_page [] texts disk are k = inl (record { text = refl; same = refl })
  each_page (n ∷ ns) texts disk are k = elim (cases_eq n k) [
    | inl is ↦ inr (record {
      among = (0, omega arith, is);
      text = subst (HasText at k) (sym (laid_here n k ns texts disk is)) (subst (λ (i : ℕ). HasText at i (take (page_bytes v) texts)) is are.0);
      clean = settled_first n k ns is;
    })
    | inr other ↦ elim (each_page ns (drop (page_bytes v) texts) disk are.1 k) [
      | inl old ↦ inl (record { text = laid_behind n k ns texts disk other ∙ old.text; same = settled_behind n k ns other ∙ old.same })
      | inr new ↦ inr (record {
        among = new_behind n k ns new.among;
        text = subst (HasText at k) (sym (laid_behind n k ns texts disk other)) new.text;
        clean = settled_behind n k ns other ∙ new.clean;
      })
    ]
  ]

  both : (slot : Option Frame) (P Q : Frame → Type 0) → IsSomeAnd slot P → IsSomeAnd slot Q → IsSomeAnd slot (λ f. P f × Q f)
  both None P Q p q = absurd p
  both (Some f) P Q p q = (p, q)

  -- what is left where the pages of a batch are as their frames have them
  pub may_be_left : (durable : ℕ) (ns texts : List ℕ) (disk : ℕ → List ℕ) → AreTexts v (HasText at) ns texts → AreUpTo at durable ns → MayBeLeft at durable disk (overlaid v ns texts disk)
  may_be_left durable ns texts disk are up_to k = elim (each_page ns texts disk are k) [
    | inl old ↦ inl old.text
    | inr new ↦ inr (both (at k) (λ f. f.page.number ≤ durable) (λ f. IsTextOf f (overlaid v ns texts disk k)) (All-contains (λ i. IsSomeAnd (at i) (λ f. f.page.number ≤ durable)) ns k up_to new.among) new.text)
  ]

  module _ (now : ℕ → Option Frame) (ns texts : List ℕ) (disk : ℕ → List ℕ) (are : AreTexts v (HasText at) ns texts) (is : (k : ℕ) → now k ≡ settled_at ns at k) where
    abbrev left : ℕ → List ℕ
    left = overlaid v ns texts disk

    text_now : (slot : Option Frame) (text : List ℕ) → IsSomeAnd slot (λ f. IsTextOf f text) → (f : Frame) → option_map settled slot ≡ Some f → IsTextOf f text
    text_now None text has f there = absurd has
    text_now (Some e) text has f there =
        let same : settled e ≡ f = cc in
        subst (λ (x : Frame). IsTextOf x text) same has

    pub all_written : AreWritten at disk → AreWritten now left
    all_written written k f there clean = elim (each_page ns texts disk are k) [
      | inl old ↦ subst (IsTextOf f) (sym old.text) (written k f (sym old.same ∙ sym (is k) ∙ there) clean)
      | inr new ↦ text_now (at k) (left k) new.text f (sym new.clean ∙ sym (is k) ∙ there)
    ]

    same_page : (slot : Option Frame) (text other : List ℕ) → IsSomeAnd slot (λ f. IsTextOf f other) → (id : PageId) (number : ℕ) (images : List Image) → IsPage v slot text id number images ↔ IsPage v (option_map settled slot) other id number images
    same_page None text other has id number images = absurd has
    same_page (Some f) text other has id number images = ((λ p. p), (λ p. p))

    pub same_pages : SamePages v at disk now left
    same_pages k id number images = elim (each_page ns texts disk are k) [
      | inl old ↦
          let slot : now k ≡ at k = is k ∙ old.same in (
            (λ p. subst (λ (o : Option Frame). IsPage v o (left k) id number images) (sym slot) (subst (λ (text : List ℕ). IsPage v (at k) text id number images) (sym old.text) p)),
            (λ p. subst (λ (text : List ℕ). IsPage v (at k) text id number images) old.text (subst (λ (o : Option Frame). IsPage v o (left k) id number images) slot p)),
          )
      | inr new ↦ subst (λ (o : Option Frame). IsPage v (at k) (disk k) id number images ↔ IsPage v o (left k) id number images) (sym (is k ∙ new.clean)) (same_page (at k) (disk k) (left k) new.text id number images)
    ]

-- Frames of the pages of their numbers, as they come, go and change.
use Rattle.std.proofs.Common.{◌≡◌, ◌≢◌, ◌⊎◌, ◌<◌, ℕ, List, Option, Some, None, IsSomeAnd, option_map, refl, sym, ap, subst, ◌∙◌, inl, inr}
use Rattle.std.proofs.lemmas.Bool.{cases_eq}
use Rattle.shore_types.specs.declared.ids.PageId.{PageId}
use Rattle.shore_types.specs.declared.layout.Geometry.{Geometry}
use Rattle.shore_types.specs.Layout.{HasPage}
use Rattle.shore_types.specs.declared.versions.Version.{Version}
use Rattle.shore_dwrite.specs.Volumes.{page_count, page_number}
use Rattle.shore_pool.specs.declared.frame.Frame.{Frame}
use Rattle.shore_pool.specs.Changes.{settled, settled_at}
use Rattle.shore_pool.specs.Pages.{AreInOrder}
use Rattle.shore_dwrite.proofs.Numbers.{page_within}
use Rattle.shore_pool.proofs.Settling.{settled_either}

-- what a frame keeps of its page
abbrev page_name : Frame → PageId × Version
page_name f = (f.page.id, f.page.version)

-- each frame there is has the page that it had
pub order_kept : (at now : ℕ → Option Frame) (g : Geometry) → AreInOrder at g → ((k : ℕ) (f : Frame) → now k ≡ Some f → (e : Frame) × (at k ≡ Some e) × (page_name e ≡ page_name f)) → AreInOrder now g
order_kept at now g order had k f is =
    let e = had k f is in
    subst (λ (name : PageId × Version). HasPage g name.0 × (page_number g name.0 ≡ k) × (name.1 ≡ g.version)) e.2 (order k e.0 e.1)

-- a frame that changes keeps its page's id
pub had_before : (change : Frame → Frame) → ((f : Frame) → page_name (change f) ≡ page_name f) → (before now : Option Frame) → now ≡ option_map change before → (f : Frame) → now ≡ Some f
    → (e : Frame) × (before ≡ Some e) × (page_name e ≡ page_name f)
had_before change keeps None now is f there = let clash : None ≡ Some f = sym is ∙ there in absurd (cc)
had_before change keeps (Some e) now is f there =
    let both : Some (change e) ≡ Some f = sym is ∙ there in
    let same : change e ≡ f = cc in
    (e, refl, sym (keeps e) ∙ ap page_name same)

-- one frame changes
pub order_changed : (at now : ℕ → Option Frame) (g : Geometry) (n : ℕ) (change : Frame → Frame) → ((f : Frame) → page_name (change f) ≡ page_name f) → AreInOrder at g → now n ≡ option_map change (at n) → ((k : ℕ) → k ≢ n → now k ≡ at k)
    → AreInOrder now g
order_changed at now g n change keeps order here others = order_kept at now g order (λ k f is. elim (cases_eq k n) [
  | inl same ↦ had_before change keeps (at k) (now k) (subst (λ (i : ℕ). now i ≡ option_map change (at i)) (sym same) here) f is
  | inr other ↦ (f, sym (others k other) ∙ is, refl)
])

-- a frame stays or goes
pub order_left : (at now : ℕ → Option Frame) (g : Geometry) → AreInOrder at g → ((k : ℕ) → (now k ≡ at k) ⊎ (now k ≡ None)) → AreInOrder now g
order_left at now g order each = order_kept at now g order (λ k f is. elim (each k) [
  | inl same ↦ (f, sym same ∙ is, refl)
  | inr gone ↦ let clash : None ≡ Some f = sym gone ∙ is in absurd (cc)
])

-- a frame comes
pub order_added : (at now : ℕ → Option Frame) (g : Geometry) (n : ℕ) (f : Frame) → AreInOrder at g → now n ≡ Some f → HasPage g f.page.id → page_number g f.page.id ≡ n → f.page.version ≡ g.version → ((k : ℕ) → k ≢ n → now k ≡ at k) → AreInOrder now g
order_added at now g n f order here there number version others k e is = elim (cases_eq k n) [
  | inl same ↦
      let both : Some f ≡ Some e = sym here ∙ ap now (sym same) ∙ is in
      let one : f ≡ e = cc in
      subst (λ (x : Frame). HasPage g x.page.id × (page_number g x.page.id ≡ k) × (x.page.version ≡ g.version)) one (there, number ∙ sym same, version)
  | inr other ↦ order k e (sym (others k other) ∙ is)
]

-- pages are written
pub order_settled : (at now : ℕ → Option Frame) (g : Geometry) (ns : List ℕ) → AreInOrder at g → ((k : ℕ) → now k ≡ settled_at ns at k) → AreInOrder now g
order_settled at now g ns order each = order_kept at now g order (λ k f is. elim (settled_either at ns k) [
  | inl same ↦ (f, sym (each k ∙ same) ∙ is, refl)
  | inr clean ↦ had_before settled (λ e. refl) (at k) (now k) (each k ∙ clean) f is
])

-- a page that has a frame is on the volume
pub order_within : (at : ℕ → Option Frame) (g : Geometry) → AreInOrder at g → (P : Frame → Type 0) (k : ℕ) → IsSomeAnd (at k) P → k < page_count g
order_within at g order P k has = each (at k) (order k) has
  where
    each : (slot : Option Frame) → ((f : Frame) → slot ≡ Some f → HasPage g f.page.id × (page_number g f.page.id ≡ k) × (f.page.version ≡ g.version)) → IsSomeAnd slot P → k < page_count g
    each None is there = absurd there
    each (Some f) is there = subst (λ (n : ℕ). n < page_count g) (is f refl).1 (page_within g.stores f.page.id.store f.page.id.page (is f refl).0).1

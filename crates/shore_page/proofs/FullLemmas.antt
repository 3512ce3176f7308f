-- Slots that are known to be full, as slots change.
use Rattle.std.proofs.Common.{◌≡◌, ◌≢◌, ℕ, ◌+◌, ◌-◌, ◌<◌, ◌≤◌, ◌⊎◌, min, inl, inr, List, [], ◌∷◌, ◌++◌, length, get_or, None, Some, refl, sym, ap, subst, ◌∙◌, arith}
use Rattle.std.proofs.Math.ListN.{set}
use Rattle.std.proofs.lemmas.Bool.{cases_lt}
use Rattle.std.proofs.lemmas.List.{get_or-append_right, get_or-set_other, get_or-set_same, get_or_append_left, length-append, length-set}
use Rattle.std.proofs.lemmas.Option.{none-some}
use Rattle.shore_types.specs.Images.{Image}
use Rattle.shore_types.specs.declared.versions.Version.{Version}
use Rattle.shore_page.specs.Layout.{AreFull}
use Rattle.shore_page.specs.Reading.{images_in, slot_image}
use Rattle.shore_page.specs.Text.{offset_at}
use Rattle.shore_page.proofs.LayoutLemmas.{get-images, length-images, offset_none, same_or_not}

is_there : (bytes : List ℕ) (image : Image) → image ≡ Some bytes → image ≢ None
is_there bytes image is none = none-some bytes (sym none ∙ is)

pub full_nothing : (images : List Image) → AreFull images 0
full_nothing images = record { there = omega arith; each = λ slot before. absurd (omega (arith, before)) }

-- slots behind the last
pub full_behind : (images more : List Image) (full : ℕ) → AreFull images full → AreFull (images ++ more) full
full_behind images more full h = record {
  there = omega (arith, h.there, length-append images more);
  each = λ slot before none. h.each slot before (sym (get_or_append_left images more None slot (omega (arith, h.there, before))) ∙ none);
}

-- a record in a slot that is there
pub full_put : (images : List Image) (full slot : ℕ) (bytes : List ℕ) → slot < length images → AreFull images full → AreFull (set images slot (Some bytes)) full
full_put images full slot bytes inside h = record {
  there = omega (arith, h.there, length-set images slot (Some bytes));
  each = λ k before. elim (same_or_not k slot) [
    | inl same ↦ is_there bytes _ (ap (λ (n : ℕ). get_or (set images slot (Some bytes)) n None) same ∙ get_or-set_same images slot (Some bytes) None inside)
    | inr other ↦ (λ none. h.each k before (sym (get_or-set_other images slot k (Some bytes) None other) ∙ none))
  ];
}

-- one more is full
one_more : (images : List Image) (full : ℕ) → full < length images → get_or images full None ≢ None → AreFull images full → AreFull images (full + 1)
one_more images full inside here h = record {
  there = omega (arith, inside);
  each = λ k before. elim (cases_lt k full) [
    | inl less ↦ h.each k less
    | inr more ↦ (let same : k ≡ full = omega (arith, more, before) in subst (λ (n : ℕ). get_or images n None ≢ None) (sym same) here)
  ];
}

pub full_more : (images : List Image) (full slot new : ℕ) (bytes : List ℕ) → slot < length images → AreFull images full → (new ≡ full) ⊎ ((full ≡ slot) × (new ≡ full + 1))
    → AreFull (set images slot (Some bytes)) new
full_more images full slot new bytes inside h is =
    let put = full_put images full slot bytes inside h in
    elim is [
      | inl same ↦ subst (AreFull (set images slot (Some bytes))) (sym same) put
      | inr more ↦ subst (AreFull (set images slot (Some bytes))) (sym more.1)
          (one_more (set images slot (Some bytes)) full (omega (arith, inside, more.0, length-set images slot (Some bytes)))
          (is_there bytes _ (ap (λ (n : ℕ). get_or (set images slot (Some bytes)) n None) more.0 ∙ get_or-set_same images slot (Some bytes) None inside)) put)
    ]

pub full_pushed : (images : List Image) (full slot new : ℕ) (bytes : List ℕ) → slot ≡ length images → AreFull images full → (new ≡ full) ⊎ ((full ≡ slot) × (new ≡ full + 1))
    → AreFull (images ++ Some bytes ∷ []) new
full_pushed images full slot new bytes last h is =
    let pushed = full_behind images (Some bytes ∷ []) full h in
    elim is [
      | inl same ↦ subst (AreFull (images ++ Some bytes ∷ [])) (sym same) pushed
      | inr more ↦ subst (AreFull (images ++ Some bytes ∷ [])) (sym more.1)
          (one_more (images ++ Some bytes ∷ []) full (omega (arith, more.0, last, length-append images (Some bytes ∷ [])))
          (is_there bytes _ (let at : full - length images ≡ 0 = omega (arith, more.0, last) in
          get_or-append_right images (Some bytes ∷ []) (length images) full None refl (omega (arith, more.0, last)) ∙ ap (λ (n : ℕ). get_or (Some bytes ∷ []) n None) at)) pushed)
    ]

-- a slot without its record
pub full_cleared : (images : List Image) (full slot : ℕ) → AreFull images full → AreFull (set images slot None) (min full slot)
full_cleared images full slot h = record {
  there = omega (arith, h.there, length-set images slot None);
  each = λ k before none. h.each k (omega (arith, before)) (sym (get_or-set_other images slot k None None (λ (same : k ≡ slot). omega (arith, before, same))) ∙ none);
}

-- slots that were looked at
pub full_seen : (v : Version) (bytes : List ℕ) (slots i : ℕ) → i ≤ slots → ((slot : ℕ) → slot < i → offset_at v bytes slot ≢ 0) → AreFull (images_in v bytes slots) i
full_seen v bytes slots i inside seen = record {
  there = omega (arith, inside, length-images v bytes slots);
  each = λ slot before none. seen slot before (offset_none v bytes slot (sym (get-images v bytes slots slot (omega (arith, before, inside))) ∙ none));
}

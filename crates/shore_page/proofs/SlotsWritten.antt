-- The slots of a page whose records are put one behind another so far.
use Rattle.std.proofs.Common.{◌≡◌, ◌≢◌, ℕ, ◌+◌, ◌*◌, ◌<◌, ◌≤◌, inl, inr, List, ◌∷◌, length, drop, Some, None, refl, sym, ap, subst, ◌∙◌, arith}
use Rattle.std.proofs.lemmas.List.{drop_more}
use Rattle.std.proofs.lemmas.List.Sums.{sum_by-cons}
use Rattle.std.proofs.lemmas.Bool.{cases_lt}
use Rattle.shore_types.specs.Images.{image_len, Image}
use Rattle.shore_types.specs.declared.versions.Version.{Version}
use Rattle.shore_types.specs.Versions.{page_bytes}
use Rattle.shore_page.specs.Text.{table_of, offset_at, length_at, HasRecord, HasSlot, Covers}
use Rattle.shore_page.specs.Reading.{slot_image, images_in}
use Rattle.shore_page.specs.Layout.{IsLaidOut, record_bytes}
use Rattle.shore_page.specs.Writing.{KeepsSlots}
use Rattle.shore_page.proofs.WritingLemmas.{between_same}
use Rattle.shore_page.proofs.LayoutLemmas.{images_same, get-images, length-images}
use Rattle.shore_page.proofs.SlotsRead.{entry_of_slot, image_of_slot}

-- the first slots are written, and the records of the others have room from an offset on
pub record Written (v : Version) (out images_from : List ℕ) (slots i offset : ℕ) : Type 0 where
  pub len : length out ≡ page_bytes v
  pub front : 24 ≤ offset
  pub rest : offset + record_bytes (drop i (images_in v images_from slots)) ≡ 24 + record_bytes (images_in v images_from slots)
  pub each : (j : ℕ) → j < i → HasSlot v out (table_of v slots) j (slot_image v images_from j)
  pub ends : (j : ℕ) → j < i → offset_at v out j + length_at v out j ≤ offset
  pub apart : (a b position : ℕ) → a < i → b < i → Covers v out a position → Covers v out b position → a ≡ b

pub written_none : (v : Version) (out images_from : List ℕ) (slots : ℕ) → length out ≡ page_bytes v → Written v out images_from slots 0 24
written_none v out images_from slots len = record {
  len = len;
  front = omega arith;
  rest = refl;
  each = λ j none. absurd (omega arith);
  ends = λ j none. absurd (omega arith);
  apart = λ a b position none. absurd (omega arith);
}

slot_kept : (v : Version) (old new : List ℕ) (slots slot offset j : ℕ) (image : Image) → length old ≡ page_bytes v → offset ≤ page_bytes v → KeepsSlots v old new slots slot offset → j < slots → j ≢ slot → offset_at v old j + length_at v old j ≤ offset
    → HasSlot v old (table_of v slots) j image → HasSlot v new (table_of v slots) j image
slot_kept v old new slots slot offset j None whole within kept inside other ends here =
    let entry = kept.entries j inside other in (entry.0 ∙ here.0, entry.1 ∙ here.1)
slot_kept v old new slots slot offset j (Some image) whole within kept inside other ends here =
    let entry = kept.entries j inside other in
    let stands : HasRecord v new (table_of v slots) (offset_at v old j) image = record {
      behind_header = here.0.behind_header;
      before_table = here.0.before_table;
      most = here.0.most;
      here = between_same old new (offset_at v old j) (offset_at v old j + length image) kept.len (omega (arith, here.1)) (λ position low high. kept.below position (omega (arith, here.1))) ∙ here.0.here;
    } in
    (subst (λ (o : ℕ). HasRecord v new (table_of v slots) o image) (sym entry.0) stands, entry.1 ∙ here.1)

covers_kept : (v : Version) (old new : List ℕ) (slots slot offset j position : ℕ) → KeepsSlots v old new slots slot offset → j < slots → j ≢ slot → Covers v new j position → Covers v old j position
covers_kept v old new slots slot offset j position kept inside other covers =
    let entry = kept.entries j inside other in
    (omega (arith, entry.0, covers.0), omega (arith, entry.0, entry.1, covers.1))

-- the record of the slot that is next, and those of the others behind it
pub rest_more : (v : Version) (images_from : List ℕ) (slots i : ℕ) → i < slots
    → record_bytes (drop i (images_in v images_from slots)) ≡ image_len (slot_image v images_from i) + record_bytes (drop (i + 1) (images_in v images_from slots))
rest_more v images_from slots i inside =
    let all = images_in v images_from slots in
    ap record_bytes (drop_more all i None (omega (arith, length-images v images_from slots)))
    ∙ ap (λ (image : Image). record_bytes (image ∷ drop (i + 1) all)) (get-images v images_from slots i inside)
    ∙ sum_by-cons image_len (slot_image v images_from i) (drop (i + 1) all)

-- one slot more
pub written_more : (v : Version) (old new images_from : List ℕ) (slots i offset next : ℕ) → Written v old images_from slots i offset → i < slots → offset ≤ page_bytes v
    → KeepsSlots v old new slots i offset → next ≡ offset + image_len (slot_image v images_from i) → HasSlot v new (table_of v slots) i (slot_image v images_from i)
    → ((position : ℕ) → Covers v new i position → offset ≤ position) → offset_at v new i + length_at v new i ≤ next → Written v new images_from slots (i + 1) next
written_more v old new images_from slots i offset next so_far inside within kept end slot begins ends = record {
  len = kept.len ∙ so_far.len;
  front = omega (arith, so_far.front);
  rest = omega (arith, so_far.rest, rest_more v images_from slots i inside);
  each = λ j before. elim (cases_lt j i) [
    | inl earlier ↦ slot_kept v old new slots i offset j (slot_image v images_from j) so_far.len within kept (omega arith) (λ (e : j ≡ i). omega arith) (so_far.ends j earlier) (so_far.each j earlier)
    | inr late ↦ (let same : j ≡ i = omega arith in subst (λ (k : ℕ). HasSlot v new (table_of v slots) k (slot_image v images_from k)) (sym same) slot)
  ];
  ends = λ j before. elim (cases_lt j i) [
    | inl earlier ↦ (let entry = kept.entries j (omega arith) (λ (e : j ≡ i). omega arith) in omega (arith, entry.0, entry.1, so_far.ends j earlier))
    | inr late ↦ (let same : j ≡ i = omega arith in subst (λ (k : ℕ). offset_at v new k + length_at v new k ≤ next) (sym same) ends)
  ];
  apart = λ a b position before_a before_b covers_a covers_b. elim (cases_lt a i) [
    | inl a_earlier ↦ elim (cases_lt b i) [
      | inl b_earlier ↦ so_far.apart a b position a_earlier b_earlier (covers_old a position a_earlier covers_a) (covers_old b position b_earlier covers_b)
      | inr b_late ↦ absurd (clash a b position a_earlier (omega arith) covers_a covers_b)
    ]
    | inr a_late ↦ elim (cases_lt b i) [
      | inl b_earlier ↦ absurd (clash b a position b_earlier (omega arith) covers_b covers_a)
      | inr b_late ↦ (let same : a ≡ b = omega arith in same)
    ]
  ];
}
  where
    covers_old : (j position : ℕ) → j < i → Covers v new j position → Covers v old j position
    covers_old j position earlier covers = covers_kept v old new slots i offset j position kept (omega arith) (λ (e : j ≡ i). omega arith) covers

    -- a byte of an earlier record and of this one
    clash : (a b position : ℕ) → a < i → b ≡ i → Covers v new a position → Covers v new b position → ⊥
    clash a b position earlier same covers_a covers_b =
        let old_a = covers_old a position earlier covers_a in
        let behind : offset ≤ position = begins position (subst (λ (k : ℕ). Covers v new k position) same covers_b) in
        omega (arith, old_a.1, so_far.ends a earlier)

-- all slots
pub written_laid_out : (v : Version) (out images_from : List ℕ) (slots offset : ℕ) → Written v out images_from slots slots offset → 24 + 4 * slots ≤ page_bytes v → offset ≤ table_of v slots → IsLaidOut v out slots offset
written_laid_out v out images_from slots offset written few back = record {
  whole = written.len;
  few = few;
  table = record {
    each = λ slot before. entry_of_slot v out (table_of v slots) slot (slot_image v images_from slot) (written.each slot before);
    apart = written.apart;
  };
  front = written.front;
  back = back;
  ends = written.ends;
}

pub written_images : (v : Version) (out images_from : List ℕ) (slots offset : ℕ) → Written v out images_from slots slots offset → images_in v out slots ≡ images_in v images_from slots
written_images v out images_from slots offset written =
    images_same v images_from out slots (λ slot before. image_of_slot v out (table_of v slots) slot (slot_image v images_from slot) (written.each slot before))

-- Slots whose records lie one behind another, as far as they were read.
use Rattle.std.proofs.Common.{◌≡◌, ℕ, ◌+◌, ◌*◌, ◌<◌, ◌≤◌, inl, inr, List, length, sym, subst, arith}
use Rattle.std.proofs.lemmas.List.FromFn.{sum_by-map-range_with_len_more}
use Rattle.std.proofs.lemmas.Bool.{cases_lt}
use Rattle.shore_types.specs.Images.{image_len}
use Rattle.shore_types.specs.declared.versions.Version.{Version}
use Rattle.shore_types.specs.Versions.{page_bytes}
use Rattle.shore_page.specs.Text.{table_of, offset_at, length_at, Covers}
use Rattle.shore_page.specs.Reading.{Follows, IsEntry, slot_image, images_in}
use Rattle.shore_page.specs.Layout.{IsLaidOut, record_bytes}
use Rattle.shore_page.proofs.SlotsRead.{slot_bytes}

-- The first slots are in order, and their records lie one behind another, up to an end.
pub record Rising (v : Version) (bytes : List ℕ) (slots i end : ℕ) : Type 0 where
  pub each : (j : ℕ) → j < i → IsEntry v (table_of v slots) (offset_at v bytes j) (length_at v bytes j)
  pub apart : (a b position : ℕ) → a < i → b < i → Covers v bytes a position → Covers v bytes b position → a ≡ b
  pub room : 24 + record_bytes (images_in v bytes i) ≤ end
  pub back : end ≤ table_of v slots
  pub ends : (j : ℕ) → j < i → offset_at v bytes j + length_at v bytes j ≤ end

-- one slot more
pub rising_more : (v : Version) (bytes : List ℕ) (slots i end new : ℕ) → length bytes ≡ page_bytes v → 24 + 4 * slots ≤ page_bytes v → Rising v bytes slots i end
    → Follows v (table_of v slots) end (offset_at v bytes i) (length_at v bytes i) new → Rising v bytes slots (i + 1) new
rising_more v bytes slots i end new whole few so_far follows = record {
  each = λ j before. elim (cases_lt j i) [
    | inl earlier ↦ so_far.each j earlier
    | inr late ↦ (let same : j ≡ i = omega arith in rw same follows.entry)
  ];
  apart = λ a b position before_a before_b covers_a covers_b. elim (cases_lt a i) [
    | inl a_earlier ↦ elim (cases_lt b i) [
      | inl b_earlier ↦ so_far.apart a b position a_earlier b_earlier covers_a covers_b
      | inr b_late ↦ absurd (clash a b position a_earlier (omega arith) covers_a covers_b)
    ]
    | inr a_late ↦ elim (cases_lt b i) [
      | inl b_earlier ↦ absurd (clash b a position b_earlier (omega arith) covers_b covers_a)
      | inr b_late ↦ (let same : a ≡ b = omega arith in same)
    ]
  ];
  room = omega (arith, so_far.room, follows.room, more, slot_bytes v bytes (table_of v slots) i whole (omega arith) follows.entry);
  back = follows.back so_far.back;
  ends = λ j before. elim (cases_lt j i) [
    | inl earlier ↦ omega (arith, so_far.ends j earlier, follows.room)
    | inr late ↦ (let same : j ≡ i = omega arith in subst (λ (k : ℕ). offset_at v bytes k + length_at v bytes k ≤ new) (sym same) follows.ends)
  ];
}
  where
    more : record_bytes (images_in v bytes (i + 1)) ≡ record_bytes (images_in v bytes i) + image_len (slot_image v bytes i)
    more = sum_by-map-range_with_len_more image_len (slot_image v bytes) 0 i i (omega arith)

    -- a byte of an earlier record and of this one
    clash : (a b position : ℕ) → a < i → b ≡ i → Covers v bytes a position → Covers v bytes b position → ⊥
    clash a b position earlier same covers_a covers_b =
        let here = subst (λ (k : ℕ). Covers v bytes k position) same covers_b in
        omega (arith, follows.behind position here.0 here.1, so_far.ends a earlier, covers_a.1)

pub rising_all : (v : Version) (bytes : List ℕ) (slots i end : ℕ) → Rising v bytes slots i end → slots ≤ i → i ≤ slots → length bytes ≡ page_bytes v → 24 + 4 * slots ≤ page_bytes v → IsLaidOut v bytes slots end
rising_all v bytes slots i end so_far reached inside whole few = record {
  whole = whole;
  few = few;
  table = record {
    each = λ slot before. so_far.each slot (omega arith);
    apart = λ a b position before_a before_b. so_far.apart a b position (omega arith) (omega arith);
  };
  front = omega (arith, so_far.room);
  back = so_far.back;
  ends = λ slot before. so_far.ends slot (omega arith);
}

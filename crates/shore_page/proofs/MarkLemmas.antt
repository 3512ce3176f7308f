-- Places that are marked at once.
use Rattle.std.proofs.Common.{◌≡◌, ℕ, suc, ◌+◌, ◌-◌, ◌*◌, ◌<◌, ◌≤◌, Bool, true, false, cond, List, [], ◌∷◌, ◌++◌, length, get_or, take, drop, replicate, refl, sym, ap, ◌∙◌, arith}
use Rattle.std.proofs.lemmas.List.{get_or-take, get_or-drop, get_or-replicate, take-append-drop, length-append, length-take-le, length-drop, length-replicate, get_or_append_left, get_or-append_right}
use Rattle.std.proofs.lemmas.List.Sums.{sum_by-append, sum_by-cons}
use Rattle.std.proofs.lemmas.List.Folds.{sum_by-replicate}
use Rattle.std.proofs.lemmas.List.{ext_get_or, length-set, get_or-set_same, get_or-set_other}
use Rattle.std.proofs.lemmas.List.FromFn.{length-map-range_with_len, get_or-map-range_with_len}
use Rattle.std.proofs.lemmas.Bool.{cases_lt, eq-eqb, ne_eqb}
use Rattle.std.proofs.lemmas.Nat.Bits.{bit_at-zero, bit_at_and, bit_at_or, bit_at-lt, bit_at-trailing_zeros, bit_at_mask_inside, bit_at_mask_below, bit_at_mask_above}
use Rattle.std.proofs.Math.ListN.{set, get_or-eq_default}
use Rattle.std.specs.Int.{bit_at, trailing_zeros}
use Rattle.std.specs.Prelude.{◌==◌, bit_and, bit_or}
use Rattle.std.proofs.Common.{◌≢◌, ◌/◌, ◌%◌, ◌^◌, max, min, inl, inr, w64}
use Rattle.std.specs.Bool.{beq}
use Rattle.shore_page.proofs.LayoutLemmas.{same_or_not}
use borrow.Rule.Slice.PartMut.{put_mid}
use Rattle.shore_page.specs.Reading.{marked, mark_at, marks_of, Marks, MarksBits, IsTaken}

length-part : (marks : List Bool) (from to : ℕ) → from ≤ to → to ≤ length marks → length (take (to - from) (drop from marks)) ≡ to - from
length-part marks from to order within = length-take-le (to - from) (drop from marks) (omega (arith, length-drop from marks))

-- what is in a part, by its place in the whole
in_part : (marks : List Bool) (from to position : ℕ) → from ≤ position → position < to → get_or (take (to - from) (drop from marks)) (position - from) false ≡ get_or marks position false
in_part marks from to position low high =
    let here : from + (position - from) ≡ position = omega arith in
    get_or-take (to - from) (drop from marks) (position - from) false (omega arith) ∙ get_or-drop from marks (position - from) false ∙ ap (λ (k : ℕ). get_or marks k false) here

marked-append : (xs ys : List Bool) → marked (xs ++ ys) ≡ marked xs + marked ys
marked-append xs ys = sum_by-append (λ (m : Bool). cond m 1 0) xs ys

marked-all : (n : ℕ) → marked (replicate n true) ≡ n
marked-all n = sum_by-replicate (λ (m : Bool). cond m 1 0) n true ∙ once n
  where
    once : (n : ℕ) → n * 1 ≡ n
    once n = omega arith

marked-none : (xs : List Bool) → ((k : ℕ) → k < length xs → get_or xs k false ≡ false) → marked xs ≡ 0
marked-none [] free = refl
marked-none (x ∷ xs) free =
    let later : marked xs ≡ 0 = marked-none xs (λ k inside. free (suc k) (omega arith)) in
    let none : marked (x ∷ xs) ≡ 0 + marked xs = sum_by-cons (λ (m : Bool). cond m 1 0) x xs ∙ ap (λ (m : Bool). cond m 1 0 + marked xs) (free 0 (omega arith)) in
    omega arith

not_true : (m : Bool) → beq m true ≡ false → m ≡ false
not_true true test = test
not_true false test = refl

-- a part that has no mark, marked
pub marks_part : (old part : List Bool) (from to : ℕ) → from ≤ to → to ≤ length old → ((k : ℕ) → k < length (take (to - from) (drop from old)) → beq (get_or (take (to - from) (drop from old)) k false) true ≡ false)
    → part ≡ replicate (length (take (to - from) (drop from old))) true → Marks old (put_mid from (to - from) old part) from to
marks_part old part from to order within tests filled =
    let n = to - from in
    let free = λ (k : ℕ) (h : k < n). not_true (get_or (take n (drop from old)) k false) (tests k (omega (arith, length-part old from to order within))) in
    let is : part ≡ replicate n true = filled ∙ ap (λ (k : ℕ). replicate k true) (length-part old from to order within) in
    let len : length part ≡ n = ap (λ (l : List Bool). length l) is ∙ length-replicate n true in
    let front : length (take from old) ≡ from = length-take-le from old (omega arith) in
    let mid : length (take n (drop from old)) ≡ n = length-part old from to order within in
    record {
      len = omega (arith, length-append (take from old) (part ++ drop n (drop from old)), length-append part (drop n (drop from old)), length-drop n (drop from old), length-drop from old);
      inside = λ position low high. (
        sym (in_part old from to position low high) ∙ free (position - from) (omega arith),
        get_or-append_right (take from old) (part ++ drop n (drop from old)) from position false front low
            ∙ get_or_append_left part (drop n (drop from old)) false (position - from) (omega arith)
            ∙ ap (λ (l : List Bool). get_or l (position - from) false) is ∙ get_or-replicate n (position - from) true false (omega arith),
      );
      below = λ position low. get_or_append_left (take from old) (part ++ drop n (drop from old)) false position (omega arith) ∙ get_or-take from old position false low;
      above = λ position high.
          let here : from + (n + (position - from - n)) ≡ position = omega arith in
          get_or-append_right (take from old) (part ++ drop n (drop from old)) from position false front (omega arith)
          ∙ get_or-append_right part (drop n (drop from old)) n (position - from) false len (omega arith)
          ∙ get_or-drop n (drop from old) (position - from - n) false ∙ get_or-drop from old (n + (position - from - n)) false ∙ ap (λ (k : ℕ). get_or old k false) here;
      count =
          let parts : marked old ≡ marked (take from old) + (marked (take n (drop from old)) + marked (drop n (drop from old))) =
          ap marked (sym (take-append-drop from old)) ∙ marked-append (take from old) (drop from old)
          ∙ ap (λ (k : ℕ). marked (take from old) + k) (ap marked (sym (take-append-drop n (drop from old))) ∙ marked-append (take n (drop from old)) (drop n (drop from old))) in
          let none : marked (take n (drop from old)) ≡ 0 = marked-none (take n (drop from old)) (λ k inside. free k (omega arith)) in
          let all : marked part ≡ n = ap marked is ∙ marked-all n in
          let new = marked-append (take from old) (part ++ drop n (drop from old)) in
          let rest = marked-append part (drop n (drop from old)) in
          omega arith;
    }

-- ---- marks as bits of words

length-marks_of : (words : List ℕ) (count : ℕ) → length (marks_of words count) ≡ count
length-marks_of words count = length-map-range_with_len (λ (position : ℕ). mark_at words position == 1) 0 count

get-marks_of : (words : List ℕ) (count position : ℕ) → position < count → get_or (marks_of words count) position false ≡ (mark_at words position == 1)
get-marks_of words count position inside = get_or-map-range_with_len (λ (position : ℕ). mark_at words position == 1) 0 count position position false inside (omega arith)

set_bit : (n : ℕ) → n ≡ 1 → (n == 1) ≡ true
set_bit n is = eq-eqb n 1 is

clear_bit : (n : ℕ) → n ≡ 0 → (n == 1) ≡ false
clear_bit n is = ne_eqb n 1 (λ (e : n ≡ 1). omega arith)

-- marks by their places
pub marks_pointwise : (old new : List Bool) (from to : ℕ) → length new ≡ length old → from ≤ to → to ≤ length old
    → ((k : ℕ) → from ≤ k → k < to → (get_or old k false ≡ false) × (get_or new k false ≡ true)) → ((k : ℕ) → k < from → get_or new k false ≡ get_or old k false)
    → ((k : ℕ) → to ≤ k → get_or new k false ≡ get_or old k false) → Marks old new from to
marks_pointwise old new from to len order within inside below above = record {
  len = len;
  inside = inside;
  below = below;
  above = above;
  count = ap marked same ∙ made.count;
}
  where
    n : ℕ
    n = to - from

    filled : List Bool
    filled = replicate (length (take (to - from) (drop from old))) true

    made : Marks old (put_mid from (to - from) old filled) from to
    made = marks_part old filled from to order within
        (λ k h. let place : from + k < to = omega (arith, length-part old from to order within) in
        ap (λ (m : Bool). beq m true) (get_or-take (to - from) (drop from old) k false (omega arith) ∙ get_or-drop from old k false ∙ (inside (from + k) (omega arith) place).0)) refl

    same : new ≡ put_mid from (to - from) old filled
    same = ext_get_or false new (put_mid from (to - from) old filled) (len ∙ sym made.len)
        (λ k h. elim (cases_lt k from) [
          | inl low ↦ below k low ∙ sym (made.below k low)
          | inr from_on ↦ elim (cases_lt k to) [
            | inl in_it ↦ (inside k from_on in_it).1 ∙ sym (made.inside k from_on in_it).1
            | inr high ↦ above k high ∙ sym (made.above k high)
          ]
        ])

pub marks_bits : (old new : List ℕ) (from to count : ℕ) → from ≤ to → to ≤ count → MarksBits old new from to → Marks (marks_of old count) (marks_of new count) from to
marks_bits old new from to count order within bits =
    let len_old = length-marks_of old count in
    let len_new = length-marks_of new count in
    marks_pointwise (marks_of old count) (marks_of new count) from to (omega arith) order (omega arith)
    (λ k low high. (
      get-marks_of old count k (omega arith) ∙ clear_bit (mark_at old k) (bits.inside k low high).0,
      get-marks_of new count k (omega arith) ∙ set_bit (mark_at new k) (bits.inside k low high).1,
    ))
    (λ k low. get-marks_of new count k (omega arith) ∙ ap (λ (n : ℕ). n == 1) (bits.below k low) ∙ sym (get-marks_of old count k (omega arith)))
    (λ k high. elim (cases_lt k count) [
      | inl inside ↦ get-marks_of new count k inside ∙ ap (λ (n : ℕ). n == 1) (bits.above k high) ∙ sym (get-marks_of old count k inside)
      | inr past ↦ get_or-eq_default (marks_of new count) false (omega arith) ∙ sym (get_or-eq_default (marks_of old count) false (omega arith))
    ])

pub no_marks : (words : List ℕ) (from count : ℕ) → Marks (marks_of words count) (marks_of words count) from from
no_marks words from count = record {
  len = refl;
  inside = λ k low high. absurd (omega arith);
  below = λ k low. refl;
  above = λ k high. refl;
  count = omega arith;
}

pub bit_taken : (words : List ℕ) (from to count : ℕ) → to ≤ count → (position : ℕ) × (from ≤ position) × (position < to) × (mark_at words position ≡ 1) → IsTaken (marks_of words count) from to
bit_taken words from to count within taken = (taken.0, taken.1, taken.2, get-marks_of words count taken.0 (omega (arith, taken.2)) ∙ set_bit (mark_at words taken.0) taken.3)

-- words without a mark
pub marks_clear : (words : List ℕ) (count : ℕ) → ((k : ℕ) → get_or words k 0 ≡ 0) → marks_of words count ≡ replicate count false
marks_clear words count zero =
    ext_get_or false (marks_of words count) (replicate count false) (length-marks_of words count ∙ sym (length-replicate count false))
    (λ k h. let inside : k < count = omega (arith, length-marks_of words count) in
    get-marks_of words count k inside ∙ clear_bit (mark_at words k) (ap (λ (n : ℕ). bit_at n (k % 64)) (zero (k / 64)) ∙ bit_at-zero (k % 64)) ∙ sym (get_or-replicate count k false false inside))

-- ---- the bits of one word

-- a bit that is in a word and in a mask
both_bits : (a b : ℕ) → a < 2 → b < 2 → min a b ≡ 1 → (a ≡ 1) × (b ≡ 1)
both_bits a b small_a small_b is = (omega arith, omega arith)

pub word_free : (w from to : ℕ) → bit_and w (2 ^ to - 2 ^ from) ≡ 0 → (bit : ℕ) → from ≤ bit → bit < to → bit_at w bit ≡ 0
word_free w from to none bit low high =
    let both : min (bit_at w bit) (bit_at (2 ^ to - 2 ^ from) bit) ≡ 0 = sym (bit_at_and w (2 ^ to - 2 ^ from) bit) ∙ ap (λ (n : ℕ). bit_at n bit) none ∙ bit_at-zero bit in
    let one = bit_at_mask_inside from to bit low high in
    omega arith

pub word_taken : (w from to : ℕ) → 0 < bit_and w (2 ^ to - 2 ^ from) → bit_and w (2 ^ to - 2 ^ from) < 2 ^ 64 → (bit : ℕ) × (from ≤ bit) × (bit < to) × (bit_at w bit ≡ 1)
word_taken w from to some small =
    let n = bit_and w (2 ^ to - 2 ^ from) in
    let lowest = bit_at-trailing_zeros w64 n some small in
    let bit = trailing_zeros w64 n in
    let both : min (bit_at w bit) (bit_at (2 ^ to - 2 ^ from) bit) ≡ 1 = sym (bit_at_and w (2 ^ to - 2 ^ from) bit) ∙ lowest.1 in
    let ones = both_bits (bit_at w bit) (bit_at (2 ^ to - 2 ^ from) bit) (bit_at-lt w bit) (bit_at-lt (2 ^ to - 2 ^ from) bit) both in
    elim (cases_lt bit from) [
      | inl low ↦ absurd (zero_one (bit_at (2 ^ to - 2 ^ from) bit) (bit_at_mask_below from to bit low) ones.1)
      | inr from_on ↦ elim (cases_lt bit to) [
        | inl inside ↦ (bit, from_on, inside, ones.0)
        | inr high ↦ absurd (zero_one (bit_at (2 ^ to - 2 ^ from) bit) (bit_at_mask_above from to bit high) ones.1)
      ]
    ]
  where
    zero_one : (n : ℕ) → n ≡ 0 → n ≡ 1 → ⊥
    zero_one n zero one = omega arith

-- bits of one word marked, as bits of all words
pub word_marks : (old new : List ℕ) (word low high : ℕ) → word < length old → low < high → high ≤ 64 → new ≡ set old word (bit_or (get_or old word 0) (2 ^ high - 2 ^ low))
    → ((bit : ℕ) → low ≤ bit → bit < high → bit_at (get_or old word 0) bit ≡ 0) → MarksBits old new (64 * word + low) (64 * word + high)
word_marks old new word low high there order within is free = record {
  len = ap (λ (l : List ℕ). length l) is ∙ length-set old word (bit_or (get_or old word 0) (2 ^ high - 2 ^ low));
  inside = λ position from_on before.
      let here : position / 64 ≡ word = omega arith in
      let bit : position % 64 ≡ position - 64 * word = omega arith in (
        ap (λ (k : ℕ). bit_at (get_or old k 0) (position % 64)) here ∙ free (position % 64) (omega arith) (omega arith),
        in_word position here ∙ or_one (bit_at (get_or old word 0) (position % 64)) (bit_at (2 ^ high - 2 ^ low) (position % 64)) (bit_at-lt (get_or old word 0) (position % 64)) (bit_at_mask_inside low high (position % 64) (omega arith) (omega arith)),
      );
  below = λ position before. elim (same_or_not (position / 64) word) [
    | inl here ↦ (let bit : position % 64 < low = omega arith in kept_in position here (bit_at_mask_below low high (position % 64) bit))
    | inr other ↦ other_word position other
  ];
  above = λ position behind. elim (same_or_not (position / 64) word) [
    | inl here ↦ (let bit : high ≤ position % 64 = omega arith in kept_in position here (bit_at_mask_above low high (position % 64) bit))
    | inr other ↦ other_word position other
  ];
}
  where
    value : ℕ
    value = bit_or (get_or old word 0) (2 ^ high - 2 ^ low)

    at_word : get_or new word 0 ≡ bit_or (get_or old word 0) (2 ^ high - 2 ^ low)
    at_word = ap (λ (l : List ℕ). get_or l word 0) is ∙ get_or-set_same old word (bit_or (get_or old word 0) (2 ^ high - 2 ^ low)) 0 there

    in_word : (position : ℕ) → position / 64 ≡ word → mark_at new position ≡ max (bit_at (get_or old word 0) (position % 64)) (bit_at (2 ^ high - 2 ^ low) (position % 64))
    in_word position here = ap (λ (k : ℕ). bit_at (get_or new k 0) (position % 64)) here ∙ ap (λ (n : ℕ). bit_at n (position % 64)) at_word ∙ bit_at_or (get_or old word 0) (2 ^ high - 2 ^ low) (position % 64)

    or_one : (a b : ℕ) → a < 2 → b ≡ 1 → max a b ≡ 1
    or_one a b small one = omega arith

    or_none : (a b : ℕ) → b ≡ 0 → max a b ≡ a
    or_none a b none = omega arith

    kept_in : (position : ℕ) → position / 64 ≡ word → bit_at (2 ^ high - 2 ^ low) (position % 64) ≡ 0 → mark_at new position ≡ mark_at old position
    kept_in position here none = in_word position here ∙ or_none (bit_at (get_or old word 0) (position % 64)) (bit_at (2 ^ high - 2 ^ low) (position % 64)) none ∙ sym (ap (λ (k : ℕ). bit_at (get_or old k 0) (position % 64)) here)

    other_word : (position : ℕ) → position / 64 ≢ word → mark_at new position ≡ mark_at old position
    other_word position other = ap (λ (l : List ℕ). bit_at (get_or l (position / 64) 0) (position % 64)) is
        ∙ ap (λ (n : ℕ). bit_at n (position % 64)) (get_or-set_other old word (position / 64) (bit_or (get_or old word 0) (2 ^ high - 2 ^ low)) 0 other)

-- one part after another
pub marks_then : (a b c : List ℕ) (from mid to : ℕ) → MarksBits a b from mid → MarksBits b c mid to → from ≤ mid → mid ≤ to → MarksBits a c from to
marks_then a b c from mid to first second low high = record {
  len = second.len ∙ first.len;
  inside = λ position from_on before. elim (cases_lt position mid) [
    | inl early ↦ ((first.inside position from_on early).0, second.below position early ∙ (first.inside position from_on early).1)
    | inr late ↦ (sym (first.above position late) ∙ (second.inside position late before).0, (second.inside position late before).1)
  ];
  below = λ position before. second.below position (omega arith) ∙ first.below position before;
  above = λ position behind. second.above position behind ∙ first.above position (omega arith);
}

pub marks_start : (words : List ℕ) (from : ℕ) → MarksBits words words from from
marks_start words from = record {
  len = refl;
  inside = λ position low high. absurd (omega arith);
  below = λ position low. refl;
  above = λ position high. refl;
}

-- Pairs of digits in lower case, and the bytes that they spell.
use Rattle.std.proofs.Common.{◌≡◌, ◌≢◌, inl, inr, ℕ, zero, suc, ◌+◌, ◌*◌, ◌/◌, ◌%◌, ◌<◌, Bool, true, false, ◌&&◌, ◌||◌, eqb, nat_lt, List, [], ◌∷◌, slice_index, refl, sym, ap, ◌∙◌, subst, Option, None, Some, Result, Ok, Err, arith}
use Rattle.std.specs.Prelude.{if◌then◌else◌}
use Rattle.std.specs.List.{list_any}
use Rattle.std.specs.Result.{result_unwrap_or}
use Rattle.std.proofs.lemmas.Bool.{and_parts, cases_lt, eqb-true}
use Rattle.hex.specs.Hex.{IsBytes, decode_of, decode_pairs, digit_or_error, encode_lower, encode_with, hex_digit_value, lower_digits, pair_value, value_at, ◌>>=◌}
use Rattle.hex.specs.declared.error.FromHexError.{FromHexError}
use Rattle.hex.proofs.HexLemmas.{decode_of-encode_lower, decode_of-even, decode_of-ok}
use Rattle.shore_script.specs.Bytes.{IsPairs, is_upper}

-- the digit of a value below 16
abbrev digit_of : ℕ → ℕ
digit_of d = if nat_lt d 10 then 48 + d else 87 + d

abbrev all_digits : ℕ → Bool
all_digits zero = true
all_digits (suc n) = eqb (slice_index lower_digits n) (digit_of n) && all_digits n

all_digits-at : (n d : ℕ) → all_digits n ≡ true → d < n → slice_index lower_digits d ≡ digit_of d
all_digits-at zero d h lt = absurd (omega arith)
all_digits-at (suc n) d h lt =
    let parts = and_parts (eqb (slice_index lower_digits n) (digit_of n)) (all_digits n) h in
    elim (cases_lt d n) [
      | inl below ↦ all_digits-at n d parts.1 below
      | inr top ↦
          let e : d ≡ n = omega arith in
          let P : ℕ → Type 0 = λ k. slice_index lower_digits k ≡ digit_of k in
          subst P (sym e) (eqb-true (slice_index lower_digits n) (digit_of n) parts.0)
    ]

lower_digit : (d : ℕ) → d < 16 → slice_index lower_digits d ≡ digit_of d
lower_digit d lt = all_digits-at 16 d refl lt

-- no digit passes a test that refuses all sixteen
pub none_of_digits : (p : ℕ → Bool) → ((d : ℕ) → d < 16 → p (digit_of d) ≡ false) → (bytes : List ℕ) → IsBytes bytes → list_any p (encode_lower bytes) ≡ false
unfolding encode_with
none_of_digits p refuses [] fits = refl
none_of_digits p refuses (b ∷ bytes) fits =
    let byte : b < 256 = fits 0 in
    let high : b / 16 < 16 = omega arith in
    let low : b % 16 < 16 = omega arith in
    let first : p (slice_index lower_digits (b / 16)) ≡ false = ap p (lower_digit (b / 16) high) ∙ refuses (b / 16) high in
    let second : p (slice_index lower_digits (b % 16)) ≡ false = ap p (lower_digit (b % 16) low) ∙ refuses (b % 16) low in
    rw (first, second) (none_of_digits p refuses bytes (λ i. fits (suc i)))

pub encoded-has_no_upper : (bytes : List ℕ) → IsBytes bytes → list_any is_upper (encode_lower bytes) ≡ false
encoded-has_no_upper = none_of_digits is_upper (λ d lt. grind (arith))

pub encoded-lacks : (c : ℕ) → c < 48 → (bytes : List ℕ) → IsBytes bytes → list_any (λ b. eqb b c) (encode_lower bytes) ≡ false
encoded-lacks c low = none_of_digits (λ b. eqb b c) (λ d lt. grind (arith))

-- one text spells one list of bytes
pub encoded_once : (a b : List ℕ) → IsBytes a → IsBytes b → encode_lower a ≡ encode_lower b → a ≡ b
encoded_once a b fits also e =
    let same : Ok a ≡ Ok b = sym (decode_of-encode_lower a fits) ∙ ap decode_of e ∙ decode_of-encode_lower b also in
    ap (λ (r : Result (List ℕ) FromHexError). result_unwrap_or r []) same

-- what an `Ok` after `>>=` shows
bind_ok : {A B : Type 0} (r : Result A FromHexError) (f : A → Result B FromHexError) (y : B) → (r >>= f) ≡ Ok y → (x : A) × (r ≡ Ok x) × (f x ≡ Ok y)
bind_ok (Ok x) f y h = (x, refl, h)
bind_ok (Err e) f y h = cc h

digit_read : (c i : ℕ) (o : Option ℕ) (v : ℕ) → digit_or_error c i o ≡ Ok v → o ≡ Some v
digit_read c i (Some w) v h = ap Some (ap (λ (r : Result ℕ FromHexError). result_unwrap_or r 0) h)
digit_read c i None v h = cc h

read_digit : (c v : ℕ) → hex_digit_value c ≡ Some v → is_upper c ≡ false → digit_of v ≡ c
read_digit c v h lower = grind (arith)

read_digit-small : (c v : ℕ) → hex_digit_value c ≡ Some v → v < 16
read_digit-small c v h = grind (arith)

not_upper-parts : (c : ℕ) (rest : List ℕ) → list_any is_upper (c ∷ rest) ≡ false → (is_upper c ≡ false) × (list_any is_upper rest ≡ false)
not_upper-parts c rest h = elim (is_upper c) as (λ b. (b || list_any is_upper rest) ≡ false → (b ≡ false) × (list_any is_upper rest ≡ false)) [
  | true ↦ λ k. absurd (cc k)
  | false ↦ λ k. (refl, k)
] h

pairs_read : (i : ℕ) (s bytes : List ℕ) → decode_pairs i s ≡ Ok bytes → list_any is_upper s ≡ false → s ≡ encode_lower bytes
unfolding decode_pairs encode_with
pairs_read i [] bytes h lower =
    let e : [] ≡ bytes = ap (λ (r : Result (List ℕ) FromHexError). result_unwrap_or r []) h in
    ap encode_lower e
pairs_read i (a ∷ []) bytes h lower = cc h
pairs_read i (a ∷ b ∷ rest) bytes h lower =
    let p0 = bind_ok (pair_value a b i) _ bytes h in
    let p1 = bind_ok (value_at a i) _ p0.0 p0.1 in
    let p2 = bind_ok (value_at b (i + 1)) _ p0.0 p1.2 in
    let p3 = bind_ok (decode_pairs (i + 2) rest) _ bytes p0.2 in
    let whole : p0.0 ∷ p3.0 ≡ bytes = ap (λ (r : Result (List ℕ) FromHexError). result_unwrap_or r []) p3.2 in
    let byte : p1.0 * 16 + p2.0 ≡ p0.0 = ap (λ (r : Result ℕ FromHexError). result_unwrap_or r 0) p2.2 in
    let va = digit_read a i (hex_digit_value a) p1.0 p1.1 in
    let vb = digit_read b (i + 1) (hex_digit_value b) p2.0 p2.1 in
    let sa = read_digit-small a p1.0 va in
    let sb = read_digit-small b p2.0 vb in
    let la = not_upper-parts a (b ∷ rest) lower in
    let lb = not_upper-parts b rest la.1 in
    let high : p0.0 / 16 ≡ p1.0 = omega (arith, byte, sb) in
    let low : p0.0 % 16 ≡ p2.0 = omega (arith, byte, sb) in
    let first : slice_index lower_digits (p0.0 / 16) ≡ a = ap (slice_index lower_digits) high ∙ lower_digit p1.0 sa ∙ read_digit a p1.0 va la.0 in
    let second : slice_index lower_digits (p0.0 % 16) ≡ b = ap (slice_index lower_digits) low ∙ lower_digit p2.0 sb ∙ read_digit b p2.0 vb lb.0 in
    let tail : rest ≡ encode_lower p3.0 = pairs_read (i + 2) rest p3.0 p3.1 lb.1 in
    let text : a ∷ b ∷ rest ≡ encode_lower (p0.0 ∷ p3.0) = rw (first, second, ← tail) refl in
    text ∙ ap encode_lower whole

-- what decodes, with no letter in upper case, is the text of its bytes
pub decoded_is_pairs : (s bytes : List ℕ) → s ≢ [] → decode_of s ≡ Ok bytes → list_any is_upper s ≡ false → IsPairs s bytes
unfolding encode_with
decoded_is_pairs s bytes some h lower =
    let ok = decode_of-ok s bytes h in
    let text = pairs_read 0 s bytes (sym (decode_of-even s ok.0) ∙ h) lower in
    (text, λ e. some (text ∙ ap encode_lower e), ok.3)

-- the text of some bytes is not empty, decodes, and has no letter in upper case
pub pairs_decode : (s bytes : List ℕ) → IsPairs s bytes → (s ≢ []) × (decode_of s ≡ Ok bytes) × (list_any is_upper s ≡ false)
unfolding encode_with
pairs_decode s bytes h =
    let empty : [] ≡ encode_lower [] = refl in (
      λ e. h.1 (encoded_once bytes [] h.2 (λ i. omega arith) (sym h.0 ∙ e ∙ empty)),
      ap decode_of h.0 ∙ decode_of-encode_lower bytes h.2,
      ap (list_any is_upper) h.0 ∙ encoded-has_no_upper bytes h.2,
    )

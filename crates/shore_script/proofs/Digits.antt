-- Decimal digits, and the words that are read as numbers.
use Rattle.std.proofs.Common.{◌≡◌, ◌≢◌, ℕ, zero, suc, ◌^◌, ◌<◌, ◌≤◌, List, length, get_or, sym, ap, ◌∙◌, subst, arith}
use Rattle.std.specs.Prelude.{Result, Ok, Err}
use Rattle.std.specs.Fmt.{decimal}
use Rattle.std.specs.Str.Parse.{AllDigits, digits_value, ParsesUnsigned}
use Rattle.std.proofs.lemmas.Str.Parse.{IsNumeralModel, numerals_by_value, tells_digits, parse_plain, digit_at}
use Rattle.std.proofs.lemmas.Fmt.{decimal-digits_value, decimal_injective, decimal_digit, first_decimal, decimal_nonempty, digits_decimal, digits_value-decimal}
use Rattle.std.specs.Result.{OkIff, result_ok}
use Rattle.shore_script.specs.Ids.{IsNumber}
use Rattle.shore_script.specs.Reading.{Reads}
use Rattle.shore_script.proofs.Cuts.{Lacks, Lacks-by_index}

own : IsNumeralModel (AllDigits 10) (digits_value 10)
own = numerals_by_value (AllDigits 10) tells_digits

-- each character is a digit
pub decimal-at : (n i : ℕ) → n < 2 ^ 64 → i < length (decimal n) → (48 ≤ get_or (decimal n) i 0) × (get_or (decimal n) i 0 ≤ 57)
decimal-at n i small lt = digit_at (decimal n) i (digits_decimal own n small) lt

pub decimal-first : (n : ℕ) → n < 2 ^ 64 → (48 ≤ get_or (decimal n) 0 0) × (get_or (decimal n) 0 0 ≤ 57)
decimal-first n small = decimal-at n 0 small (decimal_nonempty n small)

-- a character that is no digit is not in it
pub decimal-Lacks : (c n : ℕ) → n < 2 ^ 64 → c < 48 → Lacks c (decimal n)
decimal-Lacks c n small low =
    Lacks-by_index c (decimal n) (λ i lt e. let d = decimal-at n i small lt in omega (arith, d.0, e))

-- a sign
pub signed_is_none : (word : List ℕ) (n : ℕ) → get_or word 0 0 ≡ 43 → ¬ (IsNumber (2 ^ 64) word n)
signed_is_none word n sign h =
    let d = decimal-first n h.1 in
    let e : get_or word 0 0 ≡ get_or (decimal n) 0 0 = ap (λ (l : List ℕ). get_or l 0 0) h.0 in
    omega (arith, d.0, e, sign)

-- a leading zero
pub padded_is_none : (word : List ℕ) (n : ℕ) → get_or word 0 0 ≡ 48 → 1 < length word → ¬ (IsNumber (2 ^ 64) word n)
padded_is_none word zero first long h =
    let e : length word ≡ length (decimal 0) = ap (λ (l : List ℕ). length l) h.0 in
    let one : length (decimal 0) ≡ 1 = ap (λ (l : List ℕ). length l) (decimal_digit 0 (omega arith)) in
    omega (arith, long, e, one)
padded_is_none word (suc n) first long h =
    let d = first_decimal (suc n) (omega arith) h.1 in
    let e : get_or word 0 0 ≡ get_or (decimal (suc n)) 0 0 = ap (λ (l : List ℕ). get_or l 0 0) h.0 in
    omega (arith, d, e, first)

-- what `parse` gives of a word with neither
pub reads_number : {E : Type 0} (word : List ℕ) (found : Result ℕ E) → get_or word 0 0 ≢ 43 → (get_or word 0 0 ≡ 48 → length word ≤ 1)
    → ParsesUnsigned 64 10 word found → Reads (IsNumber (2 ^ 64) word) (result_ok found)
reads_number {E} word (Ok n) plain short parsed =
    let p = parse_plain own {E = E} 64 word (Ok n) parsed plain in
    let text : decimal (digits_value 10 word) ≡ word =
    decimal-digits_value own word p.0.0 p.0.1 (λ z. let s = short z in omega (arith, s, p.0.1)) p.0.2 in
    (sym text ∙ ap decimal (sym p.1), subst (λ k. k < 2 ^ 64) (sym p.1) p.0.2)
reads_number {E} word (Err e) plain short parsed = λ n h.
    let p = parse_plain own {E = E} 64 word (Err e) parsed plain in
    let all : AllDigits 10 word = subst (λ w. AllDigits 10 w) (sym h.0) (digits_decimal own n h.1) in
    let some : 0 < length word = subst (λ w. 0 < length w) (sym h.0) (decimal_nonempty n h.1) in
    let value : digits_value 10 word ≡ n = ap (digits_value 10) h.0 ∙ digits_value-decimal own n h.1 in
    p (all, some, subst (λ k. k < 2 ^ 64) (sym value) h.1)

-- a number is read below one limit only if it is below it
pub same_number : (limit word_number n : ℕ) (word : List ℕ) → limit ≤ 2 ^ 64 → IsNumber (2 ^ 64) word word_number → IsNumber limit word n → n ≡ word_number
same_number limit m n word low h k = decimal_injective n m (omega (arith, low, k.1)) h.1 (sym k.0 ∙ h.0)

-- a number that is made shorter if it fits
pub fits_short : {E : Type 0} (limit : ℕ) → limit ≤ 2 ^ 64 → (word : List ℕ) (n : ℕ) (found : Result ℕ E) → IsNumber (2 ^ 64) word n → OkIff found (n < limit) n
    → Reads (IsNumber limit word) (result_ok found)
fits_short limit low word n (Ok m) h fits = (h.0 ∙ ap decimal (sym fits.1), subst (λ k. k < limit) (sym fits.1) fits.0)
fits_short limit low word n (Err e) h fits = λ m k.
    let same = same_number limit n m word low h k in
    fits (subst (λ j. j < limit) same k.1)

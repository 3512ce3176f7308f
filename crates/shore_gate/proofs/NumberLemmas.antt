-- Numbers are read as they were written, and written as they were read.
use Rattle.std.proofs.Common.{◌/◌, ◌%◌, ◌≡◌, ℕ, zero, suc, ◌+◌, ◌*◌, ◌^◌, ◌<◌, ◌≤◌, List, [], ◌∷◌, ◌++◌, length, take, drop, slice_index, refl, sym, ap, ◌∙◌, arith, add-one, length-drop, append_assoc, replicate, true, sum, ◌==◌}
use Rattle.std.proofs.Math.Nat.{div-div-eq-div-mul, div-one, pow-succ'}
use Rattle.std.proofs.lemmas.List.{take-append-drop, drop-drop, get_or-drop, drop_at}
use Rattle.std.proofs.lemmas.Bool.{and_parts, eqb-true}
use Rattle.std.proofs.lemmas.List.Sums.{sum_by-cons}
use Rattle.std.specs.List.{flat_map}
use Rattle.std.specs.Int.{byte_at, bytes_low_first}
use Rattle.byteorder.specs.Endian.{little_from, little_number, little_bytes}
use Rattle.byteorder.specs.Numbers.{little_from-cons, little_from-lt, little_number-reads_back, length-bytes_low_first}
use Rattle.shore_gate.specs.Numbers.{number_at, numbers_at, are_zero}

abbrev pub IsBytes : List ℕ → Type 0
IsBytes bytes = (i : ℕ) → slice_index bytes i < 256

pub IsBytes-drop : (n : ℕ) (bytes : List ℕ) → IsBytes bytes → IsBytes (drop n bytes)
IsBytes-drop n bytes fits i = rw (get_or-drop n bytes i 0) (fits (n + i))

byte_at-pow : (k x : ℕ) → byte_at k x ≡ x / 256 ^ k % 256
byte_at-pow zero x = ap (λ (y : ℕ). y % 256) (sym (div-one x))
byte_at-pow (suc k) x = refl

-- the bytes of a number above its lowest
byte_above : (j a m : ℕ) → a < 256 → byte_at (suc j) (a + 256 * m) ≡ byte_at j m
byte_above j a m low =
    let top : (a + 256 * m) / 256 ≡ m = omega arith in
    let shift : (a + 256 * m) / 256 ^ suc j ≡ (a + 256 * m) / 256 / 256 ^ j = ap (λ (p : ℕ). (a + 256 * m) / p) (pow-succ' 256 j) ∙ sym (div-div-eq-div-mul (a + 256 * m) 256 (256 ^ j)) in
    ap (λ (y : ℕ). y % 256) (shift ∙ ap (λ (y : ℕ). y / 256 ^ j) top) ∙ sym (byte_at-pow j m)

bytes_above : (n j a m : ℕ) → a < 256 → bytes_low_first (suc j) n (a + 256 * m) ≡ bytes_low_first j n m
bytes_above zero j a m low = refl
bytes_above (suc n) j a m low = rw (byte_above j a m low, bytes_above n (suc j) a m low) refl

-- bytes are the text of the number that they make
pub little_bytes-little_number : (n : ℕ) (bytes : List ℕ) → IsBytes bytes → n ≤ length bytes → little_bytes n (little_number n bytes) ≡ take n bytes
little_bytes-little_number zero bytes fits long = refl
little_bytes-little_number (suc n) [] fits long = absurd (omega arith)
little_bytes-little_number (suc n) (a ∷ bytes) fits long =
    let low : a < 256 = fits 0 in
    let rest = little_bytes-little_number n bytes (λ i. fits (suc i)) (omega arith) in
    let lowest : (a + 256 * little_from 0 n bytes) % 256 ≡ a = omega arith in
    rw (little_from-cons 0 n a bytes, lowest, bytes_above n 0 a (little_from 0 n bytes) low, rest) refl

-- what is at an offset is the text of the number there, and what follows
pub drop-number_at : (bytes : List ℕ) (offset n next : ℕ) → IsBytes bytes → offset + n ≡ next → next ≤ length bytes
    → drop offset bytes ≡ little_bytes n (number_at bytes offset n) ++ drop next bytes
unfolding number_at
drop-number_at bytes offset n next fits sum long =
    let enough : n ≤ length (drop offset bytes) = omega (arith, length-drop offset bytes) in
    let front = little_bytes-little_number n (drop offset bytes) (IsBytes-drop offset bytes fits) enough in
    let back : drop n (drop offset bytes) ≡ drop next bytes = drop-drop n offset bytes ∙ ap (λ (k : ℕ). drop k bytes) sum in
    rw (front, ← back) (sym (take-append-drop n (drop offset bytes)))

-- the number at an offset at which its text is
pub number_at-text : (bytes : List ℕ) (offset n x : ℕ) (rest : List ℕ) → drop offset bytes ≡ little_bytes n x ++ rest → x < 256 ^ n → number_at bytes offset n ≡ x
unfolding number_at
number_at-text bytes offset n x rest text small = ap (little_number n) text ∙ little_number-reads_back n x rest small

-- what follows a text
-- a number's text, and what follows it
pub text_at : (bytes : List ℕ) (offset n next x : ℕ) (rest : List ℕ) → IsBytes bytes → offset + n ≡ next → next ≤ length bytes → number_at bytes offset n ≡ x → drop next bytes ≡ rest
    → drop offset bytes ≡ little_bytes n x ++ rest
text_at bytes offset n next x rest fits sum long value after =
    drop-number_at bytes offset n next fits sum long ∙ ap (λ (y : ℕ). little_bytes n y ++ drop next bytes) value ∙ ap (λ (r : List ℕ). little_bytes n x ++ r) after

pub drop-text : (bytes : List ℕ) (offset n next x : ℕ) (rest : List ℕ) → drop offset bytes ≡ little_bytes n x ++ rest → offset + n ≡ next → drop next bytes ≡ rest
drop-text bytes offset n next x rest text sum =
    ap (λ (k : ℕ). drop k bytes) (sym sum) ∙ sym (drop-drop n offset bytes) ∙ ap (drop n) text ∙ drop_at (little_bytes n x) rest n (length-bytes_low_first 0 n x)

pub number_at-lt : (bytes : List ℕ) (offset n : ℕ) → IsBytes bytes → number_at bytes offset n < 256 ^ n
unfolding number_at
number_at-lt bytes offset n fits = little_from-lt 0 n (drop offset bytes) (IsBytes-drop offset bytes fits)

more : (bytes : List ℕ) (offset count : ℕ) → numbers_at bytes offset (suc count) ≡ numbers_at bytes offset count ++ number_at bytes (offset + 4 * count) 4 ∷ []
more bytes offset zero = let same : offset + 4 * 0 ≡ offset = omega arith in rw same refl
more bytes offset (suc count) =
    let same : offset + 4 * suc count ≡ offset + 4 + 4 * count = omega arith in
    rw (same, more bytes (offset + 4) count) refl

-- one number more
pub numbers_at_more : (bytes : List ℕ) (offset count : ℕ) → numbers_at bytes offset (count + 1) ≡ numbers_at bytes offset count ++ number_at bytes (offset + 4 * count) 4 ∷ []
numbers_at_more bytes offset count = rw (add-one) (more bytes offset count)

pub length-numbers_at : (bytes : List ℕ) (offset count : ℕ) → length (numbers_at bytes offset count) ≡ count
length-numbers_at bytes offset zero = refl
length-numbers_at bytes offset (suc count) = let rest = length-numbers_at bytes (offset + 4) count in omega (arith, rest)

pub sum-cons : (number : ℕ) (numbers : List ℕ) → sum (number ∷ numbers) ≡ number + sum numbers
sum-cons number numbers = sum_by-cons (λ x. x) number numbers

-- numbers one after another are read as they are
pub drop-numbers_at : (bytes : List ℕ) (offset count : ℕ) → IsBytes bytes → offset + 4 * count ≤ length bytes
    → drop offset bytes ≡ flat_map (little_bytes 4) (numbers_at bytes offset count) ++ drop (offset + 4 * count) bytes
drop-numbers_at bytes offset zero fits long = let same : offset + 4 * 0 ≡ offset = omega arith in rw same refl
drop-numbers_at bytes offset (suc count) fits long =
    let first = drop-number_at bytes offset 4 (offset + 4) fits refl (omega arith) in
    let later = drop-numbers_at bytes (offset + 4) count fits (omega arith) in
    let same : offset + 4 + 4 * count ≡ offset + 4 * suc count = omega arith in
    first ∙ ap (λ (r : List ℕ). little_bytes 4 (number_at bytes offset 4) ++ r) (later ∙ ap (λ (k : ℕ). flat_map (little_bytes 4) (numbers_at bytes (offset + 4) count) ++ drop k bytes) same)
    ∙ sym (append_assoc (little_bytes 4 (number_at bytes offset 4)) (flat_map (little_bytes 4) (numbers_at bytes (offset + 4) count)) (drop (offset + 4 * suc count) bytes))

-- and numbers that were written are read again
pub numbers_at-text : (numbers bytes : List ℕ) (offset : ℕ) (rest : List ℕ) → sum numbers < 256 ^ 4 → drop offset bytes ≡ flat_map (little_bytes 4) numbers ++ rest
    → (numbers_at bytes offset (length numbers) ≡ numbers) × (drop (offset + 4 * length numbers) bytes ≡ rest)
numbers_at-text [] bytes offset rest small text = let same : offset + 4 * 0 ≡ offset = omega arith in (refl, rw same text)
numbers_at-text (number ∷ numbers) bytes offset rest small text =
    let total = sum-cons number numbers in
    let front : drop offset bytes ≡ little_bytes 4 number ++ (flat_map (little_bytes 4) numbers ++ rest) = text ∙ append_assoc (little_bytes 4 number) (flat_map (little_bytes 4) numbers) rest in
    let first = number_at-text bytes offset 4 number (flat_map (little_bytes 4) numbers ++ rest) front (omega arith) in
    let later = numbers_at-text numbers bytes (offset + 4) rest (omega arith) (drop-text bytes offset 4 (offset + 4) number (flat_map (little_bytes 4) numbers ++ rest) front refl) in
    let same : offset + 4 * suc (length numbers) ≡ offset + 4 + 4 * length numbers = omega arith in
    (rw (first, later.0) refl, rw same later.1)

-- zeros are the zeros of their length
pub zeros_are : (bytes : List ℕ) → are_zero bytes ≡ true → bytes ≡ replicate (length bytes) 0
unfolding are_zero
zeros_are [] test = refl
zeros_are (byte ∷ bytes) test =
    let parts = and_parts (byte == 0) (are_zero bytes) test in
    rw (eqb-true byte 0 parts.0, ← (zeros_are bytes parts.1)) refl

pub zeros_again : (count : ℕ) → are_zero (replicate count 0) ≡ true
unfolding are_zero
zeros_again zero = refl
zeros_again (suc count) = zeros_again count

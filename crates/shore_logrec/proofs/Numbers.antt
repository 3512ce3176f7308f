-- The two laws of numbers of n bytes: a number's bytes read as the number, and bytes are those of the number that they read as.
use Rattle.std.proofs.Common.{◌≡◌, ◌/◌, ◌%◌, ℕ, zero, suc, ◌+◌, ◌*◌, ◌^◌, ◌<◌, ◌≤◌, List, [], ◌∷◌, ◌++◌, length, take, get_or, refl, sym, ap, ◌∙◌, arith}
use Rattle.std.proofs.Math.Nat.{div-div-eq-div-mul, pow-succ'}
use Rattle.std.specs.Int.{byte_at, bytes_low_first}
use Rattle.byteorder.specs.Endian.{little_bytes, little_number}
use Rattle.byteorder.specs.Numbers.{little_from-cons, little_from-lt, little_number-reads_back}

-- each is a byte
abbrev pub IsBytes : List ℕ → Type 0
IsBytes bytes = (i : ℕ) → get_or bytes i 0 < 256

pub number-of_bytes : (n x : ℕ) (rest : List ℕ) → x < 256 ^ n → little_number n (little_bytes n x ++ rest) ≡ x
number-of_bytes = little_number-reads_back

pub number_fits : (n : ℕ) (bytes : List ℕ) → IsBytes bytes → little_number n bytes < 256 ^ n
number_fits n bytes fits = little_from-lt 0 n bytes fits

-- a byte above the lowest is a byte of what is left above the lowest
byte_at-suc : (j x : ℕ) → byte_at (suc j) x ≡ byte_at j (x / 256)
byte_at-suc zero x = refl
byte_at-suc (suc j) x =
    ap (λ (p : ℕ). x / p % 256) (pow-succ' 256 (suc j)) ∙ ap (λ (q : ℕ). q % 256) (sym (div-div-eq-div-mul x 256 (256 ^ suc j)))

bytes_low_first-suc : (j n x : ℕ) → bytes_low_first (suc j) n x ≡ bytes_low_first j n (x / 256)
bytes_low_first-suc j zero x = refl
bytes_low_first-suc j (suc n) x = rw (byte_at-suc j x, bytes_low_first-suc (suc j) n x) refl

pub bytes-of_number : (n : ℕ) (bytes : List ℕ) → IsBytes bytes → n ≤ length bytes → little_bytes n (little_number n bytes) ≡ take n bytes
bytes-of_number zero bytes fits long = refl
bytes-of_number (suc n) [] fits long = absurd (omega arith)
bytes-of_number (suc n) (b ∷ bytes) fits long =
    let x : ℕ = little_number n bytes in
    let byte : b < 256 = fits 0 in
    let whole : little_number (suc n) (b ∷ bytes) ≡ b + 256 * x = ap (λ (y : ℕ). b + 256 * y) (little_from-cons 0 n b bytes) in
    let low : (b + 256 * x) % 256 ≡ b = omega arith in
    let high : (b + 256 * x) / 256 ≡ x = omega arith in
    let rest : little_bytes n x ≡ take n bytes = bytes-of_number n bytes (λ i. fits (suc i)) (omega arith) in
    ap (little_bytes (suc n)) whole ∙ rw (low, bytes_low_first-suc 0 n (b + 256 * x), high, rest) refl

-- a byte is its own text
pub one_byte : (n : ℕ) → n < 256 → little_bytes 1 n ≡ n ∷ []
one_byte n small = let low : n % 256 ≡ n = omega arith in ap (λ (k : ℕ). k ∷ []) low

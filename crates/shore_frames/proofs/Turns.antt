-- A ring that is turned, and writes on it.
use Rattle.std.proofs.Common.{◌≡◌, ◌⊎◌, inl, inr, ⊎_elim, ◌≤◌, ◌<◌, ◌+◌, ◌-◌, ◌%◌, ℕ, zero, suc, List, [], ◌∷◌, ◌++◌, true, false, cond, refl, sym, ap, ◌∙◌, length, take, drop, arith, append_assoc, append-nil, take-append-drop, length-append, length-drop, drop_of_length-le, mod-lt, mod-eq_of_lt}
use Rattle.std.specs.Prelude.{nat_le}
use Rattle.std.proofs.Math.Nat.{add-mod_right, mod-add-mod}
use Rattle.std.proofs.lemmas.Bool.{leb-true, leb-false}
use Rattle.std.proofs.lemmas.List.{take_at, drop_at, length-take, length-take-le, drop-append-le, drop-drop}
use Rattle.shore_disk.specs.Device.{overwritten}
use Rattle.shore_disk.proofs.Images.{overwritten-append}
use Rattle.shore_frames.specs.Places.{from_place, turned_by}
use Rattle.shore_frames.specs.Rings.{written_at}

-- ---- lists in parts

pub turned_parts : (front back : List ℕ) (k : ℕ) → length front ≡ k → turned_by k (front ++ back) ≡ back ++ front
turned_parts front back k long = ap (λ (l : List ℕ). l ++ take k (front ++ back)) (drop_at front back k long) ∙ ap (λ (l : List ℕ). back ++ l) (take_at front back k long)

pub length-turned : (k : ℕ) (xs : List ℕ) → length (turned_by k xs) ≡ length xs
length-turned k xs = omega (arith, length-append (drop k xs) (take k xs), length-drop k xs, length-take k xs)

pub length-from_place : (place : ℕ) (stream : List ℕ) → length (from_place place stream) ≡ length stream
length-from_place place stream = length-turned (place % length stream) stream

-- the parts of a list at two places
pub record Cut (xs : List ℕ) (k : ℕ) : Type 0 where
  pub front : List ℕ
  pub back : List ℕ
  pub is : xs ≡ front ++ back
  pub long : length front ≡ k

pub cut_at : (xs : List ℕ) (k : ℕ) → k ≤ length xs → Cut xs k
cut_at xs k le = record { front = take k xs; back = drop k xs; is = sym (take-append-drop k xs); long = length-take-le k xs le }

pub length-back : (xs : List ℕ) (k : ℕ) (c : Cut xs k) → length c.back + k ≡ length xs
length-back xs k c = omega (arith, ap length c.is, length-append c.front c.back, c.long)

-- ---- turned further

pub whole_stream : (stream : List ℕ) → from_place 0 stream ≡ stream
whole_stream [] = refl
whole_stream (x ∷ xs) = let here : 0 % length (x ∷ xs) ≡ 0 = mod-eq_of_lt (omega arith) in ap (λ k. turned_by k (x ∷ xs)) here ∙ append-nil (x ∷ xs)

pub turned_within : (k j : ℕ) (xs : List ℕ) → k + j ≤ length xs → turned_by j (turned_by k xs) ≡ turned_by (k + j) xs
turned_within k j xs le =
    let a = cut_at xs k (omega arith) in
    let b = cut_at a.back j (omega (arith, length-back xs k a)) in
    let whole : xs ≡ (a.front ++ b.front) ++ b.back = a.is ∙ ap (λ (l : List ℕ). a.front ++ l) b.is ∙ sym (append_assoc a.front b.front b.back) in
    let once : turned_by k xs ≡ b.front ++ (b.back ++ a.front) =
    ap (turned_by k) a.is ∙ turned_parts a.front a.back k a.long ∙ ap (λ (l : List ℕ). l ++ a.front) b.is ∙ append_assoc b.front b.back a.front in
    ap (turned_by j) once ∙ turned_parts b.front (b.back ++ a.front) j b.long ∙ append_assoc b.back a.front b.front
    ∙ sym (ap (turned_by (k + j)) whole ∙ turned_parts (a.front ++ b.front) b.back (k + j) (omega (arith, length-append a.front b.front, a.long, b.long)))

pub turned_beyond : (k i : ℕ) (xs : List ℕ) → k ≤ length xs → i ≤ k → turned_by (length xs - k + i) (turned_by k xs) ≡ turned_by i xs
turned_beyond k i xs le lt =
    let a = cut_at xs k le in
    let b = cut_at a.front i (omega (arith, a.long)) in
    let back = length-back xs k a in
    let whole : xs ≡ b.front ++ (b.back ++ a.back) = a.is ∙ ap (λ (l : List ℕ). l ++ a.back) b.is ∙ append_assoc b.front b.back a.back in
    let once : turned_by k xs ≡ (a.back ++ b.front) ++ b.back =
    ap (turned_by k) a.is ∙ turned_parts a.front a.back k a.long ∙ ap (λ (l : List ℕ). a.back ++ l) b.is ∙ sym (append_assoc a.back b.front b.back) in
    let long : length (a.back ++ b.front) ≡ length xs - k + i = omega (arith, length-append a.back b.front, back, b.long) in
    ap (turned_by (length xs - k + i)) once ∙ turned_parts (a.back ++ b.front) b.back (length xs - k + i) long ∙ sym (append_assoc b.back a.back b.front)
    ∙ sym (ap (turned_by i) whole ∙ turned_parts b.front (b.back ++ a.back) i b.long)

pub from_further : (stream : List ℕ) (place more : ℕ) → 0 < length stream → more ≤ length stream → from_place (place + more) stream ≡ turned_by more (from_place place stream)
from_further stream place more some le =
    let S = length stream in
    let a = place % S in
    let lt : a < S = mod-lt place some in
    let same_place : (a + more) % S ≡ (place + more) % S = mod-add-mod place S more in
    ⊎_elim
    (λ within.
    let e : (a + more) % S ≡ a + more = mod-eq_of_lt within in
    ap (λ k. turned_by k stream) (sym same_place ∙ e) ∙ sym (turned_within a more stream (omega arith)))
    (λ beyond.
    let split : a + more ≡ (a + more - S) + S = omega arith in
    let e : (a + more) % S ≡ a + more - S = ap (λ k. k % S) split ∙ add-mod_right (a + more - S) S ∙ mod-eq_of_lt (omega arith) in
    let same : S - a + (a + more - S) ≡ more = omega arith in
    ap (λ k. turned_by k stream) (sym same_place ∙ e)
    ∙ sym (ap (λ k. turned_by k (turned_by a stream)) (sym same) ∙ turned_beyond a (a + more - S) stream (omega arith) (omega arith)))
    (less_or_more (a + more) S)
  where
    less_or_more : (n m : ℕ) → (n < m) ⊎ (m ≤ n)
    less_or_more n zero = inr (omega arith)
    less_or_more zero (suc m) = inl (omega arith)
    less_or_more (suc n) (suc m) = ⊎_elim (λ lt. inl (omega arith)) (λ le. inr (omega arith)) (less_or_more n m)

-- ---- a write

pub length-overwritten : (xs : List ℕ) (at : ℕ) (bytes : List ℕ) → at + length bytes ≤ length xs → length (overwritten xs at bytes) ≡ length xs
length-overwritten xs at bytes le =
    let whole : length (overwritten xs at bytes) ≡ length (take at xs ++ bytes) + length (drop (at + length bytes) xs) = length-append (take at xs ++ bytes) (drop (at + length bytes) xs) in
    omega (arith, whole, length-append (take at xs) bytes, length-take-le at xs (omega arith), length-drop (at + length bytes) xs)

-- what a write makes of the ring, seen from its own place
module _ (stream bytes : List ℕ) (place : ℕ) (some : 0 < length stream) (le : length bytes ≤ length stream) where
  abbrev pub at : ℕ
  at = place % length stream

  at_inside : at < length stream
  at_inside = mod-lt place some

  parts : Cut stream at
  parts = cut_at stream at (let lt = at_inside in omega arith)

  from_here : from_place place stream ≡ parts.back ++ parts.front
  from_here = ap (turned_by at) parts.is ∙ turned_parts parts.front parts.back at parts.long

  pub in_one : at + length bytes ≤ length stream → turned_by at (overwritten stream at bytes) ≡ bytes ++ drop (length bytes) (from_place place stream)
  in_one fits =
      let back = length-back stream at parts in
      ap (λ (l : List ℕ). turned_by at (overwritten l at bytes)) parts.is
      ∙ ap (turned_by at) (overwritten-append parts.front parts.back at bytes parts.long)
      ∙ turned_parts parts.front (bytes ++ drop (length bytes) parts.back) at parts.long
      ∙ append_assoc bytes (drop (length bytes) parts.back) parts.front
      ∙ ap (λ (l : List ℕ). bytes ++ l) (sym (drop-append-le (length bytes) parts.back parts.front (omega arith)) ∙ ap (drop (length bytes)) (sym from_here))

  in_two : (before behind : List ℕ) → bytes ≡ before ++ behind → length before ≡ length stream - at
      → turned_by at (overwritten (overwritten stream at before) 0 behind) ≡ bytes ++ drop (length bytes) (from_place place stream)
  in_two before behind is long =
      let lt = at_inside in
      let back = length-back stream at parts in
      let all = ap length is ∙ length-append before behind in
      let first : overwritten stream at before ≡ parts.front ++ before =
      ap (λ (l : List ℕ). overwritten l at before) parts.is ∙ overwritten-append parts.front parts.back at before parts.long
      ∙ ap (λ (l : List ℕ). parts.front ++ (before ++ l)) (drop_of_length-le parts.back {i = length before} (omega arith)) ∙ ap (λ (l : List ℕ). parts.front ++ l) (append-nil before) in
      let short : length behind ≤ length parts.front = omega (arith, parts.long) in
      let second : overwritten (parts.front ++ before) 0 behind ≡ (behind ++ drop (length behind) parts.front) ++ before =
      overwritten-append [] (parts.front ++ before) 0 behind refl ∙ ap (λ (l : List ℕ). behind ++ l) (drop-append-le (length behind) parts.front before short)
      ∙ sym (append_assoc behind (drop (length behind) parts.front) before) in
      let size : length (behind ++ drop (length behind) parts.front) ≡ at = omega (arith, length-append behind (drop (length behind) parts.front), length-drop (length behind) parts.front, parts.long) in
      let rest : drop (length bytes) (from_place place stream) ≡ drop (length behind) parts.front =
      ap (drop (length bytes)) from_here ∙ ap (λ k. drop k (parts.back ++ parts.front)) (omega arith)
      ∙ sym (drop-drop (length behind) (length parts.back) (parts.back ++ parts.front)) ∙ ap (drop (length behind)) (drop_at parts.back parts.front (length parts.back) refl) in
      ap (λ (l : List ℕ). turned_by at (overwritten l 0 behind)) first ∙ ap (turned_by at) second
      ∙ turned_parts (behind ++ drop (length behind) parts.front) before at size
      ∙ sym (append_assoc before behind (drop (length behind) parts.front))
      ∙ ap (λ (l : List ℕ). l ++ drop (length behind) parts.front) (sym is)
      ∙ ap (λ (l : List ℕ). bytes ++ l) (sym rest)

-- the same length, in one part or in two
pub record IsWritten (stream : List ℕ) (place : ℕ) (bytes new : List ℕ) : Type 0 where
  pub as_long : length new ≡ length stream
  pub seen : from_place place new ≡ bytes ++ drop (length bytes) (from_place place stream)

pub is_written : (stream bytes : List ℕ) (place : ℕ) → 0 < length stream → length bytes ≤ length stream → IsWritten stream place bytes (written_at place bytes stream)
is_written stream bytes place some le =
    let S = length stream in
    let a = place % S in
    let lt : a < S = mod-lt place some in
    elim (nat_le (a + length bytes) S) as (λ b. nat_le (a + length bytes) S ≡ b
    → IsWritten stream place bytes (cond b (overwritten stream a bytes) (overwritten (overwritten stream a (take (S - a) bytes)) 0 (drop (S - a) bytes)))) [
      | true ↦ λ yes.
          let fits : a + length bytes ≤ S = leb-true (a + length bytes) S yes in
          let long = length-overwritten stream a bytes fits in
          record {
            as_long = long;
            seen = ap (λ n. turned_by (place % n) (overwritten stream a bytes)) long ∙ in_one stream bytes place some le fits;
          }
      | false ↦ λ no.
          let over : S < a + length bytes = leb-false (a + length bytes) S no in
          let before = take (S - a) bytes in
          let behind = drop (S - a) bytes in
          let size : length before ≡ S - a = length-take-le (S - a) bytes (omega arith) in
          let left : length behind ≡ length bytes - (S - a) = length-drop (S - a) bytes in
          let once = length-overwritten stream a before (omega arith) in
          let long = length-overwritten (overwritten stream a before) 0 behind (omega arith) ∙ once in
          record {
            as_long = long;
            seen = ap (λ n. turned_by (place % n) (overwritten (overwritten stream a before) 0 behind)) long
                ∙ in_two stream bytes place some le before behind (sym (take-append-drop (S - a) bytes)) size;
          }
    ] refl

-- what is seen so from its own place, is a write in a row from an earlier one
pub seen_earlier : (stream bytes new : List ℕ) (place behind : ℕ) → 0 < length stream → behind + length bytes ≤ length stream → IsWritten stream (place + behind) bytes new
    → from_place place new ≡ overwritten (from_place place stream) behind bytes
seen_earlier stream bytes new place behind some le w =
    let S = length stream in
    let long = w.as_long in
    let some_new : 0 < length new = omega arith in
    let Z = from_place place stream in
    let U = from_place place new in
    let z_long : length Z ≡ S = length-from_place place stream in
    let u_long : length U ≡ S = length-from_place place new ∙ long in
    let a = cut_at Z behind (omega arith) in
    let b = cut_at a.back (length bytes) (let l = length-back Z behind a in omega arith) in
    let turned : turned_by behind Z ≡ b.front ++ (b.back ++ a.front) =
    ap (turned_by behind) a.is ∙ turned_parts a.front a.back behind a.long ∙ ap (λ (l : List ℕ). l ++ a.front) b.is ∙ append_assoc b.front b.back a.front in
    let seen : turned_by behind U ≡ (bytes ++ b.back) ++ a.front =
    sym (from_further new place behind some_new (omega arith)) ∙ w.seen
    ∙ ap (λ (l : List ℕ). bytes ++ drop (length bytes) l) (from_further stream place behind some (omega arith) ∙ turned)
    ∙ ap (λ (l : List ℕ). bytes ++ l) (drop_at b.front (b.back ++ a.front) (length bytes) b.long) ∙ sym (append_assoc bytes b.back a.front) in
    let back : U ≡ turned_by (length U - behind + 0) (turned_by behind U) =
    sym (append-nil U) ∙ sym (turned_beyond behind 0 U (omega arith) (omega arith)) in
    let size : length (bytes ++ b.back) ≡ length U - behind + 0 =
    omega (arith, length-append bytes b.back, length-back a.back (length bytes) b, length-back Z behind a, u_long, z_long) in
    back ∙ ap (turned_by (length U - behind + 0)) seen ∙ turned_parts (bytes ++ b.back) a.front (length U - behind + 0) size
    ∙ sym (ap (λ (l : List ℕ). overwritten l behind bytes) a.is ∙ overwritten-append a.front a.back behind bytes a.long
    ∙ ap (λ (l : List ℕ). a.front ++ (bytes ++ l)) (ap (drop (length bytes)) b.is ∙ drop_at b.front b.back (length bytes) b.long))

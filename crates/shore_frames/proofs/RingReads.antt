-- Reads of a device at places of the ring.
use Rattle.std.proofs.Common.{◌≡◌, ◌≤◌, ◌<◌, ◌+◌, ◌-◌, ◌%◌, ℕ, List, ◌++◌, sym, ap, ◌∙◌, length, take, drop, arith, append_assoc, length-append, length-drop, mod-lt}
use Rattle.std.proofs.lemmas.List.{take_at, drop_at, take_all, drop-drop, take-append-le}
use Rattle.shore_frames.specs.Places.{from_place, stream_of, turned_by}
use Rattle.shore_frames.proofs.Turns.{cut_at, from_further, length-back, length-from_place, turned_parts}

module _ (image : List ℕ) (S place : ℕ) (long : length image ≡ 4096 + S) (some : 0 < S) where
  pub stream_long : length (stream_of image) ≡ S
  stream_long = omega (arith, length-drop 4096 image, long)

  view : from_place place (stream_of image) ≡ turned_by (place % S) (stream_of image)
  view = ap (λ n. turned_by (place % n) (stream_of image)) stream_long

  pub view_long : length (from_place place (stream_of image)) ≡ S
  view_long = length-from_place place (stream_of image) ∙ stream_long

  pub one_read : (n : ℕ) → place % S + n ≤ S → take n (drop (4096 + place % S) image) ≡ take n (from_place place (stream_of image))
  one_read n fits =
      let at = place % S in
      let s = stream_of image in
      ap (take n) (sym (drop-drop at 4096 image))
      ∙ sym (ap (take n) view ∙ take-append-le n (drop at s) (take at s) (omega (arith, length-drop at s, stream_long)))

  pub two_reads : (k : ℕ) → k ≤ place % S
      → take (S - place % S) (drop (4096 + place % S) image) ++ take k (drop 4096 image) ≡ take (S - place % S + k) (from_place place (stream_of image))
  two_reads k le =
      let at = place % S in
      let lt : at < S = mod-lt place some in
      let s = stream_of image in
      let a = cut_at s at (omega (arith, stream_long)) in
      let b = cut_at a.front k (omega (arith, a.long)) in
      let back : length a.back ≡ S - at = omega (arith, length-back s at a, stream_long) in
      let seen : turned_by at s ≡ (a.back ++ b.front) ++ b.back =
      ap (turned_by at) a.is ∙ turned_parts a.front a.back at a.long ∙ ap (λ (l : List ℕ). a.back ++ l) b.is ∙ sym (append_assoc a.back b.front b.back) in
      let front : take k s ≡ b.front =
      ap (take k) (a.is ∙ ap (λ (l : List ℕ). l ++ a.back) b.is ∙ append_assoc b.front b.back a.back) ∙ take_at b.front (b.back ++ a.back) k b.long in
      let rest : take (S - at) (drop (4096 + at) image) ≡ a.back =
      ap (take (S - at)) (sym (drop-drop at 4096 image) ∙ ap (drop at) a.is ∙ drop_at a.front a.back at a.long) ∙ take_all (S - at) a.back (omega arith) in
      ap (λ (l : List ℕ). l ++ take k s) rest ∙ ap (λ (l : List ℕ). a.back ++ l) front
      ∙ sym (ap (take (S - at + k)) (view ∙ seen) ∙ take_at (a.back ++ b.front) b.back (S - at + k) (omega (arith, length-append a.back b.front, back, b.long)))

-- a read further on is a read in a row
pub read_further : (stream : List ℕ) (place behind n : ℕ) → 0 < length stream → behind + n ≤ length stream → take n (from_place (place + behind) stream) ≡ take n (drop behind (from_place place stream))
read_further stream place behind n some fits =
    let Z = from_place place stream in
    let long : length Z ≡ length stream = length-from_place place stream in
    ap (take n) (from_further stream place behind some (omega arith)) ∙ take-append-le n (drop behind Z) (take behind Z) (omega (arith, length-drop behind Z, long))

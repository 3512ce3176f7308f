-- Writes of a device at places of the ring.
use Rattle.std.proofs.Common.{◌≡◌, inl, inr, ◌≤◌, ◌<◌, ◌+◌, ◌-◌, ◌%◌, ℕ, List, [], ◌∷◌, ◌++◌, refl, sym, ap, subst, ◌∙◌, length, take, drop, arith, append_assoc, length-append, length-drop, take-append-drop, mod-lt, mod-eq_of_lt, Result, Ok, Err, OnOk}
use Rattle.std.proofs.lemmas.List.{take_at, drop_at, length-take-le, drop-drop}
use Rattle.std.proofs.Math.Nat.{add-mod_right, mod-add-mod}
use Rattle.shore_disk.specs.Device.{DeviceHistory, LeavesOnly, Syncs, Torn, Writes, may_leave, moment, noted, overwritten, seen, wrote}
use Rattle.shore_disk.proofs.Moments.{widened, write_leaves}
use Rattle.shore_disk.proofs.Images.{overwritten-append}
use Rattle.shore_frames.specs.Places.{from_place, stream_of}
use Rattle.shore_frames.specs.Rings.{IsRingWritten, StandsBothWritten, TornBoth, TornRing}
use Rattle.shore_frames.proofs.Turns.{cut_at, in_one, length-overwritten, length-from_place, seen_earlier}

module _ (image : List ℕ) (S : ℕ) (long : length image ≡ 4096 + S) (some : 0 < S) where
  stream_long : length (stream_of image) ≡ S
  stream_long = omega (arith, length-drop 4096 image, long)

  -- one write of the device
  module _ (bytes : List ℕ) (place : ℕ) (fits : place % S + length bytes ≤ S) where
    abbrev at : ℕ
    at = place % S

    front : List ℕ
    front = take 4096 image

    front_long : length (take 4096 image) ≡ 4096
    front_long = length-take-le 4096 image (omega arith)

    overwritten_stream : overwritten image (4096 + at) bytes ≡ take 4096 image ++ overwritten (stream_of image) at bytes
    overwritten_stream =
        let s = stream_of image in
        let c = cut_at s at (omega (arith, stream_long)) in
        let whole : image ≡ (take 4096 image ++ c.front) ++ c.back = sym (take-append-drop 4096 image) ∙ ap (λ (l : List ℕ). take 4096 image ++ l) c.is ∙ sym (append_assoc (take 4096 image) c.front c.back) in
        ap (λ (l : List ℕ). overwritten l (4096 + at) bytes) whole
        ∙ overwritten-append (take 4096 image ++ c.front) c.back (4096 + at) bytes (omega (arith, length-append (take 4096 image) c.front, front_long, c.long))
        ∙ append_assoc (take 4096 image) c.front (bytes ++ drop (length bytes) c.back)
        ∙ ap (λ (l : List ℕ). take 4096 image ++ l) (sym (ap (λ (l : List ℕ). overwritten l at bytes) c.is ∙ overwritten-append c.front c.back at bytes c.long))

    pub image_written : IsRingWritten place bytes image (overwritten image (4096 + at) bytes)
    image_written =
        let s = stream_of image in
        let new = overwritten image (4096 + at) bytes in
        let stream : stream_of new ≡ overwritten s at bytes = ap (drop 4096) overwritten_stream ∙ drop_at (take 4096 image) (overwritten s at bytes) 4096 front_long in
        let s_long = stream_long in
        let kept : length (overwritten s at bytes) ≡ S = length-overwritten s at bytes (omega arith) ∙ s_long in
        let here : place % length s ≡ at = ap (λ n. place % n) s_long in
        let one : from_place place (overwritten s at bytes) ≡ bytes ++ drop (length bytes) (from_place place s) =
        ap (λ n. drop (place % n) (overwritten s at bytes) ++ take (place % n) (overwritten s at bytes)) (kept ∙ sym s_long)
        ∙ ap (λ k. drop (place % length s) (overwritten s k bytes) ++ take (place % length s) (overwritten s k bytes)) (sym here)
        ∙ in_one s bytes place (omega arith) (omega arith) (subst (λ k. k + length bytes ≤ length s) (sym here) (subst (λ n. at + length bytes ≤ n) (sym s_long) fits)) in
        record {
          front = ap (take 4096) overwritten_stream ∙ take_at (take 4096 image) (overwritten s at bytes) 4096 front_long;
          as_long = length-overwritten image (4096 + at) bytes (omega arith);
          seen = ap (from_place place) stream ∙ one;
        }

  -- nothing is written
  pub not_written : (place n : ℕ) → n ≤ S → TornRing place n image image
  not_written place n le =
      let view = from_place place (stream_of image) in
      let s_long = stream_long in
      let view_long : length view ≡ S = length-from_place place (stream_of image) ∙ s_long in
      let size : length (take n view) ≡ n = length-take-le n view (omega arith) in
      (take n view, size, record { front = refl; as_long = refl; seen = sym (ap (λ k. take n view ++ drop k view) size ∙ take-append-drop n view) })

  -- a write that a crash cuts short
  pub write_torn : (place n : ℕ) (new : List ℕ) → place % S + n ≤ S → Torn (4096 + place % S) n image new → TornRing place n image new
  write_torn place n new fits (inl same) = subst (TornRing place n image) (sym same) (not_written place n (omega arith))
  write_torn place n new fits (inr torn) =
      let l = torn.1 in
      (torn.0, torn.1, subst (IsRingWritten place torn.0 image) (sym torn.2) (image_written torn.0 place (omega arith)))

  -- two writes, the second where the first ends
  pub both_written : (place : ℕ) (first second mid new : List ℕ) → length first + length second ≤ S → IsRingWritten place first image mid → IsRingWritten (place + length first) second mid new
      → IsRingWritten place (first ++ second) image new
  both_written place first second mid new fits one two =
      let s_long = stream_long in
      let mid_long : length (stream_of mid) ≡ S = omega (arith, length-drop 4096 mid, one.as_long, long) in
      let row : from_place place (stream_of new) ≡ overwritten (from_place place (stream_of mid)) (length first) second =
      seen_earlier (stream_of mid) second (stream_of new) place (length first) (omega arith) (omega arith)
      (record { as_long = omega (arith, length-drop 4096 mid, length-drop 4096 new, two.as_long); seen = two.seen }) in
      let view = from_place place (stream_of image) in
      record {
        front = two.front ∙ one.front;
        as_long = two.as_long ∙ one.as_long;
        seen =
            row ∙ ap (λ (l : List ℕ). overwritten l (length first) second) one.seen
            ∙ overwritten-append first (drop (length first) view) (length first) second refl
            ∙ sym (append_assoc first second (drop (length second) (drop (length first) view)))
            ∙ ap (λ (l : List ℕ). (first ++ second) ++ l) (drop-drop (length second) (length first) view)
            ∙ ap (λ k. (first ++ second) ++ drop k view) (sym (length-append first second));
      }

  pub both_torn : (place n m : ℕ) (mid new : List ℕ) → n + m ≤ S → TornRing place n image mid → TornRing (place + n) m mid new → TornRing place (n + m) image new
  both_torn place n m mid new fits one two =
      let a = one.1 in
      let b = two.1 in (
        one.0 ++ two.0,
        omega (arith, length-append one.0 two.0),
        both_written place one.0 two.0 mid new (omega arith) one.2 (subst (λ k. IsRingWritten (place + k) two.0 mid new) (sym a) two.2),
      )

-- ---- calls

-- where the second write begins
pub at_begin : (S place : ℕ) → 0 < S → (place + (S - place % S)) % S ≡ 0
at_begin S place some =
    let lt : place % S < S = mod-lt place some in
    let whole : place % S + (S - place % S) ≡ 0 + S = omega arith in
    sym (mod-add-mod place S (S - place % S)) ∙ ap (λ k. k % S) whole ∙ add-mod_right 0 S ∙ mod-eq_of_lt some

pub ok_written : {E : Type 0} (r : Result Unit E) (old new : DeviceHistory) (at : ℕ) (bytes : List ℕ) (P : List ℕ → Type 0) → Writes at bytes r old new → P (overwritten (seen old) at bytes) → OnOk r (P (seen new))
ok_written (Ok u) old new offset bytes P w p = subst (λ (h : DeviceHistory). P (seen h)) (sym w) p
ok_written (Err e) old new offset bytes P w p = tt

pub one_call : {E : Type 0} (r : Result Unit E) (old new : DeviceHistory) (offset : ℕ) (bytes : List ℕ) → Writes offset bytes r old new → moment new ≤ moment old + 1
one_call (Ok u) old new offset bytes w = omega (arith, ap moment w)
one_call (Err e) old new offset bytes (inl same) = omega (arith, ap moment same)
one_call (Err e) old new offset bytes (inr torn) = let is = torn.2 in omega (arith, ap moment is)

-- one write that lies before the ring's end
pub one_leaves : {E : Type 0} (r : Result Unit E) (old new : DeviceHistory) (image bytes : List ℕ) (S place : ℕ) → length image ≡ 4096 + S → 0 < S → place % S + length bytes ≤ S
    → ((d : List ℕ) → may_leave old d → d ≡ image) → Writes (4096 + place % S) bytes r old new → LeavesOnly old new (TornRing place (length bytes) image)
one_leaves r old new image bytes S place long some fits only w =
    write_leaves (4096 + place % S) bytes r old new (TornRing place (length bytes) image) w
    (λ c d left torn. write_torn image S long some place (length bytes) c fits (subst (λ x. Torn (4096 + place % S) (length bytes) x c) (only d left) torn))

-- the second of two: what the first may have left, with any bytes of the second
pub two_leave : {E : Type 0} (r : Result Unit E) (mid new : DeviceHistory) (image second : List ℕ) (S place n : ℕ) → length image ≡ 4096 + S → 0 < S → (place + n) % S ≡ 0 → n + length second ≤ S
    → ((d : List ℕ) → may_leave mid d → TornRing place n image d) → Writes 4096 second r mid new → LeavesOnly mid new (TornRing place (n + length second) image)
two_leave r mid new image second S place n long some begin fits one w =
    write_leaves 4096 second r mid new (TornRing place (n + length second) image) w
    (λ c d left torn.
    let first = one d left in
    let there : 4096 ≡ 4096 + (place + n) % S = omega (arith, begin) in
    both_torn image S long some place n (length second) d c fits first
    (write_torn d S (first.2.as_long ∙ long) some (place + n) (length second) c (omega (arith, begin)) (subst (λ k. Torn k (length second) d c) there torn)))

-- the first alone
pub first_leaves : (image : List ℕ) (S place n m : ℕ) → length image ≡ 4096 + S → 0 < S → n + m ≤ S → (old new : DeviceHistory) → LeavesOnly old new (TornRing place n image) → LeavesOnly old new (TornRing place (n + m) image)
first_leaves image S place n m long some fits old new one =
    widened old new (TornRing place n image) (TornRing place (n + m) image) one
    (λ c torn. both_torn image S long some place n m c c fits torn (not_written c S (torn.2.as_long ∙ long) some (place + n) m (omega arith)))

-- ---- a byte is written as well

-- not yet
pub first_of_both : (image : List ℕ) (S place n gate_place : ℕ) → length image ≡ 4096 + S → 0 < S → (old new : DeviceHistory) → LeavesOnly old new (TornRing place n image) → LeavesOnly old new (TornBoth place n gate_place image)
first_of_both image S place n gate_place long some old new one =
    widened old new (TornRing place n image) (TornBoth place n gate_place image) one
    (λ c torn. (c, torn, not_written c S (torn.2.as_long ∙ long) some gate_place 1 (omega (arith, some))))

pub gate_leaves : {E : Type 0} (r : Result Unit E) (mid new : DeviceHistory) (image : List ℕ) (S place n gate_place gate : ℕ) → length image ≡ 4096 + S → 0 < S
    → ((d : List ℕ) → may_leave mid d → TornRing place n image d) → Writes (4096 + gate_place % S) (gate ∷ []) r mid new → LeavesOnly mid new (TornBoth place n gate_place image)
gate_leaves r mid new image S place n gate_place gate long some one w =
    let lt : gate_place % S < S = mod-lt gate_place some in
    write_leaves (4096 + gate_place % S) (gate ∷ []) r mid new (TornBoth place n gate_place image) w
    (λ c d left torn.
    let first = one d left in
    (d, first, write_torn d S (first.2.as_long ∙ long) some gate_place 1 c (omega (arith, lt)) torn))

-- both are written, and synced
pub both_stand : {E : Type 0} (r : Result Unit E) (old mid gated new : DeviceHistory) (S place gate_place gate : ℕ) (bytes : List ℕ) → length (seen old) ≡ 4096 + S → 0 < S
    → IsRingWritten place bytes (seen old) (seen mid) → gated ≡ noted mid (wrote (4096 + gate_place % S) (gate ∷ [])) → Syncs r gated new → OnOk r (StandsBothWritten new place bytes gate_place gate (seen old))
both_stand (Err e) old mid gated new S place gate_place gate bytes long some one w is = tt
both_stand (Ok u) old mid gated new S place gate_place gate bytes long some one w is =
    let lt : gate_place % S < S = mod-lt gate_place some in
    let seen_new : seen new ≡ overwritten (seen mid) (4096 + gate_place % S) (gate ∷ []) = ap (λ (h : DeviceHistory). seen h) is ∙ ap (λ (h : DeviceHistory). seen h) w in (
      seen mid,
      seen new,
      record { read = refl; only = λ c left. subst (λ (h : DeviceHistory). may_leave h c) is left ∙ sym (ap (λ (h : DeviceHistory). seen h) is) },
      one,
      subst (IsRingWritten gate_place (gate ∷ []) (seen mid)) (sym seen_new) (image_written (seen mid) S (one.as_long ∙ long) some (gate ∷ []) gate_place (omega (arith, lt))),
    )

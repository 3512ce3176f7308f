-- An anchor's bytes, and which of two counts.
use Rattle.std.proofs.Common.{◌≡◌, ◌≢◌, ◌⊎◌, inl, inr, ℕ, ◌+◌, ◌-◌, ◌*◌, ◌^◌, ◌≤◌, Bool, true, false, ◌&&◌, ◌||◌, ◌==◌, nat_le, List, [], ◌∷◌, ◌++◌, length, take, drop, replicate, slice_index, Some, None, Ok, Err, refl, sym, ap, subst, ◌∙◌, arith, length-take, length-drop, take-append-drop, if◌then◌else◌}
use Rattle.std.proofs.lemmas.Bool.{and_parts, and_from, or_cases, or_left, or_right, eqb-true, eqb-false, eq-eqb, leb-true, le-leb}
use Rattle.std.proofs.lemmas.Bool.Decides.{nat_tests}
use Rattle.std.proofs.lemmas.List.{drop_more, drop-drop, nil_from_length}
use Rattle.byteorder.specs.Endian.{little_bytes}
use Rattle.shore_gate.specs.declared.gates.TheConstants.{OPEN}
use Rattle.shore_gate.specs.declared.anchors.Anchor.{Anchor}
use Rattle.shore_gate.specs.declared.anchors.Slot.{Slot}
use Rattle.shore_gate.specs.Numbers.{number_at, are_zero}
use Rattle.shore_gate.specs.Checks.{is_within}
use Rattle.shore_gate.specs.Anchor.{anchor_bytes, MayCount, HoldsAnchor, anchor_at, damaged, open_anchor, may_count}
use Rattle.shore_gate.proofs.NumberLemmas.{IsBytes, text_at, drop-text, number_at-text, number_at-lt, zeros_are, zeros_again}
use Rattle.shore_gate.proofs.CheckLemmas.{within, is_within-true}

-- the numbers of an anchor, one after another
abbrev numbers_of : Anchor → List ℕ
numbers_of anchor = little_bytes 8 anchor.sequence ++ (little_bytes 8 anchor.checkpoint ++ (little_bytes 8 anchor.tail ++ (little_bytes 8 anchor.tail_place ++ [])))

anchor_bytes-numbers : (anchor : Anchor) → anchor_bytes anchor ≡ replicate 7 0 ++ numbers_of anchor
unfolding anchor_bytes
anchor_bytes-numbers anchor = refl

-- bytes behind an open gate, with their zeros, hold the anchor of their numbers
opened : (bytes : List ℕ) → length bytes ≡ 40 → IsBytes bytes → slice_index bytes 0 ≡ OPEN → are_zero (take 7 (drop 1 bytes)) ≡ true → HoldsAnchor bytes (anchor_at bytes)
opened bytes long fits gate zeros =
    let left : drop 40 bytes ≡ [] = nil_from_length (drop 40 bytes) (omega (arith, length-drop 40 bytes)) in
    let t32 = text_at bytes 32 8 40 (number_at bytes 32 8) [] fits refl (omega arith) refl left in
    let t24 = text_at bytes 24 8 32 (number_at bytes 24 8) _ fits refl (omega arith) refl t32 in
    let t16 = text_at bytes 16 8 24 (number_at bytes 16 8) _ fits refl (omega arith) refl t24 in
    let t8 = text_at bytes 8 8 16 (number_at bytes 8 8) _ fits refl (omega arith) refl t16 in
    let seven : length (take 7 (drop 1 bytes)) ≡ 7 = omega (arith, length-take 7 (drop 1 bytes), length-drop 1 bytes) in
    let front : take 7 (drop 1 bytes) ≡ replicate 7 0 = zeros_are (take 7 (drop 1 bytes)) zeros ∙ ap (λ (n : ℕ). replicate n 0) seven in
    let behind : drop 1 bytes ≡ replicate 7 0 ++ drop 8 bytes = sym (take-append-drop 7 (drop 1 bytes)) ∙ ap (λ (z : List ℕ). z ++ drop 7 (drop 1 bytes)) front ∙ ap (λ (r : List ℕ). replicate 7 0 ++ r) (drop-drop 7 1 bytes) in
    record {
      fits = record { sequence = omega (arith, number_at-lt bytes 8 8 fits); checkpoint = omega (arith, number_at-lt bytes 16 8 fits); tail = omega (arith, number_at-lt bytes 24 8 fits); tail_place = omega (arith, number_at-lt bytes 32 8 fits) };
      text = drop_more bytes 0 0 (omega arith) ∙ ap (λ (g : ℕ). g ∷ drop 1 bytes) gate ∙ ap (λ (r : List ℕ). OPEN ∷ r) (behind ∙ ap (λ (r : List ℕ). replicate 7 0 ++ r) t8 ∙ sym (anchor_bytes-numbers (anchor_at bytes)));
    }

-- and an anchor's bytes are read as that anchor
pub record ReadsAnchor (bytes : List ℕ) (anchor : Anchor) : Type 0 where
  pub gate : slice_index bytes 0 ≡ OPEN
  pub zeros : are_zero (take 7 (drop 1 bytes)) ≡ true
  pub numbers : anchor_at bytes ≡ anchor

holds_read : (bytes : List ℕ) (anchor : Anchor) → HoldsAnchor bytes anchor → ReadsAnchor bytes anchor
holds_read bytes anchor holds =
    let text : bytes ≡ OPEN ∷ (replicate 7 0 ++ numbers_of anchor) = holds.text ∙ ap (λ (b : List ℕ). OPEN ∷ b) (anchor_bytes-numbers anchor) in
    let t8 : drop 8 bytes ≡ numbers_of anchor = ap (drop 8) text in
    let t16 = drop-text bytes 8 8 16 anchor.sequence _ t8 refl in
    let t24 = drop-text bytes 16 8 24 anchor.checkpoint _ t16 refl in
    let t32 = drop-text bytes 24 8 32 anchor.tail _ t24 refl in
    let s = number_at-text bytes 8 8 anchor.sequence _ t8 (omega (arith, holds.fits.sequence)) in
    let c = number_at-text bytes 16 8 anchor.checkpoint _ t16 (omega (arith, holds.fits.checkpoint)) in
    let t = number_at-text bytes 24 8 anchor.tail _ t24 (omega (arith, holds.fits.tail)) in
    let p = number_at-text bytes 32 8 anchor.tail_place _ t32 (omega (arith, holds.fits.tail_place)) in
    record {
      gate = ap (λ (b : List ℕ). slice_index b 0) text;
      zeros = ap (λ (b : List ℕ). are_zero (take 7 (drop 1 b))) text ∙ zeros_again 7;
      numbers = rw (s, c, t, p) refl;
    }

-- the three cases of a slot
some_of : (gate zeros : Bool) (slot : Slot) (read found : Anchor) → (if gate then (if zeros then Ok (Some read) else Err (damaged slot)) else Ok None) ≡ Ok (Some found) → (gate ≡ true) × (zeros ≡ true) × (read ≡ found)
some_of true true slot read found e = (refl, refl, cc)
some_of true false slot read found e = absurd cc
some_of false zeros slot read found e = absurd cc

none_of : (gate zeros : Bool) (slot : Slot) (read : Anchor) → (if gate then (if zeros then Ok (Some read) else Err (damaged slot)) else Ok None) ≡ Ok None → gate ≡ false
none_of true true slot read e = absurd cc
none_of true false slot read e = absurd cc
none_of false zeros slot read e = refl

pub open_some : (slot : Slot) (bytes : List ℕ) (anchor : Anchor) → length bytes ≡ 40 → IsBytes bytes → open_anchor slot bytes ≡ Ok (Some anchor) → HoldsAnchor bytes anchor
open_some slot bytes anchor long fits read =
    let parts = some_of (slice_index bytes 0 == OPEN) (are_zero (take 7 (drop 1 bytes))) slot (anchor_at bytes) anchor read in
    subst (HoldsAnchor bytes) parts.2 (opened bytes long fits (eqb-true (slice_index bytes 0) OPEN parts.0) parts.1)

pub open_none : (slot : Slot) (bytes : List ℕ) → open_anchor slot bytes ≡ Ok None → slice_index bytes 0 ≢ OPEN
open_none slot bytes read = eqb-false (slice_index bytes 0) OPEN (none_of (slice_index bytes 0 == OPEN) (are_zero (take 7 (drop 1 bytes))) slot (anchor_at bytes) read)

pub holds_open : (slot : Slot) (bytes : List ℕ) (anchor : Anchor) → HoldsAnchor bytes anchor → open_anchor slot bytes ≡ Ok (Some anchor)
holds_open slot bytes anchor holds =
    let reads = holds_read bytes anchor holds in
    rw (eq-eqb (slice_index bytes 0) OPEN reads.gate, reads.zeros, reads.numbers) refl

pub closed_open : (slot : Slot) (bytes : List ℕ) → slice_index bytes 0 ≢ OPEN → open_anchor slot bytes ≡ Ok None
closed_open slot bytes closed =
    let test : (slice_index bytes 0 == OPEN) ≡ false = grind (arith, nat_tests) in
    rw test refl

-- the limits, as a test and as facts
pub limits_of : (anchor : Anchor) → may_count anchor ≡ true → MayCount anchor
limits_of anchor test =
    let tail = is_within 1 (2 ^ 46 + 2 ^ 32) anchor.tail in
    let offset = nat_le anchor.tail_place (65549 * (anchor.tail - 1)) in
    let sequence = is_within 1 (anchor.checkpoint + 1) anchor.sequence in
    let last = and_parts (tail && offset && sequence) ((anchor.checkpoint == 0) || nat_le anchor.tail anchor.checkpoint) test in
    let third = and_parts (tail && offset) sequence last.0 in
    let second = and_parts tail offset third.0 in
    let tails = within 1 (2 ^ 46 + 2 ^ 32) anchor.tail second.0 in
    let sequences = within 1 (anchor.checkpoint + 1) anchor.sequence third.1 in
    record {
      some_tail = tails.0;
      most_tail = tails.1;
      offset = leb-true anchor.tail_place (65549 * (anchor.tail - 1)) second.1;
      some_sequence = sequences.0;
      most_sequence = sequences.1;
      checkpoint = elim (or_cases (anchor.checkpoint == 0) (nat_le anchor.tail anchor.checkpoint) last.1) [
        | inl none ↦ inl (eqb-true anchor.checkpoint 0 none)
        | inr some ↦ inr (leb-true anchor.tail anchor.checkpoint some)
      ];
    }

or_of : (checkpoint tail : ℕ) → (checkpoint ≡ 0) ⊎ (tail ≤ checkpoint) → ((checkpoint == 0) || nat_le tail checkpoint) ≡ true
or_of checkpoint tail (inl none) = or_left (checkpoint == 0) (nat_le tail checkpoint) (eq-eqb checkpoint 0 none)
or_of checkpoint tail (inr some) = or_right (checkpoint == 0) (nat_le tail checkpoint) (le-leb tail checkpoint some)

pub test_of : (anchor : Anchor) → MayCount anchor → may_count anchor ≡ true
test_of anchor may =
    and_from _ _ (and_from _ _ (and_from _ _ (is_within-true 1 (2 ^ 46 + 2 ^ 32) anchor.tail may.some_tail may.most_tail) (le-leb anchor.tail_place (65549 * (anchor.tail - 1)) may.offset))
    (is_within-true 1 (anchor.checkpoint + 1) anchor.sequence may.some_sequence may.most_sequence)) (or_of anchor.checkpoint anchor.tail may.checkpoint)

-- The front of a log device, in parts.
use Rattle.std.proofs.Common.{◌≡◌, inl, inr, ℕ, zero, suc, ◌+◌, ◌-◌, ◌^◌, ◌<◌, ◌≤◌, List, [], ◌∷◌, ◌++◌, length, take, drop, replicate, slice_index, Result, refl, sym, ◌∙◌, ap, subst, arith, append_assoc, length-append}
use Rattle.std.proofs.lemmas.Bool.{cases_eq}
use Rattle.std.proofs.lemmas.List.{take_at, take_all, take-take, drop_at, drop-drop, drop-take, length-replicate}
use Rattle.shore_types.specs.declared.faults.Device.TheVariants.{Log}
use Rattle.shore_types.specs.declared.layout.Geometry.{Geometry}
use Rattle.shore_types.specs.Layout.{IsInLimits}
use Rattle.shore_disk.specs.Device.{DeviceHistory, overwritten, Torn, TornFrom, Writes, Stands, LeavesOnly}
use Rattle.shore_disk.proofs.Images.{overwritten-append}
use Rattle.shore_disk.proofs.Moments.{at_end, started, joined, widened, write_leaves}
use Rattle.shore_gate.specs.declared.gates.TheConstants.{OPEN, CLOSED}
use Rattle.shore_gate.specs.declared.anchors.Slot.{Slot}
use Rattle.shore_gate.specs.declared.anchors.Slot.TheVariants.{A, B}
use Rattle.shore_gate.specs.declared.labels.Label.{Label}
use Rattle.shore_gate.specs.Label.{HoldsLabel, label_bytes}
use Rattle.shore_gate.specs.Anchor.{HoldsAnchor, IsOlder, anchor_bytes, other_of, slot_bytes}
use Rattle.shore_gate.proofs.WidthLemmas.{length-label_bytes, length-anchor_bytes}
use Rattle.shore_frames.specs.Places.{stream_of}
use Rattle.shore_frames.proofs.Turns.{whole_stream}
use Rattle.shore_fronts.specs.Fronts.{HasFront, IsLogLength, first_anchor, log_label}
use Rattle.shore_format.specs.Fronts.{LogStandsFor, behind_label, IsShut, LeftByFormat}

-- zeros up to a length
pub filled : (bytes : List ℕ) (n m len : ℕ) → length bytes ≡ m → len ≡ m → m ≤ n → take n bytes ++ replicate (n - len) 0 ≡ bytes ++ replicate (n - m) 0
filled bytes n m len long same le = rw (take_all n bytes (omega arith), same) refl

-- ---- behind a closed gate

pub shut : (image rest : List ℕ) → image ≡ CLOSED ∷ rest → IsShut image
shut image rest is = (CLOSED, rest, omega arith, is)

-- a write behind the gate, cut short or not, leaves it closed
pub shut_torn : (at n : ℕ) (d c : List ℕ) → 1 ≤ at → IsShut d → Torn at n d c → IsShut c
shut_torn zero n d c some s torn = absurd (omega arith)
shut_torn (suc at) n d c some s (inl same) = subst IsShut (sym same) s
shut_torn (suc at) n d c some s (inr torn) =
    (s.0, take at s.1 ++ torn.0 ++ drop (suc at + length torn.0) (s.0 ∷ s.1), s.2, torn.2 ∙ ap (λ (l : List ℕ). overwritten l (suc at) torn.0) s.3)

pub shut_label : (d c : List ℕ) → IsShut d → Torn 1 511 d c → IsShut c
shut_label d c s (inl same) = subst IsShut (sym same) s
shut_label d c s (inr torn) = (s.0, torn.0 ++ drop (length torn.0) s.1, s.2, torn.2 ∙ ap (λ (l : List ℕ). overwritten l 1 torn.0) s.3 ∙ overwritten-append (s.0 ∷ []) s.1 1 torn.0 refl)

pub shut_rest : (n : ℕ) (d c : List ℕ) → IsShut d → Torn 512 n d c → IsShut c
shut_rest n d c s (inl same) = subst IsShut (sym same) s
shut_rest n d c s (inr torn) = (s.0, take 511 s.1 ++ torn.0 ++ drop (512 + length torn.0) (s.0 ∷ s.1), s.2, torn.2 ∙ ap (λ (l : List ℕ). overwritten l 512 torn.0) s.3)

pub label_leaves : {E : Type 0} (bytes : List ℕ) (r : Result Unit E) (old new : DeviceHistory) (rest : List ℕ) → length bytes ≡ 511 → Stands old (CLOSED ∷ rest) → Writes 1 bytes r old new → LeavesOnly old new IsShut
label_leaves bytes r old new rest long stands writes =
    write_leaves 1 bytes r old new IsShut writes (λ c d left torn. shut_label d c (shut d rest (stands.only d left)) (subst (λ n. Torn 1 n d c) long torn))

pub rest_leaves : (n : ℕ) (a b c : DeviceHistory) → LeavesOnly a b IsShut → LeavesOnly b c (TornFrom 512 n b) → LeavesOnly a c IsShut
rest_leaves n a b c one two =
    joined a b c IsShut one (widened b c (TornFrom 512 n b) IsShut two (λ i torn. shut_rest n torn.0 i (at_end a b IsShut one torn.0 torn.1) torn.2))

-- what stands once both are written
pub written_front : (rest label behind : List ℕ) → length label ≡ 511 → length behind ≡ 3585
    → overwritten (overwritten (CLOSED ∷ rest) 1 label) 512 behind ≡ CLOSED ∷ (label ++ (behind ++ drop 4096 rest))
written_front rest label behind long wide =
    ap (λ (l : List ℕ). overwritten l 512 behind) (overwritten-append (CLOSED ∷ []) rest 1 label refl)
    ∙ overwritten-append (CLOSED ∷ label) (drop (length label) rest) 512 behind (omega (arith, long))
    ∙ ap (λ (l : List ℕ). CLOSED ∷ (label ++ (behind ++ l))) (ap (λ n. drop n (drop (length label) rest)) wide ∙ ap (λ n. drop 3585 (drop n rest)) long ∙ drop-drop 3585 511 rest)

-- ---- the parts of a front

module _ (L Z1 N Z2 Z3 tail : List ℕ) (l : length L ≡ 511) (z1 : length Z1 ≡ 512) (n : length N ≡ 40) (z2 : length Z2 ≡ 984) (z3 : length Z3 ≡ 2047) where
  abbrev image : List ℕ
  image = OPEN ∷ (L ++ ((Z1 ++ (N ++ (Z2 ++ (CLOSED ∷ (Z3 ++ CLOSED ∷ []))))) ++ tail))

  part_label : take 512 image ≡ OPEN ∷ L
  part_label = take_at (OPEN ∷ L) ((Z1 ++ (N ++ (Z2 ++ (CLOSED ∷ (Z3 ++ CLOSED ∷ []))))) ++ tail) 512 (omega (arith, l))

  from_first : image ≡ (OPEN ∷ (L ++ Z1)) ++ (N ++ (Z2 ++ (CLOSED ∷ (Z3 ++ CLOSED ∷ tail))))
  from_first = simp append_assoc

  part_first : take 40 (drop 1024 image) ≡ N
  part_first = ap (take 40) (ap (drop 1024) from_first ∙ drop_at (OPEN ∷ (L ++ Z1)) (N ++ (Z2 ++ (CLOSED ∷ (Z3 ++ CLOSED ∷ tail)))) 1024 (omega (arith, length-append L Z1, l, z1)))
      ∙ take_at N (Z2 ++ (CLOSED ∷ (Z3 ++ CLOSED ∷ tail))) 40 n

  from_second : image ≡ (OPEN ∷ (L ++ (Z1 ++ (N ++ Z2)))) ++ (CLOSED ∷ (Z3 ++ CLOSED ∷ tail))
  from_second = simp append_assoc

  part_second : drop 2048 image ≡ CLOSED ∷ (Z3 ++ CLOSED ∷ tail)
  part_second = ap (drop 2048) from_second
      ∙ drop_at (OPEN ∷ (L ++ (Z1 ++ (N ++ Z2)))) (CLOSED ∷ (Z3 ++ CLOSED ∷ tail)) 2048 (omega (arith, length-append L (Z1 ++ (N ++ Z2)), length-append Z1 (N ++ Z2), length-append N Z2, l, z1, n, z2))

  from_stream : image ≡ (OPEN ∷ (L ++ (Z1 ++ (N ++ (Z2 ++ (CLOSED ∷ Z3)))))) ++ (CLOSED ∷ tail)
  from_stream = simp append_assoc

  part_stream : drop 4096 image ≡ CLOSED ∷ tail
  part_stream = ap (drop 4096) from_stream
      ∙ drop_at (OPEN ∷ (L ++ (Z1 ++ (N ++ (Z2 ++ (CLOSED ∷ Z3)))))) (CLOSED ∷ tail) 4096
      (omega (arith, length-append L (Z1 ++ (N ++ (Z2 ++ (CLOSED ∷ Z3)))), length-append Z1 (N ++ (Z2 ++ (CLOSED ∷ Z3))), length-append N (Z2 ++ (CLOSED ∷ Z3)), length-append Z2 (CLOSED ∷ Z3), l, z1, n, z2, z3))

-- the log of no record stands behind an open gate
pub formatted : (g : Geometry) (device_bytes : ℕ) (tail : List ℕ) → g.pair < 2 ^ 64 → IsLogLength g.version device_bytes → IsInLimits g
    → LogStandsFor g device_bytes [] (OPEN ∷ (label_bytes Log (log_label g device_bytes) ++ (behind_label ++ tail)))
unfolding behind_label
formatted g device_bytes tail pair fits limits =
    let L = label_bytes Log (log_label g device_bytes) in
    let Z1 = replicate {A = ℕ} 512 0 in
    let N = OPEN ∷ anchor_bytes first_anchor in
    let Z2 = replicate {A = ℕ} 984 0 in
    let Z3 = replicate {A = ℕ} 2047 0 in
    let l : length L ≡ 511 = length-label_bytes Log (log_label g device_bytes) limits.0.count in
    let z1 : length Z1 ≡ 512 = length-replicate {A = ℕ} 512 0 in
    let n : length N ≡ 40 = omega (arith, length-anchor_bytes first_anchor) in
    let z2 : length Z2 ≡ 984 = length-replicate {A = ℕ} 984 0 in
    let z3 : length Z3 ≡ 2047 = length-replicate {A = ℕ} 2047 0 in
    let closed : take 40 (drop 2048 (image L Z1 N Z2 Z3 tail l z1 n z2 z3)) ≡ CLOSED ∷ take 39 (Z3 ++ CLOSED ∷ tail) = ap (take 40) (part_second L Z1 N Z2 Z3 tail l z1 n z2 z3) in
    record {
      front = record {
        label = record {
          limits = record {
            pair = pair;
            of_device = refl;
            as_long = fits;
            least_locks = limits.1.0;
            most_locks = limits.1.1;
            some_store = limits.0.some;
            most_stores = limits.0.count;
            some_page = limits.0.each;
            most_pages = limits.0.together;
          };
          text = part_label L Z1 N Z2 Z3 tail l z1 n z2 z3;
        };
        slot = A;
        anchor = record {
          here = record {
            fits = record { sequence = omega arith; checkpoint = omega arith; tail = omega arith; tail_place = omega arith };
            text = part_first L Z1 N Z2 Z3 tail l z1 n z2 z3;
          };
          older = inl (λ is. let shut : CLOSED ≡ OPEN = sym (ap (λ (b : List ℕ). slice_index b 0) closed) ∙ is in absurd (omega (arith, shut)));
          limits = record { some_tail = omega arith; most_tail = omega arith; offset = omega arith; some_sequence = omega arith; most_sequence = omega arith; checkpoint = inl refl };
        };
      };
      log = ([], (CLOSED, tail, (λ is. absurd (omega (arith, is))), whole_stream (stream_of (image L Z1 N Z2 Z3 tail l z1 n z2 z3)) ∙ part_stream L Z1 N Z2 Z3 tail l z1 n z2 z3), refl);
      long = fits;
    }

pub made : (g : Geometry) (device_bytes : ℕ) (label : Label) (tail : List ℕ) → label ≡ log_label g device_bytes → label.pair < 2 ^ 64 → IsLogLength g.version device_bytes → IsInLimits g
    → LogStandsFor g device_bytes [] (OPEN ∷ (label_bytes Log label ++ (behind_label ++ tail)))
made g device_bytes label tail is pair fits limits =
    subst (λ (l : Label). LogStandsFor g device_bytes [] (OPEN ∷ (label_bytes Log l ++ (behind_label ++ tail)))) (sym is)
    (formatted g device_bytes tail (let same : label.pair ≡ g.pair = ap (λ (l : Label). l.pair) is in omega (arith, same, pair)) fits limits)

-- ---- the moments of a format

pub one_byte : (bytes : List ℕ) → length bytes ≡ 1 → (b : ℕ) × (bytes ≡ b ∷ [])
one_byte [] is = absurd (omega arith)
one_byte (b ∷ []) is = (b, refl)
one_byte (b ∷ d ∷ bytes) is = absurd (omega arith)

module _ (Made : List ℕ → Type 0) where
  -- before the first call
  pub untouched : (h : DeviceHistory) → LeavesOnly h h (LeftByFormat Made h)
  untouched h = started h (LeftByFormat Made h) (λ c left. inl (c, left, inl refl))

  -- as the gate is closed
  pub gate_closing : (a b : DeviceHistory) → LeavesOnly a b (TornFrom 0 1 a) → LeavesOnly a b (LeftByFormat Made a)
  gate_closing a b one = widened a b (TornFrom 0 1 a) (LeftByFormat Made a) one (λ i torn. inl torn)

  -- while it is closed
  pub closing : (a b c : DeviceHistory) → LeavesOnly a b (TornFrom 0 1 a) → LeavesOnly b c IsShut → LeavesOnly a c (LeftByFormat Made a)
  closing a b c one two = joined a b c (LeftByFormat Made a) (gate_closing a b one) (widened b c IsShut (LeftByFormat Made a) two (λ i s. inr (inl s)))

  any_gate : (h : DeviceHistory) (gate : ℕ) (rest : List ℕ) → Made (OPEN ∷ rest) → LeftByFormat Made h (gate ∷ rest)
  any_gate h gate rest made = elim (cases_eq gate OPEN) [
    | inl is_open ↦ inr (inr (subst (λ b. Made (b ∷ rest)) (sym is_open) made))
    | inr other ↦ inr (inl (gate, rest, other, refl))
  ]

  gate_torn : (h : DeviceHistory) (rest c : List ℕ) → Made (OPEN ∷ rest) → Torn 0 1 (CLOSED ∷ rest) c → LeftByFormat Made h c
  gate_torn h rest c made (inl same) = subst (LeftByFormat Made h) (sym same) (any_gate h CLOSED rest made)
  gate_torn h rest c made (inr torn) =
      let b = one_byte torn.0 torn.1 in
      let is : c ≡ b.0 ∷ rest = torn.2 ∙ ap (λ (l : List ℕ). overwritten (CLOSED ∷ rest) 0 l) b.1 in
      subst (LeftByFormat Made h) (sym is) (any_gate h b.0 rest made)

  -- and as it is opened
  pub opening : (a b c : DeviceHistory) (rest : List ℕ) → LeavesOnly a b (LeftByFormat Made a) → Stands b (CLOSED ∷ rest) → Made (OPEN ∷ rest) → LeavesOnly b c (TornFrom 0 1 b) → LeavesOnly a c (LeftByFormat Made a)
  opening a b c rest one stands made two =
      joined a b c (LeftByFormat Made a) one (widened b c (TornFrom 0 1 b) (LeftByFormat Made a) two (λ i torn. gate_torn a rest i made (subst (λ d. Torn 0 1 d i) (stands.only torn.0 torn.1) torn.2)))

-- ---- the front of another image

slot_within : (p m : ℕ) (image : List ℕ) → 40 ≤ m → take 40 (drop p image) ≡ take 40 (drop p (take (p + m) image))
slot_within p m image le = sym (ap (take 40) (drop-take p m image) ∙ take-take 40 m (drop p image) le)

pub same_slot : (slot : Slot) (image c : List ℕ) → take 4096 c ≡ take 4096 image → slot_bytes slot c ≡ slot_bytes slot image
same_slot A image c same = slot_within 1024 3072 c (omega arith) ∙ ap (λ (l : List ℕ). take 40 (drop 1024 l)) same ∙ sym (slot_within 1024 3072 image (omega arith))
same_slot B image c same = slot_within 2048 2048 c (omega arith) ∙ ap (λ (l : List ℕ). take 40 (drop 2048 l)) same ∙ sym (slot_within 2048 2048 image (omega arith))

-- the front is what the first 4,096 bytes say
pub front_stays : (g : Geometry) (device_bytes : ℕ) (image c : List ℕ) → HasFront g device_bytes image → take 4096 c ≡ take 4096 image → HasFront g device_bytes c
front_stays g device_bytes image c has same =
    let label : take 512 c ≡ take 512 image = sym (take-take 512 4096 c (omega arith)) ∙ ap (take 512) same ∙ take-take 512 4096 image (omega arith) in
    record {
      label = subst (λ (l : List ℕ). HoldsLabel Log device_bytes l (log_label g device_bytes)) (sym label) has.label;
      slot = has.slot;
      anchor = record {
        here = subst (λ (l : List ℕ). HoldsAnchor l first_anchor) (sym (same_slot has.slot image c same)) has.anchor.here;
        older = subst (λ (l : List ℕ). IsOlder l first_anchor.sequence) (sym (same_slot (other_of has.slot) image c same)) has.anchor.older;
        limits = has.anchor.limits;
      };
    }

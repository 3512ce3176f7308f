-- How long labels and anchors are.
use Rattle.std.proofs.Common.{◌≡◌, ℕ, ◌-◌, ◌*◌, ◌≤◌, List, [], ◌∷◌, ◌++◌, length, replicate, refl, arith, length-append}
use Rattle.std.proofs.lemmas.List.{length-replicate}
use Rattle.std.specs.List.{flat_map}
use Rattle.byteorder.specs.Endian.{little_bytes}
use Rattle.shore_types.specs.declared.faults.Device.{Device}
use Rattle.shore_gate.specs.declared.labels.Label.{Label}
use Rattle.shore_gate.specs.declared.anchors.Anchor.{Anchor}
use Rattle.shore_gate.specs.Label.{label_head, label_bytes}
use Rattle.shore_gate.specs.Anchor.{anchor_bytes}

length-words : (numbers : List ℕ) → length (flat_map (little_bytes 4) numbers) ≡ 4 * length numbers
length-words [] = refl
length-words (n ∷ numbers) = omega (arith, length-words numbers)

length-label_head : (device : Device) (label : Label) → length (label_head device label) ≡ 31
unfolding label_head
length-label_head device label = refl

-- a label has 511 bytes behind its gate
pub length-label_bytes : (device : Device) (label : Label) → length label.stores ≤ 64 → length (label_bytes device label) ≡ 511
unfolding label_bytes
length-label_bytes device label few =
    let words = flat_map (little_bytes 4) label.stores in
    let zeros = replicate {A = ℕ} (480 - 4 * length label.stores) 0 in
    omega (arith, length-append (label_head device label ++ words) zeros, length-append (label_head device label) words, length-label_head device label, length-words label.stores, length-replicate {A = ℕ} (480 - 4 * length label.stores) 0)

-- an anchor has 39
pub length-anchor_bytes : (anchor : Anchor) → length (anchor_bytes anchor) ≡ 39
unfolding anchor_bytes
length-anchor_bytes anchor = refl

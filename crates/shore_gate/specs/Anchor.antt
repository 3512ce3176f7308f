-- The two anchors of a log (its master record, in two alternating slots): their bytes, their limits, and which of them counts.
use Rattle.std.specs.Prelude.{◌≡◌, ◌≢◌, ◌⊎◌, ℕ, ◌+◌, ◌-◌, ◌*◌, ◌^◌, ◌<◌, ◌≤◌, Bool, ◌&&◌, ◌||◌, nat_le, nat_lt, ◌==◌, List, ◌∷◌, ◌++◌, take, drop, replicate, slice_index, Option, Some, None, Result, Ok, Err, if◌then◌else◌}
use Rattle.byteorder.specs.Endian.{little_bytes}
use Rattle.shore_types.specs.declared.faults.Device.TheVariants.{Log}
use Rattle.shore_types.specs.declared.faults.Fault.{Fault}
use Rattle.shore_types.specs.declared.faults.Fault.TheVariants.{Damaged}
use Rattle.shore_types.specs.declared.layout.TheConstants.{ANCHOR_A_AT, ANCHOR_B_AT, LAST_OPENED, LONGEST_FRAME}
use Rattle.shore_gate.specs.declared.gates.TheConstants.{OPEN}
use Rattle.shore_gate.specs.declared.anchors.Anchor.{Anchor}
use Rattle.shore_gate.specs.declared.anchors.Anchors.{Anchors}
use Rattle.shore_gate.specs.declared.anchors.Slot.{Slot}
use Rattle.shore_gate.specs.declared.anchors.Slot.TheVariants.{A, B}
use Rattle.shore_gate.specs.Numbers.{number_at, are_zero}
use Rattle.shore_gate.specs.Checks.{is_within}

-- the byte of the log device at which the slot begins
abbrev pub offset_of : Slot → ℕ
offset_of A = ANCHOR_A_AT
offset_of B = ANCHOR_B_AT

abbrev pub other_of : Slot → Slot
other_of A = B
other_of B = A

-- the 40 bytes of a slot
abbrev pub slot_bytes : Slot → List ℕ → List ℕ
slot_bytes slot image = take 40 (drop (offset_of slot) image)

-- the 39 bytes behind the gate
unfoldable pub anchor_bytes : Anchor → List ℕ
anchor_bytes anchor = replicate 7 0 ++ little_bytes 8 anchor.sequence ++ little_bytes 8 anchor.checkpoint ++ little_bytes 8 anchor.tail ++ little_bytes 8 anchor.tail_place

-- four numbers of eight bytes
pub record IsAnchor (anchor : Anchor) : Type 0 where
  pub sequence : anchor.sequence < 2 ^ 64
  pub checkpoint : anchor.checkpoint < 2 ^ 64
  pub tail : anchor.tail < 2 ^ 64
  pub tail_place : anchor.tail_place < 2 ^ 64

-- what the anchor that counts has to be
pub record MayCount (anchor : Anchor) : Type 0 where
  pub some_tail : 1 ≤ anchor.tail
  pub most_tail : anchor.tail ≤ LAST_OPENED
  pub offset : anchor.tail_place ≤ LONGEST_FRAME * (anchor.tail - 1)
  pub some_sequence : 1 ≤ anchor.sequence
  pub most_sequence : anchor.sequence ≤ anchor.checkpoint + 1
  pub checkpoint : (anchor.checkpoint ≡ 0) ⊎ (anchor.tail ≤ anchor.checkpoint)

-- the anchor is in these bytes, behind an open gate
pub record HoldsAnchor (bytes : List ℕ) (anchor : Anchor) : Type 0 where
  pub fits : IsAnchor anchor
  pub text : bytes ≡ OPEN ∷ anchor_bytes anchor

-- behind a closed gate, or an anchor of a smaller sequence
abbrev pub IsOlder : List ℕ → ℕ → Type 0
IsOlder bytes sequence = (slice_index bytes 0 ≢ OPEN) ⊎ ((older : Anchor) × HoldsAnchor bytes older × (older.sequence < sequence))

-- the anchor that counts, in its slot of the log's bytes
pub record Counts (image : List ℕ) (slot : Slot) (anchor : Anchor) : Type 0 where
  pub here : HoldsAnchor (slot_bytes slot image) anchor
  pub older : IsOlder (slot_bytes (other_of slot) image) anchor.sequence
  pub limits : MayCount anchor

-- the numbers behind a gate
abbrev pub anchor_at : List ℕ → Anchor
anchor_at bytes = record { sequence = number_at bytes 8 8; checkpoint = number_at bytes 16 8; tail = number_at bytes 24 8; tail_place = number_at bytes 32 8 }

abbrev pub damaged : Slot → Fault
damaged slot = Damaged Log (offset_of slot)

-- the anchor of a slot, none behind a closed gate
abbrev pub open_anchor : Slot → List ℕ → Result (Option Anchor) Fault
open_anchor slot bytes = if slice_index bytes 0 == OPEN
    then (if are_zero (take 7 (drop 1 bytes)) then Ok (Some (anchor_at bytes)) else Err (damaged slot))
    else Ok None

-- `MayCount` as a test
abbrev pub may_count : Anchor → Bool
may_count anchor = is_within 1 LAST_OPENED anchor.tail && nat_le anchor.tail_place (LONGEST_FRAME * (anchor.tail - 1))
    && is_within 1 (anchor.checkpoint + 1) anchor.sequence && ((anchor.checkpoint == 0) || nat_le anchor.tail anchor.checkpoint)

-- an anchor that counts, if it may
abbrev pub counted : Slot → Anchor → Result Anchors Fault
counted slot anchor = if may_count anchor then Ok (record { slot = slot; anchor = anchor }) else Err (damaged slot)

-- which of the open anchors counts
abbrev pub chosen : Option Anchor → Option Anchor → Result Anchors Fault
chosen None None = Err (damaged A)
chosen (Some a) None = counted A a
chosen None (Some b) = counted B b
chosen (Some a) (Some b) = if a.sequence == b.sequence then Err (damaged B) else (if nat_lt b.sequence a.sequence then counted A a else counted B b)

-- what the bytes of both slots tell: a slot that is open and no anchor comes first
abbrev pub both_chosen : Result (Option Anchor) Fault → Result (Option Anchor) Fault → Result Anchors Fault
both_chosen (Ok a) (Ok b) = chosen a b
both_chosen (Ok a) (Err fault) = Err fault
both_chosen (Err fault) b = Err fault

unfoldable pub anchors_verdict : List ℕ → List ℕ → Result Anchors Fault
anchors_verdict a b = both_chosen (open_anchor A a) (open_anchor B b)

-- the anchor that counts in the log's bytes as read, or what they are refused with
abbrev pub verdict_of : List ℕ → Result Anchors Fault
verdict_of image = anchors_verdict (slot_bytes A image) (slot_bytes B image)

-- Which of two anchors counts.
use Rattle.std.proofs.Common.{◌≡◌, ◌⊎◌, inl, inr, ℕ, ◌<◌, Bool, true, false, ◌==◌, nat_lt, List, length, take, drop, slice_index, Option, Some, None, Result, Ok, Err, IfOk, MatchResult, refl, sym, ap, subst, ◌∙◌, arith, if◌then◌else◌}
use Rattle.std.proofs.lemmas.Bool.{eqb-false, ltb-true, ltb-false}
use Rattle.std.proofs.lemmas.Bool.Decides.{nat_tests}
use Rattle.shore_types.specs.declared.faults.Fault.{Fault}
use Rattle.shore_types.specs.declared.faults.Fault.TheVariants.{Device}
use Rattle.shore_gate.specs.declared.gates.TheConstants.{OPEN}
use Rattle.shore_gate.specs.Numbers.{are_zero}
use Rattle.shore_gate.specs.declared.anchors.Anchor.{Anchor}
use Rattle.shore_gate.specs.declared.anchors.Anchors.{Anchors}
use Rattle.shore_gate.specs.declared.anchors.Slot.{Slot}
use Rattle.shore_gate.specs.declared.anchors.Slot.TheVariants.{A, B}
use Rattle.shore_gate.specs.Anchor.{slot_bytes, anchor_at, IsOlder, Counts, damaged, open_anchor, may_count, counted, chosen, both_chosen, anchors_verdict}
use Rattle.shore_gate.proofs.NumberLemmas.{IsBytes}
use Rattle.shore_gate.proofs.AnchorLemmas.{open_some, open_none, holds_open, closed_open, limits_of, test_of}

abbrev pub made : Slot → Anchor → Anchors
made slot anchor = record { slot = slot; anchor = anchor }

-- an anchor that was taken, if it may count
taken : (may : Bool) (slot s : Slot) (a anchor : Anchor) → (if may then Ok (made slot a) else Err (damaged slot)) ≡ Ok (made s anchor) → (may ≡ true) × (slot ≡ s) × (a ≡ anchor)
taken true slot s a anchor e =
    let same : made slot a ≡ made s anchor = cc in
    (refl, ap (λ (x : Anchors). x.slot) same, ap (λ (x : Anchors). x.anchor) same)
taken false slot s a anchor e = absurd cc

-- the order of two anchors, as the choice tests it
in_order : (same less : Bool) (one two : Result Anchors Fault) (x : Anchors) → (if same then Err (damaged B) else (if less then one else two)) ≡ Ok x
    → (same ≡ false) × (((less ≡ true) × (one ≡ Ok x)) ⊎ ((less ≡ false) × (two ≡ Ok x)))
in_order true less one two x e = absurd cc
in_order false true one two x e = (refl, inl (refl, e))
in_order false false one two x e = (refl, inr (refl, e))

-- the other slot holds nothing that counts, or an older anchor
abbrev IsBehind : Option Anchor → ℕ → Type 0
IsBehind None sequence = Unit {0}
IsBehind (Some other) sequence = other.sequence < sequence

-- what an anchor was chosen by
abbrev IsChosen : Option Anchor → Option Anchor → Anchor → Type 0
IsChosen here there anchor = (here ≡ Some anchor) × IsBehind there anchor.sequence × (may_count anchor ≡ true)

by_counting : (slot s : Slot) (a anchor : Anchor) (there : Option Anchor) → counted slot a ≡ Ok (made s anchor) → IsBehind there a.sequence → IsChosen (Some a) there anchor
by_counting slot s a anchor there e behind =
    let parts = taken (may_count a) slot s a anchor e in
    subst (λ (x : Anchor). IsChosen (Some a) there x) parts.2 (refl, behind, parts.0)

not_other : (a anchor : Anchor) → counted B a ≡ Ok (made A anchor) → ⊥
not_other a anchor e = let parts = taken (may_count a) B A a anchor e in cc (parts.1)

not_this : (a anchor : Anchor) → counted A a ≡ Ok (made B anchor) → ⊥
not_this a anchor e = let parts = taken (may_count a) A B a anchor e in cc (parts.1)

chosen_first : (a b : Option Anchor) (anchor : Anchor) → chosen a b ≡ Ok (made A anchor) → IsChosen a b anchor
chosen_first None None anchor e = absurd cc
chosen_first (Some a) None anchor e = by_counting A A a anchor None e tt
chosen_first None (Some b) anchor e = absurd (not_other b anchor e)
chosen_first (Some a) (Some b) anchor e =
    elim (in_order (a.sequence == b.sequence) (nat_lt b.sequence a.sequence) (counted A a) (counted B b) (made A anchor) e).1 [
      | inl first ↦ by_counting A A a anchor (Some b) first.1 (ltb-true b.sequence a.sequence first.0)
      | inr second ↦ absurd (not_other b anchor second.1)
    ]

chosen_second : (a b : Option Anchor) (anchor : Anchor) → chosen a b ≡ Ok (made B anchor) → IsChosen b a anchor
chosen_second None None anchor e = absurd cc
chosen_second (Some a) None anchor e = absurd (not_this a anchor e)
chosen_second None (Some b) anchor e = by_counting B B b anchor None e tt
chosen_second (Some a) (Some b) anchor e =
    let order = in_order (a.sequence == b.sequence) (nat_lt b.sequence a.sequence) (counted A a) (counted B b) (made B anchor) e in
    let differ = eqb-false a.sequence b.sequence order.0 in
    elim order.1 [
      | inl first ↦ absurd (not_this a anchor first.1)
      | inr second ↦ by_counting B B b anchor (Some a) second.1 (omega (arith, differ, ltb-false b.sequence a.sequence second.0))
    ]

-- what both slots told
both : (a b : Result (Option Anchor) Fault) (x : Anchors) → both_chosen a b ≡ Ok x → (p : Option Anchor) × (q : Option Anchor) × (a ≡ Ok p) × (b ≡ Ok q) × (chosen p q ≡ Ok x)
both (Ok p) (Ok q) x e = (p, q, refl, refl, e)
both (Ok p) (Err fault) x e = absurd cc
both (Err fault) b x e = absurd cc

older_of : (slot : Slot) (bytes : List ℕ) (there : Option Anchor) (sequence : ℕ) → length bytes ≡ 40 → IsBytes bytes → open_anchor slot bytes ≡ Ok there → IsBehind there sequence → IsOlder bytes sequence
older_of slot bytes None sequence long fits read behind = inl (open_none slot bytes read)
older_of slot bytes (Some other) sequence long fits read behind = inr (other, open_some slot bytes other long fits read, behind)

-- the anchor that is answered counts
pub verdict_counts : (image : List ℕ) (slot : Slot) (anchor : Anchor) → length (slot_bytes A image) ≡ 40 → IsBytes (slot_bytes A image) → length (slot_bytes B image) ≡ 40 → IsBytes (slot_bytes B image)
    → anchors_verdict (slot_bytes A image) (slot_bytes B image) ≡ Ok (made slot anchor) → Counts image slot anchor
unfolding anchors_verdict
verdict_counts image A anchor long_a fits_a long_b fits_b e =
    let read = both (open_anchor A (slot_bytes A image)) (open_anchor B (slot_bytes B image)) (made A anchor) e in
    let choice = chosen_first read.0 read.1 anchor read.4 in
    record {
      here = open_some A (slot_bytes A image) anchor long_a fits_a (read.2 ∙ ap (λ (o : Option Anchor). Ok o) choice.0);
      older = older_of B (slot_bytes B image) read.1 anchor.sequence long_b fits_b read.3 choice.1;
      limits = limits_of anchor choice.2;
    }
verdict_counts image B anchor long_a fits_a long_b fits_b e =
    let read = both (open_anchor A (slot_bytes A image)) (open_anchor B (slot_bytes B image)) (made B anchor) e in
    let choice = chosen_second read.0 read.1 anchor read.4 in
    record {
      here = open_some B (slot_bytes B image) anchor long_b fits_b (read.3 ∙ ap (λ (o : Option Anchor). Ok o) choice.0);
      older = older_of A (slot_bytes A image) read.0 anchor.sequence long_a fits_a read.2 choice.1;
      limits = limits_of anchor choice.2;
    }

-- and an anchor that counts is answered
behind_of : (slot : Slot) (bytes : List ℕ) (sequence : ℕ) → IsOlder bytes sequence → (there : Option Anchor) × (open_anchor slot bytes ≡ Ok there) × IsBehind there sequence
behind_of slot bytes sequence (inl closed) = (None, closed_open slot bytes closed, tt)
behind_of slot bytes sequence (inr older) = (Some older.0, holds_open slot bytes older.0 older.1, older.2)

first_chosen : (anchor : Anchor) (there : Option Anchor) → IsBehind there anchor.sequence → may_count anchor ≡ true → chosen (Some anchor) there ≡ Ok (made A anchor)
first_chosen anchor None behind may = rw may refl
first_chosen anchor (Some b) behind may =
    let differ : (anchor.sequence == b.sequence) ≡ false = grind (arith, nat_tests) in
    let less : nat_lt b.sequence anchor.sequence ≡ true = grind (arith, nat_tests) in
    rw (differ, less, may) refl

second_chosen : (anchor : Anchor) (there : Option Anchor) → IsBehind there anchor.sequence → may_count anchor ≡ true → chosen there (Some anchor) ≡ Ok (made B anchor)
second_chosen anchor None behind may = rw may refl
second_chosen anchor (Some a) behind may =
    let differ : (a.sequence == anchor.sequence) ≡ false = grind (arith, nat_tests) in
    let more : nat_lt anchor.sequence a.sequence ≡ false = grind (arith, nat_tests) in
    rw (differ, more, may) refl

pub counts_verdict : (image : List ℕ) (slot : Slot) (anchor : Anchor) → Counts image slot anchor → anchors_verdict (slot_bytes A image) (slot_bytes B image) ≡ Ok (made slot anchor)
unfolding anchors_verdict
counts_verdict image A anchor counts =
    let there = behind_of B (slot_bytes B image) anchor.sequence counts.older in
    ap (λ (r : Result (Option Anchor) Fault). both_chosen r (open_anchor B (slot_bytes B image))) (holds_open A (slot_bytes A image) anchor counts.here)
    ∙ ap (λ (r : Result (Option Anchor) Fault). both_chosen (Ok (Some anchor)) r) there.1
    ∙ first_chosen anchor there.0 there.2 (test_of anchor counts.limits)
counts_verdict image B anchor counts =
    let there = behind_of A (slot_bytes A image) anchor.sequence counts.older in
    ap (λ (r : Result (Option Anchor) Fault). both_chosen r (open_anchor B (slot_bytes B image))) there.1
    ∙ ap (λ (r : Result (Option Anchor) Fault). both_chosen (Ok there.0) r) (holds_open B (slot_bytes B image) anchor counts.here)
    ∙ second_chosen anchor there.0 there.2 (test_of anchor counts.limits)

-- what a call tells that judged these bytes
pub found_of : (a b image : List ℕ) (r : Result Anchors Fault) → length a ≡ 40 → IsBytes a → length b ≡ 40 → IsBytes b → r ≡ anchors_verdict a b → a ≡ slot_bytes A image → b ≡ slot_bytes B image
    → IfOk r (λ x. Counts image x.slot x.anchor)
found_of a b image (Ok x) long_a fits_a long_b fits_b e at_a at_b =
    verdict_counts image x.slot x.anchor (sym (ap length at_a) ∙ long_a) (subst IsBytes at_a fits_a) (sym (ap length at_b) ∙ long_b) (subst IsBytes at_b fits_b)
    (ap (λ (s : List ℕ). anchors_verdict s (slot_bytes B image)) (sym at_a) ∙ ap (anchors_verdict a) (sym at_b) ∙ sym e)
found_of a b image (Err fault) long_a fits_a long_b fits_b e at_a at_b = tt

pub only_of : (image : List ℕ) (r : Result Anchors Fault) (slot : Slot) (anchor : Anchor) → r ≡ anchors_verdict (slot_bytes A image) (slot_bytes B image) → Counts image slot anchor
    → MatchResult r (λ x. x ≡ made slot anchor) (λ fault. fault ≡ Device)
only_of image (Ok x) slot anchor e counts = let same = e ∙ counts_verdict image slot anchor counts in cc
only_of image (Err fault) slot anchor e counts = let same = e ∙ counts_verdict image slot anchor counts in absurd cc

-- what is open, and what counts, is never refused by the device
opened_device : (gate zeros : Bool) (slot : Slot) (read : Anchor) → (if gate then (if zeros then Ok (Some read) else Err (damaged slot)) else Ok None) ≡ Err Device → ⊥
opened_device true true slot read e = cc
opened_device true false slot read e = cc
opened_device false zeros slot read e = cc

counted_device : (may : Bool) (slot : Slot) (a : Anchor) → (if may then Ok (made slot a) else Err (damaged slot)) ≡ Err Device → ⊥
counted_device true slot a e = cc
counted_device false slot a e = cc

order_device : (same less : Bool) (a b : Anchor) → (if same then Err (damaged B) else (if less then counted A a else counted B b)) ≡ Err Device → ⊥
order_device true less a b e = cc
order_device false true a b e = counted_device (may_count a) A a e
order_device false false a b e = counted_device (may_count b) B b e

chosen_device : (a b : Option Anchor) → chosen a b ≡ Err Device → ⊥
chosen_device None None e = cc
chosen_device (Some a) None e = counted_device (may_count a) A a e
chosen_device None (Some b) e = counted_device (may_count b) B b e
chosen_device (Some a) (Some b) e = order_device (a.sequence == b.sequence) (nat_lt b.sequence a.sequence) a b e

both_device : (a b : Result (Option Anchor) Fault) → (a ≡ Err Device → ⊥) → (b ≡ Err Device → ⊥) → both_chosen a b ≡ Err Device → ⊥
both_device (Ok p) (Ok q) one two e = chosen_device p q e
both_device (Ok p) (Err fault) one two e = two cc
both_device (Err fault) b one two e = one cc

open_device : (slot : Slot) (bytes : List ℕ) → open_anchor slot bytes ≡ Err Device → ⊥
open_device slot bytes e = opened_device (slice_index bytes 0 == OPEN) (are_zero (take 7 (drop 1 bytes))) slot (anchor_at bytes) e

pub verdict_device : (a b : List ℕ) → anchors_verdict a b ≡ Err Device → ⊥
unfolding anchors_verdict
verdict_device a b e = both_device (open_anchor A a) (open_anchor B b) (open_device A a) (open_device B b) e

pub verdict_chosen : (a b : List ℕ) (p q : Option Anchor) → Ok p ≡ open_anchor A a → Ok q ≡ open_anchor B b → chosen p q ≡ anchors_verdict a b
unfolding anchors_verdict
verdict_chosen a b p q first second =
    ap (λ (r : Result (Option Anchor) Fault). both_chosen r (Ok q)) first ∙ ap (λ (r : Result (Option Anchor) Fault). both_chosen (open_anchor A a) r) second

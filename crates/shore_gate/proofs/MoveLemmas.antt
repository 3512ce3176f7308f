-- What stands in the slot of the older anchor during a move.
use Rattle.std.proofs.Common.{◌≡◌, ◌≢◌, ◌⊎◌, inl, inr, ⊎_elim, ℕ, zero, suc, ◌+◌, ◌<◌, ◌≤◌, List, [], ◌∷◌, ◌++◌, length, take, drop, replicate, slice_index, refl, sym, ap, subst, ◌∙◌, arith, append_assoc, length-append, length-take, length-drop, take-append-drop, Result, Ok, Err}
use Rattle.std.specs.Prelude.{OnOk}
use Rattle.std.proofs.lemmas.Bool.{cases_eq}
use Rattle.std.proofs.lemmas.List.{drop-drop, drop-take, drop_more, length-take-le, take_at, drop_at, take-append-le}
use Rattle.shore_disk.specs.Device.{DeviceHistory, LeavesOnly, Only, Stands, Torn, TornFrom, may_leave, overwritten, seen}
use Rattle.shore_disk.proofs.Images.{overwritten-append}
use Rattle.shore_disk.proofs.MemoryLemmas.{length_over, part_over}
use Rattle.shore_disk.proofs.Moments.{started, widened}
use Rattle.shore_gate.specs.declared.gates.TheConstants.{OPEN}
use Rattle.shore_gate.specs.declared.anchors.Anchor.{Anchor}
use Rattle.shore_gate.specs.declared.anchors.Anchors.{Anchors}
use Rattle.shore_gate.specs.declared.anchors.Slot.{Slot}
use Rattle.shore_gate.specs.declared.anchors.Slot.TheVariants.{A, B}
use Rattle.shore_gate.specs.Anchor.{Counts, HoldsAnchor, IsAnchor, IsOlder, MayCount, anchor_bytes, offset_of, other_of, slot_bytes}
use Rattle.shore_gate.specs.Moves.{HasInSlot, HasOlderInSlot, IsAmidMove, moved}
use Rattle.shore_gate.proofs.WidthLemmas.{length-anchor_bytes}

-- ---- a write within bytes that stand in an image

-- a write behind the first bytes of what stands there
over_within : (image bytes new : List ℕ) (at k : ℕ) → at + length bytes ≤ length image → k + length new ≤ length bytes
    → overwritten (overwritten image at bytes) (at + k) new ≡ overwritten image at (overwritten bytes k new)
over_within image bytes new at k within inside =
    let front = take at image in
    let head = take k bytes in
    let tail = drop k bytes in
    let rest = drop (at + length bytes) image in
    let front_long : length front ≡ at = length-take-le at image (omega arith) in
    let head_long : length head ≡ k = length-take-le k bytes (omega arith) in
    let long : length (overwritten bytes k new) ≡ length bytes = length_over bytes new k inside in
    let parts : overwritten image at bytes ≡ (front ++ head) ++ (tail ++ rest) =
    ap (λ (l : List ℕ). front ++ l ++ rest) (sym (take-append-drop k bytes))
    ∙ ap (λ (l : List ℕ). l ++ rest) (sym (append_assoc front head tail))
    ∙ append_assoc (front ++ head) tail rest in
    let here : length (front ++ head) ≡ at + k = omega (arith, length-append front head) in
    let left : drop (length new) (tail ++ rest) ≡ drop (k + length new) bytes ++ rest =
    drop_front (length new) tail rest (omega (arith, length-drop k bytes))
    ∙ ap (λ (l : List ℕ). l ++ rest) (drop-drop (length new) k bytes) in
    ap (λ (l : List ℕ). overwritten l (at + k) new) parts
    ∙ overwritten-append (front ++ head) (tail ++ rest) (at + k) new here
    ∙ ap (λ (l : List ℕ). (front ++ head) ++ (new ++ l)) left
    ∙ regroup front head new (drop (k + length new) bytes) rest
    ∙ ap (λ (n : ℕ). front ++ overwritten bytes k new ++ drop (at + n) image) (sym long)
  where
    drop_front : (n : ℕ) (xs ys : List ℕ) → n ≤ length xs → drop n (xs ++ ys) ≡ drop n xs ++ ys
    drop_front zero xs ys le = refl
    drop_front (suc n) [] ys le = absurd (omega arith)
    drop_front (suc n) (x ∷ xs) ys le = drop_front n xs ys (omega arith)

    regroup : (a b c d e : List ℕ) → (a ++ b) ++ (c ++ (d ++ e)) ≡ (a ++ ((b ++ c) ++ d)) ++ e
    regroup a b c d e = simp append_assoc

-- ---- the slots of an image

module _ (image : List ℕ) (long : 2088 ≤ length image) where
  slot_ends : (slot : Slot) → offset_of slot + 40 ≤ length image
  slot_ends A = omega arith
  slot_ends B = omega arith

  pub slot_long : (slot : Slot) → length (slot_bytes slot image) ≡ 40
  slot_long slot = let ends = slot_ends slot in omega (arith, length-take 40 (drop (offset_of slot) image), length-drop (offset_of slot) image)

  -- what stands there may be written again
  pub slot_again : (slot : Slot) → image ≡ overwritten image (offset_of slot) (slot_bytes slot image)
  slot_again slot =
      let at = offset_of slot in
      let here = slot_bytes slot image in
      let size : length here ≡ 40 = slot_long slot in
      sym (take-append-drop at image)
      ∙ ap (λ (l : List ℕ). take at image ++ l) (sym (take-append-drop 40 (drop at image)) ∙ ap (λ (l : List ℕ). here ++ l) (drop-drop 40 at image))
      ∙ sym (append_assoc (take at image) here (drop (at + 40) image))
      ∙ ap (λ (n : ℕ). take at image ++ here ++ drop (at + n) image) (sym size)

  module _ (slot : Slot) (bytes : List ℕ) (size : length bytes ≡ 40) where
    pub slot_here : slot_bytes slot (overwritten image (offset_of slot) bytes) ≡ bytes
    slot_here =
        let ends = slot_ends slot in
        ap (λ (n : ℕ). take n (drop (offset_of slot) (overwritten image (offset_of slot) bytes))) (sym size) ∙ part_over image bytes (offset_of slot) (omega arith)

  -- the other slot is not reached
  pub slot_there : (slot : Slot) (bytes : List ℕ) → length bytes ≡ 40 → slot_bytes (other_of slot) (overwritten image (offset_of slot) bytes) ≡ slot_bytes (other_of slot) image
  slot_there A bytes size =
      let front : List ℕ = take 1024 image ++ bytes in
      let front_long : length front ≡ 1064 = omega (arith, length-append (take 1024 image) bytes, length-take-le 1024 image (omega arith)) in
      let behind : drop 2048 (overwritten image 1024 bytes) ≡ drop 2048 image =
      sym (drop-drop 984 1064 (overwritten image 1024 bytes))
      ∙ ap (drop 984) (drop_at front (drop (1024 + length bytes) image) 1064 front_long ∙ ap (λ (n : ℕ). drop (1024 + n) image) size)
      ∙ drop-drop 984 1064 image in
      ap (take 40) behind
  slot_there B bytes size =
      let front : length (take 2048 image) ≡ 2048 = length-take-le 2048 image (omega arith) in
      let rest : List ℕ = bytes ++ drop (2048 + length bytes) image in
      let same : take 1064 (overwritten image 2048 bytes) ≡ take 1064 image =
      ap (take 1064) (append_assoc (take 2048 image) bytes (drop (2048 + length bytes) image))
      ∙ take-append-le 1064 (take 2048 image) rest (omega arith)
      ∙ take_again 1064 2048 image (omega arith) in
      sym (drop-take 1024 40 (overwritten image 2048 bytes)) ∙ ap (drop 1024) same ∙ drop-take 1024 40 image
    where
      take_again : (k m : ℕ) (l : List ℕ) → k ≤ m → take k (take m l) ≡ take k l
      take_again zero m l le = refl
      take_again (suc k) (suc m) [] le = refl
      take_again (suc k) zero l le = absurd (omega arith)
      take_again (suc k) (suc m) (x ∷ l) le = ap (λ (r : List ℕ). x ∷ r) (take_again k m l (omega arith))

-- ---- which anchor counts

pub other_twice : (slot : Slot) → other_of (other_of slot) ≡ slot
other_twice A = refl
other_twice B = refl

module _ (from : Anchors) (next : Anchor) (before : List ℕ) (long : 2088 ≤ length before) (counts : Counts before from.slot from.anchor) where
  abbrev there : Slot
  there = other_of from.slot

  -- with nothing that counts in the older slot the old one does
  pub old_counts : (image bytes : List ℕ) → HasInSlot there before image bytes → IsOlder bytes from.anchor.sequence → IsAmidMove from next before image
  old_counts image bytes beside older =
      let here : slot_bytes from.slot image ≡ slot_bytes from.slot before =
      subst (λ (s : Slot). slot_bytes s image ≡ slot_bytes s before) (other_twice from.slot) (ap (slot_bytes (other_of there)) beside.is ∙ slot_there before long there bytes beside.long) in
      let in_slot : slot_bytes there image ≡ bytes = ap (slot_bytes there) beside.is ∙ slot_here before long there bytes beside.long in
      record {
        bytes = bytes;
        beside = beside;
        counts = inl (record {
          here = subst (λ (b : List ℕ). HoldsAnchor b from.anchor) (sym here) counts.here;
          older = subst (λ (b : List ℕ). IsOlder b from.anchor.sequence) (sym in_slot) older;
          limits = counts.limits;
        });
      }

  -- with the new one behind an open gate that one does
  pub new_counts : (image bytes : List ℕ) → HasInSlot there before image bytes → HoldsAnchor bytes next → from.anchor.sequence < next.sequence → MayCount next → Counts image there next
  new_counts image bytes beside holds later limits =
      let here : slot_bytes (other_of there) image ≡ slot_bytes (other_of there) before = ap (slot_bytes (other_of there)) beside.is ∙ slot_there before long there bytes beside.long in
      let old : HoldsAnchor (slot_bytes (other_of there) before) from.anchor = subst (λ (s : Slot). HoldsAnchor (slot_bytes s before) from.anchor) (sym (other_twice from.slot)) counts.here in
      let in_slot : slot_bytes there image ≡ bytes = ap (slot_bytes there) beside.is ∙ slot_here before long there bytes beside.long in
      record {
        here = subst (λ (b : List ℕ). HoldsAnchor b next) (sym in_slot) holds;
        older = inr (from.anchor, subst (λ (b : List ℕ). HoldsAnchor b from.anchor) (sym here) old, later);
        limits = limits;
      }

-- ---- the steps of a move

-- what was written or torn within a slot, in which these bytes stood
module _ (slot : Slot) (before : List ℕ) (long : 2088 ≤ length before) (bytes : List ℕ) (size : length bytes ≡ 40) (at k : ℕ) (there : at ≡ offset_of slot + k) where
  pub over_in_slot : (new : List ℕ) → k + length new ≤ 40 → overwritten (overwritten before (offset_of slot) bytes) at new ≡ overwritten before (offset_of slot) (overwritten bytes k new)
  over_in_slot new inside =
      let ends = slot_ends before long slot in
      ap (λ (n : ℕ). overwritten (overwritten before (offset_of slot) bytes) n new) there ∙ over_within before bytes new (offset_of slot) k (omega arith) (omega arith)

  pub torn_in_slot : (n : ℕ) (image : List ℕ) → k + n ≤ 40 → Torn at n (overwritten before (offset_of slot) bytes) image
      → (now : List ℕ) × HasInSlot slot before image now × ((now ≡ bytes) ⊎ ((new : List ℕ) × (length new ≡ n) × (now ≡ overwritten bytes k new)))
  torn_in_slot n image inside (inl same) = (bytes, record { long = size; is = same }, inl refl)
  torn_in_slot n image inside (inr torn) =
      let new = torn.0 in
      let fits : k + length new ≤ 40 = let s = torn.1 in omega arith in (
        overwritten bytes k new,
        record { long = length_over bytes new k (omega arith) ∙ size; is = torn.2 ∙ over_in_slot new fits },
        inr (new, torn.1, refl),
      )

-- a write behind the gate leaves the gate
pub gate_kept : (bytes new : List ℕ) → 1 ≤ length bytes → slice_index (overwritten bytes 1 new) 0 ≡ slice_index bytes 0
gate_kept [] new some = absurd (omega arith)
gate_kept (gate ∷ rest) new some = refl

-- a gate that is closed, or torn: what was older, stays so
pub closing_older : (bytes new : List ℕ) (sequence : ℕ) → length new ≡ 1 → slice_index bytes 0 ≡ OPEN → IsOlder bytes sequence → IsOlder (overwritten bytes 0 new) sequence
closing_older bytes [] sequence one is_open older = absurd (omega arith)
closing_older bytes (gate ∷ []) sequence one is_open older = ⊎_elim
    (λ shut. absurd (shut is_open))
    (λ o. ⊎_elim
    (λ same. inr (o.0, record { fits = o.1.fits; text = ap (λ (g : ℕ). g ∷ drop 1 bytes) same ∙ ap (λ (l : List ℕ). OPEN ∷ drop 1 l) o.1.text }, o.2))
    (λ other. inl other)
    (cases_eq gate OPEN))
    older
closing_older bytes (gate ∷ more ∷ rest) sequence one is_open older = absurd (omega arith)

-- the bytes behind a closed gate are the new anchor's, and the gate is opened, or torn
pub opening : (gate : ℕ) (next : Anchor) (torn : List ℕ) → length torn ≡ 1 → IsAnchor next
    → (slice_index (overwritten (gate ∷ anchor_bytes next) 0 torn) 0 ≢ OPEN) ⊎ HoldsAnchor (overwritten (gate ∷ anchor_bytes next) 0 torn) next
opening gate next [] one fits = absurd (omega arith)
opening gate next (new ∷ []) one fits = ⊎_elim
    (λ same. inr (record { fits = fits; text = ap (λ (g : ℕ). g ∷ anchor_bytes next) same }))
    (λ other. inl other)
    (cases_eq new OPEN)
opening gate next (new ∷ more ∷ rest) one fits = absurd (omega arith)

-- the anchor's bytes, put behind the gate
pub over_behind : (bytes text : List ℕ) → length bytes ≡ 40 → length text ≡ 39 → overwritten bytes 1 text ≡ slice_index bytes 0 ∷ text
over_behind [] text size text_size = absurd (omega arith)
over_behind (gate ∷ rest) text size text_size =
    let none : drop (1 + length text) (gate ∷ rest) ≡ [] = nil_of (drop (1 + length text) (gate ∷ rest)) (omega (arith, length-drop (1 + length text) (gate ∷ rest))) in
    ap (λ (l : List ℕ). gate ∷ (text ++ l)) none ∙ ap (λ (l : List ℕ). gate ∷ l) (append_nil text)
  where
    nil_of : (l : List ℕ) → length l ≡ 0 → l ≡ []
    nil_of [] e = refl
    nil_of (x ∷ l) e = absurd (omega arith)

    append_nil : (l : List ℕ) → l ++ [] ≡ l
    append_nil [] = refl
    append_nil (x ∷ l) = ap (λ (r : List ℕ). x ∷ r) (append_nil l)

-- what follows where a call answered Ok
pub on_ok : {T E : Type 0} (r : Result T E) (P Q : Type 0) → (P → Q) → OnOk r P → OnOk r Q
on_ok (Ok x) P Q f p = f p
on_ok (Err e) P Q f p = p

-- ---- a gate is shut

module _ (slot : Slot) (h new : DeviceHistory) (long : 2088 ≤ length (seen h)) (only : Only (seen h) (may_leave h)) where
  abbrev here : List ℕ
  here = slot_bytes slot (seen h)

  abbrev gate_at : ℕ
  gate_at = offset_of slot

  at_gate : gate_at ≡ gate_at + 0
  at_gate = omega arith

  torn_of : (at n : ℕ) (c : List ℕ) → TornFrom at n h c → Torn at n (overwritten (seen h) gate_at here) c
  torn_of at n c torn = subst (λ (d : List ℕ). Torn at n d c) (only torn.0 torn.1 ∙ slot_again (seen h) long slot) torn.2

  pub closing_moment : (sequence : ℕ) → slice_index here 0 ≡ OPEN → IsOlder here sequence → LeavesOnly h new (TornFrom gate_at 1 h)
      → LeavesOnly h new (HasOlderInSlot slot sequence (seen h))
  closing_moment sequence is_open older moment = widened h new (TornFrom gate_at 1 h) (HasOlderInSlot slot sequence (seen h)) moment
      (λ c torn.
      let t = torn_in_slot slot (seen h) long here (slot_long (seen h) long slot) gate_at 0 at_gate 1 c (omega arith) (torn_of gate_at 1 c torn) in (
        t.0,
        t.1,
        ⊎_elim
            (λ same. subst (λ (b : List ℕ). IsOlder b sequence) (sym same) older)
            (λ w. subst (λ (b : List ℕ). IsOlder b sequence) (sym w.2) (closing_older here w.0 sequence w.1 is_open older))
            t.2,
      ))

  pub zeroing_moment : (sequence : ℕ) → slice_index here 0 ≢ OPEN → LeavesOnly h new (TornFrom (gate_at + 1) 7 h)
      → LeavesOnly h new (HasOlderInSlot slot sequence (seen h))
  zeroing_moment sequence shut moment = widened h new (TornFrom (gate_at + 1) 7 h) (HasOlderInSlot slot sequence (seen h)) moment
      (λ c torn.
      let size = slot_long (seen h) long slot in
      let t = torn_in_slot slot (seen h) long here size (gate_at + 1) 1 refl 7 c (omega arith) (torn_of (gate_at + 1) 7 c torn) in (
        t.0,
        t.1,
        ⊎_elim
            (λ same. subst (λ (b : List ℕ). IsOlder b sequence) (sym same) (inl shut))
            (λ w. subst (λ (b : List ℕ). IsOlder b sequence) (sym w.2) (inl (subst (λ (g : ℕ). g ≢ OPEN) (sym (gate_kept here w.0 (omega (arith, size)))) shut)))
            t.2,
      ))

  pub unchanged_moment : (sequence : ℕ) → IsOlder here sequence → LeavesOnly h h (HasOlderInSlot slot sequence (seen h))
  unchanged_moment sequence older = started h (HasOlderInSlot slot sequence (seen h))
      (λ c left. (here, record { long = slot_long (seen h) long slot; is = only c left ∙ slot_again (seen h) long slot }, older))

  -- it is shut then
  abbrev pub IsShut : Type 0
  IsShut = (bytes : List ℕ) × (length bytes ≡ 40) × (slice_index bytes 0 ≢ OPEN) × Stands new (overwritten (seen h) gate_at bytes)

  over_here : (at k : ℕ) (text : List ℕ) → at ≡ gate_at + k → k + length text ≤ 40 → overwritten (seen h) at text ≡ overwritten (seen h) gate_at (overwritten here k text)
  over_here at k text is inside =
      ap (λ (l : List ℕ). overwritten l at text) (slot_again (seen h) long slot) ∙ over_in_slot slot (seen h) long here (slot_long (seen h) long slot) at k is text inside

  pub closed : Stands new (overwritten (seen h) gate_at (0 ∷ [])) → IsShut
  closed stands =
      (overwritten here 0 (0 ∷ []), length_over here (0 ∷ []) 0 (let s = slot_long (seen h) long slot in omega arith) ∙ slot_long (seen h) long slot, omega arith, subst (Stands new) (over_here gate_at 0 (0 ∷ []) at_gate (omega arith)) stands)

  pub zeroed : (text : List ℕ) → length text ≡ 7 → slice_index here 0 ≢ OPEN → Stands new (overwritten (seen h) (gate_at + 1) text) → IsShut
  zeroed text seven shut stands =
      let size = slot_long (seen h) long slot in (
        overwritten here 1 text,
        length_over here text 1 (omega arith) ∙ size,
        subst (λ (g : ℕ). g ≢ OPEN) (sym (gate_kept here text (omega arith))) shut,
        subst (Stands new) (over_here (gate_at + 1) 1 text refl (omega arith)) stands,
      )

-- .. by a device of the same history, at that byte
module _ (slot : Slot) (h mid new : DeviceHistory) (long : 2088 ≤ length (seen h)) (only : Only (seen h) (may_leave h)) (same : mid ≡ h) (at : ℕ) (is : at ≡ offset_of slot) where
  pub closing_at : (sequence : ℕ) → slice_index (slot_bytes slot (seen h)) 0 ≡ OPEN → IsOlder (slot_bytes slot (seen h)) sequence → LeavesOnly mid new (TornFrom at 1 mid)
      → LeavesOnly mid new (HasOlderInSlot slot sequence (seen h))
  closing_at sequence is_open older moment =
      subst (λ (k : DeviceHistory). LeavesOnly k new (HasOlderInSlot slot sequence (seen h))) (sym same)
      (closing_moment slot h new long only sequence is_open older
      (subst (λ (n : ℕ). LeavesOnly h new (TornFrom n 1 h)) is (subst (λ (k : DeviceHistory). LeavesOnly k new (TornFrom at 1 k)) same moment)))

  pub zeroing_at : (sequence : ℕ) → slice_index (slot_bytes slot (seen h)) 0 ≢ OPEN → LeavesOnly mid new (TornFrom (at + 1) 7 mid)
      → LeavesOnly mid new (HasOlderInSlot slot sequence (seen h))
  zeroing_at sequence shut moment =
      subst (λ (k : DeviceHistory). LeavesOnly k new (HasOlderInSlot slot sequence (seen h))) (sym same)
      (zeroing_moment slot h new long only sequence shut
      (subst (λ (n : ℕ). LeavesOnly h new (TornFrom (n + 1) 7 h)) is (subst (λ (k : DeviceHistory). LeavesOnly k new (TornFrom (at + 1) 7 k)) same moment)))

  pub unchanged_at : (sequence : ℕ) → IsOlder (slot_bytes slot (seen h)) sequence → LeavesOnly h mid (HasOlderInSlot slot sequence (seen h))
  unchanged_at sequence older =
      subst (λ (k : DeviceHistory). LeavesOnly h k (HasOlderInSlot slot sequence (seen h))) (sym same) (unchanged_moment slot h new long only sequence older)

  pub closed_at : {E : Type 0} (r : Result Unit E) → OnOk r (Stands new (overwritten (seen mid) at (0 ∷ []))) → OnOk r (IsShut slot h new long only)
  closed_at r ok = on_ok r (Stands new (overwritten (seen mid) at (0 ∷ []))) (IsShut slot h new long only)
      (λ stands. closed slot h new long only (subst (λ (n : ℕ). Stands new (overwritten (seen h) n (0 ∷ []))) is (subst (λ (k : DeviceHistory). Stands new (overwritten (seen k) at (0 ∷ []))) same stands))) ok

  pub zeroed_at : {E : Type 0} (r : Result Unit E) (text : List ℕ) → length text ≡ 7 → slice_index (slot_bytes slot (seen h)) 0 ≢ OPEN → OnOk r (Stands new (overwritten (seen mid) (at + 1) text))
      → OnOk r (IsShut slot h new long only)
  zeroed_at r text seven shut ok = on_ok r (Stands new (overwritten (seen mid) (at + 1) text)) (IsShut slot h new long only)
      (λ stands. zeroed slot h new long only text seven shut
      (subst (λ (n : ℕ). Stands new (overwritten (seen h) (n + 1) text)) is (subst (λ (k : DeviceHistory). Stands new (overwritten (seen k) (at + 1) text)) same stands))) ok

-- ---- the new anchor is written behind the shut gate, which is opened then

module _ (from : Anchors) (next : Anchor) (before : List ℕ) (long : 2088 ≤ length before) (h new : DeviceHistory) where
  abbrev slot_of_next : Slot
  slot_of_next = other_of from.slot

  pub shutting : Counts before from.slot from.anchor → LeavesOnly h new (HasOlderInSlot slot_of_next from.anchor.sequence before) → LeavesOnly h new (IsAmidMove from next before)
  shutting counts moment = widened h new (HasOlderInSlot slot_of_next from.anchor.sequence before) (IsAmidMove from next before) moment
      (λ c left. old_counts from next before long counts c left.0 left.1 left.2)

  module _ (bytes : List ℕ) (size : length bytes ≡ 40) (shut : slice_index bytes 0 ≢ OPEN) (stands : Stands h (overwritten before (offset_of slot_of_next) bytes)) where
    pub writing : Counts before from.slot from.anchor → LeavesOnly h new (TornFrom (offset_of slot_of_next + 1) 39 h) → LeavesOnly h new (IsAmidMove from next before)
    writing counts moment = widened h new (TornFrom (offset_of slot_of_next + 1) 39 h) (IsAmidMove from next before) moment
        (λ c torn.
        let t = torn_in_slot slot_of_next before long bytes size (offset_of slot_of_next + 1) 1 refl 39 c (omega arith)
        (subst (λ (d : List ℕ). Torn (offset_of slot_of_next + 1) 39 d c) (stands.only torn.0 torn.1) torn.2) in
        old_counts from next before long counts c t.0 t.1 (inl (⊎_elim
        (λ same. subst (λ (b : List ℕ). slice_index b 0 ≢ OPEN) (sym same) shut)
        (λ w. subst (λ (b : List ℕ). slice_index b 0 ≢ OPEN) (sym w.2) (subst (λ (g : ℕ). g ≢ OPEN) (sym (gate_kept bytes w.0 (omega arith))) shut))
        t.2)))

    pub written : (text : List ℕ) → text ≡ anchor_bytes next → Stands new (overwritten (seen h) (offset_of slot_of_next + 1) text)
        → Stands new (overwritten before (offset_of slot_of_next) (slice_index bytes 0 ∷ anchor_bytes next))
    written text is now =
        let size_of = length-anchor_bytes next in
        let all : overwritten (seen h) (offset_of slot_of_next + 1) text ≡ overwritten before (offset_of slot_of_next) (slice_index bytes 0 ∷ anchor_bytes next) =
        ap (λ (l : List ℕ). overwritten l (offset_of slot_of_next + 1) text) stands.read
        ∙ ap (λ (t : List ℕ). overwritten (overwritten before (offset_of slot_of_next) bytes) (offset_of slot_of_next + 1) t) is
        ∙ over_in_slot slot_of_next before long bytes size (offset_of slot_of_next + 1) 1 refl (anchor_bytes next) (omega arith)
        ∙ ap (overwritten before (offset_of slot_of_next)) (over_behind bytes (anchor_bytes next) size size_of) in
        subst (Stands new) all now

  module _ (gate : ℕ) (shut : gate ≢ OPEN) (stands : Stands h (overwritten before (offset_of slot_of_next) (gate ∷ anchor_bytes next))) where
    full : length (gate ∷ anchor_bytes next) ≡ 40
    full = let s = length-anchor_bytes next in omega arith

    pub opening_moment : Counts before from.slot from.anchor → IsAnchor next → from.anchor.sequence < next.sequence → MayCount next → LeavesOnly h new (TornFrom (offset_of slot_of_next) 1 h) → LeavesOnly h new (IsAmidMove from next before)
    opening_moment counts fits later limits moment = widened h new (TornFrom (offset_of slot_of_next) 1 h) (IsAmidMove from next before) moment
        (λ c torn.
        let at = offset_of slot_of_next in
        let t = torn_in_slot slot_of_next before long (gate ∷ anchor_bytes next) full at 0 (omega arith) 1 c (omega arith)
        (subst (λ (d : List ℕ). Torn at 1 d c) (stands.only torn.0 torn.1) torn.2) in
        let old : slice_index t.0 0 ≢ OPEN → IsAmidMove from next before c = λ closed. old_counts from next before long counts c t.0 t.1 (inl closed) in
        ⊎_elim
        (λ same. old (subst (λ (b : List ℕ). slice_index b 0 ≢ OPEN) (sym same) shut))
        (λ w. ⊎_elim
        (λ closed. old (subst (λ (b : List ℕ). slice_index b 0 ≢ OPEN) (sym w.2) closed))
        (λ holds. record {
          bytes = t.0;
          beside = t.1;
          counts = inr (new_counts from next before long counts c t.0 t.1 (subst (λ (b : List ℕ). HoldsAnchor b next) (sym w.2) holds) later limits);
        })
        (opening gate next w.0 w.1 fits))
        t.2)

    pub opened : Stands new (overwritten (seen h) (offset_of slot_of_next) (OPEN ∷ [])) → Stands new (moved from next before)
    opened now =
        let at = offset_of slot_of_next in
        subst (Stands new)
        (ap (λ (l : List ℕ). overwritten l at (OPEN ∷ [])) stands.read ∙ over_in_slot slot_of_next before long (gate ∷ anchor_bytes next) full at 0 (omega arith) (OPEN ∷ []) (omega arith))
        now

  pub counts_then : Counts before from.slot from.anchor → IsAnchor next → from.anchor.sequence < next.sequence → MayCount next → Stands new (moved from next before) → Counts (seen new) slot_of_next next
  counts_then counts fits later limits stands =
      let full : length (OPEN ∷ anchor_bytes next) ≡ 40 = let s = length-anchor_bytes next in omega arith in
      new_counts from next before long counts (seen new) (OPEN ∷ anchor_bytes next) (record { long = full; is = stands.read }) (record { fits = fits; text = refl }) later limits

-- ---- a whole move

-- the steps of a move by their answers, where the calls were given the slot and its byte
module _ (from : Anchors) (next : Anchor) (old : DeviceHistory) (long : 2088 ≤ length (seen old)) (slot : Slot) (slot_is : slot ≡ other_of from.slot) (at : ℕ) (at_is : at ≡ offset_of slot) where
  at_next : at ≡ offset_of (other_of from.slot)
  at_next = at_is ∙ ap offset_of slot_is

  abbrev Amid : List ℕ → Type 0
  Amid = IsAmidMove from next (seen old)

  -- the older slot, before
  pub older_there : Counts (seen old) from.slot from.anchor → IsOlder (slot_bytes slot (seen old)) from.anchor.sequence
  older_there counts = subst (λ (s : Slot). IsOlder (slot_bytes s (seen old)) from.anchor.sequence) (sym slot_is) counts.older

  pub shut_moment : Counts (seen old) from.slot from.anchor → (h : DeviceHistory) → LeavesOnly old h (HasOlderInSlot slot from.anchor.sequence (seen old)) → LeavesOnly old h Amid
  shut_moment counts h moment = shutting from next (seen old) long old h counts (subst (λ (s : Slot). LeavesOnly old h (HasOlderInSlot s from.anchor.sequence (seen old))) slot_is moment)

  -- the slot is shut
  abbrev pub HasShut : DeviceHistory → Type 0
  HasShut h = (bytes : List ℕ) × (length bytes ≡ 40) × (slice_index bytes 0 ≢ OPEN) × Stands h (overwritten (seen old) (offset_of slot) bytes)

  stands_next : (h : DeviceHistory) (bytes : List ℕ) → Stands h (overwritten (seen old) (offset_of slot) bytes) → Stands h (overwritten (seen old) (offset_of (other_of from.slot)) bytes)
  stands_next h bytes stands = subst (λ (s : Slot). Stands h (overwritten (seen old) (offset_of s) bytes)) slot_is stands

  module _ (h : DeviceHistory) (shut : HasShut h) (new : DeviceHistory) (text : List ℕ) (is : text ≡ anchor_bytes next) where
    pub write_moment : Counts (seen old) from.slot from.anchor → LeavesOnly h new (TornFrom (at + 1) (length text) h) → LeavesOnly h new Amid
    write_moment counts moment =
        let size : length text ≡ 39 = ap (λ (l : List ℕ). length l) is ∙ length-anchor_bytes next in
        writing from next (seen old) long h new shut.0 shut.1 shut.2 (stands_next h shut.0 shut.3) counts
        (subst (λ (n : ℕ). LeavesOnly h new (TornFrom (n + 1) 39 h)) at_next (subst (λ (n : ℕ). LeavesOnly h new (TornFrom (at + 1) n h)) size moment))

    pub text_stands : Stands new (overwritten (seen h) (at + 1) text) → Stands new (overwritten (seen old) (offset_of (other_of from.slot)) (slice_index shut.0 0 ∷ anchor_bytes next))
    text_stands stands =
        written from next (seen old) long h new shut.0 shut.1 shut.2 (stands_next h shut.0 shut.3) text is
        (subst (λ (n : ℕ). Stands new (overwritten (seen h) (n + 1) text)) at_next stands)

  module _ (h : DeviceHistory) (gate : ℕ) (shut : gate ≢ OPEN) (stands : Stands h (overwritten (seen old) (offset_of (other_of from.slot)) (gate ∷ anchor_bytes next))) (new : DeviceHistory)
      (fits : IsAnchor next) (later : from.anchor.sequence < next.sequence) (limits : MayCount next) where
    pub open_moment : Counts (seen old) from.slot from.anchor → LeavesOnly h new (TornFrom at 1 h) → LeavesOnly h new Amid
    open_moment counts moment =
        opening_moment from next (seen old) long h new gate shut stands counts fits later limits (subst (λ (n : ℕ). LeavesOnly h new (TornFrom n 1 h)) at_next moment)

    pub has_moved : Stands new (overwritten (seen h) at (OPEN ∷ [])) → Stands new (moved from next (seen old))
    has_moved now = opened from next (seen old) long h new gate shut stands (subst (λ (n : ℕ). Stands new (overwritten (seen h) n (OPEN ∷ []))) at_next now)

    pub counts_now : Counts (seen old) from.slot from.anchor → Stands new (overwritten (seen h) at (OPEN ∷ [])) → (s : Slot) → s ≡ other_of from.slot → Counts (seen new) s next
    counts_now counts now s is =
        subst (λ (s : Slot). Counts (seen new) s next) (sym is) (counts_then from next (seen old) long h new counts fits later limits (has_moved now))

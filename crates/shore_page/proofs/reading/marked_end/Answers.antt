use Rattle.std.proofs.Common.{ℕ, ◌≡◌, ◌+◌, ◌-◌, ◌*◌, max, inl, inr, false, get_or, replicate, refl, sym, ap, subst, ◌∙◌, arith}
use Rattle.std.proofs.Math.ListN.{get_or-eq_default}
use Rattle.std.proofs.lemmas.List.{get_or-replicate, length-replicate}
use Rattle.std.proofs.lemmas.Bool.{cases_lt}
use Rattle.shore_types.specs.Versions.{page_room}
use Rattle.shore_page.proofs.MarkLemmas.{marks_clear}
use Rattle.shore_page.specs.Text.{table_of, offset_at, length_at}
use Rattle.shore_page.specs.Reading.{IsEntry, marks_of, Marks, IsTaken}
use Rattle.shore_page.proofs.SlotsRead.{Checked, checked_more, checked_refused, checked_none, checked_all, checked_room}
use Rattle.shore_page.proofs.reading.marked_end.Goals as goal

pub returns-then-not-take_entry-clause-only : goal.returns-then-not-take_entry-clause-only
returns-then-not-take_entry-clause-only c table =
    let bytes = c.args.bytes.now in
    let slot = c.loop-slot.slot in
    let entry = c.entry_at-entry.result in
    let offset : entry.offset ≡ offset_at c.args.version bytes slot = c.entry_at-entry.ensures.offset in
    let len : entry.bytes ≡ length_at c.args.version bytes slot = c.entry_at-entry.ensures.bytes in
    let is = subst (λ (n : ℕ). IsEntry c.args.version (n - 4 * c.args.slots) entry.offset entry.bytes) (sym c.page_bytes.ensures.is) (subst (λ (o : ℕ). IsEntry c.args.version (table_of c.args.version c.args.slots) o entry.bytes) (sym offset) (subst (λ (n : ℕ). IsEntry c.args.version (table_of c.args.version c.args.slots) (offset_at c.args.version bytes slot) n) (sym len) (table.each slot c.loop-slot-test.true))) in
    let taken = c.if-not-take_entry.ensures.taken refl is in
    absurd (checked_refused c.args.version bytes c.args.slots (marks_of c.loop-slot.marks (c.page_bytes.result - 4 * c.args.slots - 24)) slot c.loop-slot.end c.loop-slot.invariant.checked c.loop-slot-test.true
    (λ _. subst (λ (o : ℕ). IsTaken (marks_of c.loop-slot.marks (c.page_bytes.result - 4 * c.args.slots - 24)) (o - 24) (o - 24 + length_at c.args.version bytes slot)) offset (subst (λ (n : ℕ). IsTaken (marks_of c.loop-slot.marks (c.page_bytes.result - 4 * c.args.slots - 24)) (entry.offset - 24) (entry.offset - 24 + n)) len taken)) table)

pub loop-slot-preserved : goal.loop-slot-preserved
loop-slot-preserved c =
    let bytes = c.args.bytes.now in
    let slot = c.loop-slot.slot in
    let entry = c.entry_at-entry.result in
    let new = c.take_entry.new.marks in
    let offset : entry.offset ≡ offset_at c.args.version bytes slot = c.entry_at-entry.ensures.offset in
    let len : entry.bytes ≡ length_at c.args.version bytes slot = c.entry_at-entry.ensures.bytes in
    let is = subst (λ (o : ℕ). IsEntry c.args.version (table_of c.args.version c.args.slots) o (length_at c.args.version bytes slot)) offset (subst (λ (n : ℕ). IsEntry c.args.version (table_of c.args.version c.args.slots) entry.offset n) len (subst (λ (n : ℕ). IsEntry c.args.version (n - 4 * c.args.slots) entry.offset entry.bytes) c.page_bytes.ensures.is (c.if-not-take_entry.ensures.entry refl))) in
    let marks = subst (λ (o : ℕ). Marks (marks_of c.loop-slot.marks (c.page_bytes.result - 4 * c.args.slots - 24)) (marks_of new (c.page_bytes.result - 4 * c.args.slots - 24)) (o - 24) (o - 24 + length_at c.args.version bytes slot)) offset (subst (λ (n : ℕ). Marks (marks_of c.loop-slot.marks (c.page_bytes.result - 4 * c.args.slots - 24)) (marks_of new (c.page_bytes.result - 4 * c.args.slots - 24)) (entry.offset - 24) (entry.offset - 24 + n)) len (c.if-not-take_entry.ensures.free refl)) in
    record {
      checked = rw c.max-end.ensures (subst (λ (o : ℕ). Checked c.args.version bytes c.args.slots (marks_of new (c.page_bytes.result - 4 * c.args.slots - 24)) (slot + 1) (max c.loop-slot.end (o + entry.bytes))) (sym offset)
          (subst (λ (n : ℕ). Checked c.args.version bytes c.args.slots (marks_of new (c.page_bytes.result - 4 * c.args.slots - 24)) (slot + 1) (max c.loop-slot.end (offset_at c.args.version bytes slot + n))) (sym len)
          (checked_more c.args.version bytes c.args.slots (marks_of c.loop-slot.marks (c.page_bytes.result - 4 * c.args.slots - 24)) (marks_of new (c.page_bytes.result - 4 * c.args.slots - 24)) slot c.loop-slot.end c.requires.whole c.requires.few c.loop-slot.invariant.checked is marks)));
      words = c.if-not-take_entry.ensures.len;
    }

-- no mark is there at first
zeros_at : (n k : ℕ) → get_or (replicate {A = ℕ} n 0) k 0 ≡ 0
zeros_at n k = elim (cases_lt k n) [
  | inl inside ↦ get_or-replicate n k 0 0 inside
  | inr past ↦ get_or-eq_default (replicate {A = ℕ} n 0) 0 (omega (arith, length-replicate {A = ℕ} n 0))
]

pub loop-slot-init : goal.loop-slot-init
loop-slot-init c = record {
  checked = checked_none c.args.version c.args.bytes.now c.args.slots (marks_of (replicate 256 0) (c.page_bytes.result - 4 * c.args.slots - 24)) c.requires.few
      (marks_clear (replicate 256 0) (c.page_bytes.result - 4 * c.args.slots - 24) (zeros_at 256) ∙ ap (λ (n : ℕ). replicate n false) (left c.args.slots));
  words = refl;
}
  where
    left : (slots : ℕ) → c.page_bytes.result - 4 * slots - 24 ≡ page_room c.args.version - 4 * slots
    left slots = omega (arith, c.page_bytes.ensures.is)

pub returns-clause-laid_out : goal.returns-clause-laid_out
returns-clause-laid_out c = checked_all c.args.version _ _ _ _ _ c.loop-slot.invariant.checked c.loop-slot-test.false c.loop-slot.auto.slot-end c.requires.whole c.requires.few

pub returns-clause-room : goal.returns-clause-room
returns-clause-room c = checked_room c.args.version _ _ _ _ _ c.loop-slot.invariant.checked c.loop-slot-test.false c.loop-slot.auto.slot-end c.requires.few

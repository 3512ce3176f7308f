use Rattle.std.proofs.Common.{◌≡◌, ℕ, inl, inr, sym, ap, ◌∙◌, arith}
use Rattle.std.proofs.lemmas.Bool.{cases_lt}
use Rattle.shore_page.specs.Text.{offset_at}
use Rattle.shore_page.proofs.FullLemmas.{full_seen}
use Rattle.shore_page.proofs.reading.full_slots.Goals as goal

pub loop-slot-preserved : goal.loop-slot-preserved
loop-slot-preserved c slot before = elim (cases_lt slot c.loop-slot.slot) [
  | inl earlier ↦ c.loop-slot.invariant slot earlier
  | inr late ↦ (
      let same : slot ≡ c.loop-slot.slot = omega (arith, before, late) in
      λ zero. c.if-entry_at-eq0.false (c.entry_at.ensures.offset ∙ sym (ap (offset_at c.args.version c.args.bytes.now) same) ∙ zero))
]

pub returns-then-entry_at-eq0 : goal.returns-then-entry_at-eq0
returns-then-entry_at-eq0 c = full_seen c.args.version c.args.bytes.now c.args.slots c.loop-slot.slot (omega (arith, c.loop-slot-test.true)) c.loop-slot.invariant

pub returns : goal.returns
returns c = full_seen c.args.version c.args.bytes.now c.args.slots c.args.slots (omega arith) (λ slot before. c.loop-slot.invariant slot (omega (arith, before, c.loop-slot-test.false)))

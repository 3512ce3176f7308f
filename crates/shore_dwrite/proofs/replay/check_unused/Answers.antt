use Rattle.std.proofs.Common.{Err, refl, sym, ap, ◌∙◌}
use Rattle.shore_types.specs.declared.faults.Device.TheVariants.{Volume}
use Rattle.shore_types.specs.declared.faults.Fault.TheVariants.{Damaged}
use Rattle.shore_dwrite.proofs.ReadLemmas.{zero_more, zero_stops, zero_ends}
use Rattle.shore_dwrite.proofs.replay.check_unused.Goals as goal

pub loop-i-init : goal.loop-i-init
loop-i-init c = refl

pub returns-then-cell_at-ne0-clause-verdict : goal.returns-then-cell_at-ne0-clause-verdict
returns-then-cell_at-ne0-clause-verdict c =
    ap Err (c.damaged.ensures ∙ ap (Damaged Volume) c.entry_at.ensures)
    ∙ sym (c.loop-i.invariant ∙ zero_stops c.args.table.now 32 c.loop-i.i c.loop-i-test.true (λ is. c.if-cell_at-ne0.true (c.cell_at.ensures ∙ is)))

pub loop-i-preserved : goal.loop-i-preserved
loop-i-preserved c = c.loop-i.invariant ∙ zero_more c.args.table.now 32 c.loop-i.i c.loop-i-test.true (sym c.cell_at.ensures ∙ c.if-cell_at-ne0.false)

pub returns-clause-verdict : goal.returns-clause-verdict
returns-clause-verdict c = sym (c.loop-i.invariant ∙ zero_ends c.args.table.now 32 c.loop-i.i c.loop-i-test.false)

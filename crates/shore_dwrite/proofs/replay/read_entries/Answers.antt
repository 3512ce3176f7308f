use Rattle.std.proofs.Common.{◌≡◌, ◌⊎◌, ◌<◌, ◌≤◌, inl, inr, ℕ, ◌+◌, ◌-◌, List, Err, sym, ap, subst, ◌∙◌}
use Rattle.shore_types.specs.declared.faults.Device.TheVariants.{Volume}
use Rattle.shore_types.specs.declared.faults.Fault.TheVariants.{Damaged}
use Rattle.shore_dwrite.specs.Checks.{page_verdict}
use Rattle.shore_dwrite.specs.Tables.{cell}
use Rattle.shore_dwrite.proofs.ReadLemmas.{HasRead, read_more, page_more, page_stops}
use Rattle.shore_dwrite.proofs.replay.read_entries.Goals as goal
use Rattle.shore_dwrite.proofs.replay.read_entries.Goals.{then-from-low-via-then-from-low, then-from-low-via-else-from-low+then-number-pages}

pub returns-then-from-low-clause-refused : goal.returns-then-from-low-clause-refused
returns-then-from-low-clause-refused c =
    let table = c.args.table.now in
    let i = c.loop-i.i in
    let bad : (cell (i + 1) table < c.loop-i.low) ⊎ (c.args.pages ≤ cell (i + 1) table) = elim c.then-from-low.branch [
      | then-from-low-via-then-from-low w ↦ inl (subst (λ (n : ℕ). n < c.loop-i.low) (c.from.ensures ∙ c.cell_at-number.ensures) w.if-from-low.true)
      | then-from-low-via-else-from-low+then-number-pages w ↦ inr (subst (λ (n : ℕ). c.args.pages ≤ n) c.cell_at-number.ensures w.if-number-pages.true)
    ] in
    inr (c.loop-i.invariant.verdict ∙ page_stops c.args.pages table c.args.count i c.loop-i.low c.loop-i-test.true bad ∙ sym (ap Err (c.damaged.ensures ∙ ap (Damaged Volume) c.entry_at.ensures)))

pub loop-i-preserved : goal.loop-i-preserved
loop-i-preserved c =
    let table = c.args.table.now in
    let i = c.loop-i.i in
    let number = c.cell_at-number.result in
    let low_is : c.from-low.result ≡ number = c.from-low.ensures in
    let least : c.loop-i.low ≤ number = subst (λ (n : ℕ). c.loop-i.low ≤ n) c.from.ensures c.if-from-low.false in
    let most = c.if-number-pages.false in
    record {
      read = subst (λ (n : ℕ). HasRead table c.args.pages c.push.new.self.items (i + 1) (n + 1)) (sym low_is)
          (subst (λ (l : List ℕ). HasRead table c.args.pages l (i + 1) (number + 1)) (sym c.in_ok-push.ensures.items)
          (read_more table c.args.pages _ i c.loop-i.low number c.loop-i.invariant.read c.cell_at-number.ensures least most));
      verdict = c.loop-i.invariant.verdict ∙ page_more c.args.pages table c.args.count i c.loop-i.low c.loop-i-test.true
          (subst (λ (n : ℕ). c.loop-i.low ≤ n) c.cell_at-number.ensures least) (subst (λ (n : ℕ). n < c.args.pages) c.cell_at-number.ensures most)
          ∙ ap (λ (n : ℕ). page_verdict c.args.pages table (i + 1) (n + 1) (c.args.count - (i + 1))) (sym (low_is ∙ c.cell_at-number.ensures));
    }

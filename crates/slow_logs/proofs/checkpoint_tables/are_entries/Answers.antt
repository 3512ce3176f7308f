use Rattle.std.proofs.Common.{◌≡◌, ◌<◌, ◌≤◌, length, arith, refl, true, false}
use Rattle.shore_model.specs.Logs.{IsEntry}
use Rattle.shore_model.proofs.Scans.{All-more_at, All-whole, All-spoiled}
use Rattle.slow_logs.proofs.checkpoint_tables.are_entries.Goals as goal

pub loop-entry-preserved : goal.loop-entry-preserved
loop-entry-preserved c =
    let within : c.loop-entry.entry-index < length c.args.txns.now = omega arith in
    All-more_at (IsEntry c.args.records.now) c.args.txns.now c.loop-entry.entry-index c.entry-item.result within c.entry-item.is c.loop-entry.invariant
    (c.in_ok-is_entry.ensures.0 c.if-not-branch.false)

pub returns : goal.returns
returns c =
    let done : length c.args.txns.now ≤ c.loop-entry.entry-index = omega arith in
    (λ _. All-whole (IsEntry c.args.records.now) c.args.txns.now c.loop-entry.entry-index done c.loop-entry.invariant, λ _. refl)

pub returns-then-not-branch : goal.returns-then-not-branch
returns-then-not-branch c =
    let within : c.loop-entry.entry-index < length c.args.txns.now = omega arith in
    let refused : c.in_ok-is_entry.field-0 ≡ false = c.if-not-branch.true in
    (λ h. cc, λ h. let yes : c.in_ok-is_entry.field-0 ≡ true = c.in_ok-is_entry.ensures.1 (All-spoiled (IsEntry c.args.records.now) c.args.txns.now c.loop-entry.entry-index c.entry-item.result within c.entry-item.is h) in cc)

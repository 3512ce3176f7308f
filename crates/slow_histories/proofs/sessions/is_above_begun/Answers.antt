use Rattle.std.proofs.Common.{◌≡◌, ◌<◌, ◌≤◌, length, arith, refl, true, false}
use Rattle.std.specs.Prelude.{IfSome}
use Rattle.shore_model.specs.Histories.{began}
use Rattle.shore_model.proofs.Scans.{All-more_at, All-whole, All-spoiled}
use Rattle.slow_histories.proofs.sessions.is_above_begun.Goals as goal

pub loop-entry-preserved : goal.loop-entry-preserved
loop-entry-preserved c =
    let within : c.loop-entry.entry-index < length c.args.before.now = omega arith in
    All-more_at (λ e. IfSome (began e) (λ u. u < c.args.txn)) c.args.before.now c.loop-entry.entry-index c.entry-item.result within c.entry-item.is c.loop-entry.invariant (c.begins_below.ensures.0 c.if-not-begins_below.false)

pub returns : goal.returns
returns c =
    let done : length c.args.before.now ≤ c.loop-entry.entry-index = omega arith in
    (λ _. All-whole (λ e. IfSome (began e) (λ u. u < c.args.txn)) c.args.before.now c.loop-entry.entry-index done c.loop-entry.invariant, λ _. refl)

pub returns-then-not-begins_below : goal.returns-then-not-begins_below
returns-then-not-begins_below c =
    let within : c.loop-entry.entry-index < length c.args.before.now = omega arith in
    let refused : c.begins_below.result ≡ false = c.if-not-begins_below.true in
    (λ h. cc, λ h. let found : c.begins_below.result ≡ true = c.begins_below.ensures.1 (All-spoiled (λ e. IfSome (began e) (λ u. u < c.args.txn)) c.args.before.now c.loop-entry.entry-index c.entry-item.result within c.entry-item.is h) in cc)

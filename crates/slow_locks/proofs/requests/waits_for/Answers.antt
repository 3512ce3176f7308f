use Rattle.std.proofs.Common.{◌≡◌, ◌<◌, ◌≤◌, length, arith, true, false}
use Rattle.std.proofs.lemmas.List.Elements.{All-contains}
use Rattle.shore_model.proofs.Scans.{All-more_at, All-whole}
use Rattle.slow_locks.proofs.WaitLemmas.{WaitsAs}
use Rattle.slow_locks.proofs.requests.waits_for.Goals as goal

pub loop-waiter-preserved : goal.loop-waiter-preserved
loop-waiter-preserved c =
    let within : c.loop-waiter.waiter-index < length c.args.requests.now = omega arith in
    let refused : c.in_ok-waits_as.field-0 ≡ false = c.if-branch.false in
    All-more_at (λ waiter. WaitsAs c.args.requests.now c.args.txn c.args.other waiter → ⊥) c.args.requests.now c.loop-waiter.waiter-index
    c.waiter-item.result within c.waiter-item.is c.loop-waiter.invariant
    (λ waits. let found : c.in_ok-waits_as.field-0 ≡ true = c.in_ok-waits_as.ensures.1 waits in cc)

pub returns : goal.returns
returns c =
    let done : length c.args.requests.now ≤ c.loop-waiter.waiter-index = omega arith in
    let never = All-whole (λ waiter. WaitsAs c.args.requests.now c.args.txn c.args.other waiter → ⊥) c.args.requests.now c.loop-waiter.waiter-index done c.loop-waiter.invariant in
    (λ h. cc, λ h. absurd (All-contains (λ waiter. WaitsAs c.args.requests.now c.args.txn c.args.other waiter → ⊥) c.args.requests.now h.1.1 never (h.1.0, h.1.2, h.1.3) h.1.4))

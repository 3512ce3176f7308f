use Rattle.std.proofs.Common.{take}
use Rattle.std.specs.Prelude.{All}
use Rattle.slow_locks.proofs.WaitLemmas.{WaitsAs}
use Rattle.slow_locks.proofs.requests.waits_for.Given as goal

-- none so far waits
abbrev pub invariant-loop-waiter : goal.invariant-loop-waiter
invariant-loop-waiter l = All (λ waiter. WaitsAs l.requests l.txn l.other waiter → ⊥) (take l.waiter-index l.requests)

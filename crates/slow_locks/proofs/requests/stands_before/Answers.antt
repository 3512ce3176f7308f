use Rattle.std.proofs.Common.{◌≡◌, ◌<◌, ◌+◌, length, arith, refl, true, false}
use Rattle.slow_locks.proofs.WaitLemmas.{Before-found, Before-passed, rest_of}
use Rattle.slow_locks.proofs.requests.stands_before.Goals as goal

pub loop-index-preserved : goal.loop-index-preserved
loop-index-preserved c =
    let within : c.loop-index.index < length c.args.queue.now = omega arith in
    let turn = rw (rest_of c.args.queue.now (c.loop-index.index + 1)) at c.are_in_turn.ensures in
    let refused : c.are_in_turn.result ≡ false = c.if-are_in_turn.false in
    λ h. Before-passed c.args.queue.now c.loop-index.index c.index-queue-index.result c.args.first.now c.args.second.now within c.index-queue-index.is
    (λ here. let found : c.are_in_turn.result ≡ true = turn.1 here in cc) (c.loop-index.invariant h)

pub returns-then-are_in_turn : goal.returns-then-are_in_turn
returns-then-are_in_turn c =
    let within : c.loop-index.index < length c.args.queue.now = omega arith in
    let turn = rw (rest_of c.args.queue.now (c.loop-index.index + 1)) at c.are_in_turn.ensures in (
      λ _. Before-found c.args.queue.now c.loop-index.index c.index-queue-index.result c.args.first.now c.args.second.now within c.index-queue-index.is
          (turn.0 c.if-are_in_turn.true),
      λ _. refl,
    )

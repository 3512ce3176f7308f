use Rattle.std.proofs.Common.{◌≡◌, ◌<◌, ◌≤◌, length, arith, refl, false}
use Rattle.shore_model.specs.Requests.{are_alike}
use Rattle.shore_model.proofs.Scans.{All-more_at, All-whole}
use Rattle.slow_locks.proofs.requests.is_only.Goals as goal

pub loop-other-preserved : goal.loop-other-preserved
loop-other-preserved c =
    let within : c.loop-other.other-index < length c.args.later.now = omega arith in
    let apart : are_alike c.args.request.now c.other-item.result ≡ false = cc in
    All-more_at (λ other. are_alike c.args.request.now other ≡ false) c.args.later.now c.loop-other.other-index c.other-item.result within c.other-item.is c.loop-other.invariant apart

pub returns : goal.returns
returns c =
    let done : length c.args.later.now ≤ c.loop-other.other-index = omega arith in
    (λ _. All-whole (λ other. are_alike c.args.request.now other ≡ false) c.args.later.now c.loop-other.other-index done c.loop-other.invariant, λ _. refl)

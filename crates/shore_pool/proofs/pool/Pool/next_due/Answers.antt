use Rattle.std.proofs.Common.{◌<◌, ◌≤◌, ℕ, Option, Some, None, IfSome, IsSomeAnd, arith}
use Rattle.shore_dwrite.specs.Settled as settled_device
use Rattle.shore_dwrite.specs.Volumes.{page_count}
use Rattle.shore_pool.specs.FrameMaps as maps
use Rattle.shore_pool.specs.FrameMaps.{IsDue}
use Rattle.shore_pool.proofs.Orders.{order_within}
use Rattle.shore_pool.proofs.pool.Pool.next_due.Goals as goal

if_some : (P Q : ℕ → Type 0) (o : Option ℕ) → ((k : ℕ) → P k → Q k) → IfSome o P → IfSome o Q
if_some P Q None to p = tt
if_some P Q (Some k) to p = to k p

pub returns-clause-within : goal.returns-clause-within
returns-clause-within g c =
    let old = c.args.self.now in
    let at = maps.frame_at old.frames in
    let geometry = settled_device.geometry_of old.device in
    if_some (λ k. IsSomeAnd (at k) (IsDue c.args.durable)) (λ k. k < 65536) c.next_due.result (λ k has.
    let within : k < page_count geometry = order_within at geometry old.in_order (IsDue c.args.durable) k has in
    let few : page_count geometry ≤ 65536 = old.device.few in
    omega (arith, within, few)) c.next_due.ensures.due

-- What a format leaves may be opened behind no anchor.
use Rattle.std.proofs.Common.{◌≡◌, ◌≤◌, ℕ, [], subst, arith}
use Rattle.shore_types.specs.declared.layout.Geometry.{Geometry}
use Rattle.shore_types.specs.declared.layout.TheConstants.{LONGEST_FRAME, MAX_LOG_BYTES}
use Rattle.laws_lives.specs.Pages.{empty_page}
use Rattle.laws_checkpoints.proofs.Orders.{order_first}
use Rattle.laws_checkpoints.specs.Checkpoints.{cut_of, not_anchored}
use Rattle.laws_runs.proofs.SoundStores.{format_may_be_opened}
use Rattle.laws_runs.specs.CheckpointSteps.{log_limit}
use Rattle.laws_runs.specs.CheckpointedStates.{MayBeOpenedBehind}
use Rattle.laws_runs.specs.SoundStores.{MayBeOpened}

pub format_behind : (g : Geometry) (ring_bytes : ℕ) → LONGEST_FRAME ≤ ring_bytes → ring_bytes ≤ MAX_LOG_BYTES → MayBeOpenedBehind g ring_bytes not_anchored [] (λ p. empty_page)
format_behind g ring_bytes least most =
    let nothing : ring_bytes ≡ log_limit ring_bytes (cut_of not_anchored) [] = omega arith in
    record { opened = subst (λ limit. MayBeOpened g limit [] (λ p. empty_page)) nothing (format_may_be_opened g ring_bytes least most); in_order = order_first; short = most }

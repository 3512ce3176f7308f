use Rattle.std.proofs.Common.{length, subst, arith, inl, refl}
use Rattle.std.proofs.Math.Seq.{take-length}
use Rattle.laws_checkpoints.proofs.Crashes.{left_in_order}
use Rattle.laws_checkpoints.specs.StoresInOrder.{IsLeftByCrash}
use Rattle.laws_runs.proofs.KeptBehind.{all_redone, nobody_lost, restart_noted, seen_restart}
use Rattle.laws_runs.proofs.PlainWorks.{restart_goes}
use Rattle.laws_runs.specs.CheckpointedStates.{found_behind}
use Rattle.laws_runs.proofs.checkpoints.kept_records_lead_restarts.Goals as goal

pub returns-clause-restarts : goal.returns-clause-restarts
returns-clause-restarts c g ring_bytes a rs pages events last may h =
    let k = seen_restart (found_behind a rs pages) may.in_order events last h in
    (k.whole, k.restarts, k.seen, all_redone (found_behind a rs pages) events last k, nobody_lost (found_behind a rs pages) events last k)

pub returns-clause-left : goal.returns-clause-left
returns-clause-left c g ring_bytes a rs pages may =
    subst (λ l. IsLeftByCrash a l pages) (take-length rs)
    (left_in_order (found_behind a rs pages) may.in_order (length rs) pages (omega arith) (omega arith) (λ p. inl refl))

pub returns-clause-whole : goal.returns-clause-whole
returns-clause-whole c s events last h none = restart_noted s events last h none

pub returns-clause-in_order : goal.returns-clause-in_order
returns-clause-in_order c s events last k h =
    let goes = restart_goes s events last k h in
    (goes.in_order, goes.restarts, goes.anchored)

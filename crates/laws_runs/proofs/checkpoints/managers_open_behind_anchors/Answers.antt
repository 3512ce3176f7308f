use Rattle.laws_runs.proofs.OpenedBehind.{each_found, end_found, open_goes}
use Rattle.laws_runs.proofs.checkpoints.managers_open_behind_anchors.Goals as goal

pub returns-clause-goes : goal.returns-clause-goes
returns-clause-goes c g ring_bytes a rs pages o works ready first may opening restarts redone no_losers opens from =
    open_goes g ring_bytes a rs pages may works ready restarts o opening first redone no_losers opens from

pub returns-clause-numbers : goal.returns-clause-numbers
returns-clause-numbers c g ring_bytes a rs pages o works ready first may restarts opens from = (
  each_found g ring_bytes a rs pages may works ready restarts first.sessions.next_txn opens.sessions.below,
  end_found g ring_bytes a rs pages may works ready restarts first.sessions.next_txn from.not_below,
)

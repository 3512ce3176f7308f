use Rattle.laws_runs.proofs.CheckpointedFixed.{stays_fixed}
use Rattle.laws_runs.proofs.CheckpointedStays.{stays_leave, stays_live}
use Rattle.laws_runs.proofs.checkpoints.committed_work_survives_checkpoints.Goals as goal

pub returns-clause-left : goal.returns-clause-left
returns-clause-left c g ring_bytes o a b rs last pages last_pages stays may opening h = stays_leave g ring_bytes o a rs pages may opening stays b last last_pages h

pub returns-clause-life : goal.returns-clause-life
returns-clause-life c g ring_bytes o a b rs last pages last_pages stays may opening h = (stays_live g ring_bytes o a rs pages may opening stays b last last_pages h).0

pub returns-clause-shown : goal.returns-clause-shown
returns-clause-shown c g ring_bytes o a b rs last pages last_pages stays may opening h = (stays_live g ring_bytes o a rs pages may opening stays b last last_pages h).1

pub returns-clause-fixed : goal.returns-clause-fixed
returns-clause-fixed c g ring_bytes o a b rs last pages last_pages stays may opening h = stays_fixed g ring_bytes o a rs pages may opening stays b last last_pages h

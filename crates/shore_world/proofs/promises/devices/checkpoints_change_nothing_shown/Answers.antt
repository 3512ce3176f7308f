use Rattle.std.proofs.Common.{inr}
use Rattle.shore_world.proofs.CheckpointShown.{gains_of_none, same_durable, same_records, same_requests, same_state}
use Rattle.shore_world.proofs.promises.devices.checkpoints_change_nothing_shown.Goals as goal

pub returns-clause-state : goal.returns-clause-state
returns-clause-state c d w new o es ws step k one = same_state w o es ws k step new one

pub returns-clause-records : goal.returns-clause-records
returns-clause-records c d w new o es ws step k one = same_records w o es ws k step new one

pub returns-clause-locks : goal.returns-clause-locks
returns-clause-locks c d w new o es ws step k one = same_requests w o es ws k step new one

pub returns-clause-durable : goal.returns-clause-durable
returns-clause-durable c d w new o es ws step k one = same_durable w o es ws k step new one

pub returns-clause-pages : goal.returns-clause-pages
returns-clause-pages c d w new step one = one.volume (inr tt)

pub returns-clause-gained : goal.returns-clause-gained
returns-clause-gained c d w new o es ws step k one = gains_of_none w o es ws k step new one

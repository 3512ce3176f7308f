use Rattle.std.proofs.Common.{refl}
use Rattle.shore_world.proofs.RunLemmas.{flush_faults, flush_no_memory}
use Rattle.shore_world.proofs.WorkLemmas.{calls_to_nothing, flushes, opens, resumes_to_nothing, stages, stays_same}
use Rattle.shore_world.proofs.CheckpointWorks.{checks, goes_plainly}
use Rattle.shore_world.proofs.GivingUpLemmas.{given_up_nothing}
use Rattle.shore_world.proofs.promises.steps_do_their_work.Goals as goal

pub returns-clause-stage : goal.returns-clause-stage
returns-clause-stage c d w new o es ws step k one = stages w o es ws k step new one

pub returns-clause-opens : goal.returns-clause-opens
returns-clause-opens c d w new o es ws step k one = opens w o es ws k step new one

pub returns-clause-flush : goal.returns-clause-flush
returns-clause-flush c d w new o es ws step k one = flushes w o es ws k step new one

pub returns-clause-resume : goal.returns-clause-resume
returns-clause-resume c d w new o es ws session step k one = resumes_to_nothing w o es ws k session step new one

pub returns-clause-call : goal.returns-clause-call
returns-clause-call c d w new o es ws session call k served one = calls_to_nothing w o es ws k session call new served one

pub returns-clause-unchanged : goal.returns-clause-unchanged
returns-clause-unchanged c d w new o es ws e k served one = stays_same w o es ws k e new served one

pub returns-clause-checkpoint : goal.returns-clause-checkpoint
returns-clause-checkpoint c d w new o es ws step k one = checks w o es ws k step new one

pub returns-clause-as_plain : goal.returns-clause-as_plain
returns-clause-as_plain c d w new o es ws step k one = goes_plainly w o es ws k step new one

pub returns-clause-begun_checkpoints_take_no_memory : goal.returns-clause-begun_checkpoints_take_no_memory
returns-clause-begun_checkpoints_take_no_memory c d w new step one begun = one.no_memory tt begun

pub returns-clause-forces_take_no_memory : goal.returns-clause-forces_take_no_memory
returns-clause-forces_take_no_memory c d w new e step one is = one.force_no_memory is

pub returns-clause-flushes_take_no_memory : goal.returns-clause-flushes_take_no_memory
returns-clause-flushes_take_no_memory c d w new step one = flush_no_memory step (flush_faults w.core new.core step (one.flushed refl).answers)

pub returns-clause-give_up : goal.returns-clause-give_up
returns-clause-give_up c d w new o es ws session step k one =
    given_up_nothing w o es ws k session step new one

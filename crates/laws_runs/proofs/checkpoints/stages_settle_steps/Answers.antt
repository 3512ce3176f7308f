use Rattle.std.proofs.Common.{◌≡◌, ap, arith}
use Rattle.laws_runs.proofs.StageSteps.{at_begun, at_device, at_ended, at_failed, at_full, at_move, at_named, at_none, at_wait}
use Rattle.laws_runs.specs.CheckpointSteps.{awaited}
use Rattle.laws_runs.proofs.checkpoints.stages_settle_steps.Goals as goal

pub returns-clause-failed : goal.returns-clause-failed
returns-clause-failed x m new step has_failed h = at_failed m new step has_failed h

pub returns-clause-waits : goal.returns-clause-waits
returns-clause-waits x m new step whole told late h = at_wait m new step whole told late h

pub returns-clause-waits_for_its_end : goal.returns-clause-waits_for_its_end
returns-clause-waits_for_its_end x m new step c n whole told at late h = at_wait m new step whole told (let is : awaited m.store.stage ≡ n = ap awaited at in omega (arith, is, late)) h

pub returns-clause-waits_for_its_anchor_record : goal.returns-clause-waits_for_its_anchor_record
returns-clause-waits_for_its_anchor_record x m new step c n whole told at late h =
    at_wait m new step whole told (let is : awaited m.store.stage ≡ n = ap awaited at in omega (arith, is, late)) h

pub returns-clause-goes_on : goal.returns-clause-goes_on
returns-clause-goes_on x m new forced h = let late = h.1 in omega (arith, forced, late)

pub returns-clause-begins : goal.returns-clause-begins
returns-clause-begins x m new answer at h = at_none m new answer at h.1

pub returns-clause-ends : goal.returns-clause-ends
returns-clause-ends x m new answer c at h = at_begun m new answer c at h.1

pub returns-clause-names : goal.returns-clause-names
returns-clause-names x m new answer c n at h = at_ended m new answer c n at h.1

pub returns-clause-moves : goal.returns-clause-moves
returns-clause-moves x m new answer c n at h = at_named m new answer c n at h.1

pub returns-clause-later : goal.returns-clause-later
returns-clause-later x g ring_bytes o found es m a k h = at_move m a k.later h

pub returns-clause-full : goal.returns-clause-full
returns-clause-full x m new h = at_full m new h

pub returns-clause-fails : goal.returns-clause-fails
returns-clause-fails x m new h = at_device m new h

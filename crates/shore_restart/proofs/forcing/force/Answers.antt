use Rattle.std.proofs.Common.{arith, inr, Bool, Result, refl, sym, ap, subst, ◌∙◌}
use Rattle.shore_log.specs.Settled.{waiting}
use Rattle.shore_log.specs.declared.device.LogDev.{LogDev}
use Rattle.laws_lives.specs.Recovery.{after_force}
use Rattle.shore_restart.specs.declared.errors.RestartError.{RestartError}
use Rattle.shore_restart.specs.Standing.{Forces, log_faults}
use Rattle.shore_restart.proofs.Frames.{all_forced, none_so_far, one_more, room_same, same_on, shown_so_far, stopped}
use Rattle.shore_restart.proofs.LogErrors.{passed_log_cause}
use Rattle.shore_restart.proofs.PageErrors.{err_with}
use Rattle.shore_restart.proofs.QuietLogs.{quiet_err, quiet_of}
use Rattle.shore_restart.proofs.forcing.force.Goals as goal

pub loop-init : goal.loop-init
loop-init g c = record {
  so_far = λ log_front anchor s rest geometry front h covered. none_so_far geometry log_front front anchor h c.args.log.now s rest covered;
  quiet = λ log_front quiet. (quiet, omega arith);
  records = refl;
  same = record { tail = refl; anchors = refl; honest = refl; size = refl };
  faults = refl;
  unstaged = λ none. none;
}

pub force_frame-requires : goal.force_frame-requires
force_frame-requires g c = record {
  room =
      let invariant = c.loop.invariant in
      room_same c.args.log.now c.loop.log invariant.same invariant.records c.requires.room;
}

pub loop-preserved : goal.loop-preserved
loop-preserved g c =
    let invariant = c.loop.invariant in
    let first = c.args.log.now in
    let old = c.loop.log in
    record {
      so_far = λ log_front anchor s rest geometry front h covered.
          let so_far = invariant.so_far log_front anchor s rest geometry front h covered in
          one_more geometry log_front front anchor h first old s so_far c.in_ok-force_frame.field-0 c.force_frame.new.log
          (c.in_ok-force_frame.ensures.forces log_front anchor (after_force s so_far.durable) so_far.at_rest geometry front h (shown_so_far geometry log_front front anchor h first old s so_far));
      quiet = λ log_front quiet.
          let now = invariant.quiet log_front quiet in
          let on = quiet_of log_front old c.force_frame.new.log c.in_ok-force_frame.field-0 (c.in_ok-force_frame.ensures.log_device log_front now.0) in
          let more = now.1 in
          let longer = on.1 in
          (on.0, omega (arith, more, longer));
      records = c.force_frame.ensures.same ∙ invariant.records;
      same = same_on first old c.force_frame.new.log invariant.same c.force_frame.ensures.log;
      faults = c.in_ok-force_frame.ensures.cause.unreported (λ e. cc) ∙ invariant.faults;
      unstaged = λ none. c.in_ok-force_frame.ensures.unstaged (invariant.unstaged none);
    }

pub returns-in_err-force_frame-clause-forces : goal.returns-in_err-force_frame-clause-forces
returns-in_err-force_frame-clause-forces g c log_front anchor s rest redone geometry front h covered =
    let first = c.args.log.now in
    let old = c.loop.log in
    let error = c.in_err-force_frame.field-0.0 in
    let so_far = c.loop.invariant.so_far log_front anchor s rest geometry front h covered in
    subst (λ (result : Result (Unit {0}) RestartError). Forces result geometry log_front front anchor h first c.force_frame.new.log s)
    (sym (err_with c.from_residual.result error c.from_residual.ensures.1))
    (stopped geometry log_front front anchor h first old s so_far (Unit {0}) error error c.force_frame.new.log
    (c.in_err-force_frame.ensures.forces log_front anchor (after_force s so_far.durable) so_far.at_rest geometry front h (shown_so_far geometry log_front front anchor h first old s so_far)))

pub returns-in_err-force_frame-clause-same : goal.returns-in_err-force_frame-clause-same
returns-in_err-force_frame-clause-same g c =
    c.force_frame.ensures.same ∙ c.loop.invariant.records

pub returns-in_err-force_frame-clause-cause : goal.returns-in_err-force_frame-clause-cause
returns-in_err-force_frame-clause-cause g c =
    passed_log_cause (Unit {0}) Bool c.from_residual.result c.in_err-force_frame.field-0.0 (log_faults c.args.log.now) (log_faults c.loop.log) (log_faults c.force_frame.new.log) c.loop.invariant.faults
    c.from_residual.ensures.1 c.in_err-force_frame.ensures.cause

pub returns-in_err-force_frame-clause-log : goal.returns-in_err-force_frame-clause-log
returns-in_err-force_frame-clause-log g c = same_on c.args.log.now c.loop.log c.force_frame.new.log c.loop.invariant.same c.force_frame.ensures.log

pub returns-clause-forces : goal.returns-clause-forces
returns-clause-forces g c log_front anchor s rest redone geometry front h covered =
    let first = c.args.log.now in
    let old = c.loop.log in
    let new = c.force_frame.new.log in
    let so_far = c.loop.invariant.so_far log_front anchor s rest geometry front h covered in
    let one = c.in_ok-force_frame.ensures.forces log_front anchor (after_force s so_far.durable) so_far.at_rest geometry front h (shown_so_far geometry log_front front anchor h first old s so_far) in
    let last = one_more geometry log_front front anchor h first old s so_far c.in_ok-force_frame.field-0 new one in
    let none = c.in_ok-force_frame.ensures.none c.if-branch.false so_far.at_rest.none_staged in
    all_forced geometry log_front front anchor h first new s last (Unit {0}) tt (ap (λ (log : LogDev g.row.L.Denot g.L.Disk). waiting log) none.0 ∙ none.1)

pub returns-clause-same : goal.returns-clause-same
returns-clause-same g c =
    c.force_frame.ensures.same ∙ c.loop.invariant.records

pub returns-clause-log : goal.returns-clause-log
returns-clause-log g c = same_on c.args.log.now c.loop.log c.force_frame.new.log c.loop.invariant.same c.force_frame.ensures.log

pub returns-in_err-force_frame-clause-log_device : goal.returns-in_err-force_frame-clause-log_device
returns-in_err-force_frame-clause-log_device g c log_front quiet =
    let now = c.loop.invariant.quiet log_front quiet in
    quiet_err log_front c.args.log.now c.loop.log c.force_frame.new.log now.1 c.from_residual.result c.in_err-force_frame.field-0.0 c.from_residual.ensures.1 (c.in_err-force_frame.ensures.log_device log_front now.0)

pub returns-clause-log_device : goal.returns-clause-log_device
returns-clause-log_device g c log_front quiet =
    let now = c.loop.invariant.quiet log_front quiet in
    let on = quiet_of log_front c.loop.log c.force_frame.new.log c.in_ok-force_frame.field-0 (c.in_ok-force_frame.ensures.log_device log_front now.0) in
    let more = now.1 in
    let longer = on.1 in
    record { named = tt; quiet = inr (on.0, omega (arith, more, longer)) }

pub returns-clause-forced : goal.returns-clause-forced
returns-clause-forced g c none =
    let before = c.loop.invariant.unstaged none in
    let last = c.in_ok-force_frame.ensures.none c.if-branch.false before in
    (c.in_ok-force_frame.ensures.unstaged before, ap (λ (log : LogDev g.row.L.Denot g.L.Disk). waiting log) last.0 ∙ last.1)

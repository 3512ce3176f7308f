use Rattle.std.proofs.Common.{inl, inr, sym, ap, ◌∙◌, Err}
use Rattle.shore_types.specs.declared.faults.Fault.{Fault}
use Rattle.shore_restart.proofs.Frames.{frame_forced, frame_stopped}
use Rattle.shore_restart.proofs.LogErrors.{log_is}
use Rattle.shore_restart.proofs.Rooms.{fits_frame}
use Rattle.shore_restart.proofs.QuietLogs.{log_device_error, longer_stable, quiet_kept, quiet_moved}
use Rattle.shore_restart.proofs.forcing.force_frame.Goals as goal

pub returns-in-Ok-clause-forces : goal.returns-in-Ok-clause-forces
returns-in-Ok-clause-forces g c log_front anchor s rest geometry front volume covered =
    let settled = c.in-Ok.ensures.settled anchor.tail anchor.tail_place log_front rest.settled rest.none_staged in
    frame_forced geometry log_front front anchor volume c.args.log.now c.append_frame.new.self s rest covered c.is_some.result (c.in-Ok.ensures.any_moment anchor.tail anchor.tail_place log_front rest.settled rest.none_staged)
    (c.in-Ok.ensures.forced anchor.tail anchor.tail_place log_front rest.settled rest.none_staged) c.append_frame.ensures.tail.0 c.append_frame.ensures.same settled.0 settled.1

pub returns-in-Err-clause-forces : goal.returns-in-Err-clause-forces
returns-in-Err-clause-forces g c log_front anchor s rest geometry front volume covered =
    frame_stopped geometry log_front front anchor volume c.args.log.now c.append_frame.new.self s rest covered c.log_error.result
    (c.in-Err.ensures.any_moment anchor.tail anchor.tail_place log_front rest.settled rest.none_staged)

pub returns-in-Ok-clause-log_device : goal.returns-in-Ok-clause-log_device
returns-in-Ok-clause-log_device g c log_front quiet = record {
  named = tt;
  quiet = inr (
    quiet_moved log_front c.args.log.now c.append_frame.new.self c.append_frame.ensures.tail.0 (c.in-Ok.ensures.settled c.args.log.now.tail.first c.args.log.now.tail.place log_front quiet.0 quiet.1),
    longer_stable c.args.log.now c.append_frame.new.self (c.in-Ok.ensures.forced c.args.log.now.tail.first c.args.log.now.tail.place log_front quiet.0 quiet.1),
  );
}

pub returns-in-Err-clause-log_device : goal.returns-in-Err-clause-log_device
returns-in-Err-clause-log_device g c log_front quiet = record {
  named = λ f is.
      let of = log_is c.in-Err.fault f c.log_error.result c.log_error.ensures is in
      elim c.in-Err.ensures.others [
        | inl device ↦ sym of.0 ∙ device
        | inr other ↦ elim other [
          | inl memory ↦ absurd (of.1 memory)
          | inr full ↦ absurd (fits_frame c.args.log.now log_front quiet.0 c.requires.room (c.in-Err.ensures.full (ap (λ (h : Fault). Err h) full)))
        ]
      ];
  quiet = elim c.in-Err.ensures.refused [
    | inl device ↦ inl (ap Err (log_device_error c.in-Err.fault c.log_error.result c.log_error.ensures device))
    | inr same ↦ inr (quiet_kept log_front c.args.log.now c.append_frame.new.self same.0 quiet)
  ];
}

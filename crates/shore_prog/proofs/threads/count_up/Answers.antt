use Rattle.shore_prog.proofs.Served.{counted_by, left_by, left_refused, of_devices, of_world}
use Rattle.shore_prog.proofs.threads.count_up.Goals as goal

pub returns-in-Ok-clause-world : goal.returns-in-Ok-clause-world
returns-in-Ok-clause-world g c =
    of_world c.serve-left.result.0 _ _ (λ w. counted_by c.args.world c.args.counting w c.serve-left.result.1 c.in-Ok.field-0 c.in-Ok.is) c.serve-left.ensures.world

pub returns-in-Ok-clause-devices : goal.returns-in-Ok-clause-devices
returns-in-Ok-clause-devices g c =
    of_devices c.serve-left.result.0 _ _ (λ log volume. left_by c.args.world c.args.counting c.serve-left.result.1 c.in-Ok.field-0 log volume c.in-Ok.is) c.serve-left.ensures.devices

pub returns-clause-devices : goal.returns-clause-devices
returns-clause-devices g c =
    of_devices c.serve-left.result.0 _ _ (λ log volume. left_refused c.args.world c.args.counting c.serve-left.result.1 c.in-Err.fault log volume c.in-Err.is) c.serve-left.ensures.devices

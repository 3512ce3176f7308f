use Rattle.std.proofs.Common.{arith, length-drop}
use Rattle.shore_log.specs.Listed.{all_in}
use Rattle.shore_log.specs.Settled.{records_of_log}
use Rattle.shore_log.proofs.device.LogDev.tell_left.Goals as goal

pub returns-clause-knows : goal.returns-clause-knows
returns-clause-knows g c = λ k.
    let log = c.args.self.now in
    let counted = log.counted in
    let waits = length-drop log.forced (records_of_log log) in
    let kept = length-drop log.gone (all_in log.found.items log.later.items) in (
      c.hold_no_more.ensures.entries _ _ (omega (arith, counted, waits, kept, c.len.ensures)) k.0,
      c.hold_no_more.ensures.texts _ _ (omega (arith, c.len-2.ensures)) k.1,
    )

use Rattle.std.proofs.Common.{◌≡◌, drop}
use Rattle.shore_model.specs.Histories.{serial, writes_in}
use Rattle.slow_histories.proofs.replays.serial_records.Given as goal

-- the records that those so far give with what is left
abbrev pub invariant-loop-decision : goal.invariant-loop-decision
invariant-loop-decision l =
    let w = writes_in (record { opening = l.opening; entries = l.entries }) in
    serial w l.records (drop l.decision-index l.decisions) ≡ serial w l.opening.records l.decisions

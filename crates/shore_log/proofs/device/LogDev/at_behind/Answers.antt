use Rattle.std.proofs.Common.{arith}
use Rattle.shore_log.specs.Settled.{records_of_log, waiting}
use Rattle.shore_log.proofs.TextLemmas.{len_within, spelled_behind}
use Rattle.shore_log.proofs.device.LogDev.at_behind.Goals as goal

pub returns-in-None-clause-waits : goal.returns-in-None-clause-waits
returns-in-None-clause-waits g c = λ none.
    let log = c.args.self.now in
    let s = c.args.staged in
    spelled_behind log.at s.len log.forced s.count log.bytes.items (records_of_log log) (log.spelled none) (log.staged_long s c.requires)

pub returns-in-None-clause-inside : goal.returns-in-None-clause-inside
returns-in-None-clause-inside g c =
    let log = c.args.self.now in
    let s = c.args.staged in
    let little = log.little in
    len_within log.at s.len s.count log.bytes.items (waiting log) (omega (arith, little)) (log.spelled c.in-None.is) (log.staged_long s c.requires)

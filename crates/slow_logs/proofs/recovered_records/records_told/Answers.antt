use Rattle.std.proofs.Common.{◌<◌, ◌+◌, ℕ, length, arith, drop, sym, ap, ◌∙◌}
use Rattle.std.specs.List.{filter_map}
use Rattle.shore_model.specs.Logs.{logged_writes, is_in_doubt, prepare_of}
use Rattle.shore_model.proofs.LogSteps.{laid_where, laid-prepare}
use Rattle.slow_logs.proofs.recovered_records.records_told.Goals as goal

pub loop-record-2-preserved : goal.loop-record-2-preserved
loop-record-2-preserved c =
    let rs = c.args.records.now in
    let i = c.loop-record-2.record-index in
    let within : i < length rs = omega arith in
    let in_doubt = λ (t : ℕ). is_in_doubt t rs in
    let next = c.record-item-in-loop-record-2 in
    ap (λ R. laid_where (logged_writes rs) in_doubt R (filter_map prepare_of (drop (i + 1) rs))) c.in_ok-found-2.ensures
    ∙ sym (laid-prepare (logged_writes rs) in_doubt c.loop-record-2.found rs i next.result within next.is)
    ∙ c.loop-record-2.invariant

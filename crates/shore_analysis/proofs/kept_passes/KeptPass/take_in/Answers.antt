use Rattle.std.proofs.Common.{◌+◌, ap, ◌∙◌, length, max, arith}
use Rattle.shore_model.specs.declared.log_records.LogRecord.{LogRecord}
use Rattle.shore_analysis.proofs.KeptAwaits.{on_ok, on_three, some_ok}
use Rattle.shore_analysis.proofs.KeptSteps.{kept_next, knows_moved}
use Rattle.shore_analysis.proofs.kept_passes.KeptPass.take_in.Goals as goal

pub returns-clause-awaited : goal.returns-clause-awaited
returns-clause-awaited c g knows m = on_ok c.note_kept.result (λ over t. c.in_ok-await_ends.ensures.awaited g c.args.before.now knows m t) c.note_kept.ensures.over

pub returns-clause-knows : goal.returns-clause-knows
returns-clause-knows c g knows m =
    let old = c.args.self.now in
    let mid = c.await_ends.new.self in
    let cut = c.args.cut in
    let before = c.args.before.now in
    let r = c.args.logged.now in
    let n = cut + 1 + length before in
    let moved = knows_moved g cut before old mid knows c.in_ok-await_ends.ensures.running c.in_ok-await_ends.ensures.over c.in_ok-await_ends.ensures.next in
    on_three c.note_kept.result
    (λ running over nobody. kept_next cut before r n mid (record { running = c.note_kept.new.running; over = c.note_kept.new.over; awaited = mid.awaited; next = c.max-self.result }) running over g moved m (omega arith)
    nobody (c.max-self.ensures ∙ ap (λ (x : LogRecord). max mid.next (x.txn + 1)) c.logged.view_is))
    (some_ok _ c.note_kept.result c.note_kept.ensures.running) c.note_kept.ensures.over (c.note_kept.ensures.nobody moved.ends.nobody)

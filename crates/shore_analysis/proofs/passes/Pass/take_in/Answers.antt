use Rattle.std.proofs.Common.{◌+◌, ◌∙◌, ap, length, max, arith}
use Rattle.std.specs.BTreeMap.{get}
use Rattle.shore_types.specs.Ids.{page_cmp}
use Rattle.shore_model.specs.declared.log_records.LogRecord.{LogRecord}
use Rattle.shore_model.specs.Logs.{id_in}
use Rattle.shore_analysis.specs.Passes.{noted}
use Rattle.shore_analysis.specs.Tables.{is_on_page}
use Rattle.shore_analysis.proofs.KnownNext.{knows_next, on_both}
use Rattle.shore_analysis.proofs.MeantLogs.{meant_of}
use Rattle.shore_analysis.proofs.passes.Pass.take_in.Goals as goal

pub returns : goal.returns
returns c g known all meant =
    let old = c.args.self.now in
    let n = length c.args.before.now + 1 in
    on_both c.note_txn.result
    (λ running over. knows_next g c.args.before.now c.args.logged.now (meant_of g c.args.before.now all c.args.logged.now.txn) meant n (omega arith) old
    record { running = c.note_txn.new.running; over = c.note_txn.new.over; dirty = c.note_page.new.dirty; next = c.max-self.result } known running.0 over
    (λ p. c.in_ok-note_page.ensures p ∙ ap (λ (r : LogRecord). noted (is_on_page p (id_in r.payload)) n (get page_cmp old.dirty p)) c.logged.view_is) (c.max-self.ensures ∙ ap (λ (r : LogRecord). max old.next (r.txn + 1)) c.logged.view_is))
    c.note_txn.ensures.running c.note_txn.ensures.over

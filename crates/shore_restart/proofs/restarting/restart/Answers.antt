use Rattle.std.proofs.Common.{◌≡◌, ◌-◌, ℕ, List, Err, arith, refl, sym, ap, subst, ◌∙◌, length, length-drop, drop}
use Rattle.std.proofs.lemmas.List.{length-take-le}
use Rattle.shore_heap.specs.declared.heap.Heap.{Heap}
use Rattle.shore_heap.specs.Heaps.{geometry_of}
use Rattle.shore_model.specs.declared.log_records.LogRecord.{LogRecord}
use Rattle.laws_checkpoints.specs.Checkpoints.{end_among}
use Rattle.laws_lives.specs.Recovery.{RecoveryState}
use Rattle.laws_runs.proofs.KeptBehind.{restart_noted}
use Rattle.shore_log.specs.Listed.{all_in}
use Rattle.shore_log.specs.Settled.{cut_of_log, records_of_log}
use Rattle.laws_images.proofs.PathsBehind.{path_reaches}
use Rattle.laws_images.specs.MomentsBehind.{PathBehind}
use Rattle.laws_images.specs.StandsBehind.{anchored_by}
use Rattle.shore_analysis.specs.KeptTables.{IsNextKept}
use Rattle.shore_restart.specs.Opened.{OpensIn}
use Rattle.shore_restart.specs.Room.{IsRoomBehind}
use Rattle.shore_restart.specs.Standing.{log_history, moment_of, resting, stream_bytes_of}
use Rattle.shore_sessions.specs.Controls.{txns_in}
use Rattle.shore_sessions.specs.declared.control.Control.{Control}
use Rattle.shore_txn.specs.Transactions.{next_in, room_in}
use Rattle.shore_analysis.proofs.Padding.{length_padded}
use Rattle.shore_restart.proofs.Frames.{last_is}
use Rattle.shore_restart.proofs.Opens.{are_earlier, numbers_left, opens_in}
use Rattle.shore_restart.proofs.QuietLogs.{quiet_beside, quiet_err, quiet_of}
use Rattle.shore_restart.proofs.WholeLogs.{whole_quiet}
use Rattle.shore_restart.proofs.restarting.restart.Goals as goal

pub over-requires-clause-earlier : goal.over-requires-clause-earlier
over-requires-clause-earlier g c t among =
    let new = c.run_passes.new.log in
    let early = are_earlier (geometry_of c.args.heap) (cut_of_log c.args.log.now) (records_of_log c.args.log.now) _ (λ n r at. (c.in-Ok.ensures.taken.0 n r at).meant) c.in-Ok.ensures.undone (geometry_of c.args.heap).max_locks
    c.in-Ok.field-0.control c.in-Ok.ensures.doubts t among in
    let long = length_padded (cut_of_log new) (records_of_log new) in
    let last = c.last-last.ensures in
    omega (arith, early, long, last)

pub over-requires-clause-durable : goal.over-requires-clause-durable
over-requires-clause-durable g c =
    let new = c.run_passes.new.log in
    let some = c.durable.ensures in
    let number = c.number-durable.ensures in
    let last = c.last-last.ensures in
    let few = length-take-le new.forced (records_of_log new) in
    omega (arith, some, number, last, few)

pub over-requires-clause-few : goal.over-requires-clause-few
over-requires-clause-few g c =
    let new = c.run_passes.new.log in
    let left = numbers_left (cut_of_log new) (records_of_log new) c.in-Ok.field-0.control (stream_bytes_of new) c.in-Ok.ensures.room in
    let last = c.last-last.ensures in
    omega (arith, left, last)

pub returns-in-Ok-clause-restarts : goal.returns-in-Ok-clause-restarts
returns-in-Ok-clause-restarts g c log_front front anchor disk s of_anchor found =
    let m = c.in-Ok.ensures.moves log_front front anchor disk s of_anchor found in
    let old = c.args.log.now in
    let new = c.run_passes.new.log in
    let heap = c.run_passes.new.heap in
    let control = c.in-Ok.field-0.control in
    let cut = cut_of_log old in
    let kept = records_of_log old in
    let room = room_in (txns_in control) in
    let tables = c.in-Ok.ensures.report.undone in
    let noted = m.notes (anchored_by anchor) (λ p. 0) found.clean in
    let ready = resting (anchored_by anchor) m.later noted.1 in
    let same : cut_of_log new ≡ cut = ap (λ t. t.first - 1) c.run_passes.ensures.log.tail in
    record {
      ready = ready;
      works = noted.0;
      behind = noted.2;
      moments = m.moments;
      path = subst (λ (heap : Heap g.row.V.Denot g.V.Disk). PathBehind (geometry_of c.args.heap) log_front front anchor (moment_of (log_history old) c.args.heap s) m.moments
          (moment_of (log_history new) heap m.later)) (sym c.over.ensures.heap) m.path;
      opens = λ lawful.
          let left = m.done.0 in
          let rest = m.done.1 in
          let quiet = whole_quiet (cut_of_log new) (records_of_log new) m.later.log rest.at_rest.ended rest.at_rest.records c.in-Ok.ensures.done in
          let begins = found.redone in
          let behind = found.kept in
          let next = subst (λ (n : ℕ). IsNextKept kept (end_among n kept) (next_in (txns_in control))) of_anchor c.in-Ok.ensures.next in
          let leaves = subst (λ (n : ℕ). IsRoomBehind n (drop n m.later.log) (stream_bytes_of new) room) same
          (subst (λ (l : List LogRecord). IsRoomBehind (cut_of_log new) l (stream_bytes_of new) room) (sym rest.at_rest.records) c.in-Ok.ensures.room) in
          let opens = opens_in c.over.result heap control front left cut anchor.checkpoint kept s.log (stream_bytes_of new) ready (geometry_of c.args.heap) (λ n r at. (c.in-Ok.ensures.taken.0 n r at).meant) found.at_rest.ended found.at_rest.records
          lawful m.undone quiet rest.redone rest.stands noted.3 (geometry_of c.args.heap).max_locks c.in-Ok.ensures.doubts next (omega (arith, begins, behind)) found.found leaves tables.0.txns tables.1.txns
          (λ st log durable running control shows. c.over.ensures.state front left st (ap length log ∙ sym (c.last-last.ensures ∙ last_is log_front anchor new m.later rest.at_rest))
          (durable ∙ rest.at_rest.durable ∙ sym c.durable.ensures ∙ sym c.number-durable.ensures) running control shows) (c.over.ensures.over left) in
          (rest.redone, quiet, rest.durable, rest.at_rest, left, subst (λ (n : ℕ). OpensIn (geometry_of c.args.heap).version n anchor.checkpoint c.over.result front left s.log (stream_bytes_of new) ready) (sym same) opens);
    }

pub returns-in-Err-clause-restarts : goal.returns-in-Err-clause-restarts
returns-in-Err-clause-restarts g c log_front front anchor disk s of_anchor found =
    let m = c.in-Err.ensures.moves log_front front anchor disk s of_anchor found in
    let first = moment_of (log_history c.args.log.now) c.args.heap s in
    let last = moment_of (log_history c.run_passes.new.log) c.run_passes.new.heap m.later in
    let reached = path_reaches (geometry_of c.args.heap) log_front front anchor first m.moments last m.path in
    let whole = restart_noted (resting (anchored_by anchor) s (λ p. 0)) reached.works m.later reached.restarts reached.loses_none in
    record {
      ready = whole.0;
      works = reached.works;
      behind = whole.1;
      moments = m.moments;
      path = subst (λ (later : RecoveryState). PathBehind (geometry_of c.args.heap) log_front front anchor first m.moments (moment_of (log_history c.run_passes.new.log) c.run_passes.new.heap later)) (sym whole.2) m.path;
      opens = λ lawful. tt;
    }

pub returns-in-Err-clause-any_pages : goal.returns-in-Err-clause-any_pages
returns-in-Err-clause-any_pages g c front first disk held = c.in-Err.ensures.any_pages front first disk held

pub returns-in-Err-clause-any_bad : goal.returns-in-Err-clause-any_bad
returns-in-Err-clause-any_bad g c front first disk held = c.in-Err.ensures.any_bad front first disk held

pub returns-in-Ok-clause-any_fit : goal.returns-in-Ok-clause-any_fit
returns-in-Ok-clause-any_fit g c front first disk held = c.in-Ok.ensures.any_fit front first disk held

pub returns-in-Ok-clause-numbers : goal.returns-in-Ok-clause-numbers
returns-in-Ok-clause-numbers g c =
    let new = c.run_passes.new.log in
    let long = length_padded (cut_of_log new) (records_of_log new) in
    let last = c.last-last.ensures in
    let first = c.over.ensures.first in
    (omega (arith, long, last, first), c.over.ensures.durable ∙ c.number-durable.ensures ∙ c.durable.ensures)

pub returns-in-Ok-clause-room : goal.returns-in-Ok-clause-room
returns-in-Ok-clause-room g c = c.in-Ok.ensures.room.leaves

pub returns-in-Ok-clause-ring : goal.returns-in-Ok-clause-ring
returns-in-Ok-clause-ring g c = ap (λ (control : Control). (room_in (txns_in control)).stream_bytes) c.over.ensures.control ∙ c.in-Ok.ensures.room.stream

pub returns-in-Ok-clause-log_device : goal.returns-in-Ok-clause-log_device
returns-in-Ok-clause-log_device g c log_front quiet =
    let on = quiet_of log_front c.args.log.now c.run_passes.new.log c.in-Ok.field-0 (c.in-Ok.ensures.log_device log_front quiet) in
    quiet_beside log_front {A = Unit {0}} c.args.log.now c.run_passes.new.log _ tt on.0 on.1

pub returns-in-Err-clause-log_device : goal.returns-in-Err-clause-log_device
returns-in-Err-clause-log_device g c log_front quiet =
    quiet_err log_front c.args.log.now c.args.log.now c.run_passes.new.log (omega arith) (Err c.in-Err.error) c.in-Err.error refl (c.in-Err.ensures.log_device log_front quiet)

pub returns-in-Ok-clause-spelled : goal.returns-in-Ok-clause-spelled
returns-in-Ok-clause-spelled g c none some =
    let new = c.run_passes.new.log in
    let all = c.in-Ok.ensures.forced none in
    omega (arith, ap length all, length-drop new.forced (records_of_log new), new.counted, length-drop new.gone (all_in new.found.items new.later.items))

use Rattle.std.proofs.Common.{◌+◌, ap, refl, ◌∙◌}
use Rattle.shore_txn.specs.Transactions.{room_in}
use Rattle.shore_txn.specs.declared.log_room.LogRoom.{LogRoom}
use Rattle.shore_sessions.specs.Controls.{txns_in}
use Rattle.shore_sessions.proofs.CheckpointSteps.{control_noted, txns_noted}
use Rattle.shore_sessions.proofs.control.Control.note_checkpoint.Goals as goal

pub returns-clause-stands : goal.returns-clause-stands
returns-clause-stands c s r was of_none costs =
    let done = c.set_room.ensures in
    control_noted c.args.self.now _ s was r
    (txns_noted (txns_in c.args.self.now) c.set_room.new.self s was.txns done.txns done.next r of_none
    (ap (λ (x : LogRoom). x.kept) done.room ∙ c.append.ensures.kept ∙ ap (λ (x : LogRoom). x.kept + c.args.cost) c.room-room.ensures ∙ ap (λ n. (room_in (txns_in c.args.self.now)).kept + n) costs)
    (ap (λ (x : LogRoom). x.stream_bytes) done.room ∙ c.append.ensures.others.1 ∙ ap (λ (x : LogRoom). x.stream_bytes) c.room-room.ensures))
    done.txns refl refl

use Rattle.laws_runs.proofs.CanStore.{event_can_be_stored}
use Rattle.laws_runs.proofs.managers.events_can_be_stored.Goals as goal

pub returns : goal.returns
returns c g m e new stored redone moves =
    let can = event_can_be_stored m stored redone g new e moves in
    (can.works, can.store, (moves, can.work, can.stored), can.redone)

use Rattle.laws_room.proofs.Undone.{event_claims}
use Rattle.laws_room.proofs.laws.events_keep_claims.Goals as goal

pub returns : goal.returns
returns c v o es old new e counts later after k step fits = event_claims after counts k e new later step fits

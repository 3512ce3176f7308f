use Rattle.laws_checkpoints.proofs.RingEvents.{by_event, event_ring}
use Rattle.laws_checkpoints.proofs.rings.events_keep_ring_room.Goals as goal

pub returns-clause-steps : goal.returns-clause-steps
returns-clause-steps c s new e r later h moves admits is = by_event s r h later e new moves admits is

pub returns-clause-kept : goal.returns-clause-kept
returns-clause-kept c s new e r later h ring moves admits is = event_ring s r h later e new ring moves admits is

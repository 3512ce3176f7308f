use Rattle.laws_room.proofs.LogRooms.{event_room}
use Rattle.laws_room.proofs.laws.events_keep_log_room.Goals as goal

pub returns : goal.returns
returns c spare old new e room later within h once apart step admits is = event_room spare within old room h once apart e new later step admits is

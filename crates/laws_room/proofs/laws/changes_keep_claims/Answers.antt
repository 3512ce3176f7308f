use Rattle.laws_room.proofs.Rooms.{change_keeps, change_slots, change_others}
use Rattle.laws_room.proofs.laws.changes_keep_claims.Goals as goal

pub returns : goal.returns
returns c v R undos counts new a id image k m alone fits grows = (
  change_keeps v R undos counts k a m id image alone fits new grows,
  change_slots v R undos counts k a m id image alone fits new grows,
  change_others v R undos counts k a m id image alone fits new grows,
)

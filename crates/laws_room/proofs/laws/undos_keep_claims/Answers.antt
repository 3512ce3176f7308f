use Rattle.laws_room.proofs.Pages.{undo_fits}
use Rattle.laws_room.proofs.Rooms.{undo_keeps, undo_slots, undo_others}
use Rattle.laws_room.proofs.laws.undos_keep_claims.Goals as goal

pub returns : goal.returns
returns c v R undos counts a kept e marks rolling k m is = (
  undo_fits v R undos counts k a m kept e marks rolling is,
  undo_keeps v R undos counts k a m kept e marks rolling is,
  undo_slots v R undos counts k a m kept e marks rolling is,
  undo_others v R undos counts k a m kept e marks rolling is,
)

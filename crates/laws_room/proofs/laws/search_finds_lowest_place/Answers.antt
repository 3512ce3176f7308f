use Rattle.laws_room.proofs.Choosing.{chosen}
use Rattle.laws_room.proofs.laws.search_finds_lowest_place.Goals as goal

pub returns-clause-choice : goal.returns-clause-choice
returns-clause-choice c v R undos counts store pages bytes may_lock test serves = chosen v R undos counts store bytes may_lock test pages serves

pub returns-clause-below : goal.returns-clause-below
returns-clause-below c v R undos counts store pages bytes may_lock id h = h.fits.there

use Rattle.laws_heaps.proofs.SettledSlots.{settled_kept, shows_in_place, shows_only, shows_whole, slots_done}
use Rattle.laws_heaps.proofs.logged.settled_heaps_show.Goals as goal

pub returns-clause-in_place : goal.returns-clause-in_place
returns-clause-in_place g c = λ heap front disk s store settled holds. shows_in_place heap disk s store settled front holds

pub returns-clause-whole : goal.returns-clause-whole
returns-clause-whole g c = λ heap front disk s store kept whole settled holds. shows_whole heap disk s store settled front holds kept whole

pub returns-clause-only : goal.returns-clause-only
returns-clause-only g c = λ heap front disk s S store settled. shows_only heap disk s store settled front S

pub returns-clause-kept : goal.returns-clause-kept
returns-clause-kept g c = settled_kept

pub returns-clause-slots : goal.returns-clause-slots
returns-clause-slots g c = λ heap disk s store kept whole p has. slots_done s p kept (store.done p) whole

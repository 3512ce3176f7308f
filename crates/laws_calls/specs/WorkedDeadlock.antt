-- A run of two sessions worked by hand: both share the volume, and each asks for all of it. The second to ask closes a cycle of waits. The younger transaction is its
-- victim: its session is told so as it is resumed, and aborts, and the other one has its lock.
use Rattle.std.specs.Prelude.{ℕ, List, [], ◌∷◌, Err, Ok}
use Rattle.shore_types.specs.declared.faults.Fault.TheVariants.{Deadlock}
use Rattle.shore_types.specs.declared.locking.Granule.TheVariants.{Volume}
use Rattle.shore_types.specs.declared.locking.Mode.TheVariants.{EX, SH}
use Rattle.shore_model.specs.declared.calls.Answer.TheVariants.{Aborted, Began, Locked}
use Rattle.shore_model.specs.declared.calls.Call.{Call}
use Rattle.shore_model.specs.declared.calls.Call.TheVariants as call
use Rattle.shore_model.specs.declared.histories.Entry.{Entry}
use Rattle.shore_model.specs.declared.histories.Entry.TheVariants.{Exchanged}
use Rattle.laws_lives.specs.SessionSteps.{exchange}
use Rattle.shore_model.specs.declared.step.Step.TheVariants.{Done, Refused, Waits}
use Rattle.shore_model.specs.declared.step.Wait.TheVariants.{Lock}
use Rattle.laws_calls.specs.Events.{Called, ManagerEvent, Resumed}

abbrev pub share_all : Call
share_all = call.Lock Volume SH

abbrev pub take_all : Call
take_all = call.Lock Volume EX

abbrev pub cycle_of_two : List ℕ
cycle_of_two = 2 ∷ 1 ∷ []

abbrev pub a_deadlock : List ManagerEvent
a_deadlock =
    Called 1 call.Begin (Done (Began 1)) ∷ Called 2 call.Begin (Done (Began 2))
    ∷ Called 1 share_all (Done Locked) ∷ Called 2 share_all (Done Locked)
    ∷ Called 2 take_all (Waits (Lock Volume)) ∷ Called 1 take_all (Waits (Lock Volume))
    ∷ Resumed 2 (Refused (Deadlock cycle_of_two)) ∷ Called 2 call.Abort (Done Aborted)
    ∷ Resumed 1 (Done Locked) ∷ []

-- what its history has
abbrev pub told_in_a_deadlock : List Entry
told_in_a_deadlock =
    Exchanged 1 1 (exchange call.Begin (Ok (Began 1))) ∷ Exchanged 2 2 (exchange call.Begin (Ok (Began 2)))
    ∷ Exchanged 1 1 (exchange share_all (Ok Locked)) ∷ Exchanged 2 2 (exchange share_all (Ok Locked))
    ∷ Exchanged 2 2 (exchange take_all (Err (Deadlock cycle_of_two))) ∷ Exchanged 2 2 (exchange call.Abort (Ok Aborted))
    ∷ Exchanged 1 1 (exchange take_all (Ok Locked)) ∷ []

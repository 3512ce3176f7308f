-- Cycles of waits that stood within the events of a run.
use Rattle.std.specs.Prelude.{◌⊎◌, ℕ, List, [], ◌∷◌}
use Rattle.shore_types.specs.declared.layout.Geometry.{Geometry}
use Rattle.laws_calls.specs.Events.{Called, EventMoves, EventsMove, Forced, GaveUp, HasFailed, ManagerEvent, Resumed, TicketAsked}
use Rattle.laws_calls.specs.Midway.{EndsFrom, Interlude, Intervene, IsItsCycle, IsMidway}
use Rattle.laws_calls.specs.States.{State}

-- the event comes by the state on its way to what it leaves
abbrev pub IsWithin : Geometry → State → ManagerEvent → State → State → Type 0
IsWithin g s (Called session c step) new x =
    (between : List Interlude) × IsMidway g s session c between x × ((later : List Interlude) × (from : State) × Intervene g session x later from × EndsFrom g from session step new)
IsWithin g s (Resumed session step) new x =
    (between : List Interlude) × Intervene g session s between x × ((later : List Interlude) × (from : State) × Intervene g session x later from × EndsFrom g from session step new)
IsWithin g s (GaveUp session step) new x = ⊥
IsWithin g s (Forced n) new x = ⊥
IsWithin g s HasFailed new x = ⊥
IsWithin g s (TicketAsked ticket answer) new x = ⊥

-- the events lead to the state, and within one of them the cycle stood, of which the session's transaction was the greatest
abbrev pub StoodAmong : Geometry → State → List ManagerEvent → State → ℕ → List ℕ → Type 0
StoodAmong g s [] last session cycle = ⊥
StoodAmong g s (e ∷ events) last session cycle = (new : State) × EventMoves g s e new × EventsMove g new events last
    × (((x : State) × IsWithin g s e new x × IsItsCycle x session cycle) ⊎ StoodAmong g new events last session cycle)

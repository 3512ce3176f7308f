-- What a session hears of a call, and what it is answered.
use Rattle.std.specs.Prelude.{◌≡◌, ◌≢◌, ◌≤◌, ◌⊎◌, ◌++◌, ℕ, Bool, true, List, [], ◌∷◌, None, Option, Some, Result, Ok, Err}
use Rattle.shore_types.specs.declared.faults.Fault.{Fault}
use Rattle.shore_types.specs.declared.faults.Fault.TheVariants as fault
use Rattle.shore_types.specs.declared.locking.Granule.{Granule}
use Rattle.shore_model.specs.declared.calls.Answer.{Answer}
use Rattle.shore_model.specs.declared.calls.Answer.TheVariants as answer
use Rattle.shore_model.specs.declared.calls.Call.{Call}
use Rattle.shore_model.specs.declared.calls.Call.TheVariants as call
use Rattle.shore_model.specs.declared.step.Step.{Step}
use Rattle.shore_model.specs.declared.step.Step.TheVariants as made
use Rattle.shore_model.specs.declared.step.Wait.TheVariants as wait
use Rattle.shore_words.specs.declared.rule.Heard.{Heard}
use Rattle.shore_words.specs.declared.rule.View.{View}

-- A seat has looked how far the log is durable, and whether a device has failed: it knows what it knew, or more.
abbrev pub HasLooked : View → View → Type 0
HasLooked old new = (new ≡ record old { seen = new.seen; failed = new.failed }) × (old.seen ≤ new.seen) × (old.failed ≡ true → new.failed ≡ true)

-- a step behind which a number has to be durable before the session goes on
abbrev pub AwaitsLog : Step → Type 0
AwaitsLog step = (number : ℕ) × ((step ≡ made.Waits (wait.Durable number)) ⊎ (step ≡ made.Refused (fault.NeedForce number)))

-- .. or its locks have to be free
abbrev pub AwaitsLock : Step → Type 0
AwaitsLock step = (granule : Granule) × (step ≡ made.Waits (wait.Lock granule))

-- A session went on with its call that waits, and has heard this step; or two, if it waited still for a lock and that wait was taken back.
abbrev pub HasGoneOn : View → View → Step → Type 0
HasGoneOn old new step = (new ≡ record old { heard = old.heard ++ record { asked = None; step = step } ∷ [] })
    ⊎ ((waits : Step) × AwaitsLock waits × (new ≡ record old { heard = (old.heard ++ record { asked = None; step = waits } ∷ []) ++ record { asked = None; step = step } ∷ [] }))

-- what is asked behind a step that is not the last: a call that waits goes on, and one that needs a force is made again
abbrev pub asked_behind : Call → Step → Option Call
asked_behind c (made.Waits w) = None
asked_behind c (made.Refused f) = Some c
asked_behind c (made.Done a) = Some c
asked_behind c made.Nothing = Some c

-- What the last step of a call is answered as. A call is over neither by a wait nor by the need for a force, and over honest devices there is always something to do.
abbrev pub IsAnswered : Step → Result Answer Fault → Type 0
IsAnswered (made.Done a) result = result ≡ Ok a
IsAnswered (made.Refused f) result = (result ≡ Err f) × ((number : ℕ) → f ≢ fault.NeedForce number)
IsAnswered (made.Waits w) result = ⊥
IsAnswered made.Nothing result = result ≡ Err fault.NotQuiet

-- A session that asks this next for its call hears these, and is then answered so: by the last of them; by `Device` if it found, while it awaited a number behind the last, that a device has failed; or by
-- `Memory` if there was none to make the call, or to make it again.
abbrev pub Hears : Bool → Call → Option Call → List Heard → Result Answer Fault → Type 0
Hears failed c next [] result = (next ≡ Some c) × (result ≡ Err fault.Memory)
Hears failed c next (h ∷ hs) result = (h.asked ≡ next)
    × (((hs ≡ []) × IsAnswered h.step result) ⊎ ((hs ≡ []) × AwaitsLog h.step × (result ≡ Err fault.Device) × (failed ≡ true))
    ⊎ ((AwaitsLog h.step ⊎ AwaitsLock h.step) × Hears failed c (asked_behind c h.step) hs result))

-- What an awaited commit comes to, of what its call was answered: that ticket; the call's refusal; or `Device` if it was found, while the ticket was awaited, that a device has failed.
abbrev pub IsOfCommit : Bool → Result Answer Fault → Result ℕ Fault → Type 0
IsOfCommit failed reply (Ok ticket) = reply ≡ Ok (answer.Committed ticket)
IsOfCommit failed reply (Err f) = (reply ≡ Err f) ⊎ ((ticket : ℕ) × (reply ≡ Ok (answer.Committed ticket)) × (f ≡ fault.Device) × (failed ≡ true))
    ⊎ ((other : Answer) × (reply ≡ Ok other) × ((ticket : ℕ) → other ≢ answer.Committed ticket) × (f ≡ fault.NotQuiet))

abbrev pub HearsCommit : Bool → List Heard → Result ℕ Fault → Type 0
HearsCommit failed heard result = (reply : Result Answer Fault) × Hears failed call.Commit (Some call.Commit) heard reply × IsOfCommit failed reply result

-- The last that was heard came to this step.
abbrev pub EndsIn : List Heard → Step → Type 0
EndsIn heard step = (before : List Heard) × (asked : Option Call) × (heard ≡ before ++ record { asked = asked; step = step } ∷ [])

-- What a call is refused with, of what its session has heard of it. It is never the need for a force. The last came to this refusal; or there was no memory to make the call, or to make
-- it again; or it found, while it awaited a number behind the last, that a device has failed; or there was nothing to go on with.
abbrev pub IsRefusal : Bool → List Heard → Fault → Type 0
IsRefusal failed heard f = ((number : ℕ) → f ≢ fault.NeedForce number)
    × (EndsIn heard (made.Refused f) ⊎ ((f ≡ fault.Memory) × ((heard ≡ []) ⊎ ((number : ℕ) × EndsIn heard (made.Refused (fault.NeedForce number)))))
    ⊎ ((f ≡ fault.Device) × (failed ≡ true) × ((step : Step) × AwaitsLog step × EndsIn heard step)) ⊎ ((f ≡ fault.NotQuiet) × EndsIn heard made.Nothing))

-- .. and what an awaited commit is: as its call; or it was found, while its ticket was awaited, that a device has failed; or it was answered as no commit is.
abbrev pub IsRefusalOfCommit : Bool → List Heard → Fault → Type 0
IsRefusalOfCommit failed heard f = ((number : ℕ) → f ≢ fault.NeedForce number)
    × (IsRefusal failed heard f ⊎ ((f ≡ fault.Device) × (failed ≡ true) × ((ticket : ℕ) × EndsIn heard (made.Done (answer.Committed ticket))))
    ⊎ ((f ≡ fault.NotQuiet) × ((other : Answer) × ((ticket : ℕ) → other ≢ answer.Committed ticket) × EndsIn heard (made.Done other))))

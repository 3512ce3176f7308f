-- The trail of a core under its lock: what was asked of it, and what that came to.
use Rattle.std.specs.Prelude.{◌≡◌, ◌⊎◌, ◌+◌, ◌||◌, ℕ, Bool, true, false, List, [], ◌∷◌, ◌++◌, None, Some}
use Rattle.shore_model.specs.declared.step.Step.{Step}
use Rattle.shore_model.specs.declared.step.Step.TheVariants as made
use Rattle.laws_calls.specs.Events.{Called, Forced, GaveUp, HasFailed, Resumed}
use Rattle.shore_words.specs.declared.rule.Noted.{Noted}
use Rattle.shore_world.specs.EventMoves.{OfCheckpoint, OfManager, PlainMove}
use Rattle.shore_held.specs.declared.asked.Asked.{Asked}
use Rattle.shore_held.specs.declared.asked.Asked.TheVariants as asked

-- what was asked, by which session, with what it came to, as a move of the manager over plain data
abbrev pub move_of : Asked → ℕ → Step → PlainMove
move_of (asked.Call c) session step = OfManager (Called session c step)
move_of asked.Resume session step = OfManager (Resumed session step)
move_of asked.GiveUp session step = OfManager (GaveUp session step)
move_of (asked.Told n) session step = OfManager (Forced n)
move_of asked.Checkpoint session step = OfCheckpoint step
move_of asked.Failed session step = OfManager HasFailed

abbrev pub moves_of : List (Asked × ℕ) → List (Step × ℕ) → List PlainMove
moves_of [] steps = []
moves_of (a ∷ others) [] = []
moves_of (a ∷ others) (step ∷ steps) = move_of a.0 a.1 step.0 ∷ moves_of others steps

-- what a session hears as its wait is taken back: nothing if there was none
abbrev pub noted_back : ℕ → Step → List Noted
noted_back session made.Nothing = []
noted_back session (made.Done a) = record { session = session; heard = record { asked = None; step = made.Done a } } ∷ []
noted_back session (made.Waits w) = record { session = session; heard = record { asked = None; step = made.Waits w } } ∷ []
noted_back session (made.Refused f) = record { session = session; heard = record { asked = None; step = made.Refused f } } ∷ []

-- what a session hears of it
abbrev pub noted_of : Asked → ℕ → Step → List Noted
noted_of (asked.Call c) session step = record { session = session; heard = record { asked = Some c; step = step } } ∷ []
noted_of asked.Resume session step = record { session = session; heard = record { asked = None; step = step } } ∷ []
noted_of asked.GiveUp session step = noted_back session step
noted_of (asked.Told n) session step = []
noted_of asked.Checkpoint session step = []
noted_of asked.Failed session step = []

abbrev pub noted_in : List (Asked × ℕ) → List (Step × ℕ) → List Noted
noted_in [] steps = []
noted_in (a ∷ others) [] = []
noted_in (a ∷ others) (step ∷ steps) = noted_of a.0 a.1 step.0 ++ noted_in others steps

-- how many of them are calls and resumes of sessions, and waits that are to be taken back
abbrev pub counted : Asked → ℕ
counted (asked.Call c) = 1
counted asked.Resume = 1
counted asked.GiveUp = 1
counted (asked.Told n) = 0
counted asked.Checkpoint = 0
counted asked.Failed = 0

abbrev pub calls_in : List (Asked × ℕ) → ℕ
calls_in [] = 0
calls_in (a ∷ others) = counted a.0 + calls_in others

-- whether it was told that a device has failed
abbrev pub is_failure : Asked → Bool
is_failure (asked.Call c) = false
is_failure asked.Resume = false
is_failure asked.GiveUp = false
is_failure (asked.Told n) = false
is_failure asked.Checkpoint = false
is_failure asked.Failed = true

abbrev pub has_failure : List (Asked × ℕ) → Bool
has_failure [] = false
has_failure (a ∷ others) = is_failure a.0 || has_failure others

-- A trail, what was asked and what that came to, has gone on by what was learned of the log, if that was more, and then by these.
abbrev pub GoesOn : List (Asked × ℕ) × List (Step × ℕ) → List (Asked × ℕ) × List (Step × ℕ) → List (Asked × ℕ) → List (Step × ℕ) → Type 0
GoesOn old new more steps =
    (new ≡ (old.0 ++ more, old.1 ++ steps)) ⊎ ((n : ℕ) × (new ≡ (old.0 ++ (asked.Told n, 0) ∷ more, old.1 ++ (made.Nothing, 0) ∷ steps)))

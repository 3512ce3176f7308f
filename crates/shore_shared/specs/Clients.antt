-- What the trail has of a client, by the calls and answers that the client was told.
use Rattle.std.specs.Prelude.{◌≡◌, ◌≢◌, ◌⊎◌, ◌+◌, ℕ, Bool, true, Contains, List, None, Option, Some, Result, Ok, Err, flat_map, length, slice_get}
use Rattle.shore_types.specs.declared.faults.Fault.{Fault}
use Rattle.shore_types.specs.declared.faults.Fault.TheVariants as fault
use Rattle.shore_model.specs.declared.calls.Answer.{Answer}
use Rattle.shore_model.specs.declared.calls.Answer.TheVariants as answer
use Rattle.shore_model.specs.declared.calls.Call.{Call}
use Rattle.shore_model.specs.declared.calls.Exchange.{Exchange}
use Rattle.shore_model.specs.declared.step.Step.{Step}
use Rattle.shore_model.specs.declared.step.Step.TheVariants as made
use Rattle.shore_model.specs.declared.step.Wait.{Wait}
use Rattle.shore_words.specs.declared.rule.Noted.{Noted}
use Rattle.shore_words.specs.Words.{heard_of}
use Rattle.shore_shared.specs.Told.{AreTold, IsWithin, Seen}

-- a session's ask, or its going on, stands in the trail with what that came to
abbrev pub StandsIn : List Noted → ℕ → Option Call → Step → Type 0
StandsIn noted session asked step = Contains noted (record { session = session; heard = record { asked = asked; step = step } })

-- In the trail the session's call came to this: as it was made, or as the session went on with it, where it was made and had to wait.
abbrev pub CameTo : List Noted → ℕ → Call → Step → Type 0
CameTo noted session c step = StandsIn noted session (Some c) step ⊎ (StandsIn noted session None step × ((wait : Wait) × StandsIn noted session (Some c) (made.Waits wait)))

-- What a client was told of a call is what it came to in the trail. `Memory` and `NotQuiet` may have been told without that, and `Device` if a device has failed.
abbrev pub IsFromTrail : List Noted → Bool → ℕ → Exchange → Type 0
IsFromTrail noted failed session e =
    ((a : Answer) → e.reply ≡ Ok a → CameTo noted session e.call (made.Done a))
    × ((f : Fault) → e.reply ≡ Err f → CameTo noted session e.call (made.Refused f) ⊎ (f ≡ fault.Memory) ⊎ ((f ≡ fault.Device) × (failed ≡ true)) ⊎ (f ≡ fault.NotQuiet))

-- a Commit comes to its ticket, or to a refusal, which does not say that somebody is under way
abbrev pub ComesOfCommit : Step → Type 0
ComesOfCommit (made.Done a) = (ticket : ℕ) × (a ≡ answer.Committed ticket)
ComesOfCommit (made.Refused f) = f ≢ fault.NotQuiet
ComesOfCommit (made.Waits w) = ⊥
ComesOfCommit made.Nothing = ⊥

-- .. and is answered so
abbrev pub IsReplyToCommit : Result Answer Fault → Type 0
IsReplyToCommit (Ok a) = (ticket : ℕ) × (a ≡ answer.Committed ticket)
IsReplyToCommit (Err f) = f ≢ fault.NotQuiet

-- A client's life: what it was told in one job after another is all that the trail has of its session, in that order; and what is claimed of each job holds of what the client came to in it, of what it
-- was told in it, and of what is so of the manager.
pub record IsClientsLife {J D : Type 0} (says : J → ℕ → D → List Exchange → Seen → Type 0) (noted : List Noted) (is : Seen) (client : ℕ) (jobs : List J) (done : List (List D)) (told : List (List Exchange)) : Type 0 where
  pub trail : AreTold is.failed (flat_map (λ es. es) told) (heard_of (client + 1) noted)
  pub each : (length told ≡ length jobs) × (length done ≡ length jobs)
  pub claims : (job : ℕ) (it : J) → slice_get jobs job ≡ Some it → (row : List D) × (d : D) × (es : List Exchange) × (seen : Seen)
      × (slice_get done job ≡ Some row) × (slice_get row client ≡ Some d) × (slice_get told job ≡ Some es) × IsWithin seen is × says it client d es seen

-- The life of two clients, worked by hand.
use Rattle.std.specs.Prelude.{◌≡◌, ℕ, List, [], ◌∷◌, None, Some, Ok, false, true}
use Rattle.shore_types.specs.declared.faults.Fault.TheVariants as fault
use Rattle.shore_types.specs.declared.locking.Granule.{Granule}
use Rattle.shore_model.specs.declared.calls.Answer.{Answer}
use Rattle.shore_model.specs.declared.calls.Answer.TheVariants as answer
use Rattle.shore_model.specs.declared.calls.Call.{Call}
use Rattle.shore_model.specs.declared.calls.Call.TheVariants as call
use Rattle.shore_model.specs.declared.calls.Exchange.{Exchange}
use Rattle.shore_model.specs.declared.step.Step.{Step}
use Rattle.shore_model.specs.declared.step.Step.TheVariants as made
use Rattle.shore_model.specs.declared.step.Wait.TheVariants as wait
use Rattle.shore_words.specs.declared.rule.Heard.{Heard}
use Rattle.shore_words.specs.declared.rule.Noted.{Noted}
use Rattle.shore_shared.specs.Told.{Seen, Shown}

-- a call that was made, one that went on, and which session it was
abbrev pub asks : Call → Step → Heard
asks c step = record { asked = Some c; step = step }

abbrev pub goes_on : Step → Heard
goes_on step = record { asked = None; step = step }

abbrev pub by : ℕ → Heard → Noted
by session heard = record { session = session; heard = heard }

abbrev pub is_told : Call → Answer → Exchange
is_told c a = record { call = c; reply = Ok a }

-- so much is durable, and no device has failed; or one has
abbrev pub unfailed : ℕ → Seen
unfailed durable = record { durable = durable; failed = false }

abbrev pub failed_with : ℕ → Seen
failed_with durable = record { durable = durable; failed = true }

-- a session that has heard so much, and has seen so much
abbrev pub has_heard : ℕ → List Heard → Seen → Shown
has_heard session heard seen = record { session = session; heard = heard; seen = seen }

-- A call waits for a lock and goes on; then it needs a force, and is made again after it; then it is done.
abbrev pub waits_and_is_repeated : Call → Granule → ℕ → Answer → List Heard
waits_and_is_repeated c g n a = asks c (made.Waits (wait.Lock g)) ∷ goes_on (made.Refused (fault.NeedForce n)) ∷ asks c (made.Done a) ∷ []

-- The first client begins in its first job and commits in its second. The second client makes such a call in its first job, while the other goes on to commit, and none in its second.
abbrev pub worked_trail : ℕ → ℕ → Call → Granule → ℕ → Answer → List Noted
worked_trail txn ticket c g n a =
    by 2 (asks c (made.Waits (wait.Lock g))) ∷ by 1 (asks call.Begin (made.Done (answer.Began txn))) ∷ by 2 (goes_on (made.Refused (fault.NeedForce n)))
    ∷ by 2 (asks c (made.Done a)) ∷ by 1 (asks call.Commit (made.Done (answer.Committed ticket))) ∷ []

-- Each came to what it was told, which is what the author of the jobs claims.
abbrev pub worked_ends : ℕ → ℕ → Call → Answer → List (List (List Exchange))
worked_ends txn ticket c a = ((is_told call.Begin (answer.Began txn) ∷ []) ∷ (is_told c a ∷ []) ∷ []) ∷ ((is_told call.Commit (answer.Committed ticket) ∷ []) ∷ [] ∷ []) ∷ []

abbrev pub claims_what_was_told : ℕ → ℕ → List Exchange → List Exchange → Seen → Type 0
claims_what_was_told job client done told seen = told ≡ done

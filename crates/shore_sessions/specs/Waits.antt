-- The calls that wait.
use Rattle.std.specs.Prelude.{◌≡◌, ◌≢◌, ◌⊎◌, ◌<◌, ◌≤◌, ℕ, List, Option, Some, All, false, true, slice_get, vec_capacity, vec_len}
use Rattle.shore_model.specs.declared.requests.Request.{Request}
use Rattle.shore_locks.specs.LetThrough.{IsTold}
use Rattle.shore_locks.specs.Tables.{is_waiting}
use Rattle.shore_sessions.specs.Calls.{awaits_record}
use Rattle.shore_sessions.specs.declared.waits.WaitingCall.{WaitingCall}
use Rattle.shore_sessions.specs.declared.waits.Waits.{Waits}

-- the oldest first
abbrev pub calls_in : Waits → List WaitingCall
calls_in waits = waits.calls.items

-- a call more needs no memory
abbrev pub HasCallRoom : Waits → Type 0
HasCallRoom waits = (vec_len waits.calls < vec_capacity waits.calls) × (vec_len waits.let_through < vec_capacity waits.let_through)

-- no call of the session waits
abbrev pub HasNoCall : ℕ → Waits → Type 0
HasNoCall session waits = All (λ w. w.session ≢ session) (calls_in waits)

-- ---- which of them were let through

-- the call at a place was
abbrev pub IsMarked : ℕ → Waits → Type 0
IsMarked n waits = slice_get waits.let_through.items n ≡ Some true

-- no call was, from one place on and before another
abbrev pub IsNoneMarked : Waits → ℕ → ℕ → Type 0
IsNoneMarked waits from upto = (n : ℕ) → from ≤ n → n < upto → IsMarked n waits → ⊥

-- each call was that waits for a lock, and whose transaction waits no more
abbrev pub AreMarked : List Request → Waits → Type 0
AreMarked rs waits = (n : ℕ) (w : WaitingCall) → slice_get (calls_in waits) n ≡ Some w → awaits_record w ≡ false → is_waiting w.txn rs ≡ false → IsMarked n waits

-- .. but perhaps those that are told
abbrev pub AreMarkedBut : Option (List ℕ) → List Request → Waits → Type 0
AreMarkedBut told rs waits = (n : ℕ) (w : WaitingCall) → slice_get (calls_in waits) n ≡ Some w → awaits_record w ≡ false → is_waiting w.txn rs ≡ false
    → IsMarked n waits ⊎ IsTold w.txn told

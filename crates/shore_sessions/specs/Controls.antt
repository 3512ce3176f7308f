-- What a control has.
use Rattle.std.specs.Prelude.{◌≡◌, ◌≢◌, ◌⊎◌, ◌<◌, ◌≤◌, ℕ, List, Some, All, false, slice_get}
use Rattle.shore_model.specs.declared.calls.Call.TheVariants as call
use Rattle.shore_model.specs.declared.calls.Outcome.{Outcome}
use Rattle.shore_locks.specs.Tables.{Table, is_waiting}
use Rattle.laws_lives.specs.Views.{IsAmong}
use Rattle.shore_txn.specs.Transactions as table
use Rattle.shore_txn.specs.Txns.{global_of}
use Rattle.shore_txn.specs.declared.transactions.Transactions.{Transactions}
use Rattle.shore_txn.specs.declared.txn.Txn.{Txn}
use Rattle.shore_sessions.specs.declared.control.Control.{Control}
use Rattle.shore_sessions.specs.declared.waits.WaitingCall.{WaitingCall}
use Rattle.shore_sessions.specs.Calls.{awaits_record}
use Rattle.shore_sessions.specs.Waits.{HasCallRoom, calls_in}

-- its transactions under way
abbrev pub txns_in : Control → Transactions
txns_in control = control.txns

-- its lock table
abbrev pub locks_in : Control → Table
locks_in control = control.locks

-- the calls that wait, the oldest first
abbrev pub waits_in : Control → List WaitingCall
waits_in control = calls_in control.waits

-- no call of the session waits
abbrev pub HasNoWait : ℕ → Control → Type 0
HasNoWait session control = All (λ w. w.session ≢ session) (waits_in control)

-- a call more that waits needs no memory
abbrev pub HasWaitRoom : Control → Type 0
HasWaitRoom control = HasCallRoom control.waits

-- the call waits for a lock, and its transaction waits no more
abbrev pub IsLetThrough : Control → WaitingCall → Type 0
IsLetThrough control w = (awaits_record w ≡ false) × (is_waiting w.txn (locks_in control).requests ≡ false)

-- no call is let through, of those from one place of their list on, and before another
abbrev pub NoneLetThrough : Control → ℕ → ℕ → Type 0
NoneLetThrough control from upto = (n : ℕ) (w : WaitingCall) → from ≤ n → n < upto → slice_get (waits_in control) n ≡ Some w → IsLetThrough control w → ⊥

-- a transaction has this name: one of the table, or one that a resolve which waits has ended
abbrev pub IsNameTaken : Control → List ℕ → Type 0
IsNameTaken control global =
    ((t : Txn) × IsAmong t (table.txns_in (txns_in control)) × (global_of t ≡ Some global))
    ⊎ ((w : WaitingCall) × (asked : Outcome) × IsAmong w (waits_in control) × (w.call ≡ call.Resolve global asked))

-- Calls that wait, the oldest first, as the state has them: the newest first, and without their transactions.
use Rattle.std.specs.Prelude.{◌==◌, ◌||◌, ℕ, List, Bool, Option, None, Some, true, false, if◌then◌else◌, map, reverse}
use Rattle.std.specs.List.{filter_map}
use Rattle.shore_model.specs.declared.calls.Call.{Call}
use Rattle.shore_model.specs.declared.calls.Call.TheVariants as call
use Rattle.shore_model.specs.declared.step.Wait.{Wait}
use Rattle.shore_model.specs.declared.step.Wait.TheVariants.{Durable, Lock}
use Rattle.laws_calls.specs.States.{Waiting}
use Rattle.laws_lives.specs.Sessions.{ResolvedTxn, SessionTxn}
use Rattle.shore_sessions.specs.declared.waits.WaitingCall.{WaitingCall}

abbrev pub as_waiting : WaitingCall → Waiting
as_waiting w = record { session = w.session; call = w.call; wait = w.wait; cycle = w.cycle }

abbrev pub as_waitings : List WaitingCall → List Waiting
as_waitings calls = reverse (map as_waiting calls)

-- ---- what a call waits for

-- it waits for a force
abbrev pub is_durable : Wait → Bool
is_durable (Durable n) = true
is_durable (Lock at) = false

-- .. of its record; else for a lock
abbrev pub awaits_record : WaitingCall → Bool
awaits_record w = is_durable w.wait

abbrev pub asks_prepare : Call → Bool
asks_prepare (call.Prepare global) = true
asks_prepare _ = false

abbrev pub asks_resolve : Call → Bool
asks_resolve (call.Resolve global asked) = true
asks_resolve _ = false

-- the calls that log a decision's record, and are answered once it is durable
abbrev pub logs_decision : Call → Bool
logs_decision c = asks_prepare c || asks_resolve c

-- it is a resolve
abbrev pub is_resolve : WaitingCall → Bool
is_resolve w = asks_resolve w.call

-- what a call resolves, by the number of the transaction
abbrev pub resolved_as : ℕ → Call → Option ResolvedTxn
resolved_as t (call.Resolve global asked) = Some record { txn = t; global = global; outcome = asked }
resolved_as t call.Begin = None
resolved_as t (call.Get id) = None
resolved_as t (call.GetForUpdate id) = None
resolved_as t (call.Insert store bytes) = None
resolved_as t (call.Update id bytes) = None
resolved_as t (call.Delete id) = None
resolved_as t (call.Scan store) = None
resolved_as t (call.Lock at mode) = None
resolved_as t (call.TryLock at mode) = None
resolved_as t call.Savepoint = None
resolved_as t (call.BackTo index) = None
resolved_as t call.Commit = None
resolved_as t call.Abort = None
resolved_as t (call.Prepare global) = None
resolved_as t call.InDoubt = None

abbrev pub as_resolved : WaitingCall → Option ResolvedTxn
as_resolved w = resolved_as w.txn w.call

-- what the resolves among the calls have decided
abbrev pub resolved_by : List WaitingCall → List ResolvedTxn
resolved_by calls = filter_map as_resolved calls

-- the calls that wait, once that of a session is to be told this cycle
abbrev pub cycle_noted : ℕ → List ℕ → List WaitingCall → List WaitingCall
cycle_noted session cycle calls =
    map (λ w. if w.session == session then record { session = w.session; txn = w.txn; call = w.call; wait = w.wait; cycle = Some cycle } else w) calls

-- ---- a transaction is named by its session and its number

abbrev pub name_of : SessionTxn → ℕ × ℕ
name_of a = (a.session, a.txn)

abbrev pub names_of : List SessionTxn → List (ℕ × ℕ)
names_of xs = map name_of xs

-- .. that of a call that waits
abbrev pub caller_of : WaitingCall → ℕ × ℕ
caller_of w = (w.session, w.txn)

-- What a resolve comes to, of any session that is in no other transaction. To commit, the record of the decision goes last, and the locks go with it. To roll
-- back, the decision is logged, then what is left of the transaction is put back, and the locks go with its End. It is answered once the decision is durable.
use Rattle.std.specs.Prelude.{true, ◌≡◌, ◌⊎◌, ◌<◌, ◌≤◌, ◌==◌, ◌&&◌, ℕ, List, ◌∷◌, filter, reverse}
use Rattle.shore_types.specs.declared.faults.Fault.{Fault}
use Rattle.shore_types.specs.declared.faults.Fault.TheVariants as fault
use Rattle.shore_model.specs.declared.calls.Answer.TheVariants.{Resolved}
use Rattle.shore_model.specs.declared.calls.Call.TheVariants as call
use Rattle.shore_model.specs.declared.calls.Outcome.{Outcome}
use Rattle.shore_model.specs.declared.calls.Outcome.TheVariants as outcome
use Rattle.shore_model.specs.declared.log_records.LogRecord.{LogRecord}
use Rattle.shore_model.specs.declared.rollbacks.Rollback.TheVariants.{Whole}
use Rattle.shore_model.specs.declared.step.Step.{Step}
use Rattle.shore_model.specs.declared.step.Step.TheVariants.{Done, Nothing, Refused, Waits}
use Rattle.shore_model.specs.declared.step.Wait.TheVariants.{Durable}
use Rattle.shore_model.specs.Logs.{first_number, is_rollback, numbered}
use Rattle.shore_locks.specs.Grants.{released}
use Rattle.laws_lives.specs.Logged.{log_after}
use Rattle.laws_lives.specs.SessionSteps.{AnswerResolve, AppendResolve, AppendRollback, EndRollback, entries_by}
use Rattle.laws_lives.specs.Sessions.{ResolvedTxn, SessionTxn, in_prepared, pairs_of, resolve_answered, resolve_appended, rollback_appended, rollback_ended, seated}
use Rattle.laws_lives.specs.Views.{IsAmong}
use Rattle.laws_calls.specs.Rollbacks.{IsInterrupted, rolled}
use Rattle.laws_calls.specs.StateChanges.{decision_waiting, with_requests}
use Rattle.laws_calls.specs.States.{HasNoTxn, State, next_number, without_waiting}

-- ---- which transactions can be resolved, and by whom

-- the transaction is in doubt under the global id, and its prepare is answered
abbrev pub IsResolvable : State → SessionTxn → List ℕ → Type 0
IsResolvable s a global = IsAmong a s.sessions.active × IsAmong (record { txn = a.txn; global = global; answered = true }) s.sessions.prepared

-- a resolve has decided to roll it back, and that has not ended
abbrev pub IsRollingBack : State → SessionTxn → List ℕ → Type 0
IsRollingBack s a global = IsAmong a s.sessions.active × IsAmong (record { txn = a.txn; global = global; outcome = outcome.Abort }) s.sessions.resolving

-- the session is in no transaction, or in the one that is in doubt under the global id
abbrev pub MayResolve : State → ℕ → List ℕ → Type 0
MayResolve s session global = HasNoTxn s session ⊎ ((t : ℕ) × (s.sessions.seats session ≡ in_prepared t) × IsAmong (t, global) (pairs_of s.sessions.prepared))

-- ---- what is left

-- the decision to commit goes last, the locks go with it, and the call waits for its force
abbrev pub resolve_committed : State → ℕ → SessionTxn → List ℕ → State
resolve_committed s session a global =
    with_requests
    (record s {
      sessions = seated s.sessions (entries_by s.sessions (AppendResolve a global)) (resolve_appended s.sessions a global);
      log = log_after s.log s.sessions (AppendResolve a global);
      waiting = decision_waiting session (call.Resolve global outcome.Commit) (next_number s) ∷ s.waiting;
    })
    (released a.txn s.locks.requests)

-- the decision to roll back goes last, and nothing is put back yet
abbrev pub rollback_decided : State → SessionTxn → List ℕ → State
rollback_decided s a global = record s {
  sessions = seated s.sessions (entries_by s.sessions (AppendRollback a global)) (rollback_appended s.sessions a global);
  log = log_after s.log s.sessions (AppendRollback a global);
}

-- all that is left of the transaction is put back, and its locks go with the End
abbrev pub rollback_done : State → SessionTxn → State
rollback_done s a =
    with_requests (record s { sessions = rollback_ended s.sessions a; log = log_after s.log s.sessions (EndRollback a) }) (released a.txn s.locks.requests)

-- a resolve is answered
abbrev pub resolve_told : State → ℕ → ResolvedTxn → State
resolve_told s session r = record s { sessions = seated s.sessions (entries_by s.sessions (AnswerResolve session r)) (resolve_answered s.sessions r.txn) }

-- .. that waited
abbrev pub resolve_ended : State → ℕ → ResolvedTxn → State
resolve_ended s session r = record (resolve_told s session r) { waiting = without_waiting session s.waiting }

-- ---- a rollback that a resolve decides

-- the number of a transaction's Rollback decided, 0 if it has none
abbrev pub rollback_number : ℕ → List LogRecord → ℕ
rollback_number t rs = first_number (reverse (filter (λ r. (r.1.txn == t) && is_rollback r.1.payload) (numbered rs)))

-- The decision to roll the transaction back is logged, now or by an earlier resolve that was interrupted. This is the transaction then.
abbrev pub DecidesRollback : State → List ℕ → SessionTxn → State → Type 0
DecidesRollback s global b decided =
    ((a : SessionTxn) × IsResolvable s a global × (b ≡ rolled a a.undo.images Whole) × (decided ≡ rollback_decided s a global))
    ⊎ (IsRollingBack s b global × (decided ≡ s))

-- the rolled back one, until its resolve is answered
abbrev pub resolved_by_rollback : SessionTxn → List ℕ → ResolvedTxn
resolved_by_rollback a global = record { txn = a.txn; global = global; outcome = outcome.Abort }

-- ---- steps

-- the reasons to refuse a resolve, each where those before it are not given
abbrev pub RefusesResolve : State → ℕ → List ℕ → Outcome → Fault → Type 0
RefusesResolve s session global asked f =
    ((f ≡ fault.AlreadyActive) × ¬ MayResolve s session global)
    ⊎ ((f ≡ fault.NoGlobalId) × MayResolve s session global × ((a : SessionTxn) → IsResolvable s a global ⊎ IsRollingBack s a global → ⊥))
    ⊎ ((f ≡ fault.MustAbort) × MayResolve s session global × (asked ≡ outcome.Commit) × ((a : SessionTxn) × IsRollingBack s a global))

-- a resolve to commit
abbrev pub CommitsResolve : State → ℕ → List ℕ → Step → State → Type 0
CommitsResolve s session global (Waits wait) new =
    (a : SessionTxn) × IsResolvable s a global × (wait ≡ Durable (next_number s)) × (new ≡ resolve_committed s session a global)
CommitsResolve s session global (Done answer) new = ⊥
CommitsResolve s session global (Refused f) new = ⊥
CommitsResolve s session global Nothing new = ⊥

-- From the decision on, to roll back: interrupted, it keeps its steps, and goes on as it is called again. Once it is through it is answered if the decision is
-- durable, else it waits for that.
abbrev pub RollsBack : State → ℕ → List ℕ → SessionTxn → Step → State → Type 0
RollsBack s session global b (Done answer) new =
    (rollback_number b.txn s.log ≤ s.durable) × (answer ≡ Resolved) × (new ≡ resolve_told (rollback_done s b) session (resolved_by_rollback b global))
RollsBack s session global b (Waits wait) new =
    (s.durable < rollback_number b.txn s.log) × (wait ≡ Durable (rollback_number b.txn s.log))
    × (new ≡ record (rollback_done s b) { waiting = decision_waiting session (call.Resolve global outcome.Abort) (rollback_number b.txn s.log) ∷ s.waiting })
RollsBack s session global b (Refused f) new = IsInterrupted s b Whole f new
RollsBack s session global b Nothing new = ⊥

abbrev pub AbortsResolve : State → ℕ → List ℕ → Step → State → Type 0
AbortsResolve s session global step new = (b : SessionTxn) × (decided : State) × DecidesRollback s global b decided × RollsBack decided session global b step new

abbrev pub ResolvesTo : State → ℕ → List ℕ → Outcome → Step → State → Type 0
ResolvesTo s session global outcome.Commit step new = CommitsResolve s session global step new
ResolvesTo s session global outcome.Abort step new = AbortsResolve s session global step new

abbrev pub ResolveStep : State → ℕ → List ℕ → Outcome → Step → State → Type 0
ResolveStep s session global asked step new =
    ((f : Fault) × RefusesResolve s session global asked f × (step ≡ Refused f) × (new ≡ s)) ⊎ (MayResolve s session global × ResolvesTo s session global asked step new)

-- A prepare as a step of the manager, what a resolve may decide, and the table once a Prepare or such a decision is logged.
use Rattle.laws_checkpoints.specs.CheckpointedStores.{CheckpointedStore}
use Rattle.std.proofs.Common.{◌≡◌, inl, inr, ◌+◌, ◌<◌, ℕ, List, None, Result, IsErrAnd, false, true, refl, sym, ap, subst, ◌∙◌, arith}
use Rattle.std.proofs.lemmas.Bool.{true≢false}
use Rattle.shore_types.specs.declared.faults.Fault.{Fault}
use Rattle.shore_types.specs.declared.layout.Geometry.{Geometry}
use Rattle.shore_types.specs.declared.versions.Version.{Version}
use Rattle.shore_model.specs.declared.calls.Call.TheVariants as call
use Rattle.shore_model.specs.declared.log_records.LogRecord.{LogRecord}
use Rattle.shore_model.specs.declared.step.Step.{Step}
use Rattle.shore_model.specs.declared.step.Step.TheVariants.{Refused}
use Rattle.shore_disk.specs.declared.device.Disk as disk
use Rattle.shore_log.specs.declared.tail.Tail as tail
use Rattle.laws_lives.specs.Sessions.{SessionTxn}
use Rattle.laws_lives.specs.Views.{IsAmong}
use Rattle.laws_calls.specs.CallSteps.{CallStep}
use Rattle.laws_calls.specs.Prepares.{PrepareStep, RefusesPrepare}
use Rattle.laws_calls.specs.Resolves.{IsResolvable, IsRollingBack}
use Rattle.laws_calls.specs.StateChanges.{after_refusal}
use Rattle.laws_calls.specs.States.{DoesNotWait, IsOfSession, State}
use Rattle.shore_txn.specs.ActiveTxns.{OneBecomes}
use Rattle.shore_txn.specs.Transactions.{txns_in}
use Rattle.shore_txn.specs.TxnStates.{is_in_doubt}
use Rattle.shore_txn.specs.Txns.{IsAfterDecision, IsAfterPrepare, as_session_txn, last_of, number_of, state_of}
use Rattle.shore_txn.specs.declared.seat.Seat.{Seat}
use Rattle.shore_txn.specs.declared.transactions.Transactions.{Transactions}
use Rattle.shore_txn.specs.declared.txn.Txn.{Txn}
use Rattle.shore_txn.proofs.ActiveOthers.{each_becomes}
use Rattle.shore_sessions.specs.Seated.{CanResolve}
use Rattle.shore_core.specs.declared.core_calls.Core.{Core}
use Rattle.shore_core.specs.Callers.{IsNotInDoubt}
use Rattle.shore_core.specs.Cores.{IsIn, IsOver, geometry_of}
use Rattle.shore_core.specs.Replies.{Replied}
use Rattle.shore_core.proofs.Coming.{comes_same}
use Rattle.shore_core.proofs.Taking.{replied_as}

-- ---- steps

module _ (g : Geometry) (s : State) (session : ℕ) (a : SessionTxn) (global : List ℕ) (works : s.failed ≡ false) (idle : DoesNotWait s session) (of : IsOfSession s session a) (whole : a.undo.rolling ≡ None) where
  -- a step of a prepare is one of the manager
  pub prepare_steps : (step : Step) (new : State) → PrepareStep g.version s a global step new → CallStep g s session (call.Prepare global) step new
  prepare_steps step new h = inr (inr (inr (inr (inr (inl (works, idle, (a, of, inr (inl (whole, inr (inr (inr (inr (global, refl, h)))))))))))))

-- it is refused
module _ {T V : Type 0} {G : tail.Ghosts T} {H : disk.Ghosts V} (core : Core T V G H) (front : List ℕ) (before : List LogRecord) (s : State) (store : CheckpointedStore) (session : ℕ) (a : SessionTxn) (global : List ℕ)
    (works : s.failed ≡ false) (idle : DoesNotWait s session) (of : IsOfSession s session a) (whole : a.undo.rolling ≡ None) where
  pub prepare_refused : (disk : ℕ → List ℕ) → IsIn front disk before core s → IsOver disk core s store → (r : Result Step Fault) (f : Fault) → IsErrAnd r (λ e. e ≡ f) → RefusesPrepare (geometry_of core).version s a global f → after_refusal f s ≡ s
      → Replied session (call.Prepare global) r core core front before s store
  prepare_refused disk is over r f same refuses stays =
      replied_as core core front before s store session (call.Prepare global) r f same
      (subst (CallStep (geometry_of core) s session (call.Prepare global) (Refused f)) (sym stays) (prepare_steps (geometry_of core) s session a global works idle of whole (Refused f) s (refuses, refl)))
      (inr (comes_same core front disk before s store is over))

-- ---- which case it is of one that can be resolved

-- it is in doubt, and may be decided
pub can_decide : (s : State) (t : Txn) (global : List ℕ) → is_in_doubt (state_of t) ≡ true → CanResolve s t global → IsResolvable s (as_session_txn t) global
can_decide s t global doubt (inl can) = can.1
can_decide s t global doubt (inr rolls) = absurd (true≢false (sym doubt ∙ rolls.0))

-- .. or its rollback goes on
pub rolling_on : (s : State) (t : Txn) (global : List ℕ) → is_in_doubt (state_of t) ≡ false → CanResolve s t global → IsRollingBack s (as_session_txn t) global
rolling_on s t global none (inl can) = absurd (true≢false (sym can.0 ∙ none))
rolling_on s t global none (inr rolls) = rolls.1

-- ---- the table

module _ (table new : Transactions) (number : ℕ) {own : ℕ} (earlier : (t : Txn) → IsAmong t (txns_in table) → last_of t < number) where
  -- a Prepare was logged under the next number
  pub earlier_prepared : {name : List ℕ} {lsn : ℕ} → OneBecomes own (IsAfterPrepare name lsn) (txns_in table) (txns_in new) → lsn ≡ number → (t : Txn) → IsAmong t (txns_in new) → last_of t < number + 1
  earlier_prepared one next =
      each_becomes (λ t. last_of t < number) (λ t. last_of t < number + 1) table.numbers earlier one (λ t other less. omega (arith, less)) (λ less. omega (arith, one.becomes.last, next))

  -- .. or a Rollback decided
  pub earlier_decided : {lsn : ℕ} → OneBecomes own (IsAfterDecision lsn) (txns_in table) (txns_in new) → lsn ≡ number → (t : Txn) → IsAmong t (txns_in new) → last_of t < number + 1
  earlier_decided one next =
      each_becomes (λ t. last_of t < number) (λ t. last_of t < number + 1) table.numbers earlier one (λ t other less. omega (arith, less)) (λ less. omega (arith, one.becomes.last, next))

-- one that is decided to be rolled back is in doubt no more
pub decided_unprepared : (table new : Transactions) (seat : Seat) {lsn : ℕ} → OneBecomes seat.txn (IsAfterDecision lsn) (txns_in table) (txns_in new) → IsNotInDoubt seat new
decided_unprepared table new seat one =
    each_becomes (λ t. IsAmong t (txns_in table)) (λ t. number_of t ≡ seat.txn → is_in_doubt (state_of t) ≡ false) table.numbers (λ t m. m) one
    (λ t other m same. absurd (other same)) (λ m same. ap is_in_doubt one.becomes.state)

-- A resolve that rolls back, step by step: the decision, the End, and the answer or the wait for the decision's force.
use Rattle.laws_checkpoints.specs.CheckpointedStores.{CheckpointedStore}
use Rattle.std.specs.Prelude.{◌≡◌, ◌+◌, ◌++◌, ◌<◌, ◌≤◌, ◌∷◌, ℕ, List, Result, Ok, Err, false, length}
use Rattle.shore_types.specs.declared.faults.Fault.{Fault}
use Rattle.shore_types.specs.declared.faults.Fault.TheVariants.{Memory}
use Rattle.shore_disk.specs.declared.device.Disk as disk
use Rattle.shore_log.specs.declared.tail.Tail as tail
use Rattle.shore_heap.specs.Heaps.{Shows}
use Rattle.shore_model.specs.declared.calls.Answer.TheVariants.{Resolved}
use Rattle.shore_model.specs.declared.calls.Call.TheVariants as call
use Rattle.shore_model.specs.declared.log_records.LogRecord.{LogRecord}
use Rattle.shore_model.specs.declared.step.Step.{Step}
use Rattle.shore_model.specs.declared.step.Step.TheVariants.{Done, Nothing, Refused, Waits}
use Rattle.shore_model.specs.declared.step.Wait.TheVariants.{Durable}
use Rattle.laws_lives.specs.Recovery.{RecoveryEvent}
use Rattle.laws_lives.specs.Sessions.{ResolvedTxn, SessionTxn}
use Rattle.laws_calls.specs.Resolves.{DecidesRollback, resolve_told, resolved_by_rollback, rollback_done}
use Rattle.laws_calls.specs.StateChanges.{decision_waiting}
use Rattle.laws_calls.specs.States.{State, page_slots}
use Rattle.shore_txn.specs.Transactions.{kept_in}
use Rattle.shore_txn.specs.declared.seat.Seat.{Seat}
use Rattle.shore_sessions.specs.Standing.{HasControlBut, IsAt}
use Rattle.shore_core.specs.declared.core_calls.Core.{Core}
use Rattle.shore_core.specs.Stores.{WorksOn}
use Rattle.shore_core.specs.Cores.{CoreComesTo, IsOver, control_of, durable_of, first_of, has_failed, heap_of, txns_of, waiting_of}

module _ {T V : Type 0} {G : tail.Ghosts T} {H : disk.Ghosts V} where
  -- The core is in the state as `IsIn` says, but that the resolve of one transaction, whose rollback has ended, neither waits nor is answered yet.
  pub record IsInBut (r : ResolvedTxn) (front : List ℕ) (disk : ℕ → List ℕ) (before : List LogRecord) (core : Core T V G H) (s : State) : Type 0 where
    pub first : first_of core ≡ 1 + length before
    pub stands : HasControlBut r (control_of core) s
    pub log : s.log ≡ before ++ waiting_of core
    pub durable_is : s.durable ≡ durable_of core
    pub failed_is : s.failed ≡ has_failed core
    pub pages : s.failed ≡ false → Shows (kept_in (txns_of core)) (heap_of core) front disk (page_slots s)

  -- it has come to the state, but for that
  pub record ComesBut (r : ResolvedTxn) (new : Core T V G H) (front : List ℕ) (before : List LogRecord) (store : CheckpointedStore) (later : State) : Type 0 where
    pub left : ℕ → List ℕ
    pub is_in : IsInBut r front left before new later
    pub works : List RecoveryEvent
    pub after : CheckpointedStore
    pub work : WorksOn store works after
    pub over : IsOver left new later after

  -- The decision to roll the transaction at a seat back is logged, by this resolve or by one before it, or its record was not for want of memory.
  abbrev pub DecidesAt : Seat → List ℕ → Core T V G H → Result (Unit {0}) Fault → List ℕ → List LogRecord → State → CheckpointedStore → Type 0
  DecidesAt seat global new (Ok done) front before s store =
      (b : SessionTxn) × (decided : State) × DecidesRollback s global b decided × IsAt seat decided b × CoreComesTo new front before store decided
  DecidesAt seat global new (Err f) front before s store = (f ≡ Memory) × CoreComesTo new front before store s

  -- The rollback of a transaction with no image left has ended, and its locks are gone; or its End was not logged for want of memory.
  abbrev pub EndsRollback : Core T V G H → SessionTxn → List ℕ → Result (Unit {0}) Fault → List ℕ → List LogRecord → State → CheckpointedStore → Type 0
  EndsRollback new a global (Ok done) front before s store = ComesBut (resolved_by_rollback a global) new front before store (rollback_done s a)
  EndsRollback new a global (Err f) front before s store = (f ≡ Memory) × CoreComesTo new front before store s

  -- A resolve whose rollback has ended is answered if the decision, with this number, is durable, else it waits for that.
  abbrev pub AnswersRollback : Core T V G H → ℕ → ResolvedTxn → ℕ → Step → List ℕ → List LogRecord → State → CheckpointedStore → Type 0
  AnswersRollback new session r decided (Done answer) front before s store =
      (decided ≤ s.durable) × (answer ≡ Resolved) × CoreComesTo new front before store (resolve_told s session r)
  AnswersRollback new session r decided (Waits wait) front before s store =
      (s.durable < decided) × (wait ≡ Durable decided)
      × CoreComesTo new front before store (record s { waiting = decision_waiting session (call.Resolve r.global r.outcome) decided ∷ s.waiting })
  AnswersRollback new session r decided (Refused f) front before s store = ⊥
  AnswersRollback new session r decided Nothing front before s store = ⊥

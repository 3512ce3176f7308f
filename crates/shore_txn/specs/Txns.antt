-- A transaction of the table, as the sessions have it.
use Rattle.std.specs.Prelude.{◌≡◌, ◌+◌, ◌<◌, ◌++◌, ℕ, List, [], ◌∷◌, Option, None, Some, false, length, take, true, unwrap_or}
use Rattle.std.specs.Prelude.{vec_capacity, vec_len}
use Rattle.std.specs.List.{filter_map}
use Rattle.smallvec.specs.SmallVec.{HasRoomFor}
use Rattle.shore_types.specs.declared.layout.TheConstants.{ENDING_COST}
use Rattle.laws_room.specs.LogRooms.{compensation_costs}
use Rattle.laws_lives.specs.Sessions.{PreparedTxn, SessionTxn}
use Rattle.laws_lives.specs.UndoLists.{marks_kept}
use Rattle.shore_model.specs.declared.rollbacks.Rollback.{Rollback}
use Rattle.shore_model.specs.declared.rollbacks.Rollback.TheVariants.{Whole}
use Rattle.shore_txn.specs.declared.txn.Txn.{Txn}
use Rattle.shore_txn.specs.declared.txn_state.TxnState.{TxnState}
use Rattle.shore_txn.specs.declared.txn_state.TxnState.TheVariants.{Active, Doomed, Prepared, Preparing, RollingBack}
use Rattle.shore_txn.specs.declared.undo.UndoEntry.{UndoEntry}
use Rattle.shore_txn.specs.Numbers.{first_with}
use Rattle.shore_txn.specs.TxnStates.{doomed_from, second_ending}
use Rattle.shore_txn.specs.UndoEntries.{images_of}

-- its changes that are not decided, the oldest first
abbrev pub entries_of : Txn → List UndoEntry
entries_of t = t.undo.items

-- for each of its savepoints, how many changes there were when it was set
abbrev pub marks_of : Txn → List ℕ
marks_of t = t.marks.items

abbrev pub state_of : Txn → TxnState
state_of t = t.state

-- the rollback that has begun, or is all that may be done, and is not complete
abbrev pub rolling_of : TxnState → Option Rollback
rolling_of Active = None
rolling_of Doomed = Some Whole
rolling_of (RollingBack rollback) = Some rollback
rolling_of Preparing = None
rolling_of Prepared = None

abbrev pub as_session_txn : Txn → SessionTxn
as_session_txn t = record {
  session = t.session;
  txn = t.txn;
  undo = record { images = images_of (entries_of t); marks = marks_of t; rolling = rolling_of (state_of t) };
}

abbrev pub number_of : Txn → ℕ
number_of t = t.txn

-- the number of its last record, 0 for none
abbrev pub last_of : Txn → ℕ
last_of t = t.last

-- the number of its first record, 0 for none
abbrev pub first_of : Txn → ℕ
first_of t = t.first

-- the number of its Prepare, 0 for none
abbrev pub prepare_of : Txn → ℕ
prepare_of t = t.prepare

-- the name that its coordinator gave it, from its Prepare on
abbrev pub global_of : Txn → Option (List ℕ)
global_of t = t.global

-- the number of its Rollback decided, 0 for none
abbrev pub decided_of : Txn → ℕ
decided_of t = t.decided

-- the session is in it
abbrev pub IsOf : ℕ → Txn → Type 0
IsOf session t = (t.is_seated ≡ true) × (t.session ≡ session)

-- what is reserved for it: for its ending, for the undo of its changes, and while it is in doubt for a second ending
abbrev pub reserved_for : Txn → ℕ
reserved_for t = ENDING_COST + compensation_costs (images_of (entries_of t)) + second_ending (state_of t)

-- one in doubt, as the sessions have it
abbrev pub in_doubt_as : ℕ → List ℕ → TxnState → Option PreparedTxn
in_doubt_as number name Active = None
in_doubt_as number name Doomed = None
in_doubt_as number name (RollingBack rollback) = None
in_doubt_as number name Preparing = Some record { txn = number; global = name; answered = false }
in_doubt_as number name Prepared = Some record { txn = number; global = name; answered = true }

abbrev pub as_prepared : Txn → Option PreparedTxn
as_prepared t = in_doubt_as (number_of t) (unwrap_or (global_of t) []) (state_of t)

-- those in doubt, in their order
abbrev pub prepared_of : List Txn → List PreparedTxn
prepared_of ts = filter_map as_prepared ts

-- an entry more needs no memory
abbrev pub HasEntryRoom : Txn → Type 0
HasEntryRoom t = vec_len t.undo < vec_capacity t.undo

-- nor does a savepoint more
abbrev pub HasMarkRoom : Txn → Type 0
HasMarkRoom t = HasRoomFor t.marks 1

-- whether its session is in it, its name, its Prepare and its Rollback decided are as they were
pub record KeepsName (old new : Txn) : Type 0 where
  pub seated : new.is_seated ≡ old.is_seated
  pub global : global_of new ≡ global_of old
  pub prepare : prepare_of new ≡ prepare_of old
  pub decided : decided_of new ≡ decided_of old

-- a transaction with one change more
pub record IsAfterChange (old : Txn) (entry : UndoEntry) (new : Txn) : Type 0 where
  pub txn : number_of new ≡ number_of old
  pub session : new.session ≡ old.session
  pub name : KeepsName old new
  pub last : last_of new ≡ entry.lsn
  pub first : first_of new ≡ first_with (first_of old) entry.lsn
  pub entries : entries_of new ≡ entries_of old ++ entry ∷ []
  pub marks : marks_of new ≡ marks_of old
  pub state : state_of new ≡ state_of old

-- two transactions are one but for the memory that they have
pub record SameTxn (old new : Txn) : Type 0 where
  pub txn : number_of new ≡ number_of old
  pub session : new.session ≡ old.session
  pub name : KeepsName old new
  pub last : last_of new ≡ last_of old
  pub first : first_of new ≡ first_of old
  pub entries : entries_of new ≡ entries_of old
  pub marks : marks_of new ≡ marks_of old
  pub state : state_of new ≡ state_of old

-- ---- savepoints and rollbacks

-- a transaction with one savepoint more
pub record IsAfterSavepoint (old new : Txn) : Type 0 where
  pub txn : number_of new ≡ number_of old
  pub session : new.session ≡ old.session
  pub name : KeepsName old new
  pub last : last_of new ≡ last_of old
  pub first : first_of new ≡ first_of old
  pub entries : entries_of new ≡ entries_of old
  pub marks : marks_of new ≡ marks_of old ++ length (entries_of old) ∷ []
  pub state : state_of new ≡ state_of old

-- A transaction whose newest change was put back: its Compensation was logged under this number.
pub record IsAfterUndo (lsn : ℕ) (rollback : Rollback) (undone : UndoEntry) (old new : Txn) : Type 0 where
  pub txn : number_of new ≡ number_of old
  pub session : new.session ≡ old.session
  pub name : KeepsName old new
  pub last : last_of new ≡ lsn
  pub first : first_of new ≡ first_with (first_of old) lsn
  pub entries : entries_of old ≡ entries_of new ++ undone ∷ []
  pub marks : marks_of new ≡ marks_kept rollback (marks_of old)
  pub state : state_of new ≡ RollingBack rollback

-- a transaction that is back at a savepoint, behind which no other stands
pub record IsBackAt (index : ℕ) (old new : Txn) : Type 0 where
  pub txn : number_of new ≡ number_of old
  pub session : new.session ≡ old.session
  pub name : KeepsName old new
  pub last : last_of new ≡ last_of old
  pub first : first_of new ≡ first_of old
  pub entries : entries_of new ≡ entries_of old
  pub marks : marks_of new ≡ take (index + 1) (marks_of old)
  pub state : state_of new ≡ Active

-- A transaction that can only be rolled back from now on, whole: its savepoints are gone, and nothing is put back yet.
pub record IsDoomed (old new : Txn) : Type 0 where
  pub txn : number_of new ≡ number_of old
  pub session : new.session ≡ old.session
  pub name : KeepsName old new
  pub last : last_of new ≡ last_of old
  pub first : first_of new ≡ first_of old
  pub entries : entries_of new ≡ entries_of old
  pub reserved : new.reserved ≡ old.reserved
  pub marks : marks_of new ≡ []
  pub state : state_of new ≡ doomed_from (state_of old)

-- ---- one that is prepared

-- a transaction whose Prepare, which gives it a name, was logged under this number
pub record IsAfterPrepare (name : List ℕ) (lsn : ℕ) (old new : Txn) : Type 0 where
  pub txn : number_of new ≡ number_of old
  pub session : new.session ≡ old.session
  pub seated : new.is_seated ≡ old.is_seated
  pub last : last_of new ≡ lsn
  pub first : first_of new ≡ first_with (first_of old) lsn
  pub entries : entries_of new ≡ entries_of old
  pub marks : marks_of new ≡ marks_of old
  pub state : state_of new ≡ Preparing
  pub global : global_of new ≡ Some name
  pub prepare : prepare_of new ≡ lsn
  pub decided : decided_of new ≡ decided_of old

-- a transaction whose prepare is answered
pub record IsAfterAnswer (old new : Txn) : Type 0 where
  pub txn : number_of new ≡ number_of old
  pub session : new.session ≡ old.session
  pub name : KeepsName old new
  pub last : last_of new ≡ last_of old
  pub first : first_of new ≡ first_of old
  pub entries : entries_of new ≡ entries_of old
  pub marks : marks_of new ≡ marks_of old
  pub state : state_of new ≡ Prepared

-- A transaction whose Prepare was found in the log under this number: it waits for its decision.
pub record IsFoundPrepared (name : List ℕ) (lsn : ℕ) (old new : Txn) : Type 0 where
  pub txn : number_of new ≡ number_of old
  pub session : new.session ≡ old.session
  pub seated : new.is_seated ≡ old.is_seated
  pub last : last_of new ≡ lsn
  pub first : first_of new ≡ first_with (first_of old) lsn
  pub entries : entries_of new ≡ entries_of old
  pub marks : marks_of new ≡ marks_of old
  pub state : state_of new ≡ Prepared
  pub global : global_of new ≡ Some name
  pub prepare : prepare_of new ≡ lsn
  pub decided : decided_of new ≡ decided_of old

-- A transaction whose Rollback decided was logged under this number: it can only be rolled back, whole, and no session is in it.
pub record IsAfterDecision (lsn : ℕ) (old new : Txn) : Type 0 where
  pub txn : number_of new ≡ number_of old
  pub session : new.session ≡ old.session
  pub seated : new.is_seated ≡ false
  pub last : last_of new ≡ lsn
  pub first : first_of new ≡ first_with (first_of old) lsn
  pub entries : entries_of new ≡ entries_of old
  pub marks : marks_of new ≡ []
  pub state : state_of new ≡ RollingBack Whole
  pub global : global_of new ≡ global_of old
  pub prepare : prepare_of new ≡ prepare_of old
  pub decided : decided_of new ≡ lsn

-- The events of the sessions: when each may come, what state it leaves, and what it adds to the history.
use Rattle.std.specs.Prelude.{◌≡◌, ◌<◌, ◌≤◌, ℕ, List, [], ◌∷◌, ◌++◌, Bool, true, false, None, Result, Ok, Err, All, Contains, IsTrue, length}
use Rattle.shore_types.specs.Images.{Image}
use Rattle.shore_types.specs.declared.faults.Fault.{Fault}
use Rattle.shore_types.specs.declared.faults.Fault.TheVariants.{NoRecord}
use Rattle.shore_types.specs.declared.ids.Rid.{Rid}
use Rattle.shore_types.specs.declared.locking.Granule.{Granule}
use Rattle.shore_types.specs.declared.locking.Mode.{Mode}
use Rattle.shore_model.specs.declared.calls.Answer.{Answer}
use Rattle.shore_model.specs.declared.calls.Answer.TheVariants.{AreInDoubt, Began, Committed, Aborted, Prepared, Resolved}
use Rattle.shore_model.specs.declared.calls.Call.{Call}
use Rattle.shore_model.specs.declared.calls.Call.TheVariants as call
use Rattle.shore_model.specs.declared.calls.Exchange.{Exchange}
use Rattle.shore_model.specs.declared.histories.Decision.TheVariants as decision
use Rattle.shore_model.specs.declared.histories.Entry.{Entry}
use Rattle.shore_model.specs.declared.histories.Entry.TheVariants.{Asked, Exchanged, Decided}
use Rattle.shore_model.specs.declared.holds.Hold.{Hold}
use Rattle.shore_model.specs.Locks.{Harmony, HoldsAtLeast}
use Rattle.shore_model.specs.Modes.{is_write}
use Rattle.shore_types.specs.declared.locking.Mode.TheVariants.{EX}
use Rattle.laws_lives.specs.RepliesInPlace.{MayReplyInPlace}
use Rattle.shore_model.specs.declared.rollbacks.Rollback.{Rollback}
use Rattle.laws_lives.specs.Sessions.{IsFree, IsInNoTxn, IsTxnOf, IsUnused, ResolvedTxn, SessionTxn, Sessions, abort_answered, commit_appended, doomed, image_put_back, in_doubt_of, in_prepared, in_txn, locks_moved, pairs_of, prepare_answered, prepare_appended, reply_given, resolve_answered, resolve_appended, resolved_of, rollback_appended, rollback_ended, seated, txn_begun, txns_of}
use Rattle.laws_lives.specs.UndoLists.{MayGiveReply, MayRoll, least_kept}
use Rattle.laws_lives.specs.Views.{IsAmong}

pub data SessionEvent : Type 0 where
  -- these locks are held from now on: some are granted, some go
  MoveLocks : List Hold → SessionEvent
  -- a session begins a transaction
  BeginTxn : ℕ → SessionEvent
  -- a call within a transaction gets its reply
  GiveReply : SessionTxn → Call → Result Answer Fault → SessionEvent
  -- the Commit record of a transaction is appended, its locks go, and the commit is answered the record's number, its ticket
  AppendCommit : SessionTxn → ℕ → SessionEvent
  -- one image of a transaction is put back, the newest that is left; the others stay
  PutBack : SessionTxn → List (Rid × Image) → Rid × Image → Rollback → SessionEvent
  -- from now on a transaction can only be rolled back, whole; nothing of it is put back yet
  Doom : SessionTxn → SessionEvent
  -- all images of a transaction that are left are put back, its locks go, and its abort is answered
  AnswerAbort : SessionTxn → SessionEvent
  -- it is asked whether the record of a ticket is durable, and answered
  Ask : ℕ → Bool → SessionEvent
  -- any call of a session, in a transaction or in none, is refused
  RefuseCall : ℕ → ℕ → Call → Fault → SessionEvent
  -- the Prepare of a transaction is appended, under a global id, with these granules
  AppendPrepare : SessionTxn → List ℕ → List Granule → SessionEvent
  -- .. and answered
  AnswerPrepare : ℕ → ℕ → List ℕ → SessionEvent
  -- a resolve appends the Commit of a transaction in doubt, and its locks go
  AppendResolve : SessionTxn → List ℕ → SessionEvent
  -- .. or its Rollback decided
  AppendRollback : SessionTxn → List ℕ → SessionEvent
  -- then all images that are left are put back, the End is appended, and its locks go
  EndRollback : SessionTxn → SessionEvent
  -- a resolve is answered, to any session
  AnswerResolve : ℕ → ResolvedTxn → SessionEvent
  -- a session is told who is in doubt
  AnswerInDoubt : ℕ → ℕ → List (List ℕ × ℕ) → SessionEvent

-- a transaction has kept its locks, or has stronger ones in their place
abbrev pub KeepsLocks : List Hold → List Hold → ℕ → Type 0
KeepsLocks held new t = (m : Mode) (g : Granule) → HoldsAtLeast held t m g → HoldsAtLeast new t m g

-- a refusal that is no word on records
abbrev pub TellsNothing : Fault → Type 0
TellsNothing NoRecord = ⊥
TellsNothing _ = Unit {0}

-- a call that a transaction makes between its begin and its end
abbrev pub IsInnerCall : Call → Type 0
IsInnerCall (call.Get id) = Unit {0}
IsInnerCall (call.GetForUpdate id) = Unit {0}
IsInnerCall (call.Insert s bytes) = Unit {0}
IsInnerCall (call.Update id bytes) = Unit {0}
IsInnerCall (call.Delete id) = Unit {0}
IsInnerCall (call.Scan s) = Unit {0}
IsInnerCall (call.Lock g mode) = Unit {0}
IsInnerCall (call.TryLock g mode) = Unit {0}
IsInnerCall call.Savepoint = Unit {0}
IsInnerCall (call.BackTo k) = Unit {0}
IsInnerCall call.Begin = ⊥
IsInnerCall call.Commit = ⊥
IsInnerCall call.Abort = ⊥
IsInnerCall (call.Prepare global) = ⊥
IsInnerCall (call.Resolve global outcome) = ⊥
IsInnerCall call.InDoubt = ⊥

-- ---- entries

abbrev pub exchange : Call → Result Answer Fault → Exchange
exchange c reply = record { call = c; reply = reply }

-- what an event adds to the history
abbrev pub entries_by : Sessions → SessionEvent → List Entry
entries_by s (MoveLocks held) = []
entries_by s (BeginTxn session) = Exchanged session s.next_txn (exchange call.Begin (Ok (Began s.next_txn))) ∷ []
entries_by s (GiveReply a c reply) = Exchanged a.session a.txn (exchange c reply) ∷ []
entries_by s (AppendCommit a ticket) = Decided (decision.Commit a.txn) ∷ Exchanged a.session a.txn (exchange call.Commit (Ok (Committed ticket))) ∷ []
entries_by s (PutBack a kept e r) = []
entries_by s (Doom a) = []
entries_by s (AnswerAbort a) = Exchanged a.session a.txn (exchange call.Abort (Ok Aborted)) ∷ []
entries_by s (Ask ticket durable) = Asked ticket durable ∷ []
entries_by s (RefuseCall session t c fault) = Exchanged session t (exchange c (Err fault)) ∷ []
entries_by s (AppendPrepare a global granules) = Decided (decision.Prepare a.txn global) ∷ []
entries_by s (AnswerPrepare session t global) = Exchanged session t (exchange (call.Prepare global) (Ok Prepared)) ∷ []
entries_by s (AppendResolve a global) = Decided (decision.Commit a.txn) ∷ []
entries_by s (AppendRollback a global) = Decided (decision.RollBack a.txn) ∷ []
entries_by s (EndRollback a) = []
entries_by s (AnswerResolve session r) = Exchanged session r.txn (exchange (call.Resolve r.global r.outcome) (Ok Resolved)) ∷ []
entries_by s (AnswerInDoubt session t pairs) = Exchanged session t (exchange call.InDoubt (Ok (AreInDoubt pairs))) ∷ []

-- ---- steps

-- the granules are those that the transaction holds exclusively
pub record AreExclusive (held : List Hold) (t : ℕ) (granules : List Granule) : Type 0 where
  pub each : All (HoldsAtLeast held t EX) granules
  pub all : All (λ h. h.txn ≡ t → IsTrue (is_write h.mode) → Contains granules h.granule) held

-- these are those in doubt, with their global ids
pub record AreThoseInDoubt (s : Sessions) (pairs : List (List ℕ × ℕ)) : Type 0 where
  pub each : (t : ℕ) (global : List ℕ) → IsAmong (global, t) pairs → IsAmong (t, global) (pairs_of s.prepared)
  pub all : (t : ℕ) (global : List ℕ) → IsAmong (t, global) (pairs_of s.prepared) → IsAmong (global, t) pairs

-- its session is in the transaction, and it is neither in doubt nor decided
abbrev pub IsOwn : Sessions → SessionTxn → Type 0
IsOwn s a = IsAmong a s.active × (s.seats a.session ≡ in_txn a.txn) × IsFree s a.txn

-- The event may come, and leaves this. A transaction under way keeps its locks, and they go as it ends. One whose rollback has begun only goes on with that. One in doubt waits for a resolve, of any session, and only once its
-- prepare is answered.
abbrev pub StepsTo : Sessions → SessionEvent → Sessions → Type 0
StepsTo s (MoveLocks held) new =
    Harmony held × ((t : ℕ) → IsAmong t (txns_of s.active) → KeepsLocks s.held held t)
    × All (λ h. h.txn < s.next_txn) held × (new ≡ locks_moved s held)
StepsTo s (BeginTxn session) new = IsInNoTxn s session × (new ≡ seated s (entries_by s (BeginTxn session)) (txn_begun s session))
StepsTo s (GiveReply a c reply) new =
    IsOwn s a × IsInnerCall c × MayReplyInPlace s.slots s.held a.txn s.records (length a.undo.marks) c reply
    × MayGiveReply a.undo c reply × (new ≡ seated s (entries_by s (GiveReply a c reply)) (reply_given s a c reply))
StepsTo s (AppendCommit a ticket) new = IsOwn s a × (a.undo.rolling ≡ None) × (new ≡ seated s (entries_by s (AppendCommit a ticket)) (commit_appended s a))
StepsTo s (PutBack a kept e r) new =
    (IsAmong a s.active × (IsAmong a.txn (in_doubt_of s) → ⊥)) × (a.undo.images ≡ kept ++ e ∷ []) × MayRoll a.undo r × (least_kept a.undo r ≤ length kept)
    × (new ≡ image_put_back s a kept e r)
StepsTo s (Doom a) new = (IsAmong a s.active × (IsAmong a.txn (in_doubt_of s) → ⊥)) × (new ≡ doomed s a)
StepsTo s (AnswerAbort a) new = IsOwn s a × (new ≡ seated s (entries_by s (AnswerAbort a)) (abort_answered s a))
StepsTo s (Ask ticket durable) new = new ≡ s
StepsTo s (RefuseCall session t c fault) new =
    IsTxnOf s session t × TellsNothing fault × (new ≡ seated s (entries_by s (RefuseCall session t c fault)) s)
StepsTo s (AppendPrepare a global granules) new =
    IsOwn s a × (a.undo.rolling ≡ None) × IsUnused s global × AreExclusive s.held a.txn granules
    × (new ≡ seated s (entries_by s (AppendPrepare a global granules)) (prepare_appended s a global))
StepsTo s (AnswerPrepare session t global) new =
    IsAmong (record { txn = t; global = global; answered = false }) s.prepared × (s.seats session ≡ in_prepared t)
    × (new ≡ seated s (entries_by s (AnswerPrepare session t global)) (prepare_answered s t))
StepsTo s (AppendResolve a global) new =
    IsAmong a s.active × (a.undo.rolling ≡ None) × IsAmong (record { txn = a.txn; global = global; answered = true }) s.prepared
    × (new ≡ seated s (entries_by s (AppendResolve a global)) (resolve_appended s a global))
StepsTo s (AppendRollback a global) new =
    IsAmong a s.active × IsAmong (record { txn = a.txn; global = global; answered = true }) s.prepared
    × (new ≡ seated s (entries_by s (AppendRollback a global)) (rollback_appended s a global))
StepsTo s (EndRollback a) new =
    (IsAmong a s.active × (IsAmong a.txn (in_doubt_of s) → ⊥)) × IsAmong a.txn (resolved_of s) × (new ≡ rollback_ended s a)
StepsTo s (AnswerResolve session r) new =
    IsAmong r s.resolving × (IsAmong r.txn (txns_of s.active) → ⊥)
    × (new ≡ seated s (entries_by s (AnswerResolve session r)) (resolve_answered s r.txn))
StepsTo s (AnswerInDoubt session t pairs) new =
    IsTxnOf s session t × AreThoseInDoubt s pairs × (new ≡ seated s (entries_by s (AnswerInDoubt session t pairs)) s)

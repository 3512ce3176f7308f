-- Transactions in doubt in a log: what an open makes of them, and what must hold of them so that it can. All of it is a function of the log.
use Rattle.std.specs.Prelude.{◌≡◌, ◌≢◌, ◌⊎◌, ◌++◌, ◌<◌, ℕ, List, [], ◌∷◌, Option, None, Some, Contains, true, false, filter, length, map, reverse}
use Rattle.std.specs.FinMap.{get}
use Rattle.std.specs.List.{filter_map}
use Rattle.shore_types.specs.Images.{Image}
use Rattle.shore_types.specs.declared.ids.Rid.{Rid}
use Rattle.shore_types.specs.declared.locking.Granule.{Granule}
use Rattle.shore_types.specs.declared.locking.Mode.TheVariants.{EX, IX}
use Rattle.shore_model.specs.declared.histories.InDoubt.{InDoubt}
use Rattle.shore_model.specs.declared.histories.Opening.{Opening}
use Rattle.shore_model.specs.declared.holds.Hold.{Hold}
use Rattle.shore_model.specs.declared.log_records.LogRecord.{LogRecord}
use Rattle.shore_model.specs.declared.log_records.Payload.{Payload}
use Rattle.shore_model.specs.declared.log_records.Payload.TheVariants.{Change, Compensation, Commit, End, Prepare, RollbackDecided, CheckpointBegin, CheckpointEnd, Anchor}
use Rattle.shore_model.specs.Locks.{HoldsAtLeast, OnOnePath, ancestors}
use Rattle.shore_model.specs.Logs.{has, is_in_doubt, is_prepare, is_rollback, logged_writes, unanswered}
use Rattle.shore_model.specs.Records.{WriteSet, overlay}
use Rattle.laws_lives.specs.LogTells.{records_committed}
use Rattle.laws_lives.specs.Sessions.{EachOnce, IsFree, Sessions, in_doubt_of, pairs_of, resolved_of, txns_of}
use Rattle.laws_lives.specs.UndoLists.{UndoList}
use Rattle.laws_lives.specs.Views.{IsAmong}

-- ---- those in doubt

pub record LoggedDoubt : Type 0 where
  pub txn : ℕ
  pub global : List ℕ
  pub granules : List Granule

abbrev pub doubt_by : ℕ → Payload → Option LoggedDoubt
doubt_by t (Prepare global granules) = Some record { txn = t; global = global; granules = granules }
doubt_by t (Change id before image) = None
doubt_by t (Compensation id image undo_next) = None
doubt_by t Commit = None
doubt_by t End = None
doubt_by t RollbackDecided = None
doubt_by t CheckpointBegin = None
doubt_by t (CheckpointEnd begin next txns dirty) = None
doubt_by t (Anchor checkpoint tail) = None

abbrev pub doubt_of : LogRecord → Option LoggedDoubt
doubt_of r = doubt_by r.txn r.payload

-- those in doubt, in the order of their Prepares, with what these say
abbrev pub doubts_in : List LogRecord → List LoggedDoubt
doubts_in log = filter (λ d. is_in_doubt d.txn log) (filter_map doubt_of log)

abbrev pub pair_logged : LoggedDoubt → ℕ × List ℕ
pair_logged d = (d.txn, d.global)

-- ---- what must hold of them

-- two of them hold no granules on one path, and no global id twice: else their locks cannot be given back, nor can they be resolved
pub record DoubtsStand (log : List LogRecord) : Type 0 where
  pub apart : (d e : LoggedDoubt) (g h : Granule) → IsAmong d (doubts_in log) → IsAmong e (doubts_in log) → d.txn ≢ e.txn
      → Contains d.granules g → Contains e.granules h → OnOnePath g h → ⊥
  pub differ : (d e : LoggedDoubt) → IsAmong d (doubts_in log) → IsAmong e (doubts_in log) → d.global ≡ e.global → d.txn ≡ e.txn

-- The transaction has written W, as the log has it. W may be smaller than what it has logged: a rollback to a savepoint logs images and takes
-- ids out of the write set.
pub record HasWritten (log : List LogRecord) (t : ℕ) (W : WriteSet) : Type 0 where
  pub logged : (id : Rid) (image : Image) → get (logged_writes log t) id ≡ Some image → image ≡ get (overlay (records_committed log) W) id
  pub unlogged : (id : Rid) → get (logged_writes log t) id ≡ None → get W id ≡ None

-- what an open finds in the log: the committed records, and those in doubt with what they have written
pub record IsOpeningOf (log : List LogRecord) (o : Opening) : Type 0 where
  pub records : o.records ≡ records_committed log
  pub in_doubt : map (λ d. (d.txn, d.global)) o.in_doubt ≡ map pair_logged (doubts_in log)
  pub written : (d : InDoubt) → IsAmong d o.in_doubt → HasWritten log d.txn d.writes

-- ---- what an open gives back to them

-- the undo list of one in doubt: the before images of its unanswered Changes, in the order of the Changes
abbrev pub undo_in : List LogRecord → ℕ → UndoList
undo_in log t = record { images = reverse (map (λ c. (c.id, c.before)) (unanswered t log)); marks = []; rolling = None }

-- the lock is one on a granule that its transaction's Prepare names, or one above it
abbrev pub IsRestored : List LogRecord → Hold → Type 0
IsRestored log h = (d : LoggedDoubt) × (g : Granule) × IsAmong d (doubts_in log) × (h.txn ≡ d.txn) × Contains d.granules g
    × (((h.mode ≡ EX) × (h.granule ≡ g)) ⊎ ((h.mode ≡ IX) × Contains (ancestors g) h.granule))

-- Those in doubt hold EX on the granules that their Prepares name and IX above them, and nobody holds anything else.
pub record AreRestored (log : List LogRecord) (held : List Hold) : Type 0 where
  pub each : (h : Hold) → Contains held h → IsRestored log h
  pub all : (d : LoggedDoubt) (g : Granule) → IsAmong d (doubts_in log) → Contains d.granules g → HoldsAtLeast held d.txn EX g
  pub above : (d : LoggedDoubt) (g a : Granule) → IsAmong d (doubts_in log) → Contains d.granules g → Contains (ancestors g) a → HoldsAtLeast held d.txn IX a

-- the lock's place in a table of locks, which has each once
abbrev pub node_of : Hold → ℕ × Granule
node_of h = (h.txn, h.granule)

-- such locks, as a function of the log: for each granule that a Prepare names EX, and IX on each granule above it
abbrev pub locks_under : ℕ → Granule → List Hold
locks_under t g = record { txn = t; granule = g; mode = EX } ∷ map (λ a. record { txn = t; granule = a; mode = IX }) (ancestors g)

abbrev pub locks_for : ℕ → List Granule → List Hold
locks_for t [] = []
locks_for t (g ∷ gs) = locks_under t g ++ locks_for t gs

abbrev pub restored_locks : List LoggedDoubt → List Hold
restored_locks [] = []
restored_locks (d ∷ ds) = locks_for d.txn d.granules ++ restored_locks ds

-- they have more places than this: there is a list of different ones that is longer
abbrev pub NeedMore : ℕ → List LoggedDoubt → Type 0
NeedMore limit ds = (nodes : List (ℕ × Granule)) × EachOnce nodes × ((x : ℕ × Granule) → IsAmong x nodes → IsAmong x (map node_of (restored_locks ds))) × (limit < length nodes)

-- ---- beside the sessions

-- The log has those in doubt that the state has; they hold their granules. Who is neither in doubt nor resolved has no Prepare, and who is
-- rolled back by a resolve has a Rollback decided.
pub record TracksDoubts (log : List LogRecord) (s : Sessions) : Type 0 where
  pub in_doubt : map pair_logged (doubts_in log) ≡ pairs_of s.prepared
  pub hold : (d : LoggedDoubt) (g : Granule) → IsAmong d (doubts_in log) → Contains d.granules g → HoldsAtLeast s.held d.txn EX g
  pub free : (t : ℕ) → IsAmong t (txns_of s.active) → IsFree s t → (has is_prepare t log ≡ false) × (has is_rollback t log ≡ false)
  pub rolled : (t : ℕ) → IsAmong t (txns_of s.active) → IsAmong t (resolved_of s) → (has is_rollback t log ≡ true) × (IsAmong t (in_doubt_of s) → ⊥)
  pub stand : DoubtsStand log

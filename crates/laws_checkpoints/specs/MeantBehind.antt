-- What a record of a log whose front is cut off has to mean, given the kept records before it, for a restart to work on what is left. Each record
-- of a transaction that is whole in what is kept is judged as in a whole log. Of one that is not, records are cut off: then it has ended by
-- what is kept, so nothing of it is undone, and of its records only what redo needs is asked.
use Rattle.std.specs.Prelude.{◌≡◌, ◌⊎◌, ◌<◌, ◌≤◌, ◌==◌, ℕ, List, [], ◌∷◌, IsTrue, true, false, Some, take, slice_get}
use Rattle.shore_model.specs.declared.log_records.LogRecord.{LogRecord}
use Rattle.shore_model.specs.declared.log_records.Payload.{Payload}
use Rattle.shore_model.specs.declared.log_records.Payload.TheVariants.{Change, Compensation, Commit, End, Prepare, RollbackDecided, CheckpointBegin, CheckpointEnd, Anchor}
use Rattle.shore_model.specs.Logs.{Answers, MayCommit, MayPrepare, is_in_doubt, is_of_checkpoint, is_over, is_undoable, is_unprepared}
use Rattle.laws_checkpoints.specs.KeptLogs.{kept_last_of, kept_records_of, kept_unanswered}
use Rattle.laws_checkpoints.specs.KeptTables.{IsEndBehind}

-- what a transaction's next record says, if all of its records are kept
abbrev pub MeansBehind : ℕ → List LogRecord → ℕ → Payload → Type 0
MeansBehind cut before t (Change id was image) = IsTrue (is_unprepared t before)
MeansBehind cut before t (Compensation id image undo_next) = IsTrue (is_undoable t before) × Answers (kept_unanswered cut t before) id image undo_next
MeansBehind cut before t Commit = MayCommit before t
MeansBehind cut before t End = IsTrue (is_undoable t before) × (kept_unanswered cut t before ≡ [])
MeansBehind cut before t (Prepare global granules) = MayPrepare before t granules
MeansBehind cut before t RollbackDecided = IsTrue (is_in_doubt t before)
MeansBehind cut before t CheckpointBegin = ⊥
MeansBehind cut before t (CheckpointEnd begin next txns dirty) = ⊥
MeansBehind cut before t (Anchor checkpoint tail) = ⊥

-- what a record of a checkpoint says
abbrev pub MeansOfCheckpoint : ℕ → List LogRecord → List LogRecord → Payload → Type 0
MeansOfCheckpoint cut kept before CheckpointBegin = Unit {0}
MeansOfCheckpoint cut kept before (CheckpointEnd begin next txns dirty) = IsEndBehind cut kept before begin next txns
MeansOfCheckpoint cut kept before (Anchor checkpoint tail) = Unit {0}
MeansOfCheckpoint cut kept before (Change id was image) = ⊥
MeansOfCheckpoint cut kept before (Compensation id image undo_next) = ⊥
MeansOfCheckpoint cut kept before Commit = ⊥
MeansOfCheckpoint cut kept before End = ⊥
MeansOfCheckpoint cut kept before (Prepare global granules) = ⊥
MeansOfCheckpoint cut kept before RollbackDecided = ⊥

-- ---- whose front is cut off

-- the number that the first of some records names
abbrev pub first_previous : List (ℕ × LogRecord) → ℕ
first_previous [] = 0
first_previous (r ∷ rs) = r.1.previous

-- the transaction's first kept record names one that is cut off
pub record IsCutOff (cut : ℕ) (kept : List LogRecord) (t : ℕ) : Type 0 where
  pub some : 0 < first_previous (kept_records_of cut t kept)
  pub below : first_previous (kept_records_of cut t kept) ≤ cut

-- ---- one record

-- it is a transaction's, names that one's record before it, and says what it has to
pub record IsMeantWhole (cut : ℕ) (before : List LogRecord) (r : LogRecord) : Type 0 where
  pub is_one : 0 < r.txn
  pub previous : r.previous ≡ kept_last_of cut r.txn before
  pub says : MeansBehind cut before r.txn r.payload

-- it is of a transaction whose front is cut off, and which has ended
pub record IsMeantCutOff (cut : ℕ) (kept before : List LogRecord) (r : LogRecord) : Type 0 where
  pub is_one : 0 < r.txn
  pub cut_off : IsCutOff cut kept r.txn
  pub previous : 0 < kept_last_of cut r.txn before → r.previous ≡ kept_last_of cut r.txn before
  pub ended : is_over r.txn kept ≡ true

-- it is a checkpoint's
pub record IsMeantOfCheckpoint (cut : ℕ) (kept before : List LogRecord) (r : LogRecord) : Type 0 where
  pub is_none : r.txn ≡ 0
  pub previous : r.previous ≡ 0
  pub says : MeansOfCheckpoint cut kept before r.payload

-- A record of what is kept, given the kept ones before it. What it asks by itself, of ids and granules, of its numbers and its kind, is said apart.
pub record IsMeantBehind (cut : ℕ) (kept before : List LogRecord) (r : LogRecord) : Type 0 where
  pub of : is_of_checkpoint r.payload ≡ (r.txn == 0)
  pub not_over : is_over r.txn before ≡ false
  pub means : IsMeantWhole cut before r ⊎ IsMeantCutOff cut kept before r ⊎ IsMeantOfCheckpoint cut kept before r

abbrev pub AreMeantBehind : ℕ → List LogRecord → Type 0
AreMeantBehind cut kept = (n : ℕ) (r : LogRecord) → slice_get kept n ≡ Some r → IsMeantBehind cut kept (take n kept) r

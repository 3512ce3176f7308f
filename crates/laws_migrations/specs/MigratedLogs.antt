-- The log that a migration gives the new pair: all records that are committed as the inserts of one transaction, and its Commit; those in doubt, each with
-- what it has changed and its Prepare; and one checkpoint. A device gives what stands behind the Commit.
use Rattle.std.specs.Prelude.{◌≡◌, ◌≢◌, ◌<◌, ◌+◌, ◌++◌, ℕ, List, [], ◌∷◌, None, Some, length, map, true}
use Rattle.std.specs.FinMap.{entries}
use Rattle.std.specs.List.{AllByRecursion}
use Rattle.shore_types.specs.Images.{Image}
use Rattle.shore_types.specs.declared.ids.Rid.{Rid}
use Rattle.shore_types.specs.declared.locking.Granule.{Granule}
use Rattle.shore_model.specs.declared.log_records.LogRecord.{LogRecord}
use Rattle.shore_model.specs.declared.log_records.LogTxn.{LogTxn}
use Rattle.shore_model.specs.declared.log_records.Payload.TheVariants.{Change, Commit, CheckpointBegin, Prepare}
use Rattle.shore_model.specs.Logs.{LiesUnder, has, image_of_record, records_told}
use Rattle.shore_model.specs.Records.{Records}
use Rattle.laws_lives.specs.Doubts.{DoubtsStand, LoggedDoubt, doubts_in}
use Rattle.laws_lives.specs.LogTells.{records_committed}
use Rattle.laws_lives.specs.Logged.{and_record}
use Rattle.laws_lives.specs.Writers.{changes_id, image_committed}
use Rattle.laws_checkpoints.specs.Checkpoints.{Anchored, Checkpoint, end_payload, of_checkpoint}

-- ---- what is migrated

-- what one transaction has changed at an id: the image that is committed there, and its own
pub record Written : Type 0 where
  pub id : Rid
  pub before : Image
  pub after : Image

-- one in doubt, with what it has changed
pub record MigratedDoubt : Type 0 where
  pub txn : ℕ
  pub global : List ℕ
  pub granules : List Granule
  pub writes : List Written

abbrev pub as_logged : MigratedDoubt → LoggedDoubt
as_logged d = record { txn = d.txn; global = d.global; granules = d.granules }

-- ---- the log

-- a Change for each
abbrev pub and_writes : ℕ → List LogRecord → List Written → List LogRecord
and_writes t log [] = log
and_writes t log (w ∷ ws) = and_writes t (and_record t log (Change w.id w.before w.after)) ws

-- the Changes of each in doubt, and its Prepare
abbrev pub and_doubt : List LogRecord → MigratedDoubt → List LogRecord
and_doubt log d = and_record d.txn (and_writes d.txn log d.writes) (Prepare d.global d.granules)

abbrev pub and_doubts : List LogRecord → List MigratedDoubt → List LogRecord
and_doubts log [] = log
and_doubts log (d ∷ ds) = and_doubts (and_doubt log d) ds

abbrev pub inserted : Rid × List ℕ → Written
inserted e = record { id = e.0; before = None; after = Some e.1 }

-- the records, as transaction t inserts and commits them
abbrev pub with_records : ℕ → Records → List LogRecord
with_records t records = and_record t (and_writes t [] (map inserted (entries records))) Commit

-- the log before its checkpoint
abbrev pub migrated_work : ℕ → Records → List MigratedDoubt → List LogRecord
migrated_work t records doubts = and_doubts (with_records t records) doubts

-- a checkpoint behind these records, with no page dirty
abbrev pub last_checkpoint : List LogRecord → ℕ → List LogTxn → Checkpoint
last_checkpoint log next txns = record { begin = length log + 1; next = next; txns = txns; dirty = [] }

abbrev pub and_checkpoint : List LogRecord → ℕ → List LogTxn → List LogRecord
and_checkpoint log next txns = (log ++ of_checkpoint CheckpointBegin ∷ []) ++ of_checkpoint (end_payload (last_checkpoint log next txns)) ∷ []

abbrev pub migrated_log : ℕ → Records → List MigratedDoubt → List LogTxn → List LogRecord
migrated_log t records doubts txns = and_checkpoint (migrated_work t records doubts) (t + 1) txns

-- what is kept begins behind the Commit, and the checkpoint is anchored
abbrev pub migrated_anchor : ℕ → Records → List MigratedDoubt → Anchored
migrated_anchor t records doubts = record { checkpoint = length (migrated_work t records doubts) + 1; tail = length (with_records t records) + 1 }

-- ---- what must hold of what is migrated

-- no id comes twice
abbrev pub EachIdOnce : List Written → Type 0
EachIdOnce [] = Unit {0}
EachIdOnce (w ∷ ws) = AllByRecursion (λ v. v.id ≢ w.id) ws × EachIdOnce ws

-- none of these ids is the one's
abbrev pub IsElsewhere : Rid → List Written → Type 0
IsElsewhere id ws = AllByRecursion (λ w. w.id ≢ id) ws

-- two in doubt are different transactions, and have changed nothing at one id
pub record AreApart (d e : MigratedDoubt) : Type 0 where
  pub txns : d.txn ≢ e.txn
  pub ids : AllByRecursion (λ w. IsElsewhere w.id d.writes) e.writes

abbrev pub EachApart : List MigratedDoubt → Type 0
EachApart [] = Unit {0}
EachApart (d ∷ ds) = AllByRecursion (AreApart d) ds × EachApart ds

-- One in doubt has a number below the new transaction's. Its ids are different ones, each before image is what is committed there, and each id lies at or
-- under a granule that it holds.
pub record IsMigratable (committed : Rid → Image) (t : ℕ) (d : MigratedDoubt) : Type 0 where
  pub some : 0 < d.txn
  pub below : d.txn < t
  pub once : EachIdOnce d.writes
  pub before : AllByRecursion (λ w. w.before ≡ committed w.id) d.writes
  pub under : AllByRecursion (λ w. LiesUnder d.granules w.id) d.writes

-- ---- what is read of the old log

-- What is read of one in doubt: ids that it has changed, each once, with what is committed there and what stands there. Where it has changed an id that is
-- not among them, what is committed stands there.
pub record IsReadOf (old : List LogRecord) (d : MigratedDoubt) : Type 0 where
  pub once : EachIdOnce d.writes
  pub each : AllByRecursion (λ w. (has (changes_id w.id) d.txn old ≡ true) × (w.before ≡ image_committed old w.id) × (w.after ≡ image_of_record old w.id)) d.writes
  pub every : (id : Rid) → has (changes_id id) d.txn old ≡ true → IsElsewhere id d.writes → image_of_record old id ≡ image_committed old id

-- Those in doubt are read in the order of their Prepares, and the new transaction's number is above all.
pub record IsRead (old : List LogRecord) (t : ℕ) (doubts : List MigratedDoubt) : Type 0 where
  pub some : 0 < t
  pub above : AllByRecursion (λ r. r.txn < t) old
  pub listed : map as_logged doubts ≡ doubts_in old
  pub reads : AllByRecursion (IsReadOf old) doubts

-- ---- what a migration keeps

-- The new log tells what the old one does: the committed records, those in doubt under their names and with their granules, and what is shown with their changes.
pub record TellsTheSame (old new : List LogRecord) : Type 0 where
  pub committed : records_committed new ≡ records_committed old
  pub doubts : doubts_in new ≡ doubts_in old
  pub told : records_told new ≡ records_told old
  pub stands : DoubtsStand old → DoubtsStand new

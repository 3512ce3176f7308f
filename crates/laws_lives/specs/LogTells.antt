-- What ties the list of log records to the history: it tells the serial records, and it has of each transaction under way what stands
-- in place for it and what is left to undo.
use Rattle.std.specs.Prelude.{◌≡◌, ◌≢◌, ◌<◌, ℕ, List, None, Some, IsSome, map, reverse}
use Rattle.std.specs.FinMap.{empty, get}
use Rattle.std.specs.List.{AllByRecursion}
use Rattle.shore_types.specs.Images.{Image}
use Rattle.shore_types.specs.declared.ids.Rid.{Rid}
use Rattle.shore_model.specs.declared.histories.Entry.{Entry}
use Rattle.shore_model.specs.declared.histories.Opening.{Opening}
use Rattle.shore_model.specs.declared.holds.Hold.{Hold}
use Rattle.shore_model.specs.declared.log_records.LogRecord.{LogRecord}
use Rattle.shore_model.specs.declared.progress.Progress.{Progress}
use Rattle.shore_model.specs.Locks.{MayWrite}
use Rattle.shore_model.specs.Logs.{committed_in, logged_writes, unanswered}
use Rattle.shore_model.specs.Records.{Records, WriteSet, overlays}
use Rattle.laws_lives.specs.Sessions.{SessionTxn, Sessions, txns_of}
use Rattle.laws_lives.specs.Soundness.{progress_in, serial_after}
use Rattle.laws_lives.specs.Views.{IsAmong}

-- what is left by those that have a Commit in the list, and all that it tells while nobody is in doubt
abbrev pub records_committed : List LogRecord → Records
records_committed log = overlays empty (map (logged_writes log) (committed_in log))

-- The last images that a transaction has logged, L, are enough for one that has come so far. Its write set may be smaller, since a
-- rollback logs images and takes ids out of the write set. But each image is in place, at an id that it may write; and an id without one
-- is in no write set of it, neither in that of now nor in one that a savepoint saved.
pub record HasLogged (held : List Hold) (R : Records) (t : ℕ) (p : Progress) (L : WriteSet) : Type 0 where
  pub in_place : (id : Rid) (image : Image) → get L id ≡ Some image → (get R id ≡ image) × MayWrite held t id
  pub unwritten : (id : Rid) → get L id ≡ None → get p.writes id ≡ None
  pub unsaved : (id : Rid) → get L id ≡ None → AllByRecursion (λ W. get W id ≡ None) p.saved

-- the list tells the serial records, none of the transactions ts is committed in it, and each has logged what it must
pub record TellsSerial (log : List LogRecord) (held : List Hold) (now R : Records) (ts : List ℕ) (p : ℕ → Progress) : Type 0 where
  pub tells : records_committed log ≡ now
  pub uncommitted : (t : ℕ) → IsAmong t ts → AllByRecursion (λ u. u ≢ t) (committed_in log)
  pub each : (t : ℕ) → IsAmong t ts → HasLogged held R t (p t) (logged_writes log t)

-- the transaction has logged an image for the id of each of these
abbrev pub AreLogged : List LogRecord → ℕ → List (Rid × Image) → Type 0
AreLogged log t images = AllByRecursion (λ e. IsSome (get (logged_writes log t) e.0)) images

-- The list is one that the sessions' history has left: each transaction under way has logged what it has to put back. The next
-- transaction's number is above all of its records.
pub record IsLogAfter (o : Opening) (es : List Entry) (s : Sessions) (log : List LogRecord) : Type 0 where
  pub tells_serial : TellsSerial log s.held (serial_after o es) s.records (txns_of s.active) (progress_in o es)
  pub undo_logged : (a : SessionTxn) → IsAmong a s.active → AreLogged log a.txn a.undo.images
  pub below : AllByRecursion (λ r. r.txn < s.next_txn) log

-- a transaction's Changes that no Compensation has answered have, from the newest on, the before images of its undo list
abbrev pub MatchesUndo : List LogRecord → ℕ → List (Rid × Image) → Type 0
MatchesUndo log t images = map (λ c. (c.id, c.before)) (unanswered t log) ≡ reverse images

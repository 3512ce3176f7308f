-- Which lists of log records are lawful, and what they tell: in whole lists what Mohan, Haderle, Lindsay, Pirahesh and
-- Schwarz, "ARIES" (ACM TODS 17(1), 1992), does in passes over a log. Records are numbered from 1, transactions too.
use Rattle.std.specs.Prelude.{◌≡◌, ◌≢◌, ◌<◌, ◌-◌, ◌==◌, ◌&&◌, ◌||◌, ℕ, List, [], ◌∷◌, Bool, true, false, not, if◌then◌else◌, Option, None, Some, IsTrue, IfSome, IsSomeAnd, map, nat_lt, filter, reverse, take, drop, unwrap_or, slice_get, All, Any, Contains}
use Rattle.std.specs.List.{filter_map, list_any, enumerate_from}
use Rattle.std.specs.FinMap.{empty, from_entries, get, insert}
use Rattle.shore_types.specs.declared.ids.Rid.{Rid}
use Rattle.shore_types.specs.declared.locking.Granule.{Granule}
use Rattle.shore_types.specs.declared.locking.Granule.TheVariants.{Record}
use Rattle.shore_model.specs.declared.unanswered_changes.UnansweredChange.{UnansweredChange}
use Rattle.shore_model.specs.declared.log_records.LogRecord.{LogRecord}
use Rattle.shore_model.specs.declared.log_records.LogTxn.{LogTxn}
use Rattle.shore_model.specs.declared.log_records.TxnState.{TxnState}
use Rattle.shore_model.specs.declared.log_records.TxnState.TheVariants as state
use Rattle.shore_model.specs.declared.log_records.Payload.{Payload}
use Rattle.shore_model.specs.declared.log_records.Payload.TheVariants.{Change, Compensation, Commit, End, Prepare, RollbackDecided, CheckpointBegin, CheckpointEnd, Anchor}
use Rattle.shore_model.specs.Records.{Records, WriteSet, overlays}
use Rattle.shore_types.specs.Images.{Image}
use Rattle.shore_model.specs.Locks.{path}

-- ---- states of a transaction, by the records that it has

abbrev pub is_commit : Payload → Bool
is_commit Commit = true
is_commit _ = false

abbrev pub is_end : Payload → Bool
is_end End = true
is_end _ = false

abbrev pub is_prepare : Payload → Bool
is_prepare (Prepare global granules) = true
is_prepare _ = false

abbrev pub is_rollback : Payload → Bool
is_rollback RollbackDecided = true
is_rollback _ = false

-- the transaction has a record that passes
abbrev pub has : (Payload → Bool) → ℕ → List LogRecord → Bool
has p t rs = list_any (λ r. (r.txn == t) && p r.payload) rs

-- it has ended: it has a Commit or an End
abbrev pub is_over : ℕ → List LogRecord → Bool
is_over t rs = has is_commit t rs || has is_end t rs

-- it is in doubt: it has a Prepare, no Commit and no Rollback decided (ARIES: in doubt, by two-phase commit)
abbrev pub is_in_doubt : ℕ → List LogRecord → Bool
is_in_doubt t rs = has is_prepare t rs && not (has is_commit t rs) && not (has is_rollback t rs)

-- it may change records: it has no Prepare (ARIES: unprepared)
abbrev pub is_unprepared : ℕ → List LogRecord → Bool
is_unprepared t rs = not (has is_prepare t rs)

-- it may put back what it changed: it has no Prepare, or a Rollback decided after it
abbrev pub is_undoable : ℕ → List LogRecord → Bool
is_undoable t rs = is_unprepared t rs || has is_rollback t rs

-- ---- numbers (ARIES: log sequence numbers, and the PrevLSN of a record)

-- each record with its number, from 1
abbrev pub numbered : List LogRecord → List (ℕ × LogRecord)
numbered rs = enumerate_from 1 rs

-- a transaction's records with their numbers
abbrev pub records_of : ℕ → List LogRecord → List (ℕ × LogRecord)
records_of t rs = filter (λ r. r.1.txn == t) (numbered rs)

-- the number of the first of some records, 0 if there is none
abbrev pub first_number : List (ℕ × LogRecord) → ℕ
first_number [] = 0
first_number (r ∷ rs) = r.0

-- the number of a transaction's first record, 0 if it has none
abbrev pub first_of : ℕ → List LogRecord → ℕ
first_of t rs = first_number (records_of t rs)

-- the number of a transaction's last record, 0 if it has none
abbrev pub last_of : ℕ → List LogRecord → ℕ
last_of t rs = first_number (reverse (records_of t rs))

-- the number of a transaction's Prepare, 0 if it has none
abbrev pub prepare_number : ℕ → List LogRecord → ℕ
prepare_number t rs = first_number (filter (λ r. (r.1.txn == t) && is_prepare r.1.payload) (numbered rs))

-- ---- images (ARIES: undo and redo images)

-- what a record leaves, and where: the after image of a Change or of a Compensation
abbrev pub image_in : Payload → Option (Rid × Image)
image_in (Change id before image) = Some (id, image)
image_in (Compensation id image undo_next) = Some (id, image)
image_in _ = None

-- the id that a record changes
abbrev pub id_in : Payload → Option Rid
id_in (Change id before image) = Some id
id_in (Compensation id image undo_next) = Some id
id_in _ = None

-- images with one more, which counts where its id has one already
abbrev pub with_image : WriteSet → Option (Rid × Image) → WriteSet
with_image images (Some e) = insert images e.0 e.1
with_image images None = images

-- the last image for each id that records change
abbrev pub last_images : List LogRecord → WriteSet
last_images rs = from_entries (reverse (filter_map (λ r. image_in r.payload) rs))

-- what the records leave at an id: the last image for it, and nothing if there is none
abbrev pub image_of_record : List LogRecord → Rid → Image
image_of_record rs id = unwrap_or (get (last_images rs) id) None

-- what one transaction's records leave: the last image for each id
abbrev pub logged_writes : List LogRecord → ℕ → WriteSet
logged_writes rs t = last_images (filter (λ r. r.txn == t) rs)

-- ---- Changes and Compensations (ARIES: compensation log records, and their UndoNxtLSN)

-- a Change goes on top of those that none has answered, and a Compensation answers the one on top
abbrev pub answered_by : ℕ → Payload → List UnansweredChange → List UnansweredChange
answered_by n (Change id before image) open_changes = record { number = n; id = id; before = before } ∷ open_changes
answered_by n (Compensation id image undo_next) open_changes = drop 1 open_changes
answered_by n _ open_changes = open_changes

-- the Changes among some records, the newest first, that no Compensation has answered
abbrev pub unanswered_in : List (ℕ × LogRecord) → List UnansweredChange
unanswered_in [] = []
unanswered_in (r ∷ older) = answered_by r.0 r.1.payload (unanswered_in older)

-- a transaction's Changes that no Compensation has answered, the newest first
abbrev pub unanswered : ℕ → List LogRecord → List UnansweredChange
unanswered t rs = unanswered_in (reverse (records_of t rs))

-- the number of the newest of them, which is to be undone next, 0 if there is none
abbrev pub undo_next_of : List UnansweredChange → ℕ
undo_next_of [] = 0
undo_next_of (c ∷ cs) = c.number

-- a Compensation answers the newest of these Changes: it puts the before image back at its id, and names the newest that is
-- left (ARIES: a compensation record names the record to be undone next, and is never undone itself)
abbrev pub Answers : List UnansweredChange → Rid → Image → ℕ → Type 0
Answers [] id image undo_next = ⊥
Answers (c ∷ cs) id image undo_next = (undo_next ≡ undo_next_of cs) × (id ≡ c.id) × (image ≡ c.before)

-- ---- lawful lists

-- the record is not a change of the id by another transaction that has not ended
abbrev pub LeavesFree : List LogRecord → ℕ → Rid → LogRecord → Type 0
LeavesFree rs t id r = id_in r.payload ≡ Some id → r.txn ≢ t → IsTrue (is_over r.txn rs)

-- no other transaction that has not ended has changed the id
abbrev pub NoOtherChanged : List LogRecord → ℕ → Rid → Type 0
NoOtherChanged rs t id = All (LeavesFree rs t id) rs

-- an id lies at or under one of the granules
unfoldable pub LiesUnder : List Granule → Rid → Type 0
LiesUnder granules id = Any (Contains (path (Record id))) granules

-- what a transaction's record changes lies at or under one of the granules
abbrev pub KeepsUnder : ℕ → List Granule → LogRecord → Type 0
KeepsUnder t granules r = r.txn ≡ t → IfSome (id_in r.payload) (LiesUnder granules)

-- all that the transaction has changed lies at or under one of the granules
abbrev pub LieUnder : List LogRecord → ℕ → List Granule → Type 0
LieUnder rs t granules = All (KeepsUnder t granules) rs

-- the state that an entry of a checkpoint gives its transaction: that it is in doubt
abbrev pub is_prepared : TxnState → Bool
is_prepared state.Prepared = true
is_prepared state.Active = false
is_prepared state.RollingBack = false

-- an entry's transaction has records and has not ended, and the entry says whether it is in doubt. Transaction 0 is none
pub record IsUnended (rs : List LogRecord) (e : LogTxn) : Type 0 where
  pub is_one : 0 < e.txn
  pub known : 0 < last_of e.txn rs
  pub not_over : is_over e.txn rs ≡ false
  pub in_doubt : is_prepared e.state ≡ is_in_doubt e.txn rs

-- an entry's numbers are those of its transaction's first and last record, of the Change to be undone next, and of its Prepare
pub record HasNumbers (rs : List LogRecord) (e : LogTxn) : Type 0 where
  pub first : e.first ≡ first_of e.txn rs
  pub last : e.last ≡ last_of e.txn rs
  pub undo_next : e.undo_next ≡ undo_next_of (unanswered e.txn rs)
  pub prepare : e.prepare ≡ prepare_number e.txn rs

abbrev pub IsEntry : List LogRecord → LogTxn → Type 0
IsEntry rs e = IsUnended rs e × HasNumbers rs e

-- an entry is the transaction's
unfoldable pub Lists : List LogTxn → ℕ → Type 0
Lists txns t = Any (λ e. e.txn ≡ t) txns

-- a record's transaction has ended, or an entry is its
abbrev pub IsListed : List LogRecord → List LogTxn → LogRecord → Type 0
IsListed rs txns r = 0 < r.txn → is_over r.txn rs ≡ false → Lists txns r.txn

-- the entries' transactions rise, the first above a number
abbrev pub rise_above : ℕ → List LogTxn → Bool
rise_above t [] = true
rise_above t (e ∷ es) = nat_lt t e.txn && rise_above e.txn es

-- a checkpoint's table has the list's transactions that have not ended, each once, rising (ARIES: the transaction table)
pub record IsTable (rs : List LogRecord) (txns : List LogTxn) : Type 0 where
  pub rising : IsTrue (rise_above 0 txns)
  pub each : All (IsEntry rs) txns
  pub every : All (IsListed rs txns) rs

-- the record of this number is a checkpoint's begin
abbrev pub IsBegin : List LogRecord → ℕ → Type 0
IsBegin rs begin = (0 < begin) × IsSomeAnd (slice_get rs (begin - 1)) (λ r. r.payload ≡ CheckpointBegin)

-- the records before a checkpoint's begin
abbrev pub before_begin : List LogRecord → ℕ → List LogRecord
before_begin rs begin = take (begin - 1) rs

-- a checkpoint's table is as at its begin, and its next number is above the number of every transaction before that
-- (ARIES: a fuzzy checkpoint)
pub record IsAsAtBegin (rs : List LogRecord) (begin next : ℕ) (txns : List LogTxn) : Type 0 where
  pub begins : IsBegin rs begin
  pub table : IsTable (before_begin rs begin) txns
  pub above : All (λ r. r.txn < next) (before_begin rs begin)

-- a Change: no Prepare comes before it, its before image is what the list leaves at the id, and no other has changed that
abbrev pub MayChange : List LogRecord → ℕ → Rid → Image → Type 0
MayChange rs t id before = IsTrue (is_unprepared t rs) × (before ≡ image_of_record rs id) × NoOtherChanged rs t id

-- a Compensation: it answers the newest unanswered Change
abbrev pub MayCompensate : List LogRecord → ℕ → Rid → Image → ℕ → Type 0
MayCompensate rs t id image undo_next = IsTrue (is_undoable t rs) × Answers (unanswered t rs) id image undo_next

-- a Commit: no Prepare comes before it, or its transaction is in doubt
abbrev pub MayCommit : List LogRecord → ℕ → Type 0
MayCommit rs t = IsTrue (is_unprepared t rs || is_in_doubt t rs)

-- an End: no Change of its transaction is unanswered
abbrev pub MayEnd : List LogRecord → ℕ → Type 0
MayEnd rs t = IsTrue (is_undoable t rs) × (unanswered t rs ≡ [])

-- a Prepare: it is the first, and all Changes lie at or under its granules
abbrev pub MayPrepare : List LogRecord → ℕ → List Granule → Type 0
MayPrepare rs t granules = IsTrue (is_unprepared t rs) × LieUnder rs t granules

-- a checkpoint's records are of no transaction
abbrev pub is_of_checkpoint : Payload → Bool
is_of_checkpoint CheckpointBegin = true
is_of_checkpoint (CheckpointEnd begin next txns dirty) = true
is_of_checkpoint (Anchor checkpoint tail) = true
is_of_checkpoint _ = false

-- a transaction's next record may say this
abbrev pub MaySay : List LogRecord → ℕ → Payload → Type 0
MaySay rs t (Change id before image) = MayChange rs t id before
MaySay rs t (Compensation id image undo_next) = MayCompensate rs t id image undo_next
MaySay rs t Commit = MayCommit rs t
MaySay rs t End = MayEnd rs t
MaySay rs t (Prepare global granules) = MayPrepare rs t granules
MaySay rs t RollbackDecided = IsTrue (is_in_doubt t rs)
MaySay rs t CheckpointBegin = Unit {0}
MaySay rs t (CheckpointEnd begin next txns dirty) = IsAsAtBegin rs begin next txns
MaySay rs t (Anchor checkpoint tail) = Unit {0}

-- the number that a transaction's next record names: that of its last record. Transaction 0, which is none, has no chain
abbrev pub previous_of : ℕ → List LogRecord → ℕ
previous_of t rs = if t == 0 then 0 else last_of t rs

-- the record may follow these: it is of a transaction or of a checkpoint, it names its transaction's record before it,
-- its transaction has not ended, and may say this
pub record MayFollow (rs : List LogRecord) (r : LogRecord) : Type 0 where
  pub of : is_of_checkpoint r.payload ≡ (r.txn == 0)
  pub previous : r.previous ≡ previous_of r.txn rs
  pub not_over : is_over r.txn rs ≡ false
  pub says : MaySay rs r.txn r.payload

-- a lawful list (a well-formed log): each record may follow those before it
abbrev pub Lawful : List LogRecord → Type 0
Lawful rs = (n : ℕ) (r : LogRecord) → slice_get rs n ≡ Some r → MayFollow (take n rs) r

-- ---- what a list tells

abbrev pub commit_of : LogRecord → Option ℕ
commit_of r = if is_commit r.payload then Some r.txn else None

-- those that have a Commit, in the order of the Commits
abbrev pub committed_in : List LogRecord → List ℕ
committed_in rs = filter_map commit_of rs

abbrev pub prepare_of : LogRecord → Option ℕ
prepare_of r = if is_prepare r.payload then Some r.txn else None

-- those in doubt, in the order of their Prepares
abbrev pub in_doubt_in : List LogRecord → List ℕ
in_doubt_in rs = filter (λ t. is_in_doubt t rs) (filter_map prepare_of rs)

-- a record that decides something of its transaction: a Commit, a Prepare or a Rollback decided
abbrev pub is_decision : Payload → Bool
is_decision p = is_commit p || is_prepare p || is_rollback p

-- what a list tells: the empty map, with the writes of the committed laid over it in the order of the Commits, and then of
-- those in doubt. The others contribute nothing (ARIES: what restart leaves once it has undone the losers)
abbrev pub records_told : List LogRecord → Records
records_told rs = overlays (overlays empty (map (logged_writes rs) (committed_in rs))) (map (logged_writes rs) (in_doubt_in rs))

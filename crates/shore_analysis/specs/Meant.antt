-- What a record has to mean, given the records before it, for a restart to work on the log. It can be seen without the pages: whether a
-- Change's before image is right, and whether its record was free, is not asked.
use Rattle.std.specs.Prelude.{◌≡◌, ◌<◌, ◌≤◌, ◌-◌, ◌++◌, ℕ, List, [], ◌∷◌, false, Some, All, IsTrue, IsSomeAnd, length, take, slice_get}
use Rattle.std.specs.List.{AllByRecursion}
use Rattle.std.specs.List.Sorted.{IsStrictlySortedBy}
use Rattle.shore_types.specs.Images.{Image}
use Rattle.shore_analysis.specs.Sizes.{HasSizes}
use Rattle.shore_types.specs.Layout.{HasGranule, HasPage, HasSlot}
use Rattle.shore_types.specs.declared.ids.Rid.{Rid}
use Rattle.shore_types.specs.declared.layout.Geometry.{Geometry}
use Rattle.shore_types.specs.declared.layout.TheConstants.{LAST_TXN, MAX_TRANSACTIONS}
use Rattle.shore_types.specs.declared.locking.Granule.{Granule}
use Rattle.shore_types.specs.Locking.{granule_cmp}
use Rattle.shore_model.specs.declared.log_records.DirtyPage.{DirtyPage}
use Rattle.shore_model.specs.declared.log_records.LogRecord.{LogRecord}
use Rattle.shore_model.specs.declared.log_records.LogTxn.{LogTxn}
use Rattle.shore_model.specs.declared.log_records.Payload.{Payload}
use Rattle.shore_model.specs.declared.log_records.Payload.TheVariants.{Change, Compensation, Commit, End, Prepare, RollbackDecided, CheckpointBegin, CheckpointEnd, Anchor}
use Rattle.shore_model.specs.Logs.{IsTable, MayCommit, MayCompensate, MayEnd, MayPrepare, id_in, is_in_doubt, is_over, is_unprepared, previous_of}

-- a Change: its id may be one, and no Prepare comes before it
abbrev pub MeansChange : Geometry → List LogRecord → ℕ → Rid → Type 0
MeansChange g before t id = HasSlot g id × IsTrue (is_unprepared t before)

-- a Compensation: its id may be one, its transaction is not in doubt, and it answers the newest unanswered Change
abbrev pub MeansCompensation : Geometry → List LogRecord → ℕ → Rid → Image → ℕ → Type 0
MeansCompensation g before t id image undo_next = HasSlot g id × MayCompensate before t id image undo_next

-- granules as a Prepare names them: each is there, and they rise
pub record AreGranules (g : Geometry) (granules : List Granule) : Type 0 where
  pub inside : All (HasGranule g) granules
  pub rise : IsStrictlySortedBy granule_cmp granules

-- a Prepare: its granules may be ones, it is the first, and all that its transaction has changed, undone or not, lies at or under one of them
abbrev pub MeansPrepare : Geometry → List LogRecord → ℕ → List Granule → Type 0
MeansPrepare g before t granules = AreGranules g granules × MayPrepare before t granules

-- what a transaction's next record says; the records of checkpoints mean nothing here
abbrev pub Means : Geometry → List LogRecord → ℕ → Payload → Type 0
Means g before t (Change id was image) = MeansChange g before t id
Means g before t (Compensation id image undo_next) = MeansCompensation g before t id image undo_next
Means g before t Commit = MayCommit before t
Means g before t End = MayEnd before t
Means g before t (Prepare global granules) = MeansPrepare g before t granules
Means g before t RollbackDecided = IsTrue (is_in_doubt t before)
Means g before t CheckpointBegin = ⊥
Means g before t (CheckpointEnd begin next txns dirty) = ⊥
Means g before t (Anchor checkpoint tail) = ⊥

-- the record is of a transaction with a number that one may have and that has not ended, names its record before it, and says nothing too long
pub record IsMeant (g : Geometry) (before : List LogRecord) (r : LogRecord) : Type 0 where
  pub some : 0 < r.txn
  pub number : r.txn < LAST_TXN
  pub previous : r.previous ≡ previous_of r.txn before
  pub not_over : is_over r.txn before ≡ false
  pub sizes : HasSizes g.version r.payload
  pub says : Means g before r.txn r.payload

-- the payload is a Change
abbrev pub IsChange : Payload → Type 0
IsChange (Change id before after) = Unit {0}
IsChange (Compensation id after undo_next) = ⊥
IsChange Commit = ⊥
IsChange End = ⊥
IsChange (Prepare global granules) = ⊥
IsChange RollbackDecided = ⊥
IsChange CheckpointBegin = ⊥
IsChange (CheckpointEnd begin next txns dirty) = ⊥
IsChange (Anchor checkpoint tail) = ⊥

-- the payload is a Change of the id from this image
abbrev pub IsChangeFrom : Rid → Image → Payload → Type 0
IsChangeFrom id image (Change changed before after) = (changed ≡ id) × (before ≡ image)
IsChangeFrom id image (Compensation changed after undo_next) = ⊥
IsChangeFrom id image Commit = ⊥
IsChangeFrom id image End = ⊥
IsChangeFrom id image (Prepare global granules) = ⊥
IsChangeFrom id image RollbackDecided = ⊥
IsChangeFrom id image CheckpointBegin = ⊥
IsChangeFrom id image (CheckpointEnd begin next txns dirty) = ⊥
IsChangeFrom id image (Anchor checkpoint tail) = ⊥

-- more transactions have not ended than there may be
abbrev pub IsCrowded : List LogRecord → Type 0
IsCrowded rs = (txns : List LogTxn) × IsTable rs txns × (MAX_TRANSACTIONS < length txns)

-- the log may go on by the record
abbrev pub MayBeNext : Geometry → List LogRecord → LogRecord → Type 0
MayBeNext g before r = IsMeant g before r × (IsCrowded (before ++ r ∷ []) → ⊥)

-- and has come about so
abbrev pub AreMeant : Geometry → List LogRecord → Type 0
AreMeant g rs = (n : ℕ) (r : LogRecord) → slice_get rs n ≡ Some r → MayBeNext g (take n rs) r

-- the records of one transaction mean what they have to
abbrev pub AreMeantOf : Geometry → ℕ → List LogRecord → Type 0
AreMeantOf g t rs = (n : ℕ) (r : LogRecord) → slice_get rs n ≡ Some r → r.txn ≡ t → IsMeant g (take n rs) r

-- the record of this number is the first by which the log may not go on
pub record IsFirstUnmeant (g : Geometry) (rs : List LogRecord) (n : ℕ) : Type 0 where
  pub some : 0 < n
  pub before : AreMeant g (take (n - 1) rs)
  pub here : IsSomeAnd (slice_get rs (n - 1)) (λ r. MayBeNext g (take (n - 1) rs) r → ⊥)

-- a kind that a reader of the log serves
abbrev pub IsServedKind : Payload → Type 0
IsServedKind (Change id was image) = Unit {0}
IsServedKind (Compensation id image undo_next) = Unit {0}
IsServedKind Commit = Unit {0}
IsServedKind End = Unit {0}
IsServedKind (Prepare global granules) = Unit {0}
IsServedKind RollbackDecided = Unit {0}
IsServedKind CheckpointBegin = ⊥
IsServedKind (CheckpointEnd begin next txns dirty) = ⊥
IsServedKind (Anchor checkpoint tail) = ⊥

-- the granules that a record names
abbrev pub granules_in : Payload → List Granule
granules_in (Change id was image) = []
granules_in (Compensation id image undo_next) = []
granules_in Commit = []
granules_in End = []
granules_in (Prepare global granules) = granules
granules_in RollbackDecided = []
granules_in CheckpointBegin = []
granules_in (CheckpointEnd begin next txns dirty) = []
granules_in (Anchor checkpoint tail) = []

-- the next transaction's number that an End names, 0 for any other record
abbrev pub next_in : Payload → ℕ
next_in (Change id was image) = 0
next_in (Compensation id image undo_next) = 0
next_in Commit = 0
next_in End = 0
next_in (Prepare global granules) = 0
next_in RollbackDecided = 0
next_in CheckpointBegin = 0
next_in (CheckpointEnd begin next txns dirty) = next
next_in (Anchor checkpoint tail) = 0

-- a page that an End lists is there, and its recovery number is below the begin's
abbrev pub IsPageListed : Geometry → ℕ → DirtyPage → Type 0
IsPageListed g begin d = HasPage g d.page × (d.recovery < begin)

-- the pages that the record lists may stand in an End's table
abbrev pub ListsInBounds : Geometry → Payload → Type 0
ListsInBounds g (Change id was image) = Unit {0}
ListsInBounds g (Compensation id image undo_next) = Unit {0}
ListsInBounds g Commit = Unit {0}
ListsInBounds g End = Unit {0}
ListsInBounds g (Prepare global granules) = Unit {0}
ListsInBounds g RollbackDecided = Unit {0}
ListsInBounds g CheckpointBegin = Unit {0}
ListsInBounds g (CheckpointEnd begin next txns dirty) = AllByRecursion (IsPageListed g begin) dirty
ListsInBounds g (Anchor checkpoint tail) = Unit {0}

-- No image and no global id is longer than the version allows. An id that the record changes may be one, and so may granules that it names, its transaction has a number that one may have, and so has the next one that it
-- names, and pages that it lists are there.
pub record IsInBounds (g : Geometry) (r : LogRecord) : Type 0 where
  pub number : r.txn < LAST_TXN
  pub next : next_in r.payload ≤ LAST_TXN
  pub sizes : HasSizes g.version r.payload
  pub lists : ListsInBounds g r.payload
  pub id : (id : Rid) → id_in r.payload ≡ Some id → HasSlot g id
  pub granules : AreGranules g (granules_in r.payload)

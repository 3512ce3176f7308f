-- What a record of a log whose front may be cut off has to mean, given the kept records before it, for a restart to work on what is kept. Of a transaction
-- that is whole in what is kept each record is judged as in a whole log. Of one whose front is cut off, and of a checkpoint's End, it is asked what the numbers
-- name that are kept; and that the transaction has ended, which the end of what is kept tells.
use Rattle.std.specs.Prelude.{◌≡◌, ◌<◌, ◌≤◌, ◌+◌, ◌-◌, ◌++◌, ◌&&◌, ◌||◌, ℕ, List, [], ◌∷◌, Bool, true, false, Some, All, IsTrue, IsSomeAnd, filter, if◌then◌else◌, length, map, nat_le, nat_lt, slice_get, take}
use Rattle.std.specs.List.{AllByRecursion}
use Rattle.shore_types.specs.Layout.{HasPage, HasSlot}
use Rattle.shore_types.specs.declared.layout.Geometry.{Geometry}
use Rattle.shore_types.specs.declared.layout.TheConstants.{LAST_TXN, MAX_TRANSACTIONS}
use Rattle.shore_model.specs.declared.log_records.DirtyPage.{DirtyPage}
use Rattle.shore_model.specs.declared.log_records.LogRecord.{LogRecord}
use Rattle.shore_model.specs.declared.log_records.LogTxn.{LogTxn}
use Rattle.shore_model.specs.declared.log_records.Payload.{Payload}
use Rattle.shore_model.specs.declared.log_records.Payload.TheVariants.{Change, Compensation, Commit, End, Prepare, RollbackDecided, CheckpointBegin, CheckpointEnd, Anchor}
use Rattle.shore_model.specs.Logs.{is_over, is_prepare, is_prepared, rise_above}
use Rattle.laws_checkpoints.specs.KeptLogs.{IsKeptUnended, kept_last_of, kept_records_of}
use Rattle.laws_checkpoints.specs.KeptTables.{IsKeptTable, NamesKept}
use Rattle.laws_checkpoints.specs.MeantBehind.{IsCutOff, IsMeantWhole, first_previous}
use Rattle.shore_analysis.specs.Meant.{AreGranules, IsChange}
use Rattle.shore_analysis.specs.Sizes.{HasSizes}

-- ---- bounds: what a record with this number asks by itself, beside numbers that name records before it

pub record IsEntryInBounds (n : ℕ) (e : LogTxn) : Type 0 where
  pub is_one : 0 < e.txn
  pub number : e.txn < LAST_TXN
  pub prepare : e.prepare < n

pub record IsPageInBounds (g : Geometry) (n : ℕ) (d : DirtyPage) : Type 0 where
  pub there : HasPage g d.page
  pub recovery : d.recovery < n

pub record IsEndInBounds (g : Geometry) (n begin next : ℕ) (txns : List LogTxn) (dirty : List DirtyPage) : Type 0 where
  pub some : 0 < begin
  pub number : next ≤ LAST_TXN
  pub entries : All (IsEntryInBounds n) txns
  pub pages : All (IsPageInBounds g n) dirty

abbrev pub SaysInBounds : Geometry → ℕ → Payload → Type 0
SaysInBounds g n (Change id was image) = HasSlot g id
SaysInBounds g n (Compensation id image undo_next) = HasSlot g id
SaysInBounds g n Commit = Unit {0}
SaysInBounds g n End = Unit {0}
SaysInBounds g n (Prepare global granules) = AreGranules g granules
SaysInBounds g n RollbackDecided = Unit {0}
SaysInBounds g n CheckpointBegin = Unit {0}
SaysInBounds g n (CheckpointEnd begin next txns dirty) = IsEndInBounds g n begin next txns dirty
SaysInBounds g n (Anchor checkpoint tail) = Unit {0}

-- what of that a lawful log does not say
abbrev pub SaysInLimits : Geometry → ℕ → Payload → Type 0
SaysInLimits g n (Change id was image) = HasSlot g id
SaysInLimits g n (Compensation id image undo_next) = HasSlot g id
SaysInLimits g n Commit = Unit {0}
SaysInLimits g n End = Unit {0}
SaysInLimits g n (Prepare global granules) = AreGranules g granules
SaysInLimits g n RollbackDecided = Unit {0}
SaysInLimits g n CheckpointBegin = Unit {0}
SaysInLimits g n (CheckpointEnd begin next txns dirty) = (next ≤ LAST_TXN) × All (IsPageInBounds g n) dirty
SaysInLimits g n (Anchor checkpoint tail) = Unit {0}

pub record IsInLimits (g : Geometry) (n : ℕ) (r : LogRecord) : Type 0 where
  pub number : r.txn < LAST_TXN
  pub says : SaysInLimits g n r.payload
  pub sizes : HasSizes g.version r.payload

-- of each record, by its number
abbrev pub AreInLimits : Geometry → List LogRecord → Type 0
AreInLimits g log = (n : ℕ) (r : LogRecord) → slice_get log n ≡ Some r → IsInLimits g (n + 1) r

-- ---- numbers that name records

abbrev pub IsOf : ℕ → LogRecord → Type 0
IsOf t r = r.txn ≡ t

abbrev pub IsChangeOf : ℕ → LogRecord → Type 0
IsChangeOf t r = (r.txn ≡ t) × IsChange r.payload

abbrev pub IsPrepareOf : ℕ → LogRecord → Type 0
IsPrepareOf t r = (r.txn ≡ t) × (is_prepare r.payload ≡ true)

-- if the record of this number is not cut off, it is there, and is so
abbrev pub NamesIfKept : ℕ → List LogRecord → ℕ → (LogRecord → Type 0) → Type 0
NamesIfKept cut before n P = cut < n → NamesKept cut before n P

-- an entry of an End: its numbers that are not cut off are those of records of its transaction, undo-next that of a Change, and of one in doubt that of
-- its Prepare
pub record IsEntryNamed (cut : ℕ) (before : List LogRecord) (e : LogTxn) : Type 0 where
  pub some_first : 0 < e.first
  pub first : NamesIfKept cut before e.first (IsOf e.txn)
  pub some_last : 0 < e.last
  pub last : NamesIfKept cut before e.last (IsOf e.txn)
  pub undo_next : NamesIfKept cut before e.undo_next (IsChangeOf e.txn)
  pub prepare : is_prepared e.state ≡ true → (0 < e.prepare) × NamesIfKept cut before e.prepare (IsPrepareOf e.txn)

-- ---- what is judged at once

-- the transaction is whole in what is kept: its first record there names none before it
abbrev pub IsWholeIn : ℕ → List LogRecord → ℕ → Type 0
IsWholeIn cut kept t = first_previous (kept_records_of cut t kept) ≡ 0

-- what a record of a transaction says whose front is cut off
abbrev pub SaysCutOff : ℕ → List LogRecord → ℕ → Payload → Type 0
SaysCutOff cut before t (Change id was image) = Unit {0}
SaysCutOff cut before t (Compensation id image undo_next) = NamesIfKept cut before undo_next (IsChangeOf t)
SaysCutOff cut before t Commit = Unit {0}
SaysCutOff cut before t End = Unit {0}
SaysCutOff cut before t (Prepare global granules) = Unit {0}
SaysCutOff cut before t RollbackDecided = Unit {0}
SaysCutOff cut before t CheckpointBegin = ⊥
SaysCutOff cut before t (CheckpointEnd begin next txns dirty) = ⊥
SaysCutOff cut before t (Anchor checkpoint tail) = ⊥

pub record IsMeantOfCutOff (cut : ℕ) (before : List LogRecord) (r : LogRecord) : Type 0 where
  pub cut_off : IsCutOff cut (before ++ r ∷ []) r.txn
  pub previous : 0 < kept_last_of cut r.txn before → r.previous ≡ kept_last_of cut r.txn before
  pub says : SaysCutOff cut before r.txn r.payload

-- an End: its begin is there, or cut off; its transactions rise, and each entry names records of its own
pub record IsEndNamed (cut : ℕ) (before : List LogRecord) (begin : ℕ) (txns : List LogTxn) : Type 0 where
  pub begins : NamesIfKept cut before begin (λ r. r.payload ≡ CheckpointBegin)
  pub rising : IsTrue (rise_above 0 txns)
  pub each : All (IsEntryNamed cut before) txns

abbrev pub SaysOfCheckpoint : ℕ → List LogRecord → Payload → Type 0
SaysOfCheckpoint cut before CheckpointBegin = Unit {0}
SaysOfCheckpoint cut before (CheckpointEnd begin next txns dirty) = IsEndNamed cut before begin txns
SaysOfCheckpoint cut before (Anchor checkpoint tail) = Unit {0}
SaysOfCheckpoint cut before (Change id was image) = ⊥
SaysOfCheckpoint cut before (Compensation id image undo_next) = ⊥
SaysOfCheckpoint cut before Commit = ⊥
SaysOfCheckpoint cut before End = ⊥
SaysOfCheckpoint cut before (Prepare global granules) = ⊥
SaysOfCheckpoint cut before RollbackDecided = ⊥

pub record IsMeantNow (g : Geometry) (cut : ℕ) (before : List LogRecord) (r : LogRecord) : Type 0 where
  pub number : r.txn < LAST_TXN
  pub bounds : SaysInBounds g (cut + 1 + length before) r.payload
  pub sizes : HasSizes g.version r.payload
  pub not_over : 0 < r.txn → is_over r.txn before ≡ false
  pub of_nobody : r.txn ≡ 0 → (r.previous ≡ 0) × SaysOfCheckpoint cut before r.payload
  pub of_whole : 0 < r.txn → IsWholeIn cut (before ++ r ∷ []) r.txn → IsMeantWhole cut before r
  pub of_cut_off : 0 < r.txn → (IsWholeIn cut (before ++ r ∷ []) r.txn → ⊥) → IsMeantOfCutOff cut before r

-- more transactions have not ended by these kept records than there may be
abbrev pub IsKeptCrowded : ℕ → List LogRecord → Type 0
IsKeptCrowded cut kept = (txns : List LogTxn) × IsKeptTable cut kept txns × (MAX_TRANSACTIONS < length txns)

-- ---- who has to have ended

abbrev pub is_cut_off : ℕ → ℕ → Bool
is_cut_off cut n = nat_lt 0 n && nat_le n cut

-- a number of the entry is that of a record that is cut off
abbrev pub names_cut_off : ℕ → LogTxn → Bool
names_cut_off cut e = is_cut_off cut e.first || is_cut_off cut e.last || is_cut_off cut e.undo_next || (is_prepared e.state && is_cut_off cut e.prepare)

-- the transactions of the entries of which a number is
abbrev pub txns_cut_off : ℕ → List LogTxn → List ℕ
txns_cut_off cut txns = map (λ e. e.txn) (filter (names_cut_off cut) txns)

-- the transactions that an End takes to have ended
abbrev pub listed_cut_off : ℕ → Payload → List ℕ
listed_cut_off cut (CheckpointEnd begin next txns dirty) = txns_cut_off cut txns
listed_cut_off cut (Change id was image) = []
listed_cut_off cut (Compensation id image undo_next) = []
listed_cut_off cut Commit = []
listed_cut_off cut End = []
listed_cut_off cut (Prepare global granules) = []
listed_cut_off cut RollbackDecided = []
listed_cut_off cut CheckpointBegin = []
listed_cut_off cut (Anchor checkpoint tail) = []

-- the record is of a transaction whose front is cut off
abbrev pub is_own_cut_off : ℕ → List LogRecord → LogRecord → Bool
is_own_cut_off cut before r = nat_lt 0 r.txn && nat_lt 0 (first_previous (kept_records_of cut r.txn (before ++ r ∷ [])))

-- that one
abbrev pub own_cut_off : ℕ → List LogRecord → LogRecord → List ℕ
own_cut_off cut before r = if is_own_cut_off cut before r then r.txn ∷ [] else []

abbrev pub to_have_ended : ℕ → List LogRecord → LogRecord → List ℕ
to_have_ended cut before r = own_cut_off cut before r ++ listed_cut_off cut r.payload

abbrev pub HaveEnded : ℕ → List LogRecord → List ℕ → Type 0
HaveEnded cut kept txns = AllByRecursion (λ t. IsKeptUnended cut kept t → ⊥) txns

-- ---- the log

-- the kept record at this place, given those before it, and in the end all
pub record MayBeKept (g : Geometry) (cut : ℕ) (kept : List LogRecord) (n : ℕ) (r : LogRecord) : Type 0 where
  pub now : IsMeantNow g cut (take n kept) r
  pub few : IsKeptCrowded cut (take n kept ++ r ∷ []) → ⊥
  pub ended : HaveEnded cut kept (to_have_ended cut (take n kept) r)

abbrev pub AreMeantKept : Geometry → ℕ → List LogRecord → Type 0
AreMeantKept g cut kept = (n : ℕ) (r : LogRecord) → slice_get kept n ≡ Some r → MayBeKept g cut kept n r

-- the record of this number is the first that may not be there
pub record IsFirstUnmeantKept (g : Geometry) (cut : ℕ) (kept : List LogRecord) (number : ℕ) : Type 0 where
  pub behind : cut < number
  pub before : (n : ℕ) (r : LogRecord) → cut + 1 + n < number → slice_get kept n ≡ Some r → MayBeKept g cut kept n r
  pub here : IsSomeAnd (slice_get kept (number - (cut + 1))) (λ r. MayBeKept g cut kept (number - (cut + 1)) r → ⊥)

-- Those in doubt in a log, as a restart gives back what is theirs: whether they can all hold their locks, what the log owes them, and what pages keep for their
-- rollbacks. All of it is a function of the log.
use Rattle.std.specs.Prelude.{◌≡◌, ◌⊎◌, ◌+◌, ◌-◌, ◌<◌, ◌++◌, ℕ, List, [], ◌∷◌, Contains, Option, Some, if◌then◌else◌, map, option_map, slice_get, true}
use Rattle.std.specs.List.{AllByRecursion, sum_by}
use Rattle.std.specs.Ordering.{eq_by_cmp}
use Rattle.shore_types.specs.Ids.{page_cmp}
use Rattle.shore_types.specs.Images.{Image, image_len}
use Rattle.shore_types.specs.declared.ids.PageId.{PageId}
use Rattle.shore_types.specs.declared.ids.Rid.{Rid}
use Rattle.shore_types.specs.declared.layout.Geometry.{Geometry}
use Rattle.shore_types.specs.declared.layout.TheConstants.{ENDING_COST}
use Rattle.shore_types.specs.declared.locking.Granule.{Granule}
use Rattle.shore_types.specs.declared.locking.Mode.TheVariants.{EX, IX}
use Rattle.shore_types.specs.declared.versions.Version.{Version}
use Rattle.shore_model.specs.declared.holds.Hold.{Hold}
use Rattle.shore_model.specs.declared.log_records.LogRecord.{LogRecord}
use Rattle.shore_model.specs.declared.log_records.LogTxn.{LogTxn}
use Rattle.shore_model.specs.declared.log_records.Payload.TheVariants.{Change}
use Rattle.shore_model.specs.declared.unanswered_changes.UnansweredChange.{UnansweredChange}
use Rattle.shore_model.specs.Locks.{HoldsAtLeast, OnOnePath, ancestors}
use Rattle.shore_model.specs.Logs.{HasNumbers, prepare_number, unanswered}
use Rattle.shore_page.specs.Claims.{FitIn, claimed_by}
use Rattle.shore_heap.specs.Contents.{CanKeep}
use Rattle.laws_lives.specs.Doubts.{LoggedDoubt, NeedMore, undo_in}
use Rattle.laws_lives.specs.Sessions.{PreparedTxn, SessionTxn}
use Rattle.laws_lives.specs.Views.{IsAmong}
use Rattle.laws_room.specs.LogRooms.{compensation_costs}
use Rattle.laws_runs.specs.SlotCounts.{slots_left}
use Rattle.shore_analysis.specs.Doubts.{doubts_left, said_at}
use Rattle.shore_analysis.specs.AnchoredMeant.{AreMeantAnchored, IsFirstUnmeantAnchored}
use Rattle.shore_analysis.specs.Padded.{padded}

-- the entries are those of the ones in doubt, in the order of their Prepares, each with its numbers
pub record AreEntriesOfDoubts (log : List LogRecord) (entries : List LogTxn) : Type 0 where
  pub order : map (λ e. e.txn) entries ≡ map (λ d. d.txn) (doubts_left log)
  pub numbers : AllByRecursion (HasNumbers log) entries

-- the name that the Prepare of this number gives, if its record is one
abbrev pub name_at : List LogRecord → ℕ → Option (List ℕ)
name_at log n = option_map (λ said. said.0) (said_at log n)

-- the record of this number is a Change of the id from this image
abbrev pub IsChangeAt : List LogRecord → ℕ → Rid → Image → Type 0
IsChangeAt log n id before = (0 < n) × ((r : LogRecord) × (after : Image) × (slice_get log (n - 1) ≡ Some r) × (r.payload ≡ Change id before after))

-- ---- as a table of transactions has them

-- one in doubt, with the undo list that the log gives it: no session is in it, and session 0 stands for none
abbrev pub undo_told : List LogRecord → LoggedDoubt → SessionTxn
undo_told log d = record { session = 0; txn = d.txn; undo = undo_in log d.txn }

abbrev pub undos_told : List LogRecord → List SessionTxn
undos_told log = map (undo_told log) (doubts_left log)

-- it counts as answered
abbrev pub prepared_as : LoggedDoubt → PreparedTxn
prepared_as d = record { txn = d.txn; global = d.global; answered = true }

abbrev pub prepared_told : List LogRecord → List PreparedTxn
prepared_told log = map prepared_as (doubts_left log)

-- what is reserved for one: its undo and its ending, and a second ending, since a rollback of it logs a Rollback decided besides
abbrev pub owed_in : List LogRecord → ℕ → ℕ
owed_in log t = ENDING_COST + compensation_costs (undo_in log t).images + ENDING_COST

-- .. for all of them
abbrev pub reserved_told : List LogRecord → ℕ
reserved_told log = sum_by (λ d. owed_in log d.txn) (doubts_left log)

-- ---- whether they can all hold what is theirs

-- Two have one global id, or a granule of one lies on the path of a granule of the other. Only one of them can hold what is its.
abbrev pub Clash : LoggedDoubt → LoggedDoubt → Type 0
Clash d e = (d.global ≡ e.global) ⊎ ((g : Granule) × (h : Granule) × Contains d.granules g × Contains e.granules h × OnOnePath g h)

-- behind these one finds no place in a table of so many nodes: it clashes with one of them, or all their locks have more nodes
abbrev pub HasNoPlace : ℕ → List LoggedDoubt → LoggedDoubt → Type 0
HasNoPlace limit before d = ((e : LoggedDoubt) × IsAmong e before × Clash e d) ⊎ NeedMore limit (before ++ d ∷ [])

-- each finds its place behind those before it
abbrev pub CanHold : ℕ → List LoggedDoubt → Type 0
CanHold limit ds = (before later : List LoggedDoubt) (d : LoggedDoubt) → ds ≡ before ++ d ∷ later → HasNoPlace limit before d → ⊥

-- the record of this number is the Prepare of the first that finds none
pub record CannotHold (limit : ℕ) (log : List LogRecord) (n : ℕ) : Type 0 where
  pub before : List LoggedDoubt
  pub doubt : LoggedDoubt
  pub later : List LoggedDoubt
  pub order : doubts_left log ≡ before ++ doubt ∷ later
  pub number : n ≡ prepare_number doubt.txn log
  pub first : CanHold limit before
  pub no_place : HasNoPlace limit before doubt

-- ---- what a log says of itself

-- a restart may work on the records that are kept behind so many, of a log whose anchor names this checkpoint: they mean what they have to, and those in doubt can all hold
-- what is theirs
abbrev pub IsTaken : Geometry → ℕ → ℕ → List LogRecord → Type 0
IsTaken g cut checkpoint kept = AreMeantAnchored g cut checkpoint kept × CanHold g.max_locks (doubts_left (padded cut kept))

-- it may not, by the record of this number: the first that does not mean what it has to, or if all do, the Prepare of the first in doubt that finds no place
abbrev pub IsRefusedBy : Geometry → ℕ → ℕ → List LogRecord → ℕ → Type 0
IsRefusedBy g cut checkpoint kept n = IsFirstUnmeantAnchored g cut checkpoint kept n ⊎ (AreMeantAnchored g cut checkpoint kept × CannotHold g.max_locks (padded cut kept) n)

-- ---- their locks

-- the lock is one on a granule that one of these names, or one above it
abbrev pub IsLockOf : List LoggedDoubt → Hold → Type 0
IsLockOf ds h = (d : LoggedDoubt) × (g : Granule) × IsAmong d ds × (h.txn ≡ d.txn) × Contains d.granules g
    × (((h.mode ≡ EX) × (h.granule ≡ g)) ⊎ ((h.mode ≡ IX) × Contains (ancestors g) h.granule))

-- Of those in doubt these have got theirs so far, and nobody holds anything else: with all of them it is `AreRestored`.
pub record AreLocksOf (ds : List LoggedDoubt) (held : List Hold) : Type 0 where
  pub each : (h : Hold) → Contains held h → IsLockOf ds h
  pub all : (d : LoggedDoubt) (g : Granule) → IsAmong d ds → Contains d.granules g → HoldsAtLeast held d.txn EX g
  pub above : (d : LoggedDoubt) (g a : Granule) → IsAmong d ds → Contains d.granules g → Contains (ancestors g) a → HoldsAtLeast held d.txn IX a

-- ---- what pages keep for their rollbacks

-- their Changes that no Compensation has answered: those of the first Prepare first, and of each the newest first
abbrev pub changes_of : List LogRecord → List LoggedDoubt → List UnansweredChange
changes_of log [] = []
changes_of log (d ∷ ds) = unanswered d.txn log ++ changes_of log ds

abbrev pub changes_in_doubt : List LogRecord → List UnansweredChange
changes_in_doubt log = changes_of log (doubts_left log)

-- what may come back to the slots of a page by some Changes: the first of them last, since the last of such a list is reserved first
abbrev pub claims_of : PageId → List UnansweredChange → List (ℕ × ℕ)
claims_of p [] = []
claims_of p (c ∷ cs) = claims_of p cs ++ (if eq_by_cmp page_cmp p c.id.page then (c.id.slot, image_len c.before) ∷ [] else [])

-- The record of this number is the first of those Changes whose image before does not fit its page any more, as the log leaves that and with what is kept there
-- for those before it.
pub record IsUnkept (v : Version) (log : List LogRecord) (n : ℕ) : Type 0 where
  pub kept : List UnansweredChange
  pub change : UnansweredChange
  pub later : List UnansweredChange
  pub order : changes_in_doubt log ≡ kept ++ change ∷ later
  pub number : n ≡ change.number
  pub first : (p : PageId) → FitIn v (claims_of p kept) (slots_left log p)
  pub no_room : CanKeep v (claimed_by (claims_of change.id.page kept) (slots_left log change.id.page)) change.id.slot (image_len change.before) → ⊥

-- What an open is refused with, beside a failure of a device or of an allocation.
use Rattle.std.specs.Prelude.{◌≡◌, ◌⊎◌, ◌+◌, ◌≤◌, ◌-◌, ◌∷◌, [], ℕ, List, IfSome, length, take}
use Rattle.shore_types.specs.declared.faults.Device.TheVariants.{Log, Volume}
use Rattle.shore_types.specs.declared.faults.Fault.{Fault}
use Rattle.shore_types.specs.declared.faults.Fault.TheVariants.{Damaged}
use Rattle.shore_types.specs.Layout.{HasPage}
use Rattle.shore_types.specs.declared.ids.PageId.{PageId}
use Rattle.shore_types.specs.declared.layout.Geometry.{Geometry}
use Rattle.shore_types.specs.declared.layout.TheConstants.{LOG_FRONT_BYTES}
use Rattle.shore_disk.specs.Device.{DeviceHistory, seen, size}
use Rattle.shore_gate.specs.Anchor.{offset_of}
use Rattle.shore_gate.specs.declared.anchors.Anchor.{Anchor}
use Rattle.shore_gate.specs.declared.anchors.Anchors.{Anchors}
use Rattle.shore_gate.specs.declared.gates.TheConstants.{OPEN}
use Rattle.shore_model.specs.declared.log_records.LogRecord.{LogRecord}
use Rattle.shore_frames.specs.Frames.{GivesFrom}
use Rattle.shore_frames.specs.Offsets.{IsBadAt, IsFrameOf}
use Rattle.shore_dwrite.specs.Checks.{RefusesArea}
use Rattle.shore_dwrite.specs.Shown.{Shows}
use Rattle.shore_dwrite.specs.Volumes.{HasNoPage, page_number, page_offset, part}
use Rattle.shore_dwrite.specs.declared.places.TheConstants.{GATE_AT}
use Rattle.shore_fronts.specs.Pairs.{HaveFronts, RefusesFronts}
use Rattle.laws_lives.specs.Pages.{AreAsOfOwnNumbers, LoggedPages, PagesLackNone}
use Rattle.laws_checkpoints.specs.Checkpoints.{TableIsRight, cut_of, end_among, redo_behind}
use Rattle.laws_heaps.specs.LoggedHeaps.{LeavesStore}
use Rattle.shore_analysis.specs.KeptTables.{redo_table}
use Rattle.shore_analysis.specs.Padded.{padded}
use Rattle.shore_restart.specs.Anchors.{EndsBehind, HasCheckpoint}
use Rattle.shore_restart.specs.AnyPages.{IsMisfitOn, MayRead, due_seen}
use Rattle.shore_restart.specs.Doubts.{IsRefusedBy, IsTaken}
use Rattle.shore_restart.specs.Turns.{IsMisfit, LacksRoom}
use Rattle.laws_images.specs.StandsBehind.{StandsForBehind, anchored_by, kept_behind}

-- how many first records are cut off behind the anchor
abbrev pub cut_behind : Anchor → ℕ
cut_behind anchor = cut_of (anchored_by anchor)

-- The kept records are the end of this log, of which the volume shows these pages, each as the log speaks of it: whoever has a record that is cut off has ended, and runs
-- by the others no more; the anchored checkpoint is found among what is kept, its table is right of the pages, and they lack no record before that with which redo begins, which is kept.
pub record ShowsLogged (g : Geometry) (anchor : Anchor) (kept rs : List LogRecord) (pages : LoggedPages) (image : List ℕ) : Type 0 where
  pub within : cut_behind anchor ≤ length rs
  pub kept_are : kept_behind anchor rs ≡ kept
  pub shown : LeavesStore rs g (take GATE_AT image) pages image
  pub as_of : AreAsOfOwnNumbers rs pages
  pub ended : EndsBehind (cut_behind anchor) rs
  pub found : end_among anchor.checkpoint rs ≡ end_among anchor.checkpoint kept
  pub right : IfSome (end_among anchor.checkpoint rs) (λ c. TableIsRight rs c.begin c.dirty pages)
  pub begins : cut_behind anchor ≤ redo_behind (end_among anchor.checkpoint rs)
  pub inside : redo_behind (end_among anchor.checkpoint rs) ≤ length rs
  pub redo : PagesLackNone rs (redo_behind (end_among anchor.checkpoint rs)) pages

-- Over the pages as the volume shows them record n is the first of those that are due that finds no room on its page behind the records before it. Or all find room, and what its
-- undo brings back is the first that finds none, behind the records of undo so far; or, if all of that do and nobody is left to be undone, it is the first of those in
-- doubt whose image before finds none.
abbrev pub IsMisfitShown : Geometry → Anchor → List LogRecord → DeviceHistory → ℕ → Type 0
IsMisfitShown g anchor kept volume n =
    (texts : ℕ → List ℕ) × Shows g (seen volume) texts
    × IsMisfitOn g texts (padded (cut_behind anchor) kept) (due_seen (redo_table (end_among anchor.checkpoint kept)) (cut_behind anchor) kept) n

-- Why record n is named: what is kept is refused by it for what it says of itself. Or it is taken, and over the pages as the volume shows them the record finds no room;
-- over pages as a log speaks of them that ends so, the log alone says so.
abbrev pub IsNamedFor : Geometry → Anchor → List LogRecord → DeviceHistory → ℕ → Type 0
IsNamedFor g anchor kept volume n = IsRefusedBy g (cut_behind anchor) anchor.checkpoint kept n
    ⊎ (IsTaken g (cut_behind anchor) anchor.checkpoint kept × IsMisfitShown g anchor kept volume n
    × ((rs : List LogRecord) (pages : LoggedPages) → ShowsLogged g anchor kept rs pages (seen volume) → IsMisfit g.version rs n))

-- by such a record of the log: its frame is at the offset, on the log device as it is handed back
abbrev pub NamesRecord : Geometry → Anchor → List LogRecord → DeviceHistory → DeviceHistory → Fault → Type 0
NamesRecord g anchor kept volume left fault =
    (n : ℕ) × (offset : ℕ) × (anchor.tail ≤ n) × (n ≤ cut_behind anchor + length kept) × (fault ≡ Damaged Log offset)
    × IsFrameOf anchor.tail anchor.tail_place (seen left) n offset × IsNamedFor g anchor kept volume n

-- by the anchor that counts: what is kept does not have its checkpoint's begin and End; or a restart may work on what is kept, which lacks room for itself and what those in
-- doubt have reserved, or for the records of undo besides
abbrev pub NamesAnchor : Geometry → Anchors → List LogRecord → ℕ → Fault → Type 0
NamesAnchor g counting kept stream_bytes fault = (fault ≡ Damaged Log (offset_of counting.slot))
    × ((HasCheckpoint (cut_behind counting.anchor) counting.anchor.checkpoint kept → ⊥)
    ⊎ (HasCheckpoint (cut_behind counting.anchor) counting.anchor.checkpoint kept × IsTaken g (cut_behind counting.anchor) counting.anchor.checkpoint kept × LacksRoom (cut_behind counting.anchor) kept stream_bytes))

-- by a page: a restart may work on what is kept, and read the page, and what the volume shows as that is no text of it with a number up to the log's last
abbrev pub NamesPage : Geometry → Anchor → List LogRecord → DeviceHistory → Fault → Type 0
NamesPage g anchor kept volume fault = IsTaken g (cut_behind anchor) anchor.checkpoint kept × (pages : ℕ → List ℕ) × Shows g (seen volume) pages
    × ((id : PageId) × HasPage g id × MayRead (cut_behind anchor) anchor.checkpoint kept id × (fault ≡ Damaged Volume (page_offset g.version (page_number g id))) × HasNoPage g.version (pages (page_number g id)) id (cut_behind anchor + length kept))

-- From the anchor's tail on the frames give a log, and no restart may be handed it with what the volume shows: the devices stand for no log and pages behind the anchor.
-- It is told by a record, by the anchor or by a page.
pub record RefusesRestart (g : Geometry) (counting : Anchors) (log volume left : DeviceHistory) (fault : Fault) : Type 0 where
  pub kept : List LogRecord
  pub gives : GivesFrom counting.anchor.tail counting.anchor.tail_place kept (seen log)
  pub none : (rs : List LogRecord) (pages : LoggedPages) → StandsForBehind g (size log) (size volume) counting.anchor rs pages (seen log) (seen volume) → ⊥
  pub names : NamesRecord g counting.anchor kept volume left fault ⊎ NamesAnchor g counting kept (size log - LOG_FRONT_BYTES) fault ⊎ NamesPage g counting.anchor kept volume fault

-- By the first check of the fronts that is not passed; if all are, by the first byte of the log, from the anchor's tail on, where neither a closed gate nor a frame stands;
-- if there is none, by an open double-write area that is not in order; and if it is, or is shut, by the restart, and only if the devices stand for nothing.
-- The log device that is handed back is left with these calls.
abbrev pub RefusesOpen : DeviceHistory → DeviceHistory → DeviceHistory → Fault → Type 0
RefusesOpen log volume left fault =
    RefusesFronts log volume fault
    ⊎ ((g : Geometry) × (counting : Anchors) × HaveFronts g counting log volume
    × (((offset : ℕ) × (fault ≡ Damaged Log offset) × IsBadAt counting.anchor.tail counting.anchor.tail_place (seen log) offset)
    ⊎ ((part GATE_AT 1 (seen volume) ≡ OPEN ∷ []) × RefusesArea g (seen volume) fault)
    ⊎ RefusesRestart g counting log volume left fault))

-- What a restart gives back to those in doubt: in the table of transactions, in the lock table, and on the pages.
use Rattle.std.specs.Prelude.{◌≡◌, ◌⊎◌, ◌<◌, ◌++◌, ◌∷◌, [], ℕ, List, None, Option, Some, Result, IfOk, OnOk, false, length, map, reverse}
use Rattle.shore_types.specs.Images.{Image, image_len}
use Rattle.shore_types.specs.Layout.{HasPage}
use Rattle.shore_types.specs.declared.ids.PageId.{PageId}
use Rattle.shore_types.specs.declared.layout.Geometry.{Geometry}
use Rattle.shore_types.specs.declared.versions.Version.{Version}
use Rattle.shore_disk.specs.declared.device.Disk.{Ghosts}
use Rattle.shore_dwrite.specs.Volumes.{page_number}
use Rattle.shore_model.specs.declared.log_records.LogRecord.{LogRecord}
use Rattle.shore_model.specs.Logs as logs
use Rattle.shore_model.specs.Logs.{prepare_number, unanswered}
use Rattle.shore_model.specs.Requests.{held_by_all}
use Rattle.shore_log.specs.declared.device.LogDev.{LogDev}
use Rattle.shore_locks.specs.Orderly.{IsOrderly}
use Rattle.shore_locks.specs.Tables.{Table}
use Rattle.shore_path.specs.Restoring.{NobodyWaits}
use Rattle.shore_path.specs.Rooted.{AreRooted}
use Rattle.shore_page.specs.Slots.{Slot, settled}
use Rattle.shore_page.specs.Text.{IsPageText, images_of}
use Rattle.shore_pool.specs.declared.frame.Frame.{Frame}
use Rattle.shore_pool.specs.Pools.{PoolHolds}
use Rattle.shore_heap.specs.declared.heap.Heap.{Heap}
use Rattle.shore_heap.specs.Contents.{AreBounds, CanKeep, ClaimsOfPages, FitIn, KeepWhatFits, claimed_by}
use Rattle.shore_heap.specs.Heaps as heaps
use Rattle.shore_heap.specs.Heaps.{Shows}
use Rattle.laws_lives.specs.Doubts.{LoggedDoubt}
use Rattle.laws_lives.specs.Recovery.{CrashMayLeave, IsRecoverable, RecoveryState}
use Rattle.laws_lives.specs.Views.{IsAmong}
use Rattle.laws_heaps.specs.LoggedHeaps.{IsStoreOf}
use Rattle.shore_gate.specs.declared.anchors.Anchor.{Anchor}
use Rattle.laws_images.specs.Moments.{Moment}
use Rattle.laws_images.specs.MomentsBehind.{PathBehind}
use Rattle.shore_txn.specs.ActiveTxns.{all_changes}
use Rattle.shore_txn.specs.Transactions as table
use Rattle.shore_txn.specs.Txns.{KeepsName, decided_of, entries_of, first_of, global_of, last_of, marks_of, number_of, prepare_of, state_of}
use Rattle.shore_txn.specs.UndoEntries.{HaveClaims, claims_on}
use Rattle.shore_txn.specs.declared.transactions.Transactions.{Transactions}
use Rattle.shore_txn.specs.declared.txn.Txn.{Txn}
use Rattle.shore_txn.specs.declared.txn_state.TxnState.TheVariants as state
use Rattle.shore_txn.specs.declared.undo.UndoEntry.{UndoEntry}
use Rattle.shore_sessions.specs.declared.control.Control.{Control}
use Rattle.shore_sessions.specs.Controls.{locks_in, txns_in, waits_in}
use Rattle.shore_sessions.specs.Standing.{as_change}
use Rattle.shore_restart.specs.declared.errors.RestartError.{RestartError}
use Rattle.shore_restart.specs.declared.passes.Passed.{Passed}
use Rattle.shore_restart.specs.AnyPages.{IsMadeOf, ReadPage}
use Rattle.shore_analysis.specs.Doubts.{doubts_left}
use Rattle.shore_restart.specs.Doubts.{AreLocksOf}
use Rattle.shore_restart.specs.Turns.{IsUndoneSoFar}
use Rattle.shore_restart.specs.Standing.{IsAtRest, Notes, SameInPlace, Worked, log_history, moment_of}

-- ---- transactions

-- The entries are a transaction's Changes in this log that no Compensation has answered, the oldest first. Each has the claim that its slot had before it.
pub record AreEntriesOf (log : List LogRecord) (t : ℕ) (entries : List UndoEntry) : Type 0 where
  pub changes : unanswered t log ≡ reverse (map as_change entries)
  pub claims : HaveClaims entries

-- A transaction that had no change has those that are to be undone, and is else as it was: it keeps the number of its first record, if it had one.
pub record HasChangesBack (log : List LogRecord) (old new : Txn) : Type 0 where
  pub txn : number_of new ≡ number_of old
  pub session : new.session ≡ old.session
  pub name : KeepsName old new
  pub first : 0 < first_of old → first_of new ≡ first_of old
  pub entries : AreEntriesOf log (number_of old) (entries_of new)
  pub marks : marks_of new ≡ marks_of old
  pub state : state_of new ≡ state_of old

-- The transaction is one in doubt, as its Prepare left it: it waits for its decision under its name, and no session is in it.
pub record IsGivenBack (log : List LogRecord) (d : LoggedDoubt) (t : Txn) : Type 0 where
  pub txn : number_of t ≡ d.txn
  pub session : t.session ≡ 0
  pub unseated : t.is_seated ≡ false
  pub first : first_of t ≡ logs.first_of d.txn log
  pub last : last_of t ≡ prepare_number d.txn log
  pub prepare : prepare_of t ≡ prepare_number d.txn log
  pub entries : AreEntriesOf log d.txn (entries_of t)
  pub marks : marks_of t ≡ []
  pub waits : state_of t ≡ state.Prepared
  pub global : global_of t ≡ Some d.global
  pub decided : decided_of t ≡ 0

-- one after another
abbrev pub AreGivenBack : List LogRecord → List LoggedDoubt → List Txn → Type 0
AreGivenBack log [] [] = Unit {0}
AreGivenBack log [] (t ∷ ts) = ⊥
AreGivenBack log (d ∷ ds) [] = ⊥
AreGivenBack log (d ∷ ds) (t ∷ ts) = IsGivenBack log d t × AreGivenBack log ds ts

-- the table has those in doubt and nobody else: that of the first Prepare is the newest
abbrev pub HasDoubts : List LogRecord → Transactions → Type 0
HasDoubts log txns = AreGivenBack log (doubts_left log) (table.txns_in txns)

-- ---- locks

-- The table, of so many nodes at most, has the locks of those in doubt and no others, and nobody waits in it.
pub record HasLocksBack (limit : ℕ) (log : List LogRecord) (locks : Table) : Type 0 where
  pub limit_is : locks.limit ≡ limit
  pub restored : AreLocksOf (doubts_left log) (held_by_all locks.requests)
  pub nobody_waits : NobodyWaits locks.requests
  pub rooted : AreRooted locks.requests
  pub orderly : IsOrderly locks.requests

-- ---- both

-- no call waits, nobody is under way but those in doubt, and nobody has a lock but they
pub record HasDoubtsBack (limit : ℕ) (log : List LogRecord) (control : Control) : Type 0 where
  pub txns : HasDoubts log (txns_in control)
  pub locks : HasLocksBack limit log (locks_in control)
  pub waits : waits_in control ≡ []

-- ---- pages

-- Each of these slots claims what its record takes, and there is room for what may come back to them, one after another, the last of the list first.
pub record HaveRoom (v : Version) (kept : List (ℕ × ℕ)) (slots : List Slot) : Type 0 where
  pub bare : slots ≡ map settled (images_of slots)
  pub fit : FitIn v kept slots

-- What a page claims while claims are kept, the newest first: in a frame these so far, or what found room of all of them as it was read; on the volume what its
-- records take.
abbrev pub ClaimsSoFar : Version → Option Frame → List ℕ → PageId → List (ℕ × ℕ) → List (ℕ × ℕ) → List Slot → Type 0
ClaimsSoFar v (Some f) text p all so_far slots = (f.page.slots ≡ claimed_by so_far slots) ⊎ KeepWhatFits v all slots f.page.slots
ClaimsSoFar v None text p all so_far slots = (number : ℕ) × (images : List Image) × IsPageText v text p number images × (slots ≡ map settled images)

-- one of the changes is of this page
abbrev pub AreOfPage : List UndoEntry → PageId → Type 0
AreOfPage changes p = (e : UndoEntry) × IsAmong e changes × (p ≡ e.id.page)

-- The change of this number is the first, the newest of the table first, whose image before does not fit its page any more beside what is kept for the newer
-- ones, if pages have these slots.
pub record CannotKeep (v : Version) (txns : Transactions) (slots : PageId → List Slot) (n : ℕ) : Type 0 where
  pub older : List UndoEntry
  pub entry : UndoEntry
  pub newer : List UndoEntry
  pub order : all_changes (table.txns_in txns) ≡ older ++ entry ∷ newer
  pub number : n ≡ entry.lsn
  pub first : (p : PageId) → FitIn v (claims_on p newer) (slots p)
  pub no_room : CanKeep v (claimed_by (claims_on entry.id.page newer) (slots entry.id.page)) entry.id.slot (image_len entry.before) → ⊥

-- .. if pages are what these records make of these texts
pub record CannotKeepOn (g : Geometry) (txns : Transactions) (texts : ℕ → List ℕ) (log : List LogRecord) (n : ℕ) : Type 0 where
  pub older : List UndoEntry
  pub entry : UndoEntry
  pub newer : List UndoEntry
  pub order : all_changes (table.txns_in txns) ≡ older ++ entry ∷ newer
  pub number : n ≡ entry.lsn
  pub first : (p : PageId) (page : ReadPage) → HasPage g p → IsMadeOf g.version (texts (page_number g p)) log p page → FitIn g.version (claims_on p newer) (map settled page.images)
  pub page : ReadPage
  pub made : IsMadeOf g.version (texts (page_number g entry.id.page)) log entry.id.page page
  pub no_room : CanKeep g.version (claimed_by (claims_on entry.id.page newer) (map settled page.images)) entry.id.slot (image_len entry.before) → ⊥

-- what all changes of the table may put back has room on each page, if pages are what these records make of these texts
abbrev pub CanKeepOn : Geometry → Transactions → (ℕ → List ℕ) → List LogRecord → Type 0
CanKeepOn g txns texts log = (p : PageId) (page : ReadPage) → HasPage g p → IsMadeOf g.version (texts (page_number g p)) log p page → FitIn g.version (table.kept_in txns p) (map settled page.images)

module _ {V : Type 0} {H : Ghosts V} where
  -- The heap is the store's, over a volume that is settled with these texts of its pages behind this front. Each slot claims what its record takes, and what
  -- may come back to it by these claims, which have room.
  pub record StandsWith (K : ClaimsOfPages) (front : List ℕ) (disk : ℕ → List ℕ) (heap : Heap V H) (s : RecoveryState) : Type 0 where
    pub store : IsStoreOf heap disk s
    pub recoverable : IsRecoverable s
    pub slots : PageId → List Slot
    pub room : (p : PageId) → HasPage (heaps.geometry_of heap) p → HaveRoom (heaps.geometry_of heap).version (K p) (slots p)
    pub shows : Shows K heap front disk (λ p. claimed_by (K p) (slots p))

  -- .. and so far some of all those claims are kept
  pub record StandsSoFar (all so_far : ClaimsOfPages) (slots : PageId → List Slot) (front : List ℕ) (disk : ℕ → List ℕ) (heap : Heap V H) (s : RecoveryState) : Type 0 where
    pub store : IsStoreOf heap disk s
    pub recoverable : IsRecoverable s
    pub holds : PoolHolds heap.pool front disk
    pub bounds : AreBounds (heaps.geometry_of heap) (heaps.bounds_of heap) slots
    pub room : (p : PageId) → HasPage (heaps.geometry_of heap) p → HaveRoom (heaps.geometry_of heap).version (so_far p) (slots p)
    pub pages : (p : PageId) → HasPage (heaps.geometry_of heap) p
        → ClaimsSoFar (heaps.geometry_of heap).version (heaps.frame_of heap p) (disk (page_number (heaps.geometry_of heap) p)) p (all p) (so_far p) (slots p)

  -- Pages may have been written back, as a crash may leave them. If it was not refused, such a thing stands over what is left of them and a store that is the
  -- same but for the volume.
  pub record Keeps (result : Result (Unit {0}) RestartError) (front : List ℕ) (old new : Heap V H) (s : RecoveryState) (Stand : (ℕ → List ℕ) → RecoveryState → Type 0) : Type 0 where
    pub later : RecoveryState
    pub work : Worked front old new s later
    pub same : SameInPlace s later
    pub volume : CrashMayLeave s later.volume
    pub stands : OnOk result ((left : ℕ → List ℕ) × Stand left later)
    pub notes : OnOk result (Notes old new s later)

  -- ---- both devices

  -- what the passes leave: the log device at rest, all of it durable, and a heap with all records done that keeps these claims
  pub record IsRestarted {L : Type 0} {G : Ghosts L} (K : ClaimsOfPages) (log_front front : List ℕ) (anchor : Anchor) (disk : ℕ → List ℕ) (log : LogDev L G) (heap : Heap V H) (s : RecoveryState) : Type 0 where
    pub at_rest : IsAtRest log_front anchor log s
    pub stands : StandsWith K front disk heap s
    pub redone : s.redone ≡ length s.log
    pub durable : s.durable ≡ length s.log

  -- Both devices may have been called, one after another. If it was not refused they are so, over a store, and the claims are those of the ones in doubt.
  pub record PassesMove {L : Type 0} {G : Ghosts L} (result : Result Passed RestartError) (log_front front : List ℕ) (anchor : Anchor) (old_log new_log : LogDev L G) (old new : Heap V H) (s : RecoveryState) : Type 0 where
    pub later : RecoveryState
    pub moments : List Moment
    pub path : PathBehind (heaps.geometry_of old) log_front front anchor (moment_of (log_history old_log) old s) moments (moment_of (log_history new_log) new later)
    pub notes : OnOk result (Notes old new s later)
    pub undone : OnOk result (IsUndoneSoFar s.log later.log)
    pub done : IfOk result (λ left. (disk : ℕ → List ℕ) × IsRestarted (table.kept_in (txns_in left.control)) log_front front anchor disk new_log new later)

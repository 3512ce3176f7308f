-- The one text (encoding) of each log record.
use Rattle.std.specs.Prelude.{◌≡◌, ℕ, ◌+◌, ◌<◌, ◌≤◌, ◌^◌, ◌⊎◌, List, [], ◌∷◌, ◌++◌, length, replicate, Option, Some, None, IfSome, IsSome, IsTrue}
use Rattle.std.specs.List.{All, flat_map}
use Rattle.std.specs.List.Sorted.{IsStrictlySortedBy}
use Rattle.std.specs.declared.cmp.Ordering.{Ordering}
use Rattle.byteorder.specs.Endian.{little_bytes}
use Rattle.shore_types.specs.declared.ids.Rid.{Rid}
use Rattle.shore_types.specs.declared.locking.Granule.{Granule}
use Rattle.shore_types.specs.declared.locking.Granule.TheVariants.{Volume, Store, Page, Record}
use Rattle.shore_types.specs.declared.locking.Level.{Level}
use Rattle.shore_types.specs.declared.locking.Level.TheVariants as level
use Rattle.shore_types.specs.declared.layout.TheConstants.{ENDING_COST, MAX_GLOBAL_ID_BYTES, MAX_POOL_FRAMES, MAX_RECORD_BYTES, MAX_TRANSACTIONS, MOST_MAX_LOCKS}
use Rattle.shore_types.specs.Ids.{page_cmp}
use Rattle.shore_types.specs.Images.{Image}
use Rattle.shore_types.specs.Locking.{granule_cmp, ids_of}
use Rattle.shore_model.specs.declared.log_records.DirtyPage.{DirtyPage}
use Rattle.shore_model.specs.declared.log_records.LogRecord.{LogRecord}
use Rattle.shore_model.specs.declared.log_records.LogTxn.{LogTxn}
use Rattle.shore_model.specs.declared.log_records.TxnState.{TxnState}
use Rattle.shore_model.specs.declared.log_records.TxnState.TheVariants.{Active, Prepared, RollingBack}
use Rattle.shore_model.specs.declared.log_records.Payload.{Payload}
use Rattle.shore_model.specs.declared.log_records.Payload.TheVariants.{Change, Compensation, Commit, End, Prepare, RollbackDecided, CheckpointBegin, CheckpointEnd, Anchor}
use Rattle.shore_model.specs.Logs.{rise_above}

-- the number that the text begins with
abbrev pub kind_of : Payload → ℕ
kind_of (Change id before after) = 1
kind_of (Compensation id after undo_next) = 2
kind_of Commit = 3
kind_of End = 4
kind_of (Prepare global granules) = 5
kind_of RollbackDecided = 6
kind_of CheckpointBegin = 7
kind_of (CheckpointEnd begin next txns dirty) = 8
kind_of (Anchor checkpoint tail) = 9

-- store, page and slot
unfoldable pub rid_text : Rid → List ℕ
rid_text r = little_bytes 4 r.page.store ++ little_bytes 4 r.page.page ++ little_bytes 2 r.slot

-- the number of bytes in n bytes, and the bytes
unfoldable pub string_text : ℕ → List ℕ → List ℕ
string_text n bytes = little_bytes n (length bytes) ++ bytes

-- 0 for absent; 1, and the bytes behind their number, for present
abbrev pub image_text : Image → List ℕ
image_text None = 0 ∷ []
image_text (Some bytes) = 1 ∷ string_text 2 bytes

-- the id, and the images before and after
abbrev pub change_text : Rid → Image → Image → List ℕ
change_text id before after = rid_text id ++ image_text before ++ image_text after

-- the id, the image after, and the number of the Change to be undone next
abbrev pub compensation_text : Rid → Image → ℕ → List ℕ
compensation_text id after undo_next = rid_text id ++ image_text after ++ little_bytes 8 undo_next

abbrev pub level_number : Level → ℕ
level_number level.Volume = 0
level_number level.Store = 1
level_number level.Page = 2
level_number level.Record = 3

-- 11 bytes: the level, and store, page and slot, each 0 below the level
abbrev pub granule_text : Granule → List ℕ
granule_text Volume = level_number level.Volume ∷ replicate 10 0
granule_text (Store s) = level_number level.Store ∷ (little_bytes 4 s ++ replicate 6 0)
granule_text (Page p) = level_number level.Page ∷ (little_bytes 4 p.store ++ little_bytes 4 p.page ++ replicate 2 0)
granule_text (Record r) = level_number level.Record ∷ rid_text r

-- the number of entries in n bytes, and the entries
abbrev pub table_text : {A : Type 0} → ℕ → (A → List ℕ) → List A → List ℕ
table_text n spell entries = little_bytes n (length entries) ++ flat_map spell entries

-- the global id behind its length, and the granules behind their count
abbrev pub prepare_text : List ℕ → List Granule → List ℕ
prepare_text global granules = string_text 1 global ++ table_text 4 granule_text granules

abbrev pub state_number : TxnState → ℕ
state_number Active = 1
state_number Prepared = 2
state_number RollingBack = 3

-- 41 bytes: an entry of a checkpoint's table of transactions
abbrev pub txn_text : LogTxn → List ℕ
txn_text t =
    little_bytes 8 t.txn ++ (state_number t.state ∷ []) ++ little_bytes 8 t.first ++ little_bytes 8 t.last ++ little_bytes 8 t.undo_next
    ++ little_bytes 8 t.prepare

-- 16 bytes: an entry of its table of dirty pages
abbrev pub dirty_text : DirtyPage → List ℕ
dirty_text d = little_bytes 4 d.page.store ++ little_bytes 4 d.page.page ++ little_bytes 8 d.recovery

-- the number of the checkpoint's begin, the next transaction's number, and the two tables, each behind its count
abbrev pub checkpoint_text : ℕ → ℕ → List LogTxn → List DirtyPage → List ℕ
checkpoint_text begin next txns dirty =
    little_bytes 8 begin ++ little_bytes 8 next ++ table_text 2 txn_text txns ++ table_text 2 dirty_text dirty

-- the number of the checkpoint's begin, and of the first record that is kept
abbrev pub anchor_text : ℕ → ℕ → List ℕ
anchor_text checkpoint tail = little_bytes 8 checkpoint ++ little_bytes 8 tail

-- the fields of each kind
abbrev pub payload_text : Payload → List ℕ
payload_text (Change id before after) = change_text id before after
payload_text (Compensation id after undo_next) = compensation_text id after undo_next
payload_text Commit = []
payload_text End = []
payload_text (Prepare global granules) = prepare_text global granules
payload_text RollbackDecided = []
payload_text CheckpointBegin = []
payload_text (CheckpointEnd begin next txns dirty) = checkpoint_text begin next txns dirty
payload_text (Anchor checkpoint tail) = anchor_text checkpoint tail

-- 21 bytes: the kind, the transaction, the number of its record before, and how many bytes the payload has
unfoldable pub head_text : LogRecord → List ℕ
head_text r =
    (kind_of r.payload ∷ []) ++ little_bytes 8 r.txn ++ little_bytes 8 r.previous
    ++ little_bytes 4 (length (payload_text r.payload))

-- the head, and then the payload
unfoldable pub text : LogRecord → List ℕ
text r = head_text r ++ payload_text r.payload

-- the texts of records, one after another
abbrev pub texts : List LogRecord → List ℕ
texts rs = flat_map text rs

-- each number has its place in the text
pub record RidFits (r : Rid) : Type 0 where
  pub store : r.page.store < 2 ^ 32
  pub page : r.page.page < 2 ^ 32
  pub slot : r.slot < 2 ^ 16

abbrev pub ImageFits : Image → Type 0
ImageFits image = IfSome image (λ bytes. length bytes ≤ MAX_RECORD_BYTES)

-- a change that is one: an image before, after, or both
pub record ChangeFits (id : Rid) (before after : Image) : Type 0 where
  pub rid : RidFits id
  pub old : ImageFits before
  pub new : ImageFits after
  pub some : IsSome before ⊎ IsSome after

pub record CompensationFits (r : Rid) (after : Image) (undo_next : ℕ) : Type 0 where
  pub rid : RidFits r
  pub image : ImageFits after
  pub next : undo_next < 2 ^ 64

abbrev pub GranuleFits : Granule → Type 0
GranuleFits g = RidFits (ids_of g)

-- a global id of 1 to 64 bytes, and at most 4,096 granules, which rise
pub record PrepareFits (global : List ℕ) (granules : List Granule) : Type 0 where
  pub some : 1 ≤ length global
  pub short : length global ≤ MAX_GLOBAL_ID_BYTES
  pub few : length granules ≤ MOST_MAX_LOCKS
  pub granules_fit : All GranuleFits granules
  pub rising : IsStrictlySortedBy granule_cmp granules

-- an entry is a transaction's, so it has a number above 0
pub record TxnFits (t : LogTxn) : Type 0 where
  pub some : 1 ≤ t.txn
  pub txn : t.txn < 2 ^ 64
  pub first : t.first < 2 ^ 64
  pub last : t.last < 2 ^ 64
  pub undo_next : t.undo_next < 2 ^ 64
  pub prepare : t.prepare < 2 ^ 64

pub record DirtyFits (d : DirtyPage) : Type 0 where
  pub store : d.page.store < 2 ^ 32
  pub page : d.page.page < 2 ^ 32
  pub recovery : d.recovery < 2 ^ 64

-- entries of dirty pages are in the order of their pages
abbrev pub dirty_cmp : DirtyPage → DirtyPage → Ordering
dirty_cmp d e = page_cmp d.page e.page

-- at most 256 transactions, which rise, and at most 1,024 dirty pages, which rise
pub record CheckpointFits (begin next : ℕ) (txns : List LogTxn) (dirty : List DirtyPage) : Type 0 where
  pub begin_fits : begin < 2 ^ 64
  pub next_fits : next < 2 ^ 64
  pub few_txns : length txns ≤ MAX_TRANSACTIONS
  pub txns_fit : All TxnFits txns
  pub txns_rise : IsTrue (rise_above 0 txns)
  pub few_pages : length dirty ≤ MAX_POOL_FRAMES
  pub pages_fit : All DirtyFits dirty
  pub pages_rise : IsStrictlySortedBy dirty_cmp dirty

abbrev pub PayloadFits : Payload → Type 0
PayloadFits (Change id before after) = ChangeFits id before after
PayloadFits (Compensation id after undo_next) = CompensationFits id after undo_next
PayloadFits Commit = Unit {0}
PayloadFits End = Unit {0}
PayloadFits (Prepare global granules) = PrepareFits global granules
PayloadFits RollbackDecided = Unit {0}
PayloadFits CheckpointBegin = Unit {0}
PayloadFits (CheckpointEnd begin next txns dirty) = CheckpointFits begin next txns dirty
PayloadFits (Anchor checkpoint tail) = (checkpoint < 2 ^ 64) × (tail < 2 ^ 64)

-- the records of a checkpoint are of no transaction, and name none before; each other is of one
abbrev pub HasOwner : Payload → ℕ → ℕ → Type 0
HasOwner (Change id before after) txn previous = 1 ≤ txn
HasOwner (Compensation id after undo_next) txn previous = 1 ≤ txn
HasOwner Commit txn previous = 1 ≤ txn
HasOwner End txn previous = 1 ≤ txn
HasOwner (Prepare global granules) txn previous = 1 ≤ txn
HasOwner RollbackDecided txn previous = 1 ≤ txn
HasOwner CheckpointBegin txn previous = (txn ≡ 0) × (previous ≡ 0)
HasOwner (CheckpointEnd begin next txns dirty) txn previous = (txn ≡ 0) × (previous ≡ 0)
HasOwner (Anchor checkpoint tail) txn previous = (txn ≡ 0) × (previous ≡ 0)

-- what has a text
pub record Fits (r : LogRecord) : Type 0 where
  pub owner : HasOwner r.payload r.txn r.previous
  pub txn_fits : r.txn < 2 ^ 64
  pub previous_fits : r.previous < 2 ^ 64
  pub payload_fits : PayloadFits r.payload

-- What a record takes of the log's room: its text, and 13 bytes for its share of a frame, which has a gate, a length and
-- a first number beside its records.
abbrev pub cost_of : Payload → ℕ
cost_of p = ENDING_COST + length (payload_text p)

-- the bytes of an image's text, by the number of the image's bytes
abbrev pub image_text_len : Option ℕ → ℕ
image_text_len None = 1
image_text_len (Some n) = 3 + n

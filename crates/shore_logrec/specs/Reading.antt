-- Readers: what is at the front of some bytes.
use Rattle.std.specs.Prelude.{ℕ, zero, suc, ◌||◌, List, [], ◌∷◌, length, take, drop, Option, Some, None, is_some, nat_lt, ◌==◌, ◌&&◌, Bool, true, not, if◌then◌else◌}
use Rattle.std.specs.Ordering.{is_lt}
use Rattle.byteorder.specs.Endian.{little_number}
use Rattle.shore_types.specs.declared.ids.Rid.{Rid}
use Rattle.shore_types.specs.declared.layout.TheConstants.{MAX_GLOBAL_ID_BYTES, MAX_POOL_FRAMES, MAX_RECORD_BYTES, MAX_TRANSACTIONS, MOST_MAX_LOCKS}
use Rattle.shore_types.specs.declared.locking.Granule.{Granule}
use Rattle.shore_types.specs.declared.locking.Granule.TheVariants.{Volume, Store, Page, Record}
use Rattle.shore_types.specs.Images.{Image}
use Rattle.shore_types.specs.Locking.{granule_cmp}
use Rattle.shore_model.specs.declared.log_records.DirtyPage.{DirtyPage}
use Rattle.shore_model.specs.declared.log_records.LogRecord.{LogRecord}
use Rattle.shore_model.specs.declared.log_records.LogTxn.{LogTxn}
use Rattle.shore_model.specs.declared.log_records.TxnState.{TxnState}
use Rattle.shore_model.specs.declared.log_records.TxnState.TheVariants.{Active, Prepared, RollingBack}
use Rattle.shore_model.specs.declared.log_records.Payload.{Payload}
use Rattle.shore_model.specs.declared.log_records.Payload.TheVariants.{Change, Compensation, Commit, End, Prepare, RollbackDecided, CheckpointBegin, CheckpointEnd, Anchor}
use Rattle.shore_logrec.specs.declared.reading.Head.{Head}
use Rattle.shore_logrec.specs.Text.{dirty_cmp}

infixl 10 ◌>>=◌
abbrev pub ◌>>=◌ : {A B : Type 0} → Option A → (A → Option B) → Option B
(Some x) >>= f = f x
None >>= f = None

-- a reader gives a value and the bytes behind it, or nothing
abbrev pub Reader : Type 0 → Type 0
Reader A = List ℕ → Option (A × List ℕ)

-- one value, and then another
abbrev pub pair_at : {A B : Type 0} → Reader A → Reader B → Reader (A × B)
pair_at first second bytes = do
  x ← first bytes
  y ← second x.1
  Some ((x.0, y.0), y.1)

-- something that is made of a value
abbrev pub made_at : {A B : Type 0} → (A → B) → Reader A → Reader B
made_at make read bytes = do
  x ← read bytes
  Some (make x.0, x.1)

-- a value that is all there is
abbrev pub whole : {A : Type 0} → Reader A → List ℕ → Option A
whole read bytes = do
  x ← read bytes
  if length x.1 == 0 then Some x.0 else None

abbrev pub byte_at : Reader ℕ
byte_at [] = None
byte_at (b ∷ rest) = Some (b, rest)

-- a number of n bytes
unfoldable pub number_at : ℕ → Reader ℕ
number_at n bytes = if nat_lt (length bytes) n then None else Some (little_number n bytes, drop n bytes)

-- a number of n bytes, and as many bytes as it says
unfoldable pub string_at : ℕ → Reader (List ℕ)
string_at n bytes = do
  len ← number_at n bytes
  if nat_lt (length len.1) len.0 then None else Some (take len.0 len.1, drop len.0 len.1)

unfoldable pub image_at : Reader Image
image_at [] = None
image_at (zero ∷ rest) = Some (None, rest)
image_at (suc zero ∷ rest) = do
  image ← string_at 2 rest
  if nat_lt MAX_RECORD_BYTES (length image.0) then None else Some (Some image.0, image.1)
image_at (suc (suc flag) ∷ rest) = None

-- a store, a page and a slot as a record id
abbrev pub rid_of : (ℕ × ℕ) × ℕ → Rid
rid_of n = record { page = record { store = n.0.0; page = n.0.1 }; slot = n.1 }

unfoldable pub rid_at : Reader Rid
rid_at = made_at rid_of (pair_at (pair_at (number_at 4) (number_at 4)) (number_at 2))

-- a record id, and the images before and after
unfoldable pub change_fields_at : Reader ((Rid × Image) × Image)
change_fields_at = pair_at (pair_at rid_at image_at) image_at

-- a Change, unless both images are absent
abbrev pub change_of : (Rid × Image) × Image → Option Payload
change_of x = if is_some x.0.1 || is_some x.1 then Some (Change x.0.0 x.0.1 x.1) else None

unfoldable pub change_at : List ℕ → Option Payload
change_at bytes = whole change_fields_at bytes >>= change_of

-- a record id, the image after, and the number that is to be undone next
unfoldable pub compensation_fields_at : Reader ((Rid × Image) × ℕ)
compensation_fields_at = pair_at (pair_at rid_at image_at) (number_at 8)

abbrev pub compensation_of : (Rid × Image) × ℕ → Option Payload
compensation_of x = Some (Compensation x.0.0 x.0.1 x.1)

unfoldable pub compensation_at : List ℕ → Option Payload
compensation_at bytes = whole compensation_fields_at bytes >>= compensation_of

-- a level and the ids of a granule, of which those below the level are 0
abbrev pub granule_of : ℕ → Rid → Option Granule
granule_of zero r = if (r.page.store == 0 && r.page.page == 0) && r.slot == 0 then Some Volume else None
granule_of (suc zero) r = if r.page.page == 0 && r.slot == 0 then Some (Store r.page.store) else None
granule_of (suc (suc zero)) r = if r.slot == 0 then Some (Page r.page) else None
granule_of (suc (suc (suc zero))) r = Some (Record r)
granule_of (suc (suc (suc (suc level)))) r = None

unfoldable pub granule_at : Reader Granule
granule_at bytes = do
  x ← pair_at byte_at rid_at bytes
  granule ← granule_of x.0.0 x.0.1
  Some (granule, x.1)

-- a length of one byte, from 1 to the most, and as many bytes
unfoldable pub global_at : Reader (List ℕ)
global_at bytes = do
  len ← byte_at bytes
  if (len.0 == 0 || nat_lt MAX_GLOBAL_ID_BYTES len.0) || nat_lt (length len.1) len.0 then None else Some (take len.0 len.1, drop len.0 len.1)

-- ---- tables

-- whether an entry comes behind the last one, if there is one
abbrev pub follows : {A : Type 0} → (A → A → Bool) → Option A → A → Bool
follows before None x = true
follows before (Some last) x = before last x

-- so many entries, which rise behind the last one
unfoldable pub entries_from : {A : Type 0} → Reader A → (A → A → Bool) → Option A → ℕ → Reader (List A)
entries_from read before last zero bytes = Some ([], bytes)
entries_from read before last (suc n) bytes = do
  first ← read bytes
  behind ← if follows before last first.0 then entries_from read before (Some first.0) n first.1 else None
  Some (first.0 ∷ behind.0, behind.1)

-- a count of n bytes, at most so great, and as many entries
unfoldable pub table_at : {A : Type 0} → ℕ → ℕ → Reader A → (A → A → Bool) → Reader (List A)
table_at n most read before bytes = do
  count ← number_at n bytes
  if nat_lt most count.0 then None else entries_from read before None count.0 count.1

-- ---- a Prepare

abbrev pub granule_before : Granule → Granule → Bool
granule_before g h = is_lt (granule_cmp g h)

-- a global id, and granules
unfoldable pub prepare_fields_at : Reader (List ℕ × List Granule)
prepare_fields_at = pair_at global_at (table_at 4 MOST_MAX_LOCKS granule_at granule_before)

abbrev pub prepare_of : List ℕ × List Granule → Option Payload
prepare_of x = Some (Prepare x.0 x.1)

unfoldable pub prepare_at : List ℕ → Option Payload
prepare_at bytes = whole prepare_fields_at bytes >>= prepare_of

-- ---- an End of a checkpoint

abbrev pub state_of : ℕ → Option TxnState
state_of zero = None
state_of (suc zero) = Some Active
state_of (suc (suc zero)) = Some Prepared
state_of (suc (suc (suc zero))) = Some RollingBack
state_of (suc (suc (suc (suc number)))) = None

-- the number of a transaction, the byte of its state, and the four numbers of records
abbrev pub TxnFields : Type 0
TxnFields = ((((ℕ × ℕ) × ℕ) × ℕ) × ℕ) × ℕ

unfoldable pub txn_fields_at : Reader TxnFields
txn_fields_at = pair_at (pair_at (pair_at (pair_at (pair_at (number_at 8) byte_at) (number_at 8)) (number_at 8)) (number_at 8)) (number_at 8)

abbrev pub entry_of : TxnFields → TxnState → LogTxn
entry_of x state = record { txn = x.0.0.0.0.0; state = state; first = x.0.0.0.1; last = x.0.0.1; undo_next = x.0.1; prepare = x.1 }

-- the entry of a transaction with a number above 0, in one of the three states
abbrev pub txn_of : TxnFields → Option LogTxn
txn_of x = do
  state ← state_of x.0.0.0.0.1
  if x.0.0.0.0.0 == 0 then None else Some (entry_of x state)

unfoldable pub txn_at : Reader LogTxn
txn_at bytes = do
  x ← txn_fields_at bytes
  entry ← txn_of x.0
  Some (entry, x.1)

abbrev pub txn_before : LogTxn → LogTxn → Bool
txn_before a b = nat_lt a.txn b.txn

abbrev pub dirty_of : (ℕ × ℕ) × ℕ → DirtyPage
dirty_of n = record { page = record { store = n.0.0; page = n.0.1 }; recovery = n.1 }

unfoldable pub dirty_at : Reader DirtyPage
dirty_at = made_at dirty_of (pair_at (pair_at (number_at 4) (number_at 4)) (number_at 8))

abbrev pub dirty_before : DirtyPage → DirtyPage → Bool
dirty_before d e = is_lt (dirty_cmp d e)

-- the begin's number, the next transaction's number, and the two tables
unfoldable pub end_fields_at : Reader (((ℕ × ℕ) × List LogTxn) × List DirtyPage)
end_fields_at =
    pair_at (pair_at (pair_at (number_at 8) (number_at 8)) (table_at 2 MAX_TRANSACTIONS txn_at txn_before)) (table_at 2 MAX_POOL_FRAMES dirty_at dirty_before)

abbrev pub end_of : ((ℕ × ℕ) × List LogTxn) × List DirtyPage → Option Payload
end_of x = Some (CheckpointEnd x.0.0.0 x.0.0.1 x.0.1 x.1)

unfoldable pub end_at : List ℕ → Option Payload
end_at bytes = whole end_fields_at bytes >>= end_of

-- ---- an Anchor

abbrev pub anchor_of : ℕ × ℕ → Option Payload
anchor_of x = Some (Anchor x.0 x.1)

unfoldable pub anchor_at : List ℕ → Option Payload
anchor_at bytes = whole (pair_at (number_at 8) (number_at 8)) bytes >>= anchor_of

-- ---- payloads

-- a payload of no bytes
abbrev pub empty_at : Payload → List ℕ → Option Payload
empty_at payload bytes = if length bytes == 0 then Some payload else None

-- the payload of a kind, all of it
unfoldable pub payload_at : ℕ → List ℕ → Option Payload
payload_at kind bytes =
    if kind == 1 then change_at bytes else (
    if kind == 2 then compensation_at bytes else (
    if kind == 3 then empty_at Commit bytes else (
    if kind == 4 then empty_at End bytes else (
    if kind == 5 then prepare_at bytes else (
    if kind == 6 then empty_at RollbackDecided bytes else (
    if kind == 7 then empty_at CheckpointBegin bytes else (
    if kind == 8 then end_at bytes else (
    if kind == 9 then anchor_at bytes else
    None))))))))

abbrev pub head_of : (ℕ × ℕ) × ℕ → Head
head_of n = record { kind = n.0.0; txn = n.0.1; previous = n.1 }

-- a head, and the bytes of the payload that it announces
unfoldable pub front_at : Reader (Head × List ℕ)
front_at = pair_at (made_at head_of (pair_at (pair_at byte_at (number_at 8)) (number_at 8))) (string_at 4)

-- a checkpoint's record, of the kinds 7 to 9, is of no transaction and names none before; each other is of one
abbrev pub has_owner : Head → Bool
has_owner head = if nat_lt head.kind 7 then not (head.txn == 0) else ((head.txn == 0) && (head.previous == 0))

abbrev pub record_of : Head → Payload → LogRecord
record_of head payload = record { txn = head.txn; previous = head.previous; payload = payload }

-- a record
unfoldable pub record_at : Reader LogRecord
record_at bytes = do
  front ← front_at bytes
  payload ← payload_at front.0.0.kind front.0.1
  if has_owner front.0.0 then Some (record_of front.0.0 payload, front.1) else None

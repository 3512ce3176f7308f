-- What holds of each record of a list that is logged.
use Rattle.std.specs.Prelude.{◌+◌, ◌^◌, ◌==◌, ◌&&◌, ◌||◌, ℕ, List, [], ◌∷◌, Bool, true, if◌then◌else◌, None, Some, length, is_some, nat_lt, nat_le}
use Rattle.std.specs.List.{list_all}
use Rattle.std.specs.Ordering.{is_lt}
use Rattle.std.specs.declared.cmp.Ordering.{Ordering}
use Rattle.shore_types.specs.declared.ids.Rid.{Rid}
use Rattle.shore_types.specs.declared.layout.TheConstants.{MAX_GLOBAL_ID_BYTES, MAX_POOL_FRAMES, MAX_RECORD_BYTES, MAX_TRANSACTIONS, MOST_MAX_LOCKS}
use Rattle.shore_types.specs.declared.locking.Granule.{Granule}
use Rattle.shore_types.specs.Images.{Image}
use Rattle.shore_types.specs.Locking.{granule_cmp, ids_of}
use Rattle.shore_model.specs.declared.log_records.DirtyPage.{DirtyPage}
use Rattle.shore_model.specs.declared.log_records.LogRecord.{LogRecord}
use Rattle.shore_model.specs.declared.log_records.LogTxn.{LogTxn}
use Rattle.shore_model.specs.declared.log_records.Payload.{Payload}
use Rattle.shore_model.specs.declared.log_records.Payload.TheVariants.{Change, Compensation, Commit, End, Prepare, RollbackDecided, CheckpointBegin, CheckpointEnd, Anchor}
use Rattle.shore_model.specs.Logs.{is_of_checkpoint, rise_above}
use Rattle.shore_logrec.specs.Text.{dirty_cmp}

abbrev pub image_is_short : Image → Bool
image_is_short None = true
image_is_short (Some bytes) = nat_le (length bytes) MAX_RECORD_BYTES

abbrev pub id_is_short : Rid → Bool
id_is_short id = nat_lt id.page.store (2 ^ 32) && nat_lt id.page.page (2 ^ 32) && nat_lt id.slot (2 ^ 16)

-- whether each comes before those behind it
abbrev pub are_rising : {A : Type 0} → (A → A → Ordering) → List A → Bool
are_rising cmp [] = true
are_rising cmp (x ∷ xs) = list_all (λ y. is_lt (cmp x y)) xs && are_rising cmp xs

abbrev pub prepare_has_text : List ℕ → List Granule → Bool
prepare_has_text global granules =
    nat_le 1 (length global) && nat_le (length global) MAX_GLOBAL_ID_BYTES && nat_le (length granules) MOST_MAX_LOCKS
    && list_all (λ g. id_is_short (ids_of g)) granules && are_rising granule_cmp granules

abbrev pub txn_is_short : LogTxn → Bool
txn_is_short t =
    nat_le 1 t.txn && nat_lt t.txn (2 ^ 64) && nat_lt t.first (2 ^ 64) && nat_lt t.last (2 ^ 64) && nat_lt t.undo_next (2 ^ 64)
    && nat_lt t.prepare (2 ^ 64)

abbrev pub page_is_short : DirtyPage → Bool
page_is_short d = nat_lt d.page.store (2 ^ 32) && nat_lt d.page.page (2 ^ 32) && nat_lt d.recovery (2 ^ 64)

abbrev pub txns_have_text : List LogTxn → Bool
txns_have_text txns = nat_le (length txns) MAX_TRANSACTIONS && list_all txn_is_short txns && rise_above 0 txns

abbrev pub pages_have_text : List DirtyPage → Bool
pages_have_text dirty = nat_le (length dirty) MAX_POOL_FRAMES && list_all page_is_short dirty && are_rising dirty_cmp dirty

abbrev pub payload_has_text : Payload → Bool
payload_has_text (Change id before image) =
    id_is_short id && image_is_short before && image_is_short image && (is_some before || is_some image)
payload_has_text (Compensation id image undo_next) = id_is_short id && image_is_short image && nat_lt undo_next (2 ^ 64)
payload_has_text Commit = true
payload_has_text End = true
payload_has_text (Prepare global granules) = prepare_has_text global granules
payload_has_text RollbackDecided = true
payload_has_text CheckpointBegin = true
payload_has_text (CheckpointEnd begin next txns dirty) =
    nat_lt begin (2 ^ 64) && nat_lt next (2 ^ 64) && txns_have_text txns && pages_have_text dirty
payload_has_text (Anchor checkpoint tail) = nat_lt checkpoint (2 ^ 64) && nat_lt tail (2 ^ 64)

-- a checkpoint's record is of no transaction and names none before, each other is of one
abbrev pub has_owner : LogRecord → Bool
has_owner r = if is_of_checkpoint r.payload then ((r.txn == 0) && (r.previous == 0)) else nat_le 1 r.txn

-- whether the record has a text, as a test
abbrev pub has_text : LogRecord → Bool
has_text r = has_owner r && nat_lt r.txn (2 ^ 64) && nat_lt r.previous (2 ^ 64) && payload_has_text r.payload

-- whether each has a text, and names a record below its own number as the one before; the first has the number n
abbrev pub are_numbered : ℕ → List LogRecord → Bool
are_numbered n [] = true
are_numbered n (r ∷ rs) = has_text r && nat_lt r.previous n && are_numbered (n + 1) rs

-- How long the texts are.
use Rattle.std.proofs.Common.{◌≡◌, ℕ, ◌+◌, ◌≤◌, List, [], ◌∷◌, ◌++◌, length, Some, None, refl, arith}
use Rattle.std.specs.Prelude.{◌*◌, flat_map, option_map, replicate}
use Rattle.std.proofs.lemmas.List.{length-append}
use Rattle.std.proofs.Math.Nat.{mul-suc}
use Rattle.byteorder.specs.Endian.{little_bytes}
use Rattle.byteorder.specs.Numbers.{length-bytes_low_first}
use Rattle.shore_types.specs.declared.ids.Rid.{Rid}
use Rattle.shore_types.specs.Images.{Image}
use Rattle.shore_types.specs.declared.locking.Granule.{Granule}
use Rattle.shore_types.specs.declared.locking.Granule.TheVariants.{Page, Record, Store, Volume}
use Rattle.shore_model.specs.declared.log_records.DirtyPage.{DirtyPage}
use Rattle.shore_model.specs.declared.log_records.LogRecord.{LogRecord}
use Rattle.shore_model.specs.declared.log_records.LogTxn.{LogTxn}
use Rattle.shore_logrec.specs.Text.{checkpoint_text, dirty_text, table_text, txn_text, granule_text, prepare_text, rid_text, string_text, image_text, image_text_len, change_text, compensation_text, payload_text, head_text, text}

pub length-little_bytes : (n x : ℕ) → length (little_bytes n x) ≡ n
length-little_bytes n x = length-bytes_low_first 0 n x

pub length-rid_text : (id : Rid) → length (rid_text id) ≡ 10
unfolding rid_text
length-rid_text id = omega arith

pub length-string_text : (n : ℕ) (bytes : List ℕ) → length (string_text n bytes) ≡ n + length bytes
unfolding string_text
length-string_text n bytes = omega (arith, length-append (little_bytes n (length bytes)) bytes, length-little_bytes n (length bytes))

pub length-image_text : (image : Image) → length (image_text image) ≡ image_text_len (option_map length image)
length-image_text None = omega arith
length-image_text (Some bytes) = omega (arith, length-string_text 2 bytes)

pub length-change_text : (id : Rid) (before after : Image) → length (change_text id before after) ≡ 10 + length (image_text before) + length (image_text after)
length-change_text id before after =
    omega (arith, length-append (rid_text id ++ image_text before) (image_text after), length-append (rid_text id) (image_text before), length-rid_text id)

pub length-compensation_text : (id : Rid) (after : Image) (undo_next : ℕ) → length (compensation_text id after undo_next) ≡ 18 + length (image_text after)
length-compensation_text id after undo_next =
    omega (arith, length-append (rid_text id ++ image_text after) (little_bytes 8 undo_next), length-append (rid_text id) (image_text after), length-rid_text id, length-little_bytes 8 undo_next)

pub length-head_text : (r : LogRecord) → length (head_text r) ≡ 21
unfolding head_text
length-head_text r = omega arith

pub length-text : (r : LogRecord) → length (text r) ≡ 21 + length (payload_text r.payload)
unfolding text
length-text r = omega (arith, length-append (head_text r) (payload_text r.payload), length-head_text r)

pub length-granule_text : (g : Granule) → length (granule_text g) ≡ 11
length-granule_text Volume = refl
length-granule_text (Store s) = omega (arith, length-append (little_bytes 4 s) (replicate 6 0), length-little_bytes 4 s)
length-granule_text (Page p) =
    omega (arith, length-append (little_bytes 4 p.store) (little_bytes 4 p.page ++ replicate 2 0), length-append (little_bytes 4 p.page) (replicate 2 0), length-little_bytes 4 p.store, length-little_bytes 4 p.page)
length-granule_text (Record r) = omega (arith, length-rid_text r)

-- entries that have as many bytes each
length-entries : {A : Type 0} (spell : A → List ℕ) (size : ℕ) → ((x : A) → length (spell x) ≡ size) → (xs : List A) → length (flat_map spell xs) ≡ size * length xs
length-entries spell size long [] = omega arith
length-entries spell size long (x ∷ xs) =
    omega (arith, length-append (spell x) (flat_map spell xs), long x, length-entries spell size long xs, mul-suc size (length xs))

length-table_text : {A : Type 0} (n : ℕ) (spell : A → List ℕ) (size : ℕ) → ((x : A) → length (spell x) ≡ size) → (xs : List A) → length (table_text n spell xs) ≡ n + size * length xs
length-table_text n spell size long xs =
    omega (arith, length-append (little_bytes n (length xs)) (flat_map spell xs), length-little_bytes n (length xs), length-entries spell size long xs)

pub length-prepare_text : (global : List ℕ) (granules : List Granule) → length (prepare_text global granules) ≡ 5 + length global + 11 * length granules
length-prepare_text global granules =
    omega (
      arith,
      length-append (string_text 1 global) (table_text 4 granule_text granules),
      length-string_text 1 global,
      length-table_text 4 granule_text 11 length-granule_text granules,
    )

pub length-checkpoint_text : (begin next : ℕ) (txns : List LogTxn) (dirty : List DirtyPage)
    → length (checkpoint_text begin next txns dirty) ≡ 20 + 41 * length txns + 16 * length dirty
length-checkpoint_text begin next txns dirty =
    let numbers = little_bytes 8 begin ++ little_bytes 8 next in
    omega (
      arith,
      length-append (numbers ++ table_text 2 txn_text txns) (table_text 2 dirty_text dirty),
      length-append numbers (table_text 2 txn_text txns),
      length-append (little_bytes 8 begin) (little_bytes 8 next),
      length-little_bytes 8 begin,
      length-little_bytes 8 next,
      length-table_text 2 txn_text 41 (λ t. refl) txns,
      length-table_text 2 dirty_text 16 (λ d. refl) dirty,
    )

pub ruleset lengths = (length-append, length-little_bytes, length-rid_text, length-string_text, length-granule_text, length-image_text, length-change_text, length-compensation_text, length-head_text, length-prepare_text, length-checkpoint_text, length-text)

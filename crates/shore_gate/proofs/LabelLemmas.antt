-- A label's bytes, and what the checks say of them.
use Rattle.std.proofs.Common.{◌≡◌, ◌⊎◌, inl, inr, ℕ, ◌+◌, ◌-◌, ◌*◌, ◌^◌, ◌<◌, ◌≤◌, Bool, true, false, ◌&&◌, ◌==◌, nat_le, Option, Some, None, is_some, unwrap_or, List, [], ◌∷◌, ◌++◌, length, take, drop, replicate, slice_index, sum, Result, Ok, Err, IfErr, refl, sym, ap, ◌∙◌, arith, append_assoc, length-drop}
use Rattle.std.proofs.lemmas.Bool.{and_parts, and_from, eqb-true, eq-eqb, le-leb}
use Rattle.std.proofs.lemmas.Bool.Decides.{nat_tests}
use Rattle.std.proofs.lemmas.List.{take_all, drop_more}
use Rattle.std.specs.List.{flat_map}
use Rattle.byteorder.specs.Endian.{little_bytes}
use Rattle.shore_types.specs.declared.faults.Device.{Device}
use Rattle.shore_types.specs.declared.faults.Device.TheVariants.{Log, Volume}
use Rattle.shore_types.specs.declared.faults.Fault.{Fault}
use Rattle.shore_types.specs.declared.faults.Fault.TheVariants as faults
use Rattle.shore_types.specs.declared.faults.Fault.TheVariants.{NotFormatted, WrongVersion, Damaged, Memory}
use Rattle.shore_types.specs.declared.versions.Version.{Version}
use Rattle.shore_types.specs.declared.versions.Version.TheVariants.{One, Two}
use Rattle.shore_types.specs.Versions.{version_of, number_of, page_bytes, least_log, pages_begin, version_of-number, number_of-most, page_bytes-most, page_bytes-least, least_log-least, pages_begin-is}
use Rattle.std.proofs.Math.Nat.{mul-le-mul_right}
use Rattle.shore_gate.specs.declared.gates.TheConstants.{OPEN}
use Rattle.shore_gate.specs.declared.labels.Label.{Label}
use Rattle.shore_gate.specs.Numbers.{number_at, numbers_at, are_zero}
use Rattle.shore_gate.specs.Checks.{Check, judged, is_within}
use Rattle.shore_gate.specs.Label.{kind_of, label_head, label_bytes, HasLength, HoldsLabel, may_be_long, is_filled, kind_checks, field_checks, store_checks, stores_of, end_checks, label_verdict, version_in}
use Rattle.std.specs.Prelude.{if◌then◌else◌}
use Rattle.shore_gate.proofs.NumberLemmas.{IsBytes, text_at, drop-text, number_at-text, number_at-lt, drop-numbers_at, numbers_at-text, length-numbers_at, zeros_are, zeros_again}
use Rattle.shore_gate.proofs.CheckLemmas.{judged-append_ok, judged-append_err, judged_parts, both_pass, all_pass, pass_both, pass_all, within, is_within-true, NoDevice, NoDevice-append, judged_device}
use Rattle.shore_gate.proofs.StoreLemmas.{stores_limits, limits_stores}

-- zeros up to the end
pub padded : (bytes : List ℕ) (len count : ℕ) → length bytes ≡ 31 + 4 * count → len ≡ 31 + 4 * count → count ≤ 64 → take 511 bytes ++ replicate (511 - len) 0 ≡ bytes ++ replicate (480 - 4 * count) 0
padded bytes len count long is few =
    let left : 511 - len ≡ 480 - 4 * count = omega arith in
    rw (take_all 511 bytes (omega arith), left) refl

-- the fields, one after another, and what follows them
abbrev pub fields : Version → Device → ℕ → ℕ → ℕ → ℕ → List ℕ → List ℕ
fields v device pair size locks count rest =
    kind_of device ∷ (little_bytes 2 (number_of v) ++ (little_bytes 4 (page_bytes v) ++ (little_bytes 8 pair ++ (little_bytes 8 size ++ (little_bytes 4 locks ++ (little_bytes 4 count ++ rest))))))

abbrev pub after_fields : Label → List ℕ
after_fields label = flat_map (little_bytes 4) label.stores ++ replicate (480 - 4 * length label.stores) 0

pub label_bytes-fields : (device : Device) (label : Label) → label_bytes device label ≡ fields label.version device label.pair label.length label.max_locks (length label.stores) (after_fields label)
unfolding label_bytes label_head
label_bytes-fields device label = append_assoc (label_head device label) (flat_map (little_bytes 4) label.stores) (replicate (480 - 4 * length label.stores) 0)

-- bytes whose fixed fields are right
pub bytes-fields : (v : Version) (device : Device) (size : ℕ) (bytes : List ℕ) → length bytes ≡ 512 → IsBytes bytes → slice_index bytes 0 ≡ OPEN → slice_index bytes 1 ≡ kind_of device
    → number_at bytes 2 2 ≡ number_of v → number_at bytes 4 4 ≡ page_bytes v → number_at bytes 16 8 ≡ size
    → bytes ≡ OPEN ∷ fields v device (number_at bytes 8 8) size (number_at bytes 24 4) (number_at bytes 28 4) (drop 32 bytes)
bytes-fields v device size bytes long fits gate kind version page len =
    let t28 = text_at bytes 28 4 32 (number_at bytes 28 4) (drop 32 bytes) fits refl (omega arith) refl refl in
    let t24 = text_at bytes 24 4 28 (number_at bytes 24 4) _ fits refl (omega arith) refl t28 in
    let t16 = text_at bytes 16 8 24 size _ fits refl (omega arith) len t24 in
    let t8 = text_at bytes 8 8 16 (number_at bytes 8 8) _ fits refl (omega arith) refl t16 in
    let t4 = text_at bytes 4 4 8 (page_bytes v) _ fits refl (omega arith) page t8 in
    let t2 = text_at bytes 2 2 4 (number_of v) _ fits refl (omega arith) version t4 in
    drop_more bytes 0 0 (omega arith) ∙ ap (λ (g : ℕ). g ∷ drop 1 bytes) gate
    ∙ ap (λ (r : List ℕ). OPEN ∷ r) (drop_more bytes 1 0 (omega arith) ∙ ap (λ (k : ℕ). k ∷ drop 2 bytes) kind ∙ ap (λ (r : List ℕ). kind_of device ∷ r) t2)

-- what the fields of a label are read as
pub record Reads (v : Version) (device : Device) (bytes : List ℕ) (pair size locks count : ℕ) (rest : List ℕ) : Type 0 where
  pub gate : slice_index bytes 0 ≡ OPEN
  pub kind : slice_index bytes 1 ≡ kind_of device
  pub version : number_at bytes 2 2 ≡ number_of v
  pub page : number_at bytes 4 4 ≡ page_bytes v
  pub pair_is : number_at bytes 8 8 ≡ pair
  pub size_is : number_at bytes 16 8 ≡ size
  pub locks_is : number_at bytes 24 4 ≡ locks
  pub count_is : number_at bytes 28 4 ≡ count
  pub after : drop 32 bytes ≡ rest

pub fields_read : (v : Version) (device : Device) (bytes : List ℕ) (pair size locks count : ℕ) (rest : List ℕ) → pair < 2 ^ 64 → size < 2 ^ 64 → locks < 2 ^ 32 → count < 2 ^ 32
    → bytes ≡ OPEN ∷ fields v device pair size locks count rest → Reads v device bytes pair size locks count rest
fields_read v device bytes pair size locks count rest p s l n text =
    let t2 = ap (drop 2) text in
    let t4 = drop-text bytes 2 2 4 (number_of v) _ t2 refl in
    let t8 = drop-text bytes 4 4 8 (page_bytes v) _ t4 refl in
    let t16 = drop-text bytes 8 8 16 pair _ t8 refl in
    let t24 = drop-text bytes 16 8 24 size _ t16 refl in
    let t28 = drop-text bytes 24 4 28 locks _ t24 refl in
    record {
      gate = ap (λ (b : List ℕ). slice_index b 0) text;
      kind = ap (λ (b : List ℕ). slice_index b 1) text;
      version = number_at-text bytes 2 2 (number_of v) _ t2 (omega (arith, number_of-most v));
      page = number_at-text bytes 4 4 (page_bytes v) _ t4 (omega (arith, page_bytes-most v));
      pair_is = number_at-text bytes 8 8 pair _ t8 (omega arith);
      size_is = number_at-text bytes 16 8 size _ t16 (omega arith);
      locks_is = number_at-text bytes 24 4 locks _ t24 (omega arith);
      count_is = number_at-text bytes 28 4 count _ t28 (omega arith);
      after = drop-text bytes 28 4 32 count rest t28 refl;
    }

-- the version that is read
named_version : (n : ℕ) → is_some (version_of n) ≡ true → n ≡ number_of (unwrap_or (version_of n) One)
unfolding version_of number_of
named_version n known = by (n == 1) (n == 2) refl refl known
  where
    by : (a b : Bool) → (n == 1) ≡ a → (n == 2) ≡ b → is_some (if a then Some One else (if b then Some Two else None)) ≡ true
        → n ≡ number_of (unwrap_or (if a then Some One else (if b then Some Two else None)) One)
    by true b one two some = eqb-true n 1 one
    by false true one two some = eqb-true n 2 two
    by false false one two some = absurd cc

version_read : (bytes : List ℕ) (v : Version) → number_at bytes 2 2 ≡ number_of v → version_in bytes ≡ v
version_read bytes v is = ap (λ (n : ℕ). unwrap_or (version_of n) One) is ∙ ap (λ (o : Option Version). unwrap_or o One) (version_of-number v)

-- a device's length by the checks, and by its limits
has_length : (v : Version) (device : Device) (pages size : ℕ) → may_be_long v device size ≡ true → is_filled v device pages size ≡ true → HasLength v device pages size
has_length v Log pages size long filled = within (least_log v) 1073741824 size long
has_length v Volume pages size long filled = eqb-true size (pages_begin v + page_bytes v * pages) filled

length_passes : (v : Version) (device : Device) (pages size : ℕ) → HasLength v device pages size → (may_be_long v device size ≡ true) × (is_filled v device pages size ≡ true)
length_passes v Log pages size long = (is_within-true (least_log v) 1073741824 size long.0 long.1, refl)
length_passes v Volume pages size long = (refl, eq-eqb size (pages_begin v + page_bytes v * pages) long)

pub length_bounds : (v : Version) (device : Device) (pages size : ℕ) → pages ≤ 65536 → HasLength v device pages size → (4096 ≤ size) × (size < 2 ^ 64)
length_bounds v Log pages size few long = (omega (arith, least_log-least v), omega arith)
length_bounds v Volume pages size few long =
    let begin = pages_begin-is v in
    let least = page_bytes-least v in
    let most : page_bytes v * pages ≤ 16384 * pages = mul-le-mul_right pages (page_bytes-most v) in
    (omega (arith, begin, least), omega (arith, begin, page_bytes-most v, most))

-- what comes behind the fields
rest_is : (bytes : List ℕ) (count : ℕ) → length bytes ≡ 512 → IsBytes bytes → count ≤ 64 → are_zero (drop (32 + 4 * count) bytes) ≡ true
    → drop 32 bytes ≡ flat_map (little_bytes 4) (numbers_at bytes 32 count) ++ replicate (480 - 4 * length (numbers_at bytes 32 count)) 0
rest_is bytes count long fits few zeros =
    let left : length (drop (32 + 4 * count) bytes) ≡ 480 - 4 * length (numbers_at bytes 32 count) = omega (arith, length-drop (32 + 4 * count) bytes, length-numbers_at bytes 32 count) in
    drop-numbers_at bytes 32 count fits (omega arith)
    ∙ ap (λ (r : List ℕ). flat_map (little_bytes 4) (numbers_at bytes 32 count) ++ r) (zeros_are (drop (32 + 4 * count) bytes) zeros ∙ ap (λ (n : ℕ). replicate n 0) left)

-- the checks of the bytes behind so many fields
abbrev ends_of : Device → ℕ → List ℕ → List Check
ends_of device size bytes = end_checks (version_in bytes) device size bytes (number_at bytes 28 4) (sum (stores_of bytes))

abbrev stores_on : Device → ℕ → List ℕ → List Check
stores_on device size bytes = store_checks device 32 0 (stores_of bytes) ++ ends_of device size bytes

abbrev fields_on : Device → ℕ → List ℕ → List Check
fields_on device size bytes = field_checks (version_in bytes) device size bytes ++ stores_on device size bytes

-- the label that the numbers make
abbrev pub label_at : ℕ → List ℕ → Label
label_at size bytes = record { version = version_in bytes; pair = number_at bytes 8 8; length = size; max_locks = number_at bytes 24 4; stores = stores_of bytes }

-- bytes that pass each check hold that label
pub verdict_holds : (device : Device) (size : ℕ) (bytes : List ℕ) → length bytes ≡ 512 → IsBytes bytes → label_verdict device size bytes ≡ Ok tt → HoldsLabel device size bytes (label_at size bytes)
unfolding label_verdict
verdict_holds device size bytes long fits passed =
    let v = version_in bytes in
    let count = number_at bytes 28 4 in
    let stores = stores_of bytes in
    let a = judged_parts (kind_checks device size bytes) (fields_on device size bytes) passed in
    let b = judged_parts (field_checks (version_in bytes) device size bytes) (stores_on device size bytes) a.1 in
    let s = judged_parts (store_checks device 32 0 stores) (ends_of device size bytes) b.1 in
    let k = all_pass (nat_le 4096 size) (slice_index bytes 0 == OPEN) (slice_index bytes 1 == kind_of device) (is_some (version_of (number_at bytes 2 2))) NotFormatted NotFormatted NotFormatted WrongVersion a.0 in
    let f = all_pass (number_at bytes 4 4 == page_bytes v) (number_at bytes 16 8 == size && may_be_long v device size) (is_within 16 4096 (number_at bytes 24 4)) (is_within 1 64 count) (Damaged device 4) (Damaged device 16) (Damaged device 24) (Damaged device 28) b.0 in
    let e = both_pass (are_zero (drop (32 + 4 * count) bytes)) (is_filled v device (sum stores) size) (Damaged device (32 + 4 * count)) (Damaged device 16) s.1 in
    let len = and_parts (number_at bytes 16 8 == size) (may_be_long v device size) f.1 in
    let locks = within 16 4096 (number_at bytes 24 4) f.2 in
    let number = within 1 64 count f.3 in
    let pages = stores_limits device 32 0 stores (omega arith) s.0 in
    let many = length-numbers_at bytes 32 count in
    let head = bytes-fields v device size bytes long fits (eqb-true (slice_index bytes 0) OPEN k.1) (eqb-true (slice_index bytes 1) (kind_of device) k.2) (named_version (number_at bytes 2 2) k.3) (eqb-true (number_at bytes 4 4) (page_bytes v) f.0) (eqb-true (number_at bytes 16 8) size len.0) in
    let rest = rest_is bytes count long fits number.1 e.0 in
    record {
      limits = record {
        pair = omega (arith, number_at-lt bytes 8 8 fits);
        of_device = refl;
        as_long = has_length v device (sum stores) size len.1 e.1;
        least_locks = locks.0;
        most_locks = locks.1;
        some_store = omega (arith, many, number.0);
        most_stores = omega (arith, many, number.1);
        some_page = pages.0;
        most_pages = omega (arith, pages.1);
      };
      text = head ∙ ap (λ (n : ℕ). OPEN ∷ fields v device (number_at bytes 8 8) size (number_at bytes 24 4) n (drop 32 bytes)) (sym many)
          ∙ ap (λ (r : List ℕ). OPEN ∷ fields v device (number_at bytes 8 8) size (number_at bytes 24 4) (length stores) r) rest
          ∙ ap (λ (b : List ℕ). OPEN ∷ b) (sym (label_bytes-fields device (label_at size bytes)));
    }

-- the numbers of a label's bytes are the label's
reads_of : (device : Device) (size : ℕ) (bytes : List ℕ) (label : Label) → HoldsLabel device size bytes label
    → Reads label.version device bytes label.pair label.length label.max_locks (length label.stores) (after_fields label)
reads_of device size bytes label holds =
    let bounds = length_bounds label.version device (sum label.stores) size holds.limits.most_pages holds.limits.as_long in
    fields_read label.version device bytes label.pair label.length label.max_locks (length label.stores) (after_fields label) holds.limits.pair
    (omega (arith, bounds.1, holds.limits.of_device)) (omega (arith, holds.limits.most_locks)) (omega (arith, holds.limits.most_stores))
    (holds.text ∙ ap (λ (b : List ℕ). OPEN ∷ b) (label_bytes-fields device label))

-- the stores of a label's bytes, and the zeros behind them
stores_read : (device : Device) (size : ℕ) (bytes : List ℕ) (label : Label) → HoldsLabel device size bytes label
    → (stores_of bytes ≡ label.stores) × (are_zero (drop (32 + 4 * number_at bytes 28 4) bytes) ≡ true)
stores_read device size bytes label holds =
    let reads = reads_of device size bytes label holds in
    let both = numbers_at-text label.stores bytes 32 (replicate (480 - 4 * length label.stores) 0) (omega (arith, holds.limits.most_pages)) reads.after in (
      ap (numbers_at bytes 32) reads.count_is ∙ both.0,
      ap (λ (n : ℕ). are_zero (drop (32 + 4 * n) bytes)) reads.count_is ∙ ap are_zero both.1 ∙ zeros_again (480 - 4 * length label.stores),
    )

pub holds_label_at : (device : Device) (size : ℕ) (bytes : List ℕ) (label : Label) → HoldsLabel device size bytes label → label_at size bytes ≡ label
holds_label_at device size bytes label holds =
    let reads = reads_of device size bytes label holds in
    let stores = stores_read device size bytes label holds in
    rw (version_read bytes label.version reads.version, reads.pair_is, reads.locks_is, stores.0, ← holds.limits.of_device) refl

-- The first part that is refused is what the whole is refused with.
pub verdict_kind_err : (device : Device) (size : ℕ) (bytes : List ℕ) (fault : Fault) → judged (kind_checks device size bytes) ≡ Err fault → label_verdict device size bytes ≡ Err fault
unfolding label_verdict
verdict_kind_err device size bytes fault kind = judged-append_err (kind_checks device size bytes) (fields_on device size bytes) fault kind

verdict_fields : (device : Device) (size : ℕ) (bytes : List ℕ) → judged (kind_checks device size bytes) ≡ Ok tt → label_verdict device size bytes ≡ judged (fields_on device size bytes)
unfolding label_verdict
verdict_fields device size bytes kind = judged-append_ok (kind_checks device size bytes) (fields_on device size bytes) kind

pub verdict_fields_err : (device : Device) (size : ℕ) (bytes : List ℕ) (fault : Fault) → judged (kind_checks device size bytes) ≡ Ok tt
    → judged (field_checks (version_in bytes) device size bytes) ≡ Err fault → label_verdict device size bytes ≡ Err fault
verdict_fields_err device size bytes fault kind field =
    verdict_fields device size bytes kind ∙ judged-append_err (field_checks (version_in bytes) device size bytes) (stores_on device size bytes) fault field

verdict_stores : (device : Device) (size : ℕ) (bytes : List ℕ) → judged (kind_checks device size bytes) ≡ Ok tt → judged (field_checks (version_in bytes) device size bytes) ≡ Ok tt
    → label_verdict device size bytes ≡ judged (stores_on device size bytes)
verdict_stores device size bytes kind field =
    verdict_fields device size bytes kind ∙ judged-append_ok (field_checks (version_in bytes) device size bytes) (stores_on device size bytes) field

pub verdict_stores_err : (device : Device) (size : ℕ) (bytes : List ℕ) (fault : Fault) → judged (kind_checks device size bytes) ≡ Ok tt → judged (field_checks (version_in bytes) device size bytes) ≡ Ok tt
    → judged (store_checks device 32 0 (stores_of bytes)) ≡ Err fault → label_verdict device size bytes ≡ Err fault
verdict_stores_err device size bytes fault kind field store =
    verdict_stores device size bytes kind field ∙ judged-append_err (store_checks device 32 0 (stores_of bytes)) (ends_of device size bytes) fault store

-- The end is judged if all before it is passed.
pub verdict_end : (device : Device) (size : ℕ) (bytes : List ℕ) → judged (kind_checks device size bytes) ≡ Ok tt → judged (field_checks (version_in bytes) device size bytes) ≡ Ok tt
    → judged (store_checks device 32 0 (stores_of bytes)) ≡ Ok tt → label_verdict device size bytes ≡ judged (end_checks (version_in bytes) device size bytes (number_at bytes 28 4) (sum (stores_of bytes)))
verdict_end device size bytes kind field store =
    verdict_stores device size bytes kind field ∙ judged-append_ok (store_checks device 32 0 (stores_of bytes)) (ends_of device size bytes) store

-- a label's bytes pass each check
pub holds_verdict : (device : Device) (size : ℕ) (bytes : List ℕ) (label : Label) → HoldsLabel device size bytes label → label_verdict device size bytes ≡ Ok tt
unfolding label_verdict
holds_verdict device size bytes label holds =
    let count = number_at bytes 28 4 in
    let stores = stores_of bytes in
    let limits = holds.limits in
    let reads = reads_of device size bytes label holds in
    let read = stores_read device size bytes label holds in
    let bounds = length_bounds label.version device (sum label.stores) size limits.most_pages limits.as_long in
    let long = length_passes label.version device (sum label.stores) size limits.as_long in
    let v = version_in bytes in
    let same : v ≡ label.version = version_read bytes label.version reads.version in
    let kinds = pass_all (nat_le 4096 size) (slice_index bytes 0 == OPEN) (slice_index bytes 1 == kind_of device) (is_some (version_of (number_at bytes 2 2))) NotFormatted NotFormatted NotFormatted WrongVersion
    (le-leb 4096 size bounds.0) (eq-eqb (slice_index bytes 0) OPEN reads.gate) (eq-eqb (slice_index bytes 1) (kind_of device) reads.kind) (ap (λ (n : ℕ). is_some (version_of n)) reads.version ∙ ap is_some (version_of-number label.version)) in
    let heads = pass_all (number_at bytes 4 4 == page_bytes v) (number_at bytes 16 8 == size && may_be_long v device size) (is_within 16 4096 (number_at bytes 24 4)) (is_within 1 64 count) (Damaged device 4) (Damaged device 16) (Damaged device 24) (Damaged device 28)
    (eq-eqb (number_at bytes 4 4) (page_bytes v) (reads.page ∙ ap page_bytes (sym same))) (and_from (number_at bytes 16 8 == size) (may_be_long v device size) (eq-eqb (number_at bytes 16 8) size (reads.size_is ∙ limits.of_device)) (ap (λ (w : Version). may_be_long w device size) same ∙ long.0))
    (is_within-true 16 4096 (number_at bytes 24 4) (omega (arith, reads.locks_is, limits.least_locks)) (omega (arith, reads.locks_is, limits.most_locks)))
    (is_within-true 1 64 count (omega (arith, reads.count_is, limits.some_store)) (omega (arith, reads.count_is, limits.most_stores))) in
    let pages : judged (store_checks device 32 0 stores) ≡ Ok tt = ap (λ (s : List ℕ). judged (store_checks device 32 0 s)) read.0 ∙ limits_stores device 32 0 label.stores limits.some_page (omega (arith, limits.most_pages)) in
    let last = pass_both (are_zero (drop (32 + 4 * count) bytes)) (is_filled v device (sum stores) size) (Damaged device (32 + 4 * count)) (Damaged device 16)
    read.1 (ap (λ (w : Version). is_filled w device (sum stores) size) same ∙ ap (λ (s : List ℕ). is_filled label.version device (sum s) size) read.0 ∙ long.1) in
    verdict_end device size bytes kinds heads pages ∙ last

-- a device that is too short
pub verdict_short : (device : Device) (size : ℕ) (bytes : List ℕ) → size < 4096 → label_verdict device size bytes ≡ Err NotFormatted
verdict_short device size bytes short =
    let test : nat_le 4096 size ≡ false = grind (arith, nat_tests) in
    verdict_kind_err device size bytes NotFormatted (rw test refl)

pub label_is : (size : ℕ) (bytes : List ℕ) (version : Version) (pair locks : ℕ) (stores : List ℕ) → version ≡ version_in bytes → pair ≡ number_at bytes 8 8 → locks ≡ number_at bytes 24 4 → stores ≡ stores_of bytes
    → let made : Label = record { version = version; pair = pair; length = size; max_locks = locks; stores = stores } in made ≡ label_at size bytes
label_is size bytes version pair locks stores v p l s = rw (v, p, l, s) refl

-- bytes that hold a label are refused by memory alone
pub only_memory : (device : Device) (size : ℕ) (bytes : List ℕ) (label : Label) (fault : Fault) → (fault ≡ Memory) ⊎ (label_verdict device size bytes ≡ Err fault) → HoldsLabel device size bytes label → fault ≡ Memory
only_memory device size bytes label fault (inl memory) holds = memory
only_memory device size bytes label fault (inr refused) holds = let passed = holds_verdict device size bytes label holds in absurd (cc (passed, refused))

stores_no_device : (device : Device) (offset before : ℕ) (stores : List ℕ) → NoDevice (store_checks device offset before stores)
stores_no_device device offset before [] = tt
stores_no_device device offset before (pages ∷ stores) = (λ e. cc, stores_no_device device (offset + 4) (before + pages) stores)

-- no check tells that the device failed
pub verdict_device : (device : Device) (size : ℕ) (bytes : List ℕ) → label_verdict device size bytes ≡ Err faults.Device → ⊥
unfolding label_verdict
verdict_device device size bytes told =
    let stores = stores_of bytes in
    let kinds : NoDevice (kind_checks device size bytes) = (λ e. cc, (λ e. cc, (λ e. cc, (λ e. cc, tt)))) in
    let heads : NoDevice (field_checks (version_in bytes) device size bytes) = (λ e. cc, (λ e. cc, (λ e. cc, (λ e. cc, tt)))) in
    let ends : NoDevice (ends_of device size bytes) = (λ e. cc, (λ e. cc, tt)) in
    judged_device (kind_checks device size bytes ++ fields_on device size bytes)
    (NoDevice-append (kind_checks device size bytes) (fields_on device size bytes) kinds
    (NoDevice-append (field_checks (version_in bytes) device size bytes) (stores_on device size bytes) heads
    (NoDevice-append (store_checks device 32 0 stores) (ends_of device size bytes) (stores_no_device device 32 0 stores) ends))) told

pub decoded_device : (device : Device) (size : ℕ) (bytes : List ℕ) (r : Result Label Fault) → IfErr r (λ fault. (fault ≡ Memory) ⊎ (label_verdict device size bytes ≡ Err fault)) → r ≡ Err faults.Device → ⊥
decoded_device device size bytes (Ok label) refused told = cc
decoded_device device size bytes (Err fault) (inl memory) told = cc (memory, told)
decoded_device device size bytes (Err fault) (inr refused) told = verdict_device device size bytes (cc (refused, told))

-- The two laws of a record: what is read is spelled so, and what is spelled so is read.
use Rattle.std.proofs.Common.{◌≡◌, ◌⊎◌, ℕ, zero, suc, ◌^◌, ◌<◌, ◌≤◌, Bool, true, false, cond, eqb, not, ◌||◌, List, [], ◌∷◌, ◌++◌, ◌-◌, length, take, Option, Some, None, refl, sym, ap, subst, ◌∙◌, append_assoc, arith, inl, inr}
use Rattle.std.specs.Prelude.{◌&&◌, IsSome, is_some}
use Rattle.std.proofs.lemmas.Bool.{and_parts, eqb-true, ne_eqb}
use Rattle.std.proofs.lemmas.List.{nil_from_length, length-append, take_at}
use Rattle.byteorder.specs.Endian.{little_bytes}
use Rattle.shore_types.specs.declared.ids.Rid.{Rid}
use Rattle.shore_types.specs.Images.{Image}
use Rattle.shore_types.specs.declared.layout.TheConstants.{MAX_POOL_FRAMES, MAX_TRANSACTIONS, MOST_MAX_LOCKS}
use Rattle.shore_types.specs.declared.locking.Granule.{Granule}
use Rattle.shore_types.specs.Locking.{granule_cmp, granules_total}
use Rattle.shore_model.specs.declared.log_records.DirtyPage.{DirtyPage}
use Rattle.shore_model.specs.declared.log_records.LogRecord.{LogRecord}
use Rattle.shore_model.specs.declared.log_records.LogTxn.{LogTxn}
use Rattle.shore_model.specs.declared.log_records.Payload.{Payload}
use Rattle.shore_model.specs.declared.log_records.Payload.TheVariants.{Change, Compensation, Commit, End, Prepare, RollbackDecided, CheckpointBegin, CheckpointEnd, Anchor}
use Rattle.shore_logrec.specs.declared.reading.Head.{Head}
use Rattle.shore_logrec.specs.Text.{anchor_text, checkpoint_text, dirty_cmp, dirty_text, granule_text, prepare_text, PrepareFits, rid_text, string_text, image_text, change_text, compensation_text, payload_text, kind_of, head_text, table_text, text, txn_text, RidFits, ImageFits, ChangeFits, CheckpointFits, CompensationFits, DirtyFits, GranuleFits, HasOwner, PayloadFits, TxnFits, Fits}
use Rattle.shore_logrec.specs.Reading.{anchor_at, anchor_of, dirty_at, dirty_before, end_at, end_fields_at, end_of, global_at, granule_at, granule_before, has_owner, prepare_at, prepare_fields_at, prepare_of, table_at, txn_at, txn_before, ◌>>=◌, pair_at, made_at, whole, byte_at, number_at, string_at, image_at, rid_at, change_fields_at, change_of, change_at, compensation_fields_at, compensation_of, compensation_at, empty_at, payload_at, head_of, front_at, record_of, record_at}
use Rattle.shore_logrec.proofs.Numbers.{IsBytes}
use Rattle.shore_logrec.proofs.Readers.{IsReader, IsBytes-behind, IsBytes-front, bind_some, some_is, guard_kept, pair_reads, made_reads, whole_takes, whole_again, byte_reads, number_reads, string_reads, image_reads, rid_reads}
use Rattle.shore_logrec.proofs.Granules.{IsName, global_reads, granule_reads}
use Rattle.shore_logrec.proofs.TableReads.{IsTableOf, above_from_rise, rise_from_above, rise_from_sorted, sorted_from_rise, table_reads}
use Rattle.shore_logrec.proofs.Entries.{above_none, dirty_reads, dirty_total, txn_reads}
use Rattle.shore_logrec.proofs.TextLengths.{length-checkpoint_text, length-prepare_text, length-image_text, length-change_text, length-compensation_text}

some_one : (a b : Image) → (is_some a || is_some b) ≡ true → IsSome a ⊎ IsSome b
some_one (Some a) b e = inl refl
some_one None (Some b) e = inr refl
some_one None None e = absurd cc

one_some : (a b : Image) → IsSome a ⊎ IsSome b → (is_some a || is_some b) ≡ true
one_some (Some a) b e = refl
one_some None (Some b) e = refl
one_some None None (inl e) = absurd cc
one_some None None (inr e) = absurd cc

-- these bytes are the payload, and the kind is its kind
pub record Says (kind : ℕ) (bytes : List ℕ) (p : Payload) : Type 0 where
  pub kind_is : kind ≡ kind_of p
  pub parts : bytes ≡ payload_text p
  pub fits : PayloadFits p

-- ---- a Change

change_fields_read : IsReader change_fields_at (λ x. (rid_text x.0.0 ++ image_text x.0.1) ++ image_text x.1) (λ x. (RidFits x.0.0 × ImageFits x.0.1) × ImageFits x.1)
unfolding change_fields_at
change_fields_read =
    pair_reads (pair_at rid_at image_at) image_at (λ x. rid_text x.0 ++ image_text x.1) image_text (λ x. RidFits x.0 × ImageFits x.1) ImageFits
    (pair_reads rid_at image_at rid_text image_text RidFits ImageFits rid_reads image_reads) image_reads

change_takes : (bytes : List ℕ) (p : Payload) → IsBytes bytes → change_at bytes ≡ Some p → Says 1 bytes p
unfolding change_at
change_takes bytes p fits e =
    let x = bind_some (whole change_fields_at bytes) change_of p e in
    let t = whole_takes change_fields_at (λ x. (rid_text x.0.0 ++ image_text x.0.1) ++ image_text x.1) (λ x. (RidFits x.0.0 × ImageFits x.0.1) × ImageFits x.1) change_fields_read bytes x.0 fits x.1 in
    let g = guard_kept (is_some x.0.0.1 || is_some x.0.1) (Change x.0.0.0 x.0.0.1 x.0.1) p x.2 in
    subst (Says 1 bytes) g.1 (record { kind_is = refl; parts = t.0; fits = record { rid = t.1.0.0; old = t.1.0.1; new = t.1.1; some = some_one x.0.0.1 x.0.1 g.0 } })

change_again : (id : Rid) (before after : Image) → ChangeFits id before after → change_at (change_text id before after) ≡ Some (Change id before after)
unfolding change_at
change_again id before after fits =
    let read = whole_again change_fields_at (λ x. (rid_text x.0.0 ++ image_text x.0.1) ++ image_text x.1) (λ x. (RidFits x.0.0 × ImageFits x.0.1) × ImageFits x.1) change_fields_read ((id, before), after) ((fits.rid, fits.old), fits.new) in
    rw (read, one_some before after fits.some) refl

-- ---- a Compensation

compensation_fields_read : IsReader compensation_fields_at (λ x. (rid_text x.0.0 ++ image_text x.0.1) ++ little_bytes 8 x.1) (λ x. (RidFits x.0.0 × ImageFits x.0.1) × (x.1 < 2 ^ 64))
unfolding compensation_fields_at
compensation_fields_read =
    pair_reads (pair_at rid_at image_at) (number_at 8) (λ x. rid_text x.0 ++ image_text x.1) (little_bytes 8) (λ x. RidFits x.0 × ImageFits x.1) (λ n. n < 2 ^ 64)
    (pair_reads rid_at image_at rid_text image_text RidFits ImageFits rid_reads image_reads) (number_reads 8)

compensation_takes : (bytes : List ℕ) (p : Payload) → IsBytes bytes → compensation_at bytes ≡ Some p → Says 2 bytes p
unfolding compensation_at
compensation_takes bytes p fits e =
    let x = bind_some (whole compensation_fields_at bytes) compensation_of p e in
    let t = whole_takes compensation_fields_at (λ x. (rid_text x.0.0 ++ image_text x.0.1) ++ little_bytes 8 x.1) (λ x. (RidFits x.0.0 × ImageFits x.0.1) × (x.1 < 2 ^ 64)) compensation_fields_read bytes x.0 fits x.1 in
    subst (Says 2 bytes) (some_is (Compensation x.0.0.0 x.0.0.1 x.0.1) p x.2) (record { kind_is = refl; parts = t.0; fits = record { rid = t.1.0.0; image = t.1.0.1; next = t.1.1 } })

compensation_again : (id : Rid) (after : Image) (undo_next : ℕ) → CompensationFits id after undo_next
    → compensation_at (compensation_text id after undo_next) ≡ Some (Compensation id after undo_next)
unfolding compensation_at
compensation_again id after undo_next fits =
    let read = whole_again compensation_fields_at (λ x. (rid_text x.0.0 ++ image_text x.0.1) ++ little_bytes 8 x.1) (λ x. (RidFits x.0.0 × ImageFits x.0.1) × (x.1 < 2 ^ 64)) compensation_fields_read ((id, after), undo_next) ((fits.rid, fits.image), fits.next) in
    rw read refl

-- ---- a Prepare

abbrev PrepareParts : List ℕ × List Granule → Type 0
PrepareParts x = IsName x.0 × IsTableOf MOST_MAX_LOCKS granule_before GranuleFits x.1

prepare_fields_read : IsReader prepare_fields_at (λ x. string_text 1 x.0 ++ table_text 4 granule_text x.1) PrepareParts
unfolding prepare_fields_at
prepare_fields_read =
    pair_reads global_at (table_at 4 MOST_MAX_LOCKS granule_at granule_before) (string_text 1) (table_text 4 granule_text) IsName (IsTableOf MOST_MAX_LOCKS granule_before GranuleFits)
    global_reads (table_reads granule_at granule_before granule_text GranuleFits granule_reads 4 MOST_MAX_LOCKS (omega arith))

prepare_takes : (bytes : List ℕ) (p : Payload) → IsBytes bytes → prepare_at bytes ≡ Some p → Says 5 bytes p
unfolding prepare_at
prepare_takes bytes p fits e =
    let x = bind_some (whole prepare_fields_at bytes) prepare_of p e in
    let t = whole_takes prepare_fields_at (λ x. string_text 1 x.0 ++ table_text 4 granule_text x.1) PrepareParts prepare_fields_read bytes x.0 fits x.1 in
    let prepare : PrepareFits x.0.0 x.0.1 = record {
      some = t.1.0.some;
      short = t.1.0.short;
      few = t.1.1.few;
      granules_fit = t.1.1.fit;
      rising = sorted_from_rise granule_cmp granules_total x.0.1 t.1.1.rise;
    } in
    subst (Says 5 bytes) (some_is (Prepare x.0.0 x.0.1) p x.2) (record { kind_is = refl; parts = t.0; fits = prepare })

prepare_again : (global : List ℕ) (granules : List Granule) → PrepareFits global granules → prepare_at (prepare_text global granules) ≡ Some (Prepare global granules)
unfolding prepare_at
prepare_again global granules fits =
    let read = whole_again prepare_fields_at (λ x. string_text 1 x.0 ++ table_text 4 granule_text x.1) PrepareParts prepare_fields_read (global, granules)
    (record { some = fits.some; short = fits.short }, record { few = fits.few; fit = fits.granules_fit; rise = rise_from_sorted granule_cmp granules_total granules fits.rising }) in
    rw read refl

-- ---- an End of a checkpoint

abbrev EndParts : ((ℕ × ℕ) × List LogTxn) × List DirtyPage → Type 0
EndParts x = (((x.0.0.0 < 2 ^ 64) × (x.0.0.1 < 2 ^ 64)) × IsTableOf MAX_TRANSACTIONS txn_before TxnFits x.0.1) × IsTableOf MAX_POOL_FRAMES dirty_before DirtyFits x.1

abbrev end_spelled : ((ℕ × ℕ) × List LogTxn) × List DirtyPage → List ℕ
end_spelled x = ((little_bytes 8 x.0.0.0 ++ little_bytes 8 x.0.0.1) ++ table_text 2 txn_text x.0.1) ++ table_text 2 dirty_text x.1

end_fields_read : IsReader end_fields_at end_spelled EndParts
unfolding end_fields_at
end_fields_read =
    let numbers = pair_at (number_at 8) (number_at 8) in
    let txns = table_at 2 MAX_TRANSACTIONS txn_at txn_before in
    let two = λ (x : ℕ × ℕ). little_bytes 8 x.0 ++ little_bytes 8 x.1 in
    let three = λ (x : (ℕ × ℕ) × List LogTxn). (little_bytes 8 x.0.0 ++ little_bytes 8 x.0.1) ++ table_text 2 txn_text x.1 in
    pair_reads (pair_at numbers txns) (table_at 2 MAX_POOL_FRAMES dirty_at dirty_before) three (table_text 2 dirty_text)
    (λ x. ((x.0.0 < 2 ^ 64) × (x.0.1 < 2 ^ 64)) × IsTableOf MAX_TRANSACTIONS txn_before TxnFits x.1) (IsTableOf MAX_POOL_FRAMES dirty_before DirtyFits)
    (pair_reads numbers txns two (table_text 2 txn_text) (λ x. (x.0 < 2 ^ 64) × (x.1 < 2 ^ 64)) (IsTableOf MAX_TRANSACTIONS txn_before TxnFits)
    (pair_reads (number_at 8) (number_at 8) (little_bytes 8) (little_bytes 8) (λ n. n < 2 ^ 64) (λ n. n < 2 ^ 64) (number_reads 8) (number_reads 8))
    (table_reads txn_at txn_before txn_text TxnFits txn_reads 2 MAX_TRANSACTIONS (omega arith)))
    (table_reads dirty_at dirty_before dirty_text DirtyFits dirty_reads 2 MAX_POOL_FRAMES (omega arith))

end_takes : (bytes : List ℕ) (p : Payload) → IsBytes bytes → end_at bytes ≡ Some p → Says 8 bytes p
unfolding end_at
end_takes bytes p fits e =
    let x = bind_some (whole end_fields_at bytes) end_of p e in
    let t = whole_takes end_fields_at end_spelled EndParts end_fields_read bytes x.0 fits x.1 in
    let checkpoint : CheckpointFits x.0.0.0.0 x.0.0.0.1 x.0.0.1 x.0.1 = record {
      begin_fits = t.1.0.0.0;
      next_fits = t.1.0.0.1;
      few_txns = t.1.0.1.few;
      txns_fit = t.1.0.1.fit;
      txns_rise = above_from_rise x.0.0.1 TxnFits above_none t.1.0.1.fit t.1.0.1.rise;
      few_pages = t.1.1.few;
      pages_fit = t.1.1.fit;
      pages_rise = sorted_from_rise dirty_cmp dirty_total x.0.1 t.1.1.rise;
    } in
    subst (Says 8 bytes) (some_is (CheckpointEnd x.0.0.0.0 x.0.0.0.1 x.0.0.1 x.0.1) p x.2) (record { kind_is = refl; parts = t.0; fits = checkpoint })

end_again : (begin next : ℕ) (txns : List LogTxn) (dirty : List DirtyPage) → CheckpointFits begin next txns dirty
    → end_at (checkpoint_text begin next txns dirty) ≡ Some (CheckpointEnd begin next txns dirty)
unfolding end_at
end_again begin next txns dirty fits =
    let ts : IsTableOf MAX_TRANSACTIONS txn_before TxnFits txns = record { few = fits.few_txns; fit = fits.txns_fit; rise = rise_from_above txns fits.txns_rise } in
    let ds : IsTableOf MAX_POOL_FRAMES dirty_before DirtyFits dirty = record { few = fits.few_pages; fit = fits.pages_fit; rise = rise_from_sorted dirty_cmp dirty_total dirty fits.pages_rise } in
    let read = whole_again end_fields_at end_spelled EndParts end_fields_read (((begin, next), txns), dirty) (((fits.begin_fits, fits.next_fits), ts), ds) in
    rw read refl

-- ---- an Anchor

two_numbers_read : IsReader (pair_at (number_at 8) (number_at 8)) (λ n. little_bytes 8 n.0 ++ little_bytes 8 n.1) (λ n. (n.0 < 2 ^ 64) × (n.1 < 2 ^ 64))
two_numbers_read = pair_reads (number_at 8) (number_at 8) (little_bytes 8) (little_bytes 8) (λ n. n < 2 ^ 64) (λ n. n < 2 ^ 64) (number_reads 8) (number_reads 8)

anchor_takes : (bytes : List ℕ) (p : Payload) → IsBytes bytes → anchor_at bytes ≡ Some p → Says 9 bytes p
unfolding anchor_at
anchor_takes bytes p fits e =
    let x = bind_some (whole (pair_at (number_at 8) (number_at 8)) bytes) anchor_of p e in
    let t = whole_takes (pair_at (number_at 8) (number_at 8)) (λ n. little_bytes 8 n.0 ++ little_bytes 8 n.1) (λ n. (n.0 < 2 ^ 64) × (n.1 < 2 ^ 64)) two_numbers_read bytes x.0 fits x.1 in
    subst (Says 9 bytes) (some_is (Anchor x.0.0 x.0.1) p x.2) (record { kind_is = refl; parts = t.0; fits = t.1 })

anchor_again : (checkpoint tail : ℕ) → checkpoint < 2 ^ 64 → tail < 2 ^ 64 → anchor_at (anchor_text checkpoint tail) ≡ Some (Anchor checkpoint tail)
unfolding anchor_at
anchor_again checkpoint tail c t =
    let read = whole_again (pair_at (number_at 8) (number_at 8)) (λ n. little_bytes 8 n.0 ++ little_bytes 8 n.1) (λ n. (n.0 < 2 ^ 64) × (n.1 < 2 ^ 64)) two_numbers_read (checkpoint, tail) (c, t) in
    rw read refl

-- ---- payloads

-- what was read is of the kind that is tested, or of another
by_kind : (kind n : ℕ) (bytes : List ℕ) (p : Payload) (here behind : Option Payload) → cond (eqb kind n) here behind ≡ Some p
    → (here ≡ Some p → Says n bytes p) → (behind ≡ Some p → Says kind bytes p) → Says kind bytes p
by_kind kind n bytes p here behind e is other =
    go (eqb kind n) e (λ test found. subst (λ (k : ℕ). Says k bytes p) (sym (eqb-true _ _ test)) (is found))
  where
    go : (test : Bool) → cond test here behind ≡ Some p → (test ≡ true → here ≡ Some p → Says kind bytes p) → Says kind bytes p
    go true e same = same refl e
    go false e same = other e

-- a payload of no bytes
empty_takes : (kind : ℕ) (empty : Payload) → kind ≡ kind_of empty → payload_text empty ≡ [] → PayloadFits empty
    → (bytes : List ℕ) (p : Payload) → empty_at empty bytes ≡ Some p → Says kind bytes p
empty_takes kind empty kind_is nothing fits bytes p e =
    let g = guard_kept (eqb (length bytes) 0) empty p e in
    subst (Says kind bytes) g.1 (record { kind_is = kind_is; parts = nil_from_length bytes (eqb-true _ _ g.0) ∙ sym nothing; fits = fits })

payload_takes : (kind : ℕ) (bytes : List ℕ) (p : Payload) → IsBytes bytes → payload_at kind bytes ≡ Some p → Says kind bytes p
unfolding payload_at
payload_takes kind bytes p fits e =
    let ninth = cond (eqb kind 9) (anchor_at bytes) None in
    let eighth = cond (eqb kind 8) (end_at bytes) ninth in
    let seventh = cond (eqb kind 7) (empty_at CheckpointBegin bytes) eighth in
    let sixth = cond (eqb kind 6) (empty_at RollbackDecided bytes) seventh in
    let fifth = cond (eqb kind 5) (prepare_at bytes) sixth in
    let fourth = cond (eqb kind 4) (empty_at End bytes) fifth in
    let third = cond (eqb kind 3) (empty_at Commit bytes) fourth in
    let second = cond (eqb kind 2) (compensation_at bytes) third in
    by_kind kind 1 bytes p (change_at bytes) second e (change_takes bytes p fits)
    (λ e. by_kind kind 2 bytes p (compensation_at bytes) third e (compensation_takes bytes p fits)
    (λ e. by_kind kind 3 bytes p (empty_at Commit bytes) fourth e (empty_takes 3 Commit refl refl tt bytes p)
    (λ e. by_kind kind 4 bytes p (empty_at End bytes) fifth e (empty_takes 4 End refl refl tt bytes p)
    (λ e. by_kind kind 5 bytes p (prepare_at bytes) sixth e (prepare_takes bytes p fits)
    (λ e. by_kind kind 6 bytes p (empty_at RollbackDecided bytes) seventh e (empty_takes 6 RollbackDecided refl refl tt bytes p)
    (λ e. by_kind kind 7 bytes p (empty_at CheckpointBegin bytes) eighth e (empty_takes 7 CheckpointBegin refl refl tt bytes p)
    (λ e. by_kind kind 8 bytes p (end_at bytes) ninth e (end_takes bytes p fits)
    (λ e. by_kind kind 9 bytes p (anchor_at bytes) None e (anchor_takes bytes p fits)
    (λ e. absurd cc)))))))))

payload_again : (p : Payload) → PayloadFits p → payload_at (kind_of p) (payload_text p) ≡ Some p
unfolding payload_at
payload_again (Change id before after) fits = change_again id before after fits
payload_again (Compensation id after undo_next) fits = compensation_again id after undo_next fits
payload_again Commit fits = refl
payload_again End fits = refl
payload_again (Prepare global granules) fits = prepare_again global granules fits
payload_again RollbackDecided fits = refl
payload_again CheckpointBegin fits = refl
payload_again (CheckpointEnd begin next txns dirty) fits = end_again begin next txns dirty fits
payload_again (Anchor checkpoint tail) fits = anchor_again checkpoint tail fits.0 fits.1

image_most : (image : Image) → ImageFits image → length (image_text image) ≤ 12003
image_most None fits = omega arith
image_most (Some bytes) fits = omega (arith, length-image_text (Some bytes))

-- a payload has at most 45,125 bytes
pub length-payload_text-le : (p : Payload) → PayloadFits p → length (payload_text p) ≤ 45316
length-payload_text-le (Change id before after) fits =
    omega (arith, length-change_text id before after, image_most before fits.old, image_most after fits.new)
length-payload_text-le (Compensation id after undo_next) fits = omega (arith, length-compensation_text id after undo_next, image_most after fits.image)
length-payload_text-le Commit fits = omega arith
length-payload_text-le End fits = omega arith
length-payload_text-le (Prepare global granules) fits = omega (arith, length-prepare_text global granules, fits.short, fits.few)
length-payload_text-le RollbackDecided fits = omega arith
length-payload_text-le CheckpointBegin fits = omega arith
length-payload_text-le (CheckpointEnd begin next txns dirty) fits = omega (arith, length-checkpoint_text begin next txns dirty, fits.few_txns, fits.few_pages)
length-payload_text-le (Anchor checkpoint tail) fits = omega arith

-- ---- a head and the bytes of a payload

abbrev front_text : Head × List ℕ → List ℕ
front_text x = (((x.0.kind ∷ []) ++ little_bytes 8 x.0.txn) ++ little_bytes 8 x.0.previous) ++ string_text 4 x.1

abbrev FrontFits : Head × List ℕ → Type 0
FrontFits x = (((x.0.kind < 256) × (x.0.txn < 2 ^ 64)) × (x.0.previous < 2 ^ 64)) × (length x.1 < 2 ^ 32)

front_reads : IsReader front_at front_text FrontFits
unfolding front_at
front_reads =
    pair_reads (made_at head_of (pair_at (pair_at byte_at (number_at 8)) (number_at 8))) (string_at 4)
    (λ h. ((h.kind ∷ []) ++ little_bytes 8 h.txn) ++ little_bytes 8 h.previous) (string_text 4)
    (λ h. ((h.kind < 256) × (h.txn < 2 ^ 64)) × (h.previous < 2 ^ 64)) (λ s. length s < 2 ^ 32)
    (made_reads head_of (λ h. ((h.kind, h.txn), h.previous)) (pair_at (pair_at byte_at (number_at 8)) (number_at 8))
    (λ n. ((n.0.0 ∷ []) ++ little_bytes 8 n.0.1) ++ little_bytes 8 n.1) (λ n. ((n.0.0 < 256) × (n.0.1 < 2 ^ 64)) × (n.1 < 2 ^ 64)) (λ h. refl) (λ n. refl)
    (pair_reads (pair_at byte_at (number_at 8)) (number_at 8) (λ n. (n.0 ∷ []) ++ little_bytes 8 n.1) (little_bytes 8) (λ n. (n.0 < 256) × (n.1 < 2 ^ 64)) (λ n. n < 2 ^ 64)
    (pair_reads byte_at (number_at 8) (λ b. b ∷ []) (little_bytes 8) (λ b. b < 256) (λ n. n < 2 ^ 64) byte_reads (number_reads 8)) (number_reads 8)))
    (string_reads 4)

-- ---- records

-- a head and a payload's bytes, if they are a record's, are its text
front_is : (head : Head) (bytes : List ℕ) (p : Payload) → head.kind ≡ kind_of p → bytes ≡ payload_text p → front_text (head, bytes) ≡ text (record_of head p)
unfolding string_text head_text text
front_is head bytes p kind_is parts =
    ap (λ (k : ℕ). (((k ∷ []) ++ little_bytes 8 head.txn) ++ little_bytes 8 head.previous) ++ (little_bytes 4 (length bytes) ++ bytes)) kind_is
    ∙ ap (λ (l : List ℕ). (((kind_of p ∷ []) ++ little_bytes 8 head.txn) ++ little_bytes 8 head.previous) ++ (little_bytes 4 (length l) ++ l)) parts
    ∙ sym (append_assoc (((kind_of p ∷ []) ++ little_bytes 8 head.txn) ++ little_bytes 8 head.previous) (little_bytes 4 (length (payload_text p))) (payload_text p))

-- the records of a checkpoint are of no transaction, and each other is of one
not_zero : (n : ℕ) → not (eqb n 0) ≡ true → 1 ≤ n
not_zero zero e = absurd cc
not_zero (suc n) e = omega arith

zero_not : (n : ℕ) → 1 ≤ n → not (eqb n 0) ≡ true
zero_not n h = ap not (ne_eqb n 0 (λ e. omega arith))

both_zero : (a b : ℕ) → (eqb a 0 && eqb b 0) ≡ true → (a ≡ 0) × (b ≡ 0)
both_zero a b e = let k = and_parts _ _ e in (eqb-true _ _ k.0, eqb-true _ _ k.1)

zero_both : (a b : ℕ) → (a ≡ 0) × (b ≡ 0) → (eqb a 0 && eqb b 0) ≡ true
zero_both a b h = rw (h.0, h.1) refl

owner_kind : (kind txn previous : ℕ) (p : Payload) → kind ≡ kind_of p → has_owner record { kind = kind; txn = txn; previous = previous } ≡ true → HasOwner p txn previous
owner_kind kind txn previous p is e = by_payload p (sym (ap (λ (k : ℕ). has_owner record { kind = k; txn = txn; previous = previous }) is) ∙ e)
  where
    by_payload : (p : Payload) → has_owner record { kind = kind_of p; txn = txn; previous = previous } ≡ true → HasOwner p txn previous
    by_payload (Change id before after) e = not_zero txn e
    by_payload (Compensation id after undo_next) e = not_zero txn e
    by_payload Commit e = not_zero txn e
    by_payload End e = not_zero txn e
    by_payload (Prepare global granules) e = not_zero txn e
    by_payload RollbackDecided e = not_zero txn e
    by_payload CheckpointBegin e = both_zero txn previous e
    by_payload (CheckpointEnd begin next txns dirty) e = both_zero txn previous e
    by_payload (Anchor checkpoint tail) e = both_zero txn previous e

owner_of : (head : Head) (p : Payload) → head.kind ≡ kind_of p → has_owner head ≡ true → HasOwner p head.txn head.previous
owner_of head p is e = owner_kind head.kind head.txn head.previous p is e

owner_again : (txn previous : ℕ) (p : Payload) → HasOwner p txn previous → has_owner record { kind = kind_of p; txn = txn; previous = previous } ≡ true
owner_again txn previous (Change id before after) h = zero_not txn h
owner_again txn previous (Compensation id after undo_next) h = zero_not txn h
owner_again txn previous Commit h = zero_not txn h
owner_again txn previous End h = zero_not txn h
owner_again txn previous (Prepare global granules) h = zero_not txn h
owner_again txn previous RollbackDecided h = zero_not txn h
owner_again txn previous CheckpointBegin h = zero_both txn previous h
owner_again txn previous (CheckpointEnd begin next txns dirty) h = zero_both txn previous h
owner_again txn previous (Anchor checkpoint tail) h = zero_both txn previous h

pub record_takes : (bytes : List ℕ) (r : LogRecord) (rest : List ℕ) → IsBytes bytes → record_at bytes ≡ Some (r, rest) → (bytes ≡ text r ++ rest) × Fits r
unfolding record_at string_text
record_takes bytes r rest fits e =
    let x = bind_some (front_at bytes) (λ front. payload_at front.0.0.kind front.0.1 >>= λ p. cond (has_owner front.0.0) (Some (record_of front.0.0 p, front.1)) None) (r, rest) e in
    let y = bind_some (payload_at x.0.0.0.kind x.0.0.1) (λ p. cond (has_owner x.0.0.0) (Some (record_of x.0.0.0 p, x.0.1)) None) (r, rest) x.2 in
    let g = guard_kept (has_owner x.0.0.0) (record_of x.0.0.0 y.0, x.0.1) (r, rest) y.2 in
    let front = front_reads.takes bytes x.0.0 x.0.1 fits x.1 in
    let numbers : List ℕ = ((x.0.0.0.kind ∷ []) ++ little_bytes 8 x.0.0.0.txn) ++ little_bytes 8 x.0.0.0.previous in
    let inner : bytes ≡ (numbers ++ little_bytes 4 (length x.0.0.1)) ++ (x.0.0.1 ++ x.0.1) =
    front.0 ∙ ap (λ (l : List ℕ). l ++ x.0.1) (sym (append_assoc numbers (little_bytes 4 (length x.0.0.1)) x.0.0.1)) ∙ append_assoc (numbers ++ little_bytes 4 (length x.0.0.1)) x.0.0.1 x.0.1 in
    let payload_fits : IsBytes x.0.0.1 = IsBytes-front x.0.0.1 x.0.1 (IsBytes-behind (numbers ++ little_bytes 4 (length x.0.0.1)) (x.0.0.1 ++ x.0.1) bytes inner fits) in
    let says = payload_takes x.0.0.0.kind x.0.0.1 y.0 payload_fits y.1 in
    let spelled : bytes ≡ text (record_of x.0.0.0 y.0) ++ x.0.1 = front.0 ∙ ap (λ (l : List ℕ). l ++ x.0.1) (front_is x.0.0.0 x.0.0.1 y.0 says.kind_is says.parts) in
    let there : Fits (record_of x.0.0.0 y.0) = record { owner = owner_of x.0.0.0 y.0 says.kind_is g.0; txn_fits = front.1.0.0.1; previous_fits = front.1.0.1; payload_fits = says.fits } in
    subst (λ (v : LogRecord × List ℕ). (bytes ≡ text v.0 ++ v.1) × Fits v.0) g.1 (spelled, there)

pub record_again : (r : LogRecord) (rest : List ℕ) → Fits r → record_at (text r ++ rest) ≡ Some (r, rest)
unfolding record_at
record_again r rest fits =
    let head : Head = record { kind = kind_of r.payload; txn = r.txn; previous = r.previous } in
    let front = front_reads.again (head, payload_text r.payload) rest (((kind_fits r.payload, fits.txn_fits), fits.previous_fits), omega (arith, length-payload_text-le r.payload fits.payload_fits)) in
    let owner : has_owner head ≡ true = owner_again r.txn r.previous r.payload fits.owner in
    ap (λ (l : List ℕ). record_at (l ++ rest)) (sym (front_is head (payload_text r.payload) r.payload refl refl)) ∙ rw (front, payload_again r.payload fits.payload_fits, owner) refl
  where
    kind_fits : (p : Payload) → kind_of p < 256
    kind_fits (Change id before after) = omega arith
    kind_fits _ = omega arith

-- the front that is left when what comes behind it is taken away
pub front_taken : (bytes front rest : List ℕ) → bytes ≡ front ++ rest → (length bytes - length rest ≤ length bytes) × (take (length bytes - length rest) bytes ≡ front)
front_taken bytes front rest parts =
    let n_is : length front ≡ length bytes - length rest = omega (arith, length-append front rest, ap (λ (l : List ℕ). length l) parts) in
    (omega (arith, n_is), ap (take (length bytes - length rest)) parts ∙ take_at front rest (length bytes - length rest) n_is)

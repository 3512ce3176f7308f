-- Whether a record has a text, as a test and as it is stated.
use Rattle.std.proofs.Common.{◌≡◌, ◌<◌, ◌≤◌, ◌^◌, ◌⊎◌, inl, inr, ℕ, List, [], ◌∷◌, Some, None, IsTrue, Bool, true, false, ◌&&◌, ◌||◌, refl, ap, arith}
use Rattle.std.specs.Prelude.{◌==◌, IsSome, is_some, nat_lt, nat_le, All}
use Rattle.std.specs.List.{AllByRecursion, list_all}
use Rattle.std.specs.List.Sorted.{IsStrictlySortedBy}
use Rattle.std.specs.Ordering.{is_lt}
use Rattle.std.specs.declared.cmp.Ordering.{Ordering}
use Rattle.std.specs.declared.cmp.Ordering.TheVariants.{Less, Equal, Greater}
use Rattle.std.proofs.lemmas.Bool.{eq-eqb, eqb-true}
use Rattle.std.proofs.lemmas.Bool.Decides.{nat_tests}
use Rattle.std.proofs.lemmas.List.Elements.{All-nil, All-cons, All-head, All-tail}
use Rattle.shore_types.specs.declared.ids.Rid.{Rid}
use Rattle.shore_types.specs.declared.locking.Granule.{Granule}
use Rattle.shore_types.specs.Images.{Image}
use Rattle.shore_types.specs.Locking.{granule_cmp, ids_of}
use Rattle.shore_model.specs.declared.log_records.DirtyPage.{DirtyPage}
use Rattle.shore_model.specs.declared.log_records.LogRecord.{LogRecord}
use Rattle.shore_model.specs.declared.log_records.LogTxn.{LogTxn}
use Rattle.shore_model.specs.declared.log_records.Payload.{Payload}
use Rattle.shore_model.specs.declared.log_records.Payload.TheVariants.{Change, Compensation, Commit, End, Prepare, RollbackDecided, CheckpointBegin, CheckpointEnd, Anchor}
use Rattle.shore_logrec.specs.Text.{CheckpointFits, DirtyFits, Fits, GranuleFits, HasOwner, ImageFits, PayloadFits, PrepareFits, RidFits, TxnFits, dirty_cmp}
use Rattle.shore_frames.specs.LoggedRecords.{are_rising, has_owner, has_text, id_is_short, image_is_short, page_is_short, pages_have_text, payload_has_text, prepare_has_text, txn_is_short, txns_have_text}

pub both : (a b : Bool) → IsTrue a → IsTrue b → IsTrue (a && b)
both true true ha hb = refl
both true false ha hb = hb
both false b ha hb = ha

pub lt_test : (a b : ℕ) → a < b → IsTrue (nat_lt a b)
lt_test a b h = grind (arith, nat_tests)

pub test_lt : (a b : ℕ) → IsTrue (nat_lt a b) → a < b
test_lt a b h = grind (arith, nat_tests)

pub le_test : (a b : ℕ) → a ≤ b → IsTrue (nat_le a b)
le_test a b h = grind (arith, nat_tests)

test_le : (a b : ℕ) → IsTrue (nat_le a b) → a ≤ b
test_le a b h = grind (arith, nat_tests)

pub first : (a b : Bool) → IsTrue (a && b) → IsTrue a
first true b h = refl
first false b h = h

pub second : (a b : Bool) → IsTrue (a && b) → IsTrue b
second true b h = h
second false b h = absurd cc

one : (before after : Image) → IsSome before ⊎ IsSome after → IsTrue (is_some before || is_some after)
one (Some b) after h = refl
one None (Some a) h = refl
one None None (inl h) = absurd cc
one None None (inr h) = absurd cc

either : (before after : Image) → IsTrue (is_some before || is_some after) → IsSome before ⊎ IsSome after
either (Some b) after h = inl refl
either None (Some a) h = inr refl
either None None h = absurd cc

image_short : (image : Image) → ImageFits image → IsTrue (image_is_short image)
image_short None fits = refl
image_short (Some bytes) fits = grind (arith, nat_tests)

image_fits : (image : Image) → IsTrue (image_is_short image) → ImageFits image
image_fits None short = tt
image_fits (Some bytes) short = grind (arith, nat_tests)

id_short : (id : Rid) → RidFits id → IsTrue (id_is_short id)
id_short id fits = both _ _ (both _ _ (lt_test _ _ fits.store) (lt_test _ _ fits.page)) (lt_test _ _ fits.slot)

id_fits : (id : Rid) → IsTrue (id_is_short id) → RidFits id
id_fits id short =
    let a = first _ _ short in
    let store : IsTrue (nat_lt id.page.store (2 ^ 32)) = first _ _ a in
    let page : IsTrue (nat_lt id.page.page (2 ^ 32)) = second _ _ a in
    let slot : IsTrue (nat_lt id.slot (2 ^ 16)) = second _ _ short in
    record { store = grind (arith, nat_tests, store); page = grind (arith, nat_tests, page); slot = grind (arith, nat_tests, slot) }

module _ {A : Type 0} (cmp : A → A → Ordering) where
  rising_test : (xs : List A) → IsStrictlySortedBy cmp xs → IsTrue (are_rising cmp xs)
  unfolding IsStrictlySortedBy
  rising_test [] rise = refl
  rising_test (x ∷ xs) rise = both _ _ (all xs rise.0) (rising_test xs rise.1)
    where
      all : (ys : List A) → AllByRecursion (λ y. cmp x y ≡ Less) ys → IsTrue (list_all (λ y. is_lt (cmp x y)) ys)
      all [] below = refl
      all (y ∷ ys) below = both _ _ (ap is_lt below.0) (all ys below.1)

  test_rising : (xs : List A) → IsTrue (are_rising cmp xs) → IsStrictlySortedBy cmp xs
  unfolding IsStrictlySortedBy
  test_rising [] rise = tt
  test_rising (x ∷ xs) rise = (all xs (first _ _ rise), test_rising xs (second _ _ rise))
    where
      less : (o : Ordering) → IsTrue (is_lt o) → o ≡ Less
      less Less e = refl
      less Equal e = absurd cc
      less Greater e = absurd cc

      all : (ys : List A) → IsTrue (list_all (λ y. is_lt (cmp x y)) ys) → AllByRecursion (λ y. cmp x y ≡ Less) ys
      all [] below = tt
      all (y ∷ ys) below = (less _ (first _ _ below), all ys (second _ _ below))

-- a test of each
module _ {A : Type 0} (P : A → Type 0) (test : A → Bool) where
  all_test : ((x : A) → P x → IsTrue (test x)) → (xs : List A) → All P xs → IsTrue (list_all test xs)
  all_test is [] fit = refl
  all_test is (x ∷ xs) fit = both _ _ (is x (All-head P x xs fit)) (all_test is xs (All-tail P x xs fit))

  test_all : ((x : A) → IsTrue (test x) → P x) → (xs : List A) → IsTrue (list_all test xs) → All P xs
  test_all is [] short = All-nil P
  test_all is (x ∷ xs) short = All-cons P x xs (is x (first _ _ short)) (test_all is xs (second _ _ short))

prepare_text : (global : List ℕ) (granules : List Granule) → PrepareFits global granules → IsTrue (prepare_has_text global granules)
prepare_text global granules fits =
    both _ _ (both _ _ (both _ _ (both _ _ (le_test _ _ fits.some) (le_test _ _ fits.short)) (le_test _ _ fits.few)) (all_test GranuleFits (λ g. id_is_short (ids_of g)) (λ g. id_short (ids_of g)) granules fits.granules_fit)) (rising_test granule_cmp granules fits.rising)

prepare_fits : (global : List ℕ) (granules : List Granule) → IsTrue (prepare_has_text global granules) → PrepareFits global granules
prepare_fits global granules h =
    let a = first _ _ h in
    let b = first _ _ a in
    let c = first _ _ b in
    record {
      some = test_le _ _ (first _ _ c);
      short = test_le _ _ (second _ _ c);
      few = test_le _ _ (second _ _ b);
      granules_fit = test_all GranuleFits (λ g. id_is_short (ids_of g)) (λ g. id_fits (ids_of g)) granules (second _ _ a);
      rising = test_rising granule_cmp granules (second _ _ h);
    }

txn_short : (t : LogTxn) → TxnFits t → IsTrue (txn_is_short t)
txn_short t fits =
    both _ _ (both _ _ (both _ _ (both _ _ (both _ _ (le_test _ _ fits.some) (lt_test _ _ fits.txn)) (lt_test _ _ fits.first)) (lt_test _ _ fits.last)) (lt_test _ _ fits.undo_next))
    (lt_test _ _ fits.prepare)

txn_fits : (t : LogTxn) → IsTrue (txn_is_short t) → TxnFits t
txn_fits t short =
    let a = first _ _ short in
    let b = first _ _ a in
    let c = first _ _ b in
    let d = first _ _ c in
    record {
      some = test_le _ _ (first _ _ d);
      txn = test_lt _ _ (second _ _ d);
      first = test_lt _ _ (second _ _ c);
      last = test_lt _ _ (second _ _ b);
      undo_next = test_lt _ _ (second _ _ a);
      prepare = test_lt _ _ (second _ _ short);
    }

page_short : (d : DirtyPage) → DirtyFits d → IsTrue (page_is_short d)
page_short d fits = both _ _ (both _ _ (lt_test _ _ fits.store) (lt_test _ _ fits.page)) (lt_test _ _ fits.recovery)

page_fits : (d : DirtyPage) → IsTrue (page_is_short d) → DirtyFits d
page_fits d short =
    let a = first _ _ short in
    record { store = test_lt _ _ (first _ _ a); page = test_lt _ _ (second _ _ a); recovery = test_lt _ _ (second _ _ short) }

end_text : (begin next : ℕ) (txns : List LogTxn) (dirty : List DirtyPage) → CheckpointFits begin next txns dirty → IsTrue (payload_has_text (CheckpointEnd begin next txns dirty))
end_text begin next txns dirty fits =
    both _ _ (both _ _ (both _ _ (lt_test _ _ fits.begin_fits) (lt_test _ _ fits.next_fits))
    (both _ _ (both _ _ (le_test _ _ fits.few_txns) (all_test TxnFits txn_is_short txn_short txns fits.txns_fit)) fits.txns_rise))
    (both _ _ (both _ _ (le_test _ _ fits.few_pages) (all_test DirtyFits page_is_short page_short dirty fits.pages_fit)) (rising_test dirty_cmp dirty fits.pages_rise))

end_fits : (begin next : ℕ) (txns : List LogTxn) (dirty : List DirtyPage) → IsTrue (payload_has_text (CheckpointEnd begin next txns dirty)) → CheckpointFits begin next txns dirty
end_fits begin next txns dirty h =
    let a : IsTrue (nat_lt begin (2 ^ 64) && nat_lt next (2 ^ 64) && txns_have_text txns) = first _ _ h in
    let numbers : IsTrue (nat_lt begin (2 ^ 64) && nat_lt next (2 ^ 64)) = first _ _ a in
    let ts : IsTrue (txns_have_text txns) = second _ _ a in
    let ds : IsTrue (pages_have_text dirty) = second _ _ h in
    let t = first _ _ ts in
    let d = first _ _ ds in
    record {
      begin_fits = test_lt _ _ (first _ _ numbers);
      next_fits = test_lt _ _ (second _ _ numbers);
      few_txns = test_le _ _ (first _ _ t);
      txns_fit = test_all TxnFits txn_is_short txn_fits txns (second _ _ t);
      txns_rise = second _ _ ts;
      few_pages = test_le _ _ (first _ _ d);
      pages_fit = test_all DirtyFits page_is_short page_fits dirty (second _ _ d);
      pages_rise = test_rising dirty_cmp dirty (second _ _ ds);
    }

payload_text : (p : Payload) → PayloadFits p → IsTrue (payload_has_text p)
payload_text (Change id before after) fits =
    both _ _ (both _ _ (both _ _ (id_short id fits.rid) (image_short before fits.old)) (image_short after fits.new)) (one before after fits.some)
payload_text (Compensation id after undo_next) fits =
    both _ _ (both _ _ (id_short id fits.rid) (image_short after fits.image)) (lt_test _ _ fits.next)
payload_text Commit fits = refl
payload_text End fits = refl
payload_text (Prepare global granules) fits = prepare_text global granules fits
payload_text RollbackDecided fits = refl
payload_text CheckpointBegin fits = refl
payload_text (CheckpointEnd begin next txns dirty) fits = end_text begin next txns dirty fits
payload_text (Anchor checkpoint tail) fits = both _ _ (lt_test _ _ fits.0) (lt_test _ _ fits.1)

payload_fits : (p : Payload) → IsTrue (payload_has_text p) → PayloadFits p
payload_fits (Change id before after) h =
    let a = first _ _ h in
    let b = first _ _ a in
    record { rid = id_fits id (first _ _ b); old = image_fits before (second _ _ b); new = image_fits after (second _ _ a); some = either before after (second _ _ h) }
payload_fits (Compensation id after undo_next) h =
    let a = first _ _ h in
    record { rid = id_fits id (first _ _ a); image = image_fits after (second _ _ a); next = test_lt _ _ (second _ _ h) }
payload_fits Commit h = tt
payload_fits End h = tt
payload_fits (Prepare global granules) h = prepare_fits global granules h
payload_fits RollbackDecided h = tt
payload_fits CheckpointBegin h = tt
payload_fits (CheckpointEnd begin next txns dirty) h = end_fits begin next txns dirty h
payload_fits (Anchor checkpoint tail) h = (test_lt _ _ (first _ _ h), test_lt _ _ (second _ _ h))

none_test : (txn previous : ℕ) → (txn ≡ 0) × (previous ≡ 0) → IsTrue ((txn == 0) && (previous == 0))
none_test txn previous h = both _ _ (eq-eqb txn 0 h.0) (eq-eqb previous 0 h.1)

test_none : (txn previous : ℕ) → IsTrue ((txn == 0) && (previous == 0)) → (txn ≡ 0) × (previous ≡ 0)
test_none txn previous h = (eqb-true txn 0 (first _ _ h), eqb-true previous 0 (second _ _ h))

owner_test : (txn previous : ℕ) (p : Payload) → HasOwner p txn previous → IsTrue (has_owner record { txn = txn; previous = previous; payload = p })
owner_test txn previous (Change id before after) h = le_test _ _ h
owner_test txn previous (Compensation id after undo_next) h = le_test _ _ h
owner_test txn previous Commit h = le_test _ _ h
owner_test txn previous End h = le_test _ _ h
owner_test txn previous (Prepare global granules) h = le_test _ _ h
owner_test txn previous RollbackDecided h = le_test _ _ h
owner_test txn previous CheckpointBegin h = none_test txn previous h
owner_test txn previous (CheckpointEnd begin next txns dirty) h = none_test txn previous h
owner_test txn previous (Anchor checkpoint tail) h = none_test txn previous h

test_owner : (txn previous : ℕ) (p : Payload) → IsTrue (has_owner record { txn = txn; previous = previous; payload = p }) → HasOwner p txn previous
test_owner txn previous (Change id before after) h = test_le _ _ h
test_owner txn previous (Compensation id after undo_next) h = test_le _ _ h
test_owner txn previous Commit h = test_le _ _ h
test_owner txn previous End h = test_le _ _ h
test_owner txn previous (Prepare global granules) h = test_le _ _ h
test_owner txn previous RollbackDecided h = test_le _ _ h
test_owner txn previous CheckpointBegin h = test_none txn previous h
test_owner txn previous (CheckpointEnd begin next txns dirty) h = test_none txn previous h
test_owner txn previous (Anchor checkpoint tail) h = test_none txn previous h

-- what fits has a text, as a test tells
pub has_text-fits : (r : LogRecord) → Fits r → IsTrue (has_text r)
has_text-fits r fits =
    both _ _ (both _ _ (both _ _ (owner_test r.txn r.previous r.payload fits.owner) (lt_test _ _ fits.txn_fits)) (lt_test _ _ fits.previous_fits)) (payload_text r.payload fits.payload_fits)

pub Fits-has_text : (r : LogRecord) → IsTrue (has_text r) → Fits r
Fits-has_text r h =
    let a = first _ _ h in
    let b = first _ _ a in
    let owner : IsTrue (has_owner r) = first _ _ b in
    let txn : IsTrue (nat_lt r.txn (2 ^ 64)) = second _ _ b in
    let previous : IsTrue (nat_lt r.previous (2 ^ 64)) = second _ _ a in
    record {
      owner = test_owner r.txn r.previous r.payload owner;
      txn_fits = grind (arith, nat_tests, txn);
      previous_fits = grind (arith, nat_tests, previous);
      payload_fits = payload_fits r.payload (second _ _ h);
    }

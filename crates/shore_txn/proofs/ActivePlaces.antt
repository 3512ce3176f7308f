-- The places of the changes of many transactions, and what they tell of a page.
use Rattle.std.proofs.Common.{◌≡◌, ◌+◌, ◌*◌, ◌-◌, ◌^◌, ◌<◌, ◌≤◌, ◌++◌, ◌∷◌, [], ℕ, zero, suc, List, Option, Some, None, get_or, length, map, take, option_to_list, refl, sym, ap, subst, ◌∙◌, arith}
use Rattle.std.specs.List.{slice_get}
use Rattle.std.specs.Option.{unwrap_or}
use Rattle.std.proofs.lemmas.List.{append_assoc, append-nil, length-map, length-reverse}
use Rattle.std.proofs.lemmas.Nat.{div-add-mod', div-mul-add, mod-mul-add, mod_below}
use Rattle.std.proofs.lemmas.Option.{none-some, slice_get_within}
use Rattle.shore_types.specs.declared.ids.PageId.{PageId}
use Rattle.laws_room.specs.LogRooms.{compensation_costs, owed_by_all}
use Rattle.shore_txn.specs.ActiveTxns as active
use Rattle.shore_txn.specs.ActiveTxns.{IsPlace, all_changes, changes_to, entries_if, own_place, places_if, txn_index, undos_of}
use Rattle.shore_txn.specs.Chains.{IsOfBucket, bucket_of, newest_in}
use Rattle.shore_txn.specs.Places.{buckets_in}
use Rattle.shore_txn.specs.Txns.{as_session_txn, entries_of}
use Rattle.shore_txn.specs.UndoEntries.{claims_on, images_of}
use Rattle.shore_txn.specs.declared.active.ActiveTxn.{ActiveTxn}
use Rattle.shore_txn.specs.declared.claims.TheConstants.{OWN_PLACES}
use Rattle.shore_txn.specs.declared.transactions.Transactions.{Transactions}
use Rattle.shore_txn.specs.declared.txn.Txn.{Txn}
use Rattle.shore_txn.specs.declared.undo.UndoEntry.{UndoEntry}
use Rattle.shore_txn.proofs.ActiveLemmas.{IsAt, is_at, one_at, read_at, session_txn_there, txns_parts}
use Rattle.shore_txn.proofs.ChainLemmas.{newest_is, newest_within}
use Rattle.shore_txn.proofs.ClaimLemmas.{Tells, claims_append, newest_tells, place_tells}
use Rattle.shore_txn.proofs.OneOfMany.{count_owed, owed_among}

-- ---- transactions are few, and so are their changes: the log has room for each of them

count_costs : (es : List UndoEntry) → length es ≤ compensation_costs (images_of es)
count_costs [] = omega arith
count_costs (e ∷ es) = let rest = count_costs es in omega (arith, rest)

pub few_changes : {items : List ActiveTxn} {index : ℕ} {a : ActiveTxn} → IsAt items index a → length (buckets_in a.chains) ≤ owed_by_all (undos_of items)
few_changes {items} {index} {a} at =
    let long : length (buckets_in a.chains) ≡ length (entries_of a.txn) = ap length a.chained ∙ length-map (entries_of a.txn) (λ (e : UndoEntry). bucket_of e.id.page) in
    let least = owed_among (as_session_txn a.txn) (undos_of items) (session_txn_there at) in
    let costs = count_costs (entries_of a.txn) in
    omega (arith, long, least, costs)

pub few_txns : (items : List ActiveTxn) → length items ≤ owed_by_all (undos_of items)
few_txns items =
    let txn : ActiveTxn → Txn = λ a. a.txn in
    let long : length (undos_of items) ≡ length items = length-map (active.txns_of items) as_session_txn ∙ length-reverse (map txn items) ∙ length-map items txn in
    let least = count_owed (undos_of items) in
    omega (arith, long, least)

pub owed_few : (table : Transactions) → owed_by_all (undos_of table.active.items) < OWN_PLACES
owed_few table = let sum = table.sum in let within = table.room.within in let short = table.room.short in omega (arith, sum, within, short)

-- ---- what the older transactions tell

take_more : (items : List ActiveTxn) (index : ℕ) (a : ActiveTxn) → slice_get items index ≡ Some a → take (suc index) items ≡ take index items ++ a ∷ []
take_more [] index a is = absurd (none-some a is)
take_more (x ∷ items) zero a is = let same : x ≡ a = ap (λ (o : Option ActiveTxn). unwrap_or o x) is in ap (λ (y : ActiveTxn). y ∷ []) same
take_more (x ∷ items) (suc index) a is = ap (λ (l : List ActiveTxn). x ∷ l) (take_more items index a is)

module _ (p : PageId) (items : List ActiveTxn) where
  -- the claims of so many of the oldest
  abbrev pub older_claims : ℕ → List (ℕ × ℕ)
  older_claims count = claims_on p (all_changes (active.txns_of (take count items)))

  module _ {index : ℕ} {a : ActiveTxn} (at : IsAt items index a) where
    one_more : older_claims (suc index) ≡ older_claims index ++ claims_on p (entries_of a.txn)
    one_more =
        ap (λ l. claims_on p (all_changes (active.txns_of l))) (take_more items index a at.is) ∙ ap (λ ts. claims_on p (all_changes ts)) (txns_parts (take index items) [] a)
        ∙ claims_append p (all_changes (active.txns_of (take index items))) (entries_of a.txn)

    module _ (own : ℕ) (less : own < OWN_PLACES) where
      index_is : txn_index (index * OWN_PLACES + own) ≡ index
      index_is = div-mul-add index OWN_PLACES own less

      own_is : own_place (index * OWN_PLACES + own) ≡ own
      own_is = mod-mul-add index OWN_PLACES own less

      pub place_of : 1 ≤ own → IsOfBucket (buckets_in a.chains) (bucket_of p) own → IsPlace items (bucket_of p) (index * OWN_PLACES + own)
      place_of some is = record {
        some = λ none. absurd (omega (arith, some, none, own_is));
        chain =
            subst (λ n. IsOfBucket (places_if (slice_get items n)) (bucket_of p) (own_place (index * OWN_PLACES + own))) (sym index_is)
            (subst (λ n. IsOfBucket (places_if (slice_get items index)) (bucket_of p) n) (sym own_is)
            (subst (λ o. IsOfBucket (places_if o) (bucket_of p) own) (sym at.is) is));
      }

      pub place_has : claims_on p (changes_to items (txn_index (index * OWN_PLACES + own)) (own_place (index * OWN_PLACES + own))) ≡ older_claims index ++ claims_on p (take own (entries_of a.txn))
      place_has =
          ap (λ n. claims_on p (changes_to items n (own_place (index * OWN_PLACES + own)))) index_is
          ∙ ap (λ n. claims_on p (changes_to items index n)) own_is
          ∙ ap (λ o. claims_on p (all_changes (active.txns_of (take index items)) ++ take own (entries_if o))) at.is
          ∙ claims_append p (all_changes (active.txns_of (take index items))) (take own (entries_of a.txn))

    -- the newest place of its chain
    module _ (newest : ℕ) (is : newest ≡ newest_in (bucket_of p) (buckets_in a.chains)) where
      newest_has : claims_on p (take newest (entries_of a.txn)) ≡ claims_on p (entries_of a.txn)
      newest_has = ap (λ n. claims_on p (take n (entries_of a.txn))) is ∙ newest_tells p (entries_of a.txn) (buckets_in a.chains) a.chained

      pub newest_few : newest ≤ owed_by_all (undos_of items)
      newest_few = omega (arith, is, newest_within (buckets_in a.chains) (bucket_of p), few_changes at)

      -- .. if it has none, the older ones tell all
      pub none_more : newest ≡ 0 → older_claims (suc index) ≡ older_claims index
      none_more none = one_more ∙ ap (λ l. older_claims index ++ l) (sym newest_has ∙ ap (λ n. claims_on p (take n (entries_of a.txn))) none) ∙ append-nil (older_claims index)

      -- .. if it has one, that tells all
      pub newest_place : 1 ≤ newest → owed_by_all (undos_of items) < OWN_PLACES
          → IsPlace items (bucket_of p) (index * OWN_PLACES + newest) × (claims_on p (changes_to items (txn_index (index * OWN_PLACES + newest)) (own_place (index * OWN_PLACES + newest))) ≡ older_claims (suc index))
      newest_place some few =
          let less : newest < OWN_PLACES = omega (arith, newest_few, few) in (
            place_of newest less some (subst (IsOfBucket (buckets_in a.chains) (bucket_of p)) (sym is) (newest_is (buckets_in a.chains) (bucket_of p))),
            place_has newest less ∙ ap (λ l. older_claims index ++ l) newest_has ∙ sym one_more,
          )

-- ---- from the newest transaction to the oldest

-- the newest place that was read of the transaction before an index
pub record NewestRead (p : PageId) (items : List ActiveTxn) (count index newest : ℕ) : Type 0 where
  pub fits : (index - 1) * OWN_PLACES + newest < 2 ^ 64
  pub below : (index - 1) * OWN_PLACES + newest ≤ count * OWN_PLACES
  pub none : newest ≡ 0 → older_claims p items (index - 1) ≡ older_claims p items count
  pub place : 1 ≤ newest → IsPlace items (bucket_of p) ((index - 1) * OWN_PLACES + newest)
  pub tells : 1 ≤ newest → claims_on p (changes_to items (txn_index ((index - 1) * OWN_PLACES + newest)) (own_place ((index - 1) * OWN_PLACES + newest))) ≡ older_claims p items count

pub newest_read : (table : Transactions) (p : PageId) (count index newest : ℕ) (read : ActiveTxn) → count ≤ length table.active.items → 1 ≤ index
    → (index ≤ count) × (older_claims p table.active.items index ≡ older_claims p table.active.items count)
    → read ≡ get_or table.active.items (index - 1) read → newest ≡ newest_in (bucket_of p) (buckets_in read.chains) → NewestRead p table.active.items count index newest
newest_read table p count index newest read inside some (within, behind) at is =
    let items = table.active.items in
    let few = owed_few table in
    let one = one_at items (index - 1) (omega (arith, some, within, inside)) in
    let its : newest ≡ newest_in (bucket_of p) (buckets_in one.0.chains) = is ∙ ap (λ (a : ActiveTxn). newest_in (bucket_of p) (buckets_in a.chains)) (at ∙ read_at one.1 read) in
    let low = newest_few p items one.1 newest its in
    let next : suc (index - 1) ≡ index = omega (arith, some) in
    let all : older_claims p items (suc (index - 1)) ≡ older_claims p items count = ap (older_claims p items) next ∙ behind in record {
      fits = omega (arith, few_txns items, few, within, inside, low);
      below = omega (arith, few, within, low, some);
      none = λ none. sym (none_more p items one.1 newest its none) ∙ all;
      place = λ there. (newest_place p items one.1 newest its there few).0;
      tells = λ there. (newest_place p items one.1 newest its there few).1 ∙ all;
    }

-- ---- from a place to the next older one

owner : (o : Option ActiveTxn) (bucket own : ℕ) → 1 ≤ own → IsOfBucket (places_if o) bucket own → (a : ActiveTxn) × (o ≡ Some a) × IsOfBucket (buckets_in a.chains) bucket own
owner None bucket zero some is = absurd (omega (arith, some))
owner None bucket (suc k) some is = absurd (apart is)
  where
    apart : None ≡ Some bucket → ⊥
    apart clash = cc
owner (Some a) bucket own some is = (a, refl, is)

-- what was read at a place
pub record PlaceRead (p : PageId) (items : List ActiveTxn) (place older : ℕ) (claim : Option (ℕ × ℕ)) : Type 0 where
  pub inside : txn_index place < length items
  pub less : txn_index place * OWN_PLACES + older < place
  pub next : 1 ≤ older → IsPlace items (bucket_of p) (txn_index place * OWN_PLACES + older)
  pub kept : 1 ≤ older → claims_on p (changes_to items (txn_index place) (own_place place))
      ≡ claims_on p (changes_to items (txn_index (txn_index place * OWN_PLACES + older)) (own_place (txn_index place * OWN_PLACES + older))) ++ option_to_list claim
  pub last : older ≡ 0 → claims_on p (changes_to items (txn_index place) (own_place place)) ≡ older_claims p items (txn_index place) ++ option_to_list claim

pub place_read : (p : PageId) (items : List ActiveTxn) (place older : ℕ) (claim : Option (ℕ × ℕ)) (read : ActiveTxn) → 1 ≤ place → IsPlace items (bucket_of p) place → read ≡ get_or items (txn_index place) read
    → older ≡ newest_in (get_or (buckets_in read.chains) (own_place place - 1) 0) (take (own_place place - 1) (buckets_in read.chains))
    → ((e : UndoEntry) → slice_get (entries_of read.txn) (own_place place - 1) ≡ Some e → option_to_list claim ≡ claims_on p (e ∷ [])) → PlaceRead p items place older claim
place_read p items place older claim read some is at leads told =
    let index = txn_index place in
    let own = own_place place in
    let back : index * OWN_PLACES + own ≡ place = div-add-mod' place OWN_PLACES in
    let low : own < OWN_PLACES = mod_below place OWN_PLACES (omega arith) in
    let own_some : 1 ≤ own = least own (λ none. is.some none) in
    let its = owner (slice_get items index) (bucket_of p) own own_some is.chain in
    let one = is_at items index its.0 its.1 in
    let same : read ≡ its.0 = at ∙ read_at one read in
    let tells = subst (λ (a : ActiveTxn). Tells p (entries_of a.txn) (buckets_in a.chains) own older claim) same
    (place_tells p (entries_of read.txn) (buckets_in read.chains) read.chained own older claim own_some (subst (λ (a : ActiveTxn). IsOfBucket (buckets_in a.chains) (bucket_of p) own) (sym same) its.2) leads told) in
    let has : claims_on p (changes_to items index own) ≡ older_claims p items index ++ claims_on p (take own (entries_of its.0.txn)) =
    ap (λ o. claims_on p (all_changes (active.txns_of (take index items)) ++ take own (entries_if o))) its.1
    ∙ claims_append p (all_changes (active.txns_of (take index items))) (take own (entries_of its.0.txn)) in
    let all : claims_on p (changes_to items index own) ≡ (older_claims p items index ++ claims_on p (take older (entries_of its.0.txn))) ++ option_to_list claim =
    has ∙ ap (λ l. older_claims p items index ++ l) tells.kept ∙ sym (append_assoc (older_claims p items index) (claims_on p (take older (entries_of its.0.txn))) (option_to_list claim)) in
    let less = tells.less in
    let older_low : older < OWN_PLACES = omega (arith, less, low) in record {
      inside = slice_get_within items index its.0 its.1;
      less = omega (arith, less, back);
      next = λ there. place_of p items one older older_low there tells.on;
      kept = λ there. all ∙ ap (λ l. l ++ option_to_list claim) (sym (place_has p items one older older_low));
      last = λ none. all ∙ ap (λ n. (older_claims p items index ++ claims_on p (take n (entries_of its.0.txn))) ++ option_to_list claim) none ∙ ap (λ l. l ++ option_to_list claim) (append-nil (older_claims p items index));
    }
  where
    least : (own : ℕ) → (own ≡ 0 → place ≡ 0) → 1 ≤ own
    least zero none = let zero_place = none refl in absurd (omega (arith, some, zero_place))
    least (suc own) none = omega arith

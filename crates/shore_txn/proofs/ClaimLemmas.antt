-- What the changes of a chain's places may put back on a page.
use Rattle.std.proofs.Common.{◌≡◌, ◌≢◌, ◌<◌, ◌≤◌, ◌-◌, ◌++◌, ℕ, zero, suc, Bool, true, false, cond, List, [], ◌∷◌, Option, Some, None, take, get_or, refl, sym, ap, subst, ◌∙◌, arith, option_to_list}
use Rattle.std.specs.Prelude.{◌==◌, slice_get}
use Rattle.std.specs.Ordering.{eq_by_cmp}
use Rattle.std.proofs.lemmas.Bool.Decides.{Decides-eqb}
use Rattle.std.proofs.lemmas.List.{append-nil, length-take, take-map}
use Rattle.std.proofs.lemmas.Option.{get_or_from_slice_get}
use Rattle.std.proofs.lemmas.Map.Views.{tells_apart}
use Rattle.shore_types.specs.Ids.{exact_pages, page_cmp}
use Rattle.shore_types.specs.declared.ids.PageId.{PageId}
use Rattle.shore_types.specs.Images.{image_len}
use Rattle.laws_room.proofs.Leaving.{same_page}
use Rattle.shore_txn.specs.Chains.{IsOfBucket, bucket_of, newest_in, page_buckets, place_behind}
use Rattle.shore_txn.specs.UndoEntries.{claims_on}
use Rattle.shore_txn.specs.declared.undo.UndoEntry.{UndoEntry}
use Rattle.shore_txn.proofs.ChainLemmas.{newest_is, newest_within}

-- what an entry tells, and those behind it
abbrev with_claim : Bool → UndoEntry → List (ℕ × ℕ) → List (ℕ × ℕ)
with_claim here e rest = cond here ((e.id.slot, image_len e.before) ∷ rest) rest

abbrev is_on : PageId → UndoEntry → Bool
is_on p e = eq_by_cmp page_cmp p e.id.page

on_its_page : (p : PageId) (e : UndoEntry) → p ≡ e.id.page → is_on p e ≡ true
on_its_page p e same = subst (λ (q : PageId). eq_by_cmp page_cmp p q ≡ true) same (same_page p)

on_another : (p : PageId) (e : UndoEntry) → (p ≡ e.id.page → ⊥) → is_on p e ≡ false
on_another p e apart = each (is_on p e) refl
  where
    each : (b : Bool) → is_on p e ≡ b → is_on p e ≡ false
    each true is = absurd (apart (tells_apart exact_pages p e.id.page is))
    each false is = is

pub claims_append : (p : PageId) (xs ys : List UndoEntry) → claims_on p (xs ++ ys) ≡ claims_on p xs ++ claims_on p ys
claims_append p [] ys = refl
claims_append p (e ∷ xs) ys = ap (with_claim (is_on p e) e) (claims_append p xs ys) ∙ out (is_on p e)
  where
    out : (b : Bool) → with_claim b e (claims_on p xs ++ claims_on p ys) ≡ with_claim b e (claims_on p xs) ++ claims_on p ys
    out true = refl
    out false = refl

-- one entry more
pub claims_push : (p : PageId) (es : List UndoEntry) (e : UndoEntry) → p ≡ e.id.page → claims_on p (es ++ e ∷ []) ≡ claims_on p es ++ (e.id.slot, image_len e.before) ∷ []
claims_push p es e same = claims_append p es (e ∷ []) ∙ ap (λ b. claims_on p es ++ with_claim b e []) (on_its_page p e same)

pub claims_other : (p : PageId) (es : List UndoEntry) (e : UndoEntry) → p ≢ e.id.page → claims_on p (es ++ e ∷ []) ≡ claims_on p es
claims_other p es e apart = claims_append p es (e ∷ []) ∙ ap (λ b. claims_on p es ++ with_claim b e []) (on_another p e apart) ∙ append-nil (claims_on p es)

-- behind the newest place of its bucket a page has no change
pub none_behind : (p : PageId) (es : List UndoEntry) → claims_on p (take (newest_in (bucket_of p) (page_buckets es)) es) ≡ claims_on p es
none_behind p [] = refl
none_behind p (e ∷ es) = each (bucket_of e.id.page == bucket_of p) refl (newest_in (bucket_of p) (page_buckets es)) (none_behind p es)
  where
    each : (b : Bool) → (bucket_of e.id.page == bucket_of p) ≡ b → (later : ℕ) → claims_on p (take later es) ≡ claims_on p es → claims_on p (take (place_behind b later) (e ∷ es)) ≡ claims_on p (e ∷ es)
    each true is zero none = ap (with_claim (is_on p e) e) none
    each false is zero none =
        let other : is_on p e ≡ false = on_another p e (λ same. let both : true ≡ false = sym ((Decides-eqb (bucket_of e.id.page) (bucket_of p)).1 (ap bucket_of (sym same))) ∙ is in cc) in
        none ∙ sym (ap (λ b. with_claim b e (claims_on p es)) other)
    each true is (suc later) none = ap (with_claim (is_on p e) e) none
    each false is (suc later) none = ap (with_claim (is_on p e) e) none

-- a place of a list is there
entry_at : (es : List UndoEntry) (index : ℕ) (bucket : ℕ) → slice_get (page_buckets es) index ≡ Some bucket → (e : UndoEntry) × (slice_get es index ≡ Some e) × (bucket_of e.id.page ≡ bucket)
entry_at [] index bucket is = let clash : None ≡ Some bucket = is in absurd cc
entry_at (e ∷ es) zero bucket is = (e, refl, cc)
entry_at (e ∷ es) (suc index) bucket is = entry_at es index bucket is

take_one : (es : List UndoEntry) (index : ℕ) (e : UndoEntry) → slice_get es index ≡ Some e → take (suc index) es ≡ take index es ++ e ∷ []
take_one [] index e is = let clash : None ≡ Some e = is in absurd cc
take_one (x ∷ es) zero e is = let same : x ≡ e = cc in ap (λ (y : UndoEntry). y ∷ []) same
take_one (x ∷ es) (suc index) e is = ap (λ (l : List UndoEntry). x ∷ l) (take_one es index e is)

take_fewer : (es : List UndoEntry) (n index : ℕ) → n ≤ index → take n (take index es) ≡ take n es
take_fewer [] zero index le = refl
take_fewer [] (suc n) zero le = refl
take_fewer [] (suc n) (suc index) le = refl
take_fewer (e ∷ es) zero index le = refl
take_fewer (e ∷ es) (suc n) zero le = absurd (omega (arith, le))
take_fewer (e ∷ es) (suc n) (suc index) le = ap (λ (l : List UndoEntry). e ∷ l) (take_fewer es n index (omega (arith, le)))

take_there : (buckets : List ℕ) (index k bucket : ℕ) → slice_get (take index buckets) k ≡ Some bucket → slice_get buckets k ≡ Some bucket
take_there [] zero k bucket is = is
take_there [] (suc index) k bucket is = is
take_there (b ∷ buckets) zero k bucket is = let clash : None ≡ Some bucket = is in absurd cc
take_there (b ∷ buckets) (suc index) zero bucket is = is
take_there (b ∷ buckets) (suc index) (suc k) bucket is = take_there buckets index k bucket is

take_on : (buckets : List ℕ) (index bucket place : ℕ) → IsOfBucket (take index buckets) bucket place → IsOfBucket buckets bucket place
take_on buckets index bucket zero is = tt
take_on buckets index bucket (suc k) is = take_there buckets index k bucket is

-- what a place of a chain tells, and where it leads
pub record Tells (p : PageId) (es : List UndoEntry) (buckets : List ℕ) (place older : ℕ) (claim : Option (ℕ × ℕ)) : Type 0 where
  pub less : older < place
  pub on : IsOfBucket buckets (bucket_of p) older
  pub kept : claims_on p (take place es) ≡ claims_on p (take older es) ++ option_to_list claim

module _ (p : PageId) (es : List UndoEntry) (index : ℕ) (here : slice_get (page_buckets es) index ≡ Some (bucket_of p)) where
  abbrev next : ℕ
  next = newest_in (bucket_of p) (take index (page_buckets es))

  next_within : next ≤ index
  next_within = let within = newest_within (take index (page_buckets es)) (bucket_of p) in let long = length-take index (page_buckets es) in omega (arith, within, long)

  entry : (e : UndoEntry) × (slice_get es index ≡ Some e) × (bucket_of e.id.page ≡ bucket_of p)
  entry = entry_at es index (bucket_of p) here

  older_kept : claims_on p (take index es) ≡ claims_on p (take next es)
  older_kept =
      let buckets : take index (page_buckets es) ≡ page_buckets (take index es) = take-map (λ (e : UndoEntry). bucket_of e.id.page) index es in
      sym (none_behind p (take index es)) ∙ ap (λ bs. claims_on p (take (newest_in (bucket_of p) bs) (take index es))) (sym buckets) ∙ ap (claims_on p) (take_fewer es next index next_within)

  place_kept : claims_on p (take (suc index) es) ≡ claims_on p (take next es) ++ claims_on p (entry.0 ∷ [])
  place_kept = ap (claims_on p) (take_one es index entry.0 entry.1) ∙ claims_append p (take index es) (entry.0 ∷ []) ∙ ap (λ (l : List (ℕ × ℕ)). l ++ claims_on p (entry.0 ∷ [])) older_kept

  index_tells : (claim : Option (ℕ × ℕ)) → ((e : UndoEntry) → slice_get es index ≡ Some e → option_to_list claim ≡ claims_on p (e ∷ [])) → Tells p es (page_buckets es) (suc index) next claim
  index_tells claim told = record {
    less = omega (arith, next_within);
    on = take_on (page_buckets es) index (bucket_of p) next (newest_is (take index (page_buckets es)) (bucket_of p));
    kept = place_kept ∙ ap (λ (l : List (ℕ × ℕ)). claims_on p (take next es) ++ l) (sym (told entry.0 entry.1));
  }

pub place_tells : (p : PageId) (es : List UndoEntry) (buckets : List ℕ) → buckets ≡ page_buckets es → (place older : ℕ) (claim : Option (ℕ × ℕ)) → 1 ≤ place → IsOfBucket buckets (bucket_of p) place
    → older ≡ newest_in (get_or buckets (place - 1) 0) (take (place - 1) buckets) → ((e : UndoEntry) → slice_get es (place - 1) ≡ Some e → option_to_list claim ≡ claims_on p (e ∷ [])) → Tells p es buckets place older claim
place_tells p es buckets are zero older claim some on leads told = absurd (omega (arith, some))
place_tells p es buckets are (suc index) older claim some on leads told =
    let before : suc index - 1 ≡ index = omega arith in
    let here : slice_get (page_buckets es) index ≡ Some (bucket_of p) = subst (λ (bs : List ℕ). slice_get bs index ≡ Some (bucket_of p)) are on in
    let its : get_or buckets (suc index - 1) 0 ≡ bucket_of p = ap (λ n. get_or buckets n 0) before ∙ get_or_from_slice_get buckets index (bucket_of p) 0 on in
    let leads_to : older ≡ newest_in (bucket_of p) (take index (page_buckets es)) = leads ∙ ap (λ b. newest_in b (take (suc index - 1) buckets)) its ∙ ap (λ n. newest_in (bucket_of p) (take n buckets)) before ∙ ap (λ (bs : List ℕ). newest_in (bucket_of p) (take index bs)) are in
    subst (λ n. Tells p es buckets (suc index) n claim) (sym leads_to) (subst (λ (bs : List ℕ). Tells p es bs (suc index) (newest_in (bucket_of p) (take index (page_buckets es))) claim) (sym are)
    (index_tells p es index here claim (λ e is. told e (ap (slice_get es) before ∙ is))))

-- the newest place of a page's bucket tells all
pub newest_tells : (p : PageId) (es : List UndoEntry) (buckets : List ℕ) → buckets ≡ page_buckets es → claims_on p (take (newest_in (bucket_of p) buckets) es) ≡ claims_on p es
newest_tells p es buckets are = ap (λ (bs : List ℕ). claims_on p (take (newest_in (bucket_of p) bs) es)) are ∙ none_behind p es

-- Parts of a store's records: two that lie behind one another are one, and the one of all pages is the scan.
use Rattle.std.proofs.Common.{◌≡◌, ◌<◌, ◌≤◌, ◌==◌, ◌&&◌, nat_le, nat_lt, unwrap_or, ℕ, T, Bool, true, false, cond, List, [], ◌∷◌, ◌++◌, Option, Some, None, IsSomeAnd, slice_get, refl, sym, ap, subst, ◌∙◌, inl, inr, filter, arith}
use Rattle.std.proofs.lemmas.Bool.{cases_eq, cases_lt, eq-eqb, le-leb, le-ltb, lt-leb, lt-ltb, ne_eqb}
use Rattle.std.specs.declared.cmp.Ordering.{Ordering}
use Rattle.std.specs.declared.cmp.Ordering.TheVariants.{Equal, Greater}
use Rattle.std.specs.Cmp.{nat_cmp_is}
use Rattle.std.specs.FinMap.{entries, entries_sorted, get, get-entries}
use Rattle.std.specs.FinMap.Entries.{below_all, find, find-where_key, is_sorted, is_sorted-where_key, same_entries}
use Rattle.std.specs.Ordering.{is_lt, nat_cmp, ordering_then}
use Rattle.shore_types.specs.declared.ids.Rid.{Rid}
use Rattle.shore_types.specs.declared.layout.Geometry.{Geometry}
use Rattle.shore_types.specs.Ids.{exact_rids, rid_cmp, rids_total}
use Rattle.shore_types.specs.Images.{Image}
use Rattle.shore_model.specs.Records.{AreRecords, Records, part_of, scan_of}

abbrev Entry : Type 0
Entry = Rid × List ℕ

-- an id is on a page of the store from one on and before another
abbrev is_between : ℕ → ℕ → ℕ → Rid → Bool
is_between store from to id = (id.page.store == store) && nat_le from id.page.page && nat_lt id.page.page to

abbrev between : ℕ → ℕ → ℕ → List Entry → List Entry
between store from to es = filter (λ e. is_between store from to e.0) es

-- ---- which ids are

module _ (store from to : ℕ) (id : Rid) where
  never : (b : Bool) → (b && false) ≡ false
  never true = refl
  never false = refl

  of_another : (id.page.store ≡ store → ⊥) → is_between store from to id ≡ false
  of_another other = ap (λ (b : Bool). b && nat_le from id.page.page && nat_lt id.page.page to) (ne_eqb id.page.store store other)

  too_high : to ≤ id.page.page → is_between store from to id ≡ false
  too_high high = ap (λ (b : Bool). (id.page.store == store) && nat_le from id.page.page && b) (le-ltb id.page.page to high) ∙ never ((id.page.store == store) && nat_le from id.page.page)

  too_low : id.page.page < from → is_between store from to id ≡ false
  too_low low =
      ap (λ (b : Bool). (id.page.store == store) && b && nat_lt id.page.page to) (lt-leb from id.page.page low)
      ∙ ap (λ (b : Bool). b && nat_lt id.page.page to) (never (id.page.store == store))

  just : id.page.store ≡ store → from ≤ id.page.page → id.page.page < to → is_between store from to id ≡ true
  just same low high =
      ap (λ (b : Bool). b && nat_le from id.page.page && nat_lt id.page.page to) (eq-eqb id.page.store store same)
      ∙ ap (λ (b : Bool). b && nat_lt id.page.page to) (le-leb from id.page.page low) ∙ lt-ltb id.page.page to high

-- ---- ids in order

first : (a b : Bool) → T (a && b) → T a
first true b p = tt
first false b p = p

second : (a b : Bool) → T (a && b) → T b
second true b p = p
second false b p = absurd p

-- an id on an earlier page of the store does not come behind
earlier : (id other : Rid) → other.page.store ≡ id.page.store → other.page.page < id.page.page → rid_cmp id other ≡ Greater
earlier id other same less =
    let stores : nat_cmp id.page.store other.page.store ≡ Equal = sym (nat_cmp_is id.page.store other.page.store Equal (sym same)) in
    let pages : nat_cmp id.page.page other.page.page ≡ Greater = sym (nat_cmp_is id.page.page other.page.page Greater less) in
    ap (λ (o : Ordering). ordering_then (ordering_then o (nat_cmp id.page.page other.page.page)) (nat_cmp id.slot other.slot)) stores
    ∙ ap (λ (o : Ordering). ordering_then (ordering_then Equal o) (nat_cmp id.slot other.slot)) pages

-- behind an id that is at or behind an end of the store, none comes before that end
module _ (store from to : ℕ) (id : Rid) (of_store : id.page.store ≡ store) (behind : to ≤ id.page.page) where
  not_later : (other : Rid) → T (is_lt (rid_cmp id other)) → is_between store from to other ≡ false
  not_later other less = elim (cases_eq other.page.store store) [
    | inr apart ↦ of_another store from to other apart
    | inl same ↦ elim (cases_lt other.page.page to) [
      | inr high ↦ too_high store from to other high
      | inl low ↦ absurd (subst (λ (o : Ordering). T (is_lt o)) (earlier id other (same ∙ sym of_store) (omega (arith, low, behind))) less)
    ]
  ]

  none_later : (es : List Entry) → T (below_all rid_cmp id es) → between store from to es ≡ []
  none_later [] below = refl
  none_later (e ∷ es) below =
      ap (λ (b : Bool). cond b (e ∷ between store from to es) (between store from to es)) (not_later e.0 (first _ _ below)) ∙ none_later es (second _ _ below)

-- ---- two parts that lie behind one another

module _ (store a b c : ℕ) (rises : a ≤ b) (goes_on : b ≤ c) where
  -- one entry more in front, of the first part, of the second, or of none
  module _ (e : Entry) (es : List Entry) where
    abbrev has : Bool → List Entry → List Entry
    has there rest = cond there (e ∷ rest) rest

    each : (x y z : Bool) → is_between store a b e.0 ≡ x → is_between store b c e.0 ≡ y → is_between store a c e.0 ≡ z
        → has x (between store a b es) ++ has y (between store b c es) ≡ has z (between store a c es) → between store a b (e ∷ es) ++ between store b c (e ∷ es) ≡ between store a c (e ∷ es)
    each x y z in_first in_second in_both so =
        ap (λ (t : Bool). has t (between store a b es) ++ between store b c (e ∷ es)) in_first ∙ ap (λ (t : Bool). has x (between store a b es) ++ has t (between store b c es)) in_second
        ∙ so ∙ sym (ap (λ (t : Bool). has t (between store a c es)) in_both)

    one_more : T (below_all rid_cmp e.0 es) → between store a b es ++ between store b c es ≡ between store a c es → between store a b (e ∷ es) ++ between store b c (e ∷ es) ≡ between store a c (e ∷ es)
    one_more below rest = elim (cases_eq e.0.page.store store) [
      | inr apart ↦ each false false false (of_another store a b e.0 apart) (of_another store b c e.0 apart) (of_another store a c e.0 apart) rest
      | inl same ↦ elim (cases_lt e.0.page.page a) [
        | inl low ↦ each false false false (too_low store a b e.0 low) (too_low store b c e.0 (omega (arith, low, rises))) (too_low store a c e.0 low) rest
        | inr there ↦ elim (cases_lt e.0.page.page b) [
          | inl before ↦ each true false true (just store a b e.0 same there before) (too_low store b c e.0 before) (just store a c e.0 same there (omega (arith, before, goes_on))) (ap (λ (l : List Entry). e ∷ l) rest)
          | inr behind ↦ elim (cases_lt e.0.page.page c) [
            | inr high ↦ each false false false (too_high store a b e.0 behind) (too_high store b c e.0 high) (too_high store a c e.0 high) rest
            | inl inside ↦
                let no_first : between store a b es ≡ [] = none_later store a b e.0 same behind es below in
                each false true true (too_high store a b e.0 behind) (just store b c e.0 same behind inside) (just store a c e.0 same there inside)
                (ap (λ (l : List Entry). l ++ (e ∷ between store b c es)) no_first
                ∙ ap (λ (l : List Entry). e ∷ l) (sym (ap (λ (l : List Entry). l ++ between store b c es) no_first) ∙ rest))
          ]
        ]
      ]
    ]

  joined : (es : List Entry) → T (is_sorted rid_cmp es) → between store a b es ++ between store b c es ≡ between store a c es
  joined [] sorted = refl
  joined (e ∷ es) sorted = one_more e es (first _ _ sorted) (joined es (second _ _ sorted))

  pub parts_joined : (R : Records) → part_of store a b R ++ part_of store b c R ≡ part_of store a c R
  parts_joined R = joined (entries R) (entries_sorted R)

-- no page lies between one and itself
pub no_part : (store from : ℕ) (R : Records) → part_of store from from R ≡ []
no_part store from R = each (entries R)
  where
    out : (id : Rid) → is_between store from from id ≡ false
    out id = elim (cases_lt id.page.page from) [ inl low ↦ too_low store from from id low | inr high ↦ too_high store from from id high ]

    each : (es : List Entry) → between store from from es ≡ []
    each [] = refl
    each (e ∷ es) = ap (λ (b : Bool). cond b (e ∷ between store from from es) (between store from from es)) (out e.0) ∙ each es

-- a part is what a scan has of it: records of a store that are scanned alike have like parts
pub alike_parts : (store from to : ℕ) (R S : Records) → scan_of store R ≡ scan_of store S → part_of store from to R ≡ part_of store from to S
alike_parts store from to R S same = sym (each (entries R)) ∙ ap (between store from to) same ∙ each (entries S)
  where
    one : (e : Entry) (es : List Entry) → between store from to (filter (λ x. x.0.page.store == store) es) ≡ between store from to es
        → between store from to (filter (λ x. x.0.page.store == store) (e ∷ es)) ≡ between store from to (e ∷ es)
    one e es rest = elim (cases_eq e.0.page.store store) [
      | inl of ↦ ap (λ (b : Bool). between store from to (cond b (e ∷ filter (λ x. x.0.page.store == store) es) (filter (λ x. x.0.page.store == store) es))) (eq-eqb e.0.page.store store of)
          ∙ ap (λ (l : List Entry). cond (is_between store from to e.0) (e ∷ l) l) rest
      | inr other ↦ ap (λ (b : Bool). between store from to (cond b (e ∷ filter (λ x. x.0.page.store == store) es) (filter (λ x. x.0.page.store == store) es))) (ne_eqb e.0.page.store store other)
          ∙ rest ∙ sym (ap (λ (b : Bool). cond b (e ∷ between store from to es) (between store from to es)) (of_another store from to e.0 other))
    ]

    each : (es : List Entry) → between store from to (filter (λ x. x.0.page.store == store) es) ≡ between store from to es
    each [] = refl
    each (e ∷ es) = one e es (each es)

-- ---- the part of all pages

module _ (g : Geometry) (store : ℕ) (R : Records) (inside : AreRecords g R) where
  abbrev pages : ℕ
  pages = unwrap_or (slice_get g.stores store) 0

  abbrev of_store : Rid → Bool
  of_store id = id.page.store == store

  page_below : (o : Option ℕ) (page : ℕ) → IsSomeAnd o (λ n. page < n) → page < unwrap_or o 0
  page_below None page has = absurd has
  page_below (Some n) page has = has

  nothing : (o : Image) → ((bytes : List ℕ) → o ≡ Some bytes → ⊥) → o ≡ None
  nothing None never = refl
  nothing (Some bytes) never = absurd (never bytes refl)

  -- behind the store's last page is no record
  none_behind : (q : Rid) → q.page.store ≡ store → pages ≤ q.page.page → get R q ≡ None
  none_behind q same high = nothing (get R q) (λ bytes found.
      let less : q.page.page < unwrap_or (slice_get g.stores q.page.store) 0 = page_below (slice_get g.stores q.page.store) q.page.page (inside q bytes found).0.0 in
      let here : q.page.page < pages = subst (λ (n : ℕ). q.page.page < unwrap_or (slice_get g.stores n) 0) same less in
      omega (arith, here, high))

  finds_alike : (p : Rid → Bool) (q : Rid) → find rid_cmp q (filter (λ e. p e.0) (entries R)) ≡ cond (p q) (get R q) None
  finds_alike p q = find-where_key rid_cmp p q (λ x same. ap p (sym (exact_rids q x same))) (entries R) ∙ ap (λ (o : Image). cond (p q) o None) (sym (get-entries R q))

  alike : (q : Rid) → cond (is_between store 0 pages q) (get R q) None ≡ cond (of_store q) (get R q) None
  alike q = elim (cases_eq q.page.store store) [
    | inr other ↦ ap (λ (b : Bool). cond b (get R q) None) (of_another store 0 pages q other ∙ sym (ne_eqb q.page.store store other))
    | inl same ↦ elim (cases_lt q.page.page pages) [
      | inl less ↦ ap (λ (b : Bool). cond b (get R q) None) (just store 0 pages q same (omega arith) less ∙ sym (eq-eqb q.page.store store same))
      | inr high ↦ ap (λ (o : Image). cond (is_between store 0 pages q) o None) (none_behind q same high) ∙ none_either (is_between store 0 pages q) (of_store q)
          ∙ sym (ap (λ (o : Image). cond (of_store q) o None) (none_behind q same high))
    ]
  ]
    where
      none_either : (x y : Bool) → ◌≡◌ {A = Image} (cond x None None) (cond y None None)
      none_either true true = refl
      none_either true false = refl
      none_either false true = refl
      none_either false false = refl

  pub whole_part : part_of store 0 pages R ≡ scan_of store R
  whole_part = same_entries rid_cmp rids_total exact_rids (part_of store 0 pages R) (scan_of store R) (is_sorted-where_key rid_cmp (is_between store 0 pages) (entries R) (entries_sorted R))
      (is_sorted-where_key rid_cmp of_store (entries R) (entries_sorted R)) (λ q. finds_alike (is_between store 0 pages) q ∙ alike q ∙ sym (finds_alike of_store q))

-- A list of the records of a store, as it grows, and that it is the model's scan.
use Rattle.std.proofs.Common.{◌≡◌, ◌≢◌, ◌⊎◌, ◌+◌, ◌<◌, ◌≤◌, ◌==◌, ◌&&◌, if◌then◌else◌, nat_le, nat_lt, unwrap_or, ℕ, zero, suc, T, Bool, true, false, cond, List, [], ◌∷◌, ◌++◌, length, Option, Some, None, Result, Ok, Err, OnOk, IfSome, IsSomeAnd, filter, slice_get, get_or, refl, sym, ap, subst, ◌∙◌, inl, inr, arith}
use Rattle.std.proofs.lemmas.List.{append_assoc, append-nil, length-map}
use Rattle.std.proofs.lemmas.Bool.{cases_eq, cases_lt, eq-eqb, le-leb, le-ltb, lt-leb, lt-ltb, ne_eqb}
use Rattle.std.specs.declared.cmp.Ordering.{Ordering}
use Rattle.std.specs.declared.cmp.Ordering.TheVariants.{Equal, Greater, Less}
use Rattle.std.specs.Cmp.{nat_cmp_is, tied_itself}
use Rattle.std.specs.FinMap.{entries, entries_sorted, get, get-entries}
use Rattle.std.specs.FinMap.Entries.{below_all, find, find-append, find-where_key, is_sorted, is_sorted-where_key, same_entries}
use Rattle.std.specs.Ordering.{is_eq, is_lt, nat_cmp, ordering_then}
use Rattle.shore_types.specs.declared.ids.PageId.{PageId}
use Rattle.shore_types.specs.declared.ids.Rid.{Rid}
use Rattle.shore_types.specs.declared.layout.Geometry.{Geometry}
use Rattle.shore_types.specs.Ids.{exact_rids, rid_cmp, rids_total}
use Rattle.shore_types.specs.Images.{Image}
use Rattle.shore_types.specs.Layout.{HasPage}
use Rattle.shore_model.specs.Records.{Records, part_of, scan_of}
use Rattle.shore_types.specs.Runs.{records_from}
use Rattle.shore_page.specs.Slots.{Slot, image_at_slot}
use Rattle.shore_page.specs.Text.{images_of}
use Rattle.shore_heap.specs.Scans.{AreBefore, HasBefore, IsBefore, IsPart, IsScan, PartsAsTheModel, ScansAsTheModel, Tells, part_end, slots_from}

abbrev Entry : Type 0
Entry = Rid × List ℕ

abbrev the_page : ℕ → ℕ → PageId
the_page store page = record { store = store; page = page }

abbrev the_id : ℕ → ℕ → ℕ → Rid
the_id store page slot = record { page = the_page store page; slot = slot }

-- ---- ids in order

both : (a b : Bool) → T a → T b → T (a && b)
both true b p q = q
both false b p q = p

first : (a b : Bool) → T (a && b) → T a
first true b p = tt
first false b p = p

second : (a b : Bool) → T (a && b) → T b
second true b p = p
second false b p = absurd p

less_before : (store page slot : ℕ) (id : Rid) → IsBefore store page slot id → rid_cmp id (the_id store page slot) ≡ Less
less_before store page slot id before =
    let stores : nat_cmp id.page.store store ≡ Equal = sym (nat_cmp_is id.page.store store Equal before.0) in
    elim before.1 [
      | inl page_less ↦
          let pages : nat_cmp id.page.page page ≡ Less = sym (nat_cmp_is id.page.page page Less page_less) in
          ap (λ (o : Ordering). ordering_then (ordering_then o (nat_cmp id.page.page page)) (nat_cmp id.slot slot)) stores
          ∙ ap (λ (o : Ordering). ordering_then (ordering_then Equal o) (nat_cmp id.slot slot)) pages
      | inr same ↦
          let pages : nat_cmp id.page.page page ≡ Equal = sym (nat_cmp_is id.page.page page Equal same.0) in
          let slots : nat_cmp id.slot slot ≡ Less = sym (nat_cmp_is id.slot slot Less same.1) in
          ap (λ (o : Ordering). ordering_then (ordering_then o (nat_cmp id.page.page page)) (nat_cmp id.slot slot)) stores
          ∙ ap (λ (o : Ordering). ordering_then (ordering_then Equal o) (nat_cmp id.slot slot)) pages
          ∙ ap (λ (o : Ordering). ordering_then (ordering_then Equal Equal) o) slots
    ]

below_push : (least : Rid) (list : List Entry) (e : Entry) → T (below_all rid_cmp least list) → rid_cmp least e.0 ≡ Less → T (below_all rid_cmp least (list ++ e ∷ []))
below_push least [] e below less = both _ _ (subst (λ (o : Ordering). T (is_lt o)) (sym less) tt) tt
below_push least (x ∷ list) e below less = both _ _ (first _ _ below) (below_push least list e (second _ _ below) less)

rises_push : (store page slot : ℕ) (list : List Entry) (bytes : List ℕ) → T (is_sorted rid_cmp list) → AreBefore store page slot list → T (is_sorted rid_cmp (list ++ (the_id store page slot, bytes) ∷ []))
rises_push store page slot [] bytes rises before = tt
rises_push store page slot (x ∷ list) bytes rises before =
    both _ _ (below_push x.0 list (the_id store page slot, bytes) (first _ _ rises) (less_before store page slot x.0 before.0)) (rises_push store page slot list bytes (second _ _ rises) before.1)

-- ---- one record more

found_here : (list : List Entry) (k : Rid) (bytes : List ℕ) → find rid_cmp k list ≡ None → find rid_cmp k (list ++ (k, bytes) ∷ []) ≡ Some bytes
found_here list k bytes none = find-append rid_cmp rids_total list k bytes k none ∙ ap (λ (o : Ordering). cond (is_eq o) (Some bytes) (find rid_cmp k list)) (tied_itself rids_total k)

found_other : (list : List Entry) (k q : Rid) (bytes : List ℕ) → find rid_cmp k list ≡ None → q ≢ k → find rid_cmp q (list ++ (k, bytes) ∷ []) ≡ find rid_cmp q list
found_other list k q bytes none apart = find-append rid_cmp rids_total list k bytes q none ∙ each (rid_cmp q k) refl
  where
    each : (o : Ordering) → rid_cmp q k ≡ o → cond (is_eq (rid_cmp q k)) (Some bytes) (find rid_cmp q list) ≡ find rid_cmp q list
    each Less is = ap (λ (o : Ordering). cond (is_eq o) (Some bytes) (find rid_cmp q list)) is
    each Equal is = absurd (apart (exact_rids q k is))
    each Greater is = ap (λ (o : Ordering). cond (is_eq o) (Some bytes) (find rid_cmp q list)) is

-- an id before the next slot is before this one, or is it
split : (store page slot : ℕ) (id : Rid) → IsBefore store page (slot + 1) id → IsBefore store page slot id ⊎ (id ≡ the_id store page slot)
split store page slot id before = elim before.1 [
  | inl less ↦ inl (before.0, inl less)
  | inr same ↦ elim (cases_lt id.slot slot) [
    | inl less ↦ inl (before.0, inr (same.0, less))
    | inr more ↦
        let slots : id.slot ≡ slot = omega (arith, more, same.1) in
        inr (ap (λ (n : ℕ). the_id n id.page.page id.slot) before.0 ∙ ap (λ (n : ℕ). the_id store n id.slot) same.0 ∙ ap (λ (n : ℕ). the_id store page n) slots)
  ]
]

wider : (store page slot : ℕ) (id : Rid) → IsBefore store page slot id → IsBefore store page (slot + 1) id
wider store page slot id before = (
  before.0,
  elim before.1 [
    | inl less ↦ inl less
    | inr same ↦ inr (same.0, omega (arith, same.1))
  ],
)

itself : (store page slot : ℕ) → IsBefore store page (slot + 1) (the_id store page slot)
itself store page slot = (refl, inr (refl, omega arith))

not_itself : (store page slot : ℕ) (id : Rid) → IsBefore store page slot id → id ≢ the_id store page slot
not_itself store page slot id before same = elim before.1 [
  | inl less ↦ omega (arith, less, ap (λ (r : Rid). r.page.page) same)
  | inr here ↦ omega (arith, here.1, ap (λ (r : Rid). r.slot) same)
]

are_wider : (store page slot : ℕ) (list : List Entry) → AreBefore store page slot list → AreBefore store page (slot + 1) list
are_wider store page slot [] are = tt
are_wider store page slot (e ∷ list) are = (wider store page slot e.0 are.0, are_wider store page slot list are.1)

are_push : (store page slot : ℕ) (list : List Entry) (e : Entry) → AreBefore store page slot list → IsBefore store page slot e.0 → AreBefore store page slot (list ++ e ∷ [])
are_push store page slot [] e are is = (is, tt)
are_push store page slot (x ∷ list) e are is = (are.0, are_push store page slot list e are.1 is)

module _ (S : PageId → List Slot) (store page : ℕ) where
  abbrev image_there : ℕ → Image
  image_there slot = image_at_slot (S (the_page store page)) slot

  image_is : (slot : ℕ) (id : Rid) → id ≡ the_id store page slot → image_at_slot (S id.page) id.slot ≡ image_there slot
  image_is slot id same = ap (λ (r : Rid). image_at_slot (S r.page) r.slot) same

  -- a slot with a record
  pub one_more : (slot : ℕ) (list : List Entry) (bytes : List ℕ) → image_there slot ≡ Some bytes → HasBefore S store page slot list → HasBefore S store page (slot + 1) (list ++ (the_id store page slot, bytes) ∷ [])
  one_more slot list bytes there old =
      let k = the_id store page slot in
      let absent : find rid_cmp k list ≡ None = old.none k (λ before. not_itself store page slot k before refl) in
      record {
        rises = rises_push store page slot list bytes old.rises old.before;
        before = are_push store page (slot + 1) list (k, bytes) (are_wider store page slot list old.before) (itself store page slot);
        has = λ id before. elim (split store page slot id before) [
          | inl earlier ↦ found_other list k id bytes absent (not_itself store page slot id earlier) ∙ old.has id earlier
          | inr same ↦ ap (λ (r : Rid). find rid_cmp r (list ++ (k, bytes) ∷ [])) same ∙ found_here list k bytes absent ∙ sym there ∙ sym (image_is slot id same)
        ];
        none = λ id not_before.
            let apart : id ≢ k = λ same. not_before (subst (IsBefore store page (slot + 1)) (sym same) (itself store page slot)) in
            found_other list k id bytes absent apart ∙ old.none id (λ before. not_before (wider store page slot id before));
      }

  -- a slot without one
  pub none_more : (slot : ℕ) (list : List Entry) → image_there slot ≡ None → HasBefore S store page slot list → HasBefore S store page (slot + 1) list
  none_more slot list empty old = record {
    rises = old.rises;
    before = are_wider store page slot list old.before;
    has = λ id before. elim (split store page slot id before) [
      | inl earlier ↦ old.has id earlier
      | inr same ↦ old.none id (λ earlier. not_itself store page slot id earlier same) ∙ sym empty ∙ sym (image_is slot id same)
    ];
    none = λ id not_before. old.none id (λ before. not_before (wider store page slot id before));
  }

  -- the records of all slots from one on
  pub records_more : (slot : ℕ) (images : List Image) (list : List Entry) → ((k : ℕ) → image_there (slot + k) ≡ get_or images k None) → HasBefore S store page slot list
      → HasBefore S store page (slot + length images) (list ++ records_from (the_page store page) slot images)
  records_more slot [] list are old =
      let here : slot ≡ slot + 0 = omega arith in
      subst (λ (n : ℕ). HasBefore S store page n (list ++ [])) here (subst (HasBefore S store page slot) (sym (append-nil list)) old)
  records_more slot (None ∷ rest) list are old =
      let here : slot ≡ slot + 0 = omega arith in
      let count : slot + 1 + length rest ≡ slot + suc (length rest) = omega arith in
      subst (λ (n : ℕ). HasBefore S store page n (list ++ records_from (the_page store page) (slot + 1) rest)) count
      (records_more (slot + 1) rest list (λ k. let next : slot + 1 + k ≡ slot + suc k = omega arith in ap image_there next ∙ are (suc k)) (none_more slot list (ap image_there here ∙ are 0) old))
  records_more slot (Some bytes ∷ rest) list are old =
      let here : slot ≡ slot + 0 = omega arith in
      let count : slot + 1 + length rest ≡ slot + suc (length rest) = omega arith in
      subst (λ (n : ℕ). HasBefore S store page n (list ++ (the_id store page slot, bytes) ∷ records_from (the_page store page) (slot + 1) rest)) count
      (subst (HasBefore S store page (slot + 1 + length rest)) (append_assoc list ((the_id store page slot, bytes) ∷ []) (records_from (the_page store page) (slot + 1) rest))
      (records_more (slot + 1) rest (list ++ (the_id store page slot, bytes) ∷ []) (λ k. let next : slot + 1 + k ≡ slot + suc k = omega arith in ap image_there next ∙ are (suc k))
      (one_more slot list bytes (ap image_there here ∙ are 0) old)))

  next_of : (slot : ℕ) (id : Rid) → IsBefore store page slot id → IsBefore store (page + 1) 0 id
  next_of slot id before = (
    before.0,
    inl (elim before.1 [
      | inl less ↦ omega (arith, less)
      | inr same ↦ omega (arith, same.0)
    ]),
  )

  are_next : (slot : ℕ) (list : List Entry) → AreBefore store page slot list → AreBefore store (page + 1) 0 list
  are_next slot [] are = tt
  are_next slot (e ∷ list) are = (next_of slot e.0 are.0, are_next slot list are.1)

  past : (slots : List Slot) (slot : ℕ) → length slots ≤ slot → image_at_slot slots slot ≡ None
  past [] slot behind = refl
  past (s ∷ slots) zero behind = absurd (omega arith)
  past (s ∷ slots) (suc slot) behind = past slots slot (omega arith)

  -- the last slot of a page is behind
  pub page_more : (slot : ℕ) (list : List Entry) → length (S (the_page store page)) ≤ slot → HasBefore S store page slot list → HasBefore S store (page + 1) 0 list
  page_more slot list behind_last old = record {
    rises = old.rises;
    before = are_next slot list old.before;
    has = λ id before.
        let low : id.page.page < page + 1 = elim before.1 [ inl less ↦ less | inr same ↦ absurd (omega (arith, same.1)) ] in
        elim (cases_lt id.page.page page) [
          | inl less ↦ old.has id (before.0, inl less)
          | inr not_less ↦
              let same : id.page.page ≡ page = omega (arith, low, not_less) in
              elim (cases_lt id.slot slot) [
                | inl inside ↦ old.has id (before.0, inr (same, inside))
                | inr behind ↦
                    let page_is : id.page ≡ the_page store page = ap (λ (n : ℕ). the_page n id.page.page) before.0 ∙ ap (λ (n : ℕ). the_page store n) same in
                    old.none id (λ earlier. elim earlier.1 [ inl less ↦ omega (arith, less, same) | inr here ↦ omega (arith, here.1, behind) ])
                    ∙ sym (ap (λ (p : PageId). image_at_slot (S p) id.slot) page_is ∙ past (S (the_page store page)) id.slot (omega (arith, behind, behind_last)))
              ]
        ];
    none = λ id not_before. old.none id (λ before. not_before (next_of slot id before));
  }

-- what is in a slot, read from the images
pub image_got : (slots : List Slot) (k : ℕ) → image_at_slot slots k ≡ get_or (images_of slots) k None
image_got [] k = refl
image_got (s ∷ slots) zero = refl
image_got (s ∷ slots) (suc k) = image_got slots k

-- all records of a page
pub page_records : (S : PageId → List Slot) (store page : ℕ) (slots : List Slot) (list : List Entry) → S (the_page store page) ≡ slots → HasBefore S store page 0 list
    → HasBefore S store (page + 1) 0 (list ++ records_from (the_page store page) 0 (images_of slots))
page_records S store page slots list are old =
    let long : length (S (the_page store page)) ≡ length (images_of slots) = ap (λ (l : List Slot). length l) are ∙ sym (length-map slots (λ s. s.image)) in
    page_more S store page (0 + length (images_of slots)) _ (omega (arith, long))
    (records_more S store page 0 (images_of slots) list (λ k. let same : 0 + k ≡ k = omega arith in ap (λ (l : List Slot). image_at_slot l (0 + k)) are ∙ ap (λ (n : ℕ). image_at_slot slots n) same ∙ image_got slots k) old)

pub nothing_yet : (S : PageId → List Slot) (store : ℕ) → HasBefore S store 0 0 []
nothing_yet S store = record {
  rises = tt;
  before = tt;
  has = λ id before. absurd (elim before.1 [ inl less ↦ omega (arith, less) | inr same ↦ omega (arith, same.1) ]);
  none = λ id not_before. refl;
}

-- ---- all pages of the store

pub inside_of : (stores : List ℕ) (id : PageId) (pages : ℕ) → slice_get stores id.store ≡ Some pages → IsSomeAnd (slice_get stores id.store) (λ n. id.page < n) → id.page < pages
inside_of stores id pages is has = subst (λ (o : Option ℕ). IsSomeAnd o (λ n. id.page < n)) is has

pub inside_so : (stores : List ℕ) (id : PageId) (pages : ℕ) → slice_get stores id.store ≡ Some pages → id.page < pages → IsSomeAnd (slice_get stores id.store) (λ n. id.page < n)
inside_so stores id pages is has = subst (λ (o : Option ℕ). IsSomeAnd o (λ n. id.page < n)) (sym is) has

pub all_pages : (S : PageId → List Slot) (g : Geometry) (store pages : ℕ) (list : List Entry) → slice_get g.stores store ≡ Some pages → HasBefore S store pages 0 list → IsScan S g store list
all_pages S g store pages list are old = record {
  rises = old.rises;
  has = λ id of_store there. old.has id (of_store, inl (inside_of g.stores id.page pages (ap (slice_get g.stores) of_store ∙ are) there));
  none = λ id apart. old.none id (λ before. elim before.1 [
    | inl less ↦ apart (inside_so g.stores id.page pages (ap (slice_get g.stores) before.0 ∙ are) less) before.0
    | inr same ↦ omega (arith, same.1)
  ]);
}

-- ---- the model's scan

page_or_not : (stores : List ℕ) (id : PageId) → IsSomeAnd (slice_get stores id.store) (λ n. id.page < n) ⊎ (IsSomeAnd (slice_get stores id.store) (λ n. id.page < n) → ⊥)
page_or_not stores id = each (slice_get stores id.store)
  where
    each : (o : Option ℕ) → IsSomeAnd o (λ n. id.page < n) ⊎ (IsSomeAnd o (λ n. id.page < n) → ⊥)
    each None = inr (λ has. has)
    each (Some n) = elim (cases_lt id.page n) [ inl less ↦ inl less | inr more ↦ inr (λ has. omega (arith, has, more)) ]

pub scans_as_the_model : ScansAsTheModel
scans_as_the_model g S store list R scan tells = same_entries rid_cmp rids_total exact_rids list (scan_of store R) scan.rises (is_sorted-where_key rid_cmp of_store (entries R) (entries_sorted R)) (λ q. each q ∙ sym (found q))
  where
    of_store : Rid → Bool
    of_store id = id.page.store == store

    found : (q : Rid) → find rid_cmp q (scan_of store R) ≡ cond (of_store q) (get R q) None
    found q = find-where_key rid_cmp of_store q (λ x same. ap of_store (sym (exact_rids q x same))) (entries R) ∙ ap (λ (o : Image). cond (of_store q) o None) (sym (get-entries R q))

    each : (q : Rid) → find rid_cmp q list ≡ cond (of_store q) (get R q) None
    each q = elim (cases_eq q.page.store store) [
      | inl same ↦ (elim (page_or_not g.stores q.page) [
        | inl there ↦ scan.has q same there ∙ sym (tells.inside q there)
        | inr not_there ↦ scan.none q (λ there. absurd (not_there there)) ∙ sym (tells.outside q not_there)
      ]) ∙ sym (ap (λ (b : Bool). cond b (get R q) None) (eq-eqb q.page.store store same))
      | inr other ↦ scan.none q (λ there. other) ∙ sym (ap (λ (b : Bool). cond b (get R q) None) (ne_eqb q.page.store store other))
    ]

-- what holds of a list holds of the one that a call left
pub pushed : {T E : Type 0} (P : List Entry → Type 0) (r : Result T E) (now list : List Entry) → OnOk r (now ≡ list) → P list → OnOk r (P now)
pushed P (Ok x) now list is p = subst P (sym is) p
pushed P (Err e) now list is p = tt

-- ---- parts of the store

-- slots of pages before the first one are taken for empty, the others are what they are
masked_below : (from : ℕ) (S : PageId → List Slot) (id : PageId) → id.page < from → slots_from from S id ≡ []
masked_below from S id below = ap (λ (b : Bool). if b then [] else S id) (lt-ltb id.page from below)

pub masked_there : (from : ℕ) (S : PageId → List Slot) (id : PageId) → from ≤ id.page → slots_from from S id ≡ S id
masked_there from S id there = ap (λ (b : Bool). if b then [] else S id) (le-ltb id.page from there)

-- nothing of a part, before its first page
pub nothing_before : (S : PageId → List Slot) (store from : ℕ) → HasBefore (slots_from from S) store from 0 []
nothing_before S store from = record {
  rises = tt;
  before = tt;
  has = λ id before. elim before.1 [
    | inl less ↦ sym (ap (λ (l : List Slot). image_at_slot l id.slot) (masked_below from S id.page less))
    | inr same ↦ absurd (omega (arith, same.1))
  ];
  none = λ id not_before. refl;
}

-- an id comes before a page of the store, or it does not
before_or_not : (store page : ℕ) (q : Rid) → IsBefore store page 0 q ⊎ (IsBefore store page 0 q → ⊥)
before_or_not store page q = elim (cases_eq q.page.store store) [
  | inl same ↦ elim (cases_lt q.page.page page) [
    | inl less ↦ inl (same, inl less)
    | inr more ↦ inr (λ h. elim h.1 [ inl less ↦ omega (arith, less, more) | inr here ↦ omega (arith, here.1) ])
  ]
  | inr other ↦ inr (λ h. other h.0)
]

-- a part has no other list
pub one_part : (S : PageId → List Slot) (store from to : ℕ) (one other : List Entry) → IsPart S store from to one → IsPart S store from to other → one ≡ other
one_part S store from to one other a b = same_entries rid_cmp rids_total exact_rids one other a.rises b.rises (λ q. elim (before_or_not store to q) [
  | inl before ↦ a.has q before ∙ sym (b.has q before)
  | inr apart ↦ a.none q apart ∙ sym (b.none q apart)
])

-- a page that is there comes before the end of its store
pub page_below : (stores : List ℕ) (id : PageId) (pages : ℕ) → slice_get stores id.store ≡ Some pages → IsSomeAnd (slice_get stores id.store) (λ n. id.page < n) → id.page < pages
page_below stores id pages are there = subst (λ (o : Option ℕ). IsSomeAnd o (λ n. id.page < n)) are there

-- where a part ends is in the store
pub end_inside : (g : Geometry) (store : ℕ) (next : Option PageId) → IfSome next (λ id. (id.store ≡ store) × HasPage g id) → part_end g store next ≤ unwrap_or (slice_get g.stores store) 0
end_inside g store None there = omega arith
end_inside g store (Some id) there = subst (λ (n : ℕ). id.page ≤ unwrap_or (slice_get g.stores n) 0) there.0 (by (slice_get g.stores id.store) there.1)
  where
    by : (o : Option ℕ) → IsSomeAnd o (λ n. id.page < n) → id.page ≤ unwrap_or o 0
    by None has = absurd has
    by (Some n) has = omega (arith, has)

module _ (g : Geometry) (S : PageId → List Slot) (store from to : ℕ) (R : Records) (inside : to ≤ unwrap_or (slice_get g.stores store) 0) (tells : Tells g S R) where
  abbrev there : Rid → Bool
  there id = (id.page.store == store) && nat_le from id.page.page && nat_lt id.page.page to

  page_there : (q : Rid) → q.page.store ≡ store → q.page.page < to → HasPage g q.page
  page_there q same less = subst (λ (n : ℕ). IsSomeAnd (slice_get g.stores n) (λ n. q.page.page < n)) (sym same) (by (slice_get g.stores store) inside)
    where
      by : (o : Option ℕ) → to ≤ unwrap_or o 0 → IsSomeAnd o (λ n. q.page.page < n)
      by None few = absurd (omega (arith, few, less))
      by (Some n) few = omega (arith, few, less)

  not_there : (q : Rid) → (IsBefore store to 0 q → ⊥) → there q ≡ false
  not_there q apart = elim (cases_eq q.page.store store) [
    | inr other ↦ ap (λ (b : Bool). b && nat_le from q.page.page && nat_lt q.page.page to) (ne_eqb q.page.store store other)
    | inl same ↦ elim (cases_lt q.page.page to) [
      | inl less ↦ absurd (apart (same, inl less))
      | inr more ↦ ap (λ (b : Bool). (q.page.store == store) && nat_le from q.page.page && b) (le-ltb q.page.page to more) ∙ never ((q.page.store == store) && nat_le from q.page.page)
    ]
  ]
    where
      never : (b : Bool) → (b && false) ≡ false
      never true = refl
      never false = refl

  model_has : (q : Rid) → IsBefore store to 0 q → cond (there q) (get R q) None ≡ image_at_slot (slots_from from S q.page) q.slot
  model_has q before = elim (cases_lt q.page.page from) [
    | inl below ↦ ap (λ (b : Bool). cond ((q.page.store == store) && b && nat_lt q.page.page to) (get R q) None) (lt-leb from q.page.page below) ∙ never (q.page.store == store)
        ∙ sym (ap (λ (l : List Slot). image_at_slot l q.slot) (masked_below from S q.page below))
    | inr behind ↦ ap (λ (b : Bool). cond (b && nat_le from q.page.page && nat_lt q.page.page to) (get R q) None) (eq-eqb q.page.store store before.0)
        ∙ ap (λ (b : Bool). cond (b && nat_lt q.page.page to) (get R q) None) (le-leb from q.page.page behind)
        ∙ ap (λ (b : Bool). cond b (get R q) None) (lt-ltb q.page.page to less)
        ∙ tells.inside q (page_there q before.0 less) ∙ sym (ap (λ (l : List Slot). image_at_slot l q.slot) (masked_there from S q.page behind))
  ]
    where
      less : q.page.page < to
      less = elim before.1 [ inl earlier ↦ earlier | inr here ↦ absurd (omega (arith, here.1)) ]

      never : (b : Bool) → cond (b && false && nat_lt q.page.page to) (get R q) None ≡ None
      never true = refl
      never false = refl

  all_before : (es : List Entry) → AreBefore store to 0 (filter (λ e. there e.0) es)
  all_before [] = tt
  all_before (e ∷ es) = one (there e.0) refl (all_before es)
    where
      one : (b : Bool) → there e.0 ≡ b → AreBefore store to 0 (filter (λ x. there x.0) es) → AreBefore store to 0 (cond b (e ∷ filter (λ x. there x.0) es) (filter (λ x. there x.0) es))
      one false is rest = rest
      one true is rest = (elim (before_or_not store to e.0) [ inl before ↦ before | inr apart ↦ absurd (let clash : true ≡ false = sym is ∙ not_there e.0 apart in cc) ], rest)

  -- the model's part is one
  pub model_part : IsPart S store from to (part_of store from to R)
  model_part = record {
    rises = is_sorted-where_key rid_cmp there (entries R) (entries_sorted R);
    before = all_before (entries R);
    has = λ q before. found q ∙ model_has q before;
    none = λ q apart. found q ∙ ap (λ (b : Bool). cond b (get R q) None) (not_there q apart);
  }
    where
      found : (q : Rid) → find rid_cmp q (part_of store from to R) ≡ cond (there q) (get R q) None
      found q = find-where_key rid_cmp there q (λ x same. ap there (sym (exact_rids q x same))) (entries R) ∙ ap (λ (o : Image). cond (there q) o None) (sym (get-entries R q))

pub parts_as_the_model : PartsAsTheModel
parts_as_the_model g S store from to list R inside part tells = one_part S store from to list (part_of store from to R) part (model_part g S store from to R inside tells)

-- Records that are done on their pages: a longer log, and one record more.
use Rattle.std.proofs.Common.{◌≡◌, ◌⊎◌, inl, inr, ◌+◌, ◌<◌, ◌≤◌, ℕ, List, [], ◌∷◌, ◌++◌, true, false, cond, Option, None, Some, length, refl, sym, ap, ◌∙◌, arith}
use Rattle.std.specs.Prelude.{slice_get, nat_lt, ◌&&◌}
use Rattle.std.specs.Ordering.{eq_by_cmp}
use Rattle.std.proofs.lemmas.Bool.{cases_Bool, cases_lt, lt-ltb, ltb-true}
use Rattle.shore_types.specs.Ids.{page_cmp}
use Rattle.shore_types.specs.Images.{Image}
use Rattle.shore_types.specs.declared.ids.PageId.{PageId}
use Rattle.shore_types.specs.declared.ids.Rid.{Rid}
use Rattle.shore_model.specs.declared.log_records.LogRecord.{LogRecord}
use Rattle.shore_model.specs.Logs.{image_in}
use Rattle.laws_lives.specs.DirtyPages.{HasAllUpTo}
use Rattle.laws_lives.specs.Pages.{LoggedPage, needs_redo, redone_on, slots_with}
use Rattle.laws_lives.proofs.Booleans.{and_true}
use Rattle.shore_analysis.proofs.MeantLogs.{own_or_last}

-- a page that the record changes, and that does not have it yet
pub redone_here : (n : ℕ) (p : PageId) (page : LoggedPage) (e : Rid × Image) → eq_by_cmp page_cmp p e.0.page ≡ true → page.number < n
    → redone_on n (Some e) p page ≡ record { number = n; slots = slots_with p page.slots e.0 e.1 }
redone_here n p page e equal low =
    let due : needs_redo n p page e.0 ≡ true = ap (λ b. b && nat_lt page.number n) equal ∙ lt-ltb page.number n low in
    ap (λ b. cond b (record { number = n; slots = slots_with p page.slots e.0 e.1 }) page) due

-- .. and any other page
pub redone_there : (n : ℕ) (p : PageId) (page : LoggedPage) (o : Option (Rid × Image)) → ((e : Rid × Image) → o ≡ Some e → eq_by_cmp page_cmp p e.0.page ≡ true → n ≤ page.number) → redone_on n o p page ≡ page
redone_there n p page None has = refl
redone_there n p page (Some e) has = elim (cases_Bool (needs_redo n p page e.0)) [
  | inl due ↦
      let both = and_true (eq_by_cmp page_cmp p e.0.page) (nat_lt page.number n) due in
      let up = has e refl both.0 in
      let low = ltb-true page.number n both.1 in
      absurd (omega arith)
  | inr apart ↦ ap (λ b. cond b (record { number = n; slots = slots_with p page.slots e.0 e.1 }) page) apart
]

-- one or the other
pub redone_or_not : (n : ℕ) (p : PageId) (page : LoggedPage) (o : Option (Rid × Image))
    → ((e : Rid × Image) × (o ≡ Some e) × (eq_by_cmp page_cmp p e.0.page ≡ true) × (page.number < n)) ⊎ ((e : Rid × Image) → o ≡ Some e → eq_by_cmp page_cmp p e.0.page ≡ true → n ≤ page.number)
redone_or_not n p page None = inr (λ e is equal. let clash : None ≡ Some e = is in absurd cc)
redone_or_not n p page (Some e) = elim (cases_Bool (eq_by_cmp page_cmp p e.0.page)) [
  | inl equal ↦ elim (cases_lt page.number n) [
    | inl low ↦ inl (e, refl, equal, low)
    | inr high ↦ inr (λ d is same. high)
  ]
  | inr apart ↦ inr (λ d is same.
      let one : e ≡ d = cc in
      let clash : true ≡ false = sym same ∙ ap (λ (x : Rid × Image). eq_by_cmp page_cmp p x.0.page) (sym one) ∙ apart in
      absurd cc)
]

module _ (log : List LogRecord) (p : PageId) (page : LoggedPage) (n : ℕ) (all : HasAllUpTo log p page n) where
  -- a longer log
  pub has_longer : (r : LogRecord) → n ≤ length log → HasAllUpTo (log ++ r ∷ []) p page n
  has_longer r within k x e low at is equal = elim (own_or_last log r x k at) [
    | inl own ↦ all k x e low own is equal
    | inr last ↦ let here = last.0 in absurd (omega arith)
  ]

  -- one record more
  pub has_next : (r : LogRecord) → slice_get log n ≡ Some r → HasAllUpTo log p (redone_on (n + 1) (image_in r.payload) p page) (n + 1)
  has_next r next k x e low at is equal = elim (redone_or_not (n + 1) p page (image_in r.payload)) [
    | inl due ↦
        let now : redone_on (n + 1) (image_in r.payload) p page ≡ record { number = n + 1; slots = slots_with p page.slots due.0.0 due.0.1 } =
        ap (λ o. redone_on (n + 1) o p page) due.1 ∙ redone_here (n + 1) p page due.0 due.2 due.3 in
        let number : (redone_on (n + 1) (image_in r.payload) p page).number ≡ n + 1 = ap (λ (x : LoggedPage). x.number) now in
        omega arith
    | inr has ↦
        let number : (redone_on (n + 1) (image_in r.payload) p page).number ≡ page.number = ap (λ (x : LoggedPage). x.number) (redone_there (n + 1) p page (image_in r.payload) has) in
        elim (cases_lt k n) [
          | inl older ↦ let up = all k x e older at is equal in omega arith
          | inr last ↦
              let here : k ≡ n = omega arith in
              let both : Some r ≡ Some x = sym next ∙ ap (slice_get log) (sym here) ∙ at in
              let one : r ≡ x = cc in
              let up = has e (ap (λ (y : LogRecord). image_in y.payload) one ∙ is) equal in
              omega arith
        ]
  ]

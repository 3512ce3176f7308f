-- Recovery numbers as records are redone, and the table that is taken of them.
use Rattle.std.proofs.Common.{◌≡◌, ◌⊎◌, inl, inr, ⊎_elim, ◌<◌, ◌≤◌, ◌+◌, ◌-◌, ◌++◌, ℕ, List, [], ◌∷◌, true, false, cond, Option, Some, None, refl, sym, ap, subst, ◌∙◌, length, min, arith}
use Rattle.std.specs.Prelude.{◌==◌, ◌&&◌, nat_lt, slice_get, IsSomeAnd}
use Rattle.std.specs.Cmp.{eq_by_cmp_equiv}
use Rattle.std.specs.List.{AllByRecursion}
use Rattle.std.specs.Ordering.{eq_by_cmp}
use Rattle.std.proofs.lemmas.Bool.{eq-eqb, eqb-true, true≢false}
use Rattle.std.proofs.lemmas.Option.{slice_get_within}
use Rattle.shore_types.specs.Ids.{page_cmp, pages_total}
use Rattle.shore_types.specs.Images.{Image}
use Rattle.shore_types.specs.declared.ids.PageId.{PageId}
use Rattle.shore_types.specs.declared.ids.Rid.{Rid}
use Rattle.shore_model.specs.declared.log_records.DirtyPage.{DirtyPage}
use Rattle.shore_model.specs.declared.log_records.LogRecord.{LogRecord}
use Rattle.shore_model.specs.Logs.{image_in}
use Rattle.laws_lives.specs.DirtyPages.{HasAllUpTo, surely_on_page}
use Rattle.laws_lives.specs.Pages.{LoggedPage, LoggedPages, needs_redo, redone_on, slots_with}
use Rattle.laws_lives.proofs.Booleans.{and_true}
use Rattle.laws_lives.proofs.Invariant.{equal_pages}
use Rattle.laws_lives.proofs.Lists.{within_or_beyond}
use Rattle.laws_checkpoints.specs.Checkpoints.{TableIsRight, least_recovery}
use Rattle.laws_checkpoints.specs.RecoveryNumbers.{ChangesPage, IsDirtyTableOf, ListsChanges, ListsPage, RecoveryNumbers, noted_on}
use Rattle.laws_checkpoints.proofs.Lists.{get_longer}
use Rattle.laws_checkpoints.proofs.PageTables.{all_less, sure_below}

-- ---- one record

-- what record n makes of a page and of its recovery number
pub record IsNoted (n : ℕ) (o : Option (Rid × Image)) (p : PageId) (page after : LoggedPage) (old new : ℕ) : Type 0 where
  pub clean : new ≡ 0 → (old ≡ 0) × (after ≡ page)
  pub either : (new ≡ old) ⊎ ((old ≡ 0) × (new ≡ n) × IsSomeAnd o (λ e. e.0.page ≡ p))

pub is_noted : (n : ℕ) → 0 < n → (o : Option (Rid × Image)) (p : PageId) (page : LoggedPage) (old : ℕ) → IsNoted n o p page (redone_on n o p page) old (noted_on n o p page old)
is_noted n some None p page old = record { clean = λ z. (z, refl); either = inl refl }
is_noted n some (Some e) p page old =
    elim (needs_redo n p page e.0) as (λ b. needs_redo n p page e.0 ≡ b
    → IsNoted n (Some e) p page (cond b (record { number = n; slots = slots_with p page.slots e.0 e.1 }) page) old (cond (b && (old == 0)) n old)) [
      | true ↦ λ yes.
          let here : e.0.page ≡ p = sym (equal_pages p e.0.page (and_true (eq_by_cmp page_cmp p e.0.page) (nat_lt page.number n) yes).0) in
          elim (old == 0) as (λ z. (old == 0) ≡ z → IsNoted n (Some e) p page (record { number = n; slots = slots_with p page.slots e.0 e.1 }) old (cond z n old)) [
            | true ↦ λ was. record { clean = λ z. absurd (omega arith); either = inr (eqb-true old 0 was, refl, here) }
            | false ↦ λ was. record { clean = λ z. absurd (true≢false (sym (eq-eqb old 0 z) ∙ was)); either = inl refl }
          ] refl
      | false ↦ λ no. record { clean = λ z. (z, refl); either = inl refl }
    ] refl

-- ---- a record of the log changes the page

pub changes_longer : (log more : List LogRecord) (n : ℕ) (p : PageId) → ChangesPage log n p → ChangesPage (log ++ more) n p
changes_longer log more n p h = (h.0, by_one (slice_get log (n - 1)) refl h.1)
  where
    by_one : (o : Option LogRecord) → slice_get log (n - 1) ≡ o → IsSomeAnd o (λ r. IsSomeAnd (image_in r.payload) (λ e. e.0.page ≡ p))
        → IsSomeAnd (slice_get (log ++ more) (n - 1)) (λ r. IsSomeAnd (image_in r.payload) (λ e. e.0.page ≡ p))
    by_one None at is = absurd is
    by_one (Some r) at is = subst (λ o. IsSomeAnd o (λ r. IsSomeAnd (image_in r.payload) (λ e. e.0.page ≡ p))) (sym (get_longer log more (n - 1) r at)) is

pub change_within : (log : List LogRecord) (n : ℕ) (p : PageId) → ChangesPage log n p → n ≤ length log
change_within log n p h = by_one (slice_get log (n - 1)) refl h.1
  where
    by_one : (o : Option LogRecord) → slice_get log (n - 1) ≡ o → IsSomeAnd o (λ r. IsSomeAnd (image_in r.payload) (λ e. e.0.page ≡ p)) → n ≤ length log
    by_one None at is = absurd is
    by_one (Some r) at is = let lt = slice_get_within log (n - 1) r at in omega arith

pub lists_longer : (log more : List LogRecord) (begin : ℕ) (ds : List DirtyPage) → ListsChanges log begin ds → ListsChanges (log ++ more) begin ds
lists_longer log more begin [] h = tt
lists_longer log more begin (d ∷ ds) h = ((h.0.0, changes_longer log more d.recovery d.page h.0.1), lists_longer log more begin ds h.1)

-- ---- after redo of record n + 1

module _ (V P Q : LoggedPages) (log : List LogRecord) (n : ℕ) (r : LogRecord) (at : slice_get log n ≡ Some r) (old new : PageId → ℕ)
    (each : (p : PageId) → IsNoted (n + 1) (image_in r.payload) p (P p) (Q p) (old p) (new p)) where
  pub clean_noted : ((p : PageId) → old p ≡ 0 → V p ≡ P p) → (p : PageId) → new p ≡ 0 → V p ≡ Q p
  clean_noted clean p z = let was = (each p).clean z in clean p was.0 ∙ sym was.1

  pub dirty_noted : ((p : PageId) → old p ≡ 0 → V p ≡ P p) → ((p : PageId) → HasAllUpTo log p (P p) n)
      → ((p : PageId) → 0 < old p → HasAllUpTo log p (V p) (old p - 1)) → (p : PageId) → 0 < new p → HasAllUpTo log p (V p) (new p - 1)
  dirty_noted clean h dirty p some = ⊎_elim
      (λ same. subst (λ k. HasAllUpTo log p (V p) (k - 1)) (sym same) (dirty p (subst (λ k. 0 < k) same some)))
      (λ first.
      let is = first.1 in
      let less : new p - 1 ≡ n = omega arith in
      subst (λ k. HasAllUpTo log p (V p) k) (sym less) (subst (λ x. HasAllUpTo log p x n) (sym (clean p first.0)) (h p)))
      (each p).either

  pub changed_noted : ((p : PageId) → 0 < old p → ChangesPage log (old p) p) → (p : PageId) → 0 < new p → ChangesPage log (new p) p
  changed_noted changed p some = ⊎_elim
      (λ same. subst (λ k. ChangesPage log k p) (sym same) (changed p (subst (λ k. 0 < k) same some)))
      (λ first.
      let one : n + 1 - 1 ≡ n = omega arith in
      subst (λ k. ChangesPage log k p) (sym first.1)
      (omega arith, subst (λ o. IsSomeAnd o (λ r. IsSomeAnd (image_in r.payload) (λ e. e.0.page ≡ p))) (sym (ap (slice_get log) one ∙ at)) first.2))
      (each p).either

  pub no_lower_noted : (low : ℕ) → low ≤ n + 1 → ((p : PageId) → 0 < old p → low ≤ old p) → (p : PageId) → 0 < new p → low ≤ new p
  no_lower_noted low le high p some = ⊎_elim
      (λ same. let h = high p (subst (λ k. 0 < k) same some) in omega arith)
      (λ first. let is = first.1 in omega arith)
      (each p).either

-- ---- the table as it is now

page_itself : (p : PageId) → eq_by_cmp page_cmp p p ≡ true
page_itself p = (eq_by_cmp_equiv pages_total).refl p

module _ (recovery : RecoveryNumbers) (begin : ℕ) where
  sure_listed : (p : PageId) (ds : List DirtyPage) → AllByRecursion (λ d. (0 < d.recovery) × (d.recovery ≡ recovery d.page)) ds → ListsPage p ds
      → surely_on_page begin ds p ≤ recovery p - 1
  sure_listed p [] each listed = absurd listed
  sure_listed p (d ∷ ds) each listed =
      elim (eq_by_cmp page_cmp p d.page) as (λ b. eq_by_cmp page_cmp p d.page ≡ b → cond b (min (d.recovery - 1) (begin - 1)) (surely_on_page begin ds p) ≤ recovery p - 1) [
        | true ↦ λ e. let same : recovery p ≡ recovery d.page = ap recovery (equal_pages p d.page e) in let is = each.0.1 in omega arith
        | false ↦ λ e. ⊎_elim
            (λ here. absurd (true≢false (sym (ap (eq_by_cmp page_cmp p) here ∙ page_itself p) ∙ e)))
            (λ later. sure_listed p ds each.1 later)
            listed
      ] refl

  pub recovery_listed : (n : ℕ) (p : PageId) (ds : List DirtyPage) → AllByRecursion (λ d. (0 < d.recovery) × (d.recovery ≡ recovery d.page)) ds → ListsPage p ds → least_recovery n ds ≤ recovery p
  recovery_listed n p [] each listed = absurd listed
  recovery_listed n p (d ∷ ds) each listed = ⊎_elim
      (λ here. let same : recovery d.page ≡ recovery p = ap recovery here in let is = each.0.1 in omega arith)
      (λ later. let rest = recovery_listed n p ds each.1 later in omega arith)
      listed

  pub least_no_lower : (tail n : ℕ) (ds : List DirtyPage) → tail ≤ n → ((p : PageId) → 0 < recovery p → tail ≤ recovery p)
      → AllByRecursion (λ d. (0 < d.recovery) × (d.recovery ≡ recovery d.page)) ds → tail ≤ least_recovery n ds
  least_no_lower tail n [] le kept each = le
  least_no_lower tail n (d ∷ ds) le kept each =
      let rest = least_no_lower tail n ds le kept each.1 in
      let some = each.0.0 in
      let is = each.0.1 in
      let high = kept d.page (omega arith) in
      omega arith

  pub right_now : (log : List LogRecord) (V P : LoggedPages) (ds : List DirtyPage) → IsDirtyTableOf recovery ds
      → ((p : PageId) → recovery p ≡ 0 → V p ≡ P p) → ((p : PageId) → 0 < recovery p → HasAllUpTo log p (V p) (recovery p - 1))
      → ((p : PageId) → HasAllUpTo log p (P p) (begin - 1)) → TableIsRight log begin ds V
  right_now log V P ds table clean dirty h p = ⊎_elim
      (λ le.
      let none : recovery p ≡ 0 = omega arith in
      subst (λ x. HasAllUpTo log p x (surely_on_page begin ds p)) (sym (clean p none)) (all_less log p (P p) (begin - 1) (h p) (surely_on_page begin ds p) (sure_below begin ds p)))
      (λ some. all_less log p (V p) (recovery p - 1) (dirty p some) (surely_on_page begin ds p) (sure_listed p ds table.each (table.every p some)))
      (within_or_beyond (recovery p) 0)

  pub lists_now : (log : List LogRecord) (ds : List DirtyPage) → begin ≡ length log + 1 → ((p : PageId) → 0 < recovery p → ChangesPage log (recovery p) p)
      → AllByRecursion (λ d. (0 < d.recovery) × (d.recovery ≡ recovery d.page)) ds → ListsChanges log begin ds
  lists_now log [] at changed each = tt
  lists_now log (d ∷ ds) at changed each =
      let is = each.0.1 in
      let some : 0 < recovery d.page = subst (λ n. 0 < n) is each.0.0 in
      let change : ChangesPage log d.recovery d.page = subst (λ n. ChangesPage log n d.page) (sym is) (changed d.page some) in
      let within = change_within log d.recovery d.page change in
      ((omega arith, change), lists_now log ds at changed each.1)

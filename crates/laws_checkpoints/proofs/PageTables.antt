-- A table of dirty pages that is right stays right of the pages in place, whatever is redone on them, and of those that a crash leaves.
use Rattle.std.proofs.Common.{◌≡◌, ◌⊎◌, ⊎_elim, ◌<◌, ◌≤◌, ◌+◌, ◌-◌, ◌++◌, ℕ, List, [], ◌∷◌, true, false, cond, Option, Some, None, refl, sym, ap, subst, ◌∙◌, length, min, take, arith}
use Rattle.std.specs.Prelude.{◌&&◌, nat_lt, slice_get}
use Rattle.std.specs.Ordering.{eq_by_cmp}
use Rattle.std.proofs.lemmas.Bool.{cases_Bool, ltb-true, lt-ltb, true≢false}
use Rattle.std.proofs.lemmas.List.{take-append-le}
use Rattle.shore_types.specs.Ids.{page_cmp}
use Rattle.shore_types.specs.Images.{Image}
use Rattle.shore_types.specs.declared.ids.PageId.{PageId}
use Rattle.shore_types.specs.declared.ids.Rid.{Rid}
use Rattle.shore_model.proofs.Beginnings.{slice_get_of_take}
use Rattle.shore_model.specs.declared.log_records.DirtyPage.{DirtyPage}
use Rattle.shore_model.specs.declared.log_records.LogRecord.{LogRecord}
use Rattle.shore_model.specs.Logs.{image_in}
use Rattle.laws_lives.specs.DirtyPages.{HasAllUpTo, TableCovers, redo_begins_behind, surely_on_page}
use Rattle.laws_lives.specs.Pages.{AreAsOfOwnNumbers, LoggedPage, LoggedPages, needs_redo, redone_on, redone_on_all, slots_with}
use Rattle.laws_lives.specs.Recovery.{with_page_written}
use Rattle.laws_lives.proofs.Booleans.{and_true}
use Rattle.laws_lives.proofs.DirtyPages.{lacks_none_one_by_one}
use Rattle.laws_lives.proofs.Invariant.{equal_pages}
use Rattle.laws_lives.proofs.Lists.{slice_get-take, within_or_beyond}
use Rattle.laws_checkpoints.specs.Checkpoints.{TableIsRight}

-- ---- what is surely on a page

pub sure_below : (begin : ℕ) (ds : List DirtyPage) (p : PageId) → surely_on_page begin ds p ≤ begin - 1
sure_below begin [] p = omega arith
sure_below begin (d ∷ ds) p =
    elim (eq_by_cmp page_cmp p d.page) as (λ b. cond b (min (d.recovery - 1) (begin - 1)) (surely_on_page begin ds p) ≤ begin - 1) [
      | true ↦ omega arith
      | false ↦ sure_below begin ds p
    ]

begins_below : (begin : ℕ) (ds : List DirtyPage) → redo_begins_behind begin ds ≤ begin - 1
begins_below begin [] = omega arith
begins_below begin (d ∷ ds) = let rest = begins_below begin ds in omega arith

pub begins_before_sure : (begin : ℕ) (ds : List DirtyPage) (p : PageId) → redo_begins_behind begin ds ≤ surely_on_page begin ds p
begins_before_sure begin [] p = omega arith
begins_before_sure begin (d ∷ ds) p =
    elim (eq_by_cmp page_cmp p d.page) as (λ b. redo_begins_behind begin (d ∷ ds) ≤ cond b (min (d.recovery - 1) (begin - 1)) (surely_on_page begin ds p)) [
      | true ↦ let rest = begins_below begin ds in omega arith
      | false ↦ let rest = begins_before_sure begin ds p in omega arith
    ]

-- ---- a page that has all records up to one

module _ (log : List LogRecord) (p : PageId) (page : LoggedPage) (n : ℕ) (h : HasAllUpTo log p page n) where
  pub all_less : (m : ℕ) → m ≤ n → HasAllUpTo log p page m
  all_less m le k r e lt at is here = h k r e (omega arith) at is here

  pub all_higher : (after : LoggedPage) → page.number ≤ after.number → HasAllUpTo log p after n
  all_higher after le k r e lt at is here = let low = h k r e lt at is here in omega arith

  pub all_longer : n ≤ length log → (more : List LogRecord) → HasAllUpTo (log ++ more) p page n
  all_longer within more k r e lt at is here =
      h k r e lt (sym (slice_get-take k n log lt) ∙ ap (λ rs. slice_get rs k) (sym (take-append-le n log more within)) ∙ slice_get-take k n (log ++ more) lt ∙ at) is here

  pub all_front : (m : ℕ) → HasAllUpTo (take m log) p page n
  all_front m k r e lt at is here = h k r e lt (slice_get_of_take log m k r at) is here

number_grows : (n : ℕ) (o : Option (Rid × Image)) (p : PageId) (page : LoggedPage) → page.number ≤ (redone_on n o p page).number
number_grows n None p page = omega arith
number_grows n (Some e) p page =
    elim (needs_redo n p page e.0) as (λ b. needs_redo n p page e.0 ≡ b → page.number ≤ (cond b (record { number = n; slots = slots_with p page.slots e.0 e.1 }) page).number) [
      | true ↦ λ yes. let low = ltb-true page.number n (and_true (eq_by_cmp page_cmp p e.0.page) (nat_lt page.number n) yes).1 in omega arith
      | false ↦ λ no. omega arith
    ] refl

-- what record n changes has its number then, or a higher one
number_reached : (n : ℕ) (e : Rid × Image) (p : PageId) (page : LoggedPage) → eq_by_cmp page_cmp p e.0.page ≡ true → n ≤ (redone_on n (Some e) p page).number
number_reached n e p page here = ⊎_elim
    (λ low.
    let yes : needs_redo n p page e.0 ≡ true = ap (λ b. b && nat_lt page.number n) here ∙ low in
    let is : (redone_on n (Some e) p page).number ≡ n = ap (λ b. (cond b (record { number = n; slots = slots_with p page.slots e.0 e.1 }) page).number) yes in
    omega arith)
    (λ high.
    let grows = number_grows n (Some e) p page in
    let there : n ≤ page.number = not_below page.number n high in
    omega arith)
    (cases_Bool (nat_lt page.number n))
  where
    not_below : (a b : ℕ) → nat_lt a b ≡ false → b ≤ a
    not_below a b h = ⊎_elim (λ le. le) (λ lt. absurd (true≢false (sym (lt-ltb a b lt) ∙ h))) (within_or_beyond b a)

module _ (log : List LogRecord) (p : PageId) (n : ℕ) (r : LogRecord) (at : slice_get log n ≡ Some r) where
  -- redo of the next record
  pub all_redone : (page : LoggedPage) → HasAllUpTo log p page n → HasAllUpTo log p (redone_on (n + 1) (image_in r.payload) p page) (n + 1)
  all_redone page h k x e lt here is on = ⊎_elim
      (λ before. all_higher log p page n h (redone_on (n + 1) (image_in r.payload) p page) (number_grows (n + 1) (image_in r.payload) p page) k x e (omega arith) here is on)
      (λ last.
      let same : n ≡ k = omega arith in
      let one : r ≡ x = unwrap (sym at ∙ ap (slice_get log) same ∙ here) in
      let image : image_in r.payload ≡ Some e = ap (λ (y : LogRecord). image_in y.payload) one ∙ is in
      let number = subst (λ o. n + 1 ≤ (redone_on (n + 1) o p page).number) (sym image) (number_reached (n + 1) e p page on) in
      omega arith)
      (within_or_beyond (k + 1) n)
    where
      unwrap : {A : Type 0} {x y : A} → Some x ≡ Some y → x ≡ y
      unwrap e = cc

  -- a record that the page has is not done on it
  pub passed_over : (page : LoggedPage) (sure : ℕ) → HasAllUpTo log p page sure → n < sure → redone_on (n + 1) (image_in r.payload) p page ≡ page
  passed_over page sure h lt = by_image (image_in r.payload) refl
    where
      by_image : (o : Option (Rid × Image)) → image_in r.payload ≡ o → redone_on (n + 1) o p page ≡ page
      by_image None is = refl
      by_image (Some e) is =
          elim (needs_redo (n + 1) p page e.0) as (λ b. needs_redo (n + 1) p page e.0 ≡ b → cond b (record { number = n + 1; slots = slots_with p page.slots e.0 e.1 }) page ≡ page) [
            | true ↦ λ yes.
                let both = and_true (eq_by_cmp page_cmp p e.0.page) (nat_lt page.number (n + 1)) yes in
                let has = h n r e lt at is both.0 in
                let low = ltb-true page.number (n + 1) both.1 in
                absurd (omega arith)
            | false ↦ λ no. refl
          ] refl

-- ---- the table

module _ (log : List LogRecord) (begin : ℕ) (dirty : List DirtyPage) (pages : LoggedPages) (right : TableIsRight log begin dirty pages) where
  pub right_longer : begin - 1 ≤ length log → (more : List LogRecord) → TableIsRight (log ++ more) begin dirty pages
  right_longer within more p = let below = sure_below begin dirty p in all_longer log p (pages p) (surely_on_page begin dirty p) (right p) (omega arith) more

  pub right_front : (m : ℕ) → TableIsRight (take m log) begin dirty pages
  right_front m p = all_front log p (pages p) (surely_on_page begin dirty p) (right p) m

  pub right_redone : (n : ℕ) (r : LogRecord) → TableIsRight log begin dirty (redone_on_all n r pages)
  right_redone n r p = all_higher log p (pages p) (surely_on_page begin dirty p) (right p) (redone_on n (image_in r.payload) p (pages p)) (number_grows n (image_in r.payload) p (pages p))

  pub right_flushed : (p : PageId) (page : LoggedPage) → HasAllUpTo log p page (begin - 1) → TableIsRight log begin dirty (with_page_written pages p page)
  right_flushed p page h q =
      elim (eq_by_cmp page_cmp q p) as (λ b. eq_by_cmp page_cmp q p ≡ b → HasAllUpTo log q (cond b page (pages q)) (surely_on_page begin dirty q)) [
        | true ↦ λ e. subst (λ x. HasAllUpTo log x page (surely_on_page begin dirty x)) (sym (equal_pages q p e)) (all_less log p page (begin - 1) h (surely_on_page begin dirty p) (sure_below begin dirty p))
        | false ↦ λ e. right q
      ] refl

  pub covers_right : begin - 1 ≤ length log → AreAsOfOwnNumbers log pages → TableCovers log begin dirty pages
  covers_right within own p =
      let below = sure_below begin dirty p in
      lacks_none_one_by_one log p (pages p) (surely_on_page begin dirty p) (omega arith) (own p) (right p)

-- a record that a page lacks comes behind those that are surely on it
pub lacked_behind : (log : List LogRecord) (p : PageId) (page : LoggedPage) (sure n : ℕ) (r : LogRecord) (e : Rid × Image) → HasAllUpTo log p page sure → slice_get log n ≡ Some r → image_in r.payload ≡ Some e
    → eq_by_cmp page_cmp p e.0.page ≡ true → page.number ≤ n → sure ≤ n
lacked_behind log p page sure n r e h at is here low = ⊎_elim (λ le. le) (λ lt. let has = h n r e lt at is here in absurd (omega arith)) (within_or_beyond sure n)

pub right_either : (log : List LogRecord) (begin : ℕ) (dirty : List DirtyPage) (V P left : LoggedPages) → TableIsRight log begin dirty V → TableIsRight log begin dirty P
    → ((p : PageId) → (left p ≡ V p) ⊎ (left p ≡ P p)) → TableIsRight log begin dirty left
right_either log begin dirty V P left v w each p = ⊎_elim
    (λ e. subst (λ x. HasAllUpTo log p x (surely_on_page begin dirty p)) (sym e) (v p))
    (λ e. subst (λ x. HasAllUpTo log p x (surely_on_page begin dirty p)) (sym e) (w p))
    (each p)

-- No page lacks a record before the place where redo begins by a table of dirty pages; and what keeps such a table right.
use Rattle.std.proofs.Common.{◌≡◌, ⊎_elim, ◌≤◌, ◌+◌, ◌-◌, ◌++◌, ℕ, zero, suc, List, [], ◌∷◌, true, false, cond, Option, Some, None, refl, sym, ap, subst, ◌∙◌, arith, length, take, max, min}
use Rattle.std.specs.Prelude.{slice_get, nat_lt, ◌&&◌}
use Rattle.std.specs.Ordering.{eq_by_cmp}
use Rattle.std.proofs.lemmas.Bool.{cases_Bool}
use Rattle.shore_types.specs.declared.ids.PageId.{PageId}
use Rattle.shore_types.specs.declared.ids.Rid.{Rid}
use Rattle.shore_types.specs.Ids.{page_cmp}
use Rattle.shore_model.specs.declared.log_records.DirtyPage.{DirtyPage}
use Rattle.shore_model.specs.declared.log_records.LogRecord.{LogRecord}
use Rattle.shore_types.specs.Images.{Image}
use Rattle.shore_model.specs.Logs.{image_in}
use Rattle.laws_lives.specs.Pages.{LoggedPage, LoggedPages, IsAsOfOwnNumber, LacksNone, PagesLackNone, redone_on, slots_with}
use Rattle.laws_lives.specs.Recovery.{with_page_written}
use Rattle.laws_lives.specs.DirtyPages.{HasAllUpTo, TableCovers, redo_begins_behind, surely_on_page}
use Rattle.laws_lives.proofs.Redo.{redo_one, lacks_less, lacks_longer, lacks_cut, lacks_none_yet}
use Rattle.laws_lives.proofs.Writers.{no_place}
use Rattle.laws_lives.proofs.Invariant.{equal_pages}

least_below : (begin : ℕ) (ds : List DirtyPage) → redo_begins_behind begin ds ≤ begin - 1
least_below begin [] = omega arith
least_below begin (d ∷ ds) = let rest = least_below begin ds in omega arith

least_is_sure : (begin : ℕ) (ds : List DirtyPage) (p : PageId) → redo_begins_behind begin ds ≤ surely_on_page begin ds p
least_is_sure begin [] p = omega arith
least_is_sure begin (d ∷ ds) p =
    elim (eq_by_cmp page_cmp p d.page) as (λ b. redo_begins_behind begin (d ∷ ds) ≤ cond b (min (d.recovery - 1) (begin - 1)) (surely_on_page begin ds p)) [
      | true ↦ let rest = least_below begin ds in omega arith
      | false ↦ let rest = least_is_sure begin ds p in omega arith
    ]

pub redo_may_begin : (log : List LogRecord) (begin : ℕ) (dirty : List DirtyPage) (pages : LoggedPages) → TableCovers log begin dirty pages → PagesLackNone log (redo_begins_behind begin dirty) pages
redo_may_begin log begin dirty pages covers p =
    lacks_less log p (surely_on_page begin dirty p) (pages p) (covers p) (redo_begins_behind begin dirty) (least_is_sure begin dirty p)

pub redo_may_skip : (log : List LogRecord) (p : PageId) (n sure : ℕ) (page : LoggedPage) → n + 1 ≤ sure → LacksNone log p (max n sure) page → LacksNone log p (max (n + 1) sure) page
redo_may_skip log p n sure page le h = let same : max n sure ≡ max (n + 1) sure = omega arith in subst (λ m. LacksNone log p m page) same h

-- ---- a record of another page

off_page : (p : PageId) (n : ℕ) (page : LoggedPage) (o : Option (Rid × Image)) → ((e : Rid × Image) → o ≡ Some e → eq_by_cmp page_cmp p e.0.page ≡ false) → redone_on n o p page ≡ page
off_page p n page None h = refl
off_page p n page (Some e) h = ap (λ b. cond (b && nat_lt page.number n) (record { number = n; slots = slots_with p page.slots e.0 e.1 }) page) (h e refl)

pub others_leave : (log : List LogRecord) (p : PageId) (n : ℕ) (r : LogRecord) (page : LoggedPage) → slice_get log n ≡ Some r
    → ((e : Rid × Image) → image_in r.payload ≡ Some e → eq_by_cmp page_cmp p e.0.page ≡ false) → LacksNone log p n page → LacksNone log p (n + 1) page
others_leave log p n r page at off h = subst (LacksNone log p (n + 1)) (off_page p (n + 1) page (image_in r.payload) off) (redo_one log p n r at page h)

-- ---- the table goes on

sure_below : (begin : ℕ) (ds : List DirtyPage) (p : PageId) → surely_on_page begin ds p ≤ begin - 1
sure_below begin [] p = omega arith
sure_below begin (d ∷ ds) p =
    elim (eq_by_cmp page_cmp p d.page) as (λ b. cond b (min (d.recovery - 1) (begin - 1)) (surely_on_page begin ds p) ≤ begin - 1) [
      | true ↦ omega arith
      | false ↦ sure_below begin ds p
    ]

module _ (log : List LogRecord) (begin : ℕ) (dirty : List DirtyPage) (pages : LoggedPages) (covers : TableCovers log begin dirty pages) where
  pub covers_longer : (more : List LogRecord) → TableCovers (log ++ more) begin dirty pages
  covers_longer more p = lacks_longer log p (surely_on_page begin dirty p) (pages p) (covers p) more

  pub covers_cut : (k : ℕ) → begin - 1 ≤ k → ((p : PageId) → (pages p).number ≤ k) → k ≤ length log → TableCovers (take k log) begin dirty pages
  covers_cut k le numbers most p =
      let below = sure_below begin dirty p in
      lacks_cut log p (surely_on_page begin dirty p) (pages p) (covers p) k (omega arith) (numbers p) most

  pub covers_flushed : (p : PageId) (page : LoggedPage) (redone : ℕ) → begin - 1 ≤ redone → LacksNone log p redone page → TableCovers log begin dirty (with_page_written pages p page)
  covers_flushed p page redone le h q =
      elim (eq_by_cmp page_cmp q p) as (λ b. eq_by_cmp page_cmp q p ≡ b → LacksNone log q (surely_on_page begin dirty q) (cond b page (pages q))) [
        | true ↦ λ e.
            let same : q ≡ p = equal_pages q p e in
            let below = sure_below begin dirty q in
            subst (λ x. LacksNone log x (surely_on_page begin dirty q) page) (sym same) (lacks_less log p redone page h (surely_on_page begin dirty q) (omega arith))
        | false ↦ λ e. covers q
      ] refl

-- ---- the records on a page, one by one

lacks_next : (log : List LogRecord) (p : PageId) (page : LoggedPage) (n : ℕ) (r : LogRecord) → slice_get log n ≡ Some r
    → ((e : Rid × Image) → image_in r.payload ≡ Some e → eq_by_cmp page_cmp p e.0.page ≡ true → n + 1 ≤ page.number) → LacksNone log p n page → LacksNone log p (n + 1) page
lacks_next log p page n r at on h = by_image (image_in r.payload) refl
  where
    by_image : (o : Option (Rid × Image)) → image_in r.payload ≡ o → LacksNone log p (n + 1) page
    by_image None is = others_leave log p n r page at (λ e some. let none : None ≡ Some e = sym is ∙ some in cc) h
    by_image (Some e) is = ⊎_elim
        (λ here. let high = on e is here in record { each = λ m least most. h.each m least (omega arith) })
        (λ off. others_leave log p n r page at (λ f some. let same : e ≡ f = unwrap (sym is ∙ some) in ap (λ (g : Rid × Image). eq_by_cmp page_cmp p g.0.page) (sym same) ∙ off) h)
        (cases_Bool (eq_by_cmp page_cmp p e.0.page))
      where
        unwrap : {A : Type 0} {x y : A} → Some x ≡ Some y → x ≡ y
        unwrap e = cc

pub lacks_none_one_by_one : (log : List LogRecord) (p : PageId) (page : LoggedPage) (n : ℕ) → n ≤ length log → IsAsOfOwnNumber log p page → HasAllUpTo log p page n → LacksNone log p n page
lacks_none_one_by_one log p page zero le own on = lacks_none_yet log p page own
lacks_none_one_by_one log p page (suc n) le own on =
    let next : n + 1 ≡ suc n = omega arith in
    subst (λ k. LacksNone log p k page) next
    (one_more (slice_get log n) refl (lacks_none_one_by_one log p page n (omega arith) own (λ k r e lt at is here. on k r e (omega arith) at is here)))
  where
    one_more : (o : Option LogRecord) → slice_get log n ≡ o → LacksNone log p n page → LacksNone log p (n + 1) page
    one_more None at h = absurd (no_place log n (omega arith) at)
    one_more (Some r) at h = lacks_next log p page n r at (λ e is here. on n r e (omega arith) at is here) h

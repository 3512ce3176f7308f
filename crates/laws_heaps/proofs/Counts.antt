-- How many slots a page has by the records of a log, as it grows and is cut.
use Rattle.std.proofs.Common.{◌≡◌, inl, inr, ◌+◌, ◌-◌, ◌≤◌, ℕ, zero, suc, List, Bool, true, cond, Option, None, Some, max, take, refl, sym, ap, ◌∙◌, arith}
use Rattle.std.specs.Ordering.{eq_by_cmp}
use Rattle.std.proofs.lemmas.Bool.{cases_Bool}
use Rattle.std.proofs.lemmas.List.{take_all}
use Rattle.std.proofs.lemmas.Option.{slice_get_cases}
use Rattle.shore_types.specs.Ids.{page_cmp}
use Rattle.shore_types.specs.Images.{Image}
use Rattle.shore_types.specs.declared.ids.PageId.{PageId}
use Rattle.shore_types.specs.declared.ids.Rid.{Rid}
use Rattle.shore_model.specs.declared.log_records.LogRecord.{LogRecord}
use Rattle.shore_model.specs.Logs.{image_in}
use Rattle.laws_lives.specs.DirtyPages.{HasAllUpTo}
use Rattle.laws_lives.specs.Pages.{LoggedPage}
use Rattle.laws_lives.proofs.Redo.{take_next}
use Rattle.laws_runs.specs.SlotCounts.{slot_count, slots_behind}
use Rattle.laws_runs.proofs.SlotCounts.{slot_count-push}

-- ---- one record

-- a record of another page, or of none, adds no slot
pub behind_other : (p : PageId) (o : Option (Rid × Image)) (n : ℕ) → ((e : Rid × Image) → o ≡ Some e → eq_by_cmp page_cmp p e.0.page ≡ true → ⊥) → slots_behind p o n ≡ n
behind_other p None n other = refl
behind_other p (Some e) n other = elim (cases_Bool (eq_by_cmp page_cmp p e.0.page)) [
  | inl equal ↦ absurd (other e refl equal)
  | inr apart ↦ ap (λ (b : Bool). cond b (max n (e.0.slot + 1)) n) apart
]

-- ---- records that are on the page

module _ (log : List LogRecord) (p : PageId) (page : LoggedPage) (n : ℕ) (all : HasAllUpTo log p page n) where
  count_from : (d : ℕ) → page.number + d ≤ n → slot_count (take (page.number + d) log) p ≡ slot_count (take page.number log) p
  count_from zero le = let at : page.number + zero ≡ page.number = omega arith in ap (λ (k : ℕ). slot_count (take k log) p) at
  count_from (suc d) le =
      let at : page.number + suc d ≡ (page.number + d) + 1 = omega arith in
      ap (λ (k : ℕ). slot_count (take k log) p) at ∙ one ∙ count_from d (omega arith)
    where
      one : slot_count (take ((page.number + d) + 1) log) p ≡ slot_count (take (page.number + d) log) p
      one = elim (slice_get_cases log (page.number + d)).1 [
        | inl found ↦
            ap (λ (l : List LogRecord). slot_count l p) (take_next log (page.number + d) found.0 found.2) ∙ slot_count-push (take (page.number + d) log) found.0 p
            ∙ behind_other p (image_in found.0.payload) (slot_count (take (page.number + d) log) p)
            (λ e is equal. let low = all (page.number + d) found.0 e (omega arith) found.2 is equal in absurd (omega arith))
        | inr past ↦ let beyond = past.0 in ap (λ (l : List LogRecord). slot_count l p) (take_all ((page.number + d) + 1) log (omega arith) ∙ sym (take_all (page.number + d) log beyond))
      ]

  -- the page has as many slots as the records done leave
  pub count_done : page.number ≤ n → slot_count (take page.number log) p ≡ slot_count (take n log) p
  count_done le =
      let over : (d : ℕ) × (page.number + d ≡ n) = (n - page.number, omega arith) in
      sym (ap (λ (k : ℕ). slot_count (take k log) p) (sym over.1) ∙ count_from over.0 (omega (arith, over.1)))

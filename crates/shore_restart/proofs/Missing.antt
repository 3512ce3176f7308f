-- The count of records that are missing on pages: redo of one leaves what is missing of those behind it.
use Rattle.std.proofs.Common.{◌≡◌, ◌+◌, ◌<◌, ◌≤◌, ℕ, suc, List, [], ◌∷◌, Bool, cond, Option, Some, None, inl, inr, refl, sym, ap, ◌∙◌, drop, arith}
use Rattle.std.specs.Prelude.{if◌then◌else◌, slice_get, nat_lt}
use Rattle.std.specs.Ordering.{eq_by_cmp}
use Rattle.std.proofs.Math.Seq.{drop-cons}
use Rattle.std.proofs.lemmas.Bool.{cases_Bool, lt-ltb, ltb-true}
use Rattle.std.proofs.lemmas.Option.{get_or_from_slice_get, slice_get_within}
use Rattle.shore_types.specs.Ids.{page_cmp}
use Rattle.shore_types.specs.Images.{Image}
use Rattle.shore_types.specs.declared.ids.PageId.{PageId}
use Rattle.shore_types.specs.declared.ids.Rid.{Rid}
use Rattle.shore_model.specs.declared.log_records.LogRecord.{LogRecord}
use Rattle.shore_model.specs.Logs.{image_in}
use Rattle.laws_lives.specs.Pages.{LoggedPage, LoggedPages, needs_redo, redone_on, redone_on_all, slots_with}
use Rattle.laws_lives.proofs.Booleans.{and_true}
use Rattle.shore_restart.specs.Missing.{is_missing, missing_behind}

-- a page below a later number stays below it
low_still : (n k : ℕ) (p : PageId) (page : LoggedPage) (o : Option (Rid × Image)) → n < k → nat_lt (redone_on n o p page).number k ≡ nat_lt page.number k
low_still n k p page None less = refl
low_still n k p page (Some e) less = elim (cases_Bool (needs_redo n p page e.0)) [
  | inl due ↦
      let low = ltb-true page.number n (and_true (eq_by_cmp page_cmp p e.0.page) (nat_lt page.number n) due).1 in
      ap (λ b. nat_lt (cond b (record { number = n; slots = slots_with p page.slots e.0 e.1 }) page).number k) due ∙ lt-ltb n k less ∙ sym (lt-ltb page.number k (omega arith))
  | inr apart ↦ ap (λ b. nat_lt (cond b (record { number = n; slots = slots_with p page.slots e.0 e.1 }) page).number k) apart
]

missing_still : (n k : ℕ) (r : LogRecord) (pages : LoggedPages) (o : Option (Rid × Image)) → n < k → is_missing (redone_on_all n r pages) k o ≡ is_missing pages k o
missing_still n k r pages None less = refl
missing_still n k r pages (Some e) less = low_still n k e.0.page (pages e.0.page) (image_in r.payload) less

behind_still : (rs : List LogRecord) (n k : ℕ) (r : LogRecord) (pages : LoggedPages) → n ≤ k → missing_behind k rs (redone_on_all n r pages) ≡ missing_behind k rs pages
behind_still [] n k r pages le = refl
behind_still (next ∷ rs) n k r pages le =
    ap (λ b. (if b then 1 else 0) + missing_behind (k + 1) rs (redone_on_all n r pages)) (missing_still n (k + 1) r pages (image_in next.payload) (omega arith))
    ∙ ap (λ m. (if is_missing pages (k + 1) (image_in next.payload) then 1 else 0) + m) (behind_still rs n (k + 1) r pages (omega arith))

-- One record more is redone where it was missing, and counted then.
pub count_next : (log : List LogRecord) (n count : ℕ) (b : Bool) (r : LogRecord) (pages later : LoggedPages) (all : ℕ) → slice_get log n ≡ Some r → b ≡ is_missing pages (n + 1) (image_in r.payload)
    → later ≡ redone_on_all (n + 1) r pages → count + missing_behind n (drop n log) pages ≡ all → ((if b then 1 else 0) + count) + missing_behind (n + 1) (drop (n + 1) log) later ≡ all
count_next log n count b r pages later all at did redone counted =
    let within = slice_get_within log n r at in
    let one : suc n ≡ n + 1 = omega arith in
    let split : drop n log ≡ r ∷ drop (n + 1) log = drop-cons log n r within ∙ ap (λ (x : LogRecord). x ∷ drop (suc n) log) (get_or_from_slice_get log n r r at) ∙ ap (λ (k : ℕ). r ∷ drop k log) one in
    let rest : missing_behind (n + 1) (drop (n + 1) log) later ≡ missing_behind (n + 1) (drop (n + 1) log) pages =
    ap (missing_behind (n + 1) (drop (n + 1) log)) redone ∙ behind_still (drop (n + 1) log) (n + 1) (n + 1) r pages (omega arith) in
    let whole : missing_behind n (drop n log) pages ≡ (if b then 1 else 0) + missing_behind (n + 1) (drop (n + 1) log) pages =
    ap (λ (l : List LogRecord). missing_behind n l pages) split ∙ ap (λ (d : Bool). (if d then 1 else 0) + missing_behind (n + 1) (drop (n + 1) log) pages) (sym did) in
    omega (arith, rest, whole, counted)

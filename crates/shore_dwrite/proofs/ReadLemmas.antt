-- The entries of a table, as they are read one after another.
use Rattle.std.proofs.Common.{◌≡◌, ◌≢◌, ◌⊎◌, inl, inr, ℕ, zero, suc, ◌+◌, ◌-◌, ◌*◌, ◌<◌, ◌≤◌, Bool, List, [], ◌∷◌, ◌++◌, All, length, slice_get, get_or, nat_le, nat_lt, Some, Result, Ok, Err, MatchResult, sym, ap, subst, ◌∙◌, arith, length-append, if◌then◌else◌}
use Rattle.std.proofs.lemmas.Bool.{cases_lt, cases_eq, and_from, and_left, and_right, eq-eqb, ne_eqb, lt-ltb, le-leb, false_from_ne_true, leb-true, ltb-true}
use Rattle.std.proofs.lemmas.List.Elements.{All-push, All-head, All-tail, All-weaker}
use Rattle.std.proofs.lemmas.Option.{slice_get_within, slice_get-get_or, get_or_from_slice_get}
use Rattle.std.proofs.lemmas.List.{get_or_append_left, get_or-append_right}
use Rattle.shore_types.specs.declared.faults.Device.TheVariants.{Volume}
use Rattle.shore_types.specs.declared.faults.Fault.{Fault}
use Rattle.shore_types.specs.declared.faults.Fault.TheVariants.{Damaged}
use Rattle.shore_dwrite.specs.Checks.{page_verdict, zero_verdict}
use Rattle.shore_dwrite.specs.Shown.{RiseFrom}
use Rattle.shore_dwrite.specs.Tables.{cell}

-- so many are left as come behind the next, and that
one_more : (n i : ℕ) → i < n → n - i ≡ suc (n - (i + 1))
one_more n i low = omega arith

pub zero_more : (table : List ℕ) (n i : ℕ) → i < n → cell (i + 1) table ≡ 0 → zero_verdict table i (n - i) ≡ zero_verdict table (i + 1) (n - (i + 1))
zero_more table n i low is =
    ap (zero_verdict table i) (one_more n i low)
    ∙ ap (λ (b : Bool). if b then zero_verdict table (i + 1) (n - (i + 1)) else Err (Damaged Volume (4100 + 4 * (i + 1)))) (eq-eqb (cell (i + 1) table) 0 is)

pub zero_stops : (table : List ℕ) (n i : ℕ) → i < n → cell (i + 1) table ≢ 0 → zero_verdict table i (n - i) ≡ Err (Damaged Volume (4100 + 4 * (i + 1)))
zero_stops table n i low is =
    ap (zero_verdict table i) (one_more n i low)
    ∙ ap (λ (b : Bool). if b then zero_verdict table (i + 1) (n - (i + 1)) else Err (Damaged Volume (4100 + 4 * (i + 1)))) (ne_eqb (cell (i + 1) table) 0 is)

pub zero_ends : (table : List ℕ) (n i : ℕ) → n ≤ i → zero_verdict table i (n - i) ≡ Ok tt
zero_ends table n i end =
    let none : n - i ≡ 0 = omega arith in
    ap (zero_verdict table i) none

pub page_more : (pages : ℕ) (table : List ℕ) (n i low : ℕ) → i < n → low ≤ cell (i + 1) table → cell (i + 1) table < pages
    → page_verdict pages table i low (n - i) ≡ page_verdict pages table (i + 1) (cell (i + 1) table + 1) (n - (i + 1))
page_more pages table n i low before least most =
    ap (page_verdict pages table i low) (one_more n i before)
    ∙ ap (λ (b : Bool). if b then page_verdict pages table (i + 1) (cell (i + 1) table + 1) (n - (i + 1)) else Err (Damaged Volume (4100 + 4 * (i + 1))))
    (and_from (nat_le low (cell (i + 1) table)) (nat_lt (cell (i + 1) table) pages) (le-leb low (cell (i + 1) table) least) (lt-ltb (cell (i + 1) table) pages most))

pub page_stops : (pages : ℕ) (table : List ℕ) (n i low : ℕ) → i < n → ((cell (i + 1) table < low) ⊎ (pages ≤ cell (i + 1) table)) → page_verdict pages table i low (n - i) ≡ Err (Damaged Volume (4100 + 4 * (i + 1)))
page_stops pages table n i low before bad =
    ap (page_verdict pages table i low) (one_more n i before)
    ∙ ap (λ (b : Bool). if b then page_verdict pages table (i + 1) (cell (i + 1) table + 1) (n - (i + 1)) else Err (Damaged Volume (4100 + 4 * (i + 1)))) (elim bad [
      | inl less ↦ and_left (nat_le low (cell (i + 1) table)) (nat_lt (cell (i + 1) table) pages) (false_from_ne_true (nat_le low (cell (i + 1) table)) (λ is. absurd (omega (arith, leb-true low (cell (i + 1) table) is))))
      | inr more ↦ and_right (nat_le low (cell (i + 1) table)) (nat_lt (cell (i + 1) table) pages) (false_from_ne_true (nat_lt (cell (i + 1) table) pages) (λ is. absurd (omega (arith, ltb-true (cell (i + 1) table) pages is))))
    ])

-- the first entries are read
pub record HasRead (table : List ℕ) (pages : ℕ) (numbers : List ℕ) (i low : ℕ) : Type 0 where
  pub length_is : length numbers ≡ i
  pub entries : (j k : ℕ) → slice_get numbers j ≡ Some k → cell (j + 1) table ≡ k
  pub rise : RiseFrom 0 numbers
  pub below : All (λ k. k < low) numbers
  pub on_volume : All (λ k. k < pages) numbers

rise_push : (low k : ℕ) (ns : List ℕ) → RiseFrom low ns → All (λ n. n < k) ns → low ≤ k → RiseFrom low (ns ++ k ∷ [])
rise_push low k [] rise below le = (le, tt)
rise_push low k (n ∷ ns) rise below le = (rise.0, rise_push (n + 1) k ns rise.1 (All-tail (λ n. n < k) n ns below) (omega (arith, All-head (λ n. n < k) n ns below)))

pub read_more : (table : List ℕ) (pages : ℕ) (numbers : List ℕ) (i low k : ℕ) → HasRead table pages numbers i low → k ≡ cell (i + 1) table → low ≤ k → k < pages → HasRead table pages (numbers ++ k ∷ []) (i + 1) (k + 1)
read_more table pages numbers i low k so_far is least most = record {
  length_is = omega (arith, length-append numbers (k ∷ []), so_far.length_is);
  entries = λ j n got. elim (cases_lt j i) [
    | inl less ↦
        let there : slice_get numbers j ≡ Some (get_or numbers j 0) = slice_get-get_or numbers j 0 (omega (arith, so_far.length_is)) in
        let same : get_or numbers j 0 ≡ n = sym (get_or_append_left numbers (k ∷ []) 0 j (omega (arith, so_far.length_is))) ∙ get_or_from_slice_get (numbers ++ k ∷ []) j n 0 got in
        so_far.entries j (get_or numbers j 0) there ∙ same
    | inr from ↦
        let within : j < length (numbers ++ k ∷ []) = slice_get_within (numbers ++ k ∷ []) j n got in
        let last : j ≡ i = omega (arith, length-append numbers (k ∷ []), so_far.length_is) in
        let same : k ≡ n = sym (get_or-append_right numbers (k ∷ []) i i 0 so_far.length_is (omega arith) ∙ first k i) ∙ ap (λ (m : ℕ). get_or (numbers ++ k ∷ []) m 0) (sym last) ∙ get_or_from_slice_get (numbers ++ k ∷ []) j n 0 got in
        ap (λ (m : ℕ). cell (m + 1) table) last ∙ sym is ∙ same
  ];
  rise = rise_push 0 k numbers so_far.rise (All-weaker (λ n. n < low) (λ n. n < k) (λ n less. omega arith) numbers so_far.below) (omega arith);
  below = All-push (λ n. n < k + 1) numbers k (All-weaker (λ n. n < low) (λ n. n < k + 1) (λ n less. omega arith) numbers so_far.below) (omega arith);
  on_volume = All-push (λ n. n < pages) numbers k so_far.on_volume most;
}
  where
    first : (k i : ℕ) → get_or (k ∷ []) (i - i) 0 ≡ k
    first k i =
        let none : i - i ≡ 0 = omega arith in
        ap (λ (n : ℕ). get_or (k ∷ []) n 0) none

not_both : (r : Result Unit Fault) (f : Fault) → r ≡ Err f → r ≡ Ok tt → ⊥
not_both r f fails passes = subst (λ (r : Result Unit Fault). MatchResult r (λ _. ⊥) (λ _. Unit {0})) (sym fails ∙ passes) tt

-- entries that pass are zero
pub zero_all : (table : List ℕ) (i left j : ℕ) → zero_verdict table i left ≡ Ok tt → i ≤ j → j < i + left → cell (j + 1) table ≡ 0
zero_all table i zero j passes from low = absurd (omega arith)
zero_all table i (suc left) j passes from low = elim (cases_eq (cell (i + 1) table) 0) [
  | inl is ↦ elim (cases_lt i j) [
    | inl behind ↦ zero_all table (i + 1) left j (sym (step is) ∙ passes) (omega arith) (omega arith)
    | inr here ↦
        let same : j ≡ i = omega arith in
        ap (λ (n : ℕ). cell (n + 1) table) same ∙ is
  ]
  | inr other ↦ absurd (not_both (zero_verdict table i (suc left)) (Damaged Volume (4100 + 4 * (i + 1))) (stop other) passes)
]
  where
    step : cell (i + 1) table ≡ 0 → zero_verdict table i (suc left) ≡ zero_verdict table (i + 1) left
    step is = ap (λ (b : Bool). if b then zero_verdict table (i + 1) left else Err (Damaged Volume (4100 + 4 * (i + 1)))) (eq-eqb (cell (i + 1) table) 0 is)

    stop : cell (i + 1) table ≢ 0 → zero_verdict table i (suc left) ≡ Err (Damaged Volume (4100 + 4 * (i + 1)))
    stop other = ap (λ (b : Bool). if b then zero_verdict table (i + 1) left else Err (Damaged Volume (4100 + 4 * (i + 1)))) (ne_eqb (cell (i + 1) table) 0 other)

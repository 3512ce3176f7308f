-- How many entries a table has, and whose they are: two tables of one log have as many, and list the losers.
use Rattle.std.proofs.Common.{◌≡◌, ◌⊎◌, inl, inr, ⊎_elim, ◌<◌, ◌≤◌, ℕ, zero, suc, List, [], ◌∷◌, ◌++◌, Bool, true, false, cond, Some, refl, sym, ap, subst, ◌∙◌, length, arith}
use Rattle.std.specs.Prelude.{◌&&◌, IsTrue, filter, nat_lt, not, slice_get, slice_index_or}
use Rattle.std.specs.List.{AllByRecursion}
use Rattle.std.proofs.lemmas.Bool.{lt-ltb, ltb-true}
use Rattle.std.proofs.lemmas.List.Elements.{recursion_from_All}
use Rattle.std.proofs.lemmas.Option.{get_or_from_slice_get, slice_get_within}
use Rattle.std.proofs.lemmas.Map.Entries.{length-values_of}
use Rattle.std.specs.BTreeMap.{BTreeMap, IsOrdered, get, values}
use Rattle.std.specs.Ordering.{nat_cmp}
use Rattle.shore_types.specs.declared.layout.Geometry.{Geometry}
use Rattle.shore_types.specs.declared.layout.TheConstants.{MAX_TRANSACTIONS}
use Rattle.shore_model.specs.declared.log_records.LogRecord.{LogRecord}
use Rattle.shore_model.specs.declared.log_records.LogTxn.{LogTxn}
use Rattle.shore_model.specs.Logs.{IsEntry, IsTable, Lists, first_number, is_in_doubt, is_over, is_prepared, last_of, rise_above}
use Rattle.laws_lives.specs.Undo.{IsLoser}
use Rattle.laws_lives.proofs.Booleans.{and_true}
use Rattle.laws_lives.proofs.Numbers.{newest_other}
use Rattle.laws_lives.proofs.OneMore.{by_push}
use Rattle.laws_lives.proofs.Redo.{slice_get_last}
use Rattle.laws_lives.proofs.Writers.{same_or_not}
use Rattle.shore_analysis.proofs.MeantLogs.{longer_get}
use Rattle.shore_analysis.proofs.Listed.{Any-here, Any-later, is_table}
use Rattle.shore_analysis.specs.Meant.{AreMeant, IsCrowded, IsMeant}
use Rattle.shore_analysis.specs.Losers.{is_of_loser}
use Rattle.shore_analysis.specs.Passes.{entry_at}

-- a transaction with a last record has a record
pub record HasOne (rs : List LogRecord) (t : ℕ) : Type 0 where
  pub at : ℕ
  pub found : LogRecord
  pub here : slice_get rs at ≡ Some found
  pub own : found.txn ≡ t

pub last_is_one : (rs : List LogRecord) (t : ℕ) → 0 < last_of t rs → HasOne rs t
last_is_one = by_push (λ rs. (t : ℕ) → 0 < last_of t rs → HasOne rs t) (λ t h. absurd (omega (arith, h))) one_more
  where
    one_more : (rs : List LogRecord) (r : LogRecord) → ((t : ℕ) → 0 < last_of t rs → HasOne rs t) → (t : ℕ) → 0 < last_of t (rs ++ r ∷ []) → HasOne (rs ++ r ∷ []) t
    one_more rs r known t some = ⊎_elim
        (λ own. record { at = length rs; found = r; here = slice_get_last rs r; own = own })
        (λ ne.
        let before = known t (subst (λ es. 0 < first_number es) (newest_other rs r t ne) some) in
        record { at = before.at; found = before.found; here = longer_get rs (r ∷ []) before.at before.found before.here; own = before.own })
        (same_or_not r.txn t)

abbrev pub Among : ℕ → List LogTxn → Type 0
Among t [] = ⊥
Among t (e ∷ es) = (e.txn ≡ t) ⊎ Among t es

among_at : (t : ℕ) (es : List LogTxn) (k : ℕ) (e : LogTxn) → k < length es → slice_index_or es k e ≡ e → e.txn ≡ t → Among t es
among_at t [] k e lt is own = omega (arith, lt)
among_at t (x ∷ es) zero e lt is own = inl (ap (λ y. y.txn) is ∙ own)
among_at t (x ∷ es) (suc k) e lt is own = inr (among_at t es k e (omega (arith, lt)) is own)

pub listed_among : (t : ℕ) (es : List LogTxn) → Lists es t → Among t es
unfolding Lists
listed_among t es h = among_at t es h.0 h.1 h.2 h.3 h.4

pub among_listed : (t : ℕ) (es : List LogTxn) → Among t es → Lists es t
unfolding Lists
among_listed t [] h = absurd h
among_listed t (e ∷ es) (inl own) = Any-here (λ x. x.txn ≡ t) e es own
among_listed t (e ∷ es) (inr later) = Any-later (λ x. x.txn ≡ t) e es (among_listed t es later)

pub rise_first : (t : ℕ) (e : LogTxn) (es : List LogTxn) → IsTrue (rise_above t (e ∷ es)) → (t < e.txn) × IsTrue (rise_above e.txn es)
rise_first t e es h = let both = and_true (nat_lt t e.txn) (rise_above e.txn es) h in (ltb-true t e.txn both.0, both.1)

among_above : (t u : ℕ) (es : List LogTxn) → IsTrue (rise_above t es) → Among u es → t < u
among_above t u [] rising h = absurd h
among_above t u (e ∷ es) rising (inl own) = let first = (rise_first t e es rising).0 in omega (arith, first, own)
among_above t u (e ∷ es) rising (inr later) =
    let parts = rise_first t e es rising in
    let above = among_above e.txn u es parts.1 later in
    let first = parts.0 in
    omega (arith, first, above)

pub cases_lt : (a b : ℕ) → (a < b) ⊎ ((a ≡ b) ⊎ (b < a))
cases_lt zero zero = inr (inl refl)
cases_lt zero (suc b) = inl (omega arith)
cases_lt (suc a) zero = inr (inr (omega arith))
cases_lt (suc a) (suc b) = elim (cases_lt a b) [
  | inl lt ↦ inl (omega (arith, lt))
  | inr rest ↦ elim rest [
    | inl eq ↦ inr (inl (ap suc eq))
    | inr gt ↦ inr (inr (omega (arith, gt)))
  ]
]

-- those of the first are among those of the second
fewer : (ys xs : List LogTxn) (t u : ℕ) → IsTrue (rise_above t xs) → IsTrue (rise_above u ys) → AllByRecursion (λ e. Among e.txn ys) xs → length xs ≤ length ys
fewer ys [] t u rise_xs rise_ys inside = omega arith
fewer [] (x ∷ xs) t u rise_xs rise_ys inside = absurd inside.0
fewer (y ∷ ys) (x ∷ xs) t u rise_xs rise_ys inside =
    let px = rise_first t x xs rise_xs in
    let py = rise_first u y ys rise_ys in
    elim (cases_lt x.txn y.txn) [
      | inl less ↦ absurd (not_below less py.1 inside.0)
      | inr rest ↦ elim rest [
        | inl same ↦
            let shorter = fewer ys xs x.txn y.txn px.1 py.1 (without x.txn xs (omega (arith, same)) px.1 inside.1) in omega (arith, shorter)
        | inr more ↦
            let whole : AllByRecursion (λ e. Among e.txn ys) (x ∷ xs) = without y.txn (x ∷ xs) (omega arith) (both y.txn x xs more px.1) inside in
            let shorter = fewer ys (x ∷ xs) t y.txn rise_xs py.1 whole in omega (arith, shorter)
      ]
    ]
  where
    not_below : x.txn < y.txn → IsTrue (rise_above y.txn ys) → Among x.txn (y ∷ ys) → ⊥
    not_below less rising (inl own) = omega (arith, less, own)
    not_below less rising (inr later) = let above = among_above y.txn x.txn ys rising later in omega (arith, less, above)

    both : (v : ℕ) (e : LogTxn) (es : List LogTxn) → v < e.txn → IsTrue (rise_above e.txn es) → IsTrue (rise_above v (e ∷ es))
    both v e es lt rising = ap (λ b. b && rise_above e.txn es) (lt-ltb v e.txn lt) ∙ rising

    without : (low : ℕ) (zs : List LogTxn) → y.txn ≤ low → IsTrue (rise_above low zs) → AllByRecursion (λ e. Among e.txn (y ∷ ys)) zs → AllByRecursion (λ e. Among e.txn ys) zs
    without low [] le rising h = tt
    without low (z ∷ zs) le rising h =
        let parts = rise_first low z zs rising in
        let first = parts.0 in
        (elim h.0 [ inl own ↦ absurd (omega (arith, le, first, own)) | inr later ↦ later ], without z.txn zs (omega (arith, le, first)) parts.1 h.1)

pub as_many : (rs : List LogRecord) (xs ys : List LogTxn) → IsTable rs xs → IsTable rs ys → length xs ≤ length ys
as_many rs xs ys a b = fewer ys xs 0 0 a.rising b.rising (all_among xs (recursion_from_All (IsEntry rs) xs a.each))
  where
    all_among : (es : List LogTxn) → AllByRecursion (IsEntry rs) es → AllByRecursion (λ e. Among e.txn ys) es
    all_among [] h = tt
    all_among (e ∷ es) h =
        let entry = h.0.0 in
        let one = last_is_one rs e.txn entry.known in
        let at : slice_index_or rs one.at one.found ≡ one.found = get_or_from_slice_get rs one.at one.found one.found one.here in
        let own : (slice_index_or rs one.at one.found).txn ≡ e.txn = ap (λ r. r.txn) at ∙ one.own in
        let there = b.every one.at one.found (slice_get_within rs one.at one.found one.here) (subst (λ n. 0 < n) (sym own) entry.is_one) (ap (λ n. is_over n rs) own ∙ entry.not_over) in
        (listed_among e.txn ys (subst (Lists ys) own there), all_among es h.1)

-- ---- how many transactions have not ended

module _ (g : Geometry) (log : List LogRecord) (r : LogRecord) (all : AreMeant g log) (meant : IsMeant g log r)
    (running : BTreeMap ℕ LogTxn) (known : (t : ℕ) → get nat_cmp running t ≡ entry_at t (log ++ r ∷ [])) (ordered : IsOrdered nat_cmp running) where
  table : IsTable (log ++ r ∷ []) (values running)
  table = is_table (log ++ r ∷ []) running known ordered

  count : length (values running) ≡ length running.entries
  count = length-values_of running.entries

  pub few_enough : length running.entries ≤ MAX_TRANSACTIONS → IsCrowded (log ++ r ∷ []) → ⊥
  few_enough few crowded =
      let more = as_many (log ++ r ∷ []) crowded.0 (values running) crowded.1 table in
      let many = crowded.2 in
      omega (arith, few, more, many, count)

  pub too_many : MAX_TRANSACTIONS < length running.entries → IsCrowded (log ++ r ∷ [])
  too_many many = (values running, table, omega (arith, many, count))

-- ---- losers, and those in doubt

-- entries that are picked by what is so of their transactions
module _ (p : LogTxn → Bool) (q : ℕ → Bool) (t : ℕ) where
  among_head : (e : LogTxn) (es : List LogTxn) (b : Bool) → Among t (cond b (e ∷ es) es) → ((b ≡ true) × (e.txn ≡ t)) ⊎ Among t es
  among_head e es true (inl own) = inl (refl, own)
  among_head e es true (inr later) = inr later
  among_head e es false later = inr later

  pub picked_was : (es : List LogTxn) → AllByRecursion (λ e. p e ≡ q e.txn) es → Among t (filter p es) → Among t es × (q t ≡ true)
  picked_was [] h a = absurd a
  picked_was (e ∷ es) h a = ⊎_elim
      (λ here. (inl here.1, ap q (sym here.1) ∙ sym h.0 ∙ here.0))
      (λ later. let was = picked_was es h.1 later in (inr was.0, was.1))
      (among_head e (filter p es) (p e) a)

  pub picked_is : (es : List LogTxn) → AllByRecursion (λ e. p e ≡ q e.txn) es → Among t es → q t ≡ true → Among t (filter p es)
  picked_is [] h a passes = a
  picked_is (e ∷ es) h (inl own) passes = subst (λ b. Among t (cond b (e ∷ filter p es) (filter p es))) (sym (h.0 ∙ ap q own ∙ passes)) (inl own)
  picked_is (e ∷ es) h (inr later) passes = behind (p e) (picked_is es h.1 later passes)
    where
      behind : (b : Bool) → Among t (filter p es) → Among t (cond b (e ∷ filter p es) (filter p es))
      behind true a = inr a
      behind false a = a

module _ (rs : List LogRecord) (txns : List LogTxn) (table : IsTable rs txns) where
  abbrev not_in_doubt : ℕ → Bool
  not_in_doubt t = not (is_in_doubt t rs)

  abbrev in_doubt : ℕ → Bool
  in_doubt t = is_in_doubt t rs

  losers_told : (es : List LogTxn) → AllByRecursion (IsEntry rs) es → AllByRecursion (λ e. is_of_loser e ≡ not_in_doubt e.txn) es
  losers_told [] h = tt
  losers_told (e ∷ es) h = (ap not h.0.0.in_doubt, losers_told es h.1)

  doubts_told : (es : List LogTxn) → AllByRecursion (IsEntry rs) es → AllByRecursion (λ e. is_prepared e.state ≡ in_doubt e.txn) es
  doubts_told [] h = tt
  doubts_told (e ∷ es) h = (h.0.0.in_doubt, doubts_told es h.1)

  entries : AllByRecursion (IsEntry rs) txns
  entries = recursion_from_All (IsEntry rs) txns table.each

  unended : (t : ℕ) (es : List LogTxn) → AllByRecursion (IsEntry rs) es → Among t es → (0 < t) × (0 < last_of t rs) × (is_over t rs ≡ false)
  unended t [] h a = absurd a
  unended t (e ∷ es) h (inl own) = subst (λ u. (0 < u) × (0 < last_of u rs) × (is_over u rs ≡ false)) own (h.0.0.is_one, h.0.0.known, h.0.0.not_over)
  unended t (e ∷ es) h (inr later) = unended t es h.1 later

  every : (t : ℕ) → 0 < t → 0 < last_of t rs → is_over t rs ≡ false → Among t txns
  every t some known runs =
      let one = last_is_one rs t known in
      let at : slice_index_or rs one.at one.found ≡ one.found = get_or_from_slice_get rs one.at one.found one.found one.here in
      let own : (slice_index_or rs one.at one.found).txn ≡ t = ap (λ r. r.txn) at ∙ one.own in
      listed_among t txns (subst (Lists txns) own
      (table.every one.at one.found (slice_get_within rs one.at one.found one.here) (subst (λ n. 0 < n) (sym own) some) (ap (λ n. is_over n rs) own ∙ runs)))

  pub listed_loser : (t : ℕ) → Among t (filter is_of_loser txns) → IsLoser rs t
  listed_loser t a =
      let was = picked_was is_of_loser not_in_doubt t txns (losers_told txns entries) a in
      let known = unended t txns entries was.0 in
      record { is_one = known.0; known = known.1; not_over = known.2; not_in_doubt = not_true (is_in_doubt t rs) was.1 }
    where
      not_true : (b : Bool) → not b ≡ true → b ≡ false
      not_true true e = cc
      not_true false e = refl

  pub loser_listed : (t : ℕ) → IsLoser rs t → Among t (filter is_of_loser txns)
  loser_listed t loser =
      picked_is is_of_loser not_in_doubt t txns (losers_told txns entries) (every t loser.is_one loser.known loser.not_over) (ap not loser.not_in_doubt)

  pub listed_doubt : (t : ℕ) → Among t (filter (λ e. is_prepared e.state) txns) → is_in_doubt t rs ≡ true
  listed_doubt t a = (picked_was (λ e. is_prepared e.state) in_doubt t txns (doubts_told txns entries) a).1

  pub doubt_listed : (t : ℕ) → 0 < t → 0 < last_of t rs → is_over t rs ≡ false → is_in_doubt t rs ≡ true → Among t (filter (λ e. is_prepared e.state) txns)
  doubt_listed t some known runs doubts =
      picked_is (λ e. is_prepared e.state) in_doubt t txns (doubts_told txns entries) (every t some known runs) doubts

-- Tables of transactions that rise: how long they are.
use Rattle.std.proofs.Common.{◌≡◌, ◌⊎◌, inl, inr, ◌<◌, ◌≤◌, ℕ, zero, suc, List, [], ◌∷◌, refl, ap, ◌∙◌, length, arith}
use Rattle.std.specs.Prelude.{◌&&◌, IsTrue, nat_lt, slice_index_or}
use Rattle.std.specs.List.{AllByRecursion}
use Rattle.std.proofs.lemmas.Bool.{lt-ltb, ltb-true}
use Rattle.shore_model.specs.declared.log_records.LogTxn.{LogTxn}
use Rattle.shore_model.specs.Logs.{Lists, rise_above}
use Rattle.laws_lives.proofs.Booleans.{and_true}

abbrev pub Among : ℕ → List LogTxn → Type 0
Among t [] = ⊥
Among t (e ∷ es) = (e.txn ≡ t) ⊎ Among t es

among_at : (t : ℕ) (es : List LogTxn) (k : ℕ) (e : LogTxn) → k < length es → slice_index_or es k e ≡ e → e.txn ≡ t → Among t es
among_at t [] k e lt is own = omega (arith, lt)
among_at t (x ∷ es) zero e lt is own = inl (ap (λ y. y.txn) is ∙ own)
among_at t (x ∷ es) (suc k) e lt is own = inr (among_at t es k e (omega (arith, lt)) is own)

pub listed_among : (t : ℕ) (es : List LogTxn) → Lists es t → Among t es
unfolding Lists
listed_among t es h = among_at t es h.0 h.1 h.2 h.3 h.4

rise_first : (t : ℕ) (e : LogTxn) (es : List LogTxn) → IsTrue (rise_above t (e ∷ es)) → (t < e.txn) × IsTrue (rise_above e.txn es)
rise_first t e es h = let both = and_true (nat_lt t e.txn) (rise_above e.txn es) h in (ltb-true t e.txn both.0, both.1)

pub among_above : (t u : ℕ) (es : List LogTxn) → IsTrue (rise_above t es) → Among u es → t < u
among_above t u [] rising h = absurd h
among_above t u (e ∷ es) rising (inl own) = let first = (rise_first t e es rising).0 in omega (arith, first, own)
among_above t u (e ∷ es) rising (inr later) =
    let parts = rise_first t e es rising in
    let above = among_above e.txn u es parts.1 later in
    let first = parts.0 in
    omega (arith, first, above)

cases_lt : (a b : ℕ) → (a < b) ⊎ ((a ≡ b) ⊎ (b < a))
cases_lt zero zero = inr (inl refl)
cases_lt zero (suc b) = inl (omega arith)
cases_lt (suc a) zero = inr (inr (omega arith))
cases_lt (suc a) (suc b) = elim (cases_lt a b) [
  | inl lt ↦ inl (omega (arith, lt))
  | inr rest ↦ elim rest [
    | inl eq ↦ inr (inl (ap suc eq))
    | inr gt ↦ inr (inr (omega (arith, gt)))
  ]
]

-- those of the first are among those of the second
pub fewer : (ys xs : List LogTxn) (t u : ℕ) → IsTrue (rise_above t xs) → IsTrue (rise_above u ys) → AllByRecursion (λ e. Among e.txn ys) xs → length xs ≤ length ys
fewer ys [] t u rise_xs rise_ys inside = omega arith
fewer [] (x ∷ xs) t u rise_xs rise_ys inside = absurd inside.0
fewer (y ∷ ys) (x ∷ xs) t u rise_xs rise_ys inside =
    let px = rise_first t x xs rise_xs in
    let py = rise_first u y ys rise_ys in
    elim (cases_lt x.txn y.txn) [
      | inl less ↦ absurd (not_below less py.1 inside.0)
      | inr rest ↦ elim rest [
        | inl same ↦
            let shorter = fewer ys xs x.txn y.txn px.1 py.1 (without x.txn xs (omega (arith, same)) px.1 inside.1) in omega (arith, shorter)
        | inr more ↦
            let whole : AllByRecursion (λ e. Among e.txn ys) (x ∷ xs) = without y.txn (x ∷ xs) (omega arith) (both y.txn x xs more px.1) inside in
            let shorter = fewer ys (x ∷ xs) t y.txn rise_xs py.1 whole in omega (arith, shorter)
      ]
    ]
  where
    not_below : x.txn < y.txn → IsTrue (rise_above y.txn ys) → Among x.txn (y ∷ ys) → ⊥
    not_below less rising (inl own) = omega (arith, less, own)
    not_below less rising (inr later) = let above = among_above y.txn x.txn ys rising later in omega (arith, less, above)

    both : (v : ℕ) (e : LogTxn) (es : List LogTxn) → v < e.txn → IsTrue (rise_above e.txn es) → IsTrue (rise_above v (e ∷ es))
    both v e es lt rising = ap (λ b. b && rise_above e.txn es) (lt-ltb v e.txn lt) ∙ rising

    without : (low : ℕ) (zs : List LogTxn) → y.txn ≤ low → IsTrue (rise_above low zs) → AllByRecursion (λ e. Among e.txn (y ∷ ys)) zs → AllByRecursion (λ e. Among e.txn ys) zs
    without low [] le rising h = tt
    without low (z ∷ zs) le rising h =
        let parts = rise_first low z zs rising in
        let first = parts.0 in
        (elim h.0 [ inl own ↦ absurd (omega (arith, le, first, own)) | inr later ↦ later ], without z.txn zs (omega (arith, le, first)) parts.1 h.1)

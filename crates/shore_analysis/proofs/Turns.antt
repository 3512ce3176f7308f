-- With each record of undo fewer turns are left.
use Rattle.std.proofs.Common.{◌≡◌, inl, inr, ⊎_elim, ◌+◌, ◌<◌, ◌≤◌, ℕ, List, [], ◌∷◌, ◌++◌, Bool, true, false, cond, map, refl, sym, ap, ◌∙◌, length, drop, arith}
use Rattle.std.specs.Prelude.{filter, ◌==◌, not}
use Rattle.std.proofs.lemmas.Bool.{cases_Bool, eqb-true, eqb-false}
use Rattle.shore_types.specs.Images.{Image}
use Rattle.shore_types.specs.declared.ids.Rid.{Rid}
use Rattle.shore_model.specs.declared.unanswered_changes.UnansweredChange.{UnansweredChange}
use Rattle.shore_model.specs.declared.log_records.LogRecord.{LogRecord}
use Rattle.shore_model.specs.declared.log_records.LogTxn.{LogTxn}
use Rattle.shore_model.specs.declared.log_records.Payload.TheVariants.{Compensation}
use Rattle.shore_model.specs.Logs.{answered_by, unanswered}
use Rattle.laws_lives.specs.Views.{IsAmong}
use Rattle.laws_lives.proofs.UnansweredChanges.{unanswered_other, unanswered_own}
use Rattle.laws_lives.specs.Undo.{undo_payload, undo_record}
use Rattle.shore_analysis.specs.Losers.{is_another, turns_left_of, with_numbers}

module _ (log : List LogRecord) (t : ℕ) where
  abbrev next : LogRecord
  next = undo_record log t

  abbrev after : List LogRecord
  after = log ++ next ∷ []

  -- of others as many are unanswered
  same_count : (u : ℕ) → (u == t) ≡ false → length (unanswered u after) ≡ length (unanswered u log)
  same_count u off = ap length (unanswered_other u log next (λ own. eqb-false u t off (sym own)))

  -- ---- a Compensation

  module _ (n u : ℕ) (c : UnansweredChange) (cs : List UnansweredChange) (newest : unanswered t log ≡ c ∷ cs) where
    fewer_count : (v : ℕ) → v ≡ t → 1 + length (unanswered v after) ≡ length (unanswered v log)
    fewer_count v own =
        let left : unanswered t after ≡ cs = unanswered_own t log next refl ∙ ap (λ p. answered_by (1 + length log) p (unanswered t log)) (ap undo_payload newest) ∙ ap (drop 1) newest in
        let now = ap (λ w. length (unanswered w after)) own ∙ ap length left in
        let then = ap (λ w. length (unanswered w log)) own ∙ ap length newest in
        omega (arith, now, then)

    txn_same : (e : LogTxn) → (with_numbers t n u e).txn ≡ e.txn
    txn_same e = by (e.txn == t)
      where
        by : (b : Bool) → (cond b (record e { last = n; undo_next = u }) e).txn ≡ e.txn
        by true = refl
        by false = refl

    count_of : (e : LogTxn) → length (unanswered (with_numbers t n u e).txn after) ≡ length (unanswered e.txn after)
    count_of e = ap (λ w. length (unanswered w after)) (txn_same e)

    no_more : (es : List LogTxn) → turns_left_of after (map (with_numbers t n u) es) ≤ turns_left_of log es
    no_more [] = omega arith
    no_more (e ∷ es) =
        let rest = no_more es in
        let count = count_of e in
        ⊎_elim
        (λ own. let one = fewer_count e.txn (eqb-true e.txn t own) in omega (arith, rest, count, one))
        (λ off. let one = same_count e.txn off in omega (arith, rest, count, one))
        (cases_Bool (e.txn == t))

    pub fewer_by_one : (es : List LogTxn) → IsAmong t (map (λ e. e.txn) es) → turns_left_of after (map (with_numbers t n u) es) < turns_left_of log es
    fewer_by_one [] a = absurd a
    fewer_by_one (e ∷ es) (inl own) =
        let rest = no_more es in
        let count = count_of e in
        let one = fewer_count e.txn own in
        omega (arith, rest, count, one)
    fewer_by_one (e ∷ es) (inr later) =
        let rest = fewer_by_one es later in
        let count = count_of e in
        ⊎_elim
        (λ own. let one = fewer_count e.txn (eqb-true e.txn t own) in omega (arith, rest, count, one))
        (λ off. let one = same_count e.txn off in omega (arith, rest, count, one))
        (cases_Bool (e.txn == t))

  pub fewer_by_compensation : (es : List LogTxn) (id : Rid) (image : Image) (n u : ℕ) → next.payload ≡ Compensation id image u → IsAmong t (map (λ e. e.txn) es)
      → turns_left_of after (map (with_numbers t n u) es) < turns_left_of log es
  fewer_by_compensation es id image n u says a = by_newest (unanswered t log) refl says
    where
      by_newest : (us : List UnansweredChange) → unanswered t log ≡ us → undo_payload us ≡ Compensation id image u → turns_left_of after (map (with_numbers t n u) es) < turns_left_of log es
      by_newest [] e p = cc
      by_newest (c ∷ cs) e p = fewer_by_one n u c cs e es a

  -- ---- an End

  no_more_left : (es : List LogTxn) → turns_left_of after (filter (is_another t) es) ≤ turns_left_of log es
  no_more_left [] = omega arith
  no_more_left (e ∷ es) =
      let rest = no_more_left es in
      ⊎_elim
      (λ own. let gone = ap (λ b. turns_left_of after (cond (not b) (e ∷ filter (is_another t) es) (filter (is_another t) es))) own in omega (arith, rest, gone))
      (λ off.
      let kept = ap (λ b. turns_left_of after (cond (not b) (e ∷ filter (is_another t) es) (filter (is_another t) es))) off in
      let one = same_count e.txn off in
      omega (arith, rest, kept, one))
      (cases_Bool (e.txn == t))

  pub fewer_by_end : (es : List LogTxn) → IsAmong t (map (λ e. e.txn) es) → turns_left_of after (filter (is_another t) es) < turns_left_of log es
  fewer_by_end [] a = absurd a
  fewer_by_end (e ∷ es) a = ⊎_elim
      (λ own.
      let rest = no_more_left es in
      let gone = ap (λ b. turns_left_of after (cond (not b) (e ∷ filter (is_another t) es) (filter (is_another t) es))) own in
      omega (arith, rest, gone))
      (λ off.
      let kept = ap (λ b. turns_left_of after (cond (not b) (e ∷ filter (is_another t) es) (filter (is_another t) es))) off in
      let one = same_count e.txn off in
      ⊎_elim (λ this. absurd (eqb-false e.txn t off this)) (λ later. let rest = fewer_by_end es later in omega (arith, rest, kept, one)) a)
      (cases_Bool (e.txn == t))

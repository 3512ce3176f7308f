-- From every lawful log undo comes to an end.
use Rattle.std.proofs.Common.{◌≡◌, ◌≢◌, ◌⊎◌, inl, inr, ⊎_elim, ◌+◌, ◌<◌, ℕ, zero, suc, List, [], ◌∷◌, ◌++◌, true, false, cond, map, refl, sym, ap, subst, ◌∙◌, length, drop, arith}
use Rattle.std.specs.Prelude.{filter, reverse, ◌==◌, ◌&&◌, not, nat_lt}
use Rattle.std.specs.List.{enumerate_from}
use Rattle.std.proofs.lemmas.Bool.{eqb-true, cases_Bool, true≢false, ltb-true, lt-ltb}
use Rattle.shore_types.specs.declared.ids.Rid.{Rid}
use Rattle.shore_model.specs.declared.unanswered_changes.UnansweredChange.{UnansweredChange}
use Rattle.shore_model.specs.declared.log_records.LogRecord.{LogRecord}
use Rattle.shore_model.specs.declared.log_records.Payload.{Payload}
use Rattle.shore_model.specs.declared.log_records.Payload.TheVariants.{Change, Compensation}
use Rattle.shore_model.specs.Logs.{Lawful, MayFollow, has, is_over, is_commit, is_end, is_prepare, is_rollback, is_in_doubt, is_of_checkpoint, first_number, last_of, answered_by, unanswered, undo_next_of}
use Rattle.laws_lives.specs.Undo.{IsLoser, HasNoLosers, IsUndoneTo, undo_record, undo_payload}
use Rattle.laws_lives.specs.Writers.{changes_id}
use Rattle.laws_lives.specs.Views.{IsAmong}
use Rattle.laws_lives.proofs.EndedTxns.{over_other, over_same}
use Rattle.laws_lives.proofs.UnansweredChanges.{unanswered_own}
use Rattle.laws_lives.proofs.Numbers.{last_own, newest_other}
use Rattle.laws_lives.proofs.Writers.{by_records, same_or_not}
use Rattle.laws_lives.proofs.UndoRecords.{undone_lawful}
use Rattle.laws_lives.proofs.OneMore.{has-push, has-not_this, has-not_its, has-this}
use Rattle.laws_lives.proofs.Booleans.{and_true, or_right, or_true}

doubt-by : (log more : List LogRecord) (t : ℕ) → has is_prepare t more ≡ has is_prepare t log → has is_commit t more ≡ has is_commit t log → has is_rollback t more ≡ has is_rollback t log → is_in_doubt t more ≡ is_in_doubt t log
doubt-by log more t p c r =
    ap (λ b. b && not (has is_commit t more) && not (has is_rollback t more)) p ∙ ap (λ b. has is_prepare t log && not b && not (has is_rollback t more)) c
    ∙ ap (λ b. has is_prepare t log && not (has is_commit t log) && not b) r

still_loser : (log : List LogRecord) (r : LogRecord) (t : ℕ) → r.txn ≢ t → IsLoser (log ++ r ∷ []) t → IsLoser log t
still_loser log r t ne h = record {
  is_one = h.is_one;
  known = subst (λ es. 0 < first_number es) (newest_other log r t ne) h.known;
  not_over = sym (over_other log r t ne) ∙ h.not_over;
  not_in_doubt = sym (doubt-by log (log ++ r ∷ []) t (has-not_its log r is_prepare t ne) (has-not_its log r is_commit t ne) (has-not_its log r is_rollback t ne)) ∙ h.not_in_doubt;
}

-- one loser is undone: it has ended, and nobody has become a loser
record IsUndone (log : List LogRecord) (t : ℕ) : Type 0 where
  pub turns : List ℕ
  pub last : List LogRecord
  pub undoes : IsUndoneTo log turns last
  pub over : is_over t last ≡ true
  pub fewer : (u : ℕ) → IsLoser last u → IsLoser log u

module _ (log : List LogRecord) (t : ℕ) (loser : IsLoser log t) where
  abbrev next : LogRecord
  next = undo_record log t

  abbrev after : List LogRecord
  after = log ++ next ∷ []

  end_next : unanswered t log ≡ [] → is_over t after ≡ true
  end_next none = or_right (has is_commit t after) (has is_end t after) (has-this log next is_end (ap (λ cs. is_end (undo_payload cs)) none))

  fewer_next : (u : ℕ) → IsLoser after u → IsLoser log u
  fewer_next u h = ⊎_elim (λ own. subst (IsLoser log) own loser) (λ ne. still_loser log next u ne h) (same_or_not t u)

  compensated : (c : UnansweredChange) (cs : List UnansweredChange) → unanswered t log ≡ c ∷ cs → IsLoser after t × (unanswered t after ≡ cs)
  compensated c cs e =
      let is : next.payload ≡ Compensation c.id c.before (undo_next_of cs) = ap undo_payload e in
      let number = last_own log next in (
        record {
          is_one = loser.is_one;
          known = omega arith;
          not_over = over_same log next (ap is_commit is) (ap is_end is) t ∙ loser.not_over;
          not_in_doubt = doubt-by log after t (has-not_this log next is_prepare t (ap is_prepare is)) (has-not_this log next is_commit t (ap is_commit is)) (has-not_this log next is_rollback t (ap is_rollback is)) ∙ loser.not_in_doubt;
        },
        unanswered_own next.txn log next refl ∙ ap (λ p. answered_by (1 + length log) p (unanswered t log)) is ∙ ap (drop 1) e,
      )

undo_one : (cs : List UnansweredChange) (log : List LogRecord) (t : ℕ) → IsLoser log t → unanswered t log ≡ cs → IsUndone log t
undo_one [] log t loser e = record {
  turns = t ∷ [];
  last = log ++ undo_record log t ∷ [];
  undoes = (loser, refl);
  over = end_next log t loser e;
  fewer = fewer_next log t loser;
}
undo_one (c ∷ cs) log t loser e =
    let step = compensated log t loser c cs e in
    let rest = undo_one cs (log ++ undo_record log t ∷ []) t step.0 step.1 in
    record {
      turns = t ∷ rest.turns;
      last = rest.last;
      undoes = (loser, rest.undoes);
      over = rest.over;
      fewer = λ u h. fewer_next log t loser u (rest.fewer u h);
    }

undoes_on : (log : List LogRecord) (ts : List ℕ) (mid : List LogRecord) (us : List ℕ) (last : List LogRecord) → IsUndoneTo log ts mid → IsUndoneTo mid us last → IsUndoneTo log (ts ++ us) last
undoes_on log [] mid us last a b = subst (λ xs. IsUndoneTo xs us last) a b
undoes_on log (t ∷ ts) mid us last a b = (a.0, undoes_on (log ++ undo_record log t ∷ []) ts mid us last a.1 b)

is_loser_or_not : (log : List LogRecord) (t : ℕ) → IsLoser log t ⊎ (IsLoser log t → ⊥)
is_loser_or_not log t = by_tests (cases_Bool (nat_lt 0 t)) (cases_Bool (nat_lt 0 (last_of t log))) (cases_Bool (is_over t log)) (cases_Bool (is_in_doubt t log))
  where
    by_tests : (nat_lt 0 t ≡ true) ⊎ (nat_lt 0 t ≡ false) → (nat_lt 0 (last_of t log) ≡ true) ⊎ (nat_lt 0 (last_of t log) ≡ false)
        → (is_over t log ≡ true) ⊎ (is_over t log ≡ false) → (is_in_doubt t log ≡ true) ⊎ (is_in_doubt t log ≡ false) → IsLoser log t ⊎ (IsLoser log t → ⊥)
    by_tests (inl a) (inl b) (inr c) (inr d) = inl (record { is_one = ltb-true 0 t a; known = ltb-true 0 (last_of t log) b; not_over = c; not_in_doubt = d })
    by_tests (inr a) b c d = inr (λ h. true≢false (sym (lt-ltb 0 t h.is_one) ∙ a))
    by_tests (inl a) (inr b) c d = inr (λ h. true≢false (sym (lt-ltb 0 (last_of t log) h.known) ∙ b))
    by_tests (inl a) (inl b) (inl c) d = inr (λ h. true≢false (sym c ∙ h.not_over))
    by_tests (inl a) (inl b) (inr c) (inl d) = inr (λ h. true≢false (sym d ∙ h.not_in_doubt))

undo_all : (us : List ℕ) (log : List LogRecord) → ((t : ℕ) → IsLoser log t → IsAmong t us) → (ts : List ℕ) × (last : List LogRecord) × IsUndoneTo log ts last × ((t : ℕ) → IsLoser last t → ⊥)
undo_all [] log among = ([], log, refl, among)
undo_all (u ∷ us) log among = by_head (is_loser_or_not log u) (undo_all us)
  where
    by_head : IsLoser log u ⊎ (IsLoser log u → ⊥)
        → ((xs : List LogRecord) → ((t : ℕ) → IsLoser xs t → IsAmong t us) → (ts : List ℕ) × (last : List LogRecord) × IsUndoneTo xs ts last × ((t : ℕ) → IsLoser last t → ⊥))
        → (ts : List ℕ) × (last : List LogRecord) × IsUndoneTo log ts last × ((t : ℕ) → IsLoser last t → ⊥)
    by_head (inl loser) rest =
        let one = undo_one (unanswered u log) log u loser refl in
        let others = rest one.last (λ t h. ⊎_elim
        (λ own. absurd (true≢false (sym one.over ∙ ap (λ v. is_over v one.last) own ∙ h.not_over)))
        (λ later. later)
        (among t (one.fewer t h))) in
        (one.turns ++ others.0, others.1, undoes_on log one.turns one.last others.0 others.1 one.undoes others.2, others.3)
    by_head (inr none) rest = rest log (λ t h. ⊎_elim (λ own. absurd (none (subst (IsLoser log) (sym own) h))) (λ later. later) (among t h))

-- ---- who may be a loser

among_records : (t n : ℕ) (log : List LogRecord) → 0 < first_number (reverse (filter (λ e. e.1.txn == t) (enumerate_from n log))) → IsAmong t (map (λ r. r.txn) log)
among_records t n [] h = absurd (omega arith)
among_records t n (r ∷ log) h = ⊎_elim
    (λ own. inl (eqb-true r.txn t own))
    (λ other. inr (among_records t (n + 1) log (subst (λ b. 0 < first_number (reverse (cond b ((n, r) ∷ filter (λ e. e.1.txn == t) (enumerate_from (n + 1) log)) (filter (λ e. e.1.txn == t) (enumerate_from (n + 1) log))))) other h)))
    (cases_Bool (r.txn == t))

pub has_known : (q : Rid) (log : List LogRecord) → Lawful log → (t : ℕ) → has (changes_id q) t log ≡ true → (0 < t) × (0 < last_of t log)
has_known q log lawful = by_records (λ xs. (t : ℕ) → has (changes_id q) t xs ≡ true → (0 < t) × (0 < last_of t xs)) (λ t h. cc) one_more log lawful
  where
    of_txn : (p : Payload) (t : ℕ) → changes_id q p ≡ true → is_of_checkpoint p ≡ (t == 0) → 0 < t
    of_txn (Change id before image) t h of = above t of
      where
        above : (t : ℕ) → false ≡ (t == 0) → 0 < t
        above zero e = cc
        above (suc n) e = omega arith
    of_txn (Compensation id image undo_next) t h of = above t of
      where
        above : (t : ℕ) → false ≡ (t == 0) → 0 < t
        above zero e = cc
        above (suc n) e = omega arith
    of_txn _ t h of = cc

    one_more : (xs : List LogRecord) (r : LogRecord) → MayFollow xs r → ((t : ℕ) → has (changes_id q) t xs ≡ true → (0 < t) × (0 < last_of t xs)) → (t : ℕ) → has (changes_id q) t (xs ++ r ∷ []) ≡ true → (0 < t) × (0 < last_of t (xs ++ r ∷ []))
    one_more xs r f known t h = ⊎_elim
        (λ own.
        let number = last_own xs r in
        let last : 0 < last_of r.txn (xs ++ r ∷ []) = omega arith in
        let some : 0 < r.txn = ⊎_elim
        (λ before. (known r.txn before).0)
        (λ here. of_txn r.payload r.txn (and_true (r.txn == r.txn) (changes_id q r.payload) here).1 f.of)
        (or_true (has (changes_id q) r.txn xs) ((r.txn == r.txn) && changes_id q r.payload) (sym (has-push xs r (changes_id q) r.txn) ∙ ap (λ u. has (changes_id q) u (xs ++ r ∷ [])) own ∙ h)) in
        subst (λ u. (0 < u) × (0 < last_of u (xs ++ r ∷ []))) own (some, last))
        (λ ne.
        let before = known t (sym (has-not_its xs r (changes_id q) t ne) ∙ h) in
        (before.0, subst (λ es. 0 < first_number es) (sym (newest_other xs r t ne)) before.1))
        (same_or_not r.txn t)

-- then whoever has changed a record and not ended is in doubt
pub writers_in_doubt : (log : List LogRecord) → Lawful log → HasNoLosers log → (t : ℕ) (q : Rid) → has (changes_id q) t log ≡ true → is_over t log ≡ false → is_in_doubt t log ≡ true
writers_in_doubt log lawful none t q changed runs =
    let known = has_known q log lawful t changed in
    ⊎_elim (λ doubt. doubt) (λ not_so. absurd (none t (record { is_one = known.0; known = known.1; not_over = runs; not_in_doubt = not_so }))) (cases_Bool (is_in_doubt t log))

pub undo_ends : (log : List LogRecord) → Lawful log → (ts : List ℕ) × (last : List LogRecord) × IsUndoneTo log ts last × HasNoLosers last
undo_ends log lawful = undo_all (map (λ r. r.txn) log) log (λ t h. among_records t 1 log h.known)

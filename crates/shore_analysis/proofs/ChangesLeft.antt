-- The Changes of a transaction that are still to be undone, listed one by one from the newest down.
use Rattle.std.proofs.Common.{◌≡◌, ⊎_elim, ◌+◌, ◌-◌, ◌<◌, ◌≤◌, ℕ, List, [], ◌∷◌, ◌++◌, Option, Some, None, map, refl, sym, ap, subst, ◌∙◌, length, take, append_assoc, length-append, arith}
use Rattle.std.specs.Prelude.{slice_get}
use Rattle.std.proofs.lemmas.List.{append-nil}
use Rattle.shore_model.specs.declared.unanswered_changes.UnansweredChange.{UnansweredChange}
use Rattle.shore_model.specs.declared.log_records.LogRecord.{LogRecord}
use Rattle.shore_model.specs.declared.log_records.Payload.{Payload}
use Rattle.shore_model.specs.declared.log_records.Payload.TheVariants.{Change, Compensation, Commit, End, Prepare, RollbackDecided, CheckpointBegin, CheckpointEnd, Anchor}
use Rattle.shore_model.specs.Logs.{answered_by, unanswered, undo_next_of}
use Rattle.laws_lives.specs.UndoChains.{IsUndoChain}
use Rattle.laws_lives.proofs.OneMore.{by_push}
use Rattle.laws_lives.proofs.UnansweredChanges.{unanswered_other, unanswered_own}
use Rattle.laws_lives.proofs.UndoChains.{unanswered_chain}
use Rattle.laws_lives.proofs.Writers.{same_or_not}
use Rattle.shore_analysis.specs.Meant.{IsChange}
use Rattle.shore_analysis.specs.Padded.{padded}
use Rattle.shore_analysis.proofs.KeptMeans.{unanswered_padded}
use Rattle.shore_analysis.proofs.Padding.{behind_cut, length_padded, padded-push}

abbrev pub numbers_of : List UnansweredChange → List ℕ
numbers_of cs = map (λ c. c.number) cs

-- ---- how many there are

answered_most : (n : ℕ) (p : Payload) (cs : List UnansweredChange) → length (answered_by n p cs) ≤ 1 + length cs
answered_most n (Change id before image) cs = omega arith
answered_most n (Compensation id image undo_next) [] = omega arith
answered_most n (Compensation id image undo_next) (c ∷ cs) = omega arith
answered_most n Commit cs = omega arith
answered_most n End cs = omega arith
answered_most n (Prepare global granules) cs = omega arith
answered_most n RollbackDecided cs = omega arith
answered_most n CheckpointBegin cs = omega arith
answered_most n (CheckpointEnd begin next txns dirty) cs = omega arith
answered_most n (Anchor checkpoint tail) cs = omega arith

unanswered_most : (t : ℕ) (log : List LogRecord) → length (unanswered t log) ≤ length log
unanswered_most t = by_push (λ log. length (unanswered t log) ≤ length log) (omega arith) one_more
  where
    one_more : (log : List LogRecord) (r : LogRecord) → length (unanswered t log) ≤ length log → length (unanswered t (log ++ r ∷ [])) ≤ length (log ++ r ∷ [])
    one_more log r known = ⊎_elim
        (λ own.
        let most = answered_most (1 + length log) r.payload (unanswered t log) in
        omega (arith, known, most, ap length (unanswered_own t log r own), length-append log (r ∷ [])))
        (λ ne. omega (arith, known, ap length (unanswered_other t log r ne), length-append log (r ∷ [])))
        (same_or_not r.txn t)

-- ---- one by one

module _ (t : ℕ) (log : List LogRecord) where
  -- the first of them are listed, and these are left
  pub record AreListed (numbers : List ℕ) (next counter : ℕ) : Type 0 where
    pub left : List UnansweredChange
    pub all : numbers_of (unanswered t log) ≡ numbers ++ numbers_of left
    pub chain : IsUndoChain log t left
    pub first : next ≡ undo_next_of left
    pub few : length left + counter ≤ length log

  pub none_listed : (newest : ℕ) → newest ≡ undo_next_of (unanswered t log) → AreListed [] newest 0
  none_listed newest is = record { left = unanswered t log; all = refl; chain = unanswered_chain log t; first = is; few = let most = unanswered_most t log in omega (arith, most) }

  module _ (numbers : List ℕ) (next counter : ℕ) (listed : AreListed numbers next counter) where
    whole : (left : List UnansweredChange) → left ≡ [] → numbers_of (unanswered t log) ≡ numbers ++ numbers_of left → numbers ≡ numbers_of (unanswered t log)
    whole left none all = sym (all ∙ ap (λ cs. numbers ++ numbers_of cs) none ∙ append-nil numbers)

    -- where no record is next
    pub all_listed : (0 < next → None ≡ slice_get log (next - 1)) → numbers ≡ numbers_of (unanswered t log)
    all_listed gone = by listed.left listed.chain listed.first listed.all
      where
        by : (left : List UnansweredChange) → IsUndoChain log t left → next ≡ undo_next_of left → numbers_of (unanswered t log) ≡ numbers ++ numbers_of left → numbers ≡ numbers_of (unanswered t log)
        by [] chain first all = whole [] refl all
        by (c ∷ cs) chain first all =
            let k = chain.0 in
            let one : 0 < c.number = k.is_one in
            absurd (let none : None ≡ Some k.found = gone (omega (arith, first, one)) ∙ ap (λ n. slice_get log (n - 1)) first ∙ k.here in cc)

    pub last_listed : length log ≤ counter → numbers ≡ numbers_of (unanswered t log)
    last_listed last = whole listed.left (none listed.left (let few = listed.few in omega (arith, few, last))) listed.all
      where
        none : (left : List UnansweredChange) → length left ≡ 0 → left ≡ []
        none [] e = refl
        none (c ∷ cs) e = absurd (omega (arith, e))

    -- the next one is the transaction's
    pub listed_own : 0 < next → (r : LogRecord) → slice_get log (next - 1) ≡ Some r → r.txn ≡ t
    listed_own some r there = by listed.left listed.chain listed.first
      where
        value : LogRecord → Option LogRecord → LogRecord
        value d None = d
        value d (Some x) = x

        by : (left : List UnansweredChange) → IsUndoChain log t left → next ≡ undo_next_of left → r.txn ≡ t
        by [] chain first = absurd (omega (arith, first, some))
        by (c ∷ cs) chain first =
            let k = chain.0 in
            let same : k.found ≡ r = ap (value r) (sym k.here ∙ ap (λ n. slice_get log (n - 1)) (sym first) ∙ there) in
            ap (λ (x : LogRecord). x.txn) (sym same) ∙ k.own

    -- one more
    pub one_listed : 0 < next → (r : LogRecord) → slice_get log (next - 1) ≡ Some r → (behind : ℕ)
        → (slice_get log (next - 1) ≡ Some r → IsChange r.payload → behind ≡ undo_next_of (unanswered r.txn (take (next - 1) log))) → AreListed (numbers ++ next ∷ []) behind (counter + 1)
    one_listed some r there behind names = by listed.left listed.chain listed.first listed.all listed.few
      where
        value : LogRecord → Option LogRecord → LogRecord
        value d None = d
        value d (Some x) = x

        by : (left : List UnansweredChange) → IsUndoChain log t left → next ≡ undo_next_of left → numbers_of (unanswered t log) ≡ numbers ++ numbers_of left → length left + counter ≤ length log
            → AreListed (numbers ++ next ∷ []) behind (counter + 1)
        by [] chain first all few = absurd (omega (arith, first, some))
        by (c ∷ cs) chain first all few =
            let k = chain.0 in
            let same : k.found ≡ r = ap (value r) (sym k.here ∙ ap (λ n. slice_get log (n - 1)) (sym first) ∙ there) in
            let change : IsChange r.payload = subst IsChange (sym k.says ∙ ap (λ x. x.payload) same) tt in
            record {
              left = cs;
              all = all ∙ ap (λ n. numbers ++ n ∷ numbers_of cs) (sym first) ∙ sym (append_assoc numbers (next ∷ []) (numbers_of cs));
              chain = chain.1;
              first =
                  names there change
                  ∙ ap (λ x. undo_next_of (unanswered x.txn (take (next - 1) log))) (sym same)
                  ∙ ap (λ u. undo_next_of (unanswered u (take (next - 1) log))) k.own
                  ∙ ap (λ n. undo_next_of (unanswered t (take (n - 1) log))) first ∙ ap undo_next_of k.before;
              few = omega (arith, few);
            }

-- ---- in a log whose front is cut off

module _ (t : ℕ) (one : 0 < t) (cut : ℕ) where
  kept_most : (kept : List LogRecord) → length (unanswered t (padded cut kept)) ≤ length kept
  kept_most = by_push (λ kept. length (unanswered t (padded cut kept)) ≤ length kept) (let none = ap length (unanswered_padded t one cut []) in omega (arith, none)) one_more
    where
      one_more : (kept : List LogRecord) (r : LogRecord) → length (unanswered t (padded cut kept)) ≤ length kept
          → length (unanswered t (padded cut (kept ++ r ∷ []))) ≤ length (kept ++ r ∷ [])
      one_more kept r known =
          let push = ap (λ xs. length (unanswered t xs)) (padded-push cut kept r) in
          let long = length-append kept (r ∷ []) in
          ⊎_elim
          (λ own.
          let most = answered_most (1 + length (padded cut kept)) r.payload (unanswered t (padded cut kept)) in
          omega (arith, known, most, push, long, ap length (unanswered_own t (padded cut kept) r own)))
          (λ ne. omega (arith, known, push, long, ap length (unanswered_other t (padded cut kept) r ne)))
          (same_or_not r.txn t)

  module _ (kept : List LogRecord) where
    pub none_kept_listed : (newest : ℕ) → newest ≡ undo_next_of (unanswered t (padded cut kept)) → AreListed t (padded cut kept) [] newest (cut + 0)
    none_kept_listed newest is = record {
      left = unanswered t (padded cut kept);
      all = refl;
      chain = unanswered_chain (padded cut kept) t;
      first = is;
      few = let most = kept_most kept in let long = length_padded cut kept in omega (arith, most, long);
    }

    -- the next one is not cut off
    pub listed_behind : (numbers : List ℕ) (next counter : ℕ) → AreListed t (padded cut kept) numbers next counter → 0 < next → cut < next
    listed_behind numbers next counter listed some = by listed.left listed.chain listed.first
      where
        by : (left : List UnansweredChange) → IsUndoChain (padded cut kept) t left → next ≡ undo_next_of left → cut < next
        by [] chain first = absurd (omega (arith, first, some))
        by (c ∷ cs) chain first =
            let k = chain.0 in
            let le = behind_cut cut (c.number - 1) kept k.found k.here (subst (λ u. 0 < u) (sym k.own) one) in
            omega (arith, first, some, le)

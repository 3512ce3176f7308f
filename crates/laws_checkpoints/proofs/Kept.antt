-- What the records behind a cut tell of a transaction that has not ended.
use Rattle.std.proofs.Common.{◌≡◌, ⊎_elim, ◌<◌, ◌≤◌, ◌+◌, ℕ, zero, suc, List, [], ◌∷◌, ◌++◌, Bool, true, false, cond, Some, refl, sym, ap, subst, ◌∙◌, length, take, drop, arith, take-append-drop}
use Rattle.std.specs.Prelude.{◌==◌, ◌&&◌, ◌||◌, not, filter, reverse, slice_get}
use Rattle.std.specs.List.{enumerate_from}
use Rattle.std.specs.Ordering.{eq_by_cmp}
use Rattle.std.proofs.lemmas.Bool.{eq-eqb, eqb-true, cases_Bool, true≢false}
use Rattle.std.proofs.lemmas.List.{length-append, take-append-le}
use Rattle.std.proofs.lemmas.List.Elements.{filter-append}
use Rattle.std.proofs.lemmas.List.Folds.{list_any-append}
use Rattle.shore_types.specs.Ids.{page_cmp}
use Rattle.shore_types.specs.declared.ids.PageId.{PageId}
use Rattle.shore_model.specs.declared.log_records.LogRecord.{LogRecord}
use Rattle.shore_model.specs.declared.log_records.Payload.{Payload}
use Rattle.shore_model.specs.Logs.{Lawful, first_number, has, is_commit, is_end, is_in_doubt, is_over, is_prepare, is_rollback, last_of, numbered, records_of, unanswered, unanswered_in}
use Rattle.laws_lives.specs.Pages.{LacksNone, LoggedPage, LoggedPages}
use Rattle.laws_lives.specs.Recovery.{with_page_written}
use Rattle.laws_lives.specs.Undo.{IsLoser, undo_payload, undo_record}
use Rattle.laws_lives.proofs.Booleans.{or_none, or_right}
use Rattle.laws_lives.proofs.Invariant.{equal_pages}
use Rattle.laws_lives.proofs.Lists.{length-take_within}
use Rattle.laws_lives.proofs.Redo.{lacks_longer}
use Rattle.laws_lives.proofs.Writers.{never_true}
use Rattle.laws_checkpoints.specs.KeptLogs.{IsKeptLoser, IsKeptUnended, MayBeCut, has_record, kept_last_of, kept_records_of, kept_unanswered, kept_undo_record, numbered_behind}
use Rattle.laws_checkpoints.proofs.Lists.{enumerate-append, front_of, get-drop}

-- ---- the records of one transaction, before the cut and behind it

module _ (t : ℕ) where
  abbrev pub its : ℕ × LogRecord → Bool
  its r = r.1.txn == t

  pub none_filtered : (n : ℕ) (xs : List LogRecord) → has_record t xs ≡ false → filter its (enumerate_from n xs) ≡ []
  none_filtered n [] h = refl
  none_filtered n (x ∷ xs) h =
      let both = or_none (x.txn == t) (has_record t xs) h in
      ap (λ b. cond b ((n, x) ∷ filter its (enumerate_from (n + 1) xs)) (filter its (enumerate_from (n + 1) xs))) both.0 ∙ none_filtered (n + 1) xs both.1

  pub none_has : (p : Payload → Bool) (xs : List LogRecord) → has_record t xs ≡ false → has p t xs ≡ false
  none_has p [] h = refl
  none_has p (x ∷ xs) h =
      let both = or_none (x.txn == t) (has_record t xs) h in
      ap (λ b. (b && p x.payload) || has p t xs) both.0 ∙ none_has p xs both.1

  -- a transaction with no record among the first ones has all of them behind the cut
  module _ (log : List LogRecord) (cut : ℕ) (within : cut ≤ length log) where
    parts : take cut log ++ drop cut log ≡ log
    parts = take-append-drop cut log

    pub filter_split : (f : ℕ × LogRecord → Bool) → filter f (numbered log) ≡ filter f (numbered (take cut log)) ++ filter f (numbered_behind cut (drop cut log))
    filter_split f =
        let long = length-take_within cut log within in
        let e : 1 + length (take cut log) ≡ cut + 1 = omega arith in
        ap (λ rs. filter f (numbered rs)) (sym parts)
        ∙ ap (filter f) (enumerate-append 1 (take cut log) (drop cut log))
        ∙ filter-append f (numbered (take cut log)) (enumerate_from (1 + length (take cut log)) (drop cut log))
        ∙ ap (λ k. filter f (numbered (take cut log)) ++ filter f (enumerate_from k (drop cut log))) e

    pub records_split : records_of t log ≡ filter its (numbered (take cut log)) ++ kept_records_of cut t (drop cut log)
    records_split = filter_split its

    pub records_kept : has_record t (take cut log) ≡ false → records_of t log ≡ kept_records_of cut t (drop cut log)
    records_kept none = records_split ∙ ap (λ es. es ++ kept_records_of cut t (drop cut log)) (none_filtered 1 (take cut log) none)

    pub has_split : (p : Payload → Bool) → has p t log ≡ (has p t (take cut log) || has p t (drop cut log))
    has_split p = ap (has p t) (sym parts) ∙ list_any-append (λ r. (r.txn == t) && p r.payload) (take cut log) (drop cut log)

    pub has_kept : (p : Payload → Bool) → has_record t (take cut log) ≡ false → has p t log ≡ has p t (drop cut log)
    has_kept p none = has_split p ∙ ap (λ b. b || has p t (drop cut log)) (none_has p (take cut log) none)

-- ---- who has ended

or_first : (a b c d : Bool) → (a || b) ≡ true → ((a || c) || (b || d)) ≡ true
or_first true b c d e = refl
or_first false true true d e = refl
or_first false true false d e = refl
or_first false false c d e = cc

or_of : {a b c d : Bool} → a ≡ c → b ≡ d → (a || b) ≡ (c || d)
or_of p q = cc

neither : {a b : Bool} → a ≡ false → b ≡ false → (a || b) ≡ false
neither p q = cc

or_back : {a b d : Bool} → a ≡ (b || d) → b ≡ false → a ≡ d
or_back p q = cc

pub over_longer : (t : ℕ) (xs ys : List LogRecord) → is_over t xs ≡ true → is_over t (xs ++ ys) ≡ true
over_longer t xs ys h =
    or_of (list_any-append (λ r. (r.txn == t) && is_commit r.payload) xs ys) (list_any-append (λ r. (r.txn == t) && is_end r.payload) xs ys)
    ∙ or_first (has is_commit t xs) (has is_end t xs) (has is_commit t ys) (has is_end t ys) h

pub over_in_front : (t : ℕ) (log : List LogRecord) (n : ℕ) → is_over t (take n log) ≡ true → is_over t log ≡ true
over_in_front t log n h = ap (is_over t) (sym (take-append-drop n log)) ∙ over_longer t (take n log) (drop n log) h

module _ (t : ℕ) (log : List LogRecord) (cut : ℕ) (within : cut ≤ length log) where
  -- who had not ended before the cut has ended if that stands behind it
  pub over_back : is_over t (take cut log) ≡ false → is_over t log ≡ is_over t (drop cut log)
  over_back h =
      let parts = or_none (has is_commit t (take cut log)) (has is_end t (take cut log)) h in
      or_of (or_back (has_split t log cut within is_commit) parts.0) (or_back (has_split t log cut within is_end) parts.1)

  pub over_none_back : is_over t log ≡ false → is_over t (drop cut log) ≡ false
  over_none_back h =
      let parts = or_none (has is_commit t log) (has is_end t log) h in
      neither (last_false (has is_commit t (take cut log)) (has is_commit t (drop cut log)) (has_split t log cut within is_commit) parts.0)
      (last_false (has is_end t (take cut log)) (has is_end t (drop cut log)) (has_split t log cut within is_end) parts.1)
    where
      last_false : (b c : Bool) {a : Bool} → a ≡ (b || c) → a ≡ false → c ≡ false
      last_false b c p q = (or_none b c (sym p ∙ q)).1

-- the first record with this number is a transaction's
pub record HasOne (rs : List LogRecord) (t : ℕ) : Type 0 where
  pub at : ℕ
  pub found : LogRecord
  pub here : slice_get rs at ≡ Some found
  pub own : found.txn ≡ t
  pub none_before : has_record t (take at rs) ≡ false

-- whose record it is has one
pub has_at : (rs : List LogRecord) (n : ℕ) (r : LogRecord) → slice_get rs n ≡ Some r → has_record r.txn rs ≡ true
has_at [] n r at = cc
has_at (x ∷ rs) zero r at = let same : x ≡ r = cc in ap (λ b. b || has_record r.txn rs) (eq-eqb x.txn r.txn (ap (λ (y : LogRecord). y.txn) same))
has_at (x ∷ rs) (suc n) r at = or_right (x.txn == r.txn) (has_record r.txn rs) (has_at rs n r at)

module _ (t : ℕ) where
  one_later : (x : LogRecord) (xs : List LogRecord) → (x.txn == t) ≡ false → HasOne xs t → HasOne (x ∷ xs) t
  one_later x xs other later = record {
    at = suc later.at;
    found = later.found;
    here = later.here;
    own = later.own;
    none_before = neither other later.none_before;
  }

  one_first : (x : LogRecord) (xs : List LogRecord) → (x.txn == t) ≡ true → HasOne (x ∷ xs) t
  one_first x xs own = record { at = 0; found = x; here = refl; own = eqb-true x.txn t own; none_before = refl }

  one_filtered : (n : ℕ) (xs : List LogRecord) → (filter (its t) (enumerate_from n xs) ≡ [] → ⊥) → HasOne xs t
  one_filtered n [] h = absurd (h refl)
  one_filtered n (x ∷ xs) h = ⊎_elim
      (one_first x xs)
      (λ other.
      one_later x xs other
      (one_filtered (n + 1) xs (λ e. h (ap (λ b. cond b ((n, x) ∷ filter (its t) (enumerate_from (n + 1) xs)) (filter (its t) (enumerate_from (n + 1) xs))) other ∙ e))))
      (cases_Bool (x.txn == t))

  pub one_of : (rs : List LogRecord) → has_record t rs ≡ true → HasOne rs t
  one_of [] h = cc
  one_of (x ∷ rs) h = ⊎_elim
      (one_first x rs)
      (λ other. one_later x rs other (one_of rs (sym (ap (λ b. b || has_record t rs) other) ∙ h)))
      (cases_Bool (x.txn == t))

  pub known_one : (cut : ℕ) (kept : List LogRecord) → 0 < kept_last_of cut t kept → HasOne kept t
  known_one cut kept h = one_filtered (cut + 1) kept (λ e. let z : 0 < 0 = subst (λ es. 0 < first_number (reverse es)) e h in omega arith)

-- who has a record behind the cut had not ended before it
pub not_over_before : (log : List LogRecord) (lawful : Lawful log) (cut n : ℕ) (r : LogRecord) → slice_get (drop cut log) n ≡ Some r → is_over r.txn (take cut log) ≡ false
not_over_before log lawful cut n r at = never_true (is_over r.txn (take cut log)) (λ over.
    let here : slice_get log (cut + n) ≡ Some r = sym (get-drop log cut n) ∙ at in
    let split : take cut log ++ drop cut (take (cut + n) log) ≡ take (cut + n) log = front_of log cut (cut + n) (omega arith) in
    let still : is_over r.txn (take (cut + n) log) ≡ true = ap (is_over r.txn) (sym split) ∙ over_longer r.txn (take cut log) (drop cut (take (cut + n) log)) over in
    true≢false (sym still ∙ (lawful (cut + n) r here).not_over))

-- ---- those that have not ended

module _ (log : List LogRecord) (volume : LoggedPages) (cut : ℕ) (may : MayBeCut log volume cut) (t : ℕ) where
  pub none_cut_off : 0 < t → is_over t log ≡ false → has_record t (take cut log) ≡ false
  none_cut_off one runs = never_true (has_record t (take cut log)) (λ some. true≢false (sym (may.ended t one some) ∙ runs))

  pub all_kept : 0 < t → is_over t log ≡ false → (records_of t log ≡ kept_records_of cut t (drop cut log)) × ((p : Payload → Bool) → has p t log ≡ has p t (drop cut log))
  all_kept one runs =
      let none = none_cut_off one runs in
      (records_kept t log cut may.within none, λ p. has_kept t log cut may.within p none)

  pub over_kept : 0 < t → is_over t log ≡ false → is_over t (drop cut log) ≡ false
  over_kept one runs = over_none_back t log cut may.within runs

module _ (log : List LogRecord) (lawful : Lawful log) (volume : LoggedPages) (cut : ℕ) (may : MayBeCut log volume cut) (t : ℕ) where
  pub runs_with_one : HasOne (drop cut log) t → is_over t (drop cut log) ≡ false → is_over t log ≡ false
  runs_with_one one runs =
      let before = subst (λ u. is_over u (take cut log) ≡ false) one.own (not_over_before log lawful cut one.at one.found one.here) in
      over_back t log cut may.within before ∙ runs

  still_running : IsKeptUnended cut (drop cut log) t → is_over t log ≡ false
  still_running k = runs_with_one (known_one t cut (drop cut log) k.known) k.not_over

  pub unended_kept : 0 < t → ((0 < last_of t log) × (is_over t log ≡ false)) → IsKeptUnended cut (drop cut log) t
  unended_kept one h = record {
    is_one = one;
    known = subst (λ es. 0 < first_number (reverse es)) (all_kept log volume cut may t one h.1).0 h.0;
    not_over = over_kept log volume cut may t one h.1;
  }

  pub kept_unended : IsKeptUnended cut (drop cut log) t → (0 < last_of t log) × (is_over t log ≡ false)
  kept_unended k =
      let runs = still_running k in
      (subst (λ es. 0 < first_number (reverse es)) (sym (all_kept log volume cut may t k.is_one runs).0) k.known, runs)

  pub doubt_same : 0 < t → is_over t log ≡ false → is_in_doubt t log ≡ is_in_doubt t (drop cut log)
  doubt_same one runs =
      let same = (all_kept log volume cut may t one runs).1 in
      three (same is_prepare) (same is_commit) (same is_rollback)
    where
      three : {a b c d e f : Bool} → a ≡ b → c ≡ d → e ≡ f → (a && not c && not e) ≡ (b && not d && not f)
      three p q r = cc

  pub losers_kept : IsLoser log t → IsKeptLoser cut (drop cut log) t
  losers_kept l = record {
    unended = unended_kept l.is_one (l.known, l.not_over);
    not_in_doubt = sym (doubt_same l.is_one l.not_over) ∙ l.not_in_doubt;
  }

  pub kept_losers : IsKeptLoser cut (drop cut log) t → IsLoser log t
  kept_losers k =
      let whole = kept_unended k.unended in
      record { is_one = k.unended.is_one; known = whole.0; not_over = whole.1; not_in_doubt = doubt_same k.unended.is_one whole.1 ∙ k.not_in_doubt }

pub undo_kept : (log : List LogRecord) (volume : LoggedPages) (cut t : ℕ) → MayBeCut log volume cut → IsLoser log t
    → (undo_record log t ≡ kept_undo_record cut (drop cut log) t) × (unanswered t log ≡ kept_unanswered cut t (drop cut log))
undo_kept log volume cut t may l =
    let same = (all_kept log volume cut may t l.is_one l.not_over).0 in (
      ap (λ es. record { txn = t; previous = first_number (reverse es); payload = undo_payload (unanswered_in (reverse es)) }) same,
      ap (λ es. unanswered_in (reverse es)) same,
    )

-- ---- a longer log, and later pages

module _ (log : List LogRecord) (volume : LoggedPages) (cut : ℕ) (may : MayBeCut log volume cut) where
  pub cut_longer : (more : List LogRecord) → MayBeCut (log ++ more) volume cut
  cut_longer more =
      let within = may.within in
      let long = length-append log more in
      record {
        within = omega arith;
        on_pages = λ p. lacks_longer log p cut (volume p) (may.on_pages p) more;
        ended = λ t one some. over_longer t log more (may.ended t one (ap (has_record t) (sym (take-append-le cut log more within)) ∙ some));
      }

  pub cut_flushed : (p : PageId) (page : LoggedPage) → LacksNone log p cut page → MayBeCut log (with_page_written volume p page) cut
  cut_flushed p page h = record {
    within = may.within;
    on_pages = λ q. elim (eq_by_cmp page_cmp q p) as (λ b. eq_by_cmp page_cmp q p ≡ b → LacksNone log q cut (cond b page (volume q))) [
      | true ↦ λ e. subst (λ x. LacksNone log x cut page) (sym (equal_pages q p e)) h
      | false ↦ λ e. may.on_pages q
    ] refl;
    ended = may.ended;
  }

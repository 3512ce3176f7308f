-- What a pass knows with one record more.
use Rattle.std.proofs.Common.{◌≡◌, ◌≢◌, inl, inr, ⊎_elim, ◌+◌, ◌<◌, ℕ, suc, List, [], ◌∷◌, ◌++◌, Bool, true, false, cond, Some, None, refl, sym, ap, subst, ◌∙◌, length, arith}
use Rattle.std.specs.Prelude.{◌==◌, ◌&&◌, ◌||◌, not, filter, nat_lt, reverse, unwrap_or}
use Rattle.std.specs.List.{enumerate_from}
use Rattle.std.proofs.lemmas.Bool.{cases_Bool, eq-eqb, ne_eqb, lt-ltb, le-ltb, ltb-false}
use Rattle.std.proofs.lemmas.List.Elements.{filter-append}
use Rattle.shore_types.specs.declared.layout.Geometry.{Geometry}
use Rattle.shore_types.specs.declared.ids.PageId.{PageId}
use Rattle.shore_model.specs.declared.log_records.LogRecord.{LogRecord}
use Rattle.shore_model.specs.declared.log_records.LogTxn.{LogTxn}
use Rattle.shore_model.specs.declared.log_records.TxnState.TheVariants.{Active, Prepared, RollingBack}
use Rattle.shore_model.specs.Logs.{first_number, first_of, has, id_in, is_commit, is_end, is_over, is_prepare, last_of, numbered, prepare_number, records_of, unanswered, undo_next_of}
use Rattle.shore_model.proofs.LogSteps.{newest-push}
use Rattle.laws_lives.proofs.Numbers.{last_own, newest_other}
use Rattle.laws_lives.proofs.OneMore.{by_push, has-not_its, has-push}
use Rattle.laws_lives.proofs.Writers.{same_or_not}
use Rattle.laws_lives.proofs.EndedTxns.{over_other, over_same}
use Rattle.laws_lives.proofs.UnansweredChanges.{unanswered_other, unanswered_own}
use Rattle.shore_analysis.specs.Meant.{IsMeant, AreMeantOf}
use Rattle.shore_analysis.specs.Passes.{begun, entry_after, entry_at, entry_of, noted, prepare_after, recovery_at, state_after, undo_next_after}
use Rattle.shore_analysis.specs.Tables.{first_change, is_on_page, newest_is_undo, state_of}
use Rattle.shore_analysis.proofs.Answered.{one_or_none}
use Rattle.shore_analysis.proofs.MeantLogs.{nexts_after, nothing_unanswered}
use Rattle.shore_analysis.proofs.Phases.{doubt_other, prepare_free, state_then}

-- ---- the first record that passes a test

enumerate-push : (n : ℕ) (rs : List LogRecord) (r : LogRecord) → enumerate_from n (rs ++ r ∷ []) ≡ enumerate_from n rs ++ (n + length rs, r) ∷ []
enumerate-push n [] r = let e : n ≡ n + 0 = omega arith in ap (λ (k : ℕ). (k, r) ∷ []) e
enumerate-push n (x ∷ rs) r =
    let e : n + 1 + length rs ≡ n + suc (length rs) = omega arith in
    ap (λ es. (n, x) ∷ es) (enumerate-push (n + 1) rs r ∙ ap (λ (k : ℕ). enumerate_from (n + 1) rs ++ (k, r) ∷ []) e)

module _ (q : LogRecord → Bool) where
  abbrev picked : List LogRecord → List (ℕ × LogRecord)
  picked rs = filter (λ r. q r.1) (numbered rs)

  picked-push : (rs : List LogRecord) (r : LogRecord) → picked (rs ++ r ∷ []) ≡ picked rs ++ cond (q r) ((1 + length rs, r) ∷ []) []
  picked-push rs r = ap (filter (λ r. q r.1)) (enumerate-push 1 rs r) ∙ filter-append (λ r. q r.1) (numbered rs) ((1 + length rs, r) ∷ [])

  -- the first of some, if there is one, and else the number of the record that comes
  first_joined : (es : List (ℕ × LogRecord)) (b : Bool) (n : ℕ) (r : LogRecord) → (first_number es ≡ 0 → es ≡ [])
      → first_number (es ++ cond b ((n, r) ∷ []) []) ≡ cond (nat_lt 0 (first_number es)) (first_number es) (cond b n 0)
  first_joined [] true n r none = refl
  first_joined [] false n r none = refl
  first_joined (e ∷ es) b n r none = elim (one_or_none e.0) [
    | inl no_number ↦ absurd (let gone = none no_number in cc)
    | inr one ↦ sym (ap (λ c. cond c e.0 (cond b n 0)) (lt-ltb 0 e.0 one))
  ]

  none_joined : (es : List (ℕ × LogRecord)) (b : Bool) (n : ℕ) (r : LogRecord) → 0 < n → (first_number es ≡ 0 → es ≡ [])
      → first_number (es ++ cond b ((n, r) ∷ []) []) ≡ 0 → (es ++ cond b ((n, r) ∷ []) []) ≡ []
  none_joined [] true n r some none h = absurd (omega (arith, h))
  none_joined [] false n r some none h = refl
  none_joined (e ∷ es) b n r some none h = absurd (let gone = none h in cc)

  pub none_picked : (rs : List LogRecord) → first_number (picked rs) ≡ 0 → picked rs ≡ []
  none_picked = by_push (λ rs. first_number (picked rs) ≡ 0 → picked rs ≡ []) (λ h. refl)
      (λ rs r known h. picked-push rs r ∙ none_joined (picked rs) (q r) (1 + length rs) r (omega arith) known (sym (ap first_number (picked-push rs r)) ∙ h))

  pub first-push : (rs : List LogRecord) (r : LogRecord)
      → first_number (picked (rs ++ r ∷ [])) ≡ cond (nat_lt 0 (first_number (picked rs))) (first_number (picked rs)) (cond (q r) (1 + length rs) 0)
  first-push rs r = ap first_number (picked-push rs r) ∙ first_joined (picked rs) (q r) (1 + length rs) r (none_picked rs)

-- ---- pages

noted_is : (b : Bool) (n first : ℕ) → 0 < n → noted b n (cond (nat_lt 0 first) (Some first) None)
    ≡ cond (nat_lt 0 (cond (nat_lt 0 first) first (cond b n 0))) (Some (cond (nat_lt 0 first) first (cond b n 0))) None
noted_is b n first some = ⊎_elim (λ none. by_none b none) (λ one. by_one one) (one_or_none first)
  where
    by_one : 0 < first → noted b n (cond (nat_lt 0 first) (Some first) None)
        ≡ cond (nat_lt 0 (cond (nat_lt 0 first) first (cond b n 0))) (Some (cond (nat_lt 0 first) first (cond b n 0))) None
    by_one one = rw (lt-ltb 0 first one, lt-ltb 0 first one) refl

    by_none : (b : Bool) → first ≡ 0 → noted b n (cond (nat_lt 0 first) (Some first) None)
        ≡ cond (nat_lt 0 (cond (nat_lt 0 first) first (cond b n 0))) (Some (cond (nat_lt 0 first) first (cond b n 0))) None
    by_none true none = rw (le-ltb 0 first (omega (arith, none)), lt-ltb 0 n some) refl
    by_none false none = rw (le-ltb 0 first (omega (arith, none))) refl

pub recovery-push : (p : PageId) (rs : List LogRecord) (r : LogRecord)
    → noted (is_on_page p (id_in r.payload)) (1 + length rs) (recovery_at p rs) ≡ recovery_at p (rs ++ r ∷ [])
recovery-push p rs r =
    noted_is (is_on_page p (id_in r.payload)) (1 + length rs) (first_change p rs) (omega arith)
    ∙ ap (λ n. cond (nat_lt 0 n) (Some n) None) (sym (first-push (λ x. is_on_page p (id_in x.payload)) rs r))

-- ---- entries

pub over_none : (t : ℕ) (rs : List LogRecord) → is_over t rs ≡ true → entry_at t rs ≡ None
over_none t rs over = ap (λ b. cond (nat_lt 0 t && nat_lt 0 (last_of t rs) && not b) (Some (entry_of t rs)) None) over ∙ never (nat_lt 0 t && nat_lt 0 (last_of t rs)) (entry_of t rs)
  where
    never : (b : Bool) (e : LogTxn) → cond (b && not true) (Some e) None ≡ None
    never true e = refl
    never false e = refl

pub entry_none : (t : ℕ) (rs : List LogRecord) → last_of t rs ≡ 0 → entry_at t rs ≡ None
entry_none t rs none = ap (λ b. cond (nat_lt 0 t && b && not (is_over t rs)) (Some (entry_of t rs)) None) (le-ltb 0 (last_of t rs) (omega (arith, none)))
    ∙ never (nat_lt 0 t) (entry_of t rs)
  where
    never : (b : Bool) (e : LogTxn) → cond (b && false && not (is_over t rs)) (Some e) None ≡ None
    never true e = refl
    never false e = refl

pub entry_some : (t : ℕ) (rs : List LogRecord) → 0 < t → 0 < last_of t rs → is_over t rs ≡ false → entry_at t rs ≡ Some (entry_of t rs)
entry_some t rs one known runs = rw (lt-ltb 0 t one, lt-ltb 0 (last_of t rs) known, runs) refl

-- who has a Prepare has its number
pub prepare_known : (t : ℕ) (rs : List LogRecord) → nat_lt 0 (prepare_number t rs) ≡ has is_prepare t rs
prepare_known t = by_push (λ rs. nat_lt 0 (prepare_number t rs) ≡ has is_prepare t rs) refl one_more
  where
    by : (n first : ℕ) (own : Bool) → 0 < n → nat_lt 0 (cond (nat_lt 0 first) first (cond own n 0)) ≡ (nat_lt 0 first || own)
    by n first own some = ⊎_elim (λ none. by_none own none) (λ one. rw (lt-ltb 0 first one, lt-ltb 0 first one) refl) (one_or_none first)
      where
        by_none : (own : Bool) → first ≡ 0 → nat_lt 0 (cond (nat_lt 0 first) first (cond own n 0)) ≡ (nat_lt 0 first || own)
        by_none true none = rw (le-ltb 0 first (omega (arith, none)), lt-ltb 0 n some) refl
        by_none false none = rw (le-ltb 0 first (omega (arith, none))) refl

    one_more : (rs : List LogRecord) (r : LogRecord) → nat_lt 0 (prepare_number t rs) ≡ has is_prepare t rs → nat_lt 0 (prepare_number t (rs ++ r ∷ [])) ≡ has is_prepare t (rs ++ r ∷ [])
    one_more rs r known =
        ap (nat_lt 0) (first-push (λ x. (x.txn == t) && is_prepare x.payload) rs r)
        ∙ by (1 + length rs) (prepare_number t rs) ((r.txn == t) && is_prepare r.payload) (omega arith)
        ∙ ap (λ b. b || ((r.txn == t) && is_prepare r.payload)) known ∙ sym (has-push rs r is_prepare t)

pub prepare_none : (t : ℕ) (rs : List LogRecord) → has is_prepare t rs ≡ false → prepare_number t rs ≡ 0
prepare_none t rs none = let zero = ltb-false 0 (prepare_number t rs) (prepare_known t rs ∙ none) in omega (arith, zero)

-- who has no record has no Prepare
pub nothing_prepared : (t : ℕ) (rs : List LogRecord) → last_of t rs ≡ 0 → has is_prepare t rs ≡ false
nothing_prepared t = by_push (λ rs. last_of t rs ≡ 0 → has is_prepare t rs ≡ false) (λ h. refl) one_more
  where
    one_more : (rs : List LogRecord) (r : LogRecord) → (last_of t rs ≡ 0 → has is_prepare t rs ≡ false) → last_of t (rs ++ r ∷ []) ≡ 0 → has is_prepare t (rs ++ r ∷ []) ≡ false
    one_more rs r known none = ⊎_elim
        (λ own. let here : last_of t (rs ++ r ∷ []) ≡ 1 + length rs = ap (λ u. last_of u (rs ++ r ∷ [])) (sym own) ∙ last_own rs r in absurd (omega arith))
        (λ ne. has-not_its rs r is_prepare t ne ∙ known (sym (ap first_number (newest_other rs r t ne)) ∙ none))
        (same_or_not r.txn t)

-- who has a last record has a first one
first_none : (t : ℕ) (rs : List LogRecord) → last_of t rs ≡ 0 → first_of t rs ≡ 0
first_none t = by_push (λ rs. last_of t rs ≡ 0 → first_of t rs ≡ 0) (λ h. refl) one_more
  where
    one_more : (rs : List LogRecord) (r : LogRecord) → (last_of t rs ≡ 0 → first_of t rs ≡ 0) → last_of t (rs ++ r ∷ []) ≡ 0 → first_of t (rs ++ r ∷ []) ≡ 0
    one_more rs r known none = ⊎_elim
        (λ own. let here : last_of t (rs ++ r ∷ []) ≡ 1 + length rs = ap (λ u. last_of u (rs ++ r ∷ [])) (sym own) ∙ last_own rs r in absurd (omega arith))
        (λ ne.
        let before : first_of t rs ≡ 0 = known (sym (ap first_number (newest_other rs r t ne)) ∙ none) in
        first-push (λ x. x.txn == t) rs r ∙ ap (λ n. cond (nat_lt 0 n) n (cond (r.txn == t) (1 + length rs) 0)) before ∙ ap (λ b. cond b (1 + length rs) 0) (ne_eqb r.txn t ne))
        (same_or_not r.txn t)

first_some : (t : ℕ) (rs : List LogRecord) → 0 < last_of t rs → 0 < first_of t rs
first_some t rs known = ⊎_elim
    (λ none. let gone : last_of t rs ≡ 0 = ap (λ es. first_number (reverse es)) (none_picked (λ x. x.txn == t) rs none) in absurd (omega arith))
    (λ one. one) (one_or_none (first_of t rs))

itself : (n : ℕ) → cond (nat_lt 0 n) n 0 ≡ n
itself n = ⊎_elim (λ none. ap (λ b. cond b n 0) (le-ltb 0 n (omega (arith, none))) ∙ sym none) (λ one. ap (λ b. cond b n 0) (lt-ltb 0 n one)) (one_or_none n)

-- another's entry stays as it is
module _ (rs : List LogRecord) (r : LogRecord) (t : ℕ) (other : r.txn ≢ t) where
  first-other : first_of t (rs ++ r ∷ []) ≡ first_of t rs
  first-other =
      first-push (λ x. x.txn == t) rs r ∙ ap (λ b. cond (nat_lt 0 (first_of t rs)) (first_of t rs) (cond b (1 + length rs) 0)) (ne_eqb r.txn t other)
      ∙ itself (first_of t rs)

  prepare-other : prepare_number t (rs ++ r ∷ []) ≡ prepare_number t rs
  prepare-other =
      first-push (λ x. (x.txn == t) && is_prepare x.payload) rs r
      ∙ ap (λ b. cond (nat_lt 0 (prepare_number t rs)) (prepare_number t rs) (cond (b && is_prepare r.payload) (1 + length rs) 0)) (ne_eqb r.txn t other)
      ∙ itself (prepare_number t rs)

  last-other : last_of t (rs ++ r ∷ []) ≡ last_of t rs
  last-other = ap (λ es. first_number es) (newest_other rs r t other)

  entry_of-other : entry_of t (rs ++ r ∷ []) ≡ entry_of t rs
  entry_of-other = λ i. record {
    txn = t;
    state = cond (doubt_other rs r t other i) Prepared (cond (newest_is_undo (newest_other rs r t other i)) RollingBack Active);
    first = first-other i;
    last = last-other i;
    undo_next = undo_next_of (unanswered_other t rs r other i);
    prepare = prepare-other i;
  }

  pub entry-other : entry_at t (rs ++ r ∷ []) ≡ entry_at t rs
  entry-other = λ i. cond (nat_lt 0 t && nat_lt 0 (last-other i) && not (over_other rs r t other i)) (Some (entry_of-other i)) None

-- its own entry goes on
module _ (g : Geometry) (rs : List LogRecord) (r : LogRecord) (all : AreMeantOf g r.txn rs) (meant : IsMeant g rs r) where
  abbrev t : ℕ
  t = r.txn

  abbrev after : List LogRecord
  after = rs ++ r ∷ []

  abbrev n : ℕ
  n = 1 + length rs

  -- what is known of it before
  record IsBefore (e : LogTxn) : Type 0 where
    pub txn : e.txn ≡ t
    pub first : e.first ≡ first_of t after
    pub undo_next : e.undo_next ≡ undo_next_of (unanswered t rs)
    pub prepare : e.prepare ≡ prepare_number t rs

  before : IsBefore (unwrap_or (entry_at t rs) (begun t n))
  before = ⊎_elim
      (λ none.
      let nothing : first_of t rs ≡ 0 = first_none t rs none in
      subst (λ o. IsBefore (unwrap_or o (begun t n))) (sym (entry_none t rs none)) (record {
        txn = refl;
        first = sym (first-push (λ x. x.txn == t) rs r ∙ rw (nothing, eq-eqb t t refl) refl);
        undo_next = sym (ap undo_next_of (nothing_unanswered rs t none));
        prepare = sym (prepare_none t rs (nothing_prepared t rs none));
      }))
      (λ known.
      let one : 0 < first_of t rs = first_some t rs known in
      subst (λ o. IsBefore (unwrap_or o (begun t n))) (sym (entry_some t rs meant.some known meant.not_over)) (record {
        txn = refl;
        first = sym (first-push (λ x. x.txn == t) rs r ∙ ap (λ b. cond b (first_of t rs) (cond (t == t) n 0)) (lt-ltb 0 (first_of t rs) one));
        undo_next = refl;
        prepare = refl;
      }))
      (one_or_none (last_of t rs))

  prepare_then : prepare_after n r.payload (prepare_number t rs) ≡ prepare_number t after
  prepare_then = ⊎_elim
      (λ yes.
      let none : prepare_number t rs ≡ 0 = prepare_none t rs (prepare_free g rs t r.payload yes meant.says) in
      ap (λ b. cond b n (prepare_number t rs)) yes
      ∙ sym (first-push (λ x. (x.txn == t) && is_prepare x.payload) rs r ∙ rw (none, eq-eqb t t refl, yes) refl))
      (λ no.
      ap (λ b. cond b n (prepare_number t rs)) no
      ∙ sym (first-push (λ x. (x.txn == t) && is_prepare x.payload) rs r
      ∙ ap (λ b. cond (nat_lt 0 (prepare_number t rs)) (prepare_number t rs) (cond ((t == t) && b) n 0)) no ∙ other (t == t) (prepare_number t rs)))
      (cases_Bool (is_prepare r.payload))
    where
      other : (b : Bool) (k : ℕ) → cond (nat_lt 0 k) k (cond (b && false) n 0) ≡ k
      other true k = itself k
      other false k = itself k

  pub goes_on : is_commit r.payload ≡ false → is_end r.payload ≡ false → Some (entry_after n r (entry_at t rs)) ≡ entry_at t after
  goes_on no_commit no_end =
      let runs : is_over t after ≡ false = over_same rs r no_commit no_end t ∙ meant.not_over in
      let number : last_of t after ≡ n = last_own rs r in
      let newest : reverse (records_of t after) ≡ (n, r) ∷ reverse (records_of t rs) =
      newest-push t rs r ∙ ap (λ b. cond b ((n, r) ∷ reverse (records_of t rs)) (reverse (records_of t rs))) (eq-eqb t t refl) in
      let next : undo_next_after n r.payload (undo_next_of (unanswered t rs)) ≡ undo_next_of (unanswered t after) =
      sym (ap undo_next_of (unanswered_own t rs r refl) ∙ nexts_after g rs r meant r.payload refl meant.says runs) in
      let state : state_after r.payload ≡ state_of t after = state_then g rs r all meant no_commit no_end newest in
      (λ i. Some (record {
        txn = before.txn i;
        state = state i;
        first = before.first i;
        last = sym number i;
        undo_next = (ap (undo_next_after n r.payload) before.undo_next ∙ next) i;
        prepare = (ap (prepare_after n r.payload) before.prepare ∙ prepare_then) i;
      }))
      ∙ sym (entry_some t after meant.some (omega (arith, number)) runs)

-- A log in which a record of nobody stands in the place of each Prepare whose transaction does not pass a test. Of those that pass it says the same; so what holds
-- of a log in which no transaction has two Prepares holds of them.
use Rattle.std.proofs.Common.{◌≡◌, ◌⊎◌, ⊎_elim, inl, inr, ◌<◌, ◌-◌, ◌+◌, ℕ, List, [], ◌∷◌, Bool, true, false, cond, Option, None, Some, map, refl, sym, ap, subst, ◌∙◌, take}
use Rattle.std.specs.Prelude.{◌==◌, ◌&&◌, ◌||◌, filter, not, option_map, slice_get}
use Rattle.std.specs.List.{AllByRecursion, cons_option, enumerate_from, filter_map}
use Rattle.std.proofs.lemmas.Bool.{eqb-true, true≢false}
use Rattle.std.proofs.lemmas.Option.{slice_get-map}
use Rattle.shore_model.specs.declared.log_records.LogRecord.{LogRecord}
use Rattle.shore_model.specs.declared.log_records.Payload.{Payload}
use Rattle.shore_model.specs.declared.log_records.Payload.TheVariants.{Change, Compensation, Commit, End, Prepare, RollbackDecided, CheckpointBegin, CheckpointEnd, Anchor}
use Rattle.shore_model.specs.Logs.{first_number, has, is_prepare, prepare_number, prepare_of}
use Rattle.laws_lives.specs.Doubts.{LoggedDoubt, doubt_by, doubt_of}
use Rattle.laws_lives.proofs.Lists.{map-take}
use Rattle.shore_analysis.specs.Doubts.{doubt_at}
use Rattle.shore_analysis.specs.Padded.{blank}
use Rattle.shore_analysis.proofs.DoubtsTold.{are_told, doubt_there, some_doubt, told}
use Rattle.shore_analysis.proofs.InOrder.{PrepareOnce, Rises, once_rise, prepare_is, prepares}

module _ (q : ℕ → Bool) where
  pub quiet : LogRecord → LogRecord
  quiet r = cond (is_prepare r.payload && not (q r.txn)) blank r

  abbrev pub quieted : List LogRecord → List LogRecord
  quieted log = map quiet log

  -- one that passes, or is no Prepare, stays
  stays : (r : LogRecord) → (is_prepare r.payload ≡ true → q r.txn ≡ true) → quiet r ≡ r
  unfolding quiet
  stays r passes = by (is_prepare r.payload) (q r.txn) passes
    where
      by : (a b : Bool) → (a ≡ true → b ≡ true) → cond (a && not b) blank r ≡ r
      by false b h = refl
      by true true h = refl
      by true false h = absurd (true≢false (sym (h refl)))

  goes : (r : LogRecord) → is_prepare r.payload ≡ true → q r.txn ≡ false → quiet r ≡ blank
  unfolding quiet
  goes r is out = λ i. cond (is i && not (out i)) blank r

  passes_or_not : {P : Type 0} (b : Bool) → (b ≡ true → P) → (b ≡ false → P) → P
  passes_or_not true within out = within refl
  passes_or_not false within out = out refl

  -- ---- the Prepares

  prepares_quiet : (log : List LogRecord) → prepares (quieted log) ≡ filter q (prepares log)
  prepares_quiet [] = refl
  prepares_quiet (r ∷ rs) = passes_or_not (is_prepare r.payload)
      (λ is. passes_or_not (q r.txn)
      (λ within.
      ap (λ (x : LogRecord). cons_option (prepare_of x) (prepares (quieted rs))) (stays r (λ _. within))
      ∙ (λ i. cons_option (cond (is i) (Some r.txn) None) (prepares_quiet rs i))
      ∙ sym (λ i. cond (within i) (r.txn ∷ filter q (prepares rs)) (filter q (prepares rs)))
      ∙ sym (ap (λ (b : Bool). filter q (cons_option (cond b (Some r.txn) None) (prepares rs))) is))
      (λ out.
      ap (λ (x : LogRecord). cons_option (prepare_of x) (prepares (quieted rs))) (goes r is out) ∙ prepares_quiet rs
      ∙ sym (λ i. cond (out i) (r.txn ∷ filter q (prepares rs)) (filter q (prepares rs)))
      ∙ sym (ap (λ (b : Bool). filter q (cons_option (cond b (Some r.txn) None) (prepares rs))) is)))
      (λ isnt.
      ap (λ (x : LogRecord). cons_option (prepare_of x) (prepares (quieted rs))) (stays r (λ is. absurd (true≢false (sym is ∙ isnt))))
      ∙ (λ i. cons_option (cond (isnt i) (Some r.txn) None) (prepares_quiet rs i))
      ∙ sym (ap (λ (b : Bool). filter q (cons_option (cond b (Some r.txn) None) (prepares rs))) isnt))

  none_by : (t : ℕ) (p : Payload) → is_prepare p ≡ false → doubt_by t p ≡ None
  none_by t (Prepare global granules) is = absurd (true≢false is)
  none_by t (Change id was image) is = refl
  none_by t (Compensation id image undo_next) is = refl
  none_by t Commit is = refl
  none_by t End is = refl
  none_by t RollbackDecided is = refl
  none_by t CheckpointBegin is = refl
  none_by t (CheckpointEnd begin next txns dirty) is = refl
  none_by t (Anchor checkpoint tail) is = refl

  record Said (r : LogRecord) : Type 0 where
    pub doubt : LoggedDoubt
    pub is : doubt_of r ≡ Some doubt
    pub txn : doubt.txn ≡ r.txn

  said_by : (r : LogRecord) → is_prepare r.payload ≡ true → Said r
  said_by r is = by r.payload refl is
    where
      by : (p : Payload) → r.payload ≡ p → is_prepare p ≡ true → Said r
      by (Prepare global granules) same is = record { doubt = record { txn = r.txn; global = global; granules = granules }; is = ap (doubt_by r.txn) same; txn = refl }
      by (Change id was image) same is = absurd (true≢false (sym is))
      by (Compensation id image undo_next) same is = absurd (true≢false (sym is))
      by Commit same is = absurd (true≢false (sym is))
      by End same is = absurd (true≢false (sym is))
      by RollbackDecided same is = absurd (true≢false (sym is))
      by CheckpointBegin same is = absurd (true≢false (sym is))
      by (CheckpointEnd begin next txns dirty) same is = absurd (true≢false (sym is))
      by (Anchor checkpoint tail) same is = absurd (true≢false (sym is))

  doubts_quiet : (log : List LogRecord) → filter_map doubt_of (quieted log) ≡ filter (λ d. q d.txn) (filter_map doubt_of log)
  doubts_quiet [] = refl
  doubts_quiet (r ∷ rs) = passes_or_not (is_prepare r.payload)
      (λ is.
      let said = said_by r is in
      let whole : filter (λ d. q d.txn) (filter_map doubt_of (r ∷ rs)) ≡ cond (q r.txn) (said.doubt ∷ filter (λ d. q d.txn) (filter_map doubt_of rs)) (filter (λ d. q d.txn) (filter_map doubt_of rs)) =
      ap (λ (o : Option LoggedDoubt). filter (λ (d : LoggedDoubt). q d.txn) (cons_option o (filter_map doubt_of rs))) said.is
      ∙ ap (λ (t : ℕ). cond (q t) (said.doubt ∷ filter (λ (d : LoggedDoubt). q d.txn) (filter_map doubt_of rs)) (filter (λ (d : LoggedDoubt). q d.txn) (filter_map doubt_of rs))) said.txn in
      passes_or_not (q r.txn)
      (λ within.
      ap (λ (x : LogRecord). cons_option (doubt_of x) (filter_map doubt_of (quieted rs))) (stays r (λ _. within))
      ∙ (λ i. cons_option (said.is i) (doubts_quiet rs i))
      ∙ sym (ap (λ (b : Bool). cond b (said.doubt ∷ filter (λ (d : LoggedDoubt). q d.txn) (filter_map doubt_of rs)) (filter (λ (d : LoggedDoubt). q d.txn) (filter_map doubt_of rs))) within) ∙ sym whole)
      (λ out.
      ap (λ (x : LogRecord). cons_option (doubt_of x) (filter_map doubt_of (quieted rs))) (goes r is out) ∙ doubts_quiet rs
      ∙ sym (ap (λ (b : Bool). cond b (said.doubt ∷ filter (λ (d : LoggedDoubt). q d.txn) (filter_map doubt_of rs)) (filter (λ (d : LoggedDoubt). q d.txn) (filter_map doubt_of rs))) out) ∙ sym whole))
      (λ isnt.
      ap (λ (x : LogRecord). cons_option (doubt_of x) (filter_map doubt_of (quieted rs))) (stays r (λ is. absurd (true≢false (sym is ∙ isnt))))
      ∙ (λ i. cons_option (none_by r.txn r.payload isnt i) (doubts_quiet rs i))
      ∙ sym (ap (λ (o : Option LoggedDoubt). filter (λ (d : LoggedDoubt). q d.txn) (cons_option o (filter_map doubt_of rs))) (none_by r.txn r.payload isnt)))

  -- ---- of one that passes

  module _ (t : ℕ) (passes : q t ≡ true) where
    abbrev its : ℕ × LogRecord → Bool
    its r = (r.1.txn == t) && is_prepare r.1.payload

    -- a record that its Prepares are counted by is not quiet
    same_test : (k : ℕ) (r : LogRecord) → (quiet r ≡ r) ⊎ ((its (k, quiet r) ≡ false) × (its (k, r) ≡ false))
    same_test k r = passes_or_not (is_prepare r.payload)
        (λ is. passes_or_not (q r.txn) (λ within. inl (stays r (λ _. within))) (λ out. inr (
          ap (λ (x : LogRecord). (x.txn == t) && is_prepare x.payload) (goes r is out) ∙ never (0 == t),
          ap (λ (b : Bool). b && is_prepare r.payload) (other r out),
        )))
        (λ isnt. inl (stays r (λ is. absurd (true≢false (sym is ∙ isnt)))))
      where
        never : (b : Bool) → (b && false) ≡ false
        never true = refl
        never false = refl

        other : (r : LogRecord) → q r.txn ≡ false → (r.txn == t) ≡ false
        other r out = passes_or_not (r.txn == t) (λ own. absurd (true≢false (sym passes ∙ sym (ap q (eqb-true r.txn t own)) ∙ out))) (λ off. off)

    picked_quiet : (k : ℕ) (rs : List LogRecord) → filter its (enumerate_from k (quieted rs)) ≡ filter its (enumerate_from k rs)
    picked_quiet k [] = refl
    picked_quiet k (r ∷ rs) = ⊎_elim
        (λ same. (λ i. cond (its (k, same i)) ((k, same i) ∷ picked_quiet (k + 1) rs i) (picked_quiet (k + 1) rs i)))
        (λ none.
        ap (λ (b : Bool). cond b ((k, quiet r) ∷ filter its (enumerate_from (k + 1) (quieted rs))) (filter its (enumerate_from (k + 1) (quieted rs)))) none.0 ∙ picked_quiet (k + 1) rs
        ∙ sym (ap (λ (b : Bool). cond b ((k, r) ∷ filter its (enumerate_from (k + 1) rs)) (filter its (enumerate_from (k + 1) rs))) none.1))
        (same_test k r)

    pub number_quiet : (log : List LogRecord) → prepare_number t (quieted log) ≡ prepare_number t log
    number_quiet log = ap first_number (picked_quiet 1 log)

    told_quiet : (log : List LogRecord) → 0 < prepare_number t log → told (quieted log) t ≡ told log t
    told_quiet log some =
        let n = prepare_number t log in
        let one = prepare_is t log some in
        let kept : quiet one.found ≡ one.found = stays one.found (λ is. ap q one.own ∙ passes) in
        let here : slice_get (quieted log) (n - 1) ≡ Some one.found = slice_get-map quiet log (n - 1) ∙ ap (option_map quiet) one.here ∙ ap (λ (x : LogRecord). Some x) kept in
        ap (doubt_at (quieted log)) (number_quiet log) ∙ doubt_there (quieted log) n one.found some here ∙ sym (doubt_there log n one.found some one.here)

  -- a Prepare that is left was there
  has_quiet : (t : ℕ) (rs : List LogRecord) → has is_prepare t rs ≡ false → has is_prepare t (quieted rs) ≡ false
  has_quiet t [] none = refl
  has_quiet t (r ∷ rs) none =
      let parts = both_false ((r.txn == t) && is_prepare r.payload) (has is_prepare t rs) none in
      passes_or_not (is_prepare r.payload)
      (λ is. passes_or_not (q r.txn)
      (λ within. (λ i. ap (λ (x : LogRecord). (x.txn == t) && is_prepare x.payload) (stays r (λ _. within)) i || has_quiet t rs parts.1 i) ∙ (λ i. parts.0 i || false))
      (λ out. (λ i. ap (λ (x : LogRecord). (x.txn == t) && is_prepare x.payload) (goes r is out) i || has_quiet t rs parts.1 i) ∙ off (0 == t)))
      (λ isnt. (λ i. ap (λ (x : LogRecord). (x.txn == t) && is_prepare x.payload) (stays r (λ is. absurd (true≢false (sym is ∙ isnt)))) i || has_quiet t rs parts.1 i) ∙ (λ i. parts.0 i || false))
    where
      both_false : (a b : Bool) → (a || b) ≡ false → (a ≡ false) × (b ≡ false)
      both_false false b h = (refl, h)
      both_false true b h = absurd (true≢false h)

      off : (b : Bool) → ((b && false) || false) ≡ false
      off true = refl
      off false = refl

  -- ---- so where each that passes has one Prepare

  abbrev pub PassingOnce : List LogRecord → Type 0
  PassingOnce log = (n : ℕ) (r : LogRecord) → slice_get log n ≡ Some r → q r.txn ≡ true → is_prepare r.payload ≡ true → has is_prepare r.txn (take n log) ≡ false

  quiet_once : (log : List LogRecord) → PassingOnce log → PrepareOnce (quieted log)
  quiet_once log once n x at is = by (slice_get log n) refl
    where
      whole : option_map quiet (slice_get log n) ≡ Some x
      whole = sym (slice_get-map quiet log n) ∙ at

      by : (o : Option LogRecord) → slice_get log n ≡ o → has is_prepare x.txn (take n (quieted log)) ≡ false
      by None none = let clash : ◌≡◌ {A = Option LogRecord} None (Some x) = ap (option_map quiet) (sym none) ∙ whole in cc
      by (Some r) here =
          let same : quiet r ≡ x = unwrap (quiet r) x (ap (option_map quiet) (sym here) ∙ whole) in
          passes_or_not (is_prepare r.payload)
          (λ prepares. passes_or_not (q r.txn)
          (λ within.
          let own : r ≡ x = sym (stays r (λ _. within)) ∙ same in
          subst (λ (y : LogRecord). has is_prepare y.txn (take n (quieted log)) ≡ false) own
          (ap (has is_prepare r.txn) (sym (map-take quiet n log)) ∙ has_quiet r.txn (take n log) (once n r here within prepares)))
          (λ out. absurd (true≢false (sym is ∙ sym (ap (λ (y : LogRecord). is_prepare y.payload) (sym (goes r prepares out) ∙ same))))))
          (λ isnt. absurd (true≢false (sym is ∙ sym (ap (λ (y : LogRecord). is_prepare y.payload) (sym (stays r (λ p. absurd (true≢false (sym p ∙ isnt)))) ∙ same)) ∙ isnt)))
        where
          unwrap : (a b : LogRecord) → Some a ≡ Some b → a ≡ b
          unwrap a b is = cc

  same_numbers : (log : List LogRecord) (ts : List ℕ) → map (λ t. prepare_number t (quieted log)) (filter q ts) ≡ map (λ t. prepare_number t log) (filter q ts)
  same_numbers log [] = refl
  same_numbers log (t ∷ ts) = passes_or_not (q t)
      (λ within.
      ap (λ (b : Bool). map (λ u. prepare_number u (quieted log)) (cond b (t ∷ filter q ts) (filter q ts))) within ∙ (λ i. number_quiet t within log i ∷ same_numbers log ts i)
      ∙ sym (ap (λ (b : Bool). map (λ u. prepare_number u log) (cond b (t ∷ filter q ts) (filter q ts))) within))
      (λ out.
      ap (λ (b : Bool). map (λ u. prepare_number u (quieted log)) (cond b (t ∷ filter q ts) (filter q ts))) out ∙ same_numbers log ts
      ∙ sym (ap (λ (b : Bool). map (λ u. prepare_number u log) (cond b (t ∷ filter q ts) (filter q ts))) out))

  -- .. their Prepares rise
  pub passing_rise : (log : List LogRecord) → PassingOnce log → Rises (map (λ t. prepare_number t log) (filter q (prepares log)))
  passing_rise log once =
      subst Rises (ap (map (λ t. prepare_number t (quieted log))) (prepares_quiet log) ∙ same_numbers log (prepares log)) (once_rise (quieted log) (quiet_once log once)).rise

  same_told : (log : List LogRecord) (ts : List ℕ) → AllByRecursion (λ t. 0 < prepare_number t (quieted log)) (filter q ts) → map (told (quieted log)) (filter q ts) ≡ map (told log) (filter q ts)
  same_told log [] some = refl
  same_told log (t ∷ ts) some = passes_or_not (q t)
      (λ within.
      let cut : AllByRecursion (λ u. 0 < prepare_number u (quieted log)) (t ∷ filter q ts) = subst (λ (b : Bool). AllByRecursion (λ u. 0 < prepare_number u (quieted log)) (cond b (t ∷ filter q ts) (filter q ts))) within some in
      ap (λ (b : Bool). map (told (quieted log)) (cond b (t ∷ filter q ts) (filter q ts))) within
      ∙ (λ i. told_quiet t within log (subst (λ (n : ℕ). 0 < n) (number_quiet t within log) cut.0) i ∷ same_told log ts cut.1 i)
      ∙ sym (ap (λ (b : Bool). map (told log) (cond b (t ∷ filter q ts) (filter q ts))) within))
      (λ out.
      let cut : AllByRecursion (λ u. 0 < prepare_number u (quieted log)) (filter q ts) = subst (λ (b : Bool). AllByRecursion (λ u. 0 < prepare_number u (quieted log)) (cond b (t ∷ filter q ts) (filter q ts))) out some in
      ap (λ (b : Bool). map (told (quieted log)) (cond b (t ∷ filter q ts) (filter q ts))) out ∙ same_told log ts cut
      ∙ sym (ap (λ (b : Bool). map (told log) (cond b (t ∷ filter q ts) (filter q ts))) out))

  -- .. and say what is told under their numbers
  pub passing_told : (log : List LogRecord) → PassingOnce log
      → map (told log) (filter q (prepares log)) ≡ map some_doubt (filter (λ d. q d.txn) (filter_map doubt_of log))
  passing_told log once =
      let one = quiet_once log once in
      let some = subst (AllByRecursion (λ t. 0 < prepare_number t (quieted log))) (prepares_quiet log) (once_rise (quieted log) one).some in
      sym (same_told log (prepares log) some) ∙ ap (map (told (quieted log))) (sym (prepares_quiet log)) ∙ sym (are_told (quieted log) one) ∙ ap (map some_doubt) (doubts_quiet log)

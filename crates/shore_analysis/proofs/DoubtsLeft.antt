-- Those in doubt that have not ended, by records of which the front may be cut off: each is whole in what is kept, has one Prepare, and is listed.
use Rattle.std.proofs.Common.{◌≡◌, ⊎_elim, ◌⊎◌, inl, inr, ◌<◌, ◌-◌, ◌+◌, ℕ, zero, suc, List, [], ◌∷◌, Bool, true, false, cond, Option, None, Some, map, refl, sym, ap, subst, ◌∙◌, take, arith}
use Rattle.std.specs.Prelude.{◌==◌, ◌&&◌, filter, not, slice_get}
use Rattle.std.proofs.lemmas.Bool.{eqb-true, ltb-true, true≢false}
use Rattle.shore_types.specs.declared.layout.Geometry.{Geometry}
use Rattle.shore_model.specs.declared.log_records.LogRecord.{LogRecord}
use Rattle.shore_model.specs.declared.log_records.Payload.{Payload}
use Rattle.shore_model.specs.declared.log_records.Payload.TheVariants.{Change, Compensation, Commit, End, Prepare, RollbackDecided, CheckpointBegin, CheckpointEnd, Anchor}
use Rattle.shore_model.specs.Logs.{has, is_in_doubt, is_over, is_prepare, last_of, prepare_number}
use Rattle.laws_lives.specs.Doubts.{LoggedDoubt, doubt_by, doubt_of}
use Rattle.std.specs.List.{cons_option, filter_map}
use Rattle.laws_lives.proofs.Booleans.{and_true}
use Rattle.laws_checkpoints.specs.KeptLogs.{IsKeptUnended}
use Rattle.laws_checkpoints.proofs.Kept.{has_at, its}
use Rattle.laws_checkpoints.proofs.Numbers.{first_is, last_low, some_filtered}
use Rattle.shore_analysis.specs.Doubts.{doubt_at, doubts_left}
use Rattle.shore_analysis.specs.KeptMeant.{AreMeantKept, IsWholeIn, SaysOfCheckpoint}
use Rattle.shore_analysis.specs.Meant.{AreMeantOf}
use Rattle.shore_analysis.specs.Padded.{padded}
use Rattle.shore_analysis.proofs.InOrder.{Rises, prepares}
use Rattle.shore_analysis.proofs.KeptEnded.{unended_whole}
use Rattle.shore_analysis.proofs.KeptUndone.{meant_of_whole}
use Rattle.shore_analysis.proofs.MeantLogs.{in_doubt_prepared}
use Rattle.shore_analysis.proofs.OneMore.{prepare_known}
use Rattle.shore_analysis.proofs.Padding.{get_blank, get_padded, last_padded, over_padded}
use Rattle.shore_analysis.proofs.Phases.{IsUndecided, prepare_free}
use Rattle.shore_analysis.proofs.QuietPrepares.{passing_rise, passing_told}

-- in doubt, and not ended
abbrev pub is_left : List LogRecord → ℕ → Bool
is_left log t = is_in_doubt t log && not (is_over t log)

not_false : (b : Bool) → not b ≡ true → b ≡ false
not_false false h = refl
not_false true h = absurd (true≢false (sym h))

pub left_is : (log : List LogRecord) (t : ℕ) → is_left log t ≡ true → (is_in_doubt t log ≡ true) × (is_over t log ≡ false)
left_is log t left = let both = and_true (is_in_doubt t log) (not (is_over t log)) left in (both.0, not_false (is_over t log) both.1)

pub is_left_by : (log : List LogRecord) (t : ℕ) → is_in_doubt t log ≡ true → is_over t log ≡ false → is_left log t ≡ true
is_left_by log t doubts runs = λ i. doubts i && not (runs i)

-- the list picks just those
twice : {A : Type 0} (p q : A → Bool) (xs : List A) → filter q (filter p xs) ≡ filter (λ x. p x && q x) xs
twice p q [] = refl
twice p q (x ∷ xs) = by (p x) (twice p q xs)
  where
    by : (a : Bool) → filter q (filter p xs) ≡ filter (λ x. p x && q x) xs → filter q (cond a (x ∷ filter p xs) (filter p xs)) ≡ cond (a && q x) (x ∷ filter (λ x. p x && q x) xs) (filter (λ x. p x && q x) xs)
    by true rest = ap (λ ys. cond (q x) (x ∷ ys) ys) rest
    by false rest = rest

pub left_list : (rs : List LogRecord) → doubts_left rs ≡ filter (λ d. is_left rs d.txn) (filter_map doubt_of rs)
left_list rs = twice (λ (d : LoggedDoubt). is_in_doubt d.txn rs) (λ (d : LoggedDoubt). not (is_over d.txn rs)) (filter_map doubt_of rs)

-- their transactions, in the order of the Prepares
pub left_txns : (rs : List LogRecord) → filter (is_left rs) (prepares rs) ≡ map (λ d. d.txn) (doubts_left rs)
left_txns rs = txns_of rs ∙ ap (map (λ (d : LoggedDoubt). d.txn)) (sym (left_list rs))
  where
    by_said : (q : ℕ → Bool) (r : LogRecord) (xs : List ℕ) (ds : List LoggedDoubt) (p : Payload) → r.payload ≡ p → filter q xs ≡ map (λ d. d.txn) (filter (λ d. q d.txn) ds)
        → filter q (cons_option (cond (is_prepare p) (Some r.txn) None) xs) ≡ map (λ d. d.txn) (filter (λ d. q d.txn) (cons_option (doubt_by r.txn p) ds))
    by_said q r xs ds (Prepare global granules) is rest = one (q r.txn)
      where
        one : (b : Bool) → cond b (r.txn ∷ filter q xs) (filter q xs) ≡ map (λ (d : LoggedDoubt). d.txn) (cond b (record { txn = r.txn; global = global; granules = granules } ∷ filter (λ (d : LoggedDoubt). q d.txn) ds) (filter (λ (d : LoggedDoubt). q d.txn) ds))
        one true = ap (λ ts. r.txn ∷ ts) rest
        one false = rest
    by_said q r xs ds (Change id was image) is rest = rest
    by_said q r xs ds (Compensation id image undo_next) is rest = rest
    by_said q r xs ds Commit is rest = rest
    by_said q r xs ds End is rest = rest
    by_said q r xs ds RollbackDecided is rest = rest
    by_said q r xs ds CheckpointBegin is rest = rest
    by_said q r xs ds (CheckpointEnd begin next txns dirty) is rest = rest
    by_said q r xs ds (Anchor checkpoint tail) is rest = rest

    all : (q : ℕ → Bool) (xs : List LogRecord) → filter q (prepares xs) ≡ map (λ d. d.txn) (filter (λ d. q d.txn) (filter_map doubt_of xs))
    all q [] = refl
    all q (r ∷ xs) = by_said q r (prepares xs) (filter_map doubt_of xs) r.payload refl (all q xs)

    txns_of : (rs : List LogRecord) → filter (is_left rs) (prepares rs) ≡ map (λ d. d.txn) (filter (λ d. is_left rs d.txn) (filter_map doubt_of rs))
    txns_of rs = all (is_left rs) rs

module _ (g : Geometry) (cut : ℕ) (kept : List LogRecord) (meant : AreMeantKept g cut kept) where
  abbrev log : List LogRecord
  log = padded cut kept

  plain : (before : List LogRecord) (p : Payload) → SaysOfCheckpoint cut before p → is_prepare p ≡ false
  plain before CheckpointBegin says = refl
  plain before (CheckpointEnd begin next txns dirty) says = refl
  plain before (Anchor checkpoint tail) says = refl
  plain before (Change id was image) says = absurd says
  plain before (Compensation id image undo_next) says = absurd says
  plain before Commit says = absurd says
  plain before End says = absurd says
  plain before (Prepare global granules) says = absurd says
  plain before RollbackDecided says = absurd says

  -- the record that a transaction's Prepare is counted by
  pub record PreparedBy (t : ℕ) : Type 0 where
    pub found : LogRecord
    pub here : slice_get log (prepare_number t log - 1) ≡ Some found
    pub own : found.txn ≡ t
    pub is : is_prepare found.payload ≡ true

  pub prepared_by : (t : ℕ) → is_in_doubt t log ≡ true → PreparedBy t
  prepared_by t doubts =
      let some = ltb-true 0 (prepare_number t log) (prepare_known t log ∙ in_doubt_prepared t log doubts) in
      let h = first_is (λ r. (r.1.txn == t) && is_prepare r.1.payload) 1 log some in
      let both = and_true (h.found.txn == t) (is_prepare h.found.payload) h.passes in
      record { found = h.found; here = h.here; own = eqb-true h.found.txn t both.0; is = both.1 }

  above : (n : ℕ) → (n ≡ 0 → ⊥) → 0 < n
  above zero h = absurd (h refl)
  above (suc n) h = omega arith

  cut_or_kept : (a b : ℕ) → (a < b) ⊎ ((k : ℕ) × (b + k ≡ a))
  cut_or_kept zero zero = inr (0, omega arith)
  cut_or_kept zero (suc b) = inl (omega arith)
  cut_or_kept (suc a) zero = inr (suc a, omega arith)
  cut_or_kept (suc a) (suc b) = ⊎_elim (λ lt. inl (omega (arith, lt))) (λ k. inr (k.0, let is = k.1 in omega (arith, is))) (cut_or_kept a b)

  -- a Prepare is of a transaction
  of_one : (n : ℕ) (r : LogRecord) → slice_get log n ≡ Some r → is_prepare r.payload ≡ true → 0 < r.txn
  of_one n r at is = above r.txn (λ none. ⊎_elim
      (λ off. let same : Some blank_of ≡ Some r = sym (get_blank cut n kept off) ∙ at in absurd (true≢false (sym is ∙ sym (ap is_prepare_in same))))
      (λ k.
      let here : slice_get kept k.0 ≡ Some r = sym (get_padded cut k.0 kept) ∙ ap (slice_get log) k.1 ∙ at in
      absurd (true≢false (sym is ∙ plain (take k.0 kept) r.payload ((meant k.0 r here).now.of_nobody none).1)))
      (cut_or_kept n cut))
    where
      blank_of : LogRecord
      blank_of = record { txn = 0; previous = 0; payload = CheckpointBegin }

      is_prepare_in : Option LogRecord → Bool
      is_prepare_in None = false
      is_prepare_in (Some x) = is_prepare x.payload

  -- one that is left is a transaction that has a record and has not ended
  pub left_runs : (t : ℕ) → is_left log t ≡ true → IsUndecided log t
  left_runs t left =
      let is = left_is log t left in
      let p = prepared_by t is.0 in
      let some = of_one (prepare_number t log - 1) p.found p.here p.is in
      let low = last_low (its p.found.txn) 1 log (some_filtered p.found.txn 1 log (has_at log (prepare_number t log - 1) p.found p.here)) in
      let known : 0 < last_of p.found.txn log = omega (arith, low) in
      record { some = subst (λ u. 0 < u) p.own some; known = subst (λ u. 0 < last_of u log) p.own known; runs = is.1 }

  -- .. and whole in what is kept
  pub left_unended : (t : ℕ) → is_left log t ≡ true → IsKeptUnended cut kept t
  left_unended t left =
      let u = left_runs t left in
      record { is_one = u.some; known = subst (λ n. 0 < n) (last_padded t u.some cut kept) u.known; not_over = sym (over_padded t u.some cut kept) ∙ u.runs }

  pub left_whole : (t : ℕ) → is_left log t ≡ true → IsWholeIn cut kept t
  left_whole t left = unended_whole g cut kept meant t (left_unended t left)

  pub left_meant : (t : ℕ) → is_left log t ≡ true → AreMeantOf g t log
  left_meant t left = meant_of_whole g cut kept meant t (left_runs t left).some (left_whole t left)

  -- .. and has one Prepare
  pub left_once : (n : ℕ) (r : LogRecord) → slice_get log n ≡ Some r → is_left log r.txn ≡ true → is_prepare r.payload ≡ true → has is_prepare r.txn (take n log) ≡ false
  left_once n r at left is = prepare_free g (take n log) r.txn r.payload is (left_meant r.txn left n r at refl).says

  pub left_rise : Rises (map (λ t. prepare_number t log) (filter (is_left log) (prepares log)))
  left_rise = passing_rise (is_left log) log left_once

  pub left_told : map (λ t. doubt_at log (prepare_number t log)) (filter (is_left log) (prepares log)) ≡ map (λ d. Some d) (doubts_left log)
  left_told = passing_told (is_left log) log left_once ∙ ap (map (λ (d : LoggedDoubt). Some d)) (sym (left_list log))

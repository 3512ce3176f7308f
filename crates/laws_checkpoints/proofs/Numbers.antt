-- The numbers of records: the least and the greatest of some, and those of the unanswered Changes.
use Rattle.std.proofs.Common.{◌≡◌, ◌⊎◌, inl, inr, ⊎_elim, ◌<◌, ◌≤◌, ◌+◌, ◌-◌, ℕ, zero, suc, List, [], ◌∷◌, ◌++◌, Bool, true, false, cond, Some, refl, sym, ap, subst, ◌∙◌, length, drop, arith}
use Rattle.std.specs.Prelude.{◌==◌, ◌||◌, filter, reverse, slice_get}
use Rattle.std.specs.List.{enumerate_from}
use Rattle.std.proofs.lemmas.Bool.{eq-eqb}
use Rattle.std.proofs.lemmas.List.{length-reverse, reverse-append}
use Rattle.shore_types.specs.Images.{Image}
use Rattle.shore_types.specs.declared.ids.Rid.{Rid}
use Rattle.shore_model.specs.declared.log_records.LogRecord.{LogRecord}
use Rattle.shore_model.specs.declared.log_records.Payload.{Payload}
use Rattle.shore_model.specs.declared.log_records.Payload.TheVariants.{Change, Compensation, Commit, End, Prepare, RollbackDecided, CheckpointBegin, CheckpointEnd, Anchor}
use Rattle.shore_model.specs.declared.unanswered_changes.UnansweredChange.{UnansweredChange}
use Rattle.shore_model.specs.Logs.{answered_by, first_number, unanswered_in, undo_next_of}
use Rattle.laws_lives.specs.Views.{IsAmong}
use Rattle.laws_lives.proofs.DoubtRecords.{among_filter}
use Rattle.laws_lives.proofs.Lists.{among_append}
use Rattle.laws_checkpoints.specs.KeptLogs.{has_record}
use Rattle.laws_checkpoints.proofs.Kept.{its}

-- ---- a number among those that pass

-- the number is one of the list's records, numbered from n on, and it passes
pub record IsNumberOf (f : ℕ × LogRecord → Bool) (n : ℕ) (xs : List LogRecord) (m : ℕ) : Type 0 where
  pub found : LogRecord
  pub low : n ≤ m
  pub here : slice_get xs (m - n) ≡ Some found
  pub passes : f (m, found) ≡ true

among_numbered : (n : ℕ) (xs : List LogRecord) (e : ℕ × LogRecord) → IsAmong e (enumerate_from n xs) → (n ≤ e.0) × (slice_get xs (e.0 - n) ≡ Some e.1)
among_numbered n [] e = λ h. absurd h
among_numbered n (x ∷ xs) e = λ h. ⊎_elim
    (λ here.
    let number : n ≡ e.0 = ap (λ (p : ℕ × LogRecord). p.0) here in
    let at : e.0 - n ≡ 0 = omega arith in
    (omega arith, ap (slice_get (x ∷ xs)) at ∙ ap (λ (p : ℕ × LogRecord). Some p.1) here))
    (λ later.
    let rest = among_numbered (n + 1) xs e later in
    let low = rest.0 in
    let at : e.0 - n ≡ suc (e.0 - (n + 1)) = omega arith in
    (omega arith, ap (slice_get (x ∷ xs)) at ∙ rest.1)) h

pub number_among : (f : ℕ × LogRecord → Bool) (n : ℕ) (xs : List LogRecord) (e : ℕ × LogRecord) → IsAmong e (filter f (enumerate_from n xs)) → IsNumberOf f n xs e.0
number_among f n xs e h =
    let parts = among_filter f e (enumerate_from n xs) h in
    let at = among_numbered n xs e parts.0 in
    record { found = e.1; low = at.0; here = at.1; passes = parts.1 }

among_reverse : {A : Type 0} (x : A) (xs : List A) → IsAmong x (reverse xs) → IsAmong x xs
among_reverse x [] = λ h. absurd h
among_reverse x (y ∷ ys) = λ h. ⊎_elim
    (λ front. inr (among_reverse x ys front))
    (λ last. ⊎_elim (λ same. inl same) (λ none. absurd none) last)
    (among_append x (reverse ys) (y ∷ []) (subst (IsAmong x) (reverse-append (y ∷ []) ys) h))

first_among : (es : List (ℕ × LogRecord)) → (es ≡ []) ⊎ ((e : ℕ × LogRecord) × IsAmong e es × (first_number es ≡ e.0))
first_among [] = inl refl
first_among (e ∷ es) = inr (e, inl refl, refl)

module _ (f : ℕ × LogRecord → Bool) (n : ℕ) (xs : List LogRecord) where
  pub first_is : 0 < first_number (filter f (enumerate_from n xs)) → IsNumberOf f n xs (first_number (filter f (enumerate_from n xs)))
  first_is some = ⊎_elim
      (λ none. absurd (let zero : first_number (filter f (enumerate_from n xs)) ≡ 0 = ap first_number none in omega arith))
      (λ e. subst (IsNumberOf f n xs) (sym e.2) (number_among f n xs e.0 e.1))
      (first_among (filter f (enumerate_from n xs)))

  pub last_is : 0 < first_number (reverse (filter f (enumerate_from n xs))) → IsNumberOf f n xs (first_number (reverse (filter f (enumerate_from n xs))))
  last_is some = ⊎_elim
      (λ none. absurd (let zero : first_number (reverse (filter f (enumerate_from n xs))) ≡ 0 = ap first_number none in omega arith))
      (λ e. subst (IsNumberOf f n xs) (sym e.2) (number_among f n xs e.0 (among_reverse e.0 (filter f (enumerate_from n xs)) e.1)))
      (first_among (reverse (filter f (enumerate_from n xs))))

  -- where one passes, the least and the greatest number are not below the first one
  module _ (some : filter f (enumerate_from n xs) ≡ [] → ⊥) where
    pub first_low : n ≤ first_number (filter f (enumerate_from n xs))
    first_low = ⊎_elim
        (λ none. absurd (some none))
        (λ e. let low = (number_among f n xs e.0 e.1).low in let is = e.2 in omega arith)
        (first_among (filter f (enumerate_from n xs)))

    pub last_low : n ≤ first_number (reverse (filter f (enumerate_from n xs)))
    last_low = ⊎_elim
        (λ none. absurd (some (turned_none (filter f (enumerate_from n xs)) none)))
        (λ e. let low = (number_among f n xs e.0 (among_reverse e.0 (filter f (enumerate_from n xs)) e.1)).low in let is = e.2 in omega arith)
        (first_among (reverse (filter f (enumerate_from n xs))))
      where
        turned_none : (es : List (ℕ × LogRecord)) → reverse es ≡ [] → es ≡ []
        turned_none [] h = refl
        turned_none (e ∷ es) h = absurd (let long : length (reverse (e ∷ es)) ≡ 0 = ap length h in omega (arith, long, length-reverse (e ∷ es)))

pub some_filtered : (t n : ℕ) (xs : List LogRecord) → has_record t xs ≡ true → filter (its t) (enumerate_from n xs) ≡ [] → ⊥
some_filtered t n [] h none = cc
some_filtered t n (x ∷ xs) h none =
    elim (x.txn == t) as (λ b. (b || has_record t xs) ≡ true → cond b ((n, x) ∷ filter (its t) (enumerate_from (n + 1) xs)) (filter (its t) (enumerate_from (n + 1) xs)) ≡ [] → ⊥) [
      | true ↦ λ own empty. cc
      | false ↦ λ later empty. some_filtered t (n + 1) xs later empty
    ] h none

-- the last of some records is among them, or that of those before is
pub last_in : (front back : List (ℕ × LogRecord)) → (first_number (reverse (front ++ back)) ≡ first_number (reverse back)) ⊎ (back ≡ [])
last_in front [] = inr refl
last_in front (e ∷ es) = inl (ap first_number (reverse-append front (e ∷ es)) ∙ behind (reverse (e ∷ es)) (reverse front) some)
  where
    some : reverse (e ∷ es) ≡ [] → ⊥
    some h = let l : length (reverse (e ∷ es)) ≡ 0 = ap length h in omega (arith, l, length-reverse (e ∷ es))

    behind : (xs ys : List (ℕ × LogRecord)) → (xs ≡ [] → ⊥) → first_number (xs ++ ys) ≡ first_number xs
    behind [] ys h = absurd (h refl)
    behind (x ∷ xs) ys h = refl

-- a transaction's first record is none behind any of its
pub first_at_most : (t n : ℕ) (rs : List LogRecord) (k : ℕ) (r : LogRecord) → slice_get rs k ≡ Some r → r.txn ≡ t → first_number (filter (its t) (enumerate_from n rs)) ≤ n + k
first_at_most t n [] k r here own = cc
first_at_most t n (x ∷ rs) zero r here own =
    let same : x ≡ r = cc in
    let yes : (x.txn == t) ≡ true = eq-eqb x.txn t (ap (λ y. y.txn) same ∙ own) in
    let e : first_number (filter (its t) (enumerate_from n (x ∷ rs))) ≡ n = ap (λ b. first_number (cond b ((n, x) ∷ filter (its t) (enumerate_from (n + 1) rs)) (filter (its t) (enumerate_from (n + 1) rs)))) yes in
    omega arith
first_at_most t n (x ∷ rs) (suc k) r here own =
    let rest = first_at_most t (n + 1) rs k r here own in
    elim (x.txn == t) as (λ b. first_number (cond b ((n, x) ∷ filter (its t) (enumerate_from (n + 1) rs)) (filter (its t) (enumerate_from (n + 1) rs))) ≤ n + suc k) [
      | true ↦ omega arith
      | false ↦ omega arith
    ]

-- ---- unanswered Changes

-- it is one of these records
pub record IsChangeAmong (es : List (ℕ × LogRecord)) (c : UnansweredChange) : Type 0 where
  pub found : LogRecord
  pub among : IsAmong (c.number, found) es
  pub after : Image
  pub says : found.payload ≡ Change c.id c.before after

change_later : (e : ℕ × LogRecord) (es : List (ℕ × LogRecord)) (c : UnansweredChange) → IsChangeAmong es c → IsChangeAmong (e ∷ es) c
change_later e es c h = record { found = h.found; among = inr h.among; after = h.after; says = h.says }

drop_one : (c : UnansweredChange) (us : List UnansweredChange) → IsAmong c (drop 1 us) → IsAmong c us
drop_one c [] = λ h. absurd h
drop_one c (u ∷ us) = λ h. inr h

change_one : (n : ℕ) (r : LogRecord) (es : List (ℕ × LogRecord)) (p : Payload) → r.payload ≡ p → ((c : UnansweredChange) → IsAmong c (unanswered_in es) → IsChangeAmong es c)
    → (c : UnansweredChange) → IsAmong c (answered_by n p (unanswered_in es)) → IsChangeAmong ((n, r) ∷ es) c
change_one n r es (Change id before image) says older c h = ⊎_elim
    (λ here.
    let same : (n, r) ≡ (c.number, r) = ap (λ (d : UnansweredChange). (d.number, r)) here in
    record { found = r; among = inl same; after = image; says = says ∙ ap (λ (d : UnansweredChange). Change d.id d.before image) here })
    (λ later. change_later (n, r) es c (older c later)) h
change_one n r es (Compensation id image undo_next) says older c h = change_later (n, r) es c (older c (drop_one c (unanswered_in es) h))
change_one n r es Commit says older c h = change_later (n, r) es c (older c h)
change_one n r es End says older c h = change_later (n, r) es c (older c h)
change_one n r es (Prepare global granules) says older c h = change_later (n, r) es c (older c h)
change_one n r es RollbackDecided says older c h = change_later (n, r) es c (older c h)
change_one n r es CheckpointBegin says older c h = change_later (n, r) es c (older c h)
change_one n r es (CheckpointEnd begin next txns dirty) says older c h = change_later (n, r) es c (older c h)
change_one n r es (Anchor checkpoint tail) says older c h = change_later (n, r) es c (older c h)

change_among : (es : List (ℕ × LogRecord)) (c : UnansweredChange) → IsAmong c (unanswered_in es) → IsChangeAmong es c
change_among [] c = λ h. absurd h
change_among (e ∷ es) c = λ h. change_one e.0 e.1 es e.1.payload refl (change_among es) c h

newest_is : (us : List UnansweredChange) → (undo_next_of us ≡ 0) ⊎ ((c : UnansweredChange) × IsAmong c us × (undo_next_of us ≡ c.number))
newest_is [] = inl refl
newest_is (c ∷ us) = inr (c, inl refl, refl)

-- the number is one of the list's records, numbered from n on, which passes and is a Change
pub record IsChangeNumber (f : ℕ × LogRecord → Bool) (n : ℕ) (xs : List LogRecord) (m : ℕ) : Type 0 where
  pub found : LogRecord
  pub low : n ≤ m
  pub here : slice_get xs (m - n) ≡ Some found
  pub passes : f (m, found) ≡ true
  pub id : Rid
  pub was : Image
  pub image : Image
  pub says : found.payload ≡ Change id was image

change_number : (f : ℕ × LogRecord → Bool) (n : ℕ) (xs : List LogRecord) (c : UnansweredChange) → IsChangeAmong (reverse (filter f (enumerate_from n xs))) c → IsChangeNumber f n xs c.number
change_number f n xs c change =
    let parts = among_filter f (c.number, change.found) (enumerate_from n xs) (among_reverse (c.number, change.found) (filter f (enumerate_from n xs)) change.among) in
    let at = among_numbered n xs (c.number, change.found) parts.0 in
    record { found = change.found; low = at.0; here = at.1; passes = parts.1; id = c.id; was = c.before; image = change.after; says = change.says }

-- the Change to be undone next stands among the records at its number
pub undo_next_is : (f : ℕ × LogRecord → Bool) (n : ℕ) (xs : List LogRecord) → 0 < undo_next_of (unanswered_in (reverse (filter f (enumerate_from n xs))))
    → IsChangeNumber f n xs (undo_next_of (unanswered_in (reverse (filter f (enumerate_from n xs)))))
undo_next_is f n xs some = ⊎_elim
    (λ none. absurd (omega (arith, none)))
    (λ c. subst (IsChangeNumber f n xs) (sym c.2) (change_number f n xs c.0 (change_among (reverse (filter f (enumerate_from n xs))) c.0 c.1)))
    (newest_is (unanswered_in (reverse (filter f (enumerate_from n xs)))))

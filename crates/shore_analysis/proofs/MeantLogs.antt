-- What is so in every log whose records mean what they have to.
use Rattle.std.proofs.Common.{◌≡◌, ◌≢◌, ⊎_elim, ◌⊎◌, inl, inr, ◌+◌, ◌-◌, ◌<◌, ◌≤◌, ℕ, zero, suc, List, [], ◌∷◌, ◌++◌, Bool, true, false, Option, Some, None, refl, sym, ap, subst, ◌∙◌, length, take, drop, take_all, arith}
use Rattle.std.specs.Prelude.{◌==◌, ◌&&◌, not, slice_get, All, IsSomeAnd}
use Rattle.std.proofs.lemmas.List.{take-append-le}
use Rattle.std.proofs.lemmas.Option.{slice_get_within, get_or_from_slice_get}
use Rattle.shore_types.specs.Layout.{HasSlot}
use Rattle.shore_types.specs.declared.ids.Rid.{Rid}
use Rattle.shore_types.specs.declared.layout.Geometry.{Geometry}
use Rattle.shore_types.specs.Images.{Image}
use Rattle.shore_model.specs.declared.unanswered_changes.UnansweredChange.{UnansweredChange}
use Rattle.shore_model.specs.declared.log_records.LogRecord.{LogRecord}
use Rattle.shore_model.specs.declared.log_records.Payload.{Payload}
use Rattle.shore_model.specs.declared.log_records.Payload.TheVariants.{Change, Compensation, Commit, End, Prepare, RollbackDecided, CheckpointBegin, CheckpointEnd, Anchor}
use Rattle.shore_model.specs.Logs.{Lawful, MayFollow, MaySay, Answers, id_in, has, is_over, is_commit, is_end, is_prepare, is_rollback, is_in_doubt, is_of_checkpoint, first_number, last_of, answered_by, unanswered, undo_next_of}
use Rattle.laws_lives.specs.UndoChains.{LastNamesNext, next_named_by}
use Rattle.laws_lives.proofs.EndedTxns.{over_now, over_other}
use Rattle.laws_lives.proofs.UnansweredChanges.{unanswered_other, unanswered_own}
use Rattle.laws_lives.proofs.Numbers.{last_own, newest_other}
use Rattle.laws_lives.proofs.Redo.{slice_get_last, take_next}
use Rattle.laws_lives.proofs.Writers.{no_place, same_or_not}
use Rattle.laws_lives.proofs.Booleans.{and_true}
use Rattle.laws_lives.proofs.OneMore.{by_push, has-more, has-not_its, has-this}
use Rattle.shore_analysis.specs.Passes.{undo_next_after}
use Rattle.shore_analysis.specs.Meant.{AreGranules, granules_in, Means, IsMeant, IsCrowded, MayBeNext, AreMeant, AreMeantOf, IsFirstUnmeant, IsServedKind, IsInBounds}

-- ---- lists

module _ {A : Type 0} where
  pub longer_get : (xs ys : List A) (n : ℕ) (x : A) → slice_get xs n ≡ Some x → slice_get (xs ++ ys) n ≡ Some x
  longer_get [] ys n x h = cc
  longer_get (y ∷ xs) ys zero x h = h
  longer_get (y ∷ xs) ys (suc n) x h = longer_get xs ys n x h

  pub get_in_take : (xs : List A) (n k : ℕ) → k < n → slice_get (take n xs) k ≡ slice_get xs k
  get_in_take [] zero k lt = absurd (omega arith)
  get_in_take [] (suc n) k lt = refl
  get_in_take (x ∷ xs) zero k lt = absurd (omega arith)
  get_in_take (x ∷ xs) (suc n) zero lt = refl
  get_in_take (x ∷ xs) (suc n) (suc k) lt = get_in_take xs n k (omega arith)

  pub take_in_take : (xs : List A) (n k : ℕ) → k ≤ n → take k (take n xs) ≡ take k xs
  take_in_take [] zero k le = refl
  take_in_take [] (suc n) k le = refl
  take_in_take (x ∷ xs) n zero le = refl
  take_in_take (x ∷ xs) zero (suc k) le = absurd (omega arith)
  take_in_take (x ∷ xs) (suc n) (suc k) le = ap (λ ys. x ∷ ys) (take_in_take xs n k (omega arith))

  pub taken_within : (xs : List A) (n k : ℕ) (x : A) → slice_get (take n xs) k ≡ Some x → k < n
  taken_within [] zero k x h = cc
  taken_within [] (suc n) k x h = cc
  taken_within (y ∷ xs) zero k x h = cc
  taken_within (y ∷ xs) (suc n) zero x h = omega arith
  taken_within (y ∷ xs) (suc n) (suc k) x h = let lt = taken_within xs n k x h in omega arith

  pub own_or_last : (xs : List A) (y x : A) (k : ℕ) → slice_get (xs ++ y ∷ []) k ≡ Some x → (slice_get xs k ≡ Some x) ⊎ ((k ≡ length xs) × (y ≡ x))
  own_or_last [] y x zero h = inr (refl, ap (λ o. value o y) h)
    where
      value : Option A → A → A
      value None d = d
      value (Some z) d = z
  own_or_last [] y x (suc k) h = cc
  own_or_last (z ∷ xs) y x zero h = inl h
  own_or_last (z ∷ xs) y x (suc k) h = ⊎_elim (λ own. inl own) (λ last. inr (ap suc last.0, last.1)) (own_or_last xs y x k h)

  pub before_last : (xs : List A) (x : A) → take (length xs) (xs ++ x ∷ []) ≡ xs
  before_last [] x = refl
  before_last (y ∷ xs) x = ap (λ zs. y ∷ zs) (before_last xs x)

-- ---- logs record by record

-- P holds of a log if it holds of the empty one, and each record that is so behind those before it keeps it
pub by_each : (Q : List LogRecord → LogRecord → Type 0) (P : List LogRecord → Type 0) → P [] → ((xs : List LogRecord) (r : LogRecord) → Q xs r → P xs → P (xs ++ r ∷ []))
    → (log : List LogRecord) → ((n : ℕ) (r : LogRecord) → slice_get log n ≡ Some r → Q (take n log) r) → P log
by_each Q P none more log each = subst P (take_all (length log) log (omega arith)) (up_to (length log) (omega arith))
  where
    one_more : (n : ℕ) → n < length log → (o : Option LogRecord) → slice_get log n ≡ o → P (take n log) → P (take (suc n) log)
    one_more n lt None e h = absurd (no_place log n lt e)
    one_more n lt (Some r) e h =
        let on : n + 1 ≡ suc n = omega arith in
        subst P (sym (take_next log n r e) ∙ ap (λ k. take k log) on) (more (take n log) r (each n r e) h)

    up_to : (n : ℕ) → n ≤ length log → P (take n log)
    up_to zero le = none
    up_to (suc n) le = one_more n (omega arith) (slice_get log n) refl (up_to n (omega arith))

-- ---- logs whose records mean what they have to

module _ (g : Geometry) where
  pub AreMeant-nil : AreMeant g []
  AreMeant-nil n r h = cc

  pub AreMeant-push : (rs : List LogRecord) (r : LogRecord) → AreMeant g rs → MayBeNext g rs r → AreMeant g (rs ++ r ∷ [])
  AreMeant-push rs r all here n q h = ⊎_elim
      (λ own. subst (λ xs. MayBeNext g xs q) (sym (take-append-le n rs (r ∷ []) (let lt = slice_get_within rs n q own in omega arith))) (all n q own))
      (λ last. subst (λ xs. MayBeNext g xs q) (sym (ap (λ k. take k (rs ++ r ∷ [])) last.0 ∙ before_last rs r)) (subst (λ x. MayBeNext g rs x) last.1 here))
      (own_or_last rs r q n h)

  pub AreMeant-take : (rs : List LogRecord) (n : ℕ) → AreMeant g rs → AreMeant g (take n rs)
  AreMeant-take rs n all k r h =
      let lt = taken_within rs n k r h in
      subst (λ xs. MayBeNext g xs r) (sym (take_in_take rs n k (omega arith))) (all k r (sym (get_in_take rs n k lt) ∙ h))

  -- P holds of every such log, if it holds of the empty one and each record that means what it has to keeps it
  pub by_meant : (P : List LogRecord → Type 0) → P [] → ((xs : List LogRecord) (r : LogRecord) → IsMeant g xs r → P xs → P (xs ++ r ∷ []))
      → (log : List LogRecord) → AreMeant g log → P log
  by_meant P none more log meant = by_each (IsMeant g) P none more log (λ n r at. (meant n r at).0)

  -- those of one transaction among them
  pub meant_of : (log : List LogRecord) → AreMeant g log → (t : ℕ) → AreMeantOf g t log
  meant_of log meant t n r at own = (meant n r at).0

  pub AreMeantOf-take : (t : ℕ) (rs : List LogRecord) (n : ℕ) → AreMeantOf g t rs → AreMeantOf g t (take n rs)
  AreMeantOf-take t rs n all k r h own =
      let lt = taken_within rs n k r h in
      subst (λ xs. IsMeant g xs r) (sym (take_in_take rs n k (omega arith))) (all k r (sym (get_in_take rs n k lt) ∙ h) own)

  -- P holds of every log in which a transaction's records mean what they have to, if it holds of the empty one, each such record keeps it, and so does
  -- any record of another
  pub by_own : (t : ℕ) (P : List LogRecord → Type 0) → P [] → ((xs : List LogRecord) (r : LogRecord) → r.txn ≡ t → IsMeant g xs r → P xs → P (xs ++ r ∷ []))
      → ((xs : List LogRecord) (r : LogRecord) → r.txn ≢ t → P xs → P (xs ++ r ∷ [])) → (log : List LogRecord) → AreMeantOf g t log → P log
  by_own t P none own other log meant = subst P (take_all (length log) log (omega arith)) (up_to (length log) (omega arith))
    where
      one_more : (n : ℕ) → n < length log → (o : Option LogRecord) → slice_get log n ≡ o → P (take n log) → P (take (suc n) log)
      one_more n lt None e h = absurd (no_place log n lt e)
      one_more n lt (Some r) e h =
          let on : n + 1 ≡ suc n = omega arith in
          subst P (sym (take_next log n r e) ∙ ap (λ k. take k log) on)
          (⊎_elim (λ is. own (take n log) r is (meant n r e is) h) (λ ne. other (take n log) r ne h) (same_or_not r.txn t))

      up_to : (n : ℕ) → n ≤ length log → P (take n log)
      up_to zero le = none
      up_to (suc n) le = one_more n (omega arith) (slice_get log n) refl (up_to n (omega arith))

  -- the first record by which it may not go on
  pub first_unmeant : (rs : List LogRecord) (i : ℕ) (r : LogRecord) → slice_get rs i ≡ Some r → AreMeant g (take i rs) → (MayBeNext g (take i rs) r → ⊥)
      → (n : ℕ) → i + 1 ≡ n → IsFirstUnmeant g rs n
  first_unmeant rs i r at before refused n is =
      let place : i ≡ n - 1 = omega (arith, is) in
      record {
        some = omega (arith, is);
        before = subst (λ k. AreMeant g (take k rs)) place before;
        here = subst (λ k. IsSomeAnd (slice_get rs k) (λ r. MayBeNext g (take k rs) r → ⊥)) place (subst (λ o. IsSomeAnd o (λ r. MayBeNext g (take i rs) r → ⊥)) (sym at) refused);
      }

-- ---- which Change is to be undone next

-- who has no record has changed nothing
pub nothing_unanswered : (log : List LogRecord) (t : ℕ) → last_of t log ≡ 0 → unanswered t log ≡ []
nothing_unanswered = by_push (λ log. (t : ℕ) → last_of t log ≡ 0 → unanswered t log ≡ []) (λ t h. refl) one_more
  where
    one_more : (log : List LogRecord) (r : LogRecord) → ((t : ℕ) → last_of t log ≡ 0 → unanswered t log ≡ []) → (t : ℕ) → last_of t (log ++ r ∷ []) ≡ 0 → unanswered t (log ++ r ∷ []) ≡ []
    one_more log r known t none = ⊎_elim
        (λ own. let here : last_of t (log ++ r ∷ []) ≡ 1 + length log = ap (λ u. last_of u (log ++ r ∷ [])) (sym own) ∙ last_own log r in absurd (omega arith))
        (λ ne. unanswered_other t log r ne ∙ known t (sym (ap first_number (newest_other log r t ne)) ∙ none))
        (same_or_not r.txn t)

-- who is in doubt has a Prepare
pub in_doubt_prepared : (t : ℕ) (log : List LogRecord) → is_in_doubt t log ≡ true → has is_prepare t log ≡ true
in_doubt_prepared t log h =
    (and_true (has is_prepare t log) (not (has is_commit t log)) (and_true (has is_prepare t log && not (has is_commit t log)) (not (has is_rollback t log)) h).0).0

-- of one that has neither ended nor prepared
abbrev LastNamesNextOf : ℕ → List LogRecord → Type 0
LastNamesNextOf t log = is_over t log ≡ false → has is_prepare t log ≡ false → 0 < last_of t log → LastNamesNext log t

next_answered : (cs : List UnansweredChange) (id : Rid) (image : Image) (next : ℕ) → Answers cs id image next → undo_next_of (drop 1 cs) ≡ next
next_answered [] id image next a = absurd a
next_answered (c ∷ cs) id image next a = sym a.0

true_or_false : (b : Bool) → b ≡ true → b ≡ false → ⊥
true_or_false true h e = cc
true_or_false false h e = cc

module _ (g : Geometry) (log : List LogRecord) (r : LogRecord) (meant : IsMeant g log r) where
  -- what is to be undone next behind the record
  pub nexts_after : (p : Payload) → r.payload ≡ p → Means g log r.txn p → is_over r.txn (log ++ r ∷ []) ≡ false
      → undo_next_of (answered_by (1 + length log) p (unanswered r.txn log)) ≡ undo_next_after (1 + length log) p (undo_next_of (unanswered r.txn log))
  nexts_after (Change id before image) e says runs = refl
  nexts_after (Compensation id image undo_next) e says runs = next_answered (unanswered r.txn log) id image undo_next says.1.1
  nexts_after Commit e says runs = absurd (true_or_false _ (over_now log r (inl (ap is_commit e))) runs)
  nexts_after End e says runs = absurd (true_or_false _ (over_now log r (inr (ap is_end e))) runs)
  nexts_after (Prepare global granules) e says runs = refl
  nexts_after RollbackDecided e says runs = refl
  nexts_after CheckpointBegin e says runs = absurd says
  nexts_after (CheckpointEnd begin next txns dirty) e says runs = absurd says
  nexts_after (Anchor checkpoint tail) e says runs = absurd says

  nexts_own : (p : Payload) → r.payload ≡ p → Means g log r.txn p → is_over r.txn (log ++ r ∷ []) ≡ false → has is_prepare r.txn (log ++ r ∷ []) ≡ false
      → undo_next_of (answered_by (1 + length log) p (unanswered r.txn log)) ≡ next_named_by (1 + length log) p
  nexts_own (Change id before image) e says runs free = refl
  nexts_own (Compensation id image undo_next) e says runs free = next_answered (unanswered r.txn log) id image undo_next says.1.1
  nexts_own Commit e says runs free = absurd (true_or_false _ (over_now log r (inl (ap is_commit e))) runs)
  nexts_own End e says runs free = absurd (true_or_false _ (over_now log r (inr (ap is_end e))) runs)
  nexts_own (Prepare global granules) e says runs free = absurd (true_or_false _ (has-this log r is_prepare (ap is_prepare e)) free)
  nexts_own RollbackDecided e says runs free = absurd (true_or_false _ (has-more log r is_prepare r.txn (in_doubt_prepared r.txn log says)) free)
  nexts_own CheckpointBegin e says runs free = absurd says
  nexts_own (CheckpointEnd begin next txns dirty) e says runs free = absurd says
  nexts_own (Anchor checkpoint tail) e says runs free = absurd says

  next_own : LastNamesNextOf r.txn (log ++ r ∷ [])
  next_own runs free known =
      let number = last_own log r in
      let at : last_of r.txn (log ++ r ∷ []) - 1 ≡ length log = omega arith in
      record {
        is_one = (omega arith);
        found = r;
        here = ap (slice_get (log ++ r ∷ [])) at ∙ slice_get_last log r;
        own = refl;
        next =
            ap undo_next_of (unanswered_own r.txn log r refl)
            ∙ nexts_own r.payload refl meant.says runs free
            ∙ ap (λ n. next_named_by n r.payload) (sym number);
      }

next_other : (t : ℕ) (log : List LogRecord) (r : LogRecord) → r.txn ≢ t → LastNamesNextOf t log → LastNamesNextOf t (log ++ r ∷ [])
next_other t log r ne h runs free known =
    let records = newest_other log r t ne in
    let before = h (sym (over_other log r t ne) ∙ runs) (sym (has-not_its log r is_prepare t ne) ∙ free) (subst (λ es. 0 < first_number es) records known) in
    let same : last_of t (log ++ r ∷ []) ≡ last_of t log = ap (λ es. first_number es) records in
    record {
      is_one = known;
      found = before.found;
      here = ap (λ n. slice_get (log ++ r ∷ []) (n - 1)) same ∙ longer_get log (r ∷ []) (last_of t log - 1) before.found before.here;
      own = before.own;
      next = ap undo_next_of (unanswered_other t log r ne) ∙ before.next ∙ ap (λ n. next_named_by n before.found.payload) (sym same);
    }

pub next_by_last : (g : Geometry) (t : ℕ) (log : List LogRecord) → AreMeantOf g t log → LastNamesNextOf t log
next_by_last g t = by_own g t (LastNamesNextOf t) (λ runs free known. absurd (omega arith))
    (λ xs r own meant h. subst (λ u. LastNamesNextOf u (xs ++ r ∷ [])) own (next_own g xs r meant))
    (λ xs r ne h. next_other t xs r ne h)

-- ---- lawful logs

not_zero : (t : ℕ) → (t == 0) ≡ false → 0 < t
not_zero zero h = cc
not_zero (suc t) h = omega arith

served_says : (g : Geometry) (rs : List LogRecord) (t : ℕ) (p : Payload) → IsServedKind p → ((id : Rid) → id_in p ≡ Some id → HasSlot g id) → AreGranules g (granules_in p)
    → MaySay rs t p → Means g rs t p
served_says g rs t (Change id was image) served inside granules says = (inside id refl, says.0)
served_says g rs t (Compensation id image undo_next) served inside granules says = (inside id refl, says)
served_says g rs t Commit served inside granules says = says
served_says g rs t End served inside granules says = says
served_says g rs t (Prepare global gs) served inside granules says = (granules, says)
served_says g rs t RollbackDecided served inside granules says = says
served_says g rs t CheckpointBegin served inside granules says = absurd served
served_says g rs t (CheckpointEnd begin next txns dirty) served inside granules says = absurd served
served_says g rs t (Anchor checkpoint tail) served inside granules says = absurd served

served_of : (p : Payload) → IsServedKind p → is_of_checkpoint p ≡ false
served_of CheckpointBegin served = absurd served
served_of (CheckpointEnd begin next txns dirty) served = absurd served
served_of (Anchor checkpoint tail) served = absurd served
served_of _ served = refl

follows_meant : (g : Geometry) (rs : List LogRecord) (r : LogRecord) → IsInBounds g r → IsServedKind r.payload → MayFollow rs r → IsMeant g rs r
follows_meant g rs r bounds served follows = record {
  some = not_zero r.txn (sym follows.of ∙ served_of r.payload served);
  number = bounds.number;
  previous = follows.previous;
  not_over = follows.not_over;
  sizes = bounds.sizes;
  says = served_says g rs r.txn r.payload served bounds.id bounds.granules follows.says;
}

pub lawful_meant : (g : Geometry) (rs : List LogRecord) → Lawful rs → All (IsInBounds g) rs → All (λ r. IsServedKind r.payload) rs → ((n : ℕ) → IsCrowded (take n rs) → ⊥) → AreMeant g rs
lawful_meant g rs lawful bounds kinds few n r at =
    let within = slice_get_within rs n r at in
    let here : IsInBounds g r = subst (IsInBounds g) (get_or_from_slice_get rs n r r at) (bounds n r within) in
    let served : IsServedKind r.payload = subst (λ (q : LogRecord). IsServedKind q.payload) (get_or_from_slice_get rs n r r at) (kinds n r within) in
    (follows_meant g (take n rs) r here served (lawful n r at), λ crowded. few (n + 1) (subst IsCrowded (sym (take_next rs n r at)) crowded))

-- What undo to a savepoint brings back, record by record.
use Rattle.std.proofs.Common.{◌≡◌, ◌≢◌, inl, inr, ⊎_elim, ◌+◌, ◌-◌, ◌<◌, ◌≤◌, ℕ, zero, suc, List, [], ◌∷◌, ◌++◌, Bool, true, false, cond, None, refl, sym, ap, subst, ◌∙◌, length, take, drop, arith}
use Rattle.std.specs.Prelude.{unwrap_or}
use Rattle.std.specs.Ordering.{eq_by_cmp}
use Rattle.std.specs.FinMap.{get}
use Rattle.std.proofs.lemmas.Bool.{true≢false, cases_Bool}
use Rattle.shore_types.specs.Ids.{rid_cmp}
use Rattle.shore_types.specs.declared.ids.Rid.{Rid}
use Rattle.shore_model.specs.declared.unanswered_changes.UnansweredChange.{UnansweredChange}
use Rattle.shore_model.specs.declared.log_records.LogRecord.{LogRecord}
use Rattle.shore_model.specs.declared.log_records.Payload.{Payload}
use Rattle.shore_model.specs.declared.log_records.Payload.TheVariants.{Change, Compensation, Commit}
use Rattle.shore_model.specs.Records.{WriteSet}
use Rattle.shore_types.specs.Images.{Image}
use Rattle.shore_model.specs.Logs.{Lawful, MayFollow, MaySay, Answers, has, is_over, is_commit, is_end, image_in, image_of_record, answered_by, unanswered}
use Rattle.laws_lives.specs.Savepoints.{HasNoOtherWriter, AnswersAbove, IsSavedAt}
use Rattle.laws_lives.proofs.EndedTxns.{over_other, over_same}
use Rattle.laws_lives.proofs.UnansweredChanges.{unanswered_other, unanswered_own}
use Rattle.laws_lives.specs.Writers.{HasOneWriterAtMost, HasWriter, changes_id, image_undone, image_committed}
use Rattle.laws_lives.proofs.Writers.{one_writer_at_most, same_or_not, never_true, base_same, image_same, none_beside, not_its}
use Rattle.laws_lives.proofs.OneMore.{has-not_its, has-this, has-more, unanswered_known, undone_elsewhere, same_id, AreKnown}
use Rattle.laws_lives.proofs.Redo.{image_of_record-push, or_image}
use Rattle.laws_lives.proofs.UndoRecords.{lawful_next}

known_take : (log : List LogRecord) (t : ℕ) (n : ℕ) (cs : List UnansweredChange) → AreKnown log t cs → AreKnown log t (take n cs)
known_take log t zero cs h = tt
known_take log t (suc n) [] h = tt
known_take log t (suc n) (c ∷ cs) h = (h.0, known_take log t n cs h.1)

module _ (log : List LogRecord) (lawful : Lawful log) (t : ℕ) (q : Rid) (opens : HasNoOtherWriter log t q) where
  untouched : has (changes_id q) t log ≡ false → image_of_record log q ≡ image_committed log q
  untouched none = by_writer (one_writer_at_most log lawful q)
    where
      by_writer : HasOneWriterAtMost log q → image_of_record log q ≡ image_committed log q
      by_writer (inl f) = f.image
      by_writer (inr k) = absurd (⊎_elim
          (λ own. true≢false (sym k.1.changed ∙ ap (λ u. has (changes_id q) u log) own ∙ none))
          (λ ne. true≢false (sym (opens k.0 ne k.1.changed) ∙ k.1.not_over))
          (same_or_not k.0 t))

  untouched_back : (W : WriteSet) (n : ℕ) → has (changes_id q) t log ≡ false → get W q ≡ None
      → image_undone (image_of_record log q) q (take n (unanswered t log)) ≡ unwrap_or (get W q) (image_committed log q)
  untouched_back W n none no_write =
      undone_elsewhere log t q none (image_of_record log q) (take n (unanswered t log)) (known_take log t n (unanswered t log) (unanswered_known log t))
      ∙ untouched none ∙ sym (ap (λ o. unwrap_or o (image_committed log q)) no_write)

  holds : is_over t log ≡ false → has (changes_id q) t log ≡ true → HasWriter log q t
  holds runs changed = by_writer (one_writer_at_most log lawful q)
    where
      by_writer : HasOneWriterAtMost log q → HasWriter log q t
      by_writer (inl f) = absurd (true≢false (sym (f.over t changed) ∙ runs))
      by_writer (inr k) = ⊎_elim
          (λ own. subst (HasWriter log q) own k.1)
          (λ ne. absurd (true≢false (sym (opens k.0 ne k.1.changed) ∙ k.1.not_over)))
          (same_or_not k.0 t)

-- ---- another transaction's record

no_other_writes : (log : List LogRecord) (q : Rid) (t : ℕ) → HasWriter log q t → HasNoOtherWriter log t q
no_other_writes log q t k u ne h = k.others u ne h

changed_neither : (q : Rid) (p : Payload) → changes_id q p ≡ true → (is_commit p ≡ false) × (is_end p ≡ false)
changed_neither q (Change id before image) h = (refl, refl)
changed_neither q (Compensation id image undo_next) h = (refl, refl)
changed_neither q _ h = cc

module _ (log : List LogRecord) (lawful : Lawful log) (r : LogRecord) (follows : MayFollow log r) (t : ℕ) (runs : is_over t log ≡ false) (W : WriteSet) (depth : ℕ) (saved : IsSavedAt log t W depth) where
  abbrev after : List LogRecord
  after = log ++ r ∷ []

  still_lawful : Lawful after
  still_lawful = lawful_next log r lawful follows

  module _ (ne : r.txn ≢ t) (q : Rid) (opens : HasNoOtherWriter after t q) where
    off : changes_id q r.payload ≡ false
    off = never_true (changes_id q r.payload) (λ at.
        let plain = changed_neither q r.payload at in
        let over = opens r.txn ne (has-this log r (changes_id q) at) in
        true≢false (sym over ∙ over_same log r plain.0 plain.1 r.txn ∙ follows.not_over))

    base_stays : HasWriter log q t → image_committed after q ≡ image_committed log q
    base_stays k = by_kind r.payload refl
      where
        by_kind : (p : Payload) → r.payload ≡ p → image_committed after q ≡ image_committed log q
        by_kind Commit e =
            let is : record { txn = r.txn; previous = r.previous; payload = Commit } ≡ r = λ i. record { txn = r.txn; previous = r.previous; payload = sym e i } in
            subst (λ x. image_committed (log ++ x ∷ []) q ≡ image_committed log q) is
            (not_its log r.txn r.previous q (subst (MayFollow log) (sym is) follows) (none_beside log r follows q t k ne))
        by_kind _ e = base_same log r follows q (ap is_commit e)

    other_back : image_undone (image_of_record after q) q (take (length (unanswered t after) - depth) (unanswered t after)) ≡ unwrap_or (get W q) (image_committed after q)
    other_back = ⊎_elim
        (λ changed.
        let before : has (changes_id q) t log ≡ true = sym (has-not_its log r (changes_id q) t ne) ∙ changed in
        let k = still_holds before in
        ap (λ x. image_undone x q (take (length (unanswered t after) - depth) (unanswered t after))) (image_same log r follows q off)
        ∙ ap (λ cs. image_undone (image_of_record log q) q (take (length cs - depth) cs)) (unanswered_other t log r ne)
        ∙ saved.back q (no_other_writes log q t k)
        ∙ sym (ap (unwrap_or (get W q)) (base_stays k)))
        (λ none.
        let before : has (changes_id q) t log ≡ false = sym (has-not_its log r (changes_id q) t ne) ∙ none in
        untouched_back after still_lawful t q opens W (length (unanswered t after) - depth) none (saved.own q before))
        (cases_Bool (has (changes_id q) t after))
      where
        still_holds : has (changes_id q) t log ≡ true → HasWriter log q t
        still_holds changed = by_writer (one_writer_at_most log lawful q)
          where
            by_writer : HasOneWriterAtMost log q → HasWriter log q t
            by_writer (inl f) = absurd (true≢false (sym (f.over t changed) ∙ runs))
            by_writer (inr k) = ⊎_elim
                (λ own. subst (HasWriter log q) own k.1)
                (λ apart. absurd (true≢false (sym (k.1.others t (λ e. apart (sym e)) changed) ∙ runs)))
                (same_or_not k.0 t)

  pub other_saved : r.txn ≢ t → IsSavedAt after t W depth
  other_saved ne = record {
    deep = subst (λ cs. depth ≤ length cs) (sym (unanswered_other t log r ne)) saved.deep;
    own = λ q none. saved.own q (sym (has-not_its log r (changes_id q) t ne) ∙ none);
    back = λ q opens. other_back ne q opens;
  }

-- ---- a record of its own

still_less : (a b : Bool) → (a ≡ true → b ≡ true) → b ≡ false → a ≡ false
still_less true b f h = absurd (true≢false (sym (f refl) ∙ h))
still_less false b f h = refl

module _ (log : List LogRecord) (r : LogRecord) (follows : MayFollow log r) (W : WriteSet) (depth : ℕ) (saved : IsSavedAt log r.txn W depth)
    (no_commit : is_commit r.payload ≡ false) where
  abbrev own_after : List LogRecord
  own_after = log ++ r ∷ []

  opened_so_far : (q : Rid) → HasNoOtherWriter own_after r.txn q → HasNoOtherWriter log r.txn q
  opened_so_far q opens u ne h =
      let apart : r.txn ≢ u = λ e. ne (sym e) in
      sym (over_other log r u apart) ∙ opens u ne (has-more log r (changes_id q) u h)

  abbrev Before : Rid → Type 0
  Before q = image_undone (image_of_record log q) q (take (length (unanswered r.txn log) - depth) (unanswered r.txn log)) ≡ unwrap_or (get W q) (image_committed log q)

  abbrev After : Rid → Image → List UnansweredChange → Type 0
  After q x cs = image_undone x q (take (length cs - depth) cs) ≡ image_undone (image_of_record log q) q (take (length (unanswered r.txn log) - depth) (unanswered r.txn log))

  one_more : (c : UnansweredChange) (cs : List UnansweredChange) → depth ≤ length cs → take (length (c ∷ cs) - depth) (c ∷ cs) ≡ c ∷ take (length cs - depth) cs
  one_more c cs le = let count : length (c ∷ cs) - depth ≡ suc (length cs - depth) = omega arith in ap (λ n. take n (c ∷ cs)) count

  change_after : (id : Rid) (before image : Image) (q : Rid) → before ≡ image_of_record log id
      → After q (cond (eq_by_cmp rid_cmp q id) image (image_of_record log q)) (record { number = 1 + length log; id = id; before = before } ∷ unanswered r.txn log)
  change_after id before image q is =
      let c : UnansweredChange = record { number = 1 + length log; id = id; before = before } in
      let us = unanswered r.txn log in
      let rest = take (length us - depth) us in
      ap (image_undone (cond (eq_by_cmp rid_cmp q id) image (image_of_record log q)) q) (one_more c us saved.deep)
      ∙ ap (λ x. image_undone x q rest) (here (eq_by_cmp rid_cmp q id) refl)
    where
      here : (b : Bool) → eq_by_cmp rid_cmp q id ≡ b → cond b before (cond b image (image_of_record log q)) ≡ image_of_record log q
      here true e = is ∙ ap (image_of_record log) (sym (same_id q id e))
      here false e = refl

  compensation_after : (id : Rid) (image : Image) (undo_next : ℕ) (q : Rid) (us : List UnansweredChange) → Answers us id image undo_next → depth < length us
      → image_undone (cond (eq_by_cmp rid_cmp q id) image (image_of_record log q)) q (take (length (drop 1 us) - depth) (drop 1 us)) ≡ image_undone (image_of_record log q) q (take (length us - depth) us)
  compensation_after id image undo_next q [] a deep = absurd a
  compensation_after id image undo_next q (c ∷ cs) a deep =
      ap (λ x. image_undone x q (take (length cs - depth) cs)) (ap (λ w. cond (eq_by_cmp rid_cmp q w) image (image_of_record log q)) a.1 ∙ ap (λ y. cond (eq_by_cmp rid_cmp q c.id) y (image_of_record log q)) a.2)
      ∙ sym (ap (image_undone (image_of_record log q) q) (one_more c cs (omega arith)))

  deep_after : (us : List UnansweredChange) → depth < length us → depth ≤ length (drop 1 us)
  deep_after [] h = absurd (omega arith)
  deep_after (c ∷ cs) h = omega arith

  by_kind : (p : Payload) → r.payload ≡ p → MaySay log r.txn p → AnswersAbove log r.txn depth p
      → (depth ≤ length (answered_by (1 + length log) p (unanswered r.txn log)))
      × ((q : Rid) → After q (or_image (image_in p) q (image_of_record log q)) (answered_by (1 + length log) p (unanswered r.txn log)))
  by_kind (Change id before image) e says deep = (let d = saved.deep in omega arith, λ q. change_after id before image q says.1)
  by_kind (Compensation id image undo_next) e says deep = (deep_after (unanswered r.txn log) deep, λ q. compensation_after id image undo_next q (unanswered r.txn log) says.1 deep)
  by_kind _ e says deep = (saved.deep, λ q. refl)

  pub own_saved : AnswersAbove log r.txn depth r.payload → IsSavedAt own_after r.txn W depth
  own_saved deep =
      let kind = by_kind r.payload refl follows.says deep in
      record {
        deep = subst (λ cs. depth ≤ length cs) (sym (unanswered_own r.txn log r refl)) kind.0;
        own = λ q none. saved.own q (still_less (has (changes_id q) r.txn log) (has (changes_id q) r.txn own_after) (has-more log r (changes_id q) r.txn) none);
        back = λ q opens.
            ap (λ x. image_undone x q (take (length (unanswered r.txn own_after) - depth) (unanswered r.txn own_after))) (image_of_record-push log r q)
            ∙ ap (λ cs. image_undone (or_image (image_in r.payload) q (image_of_record log q)) q (take (length cs - depth) cs)) (unanswered_own r.txn log r refl)
            ∙ kind.1 q ∙ saved.back q (opened_so_far q opens)
            ∙ sym (ap (unwrap_or (get W q)) (base_same log r follows q no_commit));
      }

-- ---- the way back, and a new savepoint

pub back_at : (log : List LogRecord) (t : ℕ) (W : WriteSet) (q : Rid) → IsSavedAt log t W (length (unanswered t log)) → HasNoOtherWriter log t q → image_of_record log q ≡ unwrap_or (get W q) (image_committed log q)
back_at log t W q saved opens =
    let none : length (unanswered t log) - length (unanswered t log) ≡ 0 = omega arith in
    sym (ap (λ n. image_undone (image_of_record log q) q (take n (unanswered t log))) none) ∙ saved.back q opens

pub save_at : (log : List LogRecord) (t : ℕ) (W : WriteSet) → ((q : Rid) → has (changes_id q) t log ≡ false → get W q ≡ None)
    → ((q : Rid) → HasNoOtherWriter log t q → image_of_record log q ≡ unwrap_or (get W q) (image_committed log q)) → IsSavedAt log t W (length (unanswered t log))
save_at log t W own now = record {
  deep = omega arith;
  own = own;
  back = λ q opens. let none : length (unanswered t log) - length (unanswered t log) ≡ 0 = omega arith in ap (λ n. image_undone (image_of_record log q) q (take n (unanswered t log))) none ∙ now q opens;
}

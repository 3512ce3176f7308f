-- In a lawful log each id has one writer at most, and what undo of that writer's Changes leaves is what is committed.
use Rattle.std.proofs.Common.{◌≡◌, ◌≢◌, ◌+◌, ◌≤◌, ◌<◌, ◌⊎◌, inl, inr, ⊎_elim, ℕ, zero, suc, List, [], ◌∷◌, ◌++◌, Bool, true, false, cond, Option, Some, None, refl, sym, ap, subst, ◌∙◌, length, take, drop, arith, take_all}
use Rattle.std.specs.Prelude.{◌==◌, ◌||◌, unwrap_or, slice_get}
use Rattle.std.specs.List.{AllByRecursion}
use Rattle.std.specs.Ordering.{eq_by_cmp}
use Rattle.std.specs.FinMap.{get, get-insert}
use Rattle.std.proofs.lemmas.Bool.{eqb-true, eqb-false, cases_Bool, true≢false}
use Rattle.shore_types.specs.Ids.{rid_cmp, rids_total}
use Rattle.shore_types.specs.declared.ids.Rid.{Rid}
use Rattle.shore_model.specs.declared.unanswered_changes.UnansweredChange.{UnansweredChange}
use Rattle.shore_model.specs.declared.log_records.LogRecord.{LogRecord}
use Rattle.shore_model.specs.declared.log_records.Payload.{Payload}
use Rattle.shore_model.specs.declared.log_records.Payload.TheVariants.{Change, Compensation, Commit, End, Prepare, RollbackDecided, CheckpointBegin, CheckpointEnd, Anchor}
use Rattle.shore_types.specs.Images.{Image}
use Rattle.shore_model.specs.Logs.{Lawful, MayFollow, MaySay, Answers, has, is_over, is_commit, is_end, image_of_record, logged_writes, answered_by, unanswered}
use Rattle.shore_model.proofs.Maps.{get_id}
use Rattle.shore_model.proofs.Overlays.{get-overlay}
use Rattle.laws_lives.specs.LogTells.{records_committed}
use Rattle.laws_lives.proofs.EndedTxns.{over_other, over_same}
use Rattle.laws_lives.proofs.LogTells.{logged_other, logged_own, tells_commit}
use Rattle.laws_lives.proofs.UnansweredChanges.{unanswered_other, unanswered_own}
use Rattle.laws_lives.specs.Writers.{changes_id, image_undone, image_committed, HasNoWriter, HasOneWriterAtMost, HasWriter}
use Rattle.laws_lives.proofs.CommittedRecords.{committed-same}
use Rattle.laws_lives.proofs.OneMore.{has-not_this, has-not_its, has-more, has-this, over-more, no_image_there, no_write_there, writes_none, unanswered_known, undone_elsewhere, others_over, same_id, id_itself}
use Rattle.laws_lives.proofs.Redo.{image_of_record-push, take_next}
use Rattle.laws_lives.proofs.Booleans.{or_none, or_right}

pub never_true : (b : Bool) → (b ≡ true → ⊥) → b ≡ false
never_true true f = absurd (f refl)
never_true false f = refl

pub same_or_not : (t u : ℕ) → (t ≡ u) ⊎ (t ≢ u)
same_or_not t u = ⊎_elim (λ e. inl (eqb-true t u e)) (λ e. inr (eqb-false t u e)) (cases_Bool (t == u))

-- ---- a record that does not change the id

abbrev SaysAnswer : List UnansweredChange → Payload → Type 0
SaysAnswer cs (Compensation id image undo_next) = Answers cs id image undo_next
SaysAnswer cs _ = Unit {0}

says_answer : (log : List LogRecord) (t : ℕ) (p : Payload) → MaySay log t p → SaysAnswer (unanswered t log) p
says_answer log t (Compensation id image undo_next) h = h.1
says_answer log t _ h = tt

-- it leaves what undo makes of an image there
undone_same : (q : Rid) (n : ℕ) (p : Payload) (cs : List UnansweredChange) (x : Image) → changes_id q p ≡ false → SaysAnswer cs p → image_undone x q (answered_by n p cs) ≡ image_undone x q cs
undone_same q n (Change id before image) cs x off says = ap (λ b. image_undone (cond b before x) q cs) off
undone_same q n (Compensation id image undo_next) [] x off says = absurd says
undone_same q n (Compensation id image undo_next) (c ∷ cs) x off says =
    let apart : eq_by_cmp rid_cmp q c.id ≡ false = ap (eq_by_cmp rid_cmp q) (sym says.1) ∙ off in
    sym (ap (λ b. image_undone (cond b c.before x) q cs) apart)
undone_same q n _ cs x off says = refl

module _ (log : List LogRecord) (r : LogRecord) (follows : MayFollow log r) (q : Rid) where
  abbrev after : List LogRecord
  after = log ++ r ∷ []

  pub uncommitted : has is_commit r.txn log ≡ false
  uncommitted = (or_none (has is_commit r.txn log) (has is_end r.txn log) follows.not_over).0

  pub base_same : is_commit r.payload ≡ false → image_committed after q ≡ image_committed log q
  base_same no_commit = ap (λ R. get R q) (committed-same log r no_commit uncommitted)

  pub image_same : changes_id q r.payload ≡ false → image_of_record after q ≡ image_of_record log q
  image_same off = image_of_record-push log r q ∙ no_image_there q r.payload (image_of_record log q) off

  over_here : (u : ℕ) → is_over u log ≡ true → r.txn ≢ u
  over_here u over e = true≢false (sym over ∙ ap (λ v. is_over v log) (sym e) ∙ follows.not_over)

  none_yet : HasNoWriter log q → has (changes_id q) r.txn log ≡ false
  none_yet f = never_true (has (changes_id q) r.txn log) (λ h. over_here r.txn (f.over r.txn h) refl)

  pub none_beside : (u : ℕ) → HasWriter log q u → r.txn ≢ u → has (changes_id q) r.txn log ≡ false
  none_beside u k ne = never_true (has (changes_id q) r.txn log) (λ h. over_here r.txn (k.others r.txn ne h) refl)

  module _ (off : changes_id q r.payload ≡ false) where
    unwritten_stays : image_committed after q ≡ image_committed log q → HasNoWriter log q → HasNoWriter after q
    unwritten_stays base f = record {
      over = λ u h. over-more log r u (f.over u (sym (has-not_this log r (changes_id q) u off) ∙ h));
      image = image_same off ∙ f.image ∙ sym base;
    }

    written_by_other : image_committed after q ≡ image_committed log q → (u : ℕ) → r.txn ≢ u → HasWriter log q u → HasWriter after q u
    written_by_other base u ne k = record {
      not_over = over_other log r u ne ∙ k.not_over;
      changed = has-more log r (changes_id q) u k.changed;
      others = λ v other h. over-more log r v (k.others v other (sym (has-not_this log r (changes_id q) v off) ∙ h));
      written = ap (λ W. get W q) (logged_other log r u ne) ∙ k.written ∙ ap Some (sym (image_same off));
      undoes = ap (λ x. image_undone x q (unanswered u after)) (image_same off) ∙ ap (image_undone (image_of_record log q) q) (unanswered_other u log r ne) ∙ k.undoes ∙ sym base;
    }

    written_by_own : is_commit r.payload ≡ false → is_end r.payload ≡ false → HasWriter log q r.txn → HasWriter after q r.txn
    written_by_own no_commit no_end k = record {
      not_over = over_same log r no_commit no_end r.txn ∙ k.not_over;
      changed = has-more log r (changes_id q) r.txn k.changed;
      others = λ v other h. over-more log r v (k.others v other (sym (has-not_this log r (changes_id q) v off) ∙ h));
      written = ap (λ W. get W q) (logged_own log r r.txn refl) ∙ no_write_there q r.payload (logged_writes log r.txn) off ∙ k.written ∙ ap Some (sym (image_same off));
      undoes =
          ap (λ x. image_undone x q (unanswered r.txn after)) (image_same off) ∙ ap (image_undone (image_of_record log q) q) (unanswered_own r.txn log r refl)
          ∙ undone_same q (1 + length log) r.payload (unanswered r.txn log) (image_of_record log q) off (says_answer log r.txn r.payload follows.says)
          ∙ k.undoes ∙ sym (base_same no_commit);
    }

    quiet : is_commit r.payload ≡ false → is_end r.payload ≡ false → HasOneWriterAtMost log q → HasOneWriterAtMost after q
    quiet no_commit no_end (inl f) = inl (unwritten_stays (base_same no_commit) f)
    quiet no_commit no_end (inr k) = inr (⊎_elim
        (λ own. (r.txn, written_by_own no_commit no_end (subst (HasWriter log q) (sym own) k.1)))
        (λ ne. (k.0, written_by_other (base_same no_commit) k.0 ne k.1))
        (same_or_not r.txn k.0))

  -- ---- a Change or a Compensation of the id

  abbrev IsMineOrNobodys : Type 0
  IsMineOrNobodys = HasNoWriter log q ⊎ HasWriter log q r.txn

  mine : HasOneWriterAtMost log q → ((u : ℕ) → (u ≡ r.txn → ⊥) → has (changes_id q) u log ≡ true → is_over u log ≡ true) → IsMineOrNobodys
  mine (inl f) others = inl f
  mine (inr k) others = ⊎_elim
      (λ own. inr (subst (HasWriter log q) (sym own) k.1))
      (λ ne. absurd (true≢false (sym (others k.0 (λ e. ne (sym e)) k.1.changed) ∙ k.1.not_over)))
      (same_or_not r.txn k.0)

  others_of : IsMineOrNobodys → (u : ℕ) → (u ≡ r.txn → ⊥) → has (changes_id q) u log ≡ true → is_over u log ≡ true
  others_of (inl f) u ne h = f.over u h
  others_of (inr k) u ne h = k.others u ne h

  comes_back : IsMineOrNobodys → image_undone (image_of_record log q) q (unanswered r.txn log) ≡ image_committed log q
  comes_back (inl f) = undone_elsewhere log r.txn q (none_yet f) (image_of_record log q) (unanswered r.txn log) (unanswered_known log r.txn) ∙ f.image
  comes_back (inr k) = k.undoes

  module _ (at : changes_id q r.payload ≡ true) (no_commit : is_commit r.payload ≡ false) (no_end : is_end r.payload ≡ false) where
    now_written : IsMineOrNobodys → (x : Image) → image_of_record after q ≡ x → get (logged_writes after r.txn) q ≡ Some x
        → image_undone x q (unanswered r.txn after) ≡ image_undone (image_of_record log q) q (unanswered r.txn log) → HasWriter after q r.txn
    now_written own x here written back = record {
      not_over = over_same log r no_commit no_end r.txn ∙ follows.not_over;
      changed = has-this log r (changes_id q) at;
      others = λ v other h. over-more log r v (others_of own v other (sym (has-not_its log r (changes_id q) v (λ e. other (sym e))) ∙ h));
      written = written ∙ ap Some (sym here);
      undoes = ap (λ y. image_undone y q (unanswered r.txn after)) here ∙ back ∙ comes_back own ∙ sym (base_same no_commit);
    }

  -- ---- an End

  end_settles : changes_id q r.payload ≡ false → is_commit r.payload ≡ false → is_end r.payload ≡ true → unanswered r.txn log ≡ [] → HasOneWriterAtMost log q → HasOneWriterAtMost after q
  end_settles off no_commit ends none (inl f) = inl (unwritten_stays off (base_same no_commit) f)
  end_settles off no_commit ends none (inr k) = ⊎_elim
      (λ own. let h = subst (HasWriter log q) (sym own) k.1 in inl (record {
        over = λ v has_it. ended h v (same_or_not r.txn v) (sym (has-not_this log r (changes_id q) v off) ∙ has_it);
        image = image_same off ∙ ap (image_undone (image_of_record log q) q) (sym none) ∙ h.undoes ∙ sym (base_same no_commit);
      }))
      (λ ne. inr (k.0, written_by_other off (base_same no_commit) k.0 ne k.1))
      (same_or_not r.txn k.0)
    where
      ended : HasWriter log q r.txn → (v : ℕ) → (r.txn ≡ v) ⊎ (r.txn ≢ v) → has (changes_id q) v log ≡ true → is_over v after ≡ true
      ended h v (inl e) it = subst (λ w. is_over w after ≡ true) e (or_right (has is_commit r.txn after) (has is_end r.txn after) (has-this log r is_end ends))
      ended h v (inr ne) it = over-more log r v (h.others v (λ e. ne (sym e)) it)

-- ---- a Commit

module _ (log : List LogRecord) (t previous : ℕ) (q : Rid) (follows : MayFollow log (record { txn = t; previous = previous; payload = Commit })) where
  abbrev commits : LogRecord
  commits = record { txn = t; previous = previous; payload = Commit }

  laid : image_committed (log ++ commits ∷ []) q ≡ unwrap_or (get (logged_writes log t) q) (image_committed log q)
  laid = ap (λ R. get R q) (tells_commit log commits refl) ∙ get-overlay (records_committed log) (logged_writes log t) q

  pub not_its : has (changes_id q) t log ≡ false → image_committed (log ++ commits ∷ []) q ≡ image_committed log q
  not_its none = laid ∙ ap (λ o. unwrap_or o (image_committed log q)) (writes_none log t q none)

  or_left : (a b : Bool) → a ≡ true → (a || b) ≡ true
  or_left a b h = ap (λ x. x || b) h

  committed : HasWriter log q t → (v : ℕ) → (t ≡ v) ⊎ (t ≢ v) → has (changes_id q) v log ≡ true → is_over v (log ++ commits ∷ []) ≡ true
  committed h v (inl e) it = subst (λ w. is_over w (log ++ commits ∷ []) ≡ true) e (or_left (has is_commit t (log ++ commits ∷ [])) (has is_end t (log ++ commits ∷ [])) (has-this log commits is_commit refl))
  committed h v (inr ne) it = over-more log commits v (h.others v (λ e. ne (sym e)) it)

  commit_settles : HasOneWriterAtMost log q → HasOneWriterAtMost (log ++ commits ∷ []) q
  commit_settles (inl f) = inl (unwritten_stays log commits follows q refl (not_its (none_yet log commits follows q f)) f)
  commit_settles (inr k) = ⊎_elim
      (λ own. let h = subst (HasWriter log q) (sym own) k.1 in inl (record {
        over = λ v has_it. committed h v (same_or_not t v) (sym (has-not_this log commits (changes_id q) v refl) ∙ has_it);
        image = image_same log commits follows q refl ∙ sym (laid ∙ ap (λ o. unwrap_or o (image_committed log q)) h.written);
      }))
      (λ ne. inr (k.0, written_by_other log commits follows q refl (not_its (none_beside log commits follows q k.0 k.1 ne)) k.0 ne k.1))
      (same_or_not t k.0)

-- ---- a Change and a Compensation

change_writes : (log : List LogRecord) (t previous : ℕ) (id : Rid) (before image : Image) → MayFollow log (record { txn = t; previous = previous; payload = Change id before image })
    → HasOneWriterAtMost log id → HasOneWriterAtMost (log ++ record { txn = t; previous = previous; payload = Change id before image } ∷ []) id
change_writes log t previous id before image follows so_far =
    let r : LogRecord = record { txn = t; previous = previous; payload = Change id before image } in
    let here = id_itself id in
    let own = mine log r follows id so_far (others_over log t id follows.says.2) in
    inr (
      t,
      now_written log r follows id here refl refl own image
          (image_of_record-push log r id ∙ ap (λ b. cond b image (image_of_record log id)) here)
          (ap (λ W. get W id) (logged_own log r r.txn refl) ∙ get-insert rids_total (logged_writes log t) id image id ∙ ap (λ b. cond b (Some image) (get (logged_writes log t) id)) here)
          (ap (image_undone image id) (unanswered_own r.txn log r refl) ∙ ap (λ b. image_undone (cond b before image) id (unanswered t log)) here
          ∙ ap (λ x. image_undone x id (unanswered t log)) follows.says.1),
    )

module _ (log : List LogRecord) (t previous : ℕ) (id : Rid) (image : Image) (undo_next : ℕ)
    (follows : MayFollow log (record { txn = t; previous = previous; payload = Compensation id image undo_next })) where
  abbrev compensates : LogRecord
  compensates = record { txn = t; previous = previous; payload = Compensation id image undo_next }

  here : eq_by_cmp rid_cmp id id ≡ true
  here = id_itself id

  known : (cs : List UnansweredChange) → AllByRecursion (λ c. has (changes_id c.id) t log ≡ true) cs → Answers cs id image undo_next → has (changes_id id) t log ≡ true
  known [] h a = absurd a
  known (c ∷ cs) h a = ap (λ i. has (changes_id i) t log) a.1 ∙ h.0

  changed : has (changes_id id) t log ≡ true
  changed = known (unanswered t log) (unanswered_known log t) follows.says.1

  others : HasOneWriterAtMost log id → (u : ℕ) → (u ≡ t → ⊥) → has (changes_id id) u log ≡ true → is_over u log ≡ true
  others (inl f) u ne h = f.over u h
  others (inr k) u ne h = ⊎_elim
      (λ own. k.1.others u (λ e. ne (e ∙ sym own)) h)
      (λ apart. absurd (true≢false (sym changed ∙ none_beside log compensates follows id k.0 k.1 apart)))
      (same_or_not t k.0)

  answered : (cs : List UnansweredChange) → Answers cs id image undo_next → image_undone image id (drop 1 cs) ≡ image_undone (image_of_record log id) id cs
  answered [] a = absurd a
  answered (c ∷ cs) a =
      let at : eq_by_cmp rid_cmp id c.id ≡ true = ap (eq_by_cmp rid_cmp id) (sym a.1) ∙ here in
      ap (λ x. image_undone x id cs) a.2 ∙ sym (ap (λ b. image_undone (cond b c.before (image_of_record log id)) id cs) at)

  module _ (so_far : HasOneWriterAtMost log id) where
    own : IsMineOrNobodys log compensates follows id
    own = mine log compensates follows id so_far (others so_far)

    compensation_writes : HasOneWriterAtMost (log ++ compensates ∷ []) id
    compensation_writes =
        inr (
          t,
          now_written log compensates follows id here refl refl own image
              (image_of_record-push log compensates id ∙ ap (λ b. cond b image (image_of_record log id)) here)
              (ap (λ W. get W id) (logged_own log compensates compensates.txn refl) ∙ get-insert rids_total (logged_writes log t) id image id ∙ ap (λ b. cond b (Some image) (get (logged_writes log t) id)) here)
              (ap (image_undone image id) (unanswered_own compensates.txn log compensates refl) ∙ answered (unanswered t log) follows.says.1),
        )

-- ---- any record, and any log

one_more_written : (log : List LogRecord) (t previous : ℕ) (p : Payload) (q : Rid) → MayFollow log (record { txn = t; previous = previous; payload = p })
    → HasOneWriterAtMost log q → HasOneWriterAtMost (log ++ record { txn = t; previous = previous; payload = p } ∷ []) q
one_more_written log t previous (Change id before image) q follows so_far = ⊎_elim
    (λ at. let same = same_id q id at in
    subst (λ w. HasOneWriterAtMost (log ++ record { txn = t; previous = previous; payload = Change id before image } ∷ []) w) (sym same)
    (change_writes log t previous id before image follows (subst (HasOneWriterAtMost log) same so_far)))
    (λ off. quiet log (record { txn = t; previous = previous; payload = Change id before image }) follows q off refl refl so_far)
    (cases_Bool (eq_by_cmp rid_cmp q id))
one_more_written log t previous (Compensation id image undo_next) q follows so_far = ⊎_elim
    (λ at. let same = same_id q id at in
    subst (λ w. HasOneWriterAtMost (log ++ record { txn = t; previous = previous; payload = Compensation id image undo_next } ∷ []) w) (sym same)
    (compensation_writes log t previous id image undo_next follows (subst (HasOneWriterAtMost log) same so_far)))
    (λ off. quiet log (record { txn = t; previous = previous; payload = Compensation id image undo_next }) follows q off refl refl so_far)
    (cases_Bool (eq_by_cmp rid_cmp q id))
one_more_written log t previous Commit q follows so_far = commit_settles log t previous q follows so_far
one_more_written log t previous End q follows so_far = end_settles log (record { txn = t; previous = previous; payload = End }) follows q refl refl refl follows.says.1 so_far
one_more_written log t previous (Prepare global granules) q follows so_far = quiet log (record { txn = t; previous = previous; payload = Prepare global granules }) follows q refl refl refl so_far
one_more_written log t previous RollbackDecided q follows so_far = quiet log (record { txn = t; previous = previous; payload = RollbackDecided }) follows q refl refl refl so_far
one_more_written log t previous CheckpointBegin q follows so_far = quiet log (record { txn = t; previous = previous; payload = CheckpointBegin }) follows q refl refl refl so_far
one_more_written log t previous (CheckpointEnd begin next txns dirty) q follows so_far = quiet log (record { txn = t; previous = previous; payload = CheckpointEnd begin next txns dirty }) follows q refl refl refl so_far
one_more_written log t previous (Anchor checkpoint tail) q follows so_far = quiet log (record { txn = t; previous = previous; payload = Anchor checkpoint tail }) follows q refl refl refl so_far

nothing_written : (q : Rid) → HasOneWriterAtMost [] q
nothing_written q = inl (record { over = λ t h. cc; image = ap (λ o. unwrap_or o None) (get_id [] q) ∙ sym (get_id [] q) })

pub no_place : (xs : List LogRecord) (k : ℕ) → k < length xs → slice_get xs k ≡ None → ⊥
no_place [] k lt e = omega arith
no_place (x ∷ xs) zero lt e = cc
no_place (x ∷ xs) (suc k) lt e = no_place xs k (omega arith) e

-- P holds of every lawful log, if it holds of the empty one and each record that may follow keeps it
pub by_records : (P : List LogRecord → Type 0) → P [] → ((xs : List LogRecord) (r : LogRecord) → MayFollow xs r → P xs → P (xs ++ r ∷ []))
    → (log : List LogRecord) → Lawful log → P log
by_records P none more log lawful = subst P (take_all (length log) log (omega arith)) (up_to (length log) (omega arith))
  where
    one_more : (n : ℕ) → n < length log → (o : Option LogRecord) → slice_get log n ≡ o → P (take n log) → P (take (suc n) log)
    one_more n lt None e h = absurd (no_place log n lt e)
    one_more n lt (Some r) e h =
        let on : n + 1 ≡ suc n = omega arith in
        subst P (sym (take_next log n r e) ∙ ap (λ k. take k log) on) (more (take n log) r (lawful n r e) h)

    up_to : (n : ℕ) → n ≤ length log → P (take n log)
    up_to zero le = none
    up_to (suc n) le = one_more n (omega arith) (slice_get log n) refl (up_to n (omega arith))

pub one_writer_at_most : (log : List LogRecord) → Lawful log → (q : Rid) → HasOneWriterAtMost log q
one_writer_at_most log lawful q =
    by_records (λ xs. HasOneWriterAtMost xs q) (nothing_written q) (λ xs r follows h. one_more_written xs r.txn r.previous r.payload q follows h) log lawful

-- An open on a log in which transactions are in doubt: these are under way again, as the log has them.
use Rattle.std.proofs.Common.{◌≡◌, ◌≢◌, ◌⊎◌, ◌<◌, inl, inr, ⊎_elim, ◌++◌, ℕ, zero, suc, List, [], ◌∷◌, Bool, true, false, cond, Some, None, refl, sym, ap, subst, ◌∙◌, map, arith}
use Rattle.std.specs.Prelude.{◌==◌, ◌&&◌, ◌||◌, All, Contains, IsSome, not, nat_eq, reverse}
use Rattle.std.specs.FinMap.{get, get-empty}
use Rattle.std.specs.List.{AllByRecursion, cons_option, filter_map}
use Rattle.std.specs.Ordering.{eq_by_cmp}
use Rattle.std.specs.Cmp.Lexicographic.{pointwise}
use Rattle.std.proofs.lemmas.Bool.{cases_Bool, eqb-true, true≢false}
use Rattle.std.proofs.lemmas.List.{reverse-append, reverse-reverse}
use Rattle.std.proofs.lemmas.List.Elements.{All-contains_itself, All-from_recursion, All-weaker, filter_map-append}
use Rattle.shore_types.specs.Ids.{rid_cmp}
use Rattle.shore_types.specs.Images.{Image}
use Rattle.shore_types.specs.declared.ids.Rid.{Rid}
use Rattle.shore_types.specs.declared.locking.Granule.{Granule}
use Rattle.shore_model.specs.declared.histories.InDoubt.{InDoubt}
use Rattle.shore_model.specs.declared.histories.Opening.{Opening}
use Rattle.shore_model.specs.declared.holds.Hold.{Hold}
use Rattle.shore_model.specs.declared.log_records.LogRecord.{LogRecord}
use Rattle.shore_model.specs.declared.log_records.Payload.{Payload}
use Rattle.shore_model.specs.declared.log_records.Payload.TheVariants.{Change, Compensation, Prepare}
use Rattle.shore_model.specs.declared.unanswered_changes.UnansweredChange.{UnansweredChange}
use Rattle.shore_model.specs.Histories.{last_under, writes_given}
use Rattle.shore_model.specs.Locks.{MayRead, MayWrite}
use Rattle.shore_model.specs.Logs.{Lawful, LiesUnder, MayFollow, MaySay, has, image_of_record, is_commit, is_in_doubt, is_of_checkpoint, is_over, is_prepare, is_rollback, logged_writes, prepare_of, unanswered}
use Rattle.shore_model.specs.Records.{Records, WriteSet, overlay, put_image}
use Rattle.laws_lives.proofs.Booleans.{and_true, or_true}
use Rattle.laws_lives.proofs.CommittedRecords.{uncommitted_apart}
use Rattle.laws_lives.proofs.DoubtDecisions.{same_text}
use Rattle.laws_lives.proofs.DoubtLocks.{reads_under, restored_in_harmony}
use Rattle.laws_lives.proofs.DoubtRecords.{among_filter, doubt_has_prepare, doubt_txns}
use Rattle.laws_lives.proofs.GranulePaths.{on_one_path, writes_under}
use Rattle.laws_lives.proofs.Ids.{overlay_empty, put_here, put_there}
use Rattle.laws_lives.proofs.Lists.{among_append, among_map, mapped_one}
use Rattle.laws_lives.proofs.LogPrefixes.{given_one}
use Rattle.laws_lives.proofs.Members.{txn_among}
use Rattle.laws_lives.proofs.OneMore.{AreKnown, has-more, has-not_this, has-push, same_id, unanswered_known, undone_elsewhere, writes_none}
use Rattle.laws_lives.proofs.Steps.{found_txns}
use Rattle.laws_lives.proofs.UndoLists.{laid_over-append}
use Rattle.laws_lives.proofs.Views.{not_some, overlay_none}
use Rattle.laws_lives.proofs.WholeSteps.{changed_logged, lying, names_under}
use Rattle.laws_lives.proofs.Writers.{by_records, never_true, one_writer_at_most, same_or_not}
use Rattle.laws_lives.proofs.UndoEnds.{writers_in_doubt}
use Rattle.laws_lives.proofs.WritersTold.{among_filtered, among_prepared, doubt_not_over, in_doubt_parts}
use Rattle.laws_lives.specs.Doubts.{HasWritten, LoggedDoubt, TracksDoubts, doubt_by, doubt_of, doubts_in, pair_logged, undo_in}
use Rattle.laws_lives.specs.LogTells.{AreLogged, HasLogged, IsLogAfter, records_committed}
use Rattle.laws_lives.specs.Sessions.{Sessions, in_doubt_of, pairs_of, txns_of}
use Rattle.laws_lives.specs.Soundness.{IsJustOpened, found_in_doubt, progress_from, progress_in, written_by}
use Rattle.laws_lives.specs.UndoLists.{CanUndo, UndoList, rolled_back}
use Rattle.laws_lives.specs.Views.{IsAmong, Sees}
use Rattle.laws_lives.specs.WholeLogs.{IsOpenOn, IsWholeLog}
use Rattle.laws_lives.specs.Writers.{HasOneWriterAtMost, HasWriter, changes_id, image_committed, image_undone}

-- ---- in a lawful log one in doubt has changed nothing but what lies under its granules

-- the granules of a Prepare
its_granules : (t : ℕ) (global : List ℕ) (gs : List Granule) (e : LoggedDoubt) → doubt_by t (Prepare global gs) ≡ Some e → (e.granules ≡ gs) × (e.txn ≡ t)
its_granules t global gs e is = (granules_of is, txn_of is)
  where
    granules_of : {c d : LoggedDoubt} → Some c ≡ Some d → d.granules ≡ c.granules
    granules_of e = cc

    txn_of : {c d : LoggedDoubt} → Some c ≡ Some d → d.txn ≡ c.txn
    txn_of e = cc

prepared_changes_none : (log : List LogRecord) (t : ℕ) (p : Payload) (id : Rid) → MaySay log t p → has is_prepare t log ≡ true → has is_rollback t log ≡ false → changes_id id p ≡ true → ⊥
prepared_changes_none log t (Change q before image) id says prepared unrolled h = true≢false (sym says.0 ∙ ap not prepared)
prepared_changes_none log t (Compensation q image undo_next) id says prepared unrolled h =
    true≢false (sym says.0 ∙ ap (λ p. not p || has is_rollback t log) prepared ∙ unrolled)
prepared_changes_none log t _ id says prepared unrolled h = cc

own_lies : (log : List LogRecord) (t : ℕ) (p : Payload) (e : LoggedDoubt) (id : Rid) → doubt_by t p ≡ Some e → MaySay log t p → has (changes_id id) t log ≡ true → LiesUnder e.granules id
own_lies log t (Prepare global gs) e id is says h =
    subst (λ gs. LiesUnder gs id) (sym (its_granules t global gs e is).0) (names_under log t gs id says.1 h)
own_lies log t (Change q before image) e id is says h = cc
own_lies log t _ e id is says h = cc

its_txn : (t : ℕ) (p : Payload) (e : LoggedDoubt) → doubt_by t p ≡ Some e → (e.txn ≡ t) × ((id : Rid) → changes_id id p ≡ false)
its_txn t (Prepare global gs) e is = ((its_granules t global gs e is).1, λ id. refl)
its_txn t (Change q before image) e is = cc
its_txn t _ e is = cc

abbrev LieAllUnder : List LogRecord → Type 0
LieAllUnder log = (e : LoggedDoubt) (id : Rid) → IsAmong e (filter_map doubt_of log) → is_in_doubt e.txn log ≡ true → has (changes_id id) e.txn log ≡ true → LiesUnder e.granules id

false_before : (p : Payload → Bool) (t : ℕ) (log : List LogRecord) (r : LogRecord) → has p t (log ++ r ∷ []) ≡ false → has p t log ≡ false
false_before p t log r h = never_true (has p t log) (λ yes. true≢false (sym (has-more log r p t yes) ∙ h))

one_lies : (log : List LogRecord) (r : LogRecord) → MayFollow log r → LieAllUnder log → LieAllUnder (log ++ r ∷ [])
one_lies log r follows known e id among doubt changed =
    let after = log ++ r ∷ [] in
    let parts = in_doubt_parts (has is_prepare e.txn after) (has is_commit e.txn after) (has is_rollback e.txn after) doubt in
    let uncommitted = false_before is_commit e.txn log r parts.1 in
    let unrolled = false_before is_rollback e.txn log r parts.2 in
    ⊎_elim
    (λ old.
    let prepared = doubt_has_prepare e log old in
    let was : is_in_doubt e.txn log ≡ true =
    ap (λ b. b && not (has is_commit e.txn log) && not (has is_rollback e.txn log)) prepared ∙ ap (λ b. not b && not (has is_rollback e.txn log)) uncommitted ∙ ap not unrolled in
    ⊎_elim
    (λ before. known e id old was before)
    (λ new.
    let both = and_true (r.txn == e.txn) (changes_id id r.payload) new in
    let own : r.txn ≡ e.txn = eqb-true r.txn e.txn both.0 in
    absurd (prepared_changes_none log r.txn r.payload id follows.says (ap (λ t. has is_prepare t log) own ∙ prepared) (ap (λ t. has is_rollback t log) own ∙ unrolled) both.1))
    (or_true (has (changes_id id) e.txn log) ((r.txn == e.txn) && changes_id id r.payload) (sym (has-push log r (changes_id id) e.txn) ∙ changed)))
    (λ new. its_own new)
    (among_append e (filter_map doubt_of log) (cons_option (doubt_of r) []) (subst (IsAmong e) (filter_map-append doubt_of log (r ∷ [])) among))
  where
    its_own : IsAmong e (cons_option (doubt_of r) []) → LiesUnder e.granules id
    its_own = elim (doubt_of r) as (λ o. doubt_of r ≡ o → IsAmong e (cons_option o []) → LiesUnder e.granules id) [
      | None ↦ λ is new. absurd new
      | Some c ↦ λ is new. ⊎_elim
          (λ same.
          let by : doubt_by r.txn r.payload ≡ Some e = is ∙ ap Some same in
          let own = its_txn r.txn r.payload e by in
          own_lies log r.txn r.payload e id by follows.says
          (ap (λ t. has (changes_id id) t log) (sym own.0) ∙ sym (has-not_this log r (changes_id id) e.txn (own.1 id)) ∙ changed))
          (λ no. absurd no) new
    ] refl

pub doubts_lie_under : (log : List LogRecord) → Lawful log → LieAllUnder log
doubts_lie_under log lawful = by_records LieAllUnder (λ e id among doubt changed. absurd among) one_lies log lawful

-- a transaction with a Prepare is one
zero_or_more : (t : ℕ) → false ≡ (t == 0) → 0 < t
zero_or_more zero e = cc
zero_or_more (suc n) e = omega arith

prepared_above : (log : List LogRecord) → Lawful log → (t : ℕ) → has is_prepare t log ≡ true → 0 < t
prepared_above log lawful = by_records (λ xs. (t : ℕ) → has is_prepare t xs ≡ true → 0 < t) (λ t h. cc) one_more log lawful
  where
    no_checkpoint : (p : Payload) → is_prepare p ≡ true → is_of_checkpoint p ≡ false
    no_checkpoint (Prepare global gs) h = refl
    no_checkpoint _ h = cc

    one_more : (xs : List LogRecord) (r : LogRecord) → MayFollow xs r → ((t : ℕ) → has is_prepare t xs ≡ true → 0 < t) → (t : ℕ) → has is_prepare t (xs ++ r ∷ []) ≡ true → 0 < t
    one_more xs r follows known t h = ⊎_elim
        (λ old. known t old)
        (λ new. let both = and_true (r.txn == t) (is_prepare r.payload) new in
        subst (λ t. 0 < t) (eqb-true r.txn t both.0) (zero_or_more r.txn (sym (no_checkpoint r.payload both.1) ∙ follows.of)))
        (or_true (has is_prepare t xs) ((r.txn == t) && is_prepare r.payload) (sym (has-push xs r is_prepare t) ∙ h))

-- ---- undo lists

-- the images put back, from the last to the first, are the Changes undone, from the newest on
pub images_undone : (R : Records) (id : Rid) (cs : List UnansweredChange) → get (rolled_back R (reverse (map (λ c. (c.id, c.before)) cs))) id ≡ image_undone (get R id) id cs
images_undone R id [] = refl
images_undone R id (c ∷ cs) =
    let e : Rid × Image = (c.id, c.before) in
    ap (λ es. get (rolled_back R es) id) (reverse-append (e ∷ []) (map (λ c. (c.id, c.before)) cs))
    ∙ ap (λ S. get S id) (laid_over-append R (reverse (map (λ c. (c.id, c.before)) cs)) (e ∷ []))
    ∙ images_undone (put_image R c.id c.before) id cs
    ∙ ap (λ i. image_undone i id cs) (put_at (eq_by_cmp rid_cmp id c.id) refl)
  where
    put_at : (b : Bool) → eq_by_cmp rid_cmp id c.id ≡ b → get (put_image R c.id c.before) id ≡ cond b c.before (get R id)
    put_at true e = ap (get (put_image R c.id c.before)) (same_id id c.id e) ∙ put_here R c.id c.before
    put_at false e = put_there R c.id c.before id e

each_reversed : {A : Type 0} (P : A → Type 0) (xs : List A) → AllByRecursion P xs → AllByRecursion P (reverse xs)
each_reversed P [] h = tt
each_reversed {A = A} P (x ∷ xs) h = subst (AllByRecursion P) (sym (reverse-append (x ∷ []) xs)) (joined (reverse xs) (each_reversed P xs h.1))
  where
    joined : (ys : List A) → AllByRecursion P ys → AllByRecursion P (ys ++ x ∷ [])
    joined [] k = (h.0, tt)
    joined (y ∷ ys) k = (k.0, joined ys k.1)

-- ---- global ids

same_texts : (xs ys : List ℕ) → pointwise nat_eq xs ys ≡ true → xs ≡ ys
same_texts [] [] h = refl
same_texts [] (y ∷ ys) h = cc
same_texts (x ∷ xs) [] h = cc
same_texts (x ∷ xs) (y ∷ ys) h =
    let both = and_true (x == y) (pointwise nat_eq xs ys) h in
    ap (λ n. n ∷ xs) (eqb-true x y both.0) ∙ ap (λ zs. y ∷ zs) (same_texts xs ys both.1)

last_is : (p : ℕ × List ℕ) (ps : List (ℕ × List ℕ)) (found : Bool) → ((q : ℕ × List ℕ) → IsAmong q ps → q.1 ≡ p.1 → q.0 ≡ p.0) → (start : _)
    → (IsAmong p ps ⊎ (start ≡ Some p.0)) → last_under p.1 start ps ≡ Some p.0
last_is p [] found one start (inl h) = absurd h
last_is p [] found one start (inr e) = e
last_is p (q ∷ ps) found one start h =
    elim (pointwise nat_eq q.1 p.1) as (λ b. pointwise nat_eq q.1 p.1 ≡ b → last_under p.1 (cond b (Some q.0) start) ps ≡ Some p.0) [
      | true ↦ λ e. last_is p ps found (λ r a. one r (inr a)) (Some q.0) (inr (ap Some (one q (inl refl) (same_texts q.1 p.1 e))))
      | false ↦ λ e. last_is p ps found (λ r a. one r (inr a)) start (⊎_elim
          (λ among. ⊎_elim (λ same. absurd (true≢false (sym (same_text p.1) ∙ ap (λ (q : ℕ × List ℕ). pointwise nat_eq q.1 p.1) (sym same) ∙ e))) (λ later. inl later) among)
          (λ at. inr at) h)
    ] refl

-- ---- the open

module _ (o : Opening) (log : List LogRecord) (s : Sessions) (h : IsOpenOn o log s) where
  now_same : o.records ≡ records_committed log
  now_same = h.opening.records

  -- who is under way is in doubt in the log, and the other way round
  pub doubt_at : (t : ℕ) → IsAmong t (txns_of s.active) → (e : LoggedDoubt) × IsAmong e (doubts_in log) × (e.txn ≡ t)
  doubt_at t b =
      let d = mapped_one (λ (d : InDoubt). d.txn) t o.in_doubt (subst (IsAmong t) h.active b) in
      let pair = subst (IsAmong (d.0.txn, d.0.global)) h.opening.in_doubt (among_map (λ (d : InDoubt). (d.txn, d.global)) d.0 o.in_doubt d.1) in
      let e = mapped_one pair_logged (d.0.txn, d.0.global) (doubts_in log) pair in
      (e.0, e.1, ap (λ (p : ℕ × List ℕ). p.0) e.2 ∙ d.2)

  there_at : (e : LoggedDoubt) → IsAmong e (doubts_in log) → IsAmong e.txn (txns_of s.active)
  there_at e a =
      let pair = subst (IsAmong (pair_logged e)) (sym h.opening.in_doubt) (among_map pair_logged e (doubts_in log) a) in
      let d = mapped_one (λ (d : InDoubt). (d.txn, d.global)) (pair_logged e) o.in_doubt pair in
      subst (IsAmong e.txn) (sym h.active) (subst (λ t. IsAmong t (map (λ d. d.txn) o.in_doubt)) (ap (λ (p : ℕ × List ℕ). p.0) d.2) (among_map (λ (d : InDoubt). d.txn) d.0 o.in_doubt d.1))

  in_doubt_logged : (u : ℕ) → is_in_doubt u log ≡ true → IsAmong u (map (λ d. d.txn) (doubts_in log))
  in_doubt_logged u is =
      subst (IsAmong u) (doubt_txns log)
      (among_filtered u (λ u. is_in_doubt u log) is (filter_map prepare_of log)
      (among_prepared u log (in_doubt_parts (has is_prepare u log) (has is_commit u log) (has is_rollback u log) is).0))

  module _ (t : ℕ) (b : IsAmong t (txns_of s.active)) where
    doubt : LoggedDoubt
    doubt = (doubt_at t b).0

    is_doubt : is_in_doubt t log ≡ true
    is_doubt = subst (λ t. is_in_doubt t log ≡ true) (doubt_at t b).2 (among_filter (λ (d : LoggedDoubt). is_in_doubt d.txn log) (doubt_at t b).0 (filter_map doubt_of log) (doubt_at t b).1).1

    not_over : is_over t log ≡ false
    not_over = doubt_not_over log h.lawful t is_doubt

    -- what is given for it
    given : (d : InDoubt) × IsAmong d o.in_doubt × (d.txn ≡ t) × (writes_given o.in_doubt t ≡ Some d.writes)
    given = given_one o.in_doubt t (subst (IsAmong t) h.active b)

    abbrev W : WriteSet
    W = written_by o [] t

    W_given : W ≡ given.0.writes
    W_given = ap (λ g. (progress_from g []).writes) given.3

    has_written : HasWritten log t W
    has_written = subst (HasWritten log t) (sym W_given) (subst (λ u. HasWritten log u given.0.writes) given.2 (h.opening.written given.0 given.1))

    -- what it has changed it may write
    may_write : (id : Rid) → has (changes_id id) t log ≡ true → MayWrite s.held t id
    may_write id changed =
        let e = doubt_at t b in
        let under = doubts_lie_under log h.lawful e.0 id (among_filter (λ (d : LoggedDoubt). is_in_doubt d.txn log) e.0 (filter_map doubt_of log) e.1).0
        (ap (λ t. is_in_doubt t log) e.2 ∙ is_doubt) (ap (λ t. has (changes_id id) t log) e.2 ∙ changed) in
        let g = lying e.0.granules id under in
        subst (λ t. MayWrite s.held t id) e.2 (writes_under s.held e.0.txn g.0 id (h.locks.all e.0 g.0 e.1 g.1) g.2)

    -- it is the writer of what it has changed
    writer : (id : Rid) → has (changes_id id) t log ≡ true → HasWriter log id t
    writer id changed = as_writer (one_writer_at_most log h.lawful id)
      where
        as_writer : HasOneWriterAtMost log id → HasWriter log id t
        as_writer (inl none) = absurd (true≢false (sym (none.over t changed) ∙ not_over))
        as_writer (inr one) = ⊎_elim (λ same. subst (HasWriter log id) (sym same) one.1) (λ other. absurd (true≢false (sym (one.1.others t other changed) ∙ not_over))) (same_or_not t one.0)

    -- what it may read and has not changed is as it was committed
    unchanged : (id : Rid) → MayRead s.held t id → has (changes_id id) t log ≡ false → image_of_record log id ≡ image_committed log id
    unchanged id reads none = by_writer (one_writer_at_most log h.lawful id)
      where
        of_other : (u : ℕ) → HasWriter log id u → ⊥
        of_other u w =
            let other : t ≢ u = λ same. true≢false (sym w.changed ∙ ap (λ v. has (changes_id id) v log) (sym same) ∙ none) in
            let doubt_of_u = writers_in_doubt log h.lawful h.no_losers u id w.changed w.not_over in
            let e = mapped_one (λ (d : LoggedDoubt). d.txn) u (doubts_in log) (in_doubt_logged u doubt_of_u) in
            let under = doubts_lie_under log h.lawful e.0 id (among_filter (λ (d : LoggedDoubt). is_in_doubt d.txn log) e.0 (filter_map doubt_of log) e.1).0
            (ap (λ t. is_in_doubt t log) e.2 ∙ doubt_of_u) (ap (λ t. has (changes_id id) t log) e.2 ∙ w.changed) in
            let g = lying e.0.granules id under in
            let r = reads_under h.doubts h.locks t id reads in
            h.doubts.apart r.doubt e.0 r.granule g.0 r.among e.1 (λ same. other (r.its ∙ same ∙ e.2)) r.named g.1 (on_one_path id r.granule g.0 r.on g.2)

        by_writer : HasOneWriterAtMost log id → image_of_record log id ≡ image_committed log id
        by_writer (inl f) = f.image
        by_writer (inr w) = absurd (of_other w.0 w.1)

    unlogged_elsewhere : (id : Rid) → has (changes_id id) t log ≡ false → get W id ≡ None
    unlogged_elsewhere id none = has_written.unlogged id (writes_none log t id none)

    -- ---- what it sees

    sees : Sees s.held o.records s.records t W
    sees = record {
      view = λ id r. h.records id ∙ ⊎_elim
          (λ changed. has_written.logged id (image_of_record log id) (writer id changed).written ∙ ap (λ R. get (overlay R W) id) (sym now_same))
          (λ none. unchanged id r none ∙ ap (λ R. get R id) (sym now_same) ∙ sym (overlay_none o.records W id (unlogged_elsewhere id none)))
          (cases_Bool (has (changes_id id) t log));
      locked = λ id some. ⊎_elim (λ changed. may_write id changed) (λ none. absurd (not_some (unlogged_elsewhere id none) some)) (cases_Bool (has (changes_id id) t log));
    }

    -- ---- what undoes it

    abbrev cs : List UnansweredChange
    cs = unanswered t log

    images_writable : AllByRecursion (λ (e : Rid × Image). MayWrite s.held t e.0) (undo_in log t).images
    images_writable = each_reversed (λ (e : Rid × Image). MayWrite s.held t e.0) (map (λ c. (c.id, c.before)) cs) (over cs (unanswered_known log t))
      where
        over : (us : List UnansweredChange) → AreKnown log t us → AllByRecursion (λ (e : Rid × Image). MayWrite s.held t e.0) (map (λ c. (c.id, c.before)) us)
        over [] k = tt
        over (c ∷ us) k = (may_write c.id k.0, over us k.1)

    images_logged : AreLogged log t (undo_in log t).images
    images_logged = each_reversed (λ (e : Rid × Image). IsSome (get (logged_writes log t) e.0)) (map (λ c. (c.id, c.before)) cs) (over cs (unanswered_known log t))
      where
        over : (us : List UnansweredChange) → AreKnown log t us → AllByRecursion (λ (e : Rid × Image). IsSome (get (logged_writes log t) e.0)) (map (λ c. (c.id, c.before)) us)
        over [] k = tt
        over (c ∷ us) k = (changed_logged log t c.id k.0, over us k.1)

    undoes : CanUndo s.held o.records s.records t (undo_in log t) (progress_in o [] t)
    undoes = subst (λ g. CanUndo s.held o.records s.records t (undo_in log t) (progress_from g [])) (sym given.3) (record {
      changed = images_writable;
      whole = record {
        within = omega arith;
        view = λ id r.
            images_undone s.records id cs ∙ ap (λ i. image_undone i id cs) (h.records id)
            ∙ ⊎_elim (λ changed. (writer id changed).undoes)
            (λ none. undone_elsewhere log t id none (image_of_record log id) cs (unanswered_known log t) ∙ unchanged id r none)
            (cases_Bool (has (changes_id id) t log))
            ∙ ap (λ R. get R id) (sym now_same) ∙ ap (λ R. get R id) (sym (overlay_empty o.records));
        locked = λ id some. absurd (not_some (get-empty rid_cmp id) some);
      };
      savepoints = tt;
      rise = tt;
      complete = λ none. refl;
    })

    -- ---- what it has logged

    logged : HasLogged s.held s.records t (progress_in o [] t) (logged_writes log t)
    logged = record {
      in_place = λ id image at. ⊎_elim
          (λ changed. (h.records id ∙ same_some (sym (writer id changed).written ∙ at), may_write id changed))
          (λ none. absurd (none_is_some (sym (writes_none log t id none) ∙ at)))
          (cases_Bool (has (changes_id id) t log));
      unwritten = has_written.unlogged;
      unsaved = λ id none. subst (λ g. AllByRecursion (λ W. get W id ≡ None) (progress_from g []).saved) (sym given.3) tt;
    }
      where
        same_some : {x y : Image} → Some x ≡ Some y → x ≡ y
        same_some e = cc

        none_is_some : {x : Image} → None ≡ Some x → ⊥
        none_is_some e = cc

  -- at an id that nobody under way has written what is committed stands
  others_committed : (id : Rid) → ((t : ℕ) → IsAmong t (txns_of s.active) → get (written_by o [] t) id ≡ None) → get s.records id ≡ get o.records id
  others_committed id none = h.records id ∙ by_writer (one_writer_at_most log h.lawful id) ∙ ap (λ R. get R id) (sym now_same)
    where
      by_writer : HasOneWriterAtMost log id → image_of_record log id ≡ image_committed log id
      by_writer (inl f) = f.image
      by_writer (inr w) =
          let e = mapped_one (λ (d : LoggedDoubt). d.txn) w.0 (doubts_in log) (in_doubt_logged w.0 (writers_in_doubt log h.lawful h.no_losers w.0 id w.1.changed w.1.not_over)) in
          let b = subst (λ t. IsAmong t (txns_of s.active)) e.2 (there_at e.0 e.1) in
          (has_written w.0 b).logged id (image_of_record log id) w.1.written ∙ overlay_none (records_committed log) (written_by o [] w.0) id (none w.0 b)

  doubts_same : in_doubt_of s ≡ txns_of s.active
  doubts_same = ap (map (λ p. p.txn)) h.prepared ∙ found_txns o.in_doubt ∙ sym h.active

  pairs_same : pairs_of s.prepared ≡ map pair_logged (doubts_in log)
  pairs_same = ap pairs_of h.prepared ∙ found_pairs o.in_doubt ∙ h.opening.in_doubt
    where
      found_pairs : (ds : List InDoubt) → pairs_of (map found_in_doubt ds) ≡ map (λ d. (d.txn, d.global)) ds
      found_pairs [] = refl
      found_pairs (d ∷ ds) = ap (λ ps. (d.txn, d.global) ∷ ps) (found_pairs ds)

  txn_below : (t : ℕ) → IsAmong t (txns_of s.active) → t < s.next_txn
  txn_below t b = in_log t log h.below (in_doubt_parts (has is_prepare t log) (has is_commit t log) (has is_rollback t log) (is_doubt t b)).0
    where
      in_log : (t : ℕ) (rs : List LogRecord) → AllByRecursion (λ r. r.txn < s.next_txn) rs → has is_prepare t rs ≡ true → t < s.next_txn
      in_log t [] k e = cc
      in_log t (r ∷ rs) k e = ⊎_elim
          (λ here. subst (λ t. t < s.next_txn) (eqb-true r.txn t (and_true (r.txn == t) (is_prepare r.payload) here).0) k.0)
          (λ later. in_log t rs k.1 later)
          (or_true ((r.txn == t) && is_prepare r.payload) (has is_prepare t rs) e)

  pub is_just_opened : IsJustOpened o s
  is_just_opened = record {
    slots = h.slots;
    seats = h.seats;
    resolving = h.resolving;
    prepared = h.prepared;
    active = h.active;
    once = h.once;
    unrolled = λ a m. ap (λ (u : UndoList). u.rolling) (h.undo_lists a m);
    stand = record {
      harmony = restored_in_harmony h.doubts h.locks;
      each = λ t b. sees t b;
      others = others_committed;
    };
    undoes = λ a m. subst (λ u. CanUndo s.held o.records s.records a.txn u (progress_in o [] a.txn)) (sym (h.undo_lists a m)) (undoes a.txn (txn_among a s.active m));
    under = λ p a. last_is p (pairs_of s.prepared) true (λ q b same.
        let d = mapped_one pair_logged q (doubts_in log) (subst (IsAmong q) pairs_same b) in
        let e = mapped_one pair_logged p (doubts_in log) (subst (IsAmong p) pairs_same a) in
        ap (λ (p : ℕ × List ℕ). p.0) (sym d.2)
        ∙ h.doubts.differ d.0 e.0 d.1 e.1 (ap (λ (p : ℕ × List ℕ). p.1) d.2 ∙ same ∙ ap (λ (p : ℕ × List ℕ). p.1) (sym e.2))
        ∙ ap (λ (p : ℕ × List ℕ). p.0) e.2) None (inl a);
    some = h.some;
    found = found_low o.in_doubt (λ t b. txn_below t (subst (IsAmong t) (sym h.active) b));
    unheld = held_low;
  }
    where
      found_low : (ds : List InDoubt) → ((t : ℕ) → IsAmong t (map (λ d. d.txn) ds) → t < s.next_txn) → All (λ (d : InDoubt). d.txn < s.next_txn) ds
      found_low ds f = All-from_recursion (λ (d : InDoubt). d.txn < s.next_txn) ds (over ds f)
        where
          over : (ds : List InDoubt) → ((t : ℕ) → IsAmong t (map (λ d. d.txn) ds) → t < s.next_txn) → AllByRecursion (λ (d : InDoubt). d.txn < s.next_txn) ds
          over [] f = tt
          over (d ∷ ds) f = (f d.txn (inl refl), over ds (λ t b. f t (inr b)))

      held_low : All (λ (h : Hold). h.txn < s.next_txn) s.held
      held_low = All-weaker (Contains s.held) (λ (h : Hold). h.txn < s.next_txn)
          (λ i c. let r = h.locks.each i c in subst (λ t. t < s.next_txn) (sym r.3) (txn_below r.0.txn (there_at r.0 r.2))) s.held (All-contains_itself s.held)

  pub open_has_log : IsLogAfter o [] s log
  open_has_log = record {
    tells_serial = record {
      tells = sym now_same;
      uncommitted = λ t b. uncommitted_apart t log (in_doubt_parts (has is_prepare t log) (has is_commit t log) (has is_rollback t log) (is_doubt t b)).1;
      each = λ t b. logged t b;
    };
    undo_logged = λ a m. subst (λ (u : UndoList). AreLogged log a.txn u.images) (sym (h.undo_lists a m)) (images_logged a.txn (txn_among a s.active m));
    below = h.below;
  }

  pub open_tracks_doubts : TracksDoubts log s
  open_tracks_doubts = record {
    in_doubt = sym pairs_same;
    hold = λ e g a c. h.locks.all e g a c;
    free = λ t b is. absurd (is.0 (subst (IsAmong t) (sym doubts_same) b));
    rolled = λ t b r. absurd (subst (λ rs. IsAmong t (map (λ r. r.txn) rs)) h.resolving r);
    stand = h.doubts;
  }

  pub open_is_whole_log : IsWholeLog log s
  open_is_whole_log = record {
    lawful = h.lawful;
    writers = λ t id changed runs.
        let e = mapped_one (λ (d : LoggedDoubt). d.txn) t (doubts_in log) (in_doubt_logged t (writers_in_doubt log h.lawful h.no_losers t id changed runs)) in
        subst (λ t. IsAmong t (txns_of s.active)) e.2 (there_at e.0 e.1);
    unended = λ t b. not_over t b;
    above = λ t b. prepared_above log h.lawful t (in_doubt_parts (has is_prepare t log) (has is_commit t log) (has is_rollback t log) (is_doubt t b)).0;
    undo_lists = λ a m.
        sym (reverse-reverse (map (λ c. (c.id, c.before)) (unanswered a.txn log))) ∙ ap (λ (u : UndoList). reverse u.images) (sym (h.undo_lists a m));
    some = h.some;
  }

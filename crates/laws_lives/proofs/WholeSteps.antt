-- What each event appends keeps the log whole.
use Rattle.std.proofs.Common.{◌≡◌, ◌≢◌, ◌<◌, ◌+◌, ◌⊎◌, inl, inr, ⊎_elim, ℕ, List, [], ◌∷◌, ◌++◌, true, false, cond, map, Option, Some, None, Result, Ok, Err, refl, sym, ap, subst, ◌∙◌, drop, take, length, arith, take-append-drop}
use Rattle.std.specs.Prelude.{◌==◌, ◌&&◌, ◌||◌, Contains, IfSome, IsSome, IsTrue, not}
use Rattle.std.specs.FinMap.{get, insert}
use Rattle.std.specs.List.{AllByRecursion, filter_map}
use Rattle.std.proofs.lemmas.Bool.{eq-eqb, eqb-true, ne_eqb, true≢false}
use Rattle.std.proofs.lemmas.List.Elements.{All-contains, All-from_recursion, recursion_from_All}
use Rattle.shore_types.specs.declared.locking.Granule.{Granule}
use Rattle.shore_types.specs.declared.locking.Granule.TheVariants.{Record}
use Rattle.shore_model.specs.declared.holds.Hold.{Hold}
use Rattle.shore_model.specs.declared.unanswered_changes.UnansweredChange.{UnansweredChange}
use Rattle.shore_model.specs.Modes.{is_write}
use Rattle.laws_lives.proofs.Booleans.{and_true, or_right, or_true}
use Rattle.laws_lives.proofs.DoubtRecords.{among_filter}
use Rattle.laws_lives.proofs.Ids.{wrote_here}
use Rattle.laws_lives.proofs.InPlace.{has_image}
use Rattle.laws_lives.proofs.LogTells.{logged_own}
use Rattle.laws_lives.proofs.LoggedUndos.{record_still}
use Rattle.laws_lives.proofs.Steps.{prepared_among}
use Rattle.laws_lives.specs.Doubts.{TracksDoubts, doubt_of, doubts_in, pair_logged}
use Rattle.shore_types.specs.Images.{Image}
use Rattle.shore_types.specs.declared.faults.Fault.{Fault}
use Rattle.shore_types.specs.declared.ids.Rid.{Rid}
use Rattle.shore_model.specs.declared.histories.Opening.{Opening}
use Rattle.shore_model.specs.declared.calls.Answer.{Answer}
use Rattle.shore_model.specs.declared.calls.Answer.TheVariants.{Inserted}
use Rattle.shore_model.specs.declared.calls.Call.{Call}
use Rattle.shore_model.specs.declared.calls.Call.TheVariants as call
use Rattle.shore_model.specs.declared.histories.Entry.{Entry}
use Rattle.shore_model.specs.declared.log_records.LogRecord.{LogRecord}
use Rattle.shore_model.specs.declared.log_records.Payload.{Payload}
use Rattle.shore_model.specs.declared.log_records.Payload.TheVariants.{Change, Compensation, Commit, End, Prepare, RollbackDecided}
use Rattle.shore_model.specs.Locks.{MayWrite, path}
use Rattle.shore_model.specs.Logs.{KeepsUnder, LieUnder, LiesUnder, MayFollow, answered_by, has, id_in, image_in, is_commit, is_end, is_in_doubt, is_over, is_prepare, is_rollback, is_undoable, is_unprepared, last_of, logged_writes, previous_of, unanswered, with_image}
use Rattle.shore_model.specs.Records.{Records, WriteSet, put_image}
use Rattle.laws_lives.proofs.OneMore.{by_push, changed_there, has-not_this, has-push, same_id}
use Rattle.laws_lives.proofs.UndoEnds.{has_known}
use Rattle.laws_lives.proofs.UndoRecords.{lawful_next}
use Rattle.laws_lives.proofs.Writers.{same_or_not}
use Rattle.laws_lives.specs.Writers.{changes_id}
use Rattle.laws_lives.proofs.EndedTxns.{over_now, over_other}
use Rattle.laws_lives.proofs.Lists.{among_map, mapped_one, recursion-unpush, recursion-weaker}
use Rattle.laws_lives.proofs.Members.{among_with, among_without, txn_among, txn_stays, txn_without, txns_with}
use Rattle.laws_lives.proofs.UnansweredChanges.{change_matches, compensations_match, unanswered_other, unanswered_own}
use Rattle.shore_model.specs.declared.rollbacks.Rollback.{Rollback}
use Rattle.shore_model.specs.declared.rollbacks.Rollback.TheVariants.{Whole}
use Rattle.laws_lives.specs.LogTells.{IsLogAfter, MatchesUndo}
use Rattle.laws_lives.specs.Logged.{and_compensations, and_record, log_after, log_after_answer, log_after_reply}
use Rattle.laws_lives.specs.RepliesInPlace.{MayReplyInPlace, Permit}
use Rattle.laws_lives.specs.SessionSteps.{AnswerAbort, AnswerInDoubt, AnswerPrepare, AnswerResolve, AppendCommit, AppendPrepare, AppendResolve, AppendRollback, AreExclusive, Ask, BeginTxn, Doom, EndRollback, GiveReply, MoveLocks, PutBack, RefuseCall, SessionEvent, StepsTo}
use Rattle.laws_lives.specs.Sessions.{IsFree, PreparedTxn, SessionTxn, Sessions, doomed, in_doubt_of, pair_of, resolved_of, image_put_back, reply_given, txn_begun, txns_of, with_undo, without_txn}
use Rattle.laws_lives.specs.Soundness.{IsSoundAfter}
use Rattle.laws_lives.specs.UndoLists.{UndoList, in_place_after, mark_of, undo_after, undo_after_answer, undo_rolled}
use Rattle.laws_lives.specs.Views.{IsAmong}
use Rattle.laws_lives.proofs.WholeLogs.{HasMoreOf, compensations_on, image_in_place, is_of_txn, names_change, no_more, one_more, others_have_ended, undoable_after}
use Rattle.laws_lives.specs.WholeLogs.{IsWholeLog}

-- ---- a number that no record has yet

abbrev HasNoRecord : ℕ → List LogRecord → Type 0
HasNoRecord t log = AllByRecursion (λ r. r.txn ≢ t) log

last_of_all : (t : ℕ) (log : List LogRecord) (r : LogRecord) → HasNoRecord t (log ++ r ∷ []) → r.txn ≢ t
last_of_all t [] r h = h.0
last_of_all t (q ∷ log) r h = last_of_all t log r h.1

unrecorded_unanswered : (t : ℕ) (log : List LogRecord) → HasNoRecord t log → unanswered t log ≡ []
unrecorded_unanswered t =
    by_push (λ log. HasNoRecord t log → unanswered t log ≡ []) (λ h. refl)
    (λ log r so_far h. unanswered_other t log r (last_of_all t log r h) ∙ so_far (recursion-unpush (λ r. r.txn ≢ t) log r h))

unrecorded_not_over : (t : ℕ) (log : List LogRecord) → HasNoRecord t log → is_over t log ≡ false
unrecorded_not_over t =
    by_push (λ log. HasNoRecord t log → is_over t log ≡ false) (λ h. refl)
    (λ log r so_far h. over_other log r t (last_of_all t log r h) ∙ so_far (recursion-unpush (λ r. r.txn ≢ t) log r h))

pub among_or_not : (t : ℕ) (us : List ℕ) → IsAmong t us ⊎ (IsAmong t us → ⊥)
among_or_not t [] = inr (λ h. h)
among_or_not t (u ∷ us) = ⊎_elim
    (λ same. inl (inl same))
    (λ other. ⊎_elim (λ later. inl (inr later)) (λ none. inr (λ h. ⊎_elim other none h)) (among_or_not t us))
    (same_or_not u t)

-- ---- what a transaction has changed lies under the granules that it holds exclusively

-- an id that it has changed it has logged an image for
image_there : (q : Rid) (p : Payload) (W : WriteSet) → changes_id q p ≡ true → IsSome (get (with_image W (image_in p)) q)
image_there q (Change id before after) W h = subst (λ i. IsSome (get (insert W i after) q)) (same_id q id h) (subst IsSome (sym (wrote_here W q after)) refl)
image_there q (Compensation id after undo_next) W h = subst (λ i. IsSome (get (insert W i after) q)) (same_id q id h) (subst IsSome (sym (wrote_here W q after)) refl)
image_there q _ W h = cc

pub changed_logged : (log : List LogRecord) (t : ℕ) (q : Rid) → has (changes_id q) t log ≡ true → IsSome (get (logged_writes log t) q)
changed_logged = by_push (λ log. (t : ℕ) (q : Rid) → has (changes_id q) t log ≡ true → IsSome (get (logged_writes log t) q)) (λ t q h. cc) one_more_record
  where
    one_more_record : (log : List LogRecord) (r : LogRecord) → ((t : ℕ) (q : Rid) → has (changes_id q) t log ≡ true → IsSome (get (logged_writes log t) q))
        → (t : ℕ) (q : Rid) → has (changes_id q) t (log ++ r ∷ []) ≡ true → IsSome (get (logged_writes (log ++ r ∷ []) t) q)
    one_more_record log r known t q h = ⊎_elim
        (λ old. record_still t log r q (known t q old))
        (λ new. let both = and_true (r.txn == t) (changes_id q r.payload) new in
        subst (λ W. IsSome (get W q)) (sym (logged_own log r t (eqb-true r.txn t both.0))) (image_there q r.payload (logged_writes log t) both.1))
        (or_true (has (changes_id q) t log) ((r.txn == t) && changes_id q r.payload) (sym (has-push log r (changes_id q) t) ∙ h))

-- what a log has changed lies under granules under which each record lies
pub names_under : (log : List LogRecord) (t : ℕ) (granules : List Granule) (id : Rid) → LieUnder log t granules → has (changes_id id) t log ≡ true → LiesUnder granules id
names_under log t granules id under h = one_of log (recursion_from_All (KeepsUnder t granules) log under) h
  where
    one_of : (rs : List LogRecord) → AllByRecursion (KeepsUnder t granules) rs → has (changes_id id) t rs ≡ true → LiesUnder granules id
    one_of [] k h = cc
    one_of (r ∷ rs) k h = ⊎_elim
        (λ here. let both = and_true (r.txn == t) (changes_id id r.payload) here in
        if_some (id_in r.payload) (changed_there id r.payload both.1) (k.0 (eqb-true r.txn t both.0)))
        (λ later. one_of rs k.1 later)
        (or_true ((r.txn == t) && changes_id id r.payload) (has (changes_id id) t rs) h)
      where
        if_some : (i : Option Rid) → i ≡ Some id → IfSome i (LiesUnder granules) → LiesUnder granules id
        if_some i e h = subst (λ i. IfSome i (LiesUnder granules)) e h

pub as_lying : (granules : List Granule) (id : Rid) (g : Granule) → Contains granules g → Contains (path (Record id)) g → LiesUnder granules id
unfolding LiesUnder
as_lying granules id g c on = (c.0, g, c.1, c.2, on)

-- a granule that it lies under
pub lying : (granules : List Granule) (id : Rid) → LiesUnder granules id → (g : Granule) × Contains granules g × Contains (path (Record id)) g
unfolding LiesUnder
lying granules id h = (h.1, (h.0, h.2, h.3), h.4)

write_lies_under : (held : List Hold) (t : ℕ) (granules : List Granule) (id : Rid) → AreExclusive held t granules → MayWrite held t id → LiesUnder granules id
unfolding LiesUnder
write_lies_under held t granules id exclusive w =
    let c = All-contains (λ (h : Hold). h.txn ≡ t → IsTrue (is_write h.mode) → Contains granules h.granule) held w.1 exclusive.all (w.0, w.2, w.3) w.4.0 w.4.2 in
    (c.0, w.1.granule, c.1, c.2, w.4.1)

pub lies_under : {o : Opening} {es : List Entry} {s : Sessions} {log : List LogRecord} → IsLogAfter o es s log → (t : ℕ) → IsAmong t (txns_of s.active) → (granules : List Granule)
    → AreExclusive s.held t granules → LieUnder log t granules
lies_under {o} {es} {s} {log} l t among granules exclusive = All-from_recursion (KeepsUnder t granules) log (each log (λ id h. h))
  where
    at_id : (id : Rid) → has (changes_id id) t log ≡ true → LiesUnder granules id
    at_id id h =
        let image = has_image (get (logged_writes log t) id) (changed_logged log t id h) in
        write_lies_under s.held t granules id exclusive ((l.tells_serial.each t among).in_place id image.0 image.1).1

    one : (r : LogRecord) → ((id : Rid) → changes_id id r.payload ≡ true → LiesUnder granules id) → IfSome (id_in r.payload) (LiesUnder granules)
    one r h = elim (id_in r.payload) as (λ i. id_in r.payload ≡ i → IfSome i (LiesUnder granules)) [
      | None ↦ λ e. tt
      | Some id ↦ λ e. h id (names_change id r e)
    ] refl

    each : (rs : List LogRecord) → ((id : Rid) → has (changes_id id) t rs ≡ true → has (changes_id id) t log ≡ true) → AllByRecursion (KeepsUnder t granules) rs
    each [] h = tt
    each (r ∷ rs) h = (
      λ own. one r (λ id e. at_id id (h id (ap (λ b. b || has (changes_id id) t rs) (ap (λ b. b && changes_id id r.payload) (eq-eqb r.txn t own) ∙ e)))),
      each rs (λ id e. h id (or_right ((r.txn == t) && changes_id id r.payload) (has (changes_id id) t rs) e)),
    )

module _ {o : Opening} {es : List Entry} {s : Sessions} {log : List LogRecord} (k : IsSoundAfter o es s) (l : IsLogAfter o es s log) (d : TracksDoubts log s) (w : IsWholeLog log s) where
  -- who is not in doubt may put back what it changed
  may_undo : (t : ℕ) → IsAmong t (txns_of s.active) → (IsAmong t (in_doubt_of s) → ⊥) → is_undoable t log ≡ true
  may_undo t b none = ⊎_elim
      (λ resolved. or_right (not (has is_prepare t log)) (has is_rollback t log) (d.rolled t b resolved).0)
      (λ free. ap (λ p. not p || has is_rollback t log) (d.free t b (none, free)).0)
      (among_or_not t (resolved_of s))

  may_change : (t : ℕ) → IsAmong t (txns_of s.active) → IsFree s t → is_unprepared t log ≡ true
  may_change t b is_free = ap not (d.free t b is_free).0

  module _ (a : SessionTxn) (mem : IsAmong a s.active) where
    under_way : IsAmong a.txn (txns_of s.active)
    under_way = txn_among a s.active mem

    not_over : is_over a.txn log ≡ false
    not_over = w.unended a.txn under_way

    above : 0 < a.txn
    above = w.above a.txn under_way

    -- ---- a reply

    -- the log goes on with records of this transaction, and has these images to undo
    record HasGone (more : List LogRecord) (images : List (Rid × Image)) : Type 0 where
      pub by : HasMoreOf a.txn log more
      pub undo : MatchesUndo more a.txn images

    unmoved : HasGone log a.undo.images
    unmoved = record { by = no_more a.txn log w.lawful; undo = w.undo_lists a mem }

    by_change : IsFree s a.txn → (id : Rid) (image : Image) → MayWrite s.held a.txn id
        → HasGone (and_record a.txn log (Change id (get s.records id) image)) (a.undo.images ++ (id, get s.records id) ∷ [])
    by_change is_free id image may =
        let p : Payload = Change id (get s.records id) image in
        record {
          by = one_more a.txn log log p (no_more a.txn log w.lawful) refl refl record {
            of = is_of_txn a.txn log above not_over p refl;
            previous = refl;
            not_over = not_over;
            says = (may_change a.txn under_way is_free, sym (image_in_place k l w id), others_have_ended k l w a.txn under_way id may);
          };
          undo = change_matches a.txn log a.undo.images id (get s.records id) image (w.undo_lists a mem);
        }

    back_to : IsFree s a.txn → (n : ℕ) → HasGone (and_compensations a.txn log (drop n a.undo.images)) (take n a.undo.images)
    back_to is_free n =
        let kept = take n a.undo.images in
        let undone = drop n a.undo.images in
        let split : MatchesUndo log a.txn (kept ++ undone) = subst (MatchesUndo log a.txn) (sym (take-append-drop n a.undo.images)) (w.undo_lists a mem) in
        record {
          by = compensations_on a.txn log above not_over (may_undo a.txn under_way is_free.0) kept undone w.lawful split;
          undo = compensations_match a.txn log kept undone split;
        }

    abbrev left_by_answer : Call → Answer → List (Rid × Image)
    left_by_answer c answer = (undo_after_answer s.records a.undo c answer).images

    by_insert : IsFree s a.txn → (store : ℕ) (bytes : List ℕ) (answer : Answer) → Permit s.held a.txn (call.Insert store bytes) answer
        → HasGone (log_after_answer log s.records a (call.Insert store bytes) answer) (left_by_answer (call.Insert store bytes) answer)
    by_insert is_free store bytes (Inserted id) may = by_change is_free id (Some bytes) may
    by_insert is_free store bytes _ may = unmoved

    by_answer : IsFree s a.txn → (c : Call) (answer : Answer) → Permit s.held a.txn c answer → HasGone (log_after_answer log s.records a c answer) (left_by_answer c answer)
    by_answer is_free (call.Insert store bytes) answer may = by_insert is_free store bytes answer may
    by_answer is_free (call.Update id bytes) answer may = by_change is_free id (Some bytes) may
    by_answer is_free (call.Delete id) answer may = by_change is_free id None may
    by_answer is_free (call.BackTo n) answer may = back_to is_free (mark_of a.undo n)
    by_answer is_free call.Savepoint answer may = unmoved
    by_answer is_free _ answer may = unmoved

    by_reply : IsFree s a.txn → (n : ℕ) (c : Call) (reply : Result Answer Fault) → MayReplyInPlace s.slots s.held a.txn s.records n c reply
        → HasGone (log_after_reply log s.records a c reply) (undo_after s.records a.undo c reply).images
    by_reply is_free n c (Ok answer) h = by_answer is_free c answer h.0
    by_reply is_free n c (Err fault) h = unmoved

    -- the transaction has this undo list then
    gone_stays_whole : (R : Records) (undo : UndoList) (more : List LogRecord) → HasGone more undo.images
        → IsWholeLog more record s { records = R; active = with_undo a.txn undo s.active }
    gone_stays_whole R undo more g =
        let same_txns = txns_with a.txn undo s.active in
        record {
          lawful = g.by.lawful;
          writers = λ u id h still. subst (IsAmong u) (sym same_txns) (⊎_elim
              (λ own. subst (λ v. IsAmong v (txns_of s.active)) (sym own) under_way)
              (λ other. w.writers u id (sym (g.by.changed u id other) ∙ h) (sym (g.by.over u) ∙ still))
              (same_or_not u a.txn));
          unended = λ u b. g.by.over u ∙ w.unended u (subst (IsAmong u) same_txns b);
          above = λ u b. w.above u (subst (IsAmong u) same_txns b);
          undo_lists = λ b member.
              let x = among_with a.txn undo b s.active member in
              ⊎_elim
              (λ now. subst (λ t. MatchesUndo more t b.undo.images) (sym now.0)
              (subst (λ (it : UndoList). MatchesUndo more a.txn it.images) (sym now.1) g.undo))
              (λ old.
              let there : IsAmong b s.active = subst (λ y. IsAmong y s.active) (sym old.1) x.there in
              ap (map (λ c. (c.id, c.before))) (g.by.others b.txn old.0) ∙ w.undo_lists b there)
              x.one;
          some = w.some;
        }

    pub reply_stays_whole : IsFree s a.txn → (c : Call) (reply : Result Answer Fault) → MayReplyInPlace s.slots s.held a.txn s.records (length a.undo.marks) c reply
        → IsWholeLog (log_after_reply log s.records a c reply) (reply_given s a c reply)
    reply_stays_whole is_free c reply served =
        gone_stays_whole (in_place_after s.records a.undo c reply) (undo_after s.records a.undo c reply) (log_after_reply log s.records a c reply)
        (by_reply is_free (length a.undo.marks) c reply served)

    -- ---- an image that is put back

    pub put_back_stays_whole : (IsAmong a.txn (in_doubt_of s) → ⊥) → (kept : List (Rid × Image)) (e : Rid × Image) (r : Rollback) → a.undo.images ≡ kept ++ e ∷ []
        → IsWholeLog (log_after log s (PutBack a kept e r)) (image_put_back s a kept e r)
    put_back_stays_whole none kept e r is =
        let newest : MatchesUndo log a.txn (kept ++ e ∷ []) = subst (MatchesUndo log a.txn) is (w.undo_lists a mem) in
        gone_stays_whole (put_image s.records e.0 e.1) (undo_rolled a.undo kept r) (log_after log s (PutBack a kept e r)) record {
          by = compensations_on a.txn log above not_over (may_undo a.txn under_way none) kept (e ∷ []) w.lawful newest;
          undo = compensations_match a.txn log kept (e ∷ []) newest;
        }

    -- ---- a doom: no record

    pub doom_stays_whole : IsWholeLog log (doomed s a)
    doom_stays_whole = gone_stays_whole s.records (undo_rolled a.undo a.undo.images Whole) log unmoved

    -- ---- an end

    module _ (more : List LogRecord) (by : HasMoreOf a.txn log more) (p : Payload) (follows : MayFollow more record { txn = a.txn; previous = previous_of a.txn more; payload = p })
        (no_change : (id : Rid) → changes_id id p ≡ false) (ends : (is_commit p ≡ true) ⊎ (is_end p ≡ true)) where
      abbrev r : LogRecord
      r = record { txn = a.txn; previous = previous_of a.txn more; payload = p }

      pub end_stays_whole : (new : Sessions) → new.active ≡ without_txn a.txn s.active → new.next_txn ≡ s.next_txn → IsWholeLog (more ++ r ∷ []) new
      end_stays_whole new active next =
          let txns : txns_of new.active ≡ txns_of (without_txn a.txn s.active) = ap txns_of active in
          let is_over_now = over_now more r ends in
          record {
            lawful = lawful_next more r by.lawful follows;
            writers = λ u id h still. ⊎_elim
                (λ own. absurd (true≢false (sym is_over_now ∙ ap (λ v. is_over v (more ++ r ∷ [])) (sym own) ∙ still)))
                (λ other. subst (IsAmong u) (sym txns) (txn_stays a.txn u s.active
                (w.writers u id (sym (by.changed u id other) ∙ sym (has-not_this more r (changes_id id) u (no_change id)) ∙ h)
                (sym (by.over u) ∙ sym (over_other more r u (λ e. other (sym e))) ∙ still)) other))
                (same_or_not u a.txn);
            unended = λ u b.
                let there = txn_without a.txn u s.active (subst (IsAmong u) txns b) in
                over_other more r u (λ e. there.1 (sym e)) ∙ by.over u ∙ w.unended u there.0;
            above = λ u b. w.above u (txn_without a.txn u s.active (subst (IsAmong u) txns b)).0;
            undo_lists = λ b member.
                let there = among_without a.txn b s.active (subst (IsAmong b) active member) in
                ap (map (λ c. (c.id, c.before))) (unanswered_other b.txn more r (λ e. there.1 (sym e)) ∙ by.others b.txn there.1) ∙ w.undo_lists b there.0;
            some = subst (λ n. 0 < n) (sym next) w.some;
          }

    pub commit_stays_whole : (is_unprepared a.txn log || is_in_doubt a.txn log) ≡ true → (new : Sessions) → new.active ≡ without_txn a.txn s.active → new.next_txn ≡ s.next_txn
        → IsWholeLog (and_record a.txn log Commit) new
    commit_stays_whole may = end_stays_whole log (no_more a.txn log w.lawful) Commit record {
      of = is_of_txn a.txn log above not_over Commit refl;
      previous = refl;
      not_over = not_over;
      says = may;
    } (λ id. refl) (inl refl)

    -- it is in doubt
    in_doubt_there : IsAmong a.txn (in_doubt_of s) → is_in_doubt a.txn log ≡ true
    in_doubt_there among =
        let p = mapped_one (λ (p : PreparedTxn). p.txn) a.txn s.prepared among in
        let e = mapped_one pair_logged (pair_of p.0) (doubts_in log) (subst (IsAmong (pair_of p.0)) (sym d.in_doubt) (among_map pair_of p.0 s.prepared p.1)) in
        subst (λ t. is_in_doubt t log ≡ true) (ap (λ (p : ℕ × List ℕ). p.0) e.2 ∙ p.2) (among_filter (λ d. is_in_doubt d.txn log) e.0 (filter_map doubt_of log) e.1).1

    -- ---- a Prepare, or a Rollback decided

    decision_stays_whole : (p : Payload) → is_commit p ≡ false → is_end p ≡ false → ((n : ℕ) (cs : List UnansweredChange) → answered_by n p cs ≡ cs)
        → MayFollow log record { txn = a.txn; previous = previous_of a.txn log; payload = p } → HasGone (and_record a.txn log p) a.undo.images
    decision_stays_whole p no_commit no_end answers follows = record {
      by = one_more a.txn log log p (no_more a.txn log w.lawful) no_commit no_end follows;
      undo =
          ap (map (λ c. (c.id, c.before))) (unanswered_own a.txn log record { txn = a.txn; previous = previous_of a.txn log; payload = p } refl ∙ answers (1 + length log) (unanswered a.txn log))
          ∙ w.undo_lists a mem;
    }

    pub prepare_stays_whole : IsFree s a.txn → (global : List ℕ) (granules : List Granule) → AreExclusive s.held a.txn granules → (new : Sessions) → new.active ≡ s.active → new.next_txn ≡ s.next_txn
        → IsWholeLog (and_record a.txn log (Prepare global granules)) new
    prepare_stays_whole is_free global granules exclusive new active next =
        let g = decision_stays_whole (Prepare global granules) refl refl (λ n cs. refl) record {
          of = is_of_txn a.txn log above not_over (Prepare global granules) refl;
          previous = refl;
          not_over = not_over;
          says = (may_change a.txn under_way is_free, lies_under l a.txn under_way granules exclusive);
        } in
        let more = and_record a.txn log (Prepare global granules) in
        record {
          lawful = g.by.lawful;
          writers = λ u id h still. subst (λ xs. IsAmong u (txns_of xs)) (sym active) (⊎_elim
              (λ own. subst (λ v. IsAmong v (txns_of s.active)) (sym own) under_way)
              (λ other. w.writers u id (sym (g.by.changed u id other) ∙ h) (sym (g.by.over u) ∙ still))
              (same_or_not u a.txn));
          unended = λ u b. g.by.over u ∙ w.unended u (subst (λ xs. IsAmong u (txns_of xs)) active b);
          above = λ u b. w.above u (subst (λ xs. IsAmong u (txns_of xs)) active b);
          undo_lists = λ b m.
              let there = subst (IsAmong b) active m in
              ⊎_elim
              (λ own. subst (λ t. MatchesUndo more t b.undo.images) (sym own)
              (ap (map (λ c. (c.id, c.before))) (unanswered_own a.txn log record { txn = a.txn; previous = previous_of a.txn log; payload = Prepare global granules } refl)
              ∙ subst (λ t. MatchesUndo log t b.undo.images) own (w.undo_lists b there)))
              (λ other. ap (map (λ c. (c.id, c.before))) (g.by.others b.txn other) ∙ w.undo_lists b there)
              (same_or_not b.txn a.txn);
          some = subst (λ n. 0 < n) (sym next) w.some;
        }

    as_active : {more : List LogRecord} {left : Sessions} (new : Sessions) → new.active ≡ left.active → new.next_txn ≡ left.next_txn → IsWholeLog more left → IsWholeLog more new
    as_active new active next h = record {
      lawful = h.lawful;
      writers = λ u id c still. subst (λ xs. IsAmong u (txns_of xs)) (sym active) (h.writers u id c still);
      unended = λ u b. h.unended u (subst (λ xs. IsAmong u (txns_of xs)) active b);
      above = λ u b. h.above u (subst (λ xs. IsAmong u (txns_of xs)) active b);
      undo_lists = λ b m. h.undo_lists b (subst (IsAmong b) active m);
      some = subst (λ n. 0 < n) (sym next) h.some;
    }

    pub rollback_stays_whole : IsAmong a.txn (in_doubt_of s) → (new : Sessions) → new.active ≡ with_undo a.txn (undo_rolled a.undo a.undo.images Whole) s.active → new.next_txn ≡ s.next_txn
        → IsWholeLog (and_record a.txn log RollbackDecided) new
    rollback_stays_whole among new active next =
        let h = gone_stays_whole s.records (undo_rolled a.undo a.undo.images Whole) (and_record a.txn log RollbackDecided)
        (decision_stays_whole RollbackDecided refl refl (λ n cs. refl) record {
          of = is_of_txn a.txn log above not_over RollbackDecided refl;
          previous = refl;
          not_over = not_over;
          says = in_doubt_there among;
        }) in
        as_active new active next h

    mapped_from_none : {A B : Type 0} (f : A → B) (xs : List A) → map f xs ≡ [] → xs ≡ []
    mapped_from_none f [] e = refl
    mapped_from_none f (x ∷ xs) e = cc

    pub ended_stays_whole : (IsAmong a.txn (in_doubt_of s) → ⊥) → (new : Sessions) → new.active ≡ without_txn a.txn s.active → new.next_txn ≡ s.next_txn
        → IsWholeLog (and_record a.txn (and_compensations a.txn log a.undo.images) End) new
    ended_stays_whole none_in_doubt =
        let undoable = may_undo a.txn under_way none_in_doubt in
        let more = and_compensations a.txn log a.undo.images in
        let by = compensations_on a.txn log above not_over undoable [] a.undo.images w.lawful (w.undo_lists a mem) in
        let none : MatchesUndo more a.txn [] = compensations_match a.txn log [] a.undo.images (w.undo_lists a mem) in
        end_stays_whole more by End record {
          of = is_of_txn a.txn log above not_over End refl;
          previous = refl;
          not_over = by.over a.txn ∙ not_over;
          says = (undoable_after a.txn log above not_over undoable a.undo.images, mapped_from_none (λ c. (c.id, c.before)) (unanswered a.txn more) none);
        } (λ id. refl) (inr refl)

    -- it has no record, and so has changed nothing in the log
    changed_none : previous_of a.txn log ≡ 0 → (id : Rid) → has (changes_id id) a.txn log ≡ true → ⊥
    changed_none none id h =
        let last : previous_of a.txn log ≡ last_of a.txn log = ap (λ b. cond b 0 (last_of a.txn log)) (ne_eqb a.txn 0 (λ e. let some = above in omega arith)) in
        let known = has_known id log w.lawful a.txn h in
        let later = known.1 in
        omega arith

    unlogged_stays_whole : previous_of a.txn log ≡ 0 → (new : Sessions) → new.active ≡ without_txn a.txn s.active → new.next_txn ≡ s.next_txn
        → IsWholeLog log new
    unlogged_stays_whole none new active next =
        let txns : txns_of new.active ≡ txns_of (without_txn a.txn s.active) = ap txns_of active in
        record {
          lawful = w.lawful;
          writers = λ u id h still. subst (IsAmong u) (sym txns) (txn_stays a.txn u s.active (w.writers u id h still)
              (λ same. changed_none none id (ap (λ v. has (changes_id id) v log) (sym same) ∙ h)));
          unended = λ u b. w.unended u (txn_without a.txn u s.active (subst (IsAmong u) txns b)).0;
          above = λ u b. w.above u (txn_without a.txn u s.active (subst (IsAmong u) txns b)).0;
          undo_lists = λ b member. w.undo_lists b (among_without a.txn b s.active (subst (IsAmong b) active member)).0;
          some = subst (λ n. 0 < n) (sym next) w.some;
        }

    pub abort_stays_whole : (IsAmong a.txn (in_doubt_of s) → ⊥) → (new : Sessions) → new.active ≡ without_txn a.txn s.active → new.next_txn ≡ s.next_txn
        → IsWholeLog (log_after log s (AnswerAbort a)) new
    abort_stays_whole none new active next =
        elim (previous_of a.txn log == 0) as (λ b. (previous_of a.txn log == 0) ≡ b → IsWholeLog (cond b log (and_record a.txn (and_compensations a.txn log a.undo.images) End)) new) [
          | true ↦ λ e. unlogged_stays_whole (eqb-true (previous_of a.txn log) 0 e) new active next
          | false ↦ λ e. ended_stays_whole none new active next
        ] refl

  -- ---- no record

  pub begin_stays_whole : (session : ℕ) → IsWholeLog log (txn_begun s session)
  begin_stays_whole session =
      let unrecorded : HasNoRecord s.next_txn log = recursion-weaker (λ r. r.txn < s.next_txn) (λ r. r.txn ≢ s.next_txn) (λ r less e. omega arith) log l.below in
      let some = w.some in
      record {
        lawful = w.lawful;
        writers = λ u id h still. inr (w.writers u id h still);
        unended = λ u b. ⊎_elim (λ e. subst (λ v. is_over v log ≡ false) e (unrecorded_not_over s.next_txn log unrecorded)) (λ later. w.unended u later) b;
        above = λ u b. ⊎_elim (λ e. subst (λ v. 0 < v) e w.some) (λ later. w.above u later) b;
        undo_lists = λ b member. ⊎_elim
            (λ e. subst (λ (x : SessionTxn). MatchesUndo log x.txn x.undo.images) e (ap (map (λ c. (c.id, c.before))) (unrecorded_unanswered s.next_txn log unrecorded)))
            (λ later. w.undo_lists b later) member;
        some = omega arith;
      }

  pub quiet_stays_whole : (new : Sessions) → new.active ≡ s.active → new.next_txn ≡ s.next_txn → IsWholeLog log new
  quiet_stays_whole new active next = record {
    lawful = w.lawful;
    writers = λ u id h still. subst (λ xs. IsAmong u (txns_of xs)) (sym active) (w.writers u id h still);
    unended = λ u b. w.unended u (subst (λ xs. IsAmong u (txns_of xs)) active b);
    above = λ u b. w.above u (subst (λ xs. IsAmong u (txns_of xs)) active b);
    undo_lists = λ b member. w.undo_lists b (subst (IsAmong b) active member);
    some = subst (λ n. 0 < n) (sym next) w.some;
  }

pub event_stays_whole : (o : Opening) (es : List Entry) (old new : Sessions) (e : SessionEvent) (log : List LogRecord) → IsSoundAfter o es old
    → IsLogAfter o es old log → TracksDoubts log old → IsWholeLog log old → StepsTo old e new → IsWholeLog (log_after log old e) new
event_stays_whole o es old new (MoveLocks held) log k l d w steps = subst (IsWholeLog log) (sym steps.3) (quiet_stays_whole k l d w _ refl refl)
event_stays_whole o es old new (BeginTxn session) log k l d w steps =
    let h = begin_stays_whole k l d w session in
    subst (IsWholeLog log) (sym steps.1) (record { lawful = h.lawful; writers = h.writers; unended = h.unended; above = h.above; undo_lists = h.undo_lists; some = h.some })
event_stays_whole o es old new (GiveReply a c reply) log k l d w steps =
    let h = reply_stays_whole k l d w a steps.0.0 steps.0.2 c reply steps.2 in
    subst (IsWholeLog (log_after_reply log old.records a c reply)) (sym steps.4)
    (record { lawful = h.lawful; writers = h.writers; unended = h.unended; above = h.above; undo_lists = h.undo_lists; some = h.some })
event_stays_whole o es old new (AppendCommit a ticket) log k l d w steps =
    subst (IsWholeLog (log_after log old (AppendCommit a ticket))) (sym steps.2)
    (commit_stays_whole k l d w a steps.0.0 (ap (λ b. b || is_in_doubt a.txn log) (may_change k l d w a.txn (txn_among a old.active steps.0.0) steps.0.2)) _ refl refl)
event_stays_whole o es old new (PutBack a kept e r) log k l d w steps =
    subst (IsWholeLog (log_after log old (PutBack a kept e r))) (sym steps.4) (put_back_stays_whole k l d w a steps.0.0 steps.0.1 kept e r steps.1)
event_stays_whole o es old new (Doom a) log k l d w steps = subst (IsWholeLog log) (sym steps.1) (doom_stays_whole k l d w a steps.0.0)
event_stays_whole o es old new (AnswerAbort a) log k l d w steps =
    subst (IsWholeLog (log_after log old (AnswerAbort a))) (sym steps.1) (abort_stays_whole k l d w a steps.0.0 steps.0.2.0 _ refl refl)
event_stays_whole o es old new (Ask ticket durable) log k l d w steps = subst (IsWholeLog log) (sym steps) w
event_stays_whole o es old new (RefuseCall session t c fault) log k l d w steps = subst (IsWholeLog log) (sym steps.2) (quiet_stays_whole k l d w _ refl refl)
event_stays_whole o es old new (AppendPrepare a global granules) log k l d w steps =
    subst (IsWholeLog (log_after log old (AppendPrepare a global granules))) (sym steps.4)
    (prepare_stays_whole k l d w a steps.0.0 steps.0.2 global granules steps.3 _ refl refl)
event_stays_whole o es old new (AnswerPrepare session t global) log k l d w steps = subst (IsWholeLog log) (sym steps.2) (quiet_stays_whole k l d w _ refl refl)
event_stays_whole o es old new (AppendResolve a global) log k l d w steps =
    subst (IsWholeLog (log_after log old (AppendResolve a global))) (sym steps.3)
    (commit_stays_whole k l d w a steps.0 (or_right (is_unprepared a.txn log) (is_in_doubt a.txn log) (in_doubt_there k l d w a steps.0 (prepared_among _ old.prepared steps.2))) _ refl refl)
event_stays_whole o es old new (AppendRollback a global) log k l d w steps =
    subst (IsWholeLog (log_after log old (AppendRollback a global))) (sym steps.2)
    (rollback_stays_whole k l d w a steps.0 (prepared_among _ old.prepared steps.1) _ refl refl)
event_stays_whole o es old new (EndRollback a) log k l d w steps =
    subst (IsWholeLog (log_after log old (EndRollback a))) (sym steps.2) (ended_stays_whole k l d w a steps.0.0 steps.0.1 _ refl refl)
event_stays_whole o es old new (AnswerResolve session r) log k l d w steps = subst (IsWholeLog log) (sym steps.2) (quiet_stays_whole k l d w _ refl refl)
event_stays_whole o es old new (AnswerInDoubt session t pairs) log k l d w steps = subst (IsWholeLog log) (sym steps.2) (quiet_stays_whole k l d w _ refl refl)

-- Each event keeps the log beside the history.
use Rattle.std.proofs.Common.{◌≡◌, ◌≢◌, ⊎_elim, ◌++◌, ◌<◌, ◌+◌, ℕ, zero, suc, List, [], ◌∷◌, Bool, true, false, cond, Some, None, Result, Ok, Err, refl, sym, ap, subst, ◌∙◌, length, drop, take, arith, append-nil, append_assoc}
use Rattle.std.specs.Prelude.{◌==◌, IsSome, filter, slice_get, unwrap_or}
use Rattle.std.specs.FinMap.{empty, get, insert, get-empty}
use Rattle.std.specs.List.{AllByRecursion, cons_option}
use Rattle.std.proofs.lemmas.Bool.{eqb-true, eqb-false, ne_eqb}
use Rattle.shore_types.specs.Ids.{rid_cmp}
use Rattle.shore_types.specs.declared.faults.Fault.{Fault}
use Rattle.shore_types.specs.declared.ids.Rid.{Rid}
use Rattle.shore_model.specs.declared.histories.Opening.{Opening}
use Rattle.shore_model.specs.declared.calls.Answer.{Answer}
use Rattle.shore_model.specs.declared.calls.Answer.TheVariants.{Inserted, Aborted, AreInDoubt, Committed, Prepared, Resolved}
use Rattle.shore_model.specs.declared.calls.Call.{Call}
use Rattle.shore_model.specs.declared.calls.Call.TheVariants as call
use Rattle.shore_model.specs.declared.calls.Exchange.{Exchange}
use Rattle.shore_model.specs.declared.histories.Decision.{Decision}
use Rattle.shore_model.specs.declared.histories.Decision.TheVariants as decision
use Rattle.shore_model.specs.declared.histories.Entry.{Entry}
use Rattle.shore_model.specs.declared.histories.Entry.TheVariants.{Asked, Exchanged, Decided}
use Rattle.shore_model.specs.declared.holds.Hold.{Hold}
use Rattle.shore_model.specs.declared.log_records.LogRecord.{LogRecord}
use Rattle.shore_model.specs.declared.log_records.Payload.{Payload}
use Rattle.shore_model.specs.declared.log_records.Payload.TheVariants.{Change, Compensation, Commit, End, Prepare, RollbackDecided}
use Rattle.shore_model.specs.declared.progress.Progress.{Progress}
use Rattle.shore_model.specs.Alone.{start, after, after_answer, after_reply}
use Rattle.shore_model.specs.Histories.{calls_of, decisions, serial, writes_given}
use Rattle.shore_model.specs.Locks.{MayWrite}
use Rattle.shore_model.specs.Logs.{committed_in, image_in, is_commit, last_images, logged_writes, previous_of}
use Rattle.shore_model.specs.Records.{Records, WriteSet, overlay, put_image}
use Rattle.shore_types.specs.Images.{Image}
use Rattle.laws_lives.proofs.Exchanges.{IsQuiet, abort_is_quiet, after-push, commit_is_quiet, in_doubt_is_quiet, prepare_is_quiet, refusal_is_quiet, resolve_is_quiet}
use Rattle.laws_lives.proofs.Ids.{told_apart, wrote_here, wrote_there}
use Rattle.laws_lives.proofs.Lists.{recursion-drop, recursion-push, recursion-take, recursion-unpush, recursion-weaker}
use Rattle.laws_lives.proofs.LogTells.{committed_one, committed_same, compensations_tell, image_tells, logged_as_written, logged_elsewhere, logged_imageless, logged_own, none_some, tells_commit, tells_same}
use Rattle.laws_lives.proofs.LoggedUndos.{own_reply, still_logged, with_compensations, with_reply}
use Rattle.laws_lives.proofs.Members.{HasNewUndo, among_with, among_without, txn_among, txn_without, txns_with}
use Rattle.laws_lives.proofs.BeginSteps.{begin_called, begin_now, begin_others, not_yet}
use Rattle.laws_lives.proofs.EndSteps.{abort_can, commit_called, commit_now, commit_sees, commit_stays_sound, commit_turn, rollback_elsewhere, rollback_stays_sound}
use Rattle.laws_lives.proofs.EndedLocks.{left_with, others_keep, without_its_locks}
use Rattle.laws_lives.proofs.Entries.{decisions-asked, decisions-exchanged}
use Rattle.laws_lives.proofs.QuietSteps.{all_kept, more_now}
use Rattle.laws_lives.proofs.Turns.{KeepsTurn, decision_after, kept_by_asked, kept_by_decided, own_progress as own_progress_of}
use Rattle.laws_lives.proofs.PutBacks.{doom_stays_sound, may_put_back}
use Rattle.laws_lives.proofs.ReplySteps.{others_called, own_called, reply_now, t_below}
use Rattle.laws_lives.proofs.StrongerLocks.{writes_up}
use Rattle.laws_lives.proofs.Views.{read_of_write, writer_excludes}
use Rattle.laws_lives.specs.LogTells.{AreLogged, HasLogged, IsLogAfter, TellsSerial}
use Rattle.laws_lives.specs.Logged.{and_compensations, and_record, log_after, log_after_answer, log_after_reply, next_to_undo}
use Rattle.laws_lives.specs.RepliesInPlace.{MayReplyInPlace, Permit}
use Rattle.shore_model.specs.declared.rollbacks.Rollback.{Rollback}
use Rattle.shore_model.specs.declared.rollbacks.Rollback.TheVariants.{Whole}
use Rattle.laws_lives.specs.SessionSteps.{AnswerAbort, AnswerInDoubt, AnswerPrepare, AnswerResolve, AppendCommit, AppendPrepare, AppendResolve, AppendRollback, Ask, BeginTxn, Doom, EndRollback, GiveReply, KeepsLocks, MoveLocks, PutBack, RefuseCall, SessionEvent, StepsTo, entries_by, exchange}
use Rattle.laws_lives.specs.Sessions.{IsFree, SessionTxn, Sessions, commit_appended, rollback_ended, seated, doomed, image_put_back, locks_moved, reply_given, txn_begun, txns_of, without_locks, without_txn}
use Rattle.laws_lives.specs.Soundness.{IsSoundAfter, decided_txn, progress_from, progress_in, serial_after, written_by}
use Rattle.laws_lives.specs.UndoLists.{CanUndo, UndoList, in_place_after, in_place_after_answer, mark_of, undo_after, undo_rolled, rolled_back}
use Rattle.laws_lives.specs.Views.{IsAmong}

-- ---- a transaction comes further

-- what it has logged is enough for it still
abbrev pub StillLogged : List Hold → Records → ℕ → WriteSet → Progress → Progress → Type 0
StillLogged held R t L p q = HasLogged held R t p L → HasLogged held R t q L

pub change_logged : {held : List Hold} {R : Records} {t : ℕ} {p : Progress} {L : WriteSet} (id : Rid) (image : Image) → get L id ≡ Some image → StillLogged held R t L p record { writes = insert p.writes id image; saved = p.saved }
change_logged {p = p} {L = L} id image here g = record {
  in_place = g.in_place;
  unwritten = λ q none. ⊎_elim
      (λ same. absurd (none_some image (sym (subst (λ q. get L q ≡ None) same none) ∙ here)))
      (λ other. wrote_there p.writes id image q other ∙ g.unwritten q none)
      (told_apart q id);
  unsaved = g.unsaved;
}

pub savepoint_logged : {held : List Hold} {R : Records} {t : ℕ} {p : Progress} {L : WriteSet} → StillLogged held R t L p record { writes = p.writes; saved = p.saved ++ p.writes ∷ [] }
savepoint_logged {p = p} g = record {
  in_place = g.in_place;
  unwritten = g.unwritten;
  unsaved = λ q none. recursion-push (λ W. get W q ≡ None) p.saved p.writes (g.unsaved q none) (g.unwritten q none);
}

saved_at : (P : WriteSet → Type 0) (n : ℕ) (Ws : List WriteSet) (W : WriteSet) → AllByRecursion P Ws → P W → P (unwrap_or (slice_get Ws n) W)
saved_at P zero (V ∷ Ws) W h p = h.0
saved_at P (suc n) (V ∷ Ws) W h p = saved_at P n Ws W h.1 p
saved_at P n [] W h p = p

pub back_logged : {held : List Hold} {R : Records} {t : ℕ} {p : Progress} {L : WriteSet} (n : ℕ) → StillLogged held R t L p record { writes = unwrap_or (slice_get p.saved n) p.writes; saved = take (n + 1) p.saved }
back_logged {p = p} n g = record {
  in_place = g.in_place;
  unwritten = λ q none. saved_at (λ W. get W q ≡ None) n p.saved p.writes (g.unsaved q none) (g.unwritten q none);
  unsaved = λ q none. recursion-take (λ W. get W q ≡ None) (n + 1) p.saved (g.unsaved q none);
}

-- ---- a reply

module _ (held : List Hold) (disjoint : (t u : ℕ) (id : Rid) → t ≢ u → MayWrite held t id → MayWrite held u id → ⊥) (now R : Records) (log : List LogRecord) (ts : List ℕ) (p : ℕ → Progress) (a : SessionTxn) (mem : IsAmong a.txn ts)
    (k : CanUndo held now R a.txn a.undo (p a.txn)) (l : TellsSerial log held now R ts p) where
  -- after the reply: the list tells what it told, and has what its transaction has logged
  pub record TellsOn (log' : List LogRecord) (R' : Records) (q : Progress) : Type 0 where
    pub tells_serial : TellsSerial log' held now R' ts p
    pub still : StillLogged held R' a.txn (logged_writes log' a.txn) (p a.txn) q

  log_untouched : TellsOn log R (p a.txn)
  log_untouched = record { tells_serial = l; still = λ g. g }

  changed : (id : Rid) (image : Image) → MayWrite held a.txn id → TellsOn (and_record a.txn log (Change id (get R id) image)) (put_image R id image) record { writes = insert (p a.txn).writes id image; saved = (p a.txn).saved }
  changed id image w =
      let payload : Payload = Change id (get R id) image in
      let r : LogRecord = record { txn = a.txn; previous = previous_of a.txn log; payload = payload } in
      record {
        tells_serial = image_tells held disjoint now ts p a.txn mem R log id image payload refl refl w l;
        still = change_logged id image (ap (λ W. get W id) (logged_own log r a.txn refl) ∙ wrote_here (logged_writes log a.txn) id image);
      }

  insert_tells : (s : ℕ) (bytes : List ℕ) (answer : Answer) → Permit held a.txn (call.Insert s bytes) answer
      → TellsOn (log_after_answer log R a (call.Insert s bytes) answer) (in_place_after_answer R a.undo (call.Insert s bytes) answer) (after_answer (p a.txn) (call.Insert s bytes) answer)
  insert_tells s bytes (Inserted id) w = changed id (Some bytes) w
  insert_tells s bytes _ w = log_untouched

  answer_tells : (c : Call) (answer : Answer) → Permit held a.txn c answer
      → TellsOn (log_after_answer log R a c answer) (in_place_after_answer R a.undo c answer) (after_answer (p a.txn) c answer)
  answer_tells (call.Insert s bytes) answer w = insert_tells s bytes answer w
  answer_tells (call.Update id bytes) answer w = changed id (Some bytes) w
  answer_tells (call.Delete id) answer w = changed id None w
  answer_tells (call.BackTo n) answer w = record {
    tells_serial =
        compensations_tell held disjoint now ts p a.txn mem R log (drop (mark_of a.undo n) a.undo.images)
        (recursion-drop (λ e. MayWrite held a.txn e.0) (mark_of a.undo n) a.undo.images k.changed) l;
    still = back_logged n;
  }
  answer_tells call.Savepoint answer w = record { tells_serial = l; still = savepoint_logged }
  answer_tells _ answer w = log_untouched

  pub reply_tells : (most n : ℕ) (c : Call) (reply : Result Answer Fault) → MayReplyInPlace most held a.txn R n c reply
      → TellsOn (log_after_reply log R a c reply) (in_place_after R a.undo c reply) (after_reply (p a.txn) c reply)
  reply_tells most n c (Ok answer) h = answer_tells c answer h.0
  reply_tells most n c (Err fault) h = log_untouched

-- ---- a transaction with no record

filtered_none : (t : ℕ) (log : List LogRecord) → AllByRecursion (λ r. r.txn ≢ t) log → filter (λ r. r.txn == t) log ≡ []
filtered_none t [] h = refl
filtered_none t (r ∷ log) h = ap (λ b. cond b (r ∷ filter (λ r. r.txn == t) log) (filter (λ r. r.txn == t) log)) (ne_eqb r.txn t h.0) ∙ filtered_none t log h.1

none_logged : (t : ℕ) (log : List LogRecord) → AllByRecursion (λ r. r.txn ≢ t) log → logged_writes log t ≡ empty
none_logged t log h = ap last_images (filtered_none t log h)

nothing_logged : (held : List Hold) (R : Records) (t : ℕ) → HasLogged held R t start empty
nothing_logged held R t = record {
  in_place = λ id image at. absurd (none_some image (sym (get-empty rid_cmp id) ∙ at));
  unwritten = λ id e. get-empty rid_cmp id;
  unsaved = λ id e. tt;
}

committed_below : (t : ℕ) (log : List LogRecord) → AllByRecursion (λ r. r.txn < t) log → AllByRecursion (λ u. u ≢ t) (committed_in log)
committed_below t [] h = tt
committed_below t (r ∷ log) h =
    elim (is_commit r.payload) as (λ b. AllByRecursion (λ u. u ≢ t) (cons_option (cond b (Some r.txn) None) (committed_in log))) [
      | true ↦ (λ same. let less = h.0 in omega arith, committed_below t log h.1)
      | false ↦ committed_below t log h.1
    ]

-- ---- events

-- the same list, while transactions come further
further : {log : List LogRecord} {held : List Hold} {now R : Records} {ts : List ℕ} {p : ℕ → Progress} (ts' : List ℕ) (q : ℕ → Progress)
    → ((u : ℕ) → IsAmong u ts' → IsAmong u ts × StillLogged held R u (logged_writes log u) (p u) (q u)) → TellsSerial log held now R ts p
    → TellsSerial log held now R ts' q
further ts' q still l = record {
  tells = l.tells;
  uncommitted = λ u b. l.uncommitted u (still u b).0;
  each = λ u b. (still u b).1 (l.each u (still u b).0);
}

module _ {o : Opening} {es : List Entry} {s : Sessions} {log : List LogRecord} (k : IsSoundAfter o es s) (l : IsLogAfter o es s log) where
  abbrev now : Records
  now = serial_after o es

  -- no two may write one id
  pub disjoint : (t u : ℕ) (id : Rid) → t ≢ u → MayWrite s.held t id → MayWrite s.held u id → ⊥
  disjoint t u id other w v = writer_excludes k.stand t u id other w (read_of_write s.held u id v)

  -- records of numbers that are given already
  pub grown : (t : ℕ) (qs : List LogRecord) (payload : Payload) → t < s.next_txn → AllByRecursion (λ r. r.txn < s.next_txn) qs
      → AllByRecursion (λ r. r.txn < s.next_txn) (and_record t qs payload)
  grown t qs payload less h = recursion-push (λ r. r.txn < s.next_txn) qs record { txn = t; previous = previous_of t qs; payload = payload } h less

  pub undo_grown : (t : ℕ) (qs : List LogRecord) (images : List (Rid × Image)) → t < s.next_txn → AllByRecursion (λ r. r.txn < s.next_txn) qs
      → AllByRecursion (λ r. r.txn < s.next_txn) (and_compensations t qs images)
  undo_grown t qs [] less h = h
  undo_grown t qs (e ∷ images) less h = grown t (and_compensations t qs images) _ less (undo_grown t qs images less h)

  answer_grown : (a : SessionTxn) (c : Call) (answer : Answer) → a.txn < s.next_txn
      → AllByRecursion (λ r. r.txn < s.next_txn) (log_after_answer log s.records a c answer)
  answer_grown a (call.Insert store bytes) (Inserted id) less = grown a.txn log (Change id (get s.records id) (Some bytes)) less l.below
  answer_grown a (call.Insert store bytes) _ less = l.below
  answer_grown a (call.Update id bytes) answer less = grown a.txn log (Change id (get s.records id) (Some bytes)) less l.below
  answer_grown a (call.Delete id) answer less = grown a.txn log (Change id (get s.records id) None) less l.below
  answer_grown a (call.BackTo n) answer less = undo_grown a.txn log (drop (mark_of a.undo n) a.undo.images) less l.below
  answer_grown a _ answer less = l.below

  reply_grown : (a : SessionTxn) (c : Call) (reply : Result Answer Fault) → a.txn < s.next_txn
      → AllByRecursion (λ r. r.txn < s.next_txn) (log_after_reply log s.records a c reply)
  reply_grown a c (Ok answer) less = answer_grown a c answer less
  reply_grown a c (Err fault) less = l.below

  module _ (a : SessionTxn) (mem : IsAmong a s.active) (is_free : IsFree s a.txn) (c : Call) (reply : Result Answer Fault) (served : MayReplyInPlace s.slots s.held a.txn s.records (length a.undo.marks) c reply) where
    abbrev more : List Entry
    more = es ++ Exchanged a.session a.txn (exchange c reply) ∷ []

    abbrev R' : Records
    R' = in_place_after s.records a.undo c reply

    abbrev log' : List LogRecord
    log' = log_after_reply log s.records a c reply

    reply_on : TellsOn s.held disjoint now s.records log (txns_of s.active) (progress_in o es) a (txn_among a s.active mem) (k.undoes a mem)
        l.tells_serial log' R' (after_reply (progress_in o es a.txn) c reply)
    reply_on =
        reply_tells s.held disjoint now s.records log (txns_of s.active) (progress_in o es) a (txn_among a s.active mem) (k.undoes a mem)
        l.tells_serial s.slots (length a.undo.marks) c reply served

    own_progress : progress_in o more a.txn ≡ after_reply (progress_in o es a.txn) c reply
    own_progress =
        let given = writes_given o.in_doubt a.txn in
        let not_found : given ≡ None = k.own a.txn (txn_among a s.active mem) is_free in
        own_progress_of given (calls_of a.txn more) not_found ∙ ap (after start) (own_called k a mem is_free (exchange c reply)) ∙ after-push start (calls_of a.txn es) (exchange c reply)
        ∙ ap (λ p. after_reply p c reply) (sym (own_progress_of given (calls_of a.txn es) not_found))

    other_progress : (u : ℕ) → u ≢ a.txn → progress_in o more u ≡ progress_in o es u
    other_progress u other = ap (progress_from (writes_given o.in_doubt u)) (others_called k a mem is_free (exchange c reply) u other)

    comes_further : (u : ℕ) → StillLogged s.held R' u (logged_writes log' u) (progress_in o es u) (progress_in o more u)
    comes_further u =
        elim (u == a.txn) as (λ x. (u == a.txn) ≡ x → StillLogged s.held R' u (logged_writes log' u) (progress_in o es u) (progress_in o more u)) [
          | true ↦ λ e.
              subst (λ v. StillLogged s.held R' v (logged_writes log' v) (progress_in o es v) (progress_in o more v)) (sym (eqb-true u a.txn e))
              (subst (StillLogged s.held R' a.txn (logged_writes log' a.txn) (progress_in o es a.txn)) (sym own_progress) reply_on.still)
          | false ↦ λ e.
              subst (StillLogged s.held R' u (logged_writes log' u) (progress_in o es u)) (sym (other_progress u (eqb-false u a.txn e))) (λ g. g)
        ] refl

    abbrev undo' : UndoList
    undo' = undo_after s.records a.undo c reply

    reply_logged : (b : SessionTxn) → HasNewUndo a.txn undo' s.active b → AreLogged log' b.txn b.undo.images
    reply_logged b one =
        ⊎_elim
        (λ it. subst (λ u. AreLogged log' u b.undo.images) (sym it.0)
        (subst (λ (undo : UndoList). AreLogged log' a.txn undo.images) (sym it.1) (own_reply log s.records a (l.undo_logged a mem) c reply)))
        (λ other. with_reply b.txn b.undo.images log s.records a (l.undo_logged b (subst (λ y. IsAmong y s.active) (sym other.1) one.there)) c reply)
        one.one

    pub reply_keeps_log : IsLogAfter o more (reply_given s a c reply) log'
    reply_keeps_log = record {
      tells_serial =
          subst (λ ts. TellsSerial log' s.held (serial_after o more) R' ts (progress_in o more)) (sym (txns_with a.txn undo' s.active))
          (subst (λ now. TellsSerial log' s.held now R' (txns_of s.active) (progress_in o more)) (sym (reply_now k a mem is_free (exchange c reply)))
          (further (txns_of s.active) (progress_in o more) (λ u b. (b, comes_further u)) reply_on.tells_serial));
      undo_logged = λ b in_with. reply_logged b (among_with a.txn undo' b s.active in_with);
      below = reply_grown a c reply (t_below k a mem is_free (exchange c reply));
    }

  module _ (a : SessionTxn) (mem : IsAmong a s.active) where
    t_in : IsAmong a.txn (txns_of s.active)
    t_in = txn_among a s.active mem

    less : a.txn < s.next_txn
    less = k.below a.txn t_in

    pub commit_keeps_log : a.undo.rolling ≡ None → IsLogAfter o (es ++ Decided (decision.Commit a.txn) ∷ []) (left_with s a s.records) (and_record a.txn log Commit)
    commit_keeps_log none =
        let r : LogRecord = record { txn = a.txn; previous = previous_of a.txn log; payload = Commit } in
        record {
          tells_serial = record {
            tells =
                tells_commit log r refl ∙ ap (λ R. overlay R (logged_writes log a.txn)) l.tells_serial.tells
                ∙ logged_as_written (commit_sees k a mem none) (l.tells_serial.each a.txn t_in) ∙ sym (commit_now k a mem);
            uncommitted = λ u b. let there = txn_without a.txn u s.active b in
                subst (AllByRecursion (λ v. v ≢ u)) (sym (committed_one log r refl))
                (recursion-push (λ v. v ≢ u) (committed_in log) a.txn (l.tells_serial.uncommitted u there.0) (λ same. there.1 (sym same)));
            each = λ u b.
                subst (λ p. HasLogged s.held s.records u p (logged_writes (log ++ r ∷ []) u)) (sym (ap (progress_from (writes_given o.in_doubt u)) (commit_called k a mem u)))
                (subst (HasLogged s.held s.records u (progress_in o es u)) (sym (logged_imageless log r refl u))
                (l.tells_serial.each u (txn_without a.txn u s.active b).0));
          };
          undo_logged = λ b in_rest. still_logged b.txn b.undo.images log r (l.undo_logged b (among_without a.txn b s.active in_rest).0);
          below = grown a.txn log Commit less l.below;
        }

    -- an image: its Compensation
    put_back_logged : (kept : List (Rid × Image)) (e : Rid × Image) (r : Rollback) → a.undo.images ≡ kept ++ e ∷ [] → (b : SessionTxn)
        → HasNewUndo a.txn (undo_rolled a.undo kept r) s.active b → AreLogged (log_after log s (PutBack a kept e r)) b.txn b.undo.images
    put_back_logged kept e r is b one =
        let record_of : LogRecord = record { txn = a.txn; previous = previous_of a.txn log; payload = Compensation e.0 e.1 (next_to_undo a.txn log) } in
        still_logged b.txn b.undo.images log record_of (⊎_elim
        (λ it. subst (λ u. AreLogged log u b.undo.images) (sym it.0)
        (subst (λ (undo : UndoList). AreLogged log a.txn undo.images) (sym it.1)
        (recursion-unpush (λ e. IsSome (get (logged_writes log a.txn) e.0)) kept e (subst (AreLogged log a.txn) is (l.undo_logged a mem)))))
        (λ other. l.undo_logged b (subst (λ y. IsAmong y s.active) (sym other.1) one.there))
        one.one)

    pub put_back_keeps_log : (kept : List (Rid × Image)) (e : Rid × Image) (r : Rollback) → a.undo.images ≡ kept ++ e ∷ []
        → IsLogAfter o es (image_put_back s a kept e r) (log_after log s (PutBack a kept e r))
    put_back_keeps_log kept e r is = record {
      tells_serial =
          subst (λ ts. TellsSerial (log_after log s (PutBack a kept e r)) s.held now (put_image s.records e.0 e.1) ts (progress_in o es))
          (sym (txns_with a.txn (undo_rolled a.undo kept r) s.active))
          (compensations_tell s.held disjoint now (txns_of s.active) (progress_in o es) a.txn t_in s.records log (e ∷ []) (may_put_back k a mem kept e is, tt) l.tells_serial);
      undo_logged = λ b in_with. put_back_logged kept e r is b (among_with a.txn (undo_rolled a.undo kept r) b s.active in_with);
      below = grown a.txn log (Compensation e.0 e.1 (next_to_undo a.txn log)) less l.below;
    }

    -- a doom appends nothing
    pub doom_keeps_log : IsLogAfter o es (doomed s a) log
    doom_keeps_log =
        let undo = undo_rolled a.undo a.undo.images Whole in
        record {
          tells_serial = subst (λ ts. TellsSerial log s.held now s.records ts (progress_in o es)) (sym (txns_with a.txn undo s.active)) l.tells_serial;
          undo_logged = λ b in_with. let one = among_with a.txn undo b s.active in_with in
              ⊎_elim
              (λ it. subst (λ u. AreLogged log u b.undo.images) (sym it.0)
              (subst (λ (undo : UndoList). AreLogged log a.txn undo.images) (sym it.1) (l.undo_logged a mem)))
              (λ other. l.undo_logged b (subst (λ y. IsAmong y s.active) (sym other.1) one.there))
              one.one;
          below = l.below;
        }

    abbrev undone : Records
    undone = rolled_back s.records a.undo.images

    -- the list tells the same, and the others have logged what they had
    ended_keeps : (log' : List LogRecord) → TellsSerial log' s.held now undone (txns_of s.active) (progress_in o es)
        → ((b : SessionTxn) → IsAmong b s.active → AreLogged log' b.txn b.undo.images)
        → AllByRecursion (λ r. r.txn < s.next_txn) log' → IsLogAfter o es (left_with s a undone) log'
    ended_keeps log' tells logged below = record {
      tells_serial = record {
        tells = tells.tells;
        uncommitted = λ u b. tells.uncommitted u (txn_without a.txn u s.active b).0;
        each = λ u b. tells.each u (txn_without a.txn u s.active b).0;
      };
      undo_logged = λ b in_rest. logged b (among_without a.txn b s.active in_rest).0;
      below = below;
    }

    -- an abort: Compensations, and an End
    abbrev aborts : List LogRecord
    aborts = and_compensations a.txn log a.undo.images

    abort_undone : TellsSerial aborts s.held now undone (txns_of s.active) (progress_in o es)
    abort_undone =
        compensations_tell s.held disjoint now (txns_of s.active) (progress_in o es) a.txn t_in s.records log a.undo.images (abort_can k a mem).changed
        l.tells_serial

    pub end_keeps : IsLogAfter o es (left_with s a undone) (and_record a.txn aborts End)
    end_keeps =
        let r : LogRecord = record { txn = a.txn; previous = previous_of a.txn aborts; payload = End } in
        ended_keeps (aborts ++ r ∷ []) (record {
          tells = tells_same aborts r refl (abort_undone.uncommitted a.txn t_in) ∙ abort_undone.tells;
          uncommitted = λ u b. subst (AllByRecursion (λ v. v ≢ u)) (sym (committed_same aborts r refl)) (abort_undone.uncommitted u b);
          each = λ u b. subst (HasLogged s.held undone u (progress_in o es u)) (sym (logged_imageless aborts r refl u)) (abort_undone.each u b);
        })
        (λ b there. still_logged b.txn b.undo.images aborts r (with_compensations b.txn b.undo.images a.txn log a.undo.images (l.undo_logged b there)))
        (grown a.txn aborts End less (undo_grown a.txn log a.undo.images less l.below))

    -- or nothing, of one that has logged nothing
    unlogged_keeps : IsLogAfter o es (left_with s a undone) log
    unlogged_keeps = record {
      tells_serial = record {
        tells = l.tells_serial.tells;
        uncommitted = λ u b. l.tells_serial.uncommitted u (txn_without a.txn u s.active b).0;
        each = λ u b. let there = txn_without a.txn u s.active b in
            logged_elsewhere undone (λ id w. rollback_elsewhere k a mem u there.1 id (read_of_write s.held u id w)) (l.tells_serial.each u there.0);
      };
      undo_logged = λ b in_rest. l.undo_logged b (among_without a.txn b s.active in_rest).0;
      below = l.below;
    }

    pub rollback_keeps_log : IsLogAfter o es (left_with s a undone) (log_after log s (AnswerAbort a))
    rollback_keeps_log =
        elim (previous_of a.txn log == 0) as (λ b. IsLogAfter o es (left_with s a undone) (cond b log (and_record a.txn aborts End))) [
          | true ↦ unlogged_keeps
          | false ↦ end_keeps
        ]

  pub begin_keeps_log : (session : ℕ) → IsLogAfter o (es ++ entries_by s (BeginTxn session)) (txn_begun s session) log
  begin_keeps_log session =
      let more = es ++ entries_by s (BeginTxn session) in
      let unseen = recursion-weaker (λ r. r.txn < s.next_txn) (λ r. r.txn ≢ s.next_txn) (λ r less same. omega arith) log l.below in
      record {
        tells_serial =
            subst (λ now. TellsSerial log s.held now s.records (s.next_txn ∷ txns_of s.active) (progress_in o more)) (sym (begin_now k session)) (record {
              tells = l.tells_serial.tells;
              uncommitted = λ u b. ⊎_elim
                  (λ same. subst (λ u. AllByRecursion (λ v. v ≢ u) (committed_in log)) same (committed_below s.next_txn log l.below))
                  (λ later. l.tells_serial.uncommitted u later)
                  b;
              each = λ u b. ⊎_elim
                  (λ same. subst (λ u. HasLogged s.held s.records u (progress_in o more u) (logged_writes log u)) same
                  (subst (λ p. HasLogged s.held s.records s.next_txn p (logged_writes log s.next_txn)) (sym (own_progress_of (writes_given o.in_doubt s.next_txn) (calls_of s.next_txn more) (k.found_below s.next_txn (omega arith)) ∙ ap (after start) (begin_called k session)))
                  (subst (HasLogged s.held s.records s.next_txn start) (sym (none_logged s.next_txn log unseen)) (nothing_logged s.held s.records s.next_txn))))
                  (λ later.
                  let other : u ≢ s.next_txn = λ same. not_yet k session (subst (λ v. IsAmong v (txns_of s.active)) same later) in
                  subst (λ p. HasLogged s.held s.records u p (logged_writes log u)) (sym (ap (progress_from (writes_given o.in_doubt u)) (begin_others k session u other))) (l.tells_serial.each u later))
                  b;
            });
        undo_logged = λ a m. ⊎_elim (λ same. subst (λ (a : SessionTxn). AreLogged log a.txn a.undo.images) same tt) (λ later. l.undo_logged a later) m;
        below = recursion-weaker (λ r. r.txn < s.next_txn) (λ r. r.txn < s.next_txn + 1) (λ r less. omega arith) log l.below;
      }

  module _ (more : List Entry) (same : decisions more ≡ decisions es) (kept : (t : ℕ) → KeepsTurn o es more t) where
    pub more_keeps_log : IsLogAfter o more s log
    more_keeps_log =
        let still : (v : ℕ) → StillLogged s.held s.records v (logged_writes log v) (progress_in o es v) (progress_in o more v) =
        λ v. subst (StillLogged s.held s.records v (logged_writes log v) (progress_in o es v)) (sym (kept v).progress) (λ g. g) in
        record {
          tells_serial =
              subst (λ now. TellsSerial log s.held now s.records (txns_of s.active) (progress_in o more)) (sym (more_now k more same kept))
              (further (txns_of s.active) (progress_in o more) (λ v b. (b, still v)) l.tells_serial);
          undo_logged = l.undo_logged;
          below = l.below;
        }

  pub quiet_keeps_log : (session u : ℕ) (x : Exchange) → IsQuiet o.slots x → IsLogAfter o (es ++ Exchanged session u x ∷ []) s log
  quiet_keeps_log session u x quiet =
      more_keeps_log (es ++ Exchanged session u x ∷ []) (decisions-exchanged es u session x) (all_kept k session u x quiet)

  pub asked_keeps_log : (n : ℕ) (b : Bool) → IsLogAfter o (es ++ Asked n b ∷ []) s log
  asked_keeps_log n b = more_keeps_log (es ++ Asked n b ∷ []) (decisions-asked es n b) (λ t. kept_by_asked o es t n b)

  pub log_beside : (new : Sessions) → new.records ≡ s.records → new.active ≡ s.active → new.held ≡ s.held → new.next_txn ≡ s.next_txn → IsLogAfter o es new log
  log_beside new records active held next = record {
    tells_serial = subst (λ xs. TellsSerial log new.held now new.records (txns_of xs) (progress_in o es)) (sym active)
        (subst (λ R. TellsSerial log new.held now R (txns_of s.active) (progress_in o es)) (sym records)
        (subst (λ held. TellsSerial log held now s.records (txns_of s.active) (progress_in o es)) (sym held) l.tells_serial));
    undo_logged = λ a m. l.undo_logged a (subst (IsAmong a) active m);
    below = subst (λ n. AllByRecursion (λ r. r.txn < n) log) (sym next) l.below;
  }

  -- a decision that leaves the serial records, and its record
  pub decision_keeps_log : (d : Decision) (payload : Payload) → is_commit payload ≡ false → image_in payload ≡ None → decided_txn d < s.next_txn
      → ((R : Records) → serial (written_by o (es ++ Decided d ∷ [])) R (d ∷ []) ≡ R) → IsAmong (decided_txn d) (txns_of s.active)
      → IsLogAfter o (es ++ Decided d ∷ []) s (and_record (decided_txn d) log payload)
  decision_keeps_log d payload no_commit no_image less passes among =
      let t = decided_txn d in
      let more = es ++ Decided d ∷ [] in
      let r : LogRecord = record { txn = t; previous = previous_of t log; payload = payload } in
      record {
        tells_serial = record {
          tells = tells_same log r no_commit (l.tells_serial.uncommitted t among) ∙ l.tells_serial.tells ∙ sym (decision_after o es d passes);
          uncommitted = λ u b. subst (AllByRecursion (λ v. v ≢ u)) (sym (committed_same log r no_commit)) (l.tells_serial.uncommitted u b);
          each = λ u b.
              subst (λ p. HasLogged s.held s.records u p (logged_writes (log ++ r ∷ []) u)) (sym (kept_by_decided o es u d).progress)
              (subst (HasLogged s.held s.records u (progress_in o es u)) (sym (logged_imageless log r no_image u)) (l.tells_serial.each u b));
        };
        undo_logged = λ b there. still_logged b.txn b.undo.images log r (l.undo_logged b there);
        below = grown t log payload less l.below;
      }

-- ---- all of them

at_new : (o : Opening) (more : List Entry) (log : List LogRecord) (left new : Sessions) → new ≡ left → IsLogAfter o more left log
    → IsLogAfter o more new log
at_new o more log left new e h = subst (λ s. IsLogAfter o more s log) (sym e) h

module _ {o : Opening} {es : List Entry} {s : Sessions} {log : List LogRecord} (k : IsSoundAfter o es s) (l : IsLogAfter o es s log) where
  -- other seats
  log_seated : {left : Sessions} {more : List Entry} {log' : List LogRecord} (added : List Entry) → IsLogAfter o more left log' → IsLogAfter o more (seated s added left) log'
  log_seated {left} added h = record { tells_serial = h.tells_serial; undo_logged = h.undo_logged; below = h.below }

locks_keep_log : {o : Opening} {es : List Entry} {s : Sessions} {log : List LogRecord} → IsLogAfter o es s log → (held : List Hold) → ((t : ℕ) → IsAmong t (txns_of s.active) → KeepsLocks s.held held t)
    → IsLogAfter o es (locks_moved s held) log
locks_keep_log {s = s} l held kept = record {
  tells_serial = record {
    tells = l.tells_serial.tells;
    uncommitted = l.tells_serial.uncommitted;
    each = λ u b. let g = l.tells_serial.each u b in record {
      in_place = λ id image at. let was = g.in_place id image at in (was.0, writes_up s.held held u id (kept u b) was.1);
      unwritten = g.unwritten;
      unsaved = g.unsaved;
    };
  };
  undo_logged = l.undo_logged;
  below = l.below;
}

-- the locks of one that has ended go
pub locks_go : {o : Opening} {es : List Entry} {s : Sessions} {log : List LogRecord} → IsLogAfter o es s log → (t : ℕ) → ((u : ℕ) → IsAmong u (txns_of s.active) → u ≢ t)
    → IsLogAfter o es (locks_moved s (without_locks t s.held)) log
locks_go {s = s} l t gone = locks_keep_log l (without_locks t s.held) (λ u b. others_keep t s.held u (gone u b))

pub event_keeps_log : (o : Opening) (es : List Entry) (old new : Sessions) (e : SessionEvent) (log : List LogRecord) → IsSoundAfter o es old
    → IsLogAfter o es old log → StepsTo old e new → IsLogAfter o (es ++ entries_by old e) new (log_after log old e)
event_keeps_log o es old new (MoveLocks held) log k l moves =
    at_new o _ _ _ new moves.3
    (subst (λ es. IsLogAfter o es (locks_moved old held) log) (sym (append-nil es)) (locks_keep_log l held moves.1))
event_keeps_log o es old new (BeginTxn session) log k l moves = at_new o _ _ _ new moves.1 (log_seated k l (entries_by old (BeginTxn session)) (begin_keeps_log k l session))
event_keeps_log o es old new (GiveReply a c reply) log k l moves =
    at_new o _ _ _ new moves.4 (log_seated k l (entries_by old (GiveReply a c reply)) (reply_keeps_log k l a moves.0.0 moves.0.2 c reply moves.2))
event_keeps_log o es old new (AppendCommit a ticket) log k l moves =
    let x : Exchange = exchange call.Commit (Ok (Committed ticket)) in
    let gone : (u : ℕ) → IsAmong u (txns_of (without_txn a.txn old.active)) → u ≢ a.txn = λ u b. (txn_without a.txn u old.active b).1 in
    let left = commit_stays_sound k a moves.0.0 moves.1 (commit_turn k a moves.0.0 moves.1 moves.0.2) in
    let freed = locks_go (commit_keeps_log k l a moves.0.0 moves.1) a.txn gone in
    at_new o _ _ _ new moves.2
    (log_seated k l (entries_by old (AppendCommit a ticket))
    (subst (λ es. IsLogAfter o es (commit_appended old a) (and_record a.txn log Commit)) (append_assoc es (Decided (decision.Commit a.txn) ∷ []) (Exchanged a.session a.txn x ∷ []))
    (quiet_keeps_log (without_its_locks a.txn left gone) freed a.session a.txn x (commit_is_quiet o.slots ticket))))
event_keeps_log o es old new (PutBack a kept e r) log k l moves =
    at_new o _ _ _ new moves.4
    (subst (λ es. IsLogAfter o es (image_put_back old a kept e r) (log_after log old (PutBack a kept e r))) (sym (append-nil es)) (put_back_keeps_log k l a moves.0.0 kept e r moves.1))
event_keeps_log o es old new (Doom a) log k l moves =
    at_new o _ _ _ new moves.1 (subst (λ es. IsLogAfter o es (doomed old a) log) (sym (append-nil es)) (doom_keeps_log k l a moves.0.0))
event_keeps_log o es old new (AnswerAbort a) log k l moves =
    at_new o _ _ _ new moves.1
    (log_seated k l (entries_by old (AnswerAbort a))
    (quiet_keeps_log (without_its_locks a.txn (rollback_stays_sound k a moves.0.0) (λ u b. (txn_without a.txn u old.active b).1))
    (locks_go (rollback_keeps_log k l a moves.0.0) a.txn (λ u b. (txn_without a.txn u old.active b).1))
    a.session a.txn (exchange call.Abort (Ok Aborted)) (abort_is_quiet o.slots)))
event_keeps_log o es old new (Ask ticket durable) log k l moves = at_new o _ _ _ new moves (asked_keeps_log k l ticket durable)
event_keeps_log o es old new (RefuseCall session t c fault) log k l moves =
    at_new o _ _ _ new moves.2
    (log_seated k l (entries_by old (RefuseCall session t c fault)) (quiet_keeps_log k l session t (exchange c (Err fault)) (refusal_is_quiet o.slots c fault moves.1)))
event_keeps_log o es old new (AppendPrepare a global granules) log k l moves =
    let t_in = txn_among a old.active moves.0.0 in
    let h = decision_keeps_log k l (decision.Prepare a.txn global) (Prepare global granules) refl refl (k.below a.txn t_in) (λ R. refl) t_in in
    at_new o _ _ _ new moves.4 (record { tells_serial = h.tells_serial; undo_logged = h.undo_logged; below = h.below })
event_keeps_log o es old new (AnswerPrepare session t global) log k l moves =
    let h = quiet_keeps_log k l session t (exchange (call.Prepare global) (Ok Prepared)) (prepare_is_quiet o.slots global) in
    at_new o _ _ _ new moves.2 (record { tells_serial = h.tells_serial; undo_logged = h.undo_logged; below = h.below })
event_keeps_log o es old new (AppendResolve a global) log k l moves =
    let h = locks_go (commit_keeps_log k l a moves.0 moves.1) a.txn (λ u b. (txn_without a.txn u old.active b).1) in
    at_new o _ _ _ new moves.3 (record { tells_serial = h.tells_serial; undo_logged = h.undo_logged; below = h.below })
event_keeps_log o es old new (AppendRollback a global) log k l moves =
    let t_in = txn_among a old.active moves.0 in
    let h = decision_keeps_log (doom_stays_sound k a moves.0) (doom_keeps_log k l a moves.0) (decision.RollBack a.txn) RollbackDecided refl refl (k.below a.txn t_in) (λ R. refl)
    (subst (IsAmong a.txn) (sym (txns_with a.txn (undo_rolled a.undo a.undo.images Whole) old.active)) t_in) in
    at_new o _ _ _ new moves.2 (record { tells_serial = h.tells_serial; undo_logged = h.undo_logged; below = h.below })
event_keeps_log o es old new (EndRollback a) log k l moves =
    at_new o _ _ _ new moves.2 (subst (λ es. IsLogAfter o es (rollback_ended old a) (log_after log old (EndRollback a))) (sym (append-nil es))
    (locks_go (end_keeps k l a moves.0.0) a.txn (λ u b. (txn_without a.txn u old.active b).1)))
event_keeps_log o es old new (AnswerResolve session r) log k l moves =
    let h = quiet_keeps_log k l session r.txn (exchange (call.Resolve r.global r.outcome) (Ok Resolved)) (resolve_is_quiet o.slots r.global r.outcome) in
    at_new o _ _ _ new moves.2 (record { tells_serial = h.tells_serial; undo_logged = h.undo_logged; below = h.below })
event_keeps_log o es old new (AnswerInDoubt session t pairs) log k l moves =
    at_new o _ _ _ new moves.2
    (log_seated k l (entries_by old (AnswerInDoubt session t pairs)) (quiet_keeps_log k l session t (exchange call.InDoubt (Ok (AreInDoubt pairs))) (in_doubt_is_quiet o.slots pairs)))

-- Whom the records of an event of the sessions leave as losers, and whom in doubt.
use Rattle.std.proofs.Common.{◌≡◌, ◌≢◌, ◌⊎◌, inl, inr, ⊎_elim, ◌++◌, ℕ, List, [], ◌∷◌, Bool, true, false, cond, Result, Ok, Err, refl, sym, ap, subst, ◌∙◌, arith}
use Rattle.std.specs.Prelude.{◌==◌, not}
use Rattle.std.proofs.lemmas.Bool.{eqb-true, ne_eqb, true≢false}
use Rattle.shore_types.specs.Images.{Image}
use Rattle.shore_types.specs.declared.faults.Fault.{Fault}
use Rattle.shore_types.specs.declared.ids.Rid.{Rid}
use Rattle.shore_model.specs.declared.calls.Answer.{Answer}
use Rattle.shore_model.specs.declared.calls.Answer.TheVariants.{Inserted}
use Rattle.shore_model.specs.declared.calls.Call.{Call}
use Rattle.shore_model.specs.declared.calls.Call.TheVariants as call
use Rattle.shore_model.specs.declared.log_records.LogRecord.{LogRecord}
use Rattle.shore_model.specs.declared.log_records.Payload.{Payload}
use Rattle.shore_model.specs.declared.log_records.Payload.TheVariants.{Commit, End, RollbackDecided}
use Rattle.shore_model.specs.Logs.{has, is_commit, is_end, is_over, is_prepare, last_of, previous_of}
use Rattle.laws_lives.proofs.DoubtRecords.{DecidesNone, abort_decides_none, among_filter, but_doubt, commit_takes, decides_none, end_decides_none, one_decides_none, reply_decides_none, rollback_takes}
use Rattle.laws_lives.proofs.EndedTxns.{over_now}
use Rattle.laws_lives.proofs.Members.{txn_among, txn_stays, txns_with}
use Rattle.laws_lives.proofs.OneMore.{has-not_this}
use Rattle.laws_lives.proofs.Writers.{same_or_not}
use Rattle.laws_lives.specs.Doubts.{LoggedDoubt, doubts_in}
use Rattle.laws_lives.specs.Logged.{and_compensations, and_record, and_rollback, log_after, log_after_answer, log_after_reply}
use Rattle.laws_lives.specs.SessionSteps.{AnswerAbort, Ask, AnswerInDoubt, AnswerPrepare, AnswerResolve, AppendCommit, AppendPrepare, AppendResolve, AppendRollback, BeginTxn, Doom, EndRollback, GiveReply, MoveLocks, PutBack, RefuseCall, SessionEvent, StepsTo}
use Rattle.laws_lives.specs.Sessions.{SessionTxn, Sessions, txns_of, with_undo, without_txn}
use Rattle.laws_lives.specs.Undo.{IsLoser}
use Rattle.laws_lives.specs.UndoLists.{UndoList, images_since}
use Rattle.laws_lives.specs.Views.{IsAmong}
use Rattle.laws_runs.proofs.Losers.{other_lost}

-- ---- those in doubt

abbrev pub IsNoPrepare : SessionEvent → Type 0
IsNoPrepare (AppendPrepare a global granules) = ⊥
IsNoPrepare _ = Unit {0}

-- the log has no Prepare more, and nobody more in doubt
pub record PreparesNone (log more : List LogRecord) : Type 0 where
  pub prepares : (t : ℕ) → has is_prepare t more ≡ has is_prepare t log
  pub fewer : (d : LoggedDoubt) → IsAmong d (doubts_in more) → IsAmong d (doubts_in log)

undecided_prepares_none : (log more : List LogRecord) → DecidesNone log more → PreparesNone log more
undecided_prepares_none log more h = record { prepares = h.prepares; fewer = λ d m. subst (IsAmong d) h.doubts m }

-- a decision takes one out
module _ (t : ℕ) (log : List LogRecord) where
  one_less : (d : LoggedDoubt) (ds : List LoggedDoubt) → ds ≡ but_doubt t (doubts_in log) → IsAmong d ds → IsAmong d (doubts_in log)
  one_less d ds is m = (among_filter (λ (e : LoggedDoubt). not (t == e.txn)) d (doubts_in log) (subst (IsAmong d) is m)).0

  commit_prepares_none : PreparesNone log (and_record t log Commit)
  commit_prepares_none = record {
    prepares = λ u. has-not_this log (record { txn = t; previous = previous_of t log; payload = Commit }) is_prepare u refl;
    fewer = λ d. one_less d _ (commit_takes log t (previous_of t log));
  }

  rollback_prepares_none : PreparesNone log (and_record t log RollbackDecided)
  rollback_prepares_none = record {
    prepares = λ u. has-not_this log (record { txn = t; previous = previous_of t log; payload = RollbackDecided }) is_prepare u refl;
    fewer = λ d. one_less d _ (rollback_takes log t (previous_of t log));
  }

pub prepares_none : (log : List LogRecord) (s : Sessions) (e : SessionEvent) → IsNoPrepare e → PreparesNone log (log_after log s e)
prepares_none log s (GiveReply a c reply) none = undecided_prepares_none log _ (reply_decides_none log s.records a c reply)
prepares_none log s (AppendCommit a ticket) none = commit_prepares_none a.txn log
prepares_none log s (PutBack a kept e r) none = undecided_prepares_none log _ (one_decides_none a.txn log log _ refl (decides_none log))
prepares_none log s (AnswerAbort a) none = undecided_prepares_none log _ (abort_decides_none a.txn log a.undo.images)
prepares_none log s (AppendPrepare a global granules) none = absurd none
prepares_none log s (AppendResolve a global) none = commit_prepares_none a.txn log
prepares_none log s (AppendRollback a global) none = rollback_prepares_none a.txn log
prepares_none log s (EndRollback a) none = undecided_prepares_none log _ (end_decides_none a.txn log a.undo.images)
prepares_none log s (MoveLocks held) none = undecided_prepares_none log log (decides_none log)
prepares_none log s (BeginTxn session) none = undecided_prepares_none log log (decides_none log)
prepares_none log s (Doom a) none = undecided_prepares_none log log (decides_none log)
prepares_none log s (Ask ticket answer) none = undecided_prepares_none log log (decides_none log)
prepares_none log s (RefuseCall session t c f) none = undecided_prepares_none log log (decides_none log)
prepares_none log s (AnswerPrepare session t global) none = undecided_prepares_none log log (decides_none log)
prepares_none log s (AnswerResolve session r) none = undecided_prepares_none log log (decides_none log)
prepares_none log s (AnswerInDoubt session t pairs) none = undecided_prepares_none log log (decides_none log)

-- ---- losers

-- the log goes on by records of one transaction: another loses then only if it did before
abbrev LoseAsBefore : ℕ → List LogRecord → List LogRecord → Type 0
LoseAsBefore t log more = (u : ℕ) → u ≢ t → IsLoser more u → IsLoser log u

module _ (t : ℕ) (log : List LogRecord) where
  one_loses : (more : List LogRecord) (p : Payload) → LoseAsBefore t log more → LoseAsBefore t log (and_record t more p)
  one_loses more p h u other loser = h u other (other_lost more (record { txn = t; previous = previous_of t more; payload = p }) u (λ same. other (sym same)) loser)

  none_lose : LoseAsBefore t log log
  none_lose u other loser = loser

  compensations_lose : (es : List (Rid × Image)) → LoseAsBefore t log (and_compensations t log es)
  compensations_lose [] = none_lose
  compensations_lose (e ∷ es) = one_loses (and_compensations t log es) _ (compensations_lose es)

module _ (log : List LogRecord) (s : Sessions) (a : SessionTxn) where
  insert_loses : (store : ℕ) (bytes : List ℕ) (answer : Answer) → LoseAsBefore a.txn log (log_after_answer log s.records a (call.Insert store bytes) answer)
  insert_loses store bytes (Inserted id) = one_loses a.txn log log _ (none_lose a.txn log)
  insert_loses store bytes _ = none_lose a.txn log

  answer_loses : (c : Call) (answer : Answer) → LoseAsBefore a.txn log (log_after_answer log s.records a c answer)
  answer_loses (call.Insert store bytes) answer = insert_loses store bytes answer
  answer_loses (call.Update id bytes) answer = one_loses a.txn log log _ (none_lose a.txn log)
  answer_loses (call.Delete id) answer = one_loses a.txn log log _ (none_lose a.txn log)
  answer_loses (call.BackTo n) answer = compensations_lose a.txn log (images_since a.undo n)
  answer_loses _ answer = none_lose a.txn log

  reply_loses : (c : Call) (reply : Result Answer Fault) → LoseAsBefore a.txn log (log_after_reply log s.records a c reply)
  reply_loses c (Ok answer) = answer_loses c answer
  reply_loses c (Err fault) = none_lose a.txn log

module _ (log : List LogRecord) (s : Sessions) (losers : (u : ℕ) → IsLoser log u → IsAmong u (txns_of s.active)) where
  -- its transaction stays under way
  module _ (a : SessionTxn) (mine : IsAmong a s.active) (new : Sessions) where
    still_under_way : (more : List LogRecord) → LoseAsBefore a.txn log more → ((u : ℕ) → IsAmong u (txns_of s.active) → IsAmong u (txns_of new.active))
        → (u : ℕ) → IsLoser more u → IsAmong u (txns_of new.active)
    still_under_way more h stay u loser = ⊎_elim
        (λ same. stay u (subst (λ n. IsAmong n (txns_of s.active)) (sym same) (txn_among a s.active mine)))
        (λ other. stay u (losers u (h u other loser)))
        (same_or_not u a.txn)

    with_undo_stays : (undo : UndoList) → new.active ≡ with_undo a.txn undo s.active → (u : ℕ) → IsAmong u (txns_of s.active) → IsAmong u (txns_of new.active)
    with_undo_stays undo is u m = subst (IsAmong u) (sym (ap txns_of is ∙ txns_with a.txn undo s.active)) m

    -- it ends
    ends_there : new.active ≡ without_txn a.txn s.active → (more : List LogRecord) (p : Payload) → LoseAsBefore a.txn log more → (is_commit p ≡ true) ⊎ (is_end p ≡ true)
        → (u : ℕ) → IsLoser (and_record a.txn more p) u → IsAmong u (txns_of new.active)
    ends_there active more p h ends u loser =
        let r : LogRecord = record { txn = a.txn; previous = previous_of a.txn more; payload = p } in
        ⊎_elim
        (λ same. absurd (true≢false (sym (over_now more r ends) ∙ ap (λ n. is_over n (more ++ r ∷ [])) (sym same) ∙ loser.not_over)))
        (λ other. subst (IsAmong u) (sym (ap txns_of active)) (txn_stays a.txn u s.active (losers u (one_loses a.txn log more p h u other loser)) other))
        (same_or_not u a.txn)

    -- .. though it has no record
    aborts_there : new.active ≡ without_txn a.txn s.active → (u : ℕ) → IsLoser (and_rollback a.txn log a.undo.images) u → IsAmong u (txns_of new.active)
    aborts_there active u = by (previous_of a.txn log == 0) refl
      where
        unknown : previous_of a.txn log ≡ 0 → IsLoser log a.txn → ⊥
        unknown none loser =
            let some = loser.is_one in
            let known = loser.known in
            let last : previous_of a.txn log ≡ last_of a.txn log = ap (λ b. cond b 0 (last_of a.txn log)) (ne_eqb a.txn 0 (λ e. omega (arith, e, some))) in
            omega (arith, none, last, known)

        by : (b : Bool) → (previous_of a.txn log == 0) ≡ b → IsLoser (cond b log (and_record a.txn (and_compensations a.txn log a.undo.images) End)) u → IsAmong u (txns_of new.active)
        by true e loser = subst (IsAmong u) (sym (ap txns_of active))
            (txn_stays a.txn u s.active (losers u loser) (λ same. unknown (eqb-true (previous_of a.txn log) 0 e) (subst (IsLoser log) same loser)))
        by false e loser = ends_there active (and_compensations a.txn log a.undo.images) End (compensations_lose a.txn log a.undo.images) (inr refl) u loser

  same_under_way : (new : Sessions) → ((u : ℕ) → IsAmong u (txns_of s.active) → IsAmong u (txns_of new.active)) → (u : ℕ) → IsLoser log u → IsAmong u (txns_of new.active)
  same_under_way new stay u loser = stay u (losers u loser)

  as_active : (new left : Sessions) → new ≡ left → left.active ≡ s.active → (u : ℕ) → IsAmong u (txns_of s.active) → IsAmong u (txns_of new.active)
  as_active new left is same u m = subst (λ xs. IsAmong u (txns_of xs)) (sym (ap (λ (x : Sessions). x.active) is ∙ same)) m

  -- whoever stops being under way has ended in the log, or has no record in it
  pub losers_stay : (new : Sessions) (e : SessionEvent) → StepsTo s e new → (u : ℕ) → IsLoser (log_after log s e) u → IsAmong u (txns_of new.active)
  losers_stay new (MoveLocks held) steps = same_under_way new (as_active new _ steps.3 refl)
  losers_stay new (BeginTxn session) steps = same_under_way new (λ u m. subst (λ (x : Sessions). IsAmong u (txns_of x.active)) (sym steps.1) (inr m))
  losers_stay new (GiveReply a c reply) steps =
      still_under_way a steps.0.0 new _ (reply_loses log s a c reply) (with_undo_stays a steps.0.0 new _ (ap (λ (x : Sessions). x.active) steps.4))
  losers_stay new (AppendCommit a ticket) steps = ends_there a steps.0.0 new (ap (λ (x : Sessions). x.active) steps.2) log Commit (none_lose a.txn log) (inl refl)
  losers_stay new (PutBack a kept e r) steps =
      still_under_way a steps.0.0 new _ (one_loses a.txn log log _ (none_lose a.txn log)) (with_undo_stays a steps.0.0 new _ (ap (λ (x : Sessions). x.active) steps.4))
  losers_stay new (Doom a) steps = still_under_way a steps.0.0 new log (none_lose a.txn log) (with_undo_stays a steps.0.0 new _ (ap (λ (x : Sessions). x.active) steps.1))
  losers_stay new (AnswerAbort a) steps = aborts_there a steps.0.0 new (ap (λ (x : Sessions). x.active) steps.1)
  losers_stay new (Ask ticket answer) steps = same_under_way new (as_active new _ steps refl)
  losers_stay new (RefuseCall session t c f) steps = same_under_way new (as_active new _ steps.2 refl)
  losers_stay new (AppendPrepare a global granules) steps =
      still_under_way a steps.0.0 new _ (one_loses a.txn log log _ (none_lose a.txn log)) (as_active new _ steps.4 refl)
  losers_stay new (AnswerPrepare session t global) steps = same_under_way new (as_active new _ steps.2 refl)
  losers_stay new (AppendResolve a global) steps = ends_there a steps.0 new (ap (λ (x : Sessions). x.active) steps.3) log Commit (none_lose a.txn log) (inl refl)
  losers_stay new (AppendRollback a global) steps =
      still_under_way a steps.0 new _ (one_loses a.txn log log _ (none_lose a.txn log)) (with_undo_stays a steps.0 new _ (ap (λ (x : Sessions). x.active) steps.2))
  losers_stay new (EndRollback a) steps =
      ends_there a steps.0.0 new (ap (λ (x : Sessions). x.active) steps.2) (and_compensations a.txn log a.undo.images) End (compensations_lose a.txn log a.undo.images) (inr refl)
  losers_stay new (AnswerResolve session r) steps = same_under_way new (as_active new _ steps.2 refl)
  losers_stay new (AnswerInDoubt session t pairs) steps = same_under_way new (as_active new _ steps.2 refl)

-- Behind its locks a call of a transaction is answered or refused: what the sessions are after its entry.
use Rattle.std.proofs.Common.{◌≡◌, inl, ◌++◌, ◌∷◌, ℕ, List, [], false, None, Ok, Err, refl, sym, ap, subst, ◌∙◌, length}
use Rattle.std.specs.Prelude.{IsSomeAnd}
use Rattle.shore_types.specs.declared.faults.Fault.{Fault}
use Rattle.shore_types.specs.declared.faults.Fault.TheVariants as fault
use Rattle.shore_model.specs.declared.calls.Answer.{Answer}
use Rattle.shore_model.specs.declared.calls.Call.{Call}
use Rattle.shore_model.specs.declared.calls.Call.TheVariants as call
use Rattle.shore_model.specs.declared.histories.Entry.{Entry}
use Rattle.shore_model.specs.declared.histories.Opening.{Opening}
use Rattle.shore_model.specs.declared.histories.Entry.TheVariants.{Exchanged}
use Rattle.shore_model.specs.declared.log_records.LogRecord.{LogRecord}
use Rattle.shore_model.specs.Alone.{IsRight, record_named_by}
use Rattle.laws_lives.proofs.Members.{among_with}
use Rattle.laws_lives.specs.RepliesInPlace.{IsKnownAbsent, Permit}
use Rattle.laws_lives.specs.SessionSteps.{GiveReply, IsInnerCall, RefuseCall, TellsNothing, exchange}
use Rattle.laws_lives.specs.Sessions.{SessionTxn, reply_given}
use Rattle.laws_lives.specs.UndoLists.{MayGiveReply, undo_after}
use Rattle.laws_room.specs.Claims.{SlotCounts}
use Rattle.shore_locks.specs.Tables.{is_waiting}
use Rattle.laws_calls.proofs.Elements.{same_undo}
use Rattle.laws_calls.proofs.RefusalTells.{same_entry}
use Rattle.laws_calls.proofs.Sessions.{AreSessionsAfter, event_keeps, its_txn, own_of, refused_seats, reply_seats}
use Rattle.laws_calls.proofs.TakenLocks.{sessions_of, state_of}
use Rattle.laws_calls.specs.CallHistories.{answered_under, txn_of}
use Rattle.laws_calls.specs.StateChanges.{after_refusal, answered}
use Rattle.laws_calls.proofs.Waiters.{with_other_undo}
use Rattle.laws_calls.specs.LockedStates.{HasTrueLocks, IsSessionsState}
use Rattle.laws_calls.specs.States.{HasSeat, State}

-- a call within a transaction goes under its number
pub inner_under : (s : State) (session : ℕ) (c : Call) → IsInnerCall c → answered_under s.sessions session c ≡ txn_of s.sessions session
inner_under s session call.Begin inner = absurd inner
inner_under s session (call.Resolve global asked) inner = absurd inner
inner_under s session _ inner = refl

module _ (o : Opening) (found : List LogRecord) (es : List Entry) (s : State) (k : IsSessionsState o found es s) where
  module _ (session : ℕ) (a : SessionTxn) (mem : HasSeat s.sessions a) (of : a.session ≡ session) (c : Call) (inner : IsInnerCall c) where
    -- an answer that its locks permit, and that is right on the records in place
    pub answer_given : (answer : Answer) (counts : SlotCounts) → Permit s.sessions.held a.txn c answer → IsRight s.sessions.records (length a.undo.marks) c answer → MayGiveReply a.undo c (Ok answer)
        → IsSessionsState o found (es ++ Exchanged session (answered_under s.sessions session c) (exchange c (Ok answer)) ∷ []) (answered s a c answer counts)
    answer_given answer counts permit right may =
        let new = answered s a c answer counts in
        let undo = undo_after s.sessions.records a.undo c (Ok answer) in
        let after = event_keeps (length found) o es s.sessions new.sessions (GiveReply a c (Ok answer)) s.log (sessions_of o found es s k)
        (own_of k a mem, inner, (permit, right), may, reply_seats s.sessions a c (Ok answer) inner (permit, right) new.sessions refl) in
        let under = inner_under s session c inner ∙ its_txn s.sessions a session mem.1 of in
        let entry = same_entry a.session session a.txn (answered_under s.sessions session c) (exchange c (Ok answer)) of (sym under) in
        state_of o found es s k (es ++ Exchanged session (answered_under s.sessions session c) (exchange c (Ok answer)) ∷ []) new
        (subst (λ (e : Entry). AreSessionsAfter (length found) o (es ++ e ∷ []) new.sessions new.log) entry after)
        (record {
          held = k.locks.held;
          orderly = k.locks.orderly;
          rooted = k.locks.rooted;
          below = k.locks.below;
          waiters = with_other_undo s.locks.requests s.sessions a.txn undo k.locks.waiters;
          waits = λ running b there idle.
              let was = among_with a.txn undo b s.sessions.active there in
              subst (λ (t : ℕ). is_waiting t s.locks.requests ≡ false) (sym was.txn) (k.locks.waits running was.was was.there (λ w m spared same. idle w m spared (same ∙ sym was.session)));
        })

    -- the record that it names is not there, and its transaction may know that
    pub absence_told : a.undo.rolling ≡ None → IsSomeAnd (record_named_by c) (IsKnownAbsent s.sessions.slots s.sessions.held a.txn s.sessions.records)
        → IsSessionsState o found (es ++ Exchanged session (txn_of s.sessions session) (exchange c (Err fault.NoRecord)) ∷ []) s
    absence_told whole known =
        let same : s.sessions ≡ reply_given s.sessions a c (Err fault.NoRecord) =
        sym (ap (λ (xs : List SessionTxn). record s.sessions { active = xs }) (same_undo a s.sessions.active k.agree.once mem.0)) in
        let after = event_keeps (length found) o es s.sessions s.sessions (GiveReply a c (Err fault.NoRecord)) s.log (sessions_of o found es s k)
        (own_of k a mem, inner, known, inl whole, same ∙ reply_seats s.sessions a c (Err fault.NoRecord) inner known (reply_given s.sessions a c (Err fault.NoRecord)) refl) in
        let entry = same_entry a.session session a.txn (txn_of s.sessions session) (exchange c (Err fault.NoRecord)) of (sym (its_txn s.sessions a session mem.1 of)) in
        state_of o found es s k (es ++ Exchanged session (txn_of s.sessions session) (exchange c (Err fault.NoRecord)) ∷ []) s
        (subst (λ (e : Entry). AreSessionsAfter (length found) o (es ++ e ∷ []) s.sessions s.log) entry after) k.locks

  -- a refusal that is no word on records, of any call of any session
  pub refusal_told : (session : ℕ) (c : Call) (f : Fault) → TellsNothing f
      → IsSessionsState o found (es ++ Exchanged session (txn_of s.sessions session) (exchange c (Err f)) ∷ []) s
  refusal_told session c f nothing =
      state_of o found es s k (es ++ Exchanged session (txn_of s.sessions session) (exchange c (Err f)) ∷ []) s
      (event_keeps (length found) o es s.sessions s.sessions (RefuseCall session (txn_of s.sessions session) c f) s.log (sessions_of o found es s k)
      (refl, nothing, refused_seats s.sessions session (txn_of s.sessions session) c f)) k.locks

  -- what a refusal leaves
  pub after_refused : (f : Fault) → IsSessionsState o found es (after_refusal f s)
  after_refused fault.Device = record { sound = k.sound; agree = k.agree; seats = k.seats; log = k.log; whole = k.whole; doubts = k.doubts; decides = k.decides; single = k.single; locks = failed_locks }
    where
      failed_locks : HasTrueLocks (after_refusal fault.Device s)
      failed_locks = record { held = k.locks.held; orderly = k.locks.orderly; rooted = k.locks.rooted; below = k.locks.below; waiters = k.locks.waiters; waits = λ running. absurd cc }
  after_refused (fault.Damaged device place) = record { sound = k.sound; agree = k.agree; seats = k.seats; log = k.log; whole = k.whole; doubts = k.doubts; decides = k.decides; single = k.single; locks = failed_locks }
    where
      failed_locks : HasTrueLocks (after_refusal (fault.Damaged device place) s)
      failed_locks = record { held = k.locks.held; orderly = k.locks.orderly; rooted = k.locks.rooted; below = k.locks.below; waiters = k.locks.waiters; waits = λ running. absurd cc }
  after_refused _ = k

-- Savepoints, ways back and aborts: what the sessions are after the entry of each, whether it is answered or interrupted.
use Rattle.std.proofs.Common.{◌≡◌, ◌≢◌, inl, inr, ⊎_elim, ◌++◌, ◌∷◌, ◌<◌, ◌≤◌, ℕ, suc, zero, List, [], false, None, Some, Ok, Err, refl, sym, ap, subst, ◌∙◌, append-nil, append_assoc, arith, length}
use Rattle.std.specs.Prelude.{slice_get, unwrap_or}
use Rattle.shore_types.specs.Images.{Image}
use Rattle.shore_types.specs.declared.faults.Fault.{Fault}
use Rattle.shore_types.specs.declared.faults.Fault.TheVariants as fault
use Rattle.shore_types.specs.declared.ids.Rid.{Rid}
use Rattle.shore_types.specs.declared.layout.Geometry.{Geometry}
use Rattle.shore_model.specs.declared.calls.Answer.{Answer}
use Rattle.shore_model.specs.declared.calls.Answer.TheVariants.{Aborted, WentBack}
use Rattle.shore_model.specs.declared.calls.Call.{Call}
use Rattle.shore_model.specs.declared.calls.Call.TheVariants as call
use Rattle.shore_model.specs.declared.histories.Entry.{Entry}
use Rattle.shore_model.specs.declared.histories.Opening.{Opening}
use Rattle.shore_model.specs.declared.histories.Entry.TheVariants.{Exchanged}
use Rattle.shore_model.specs.declared.holds.Hold.{Hold}
use Rattle.shore_model.specs.declared.log_records.LogRecord.{LogRecord}
use Rattle.shore_model.specs.Records.{Records, WriteSet}
use Rattle.shore_model.specs.Requests.{held_by_all}
use Rattle.shore_locks.specs.Grants.{released}
use Rattle.shore_locks.specs.Tables.{is_waiting}
use Rattle.laws_locks.proofs.Held.{released_below, released_moves, released_orderly, released_rooted}
use Rattle.laws_locks.proofs.Waiting.{released_stay_quiet}
use Rattle.laws_lives.proofs.Members.{among_with, among_without, txn_without}
use Rattle.shore_model.specs.declared.rollbacks.Rollback.{Rollback}
use Rattle.shore_model.specs.declared.rollbacks.Rollback.TheVariants.{To, Whole}
use Rattle.laws_lives.specs.SessionSteps.{AnswerAbort, MoveLocks, SessionEvent, TellsNothing, entries_by, exchange}
use Rattle.laws_lives.specs.Sessions.{SessionTxn, abort_answered, txns_of, Sessions, seated, without_locks}
use Rattle.laws_lives.specs.UndoLists.{MayGiveReply, MayRoll, UndoToSavepoints, least_kept, mark_of, undo_rolled}
use Rattle.laws_lives.specs.Views.{IsAmong}
use Rattle.shore_model.specs.declared.step.Step.{Step}
use Rattle.shore_model.specs.declared.step.Step.TheVariants.{Done, Nothing, Refused, Waits}
use Rattle.laws_calls.proofs.GoingOn.{page_fault_tells_nothing}
use Rattle.laws_calls.proofs.Links.{GoesBy}
use Rattle.laws_calls.proofs.LockedAnswers.{after_refused, answer_given, refusal_told}
use Rattle.laws_calls.proofs.RefusalTells.{same_entry}
use Rattle.laws_calls.proofs.RollbackLinks.{put_backs, put_backs_go}
use Rattle.laws_calls.proofs.Sessions.{AreSessionsAfter, event_keeps, its_txn, then_quiet, own_of}
use Rattle.laws_calls.proofs.TakenLocks.{sessions_of, state_of}
use Rattle.laws_calls.specs.CallHistories.{txn_of}
use Rattle.laws_calls.specs.CallSteps.{AbortStep, aborted}
use Rattle.laws_calls.proofs.Waiters.{released_under_way, with_other_undo, freed_quiet}
use Rattle.laws_calls.specs.LockedStates.{IsSessionsState}
use Rattle.laws_calls.specs.Rollbacks.{BackToStep, Interrupts, IsInterrupted, IsUnwound, SavepointStep, TakesCall, put_back}
use Rattle.laws_calls.specs.StateChanges.{answered}
use Rattle.laws_calls.specs.States.{HasSeat, State}
use Rattle.laws_calls.proofs.Told.{entries_told}

-- ---- which calls are taken

same_index : (n m : ℕ) → call.BackTo n ≡ call.BackTo m → n ≡ m
same_index n m e = cc

module _ (a : SessionTxn) (n : ℕ) (takes : TakesCall a.undo (call.BackTo n)) where
  pub rolls_back : n < length a.undo.marks → MayRoll a.undo (To n)
  rolls_back less =
      (less, ⊎_elim (λ none. inl none) (⊎_elim (λ abort. let clash = abort in absurd cc) (λ on. inr (on.1 ∙ ap (λ m. Some (To m)) (sym (same_index n on.0 on.2))))) takes)

  pub may_go_back : MayGiveReply a.undo (call.BackTo n) (Ok WentBack)
  may_go_back =
      ⊎_elim (λ none. inl none) (⊎_elim (λ abort. let clash = abort in absurd cc) (λ on. inr (n, WentBack, on.1 ∙ ap (λ m. Some (To m)) (sym (same_index n on.0 on.2)), refl, refl))) takes

-- no savepoint has more images before it than there are
module _ (held : List Hold) (now R : Records) (t : ℕ) (images : List (Rid × Image)) where
  mark_within : (n d : ℕ) (ms : List ℕ) (Ws : List WriteSet) → n < length ms → UndoToSavepoints held now R t images ms Ws → unwrap_or (slice_get ms n) d ≤ length images
  mark_within n d [] Ws less h = absurd (omega arith)
  mark_within n d (m ∷ ms) [] less h = absurd h
  mark_within zero d (m ∷ ms) (W ∷ Ws) less h = h.0.within
  mark_within (suc n) d (m ∷ ms) (W ∷ Ws) less h = mark_within n d ms Ws (omega arith) h.1

pub interrupts_tell_nothing : (s : State) (f : Fault) → Interrupts s f → TellsNothing f
interrupts_tell_nothing s f (inl memory) = subst TellsNothing (sym memory) tt
interrupts_tell_nothing s f (inr page) = page_fault_tells_nothing s f page

-- events keep what holds of the sessions and the log
pub by_keeps : (base : ℕ) (o : Opening) (es : List Entry) (g : Geometry) (s : State) (events : List SessionEvent) (new : State) (made : List Entry) → AreSessionsAfter base o es s.sessions s.log
    → GoesBy g s events new made → AreSessionsAfter base o (es ++ made) new.sessions new.log
by_keeps base o es g s [] new made k h =
    subst (λ (x : State). AreSessionsAfter base o (es ++ made) x.sessions x.log) (sym h.0)
    (subst (λ (xs : List Entry). AreSessionsAfter base o xs s.sessions s.log) (sym (append-nil es) ∙ ap (λ xs. es ++ xs) (sym h.1)) k)
by_keeps base o es g s (e ∷ events) new made k h =
    subst (λ (xs : List Entry). AreSessionsAfter base o xs new.sessions new.log) (append_assoc es (entries_by s.sessions e) h.1 ∙ ap (λ xs. es ++ xs) (sym h.4))
    (by_keeps base o (es ++ entries_by s.sessions e) g h.0 events new h.1
    (subst (AreSessionsAfter base o (es ++ entries_by s.sessions e) h.0.sessions) (sym h.2.log) (event_keeps base o es s.sessions h.0.sessions e s.log k h.2.moves)) h.3)

-- the sessions behind an abort, before its locks go
abbrev ended : State → SessionTxn → Sessions
ended s a = seated s.sessions (entries_by s.sessions (AnswerAbort a)) (abort_answered s.sessions a)

module _ (g : Geometry) (o : Opening) (found : List LogRecord) (es : List Entry) (session : ℕ) (a : SessionTxn) (of : a.session ≡ session) (s : State) (k : IsSessionsState o found es s)
    (mem : HasSeat s.sessions a) where
  pub mark_of_within : (n : ℕ) → n < length a.undo.marks → mark_of a.undo n ≤ length a.undo.images
  mark_of_within n less = mark_within s.sessions.held _ s.sessions.records a.txn a.undo.images n (length a.undo.images) a.undo.marks _ less (k.sound.undoes a mem.0).savepoints

  -- ---- some images are put back

  module _ (r : Rollback) (may : MayRoll a.undo r) (kept : List (Rid × Image)) (e : Rid × Image) (back : List (Rid × Image)) (is : a.undo.images ≡ kept ++ e ∷ back)
      (least : least_kept a.undo r ≤ length kept) where
    abbrev unwound : State
    unwound = put_back s a kept (e ∷ back) r

    pub backs_go : (events : List SessionEvent) (new : State) (made : List Entry) → GoesBy g unwound events new made → GoesBy g s (put_backs a kept e back r events) new made
    backs_go events new made h = put_backs_go g s a mem.0 (own_of k a mem).2.0 (k.log.undo_logged a mem.0) r may kept e back is least events new made h

    pub unwound_state : IsSessionsState o found es unwound
    unwound_state = state_of o found es s k es unwound
        (subst (λ (xs : List Entry). AreSessionsAfter (length found) o xs unwound.sessions unwound.log) (append-nil es)
        (by_keeps (length found) o es g s (put_backs a kept e back r []) unwound [] (sessions_of o found es s k) (backs_go [] unwound [] (refl, refl))))
        (record {
          held = k.locks.held;
          orderly = k.locks.orderly;
          rooted = k.locks.rooted;
          below = k.locks.below;
          waiters = with_other_undo s.locks.requests s.sessions a.txn (undo_rolled a.undo kept r) k.locks.waiters;
          waits = λ running b there idle.
              let was = among_with a.txn (undo_rolled a.undo kept r) b s.sessions.active there in
              subst (λ (t : ℕ). is_waiting t s.locks.requests ≡ false) (sym was.txn) (k.locks.waits running was.was was.there (λ w m spared same. idle w m spared (same ∙ sym was.session)));
        })

    pub same_number : txn_of unwound.sessions session ≡ txn_of s.sessions session
    same_number = refl

  -- ---- and then the call is refused

  abbrev refused_entry : Call → Fault → Entry
  refused_entry c f = Exchanged session (txn_of s.sessions session) (exchange c (Err f))

  -- the images of an interrupted rollback are some, or none
  pub record Unwinds (r : Rollback) (mid : State) : Type 0 where
    pub kept : List (Rid × Image)
    pub newest : Rid × Image
    pub others : List (Rid × Image)
    pub images : a.undo.images ≡ kept ++ newest ∷ others
    pub least : least_kept a.undo r ≤ length kept
    pub is : mid ≡ put_back s a kept (newest ∷ others) r

  pub some_or_none : (r : Rollback) (mid : State) → IsUnwound s a r mid → (P : Type 0) → (mid ≡ s → P) → (Unwinds r mid → P) → P
  some_or_none r mid (inl none) P same some = same none
  some_or_none r mid (inr h) P same some = by h.1 h.2 h.3 h.5
    where
      by : (back : List (Rid × Image)) → back ≢ [] → a.undo.images ≡ h.0 ++ back → mid ≡ put_back s a h.0 back r → P
      by [] any is left = absurd (any refl)
      by (e ∷ back) any is left = some (record { kept = h.0; newest = e; others = back; images = is; least = h.4; is = left })

  interrupted_kept : (r : Rollback) → MayRoll a.undo r → (c : Call) (f : Fault) (new : State) → IsInterrupted s a r f new → IsSessionsState o found (es ++ refused_entry c f ∷ []) new
  interrupted_kept r may c f new h =
      subst (IsSessionsState o found (es ++ refused_entry c f ∷ [])) (sym h.3)
      (after_refused o found (es ++ refused_entry c f ∷ []) h.0 (some_or_none r h.0 h.1 (IsSessionsState o found (es ++ refused_entry c f ∷ []) h.0)
      (λ same. subst (IsSessionsState o found (es ++ refused_entry c f ∷ [])) (sym same) (refusal_told o found es s k session c f nothing))
      (λ x.
      let at = unwound_state r may x.kept x.newest x.others x.images x.least in
      let number = same_number r may x.kept x.newest x.others x.images x.least in
      subst (IsSessionsState o found (es ++ refused_entry c f ∷ [])) (sym x.is)
      (subst (λ t. IsSessionsState o found (es ++ Exchanged session t (exchange c (Err f)) ∷ []) (put_back s a x.kept (x.newest ∷ x.others) r)) number
      (refusal_told o found es (put_back s a x.kept (x.newest ∷ x.others) r) at session c f nothing)))) f)
    where
      nothing : TellsNothing f
      nothing = interrupts_tell_nothing h.0 f h.2

  -- ---- calls

  refused_exactly : (c : Call) (f exact : Fault) (new : State) → f ≡ exact → TellsNothing exact → new ≡ s → IsSessionsState o found (es ++ refused_entry c f ∷ []) new
  refused_exactly c f exact new is nothing same =
      subst (IsSessionsState o found (es ++ refused_entry c f ∷ [])) (sym same) (refusal_told o found es s k session c f (subst TellsNothing (sym is) nothing))

  pub savepoint_kept : a.undo.rolling ≡ None → (step : Step) (new : State) → SavepointStep s a step new → IsSessionsState o found (es ++ entries_told s session call.Savepoint step) new
  savepoint_kept whole (Done answer) new h =
      subst (IsSessionsState o found (es ++ entries_told s session call.Savepoint (Done answer))) (sym h.2)
      (answer_given o found es s k session a mem of call.Savepoint tt answer s.counts tt h.1 (inl whole))
  savepoint_kept whole (Refused f) new h = refused_exactly call.Savepoint f fault.TooManySavepoints new h.0 tt h.2
  savepoint_kept whole (Waits wait) new h = absurd h
  savepoint_kept whole Nothing new h = absurd h

  pub back_kept : (n : ℕ) → TakesCall a.undo (call.BackTo n) → (step : Step) (new : State) → BackToStep s a n step new
      → IsSessionsState o found (es ++ entries_told s session (call.BackTo n) step) new
  back_kept n takes (Done answer) new h =
      subst (IsSessionsState o found (es ++ entries_told s session (call.BackTo n) (Done answer))) (sym h.2)
      (subst (λ (x : Answer). IsSessionsState o found (es ++ entries_told s session (call.BackTo n) (Done x)) (answered s a (call.BackTo n) x s.counts)) (sym h.1)
      (answer_given o found es s k session a mem of (call.BackTo n) tt WentBack s.counts tt (h.0, refl) (may_go_back a n takes)))
  back_kept n takes (Refused f) new (inl h) = refused_exactly (call.BackTo n) f fault.NoSavepoint new h.0 tt h.2
  back_kept n takes (Refused f) new (inr h) = interrupted_kept (To n) (rolls_back a n takes h.0) (call.BackTo n) f new h.1
  back_kept n takes (Waits wait) new h = absurd h
  back_kept n takes Nothing new h = absurd h

  -- ---- an abort is answered

  pub ends_under_way : IsAmong a.txn (txns_of (abort_answered s.sessions a).active) → ⊥
  ends_under_way among = (txn_without a.txn a.txn s.sessions.active among).1 refl

  aborted_kept : is_waiting a.txn s.locks.requests ≡ false → IsSessionsState o found (es ++ Exchanged session (txn_of s.sessions session) (exchange call.Abort (Ok Aborted)) ∷ []) (aborted s a)
  aborted_kept quiet =
      let own : Entry = Exchanged a.session a.txn (exchange call.Abort (Ok Aborted)) in
      let new = aborted s a in
      let entry = same_entry a.session session a.txn (txn_of s.sessions session) (exchange call.Abort (Ok Aborted)) of (sym (its_txn s.sessions a session mem.1 of)) in
      let answered = event_keeps (length found) o es s.sessions (ended s a) (AnswerAbort a) s.log (sessions_of o found es s k) (own_of k a mem, refl) in
      let unlocked = event_keeps (length found) o (es ++ own ∷ []) (ended s a) new.sessions (MoveLocks (held_by_all (released a.txn s.locks.requests))) new.log answered
      (released_moves (ended s a) s.locks.requests a.txn (ap (without_locks a.txn) k.locks.held) k.locks.orderly k.locks.rooted k.locks.below ends_under_way) in
      state_of o found es s k (es ++ Exchanged session (txn_of s.sessions session) (exchange call.Abort (Ok Aborted)) ∷ []) new
      (subst (λ (e : Entry). AreSessionsAfter (length found) o (es ++ e ∷ []) new.sessions new.log) entry
      (then_quiet (length found) o es (own ∷ []) new.sessions new.log unlocked))
      (record {
        held = refl;
        orderly = released_orderly s.locks.requests a.txn k.locks.orderly;
        rooted = released_rooted s.locks.requests a.txn k.locks.orderly k.locks.rooted;
        below = released_below s.locks.requests a.txn s.sessions.next_txn k.locks.orderly k.locks.below;
        waiters =
            freed_quiet (released a.txn s.locks.requests) s.sessions a mem.1 (released_stay_quiet s.locks.requests a.txn a.txn k.locks.orderly quiet)
            (released_under_way s.locks.requests s.sessions a.txn k.locks.orderly k.locks.waiters);
        waits = λ running b there idle.
            released_stay_quiet s.locks.requests a.txn b.txn k.locks.orderly (k.locks.waits running b (among_without a.txn b s.sessions.active there).0 idle);
      })

  pub abort_kept : is_waiting a.txn s.locks.requests ≡ false → (step : Step) (new : State) → AbortStep s a step new → IsSessionsState o found (es ++ entries_told s session call.Abort step) new
  abort_kept quiet (Done answer) new h =
      subst (IsSessionsState o found (es ++ entries_told s session call.Abort (Done answer))) (sym h.1)
      (subst (λ (x : Answer). IsSessionsState o found (es ++ entries_told s session call.Abort (Done x)) (aborted s a)) (sym h.0) (aborted_kept quiet))
  abort_kept quiet (Refused f) new h = interrupted_kept Whole tt call.Abort f new h
  abort_kept quiet (Waits wait) new h = absurd h
  abort_kept quiet Nothing new h = absurd h

-- A rollback that a resolve has decided is interrupted: some of its images are put back, and the call is refused.
use Rattle.std.proofs.Common.{◌≡◌, ◌≢◌, inl, inr, ◌++◌, ◌∷◌, ℕ, List, [], Err, refl, sym, ap, subst, ◌∙◌, append-nil, arith, length, false}
use Rattle.shore_types.specs.declared.faults.Fault.{Fault}
use Rattle.shore_types.specs.declared.layout.Geometry.{Geometry}
use Rattle.shore_types.specs.declared.ids.Rid.{Rid}
use Rattle.shore_model.specs.declared.calls.Call.{Call}
use Rattle.shore_model.specs.declared.histories.Entry.{Entry}
use Rattle.shore_model.specs.declared.histories.Entry.TheVariants.{Exchanged}
use Rattle.shore_model.specs.declared.histories.Opening.{Opening}
use Rattle.shore_model.specs.declared.log_records.LogRecord.{LogRecord}
use Rattle.shore_model.specs.declared.rollbacks.Rollback.TheVariants.{Whole}
use Rattle.shore_types.specs.Images.{Image}
use Rattle.shore_locks.specs.Tables.{is_waiting}
use Rattle.laws_lives.proofs.Members.{among_with}
use Rattle.laws_lives.specs.SessionSteps.{RefuseCall, SessionEvent, TellsNothing, exchange, PutBack}
use Rattle.laws_lives.specs.Sessions.{SessionTxn, in_doubt_of}
use Rattle.laws_lives.specs.UndoLists.{UndoList, undo_rolled}
use Rattle.laws_lives.specs.Views.{IsAmong}
use Rattle.laws_calls.proofs.Links.{GoesBy, GoesQuietly, IsLeft, IsQuiet, refusal_goes}
use Rattle.laws_calls.proofs.LockedAnswers.{after_refused, refusal_told}
use Rattle.laws_calls.proofs.Passing.{refused_left, told_passes}
use Rattle.laws_calls.proofs.RollbackLinks.{all_put_backs, put_backs, put_backs_go}
use Rattle.laws_calls.proofs.RollingCalls.{by_keeps, interrupts_tell_nothing}
use Rattle.laws_calls.proofs.SessionForces.{quietly_forced}
use Rattle.laws_calls.proofs.Sessions.{AreSessionsAfter, older_resolved, refused_seats}
use Rattle.laws_calls.proofs.SessionsWaiting.{quietly_waits}
use Rattle.laws_calls.proofs.TakenLocks.{sessions_of, state_of}
use Rattle.laws_calls.proofs.Unwinding.{with_list}
use Rattle.laws_calls.proofs.Waiters.{with_other_undo}
use Rattle.laws_calls.specs.CallHistories.{txn_of}
use Rattle.laws_calls.specs.Events.{IsStateAfter}
use Rattle.laws_calls.specs.LockedStates.{IsSessionsState}
use Rattle.laws_calls.specs.Rollbacks.{IsInterrupted, IsUnwound, put_back}
use Rattle.laws_calls.specs.StateChanges.{after_refusal}
use Rattle.laws_calls.specs.States.{HasSeat, State}
use Rattle.laws_calls.proofs.FewTxns.{quietly_few}

module _ (g : Geometry) (o : Opening) (found : List LogRecord) (es : List Entry) (s : State) (k : IsStateAfter o found es s) (a : SessionTxn) (mem : IsAmong a s.sessions.active)
    (free : IsAmong a.txn (in_doubt_of s.sessions) → ⊥) (no_seat : (b : SessionTxn) → HasSeat s.sessions b → b.txn ≢ a.txn) (session : ℕ) (c : Call) (f : Fault) where
  abbrev pub refused : Entry
  refused = Exchanged session (txn_of s.sessions session) (exchange c (Err f))

  nobody_waits : (undo : UndoList) (kept : List (Rid × Image)) (e : Rid × Image) (r : _) → IsQuiet s (PutBack (with_list a undo) kept e r)
  nobody_waits undo kept e r b w m n same its = no_seat b m its

  module _ (nothing : TellsNothing f) (kept : List (Rid × Image)) (e : Rid × Image) (others : List (Rid × Image)) (is : a.undo.images ≡ kept ++ e ∷ others) where
    abbrev unwound : State
    unwound = put_back s a kept (e ∷ others) Whole

    backs : (events : List SessionEvent) (new : State) (made : List Entry) → GoesBy g unwound events new made → GoesBy g s (put_backs a kept e others Whole events) new made
    backs events new made h = put_backs_go g s a mem free (k.sessions.log.undo_logged a mem) Whole tt kept e others is (omega arith) events new made h

    some_back : (new : State) → new ≡ after_refusal f unwound → GoesQuietly g session s new (refused ∷ [])
    some_back new left = record {
      events = put_backs a kept e others Whole (RefuseCall session (txn_of s.sessions session) c f ∷ []);
      quiet = all_put_backs (IsQuiet s) a nobody_waits kept e others Whole (RefuseCall session (txn_of s.sessions session) c f ∷ []) (tt, tt);
      mid = unwound;
      goes =
          backs (RefuseCall session (txn_of s.sessions session) c f ∷ []) unwound (refused ∷ []) (
            unwound,
            [],
            refusal_goes g unwound session (txn_of s.sessions session) c f (refl, nothing, refused_seats unwound.sessions session (txn_of s.sessions session) c f),
            (refl, refl),
            refl,
          );
      left = subst (IsLeft session unwound) (sym left) (refused_left session unwound f);
    }

    unwound_state : IsSessionsState o found es unwound
    unwound_state = state_of o found es s k.sessions es unwound
        (subst (λ (xs : List Entry). AreSessionsAfter (length found) o xs unwound.sessions unwound.log) (append-nil es)
        (by_keeps (length found) o es g s (put_backs a kept e others Whole []) unwound [] (sessions_of o found es s k.sessions) (backs [] unwound [] (refl, refl))))
        (record {
          held = k.sessions.locks.held;
          orderly = k.sessions.locks.orderly;
          rooted = k.sessions.locks.rooted;
          below = k.sessions.locks.below;
          waiters = with_other_undo s.locks.requests s.sessions a.txn (undo_rolled a.undo kept Whole) k.sessions.locks.waiters;
          waits = λ running b there idle.
              let was = among_with a.txn (undo_rolled a.undo kept Whole) b s.sessions.active there in
              subst (λ (t : ℕ). is_waiting t s.locks.requests ≡ false) (sym was.txn)
              (k.sessions.locks.waits running was.was was.there (λ w m spared same. idle w m spared (same ∙ sym was.session)));
        })

    some_state : IsSessionsState o found (es ++ refused ∷ []) (after_refusal f unwound)
    some_state = after_refused o found (es ++ refused ∷ []) unwound (refusal_told o found es unwound unwound_state session c f nothing) f

  module _ (new : State) (h : IsInterrupted s a Whole f new) where
    nothing : TellsNothing f
    nothing = interrupts_tell_nothing h.0 f h.2

    some_or_none : (P : Type 0) → (new ≡ after_refusal f s → P)
        → ((kept : List (Rid × Image)) (e : Rid × Image) (others : List (Rid × Image)) → a.undo.images ≡ kept ++ e ∷ others → new ≡ after_refusal f (put_back s a kept (e ∷ others) Whole) → P) → P
    some_or_none P none some = by h.1
      where
        with_some : (kept back : List (Rid × Image)) → back ≢ [] → a.undo.images ≡ kept ++ back → h.0 ≡ put_back s a kept back Whole → P
        with_some kept [] any is left = absurd (any refl)
        with_some kept (e ∷ others) any is left = some kept e others is (h.3 ∙ ap (after_refusal f) left)

        by : IsUnwound s a Whole h.0 → P
        by (inl same) = none (h.3 ∙ ap (after_refusal f) same)
        by (inr x) = with_some x.0 x.1 x.2 x.3 x.5

    pub stopped_passes : GoesQuietly g session s new (refused ∷ [])
    stopped_passes = some_or_none (GoesQuietly g session s new (refused ∷ []))
        (λ same. subst (λ (n : State). GoesQuietly g session s n (refused ∷ [])) (sym same) (told_passes g o found es session s (after_refusal f s) c f nothing (refused_left session s f)))
        (λ kept e others is left. some_back nothing kept e others is new left)

    stopped_state : IsSessionsState o found (es ++ refused ∷ []) new
    stopped_state = some_or_none (IsSessionsState o found (es ++ refused ∷ []) new)
        (λ same. subst (IsSessionsState o found (es ++ refused ∷ [])) (sym same) (after_refused o found (es ++ refused ∷ []) s (refusal_told o found es s k.sessions session c f nothing) f))
        (λ kept e others is left. subst (IsSessionsState o found (es ++ refused ∷ [])) (sym left) (some_state nothing kept e others is))

    pub stopped_stays : IsStateAfter o found (es ++ refused ∷ []) new
    stopped_stays = record {
      sessions = stopped_state;
      waits = quietly_waits (length found) g session s new (refused ∷ []) (older_resolved o found es s k.sessions) k.waits stopped_passes;
      forced = quietly_forced g session (length found) es s new (refused ∷ []) stopped_passes k.forced;
      few = quietly_few g session s new (refused ∷ []) stopped_passes k.few;
    }

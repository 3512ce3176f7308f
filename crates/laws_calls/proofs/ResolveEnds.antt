-- The end of a rollback that a resolve has decided, and the answer of a resolve, each leave a state of a manager.
use Rattle.std.proofs.Common.{◌≡◌, ◌≢◌, ◌⊎◌, inl, inr, ⊎_elim, ◌++◌, ◌∷◌, ◌<◌, ◌≤◌, ℕ, List, [], true, false, cond, Ok, refl, sym, ap, subst, ◌∙◌, append-nil, arith, length, take}
use Rattle.std.specs.Prelude.{◌==◌, Contains}
use Rattle.shore_types.specs.declared.layout.TheConstants.{MAX_TRANSACTIONS}
use Rattle.shore_model.specs.declared.calls.Answer.TheVariants.{Resolved}
use Rattle.shore_model.specs.declared.calls.Call.TheVariants as call
use Rattle.shore_model.specs.declared.calls.Outcome.{Outcome}
use Rattle.shore_model.specs.declared.calls.Outcome.TheVariants as outcome
use Rattle.shore_model.specs.declared.histories.Decision.TheVariants as decision
use Rattle.shore_model.specs.declared.histories.Entry.{Entry}
use Rattle.shore_model.specs.declared.histories.Entry.TheVariants.{Exchanged}
use Rattle.shore_model.specs.declared.histories.Opening.{Opening}
use Rattle.shore_model.specs.declared.log_records.LogRecord.{LogRecord}
use Rattle.shore_model.specs.Histories.{acknowledged_by, decision_asked_by}
use Rattle.shore_model.specs.Logs.{is_rollback, has}
use Rattle.shore_model.specs.Requests.{held_by_all}
use Rattle.shore_locks.specs.Grants.{released}
use Rattle.shore_locks.specs.Tables.{is_waiting}
use Rattle.laws_locks.proofs.Held.{released_below, released_moves, released_orderly, released_rooted}
use Rattle.laws_lives.proofs.Lists.{among_map}
use Rattle.laws_lives.proofs.Members.{among_without, member_stays, txn_among, txn_without}
use Rattle.laws_lives.specs.LogPrefixes.{decision_asked, decisions_in}
use Rattle.laws_lives.specs.SessionSteps.{AnswerResolve, EndRollback, MoveLocks, exchange}
use Rattle.laws_lives.specs.Sessions.{ResolvedTxn, SessionTxn, Sessions, in_doubt_of, in_txn, resolved_of, rollback_ended, txns_of, in_use, without_locks}
use Rattle.laws_lives.specs.Views.{IsAmong}
use Rattle.laws_calls.proofs.Acknowledged.{acknowledges_one}
use Rattle.laws_calls.proofs.CarriedWaits.{CarriesWaits, carried_less, carried_own, carried_same}
use Rattle.laws_calls.proofs.Elements.{in_longer}
use Rattle.laws_calls.proofs.Growing.{still_there}
use Rattle.laws_calls.proofs.Links.{shorter_without}
use Rattle.laws_calls.proofs.ResolveLists.{ended_answered, ended_once, kept_but, left_but, one_resolved}
use Rattle.laws_calls.proofs.SessionForces.{forced_on}
use Rattle.laws_calls.proofs.Sessions.{AreSessionsAfter, event_keeps, own_of, one_member}
use Rattle.laws_calls.proofs.TakenLocks.{sessions_of, state_of}
use Rattle.laws_calls.proofs.UnderGlobal.{one_global, used_resolved}
use Rattle.laws_calls.proofs.Waiters.{released_under_way}
use Rattle.laws_calls.specs.CallSteps.{HasEnded, txn_count}
use Rattle.laws_calls.specs.Events.{IsStateAfter}
use Rattle.laws_calls.specs.LockedStates.{HasTrueLocks}
use Rattle.laws_calls.specs.Resolves.{IsRollingBack, resolve_ended, resolve_told, resolved_by_rollback, rollback_done}
use Rattle.laws_calls.specs.SessionWaits.{IsDecisionWait, IsLockWait}
use Rattle.laws_calls.specs.StateChanges.{decision_waiting}
use Rattle.laws_calls.specs.States.{DoesNotWait, HasSeat, State, Waiting}
use Rattle.std.proofs.lemmas.Bool.{cases_Bool, eqb-true, eqb-false}
use Rattle.laws_locks.proofs.Waiting.{released_stay_quiet}
use Rattle.shore_model.specs.declared.step.Wait.{Wait}
use Rattle.shore_model.specs.declared.step.Wait.TheVariants.{Durable, Lock}
use Rattle.laws_calls.proofs.SessionsWaiting.{asks_no_resolve, resolver_outside}
use Rattle.laws_calls.proofs.SessionResumes.{waits_stay}
use Rattle.laws_calls.proofs.Prefixes.{whole_prefix}
use Rattle.shore_model.specs.declared.histories.Decision.{Decision}
use Rattle.laws_calls.proofs.LongerLogs.{done_further}
use Rattle.laws_calls.proofs.ResolveStates.{resolves_none, txn_stays}
use Rattle.laws_lives.proofs.Tickets.{none_more}
use Rattle.std.specs.List.{cons_option}

-- ---- a rollback ends

module _ (o : Opening) (found : List LogRecord) (es : List Entry) (s : State) (k : IsStateAfter o found es s) (a : SessionTxn) (global : List ℕ) (rolls : IsRollingBack s a global) where
  abbrev pub rolled_own : ResolvedTxn
  rolled_own = resolved_by_rollback a global

  pub rolled_resolved : IsAmong a.txn (resolved_of s.sessions)
  rolled_resolved = among_map (λ (q : ResolvedTxn). q.txn) rolled_own s.sessions.resolving rolls.1

  rolled_active : IsAmong a.txn (txns_of s.sessions.active)
  rolled_active = txn_among a s.sessions.active rolls.0

  pub no_seat : (b : SessionTxn) → HasSeat s.sessions b → b.txn ≢ a.txn
  no_seat b mine same = (own_of k.sessions b mine).2.1 (subst (λ t. IsAmong t (resolved_of s.sessions)) (sym same) rolled_resolved)

  pub rolled_logged : (has is_rollback a.txn s.log ≡ true) × (IsAmong a.txn (in_doubt_of s.sessions) → ⊥)
  rolled_logged = k.sessions.doubts.rolled a.txn rolled_active rolled_resolved

  pub rolled_quiet : is_waiting a.txn s.locks.requests ≡ false
  rolled_quiet = ⊎_elim
      (λ waits. let was = k.sessions.locks.waiters a.txn waits in absurd (no_seat was.0 was.1 was.2))
      (λ quiet. quiet)
      (cases_Bool (is_waiting a.txn s.locks.requests))

  -- no call waits with a resolve of it
  pub rolled_free : (w : Waiting) (y : Outcome) → IsAmong w s.waiting → w.call ≢ call.Resolve global y
  rolled_free w y m is = resolves_none o found es s k a.txn global (used_resolved s.sessions rolled_own rolls.1) rolled_active w y m is

  abbrev pub done : State
  done = rollback_done s a

  abbrev ended : Sessions
  ended = rollback_ended s.sessions a

  no_more_rolled : IsAmong a.txn (txns_of ended.active) → ⊥
  no_more_rolled among = (txn_without a.txn a.txn s.sessions.active among).1 refl

  done_sessions : AreSessionsAfter (length found) o es done.sessions done.log
  done_sessions =
      subst (λ es. AreSessionsAfter (length found) o es done.sessions done.log) (append-nil (es ++ []) ∙ append-nil es)
      (event_keeps (length found) o (es ++ []) ended done.sessions (MoveLocks (held_by_all (released a.txn s.locks.requests))) done.log
      (event_keeps (length found) o es s.sessions ended (EndRollback a) s.log (sessions_of o found es s k.sessions) ((rolls.0, rolled_logged.1), rolled_resolved, refl))
      (released_moves ended s.locks.requests a.txn (ap (without_locks a.txn) k.sessions.locks.held) k.sessions.locks.orderly k.sessions.locks.rooted k.sessions.locks.below no_more_rolled))

  done_seat : (b : SessionTxn) → HasSeat s.sessions b → HasSeat done.sessions b
  done_seat b mine = (member_stays a.txn b s.sessions.active mine.0 (no_seat b mine), mine.1, mine.2)

  done_locks : HasTrueLocks done
  done_locks = record {
    held = refl;
    orderly = released_orderly s.locks.requests a.txn k.sessions.locks.orderly;
    rooted = released_rooted s.locks.requests a.txn k.sessions.locks.orderly k.sessions.locks.rooted;
    below = released_below s.locks.requests a.txn s.sessions.next_txn k.sessions.locks.orderly k.sessions.locks.below;
    waiters = λ t waits.
        let was = released_under_way s.locks.requests s.sessions a.txn k.sessions.locks.orderly k.sessions.locks.waiters t waits in
        (was.0, done_seat was.0 was.1, was.2);
    waits = λ running b there nothing.
        released_stay_quiet s.locks.requests a.txn b.txn k.sessions.locks.orderly (k.sessions.locks.waits running b (among_without a.txn b s.sessions.active there).0 nothing);
  }

  done_ending : (r : ResolvedTxn) → HasEnded done.sessions r → HasEnded s.sessions r ⊎ (r ≡ rolled_own)
  done_ending r ends = ⊎_elim
      (λ same. inr (one_resolved r rolled_own s.sessions.resolving k.sessions.single ends.0 rolls.1 (eqb-true r.txn a.txn same)))
      (λ other. inl (ends.0, λ m. ends.1 (txn_stays a.txn r.txn s.sessions.active m (eqb-false r.txn a.txn other))))
      (cases_Bool (r.txn == a.txn))

  done_few : txn_count done ≤ MAX_TRANSACTIONS
  done_few =
      let few = k.few in
      let shorter = shorter_without a s.sessions.active rolls.0 in
      let more = ended_once a.txn s.sessions.active s.sessions.resolving k.sessions.single in
      omega (arith, few, shorter, more)

  -- .. and the resolve waits for the record of the decision, or is answered
  module _ (session : ℕ) (idle : DoesNotWait s session) (out : (t : ℕ) → 0 < t → s.sessions.seats session ≢ in_txn t) (n : ℕ)
      (some : 0 < n) (within : n ≤ length s.log) (logged : Contains (decisions_in (length found) (take n s.log)) (decision.RollBack a.txn)) where
    abbrev pub awaits : State
    awaits = record (rollback_done s a) { waiting = decision_waiting session (call.Resolve global outcome.Abort) n ∷ s.waiting }

    awaits_carries : CarriesWaits (λ r. r ≡ rolled_own) s awaits
    awaits_carries = record {
      failed = refl;
      doubts = λ p m. m;
      doubts_on = λ p m e. m;
      doubt_seats = λ p l m is. is;
      outside = λ l t above is. is;
      under_way = done_seat;
      ending = done_ending;
      on = (done_further s a).on;
    }

    its_wait : IsDecisionWait (length found) awaits (decision_waiting session (call.Resolve global outcome.Abort) n)
    its_wait =
        let still = still_there (length found) n s.log awaits.log (decision.RollBack a.txn) ((done_further s a).on) within logged in
        record {
          number = n;
          decision = decision.RollBack a.txn;
          is = refl;
          unanswered = inr (rolled_own, (rolls.1, no_more_rolled), refl, refl, out);
          some = some;
          there = still.0;
          decided = still.1;
        }

    pub awaits_stays : IsStateAfter o found es awaits
    awaits_stays = record {
      sessions = state_of o found es s k.sessions es awaits done_sessions (record {
        held = refl;
        orderly = done_locks.orderly;
        rooted = done_locks.rooted;
        below = done_locks.below;
        waiters = done_locks.waiters;
        waits = λ running b there nothing. done_locks.waits running b there (λ w m. nothing w (inr m));
      });
      waits = carried_own (length found) (λ r. r ≡ rolled_own) s awaits k.waits awaits_carries session rolled_own n idle refl
          (λ r was. (was.0, λ m. was.1 (txn_without a.txn r.txn s.sessions.active m).0)) (λ r is. is) its_wait rolled_free;
      forced = forced_on (length found) es s awaits refl ((done_further s a).on) k.forced;
      few = done_few;
    }

    -- ---- it is answered at once

    module _ (durable : n ≤ s.durable) where
      abbrev pub answered_now : State
      answered_now = resolve_told (rollback_done s a) session rolled_own

      abbrev told : Entry
      told = Exchanged session a.txn (exchange (call.Resolve global outcome.Abort) (Ok Resolved))

      answered_sessions : AreSessionsAfter (length found) o (es ++ told ∷ []) answered_now.sessions answered_now.log
      answered_sessions = event_keeps (length found) o es done.sessions answered_now.sessions (AnswerResolve session rolled_own) done.log done_sessions (rolls.1, no_more_rolled, refl)

      seat_same : (l : ℕ) → answered_now.sessions.seats l ≡ s.sessions.seats l
      seat_same l = elim (session == l) as (λ b. cond b (s.sessions.seats l) (s.sessions.seats l) ≡ s.sessions.seats l) [ true ↦ refl | false ↦ refl ]

      answered_seat : (b : SessionTxn) → HasSeat s.sessions b → HasSeat answered_now.sessions b
      answered_seat b mine = let on = done_seat b mine in (on.0, seat_same b.session ∙ on.1, on.2)

      answered_carries : CarriesWaits (λ r. ⊥) s answered_now
      answered_carries = record {
        failed = refl;
        doubts = λ p m. m;
        doubts_on = λ p m e. m;
        doubt_seats = λ p l m is. seat_same l ∙ is;
        outside = λ l t above is. sym (seat_same l) ∙ is;
        under_way = answered_seat;
        ending = λ r ends.
            let was = kept_but (λ (q : ResolvedTxn). q.txn) a.txn r s.sessions.resolving ends.0 in
            inl (was.0, λ m. ends.1 (txn_stays a.txn r.txn s.sessions.active m was.1));
        on = (done_further s a).on;
      }

      pub answered_stays : IsStateAfter o found (es ++ told ∷ []) answered_now
      answered_stays = record {
        sessions = state_of o found es s k.sessions (es ++ told ∷ []) answered_now answered_sessions (record {
          held = refl;
          orderly = done_locks.orderly;
          rooted = done_locks.rooted;
          below = done_locks.below;
          waiters = λ t waits. let was = done_locks.waiters t waits in (was.0, (was.1.0, seat_same was.0.session ∙ was.1.1, was.1.2), was.2);
          waits = done_locks.waits;
        });
        waits = carried_same (length found) (λ r. ⊥) s answered_now k.waits answered_carries refl
            (λ r was. (
              left_but (λ (q : ResolvedTxn). q.txn) a.txn r s.sessions.resolving was.0 (λ same. was.1 (subst (λ t. IsAmong t (txns_of s.sessions.active)) (sym same) rolled_active)),
              λ m. was.1 (txn_without a.txn r.txn s.sessions.active m).0,
            ))
            (λ r now own. absurd own);
        forced =
            let on = (done_further s a).on in
            let carried = forced_on (length found) es s answered_now refl on k.forced in
            record {
              least = carried.least;
              most = carried.most;
              acknowledged_kept =
                  acknowledges_one (Contains (decisions_in (length found) (take s.durable answered_now.log))) es carried.acknowledged_kept told (decision.RollBack a.txn) refl
                  (still_there (length found) s.durable s.log answered_now.log (decision.RollBack a.txn) on k.forced.most (in_longer (length found) n s.durable s.log (decision.RollBack a.txn) durable logged)).1;
              tickets = none_more (length found) answered_now.log es carried.tickets told refl;
            };
        few = let fewer = ended_answered a.txn done.sessions.active s.sessions.resolving in let few = done_few in omega (arith, few, fewer);
      }

-- ---- a resolve is answered that waited

module _ (o : Opening) (found : List LogRecord) (es : List Entry) (s : State) (k : IsStateAfter o found es s) (w : Waiting) (there : IsAmong w s.waiting) (n : ℕ) (waits_for : w.wait ≡ Durable n) (durable : n ≤ s.durable)
    (r : ResolvedTxn) (ends : HasEnded s.sessions r) (asks : w.call ≡ call.Resolve r.global r.outcome) where
  abbrev pub resumed : State
  resumed = resolve_ended s w.session r

  abbrev its_told : Entry
  its_told = Exchanged w.session r.txn (exchange (call.Resolve r.global r.outcome) (Ok Resolved))

  resumed_sessions : AreSessionsAfter (length found) o (es ++ its_told ∷ []) resumed.sessions s.log
  resumed_sessions = event_keeps (length found) o es s.sessions resumed.sessions (AnswerResolve w.session r) s.log (sessions_of o found es s k.sessions) (ends.0, ends.1, refl)

  same_seat : (l : ℕ) → resumed.sessions.seats l ≡ s.sessions.seats l
  same_seat l = elim (w.session == l) as (λ b. cond b (s.sessions.seats l) (s.sessions.seats l) ≡ s.sessions.seats l) [ true ↦ refl | false ↦ refl ]

  -- the wait is for its decision
  pub its_decision : (d : Decision) → d ≡ decision_asked r.txn r.outcome → Contains (decisions_in (length found) (take s.durable s.log)) d
  its_decision d is = by (k.waits.each w there)
    where
      number_of : Wait → ℕ
      number_of (Durable m) = m
      number_of (Lock at) = 0

      same_name : (a b : Outcome) (g e : List ℕ) → call.Resolve g a ≡ call.Resolve e b → (g ≡ e) × (a ≡ b)
      same_name a b g e is = (cc, cc)

      by : IsDecisionWait (length found) s w ⊎ IsLockWait s w → Contains (decisions_in (length found) (take s.durable s.log)) d
      by (inr l) = absurd (asks_no_resolve w.call l.lock l.asked r.global r.outcome asks)
      by (inl c) = ⊎_elim
          (λ h. let clash : call.Prepare h.1 ≡ call.Resolve r.global r.outcome = sym h.3 ∙ asks in absurd cc)
          (λ h.
          let names = same_name h.0.outcome r.outcome h.0.global r.global (sym h.2 ∙ asks) in
          let one : h.0.txn ≡ r.txn = one_global o es s.sessions k.sessions.agree h.0.txn r.txn r.global
          (subst (λ g. IsAmong (h.0.txn, g) (in_use s.sessions)) names.0 (used_resolved s.sessions h.0 h.1.0)) (used_resolved s.sessions r ends.0) in
          let number : n ≡ c.number = ap number_of (sym waits_for) ∙ ap (λ (v : Waiting). number_of v.wait) c.is in
          let decided : c.decision ≡ d = h.3 ∙ ap (λ t. decision_asked t h.0.outcome) one ∙ ap (decision_asked r.txn) names.1 ∙ sym is in
          subst (Contains (decisions_in (length found) (take s.durable s.log))) decided
          (in_longer (length found) c.number s.durable s.log c.decision (subst (λ x. x ≤ s.durable) number durable) c.decided))
          c.unanswered

  acknowledges : acknowledged_by es its_told ≡ decision_asked r.txn r.outcome ∷ []
  acknowledges = by r.outcome
    where
      by : (x : Outcome) → cons_option (decision_asked_by r.txn (call.Resolve r.global x)) [] ≡ decision_asked r.txn x ∷ []
      by outcome.Commit = refl
      by outcome.Abort = refl

  resumed_carries : CarriesWaits (λ q. ⊥) s resumed
  resumed_carries = record {
    failed = refl;
    doubts = λ p m. m;
    doubts_on = λ p m e. m;
    doubt_seats = λ p l m is. same_seat l ∙ is;
    outside = λ l t above is. sym (same_seat l) ∙ is;
    under_way = λ b mine. (mine.0, same_seat b.session ∙ mine.1, mine.2);
    ending = λ q now. inl ((kept_but (λ (x : ResolvedTxn). x.txn) r.txn q s.sessions.resolving now.0).0, now.1);
    on = whole_prefix s.log;
  }

  -- the transaction of the session still waits for no lock, if it asks for none
  pub resumed_stays : IsStateAfter o found (es ++ its_told ∷ []) resumed
  resumed_stays = record {
    sessions = state_of o found es s k.sessions (es ++ its_told ∷ []) resumed resumed_sessions (record {
      held = k.sessions.locks.held;
      orderly = k.sessions.locks.orderly;
      rooted = k.sessions.locks.rooted;
      below = k.sessions.locks.below;
      waiters = λ t waits. let was = k.sessions.locks.waiters t waits in (was.0, (was.1.0, same_seat was.0.session ∙ was.1.1, was.1.2), was.2);
      waits = λ running b b_there nothing. ⊎_elim
          (λ waits.
          let was = k.sessions.locks.waiters b.txn waits in
          let same = one_member k.sessions was.0 b was.1.0 b_there was.2 in
          let mine : HasSeat s.sessions b = subst (HasSeat s.sessions) same was.1 in
          k.sessions.locks.waits running b b_there (λ v m spared of.
          nothing v (waits_stay w.session v s.waiting m (λ own. resolver_outside (length found) s w r.global r.outcome (k.waits.each w there) asks b.txn mine.2 (ap s.sessions.seats (sym own ∙ of) ∙ mine.1))) spared of))
          (λ quiet. quiet)
          (cases_Bool (is_waiting b.txn s.locks.requests));
    });
    waits = carried_less (length found) (λ q. ⊥) s resumed k.waits resumed_carries w there r asks refl
        (λ q was. ⊎_elim
        (λ same. inl (one_resolved q r s.sessions.resolving k.sessions.single was.0 ends.0 (eqb-true q.txn r.txn same)))
        (λ other. inr (left_but (λ (x : ResolvedTxn). x.txn) r.txn q s.sessions.resolving was.0 (eqb-false q.txn r.txn other), was.1))
        (cases_Bool (q.txn == r.txn)))
        (λ q now.
        let was = kept_but (λ (x : ResolvedTxn). x.txn) r.txn q s.sessions.resolving now.0 in
        ((was.0, now.1), λ same. was.1 (one_global o es s.sessions k.sessions.agree q.txn r.txn r.global (subst (λ g. IsAmong (q.txn, g) (in_use s.sessions)) same (used_resolved s.sessions q was.0)) (used_resolved s.sessions r ends.0))));
    forced = record {
      least = k.forced.least;
      most = k.forced.most;
      acknowledged_kept =
          acknowledges_one (Contains (decisions_in (length found) (take s.durable s.log))) es k.forced.acknowledged_kept its_told (decision_asked r.txn r.outcome) acknowledges
          (its_decision (decision_asked r.txn r.outcome) refl);
      tickets = none_more (length found) s.log es k.forced.tickets its_told refl;
    };
    few = let fewer = ended_answered r.txn s.sessions.active s.sessions.resolving in let few = k.few in omega (arith, few, fewer);
  }

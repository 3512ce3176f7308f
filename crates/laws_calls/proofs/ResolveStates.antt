-- Each stage of a resolve leaves a state of a manager: a decision to commit, a decision to roll back, the end of the rollback, and the answer.
use Rattle.std.proofs.Common.{◌≡◌, ◌≢◌, inl, inr, ⊎_elim, ◌++◌, ◌∷◌, ◌<◌, ℕ, List, [], true, false, cond, None, refl, sym, ap, subst, ◌∙◌, arith, length, map, ne_eqb, suc}
use Rattle.std.specs.Prelude.{◌&&◌, Contains}
use Rattle.shore_model.specs.declared.calls.Call.TheVariants as call
use Rattle.shore_model.specs.declared.calls.Outcome.{Outcome}
use Rattle.shore_model.specs.declared.calls.Outcome.TheVariants as outcome
use Rattle.shore_model.specs.declared.histories.Decision.TheVariants as decision
use Rattle.shore_model.specs.declared.histories.Entry.{Entry}
use Rattle.shore_model.specs.declared.histories.Entry.TheVariants.{Decided}
use Rattle.shore_model.specs.declared.histories.Opening.{Opening}
use Rattle.shore_model.specs.declared.log_records.LogRecord.{LogRecord}
use Rattle.shore_model.specs.declared.log_records.Payload.TheVariants as payload
use Rattle.shore_model.specs.declared.rollbacks.Rollback.TheVariants.{Whole}
use Rattle.shore_model.specs.declared.sessions.SessionState.{SessionState}
use Rattle.shore_model.specs.Histories.{free, once_decided}
use Rattle.shore_model.specs.Logs.{previous_of}
use Rattle.shore_model.specs.Requests.{held_by_all}
use Rattle.shore_locks.specs.Grants.{released}
use Rattle.shore_locks.specs.Tables.{is_waiting}
use Rattle.laws_locks.proofs.Held.{released_below, released_moves, released_orderly, released_rooted}
use Rattle.laws_lives.proofs.Lists.{among_map, length-push, take-beyond, mapped_one}
use Rattle.laws_lives.proofs.LogPrefixes.{decisions_more}
use Rattle.laws_lives.proofs.Members.{among_with, among_without, member_stays, txn_among, txn_without, txns_with}
use Rattle.laws_lives.specs.LogPrefixes.{decisions_in}
use Rattle.laws_lives.specs.SessionSteps.{AppendResolve, AppendRollback, MoveLocks, entries_by}
use Rattle.laws_lives.specs.Sessions.{PreparedTxn, ResolvedTxn, SessionTxn, Sessions, in_doubt_of, in_prepared, in_txn, resolve_appended, resolved_of, seated, txns_of, without_txn, EachOnce, in_use, without_locks}
use Rattle.laws_lives.specs.UndoLists.{UndoList, undo_rolled}
use Rattle.laws_lives.specs.Views.{IsAmong}
use Rattle.laws_calls.proofs.CarriedWaits.{CarriesWaits, carried_own, carried_same}
use Rattle.laws_calls.proofs.Elements.{among_contained, among_last}
use Rattle.laws_calls.proofs.Growing.{forced_grown}
use Rattle.laws_calls.proofs.Links.{ended_with, ended_without, shorter_without}
use Rattle.laws_calls.proofs.ResolveLeaves.{stays_undecided, was_undecided}
use Rattle.laws_calls.proofs.ResolveLists.{ended_more, ended_still, kept_but, left_but}
use Rattle.laws_calls.proofs.Sessions.{AreSessionsAfter, event_keeps, own_of, then_quiet}
use Rattle.laws_calls.proofs.TakenLocks.{sessions_of, state_of}
use Rattle.laws_calls.proofs.UnderGlobal.{one_global, used_in_doubt, used_resolved}
use Rattle.laws_calls.proofs.Unwinding.{other_list}
use Rattle.laws_calls.proofs.Waiters.{released_under_way}
use Rattle.laws_calls.specs.Events.{IsStateAfter}
use Rattle.laws_calls.specs.LockedStates.{HasTrueLocks}
use Rattle.laws_calls.specs.Resolves.{IsResolvable, resolve_committed, rollback_decided}
use Rattle.laws_calls.specs.SessionWaits.{IsDecisionWait}
use Rattle.laws_calls.specs.StateChanges.{decision_waiting}
use Rattle.laws_calls.specs.States.{DoesNotWait, HasSeat, State, Waiting, next_number}
use Rattle.std.proofs.lemmas.Bool.{cases_Bool}
use Rattle.laws_locks.proofs.Waiting.{released_stay_quiet}
use Rattle.laws_calls.proofs.SessionsWaiting.{asks_no_resolve}
use Rattle.laws_calls.proofs.DoubtsApart.{doubts_apart}

-- a session whose transaction is in doubt stays in it where another's is decided
still_prepared : (t u : ℕ) (p : SessionState) → u ≢ t → p ≡ in_prepared u → once_decided p t ≡ in_prepared u
still_prepared t u p other is = ap (λ (x : SessionState). once_decided x t) is ∙ ap (λ b. cond (b && true) free (in_prepared u)) (ne_eqb u t other)

-- who is in one that is not prepared behind a decision was so before
was_before : (t u : ℕ) (p : SessionState) → 0 < u → once_decided p t ≡ in_txn u → p ≡ in_txn u
was_before t u p above is = was_undecided t u p above is

-- ---- lists

-- of two in doubt with one number there is one
pub one_doubt : (p q : PreparedTxn) (ps : List PreparedTxn) → EachOnce (map (λ (x : PreparedTxn). x.txn) ps) → IsAmong p ps → IsAmong q ps → p.txn ≡ q.txn → p ≡ q
one_doubt p q [] once m n same = absurd m
one_doubt p q (x ∷ ps) once (inl d) (inl e) same = sym d ∙ e
one_doubt p q (x ∷ ps) once (inl d) (inr later) same =
    absurd (once.0 (subst (λ t. IsAmong t (map (λ (x : PreparedTxn). x.txn) ps)) (sym same ∙ ap (λ (x : PreparedTxn). x.txn) (sym d)) (among_map (λ (x : PreparedTxn). x.txn) q ps later)))
one_doubt p q (x ∷ ps) once (inr later) (inl e) same =
    absurd (once.0 (subst (λ t. IsAmong t (map (λ (x : PreparedTxn). x.txn) ps)) (same ∙ ap (λ (x : PreparedTxn). x.txn) (sym e)) (among_map (λ (x : PreparedTxn). x.txn) p ps later)))
one_doubt p q (x ∷ ps) once (inr m) (inr n) same = one_doubt p q ps once.1 m n same

pub length_txns : (xs : List SessionTxn) → length (txns_of xs) ≡ length xs
length_txns [] = refl
length_txns (x ∷ xs) = ap (λ (n : ℕ). suc n) (length_txns xs)

pub txn_stays : (t u : ℕ) (xs : List SessionTxn) → IsAmong u (txns_of xs) → u ≢ t → IsAmong u (txns_of (without_txn t xs))
txn_stays t u xs m other =
    let b = mapped_one (λ (x : SessionTxn). x.txn) u xs m in
    subst (λ v. IsAmong v (txns_of (without_txn t xs))) b.2 (txn_among b.0 (without_txn t xs) (member_stays t b.0 xs b.1 (λ same. other (sym b.2 ∙ same))))

-- no call waits with a resolve of a transaction that is under way
pub resolves_none : (o : Opening) (found : List LogRecord) (es : List Entry) (s : State) → IsStateAfter o found es s → (t : ℕ) (global : List ℕ) → IsAmong (t, global) (in_use s.sessions)
    → IsAmong t (txns_of s.sessions.active) → (w : Waiting) (y : Outcome) → IsAmong w s.waiting → w.call ≢ call.Resolve global y
resolves_none o found es s k t global used active w y m is = ⊎_elim
    (λ c. ⊎_elim
    (λ h. let clash : call.Prepare h.1 ≡ call.Resolve global y = sym h.3 ∙ is in cc)
    (λ h. h.1.1 (subst (λ u. IsAmong u (txns_of s.sessions.active)) (sym (one h.0 h.1.0 (sym h.2 ∙ is))) active))
    c.unanswered)
    (λ l. asks_no_resolve w.call l.lock l.asked global y is)
    (k.waits.each w m)
  where
    same_name : (a b : Outcome) (g e : List ℕ) → call.Resolve g a ≡ call.Resolve e b → g ≡ e
    same_name a b g e is = cc

    one : (r : ResolvedTxn) → IsAmong r s.sessions.resolving → call.Resolve r.global r.outcome ≡ call.Resolve global y → r.txn ≡ t
    one r there same =
        one_global o es s.sessions k.sessions.agree r.txn t global
        (subst (λ g. IsAmong (r.txn, g) (in_use s.sessions)) (same_name r.outcome y r.global global same) (used_resolved s.sessions r there)) used

-- ---- a transaction in doubt is decided

module _ (o : Opening) (found : List LogRecord) (es : List Entry) (s : State) (k : IsStateAfter o found es s) (a : SessionTxn) (global : List ℕ) (can : IsResolvable s a global) where
  abbrev its_doubt : PreparedTxn
  its_doubt = record { txn = a.txn; global = global; answered = true }

  doubtful : IsAmong a.txn (in_doubt_of s.sessions)
  doubtful = among_map (λ (p : PreparedTxn). p.txn) its_doubt s.sessions.prepared can.1

  under_way : IsAmong a.txn (txns_of s.sessions.active)
  under_way = txn_among a s.sessions.active can.0

  pub not_own : (b : SessionTxn) → HasSeat s.sessions b → b.txn ≢ a.txn
  not_own b mine same = (own_of k.sessions b mine).2.0 (subst (λ t. IsAmong t (in_doubt_of s.sessions)) (sym same) doubtful)

  pub whole : a.undo.rolling ≡ None
  whole = k.sessions.agree.unrolled a can.0 doubtful

  pub not_resolved : IsAmong a.txn (resolved_of s.sessions) → ⊥
  not_resolved resolved = (k.sessions.doubts.rolled a.txn under_way resolved).1 doubtful

  pub still_quiet : is_waiting a.txn s.locks.requests ≡ false
  still_quiet = ⊎_elim
      (λ waits. let was = k.sessions.locks.waiters a.txn waits in absurd (not_own was.0 was.1 was.2))
      (λ quiet. quiet)
      (cases_Bool (is_waiting a.txn s.locks.requests))

  -- one that is in doubt, and not answered, is another
  other_doubt : (p : PreparedTxn) → IsAmong p s.sessions.prepared → p.answered ≡ false → p.txn ≢ a.txn
  other_doubt p m e same = let clash : true ≡ false = ap (λ (q : PreparedTxn). q.answered) (one_doubt its_doubt p s.sessions.prepared (doubts_apart (sessions_of o found es s k.sessions)) can.1 m (sym same)) ∙ e in cc

  -- no call waits with a resolve of it
  pub free_global : (w : Waiting) (y : Outcome) → IsAmong w s.waiting → w.call ≢ call.Resolve global y
  free_global w y m is = resolves_none o found es s k a.txn global (used_in_doubt s.sessions its_doubt can.1) under_way w y m is

  -- ---- to roll back

  abbrev pub back : State
  back = rollback_decided s a global

  abbrev back_undo : UndoList
  back_undo = undo_rolled a.undo a.undo.images Whole

  back_locks : HasTrueLocks back
  back_locks = record {
    held = k.sessions.locks.held;
    orderly = k.sessions.locks.orderly;
    rooted = k.sessions.locks.rooted;
    below = k.sessions.locks.below;
    waiters = λ t waits.
        let was = k.sessions.locks.waiters t waits in
        (was.0, (other_list a.txn back_undo was.0 s.sessions.active was.1.0 (not_own was.0 was.1), stays_undecided a.txn was.0.txn (s.sessions.seats was.0.session) was.1.1, was.1.2), was.2);
    waits = λ running b there idle.
        let was = among_with a.txn back_undo b s.sessions.active there in
        subst (λ t. is_waiting t s.locks.requests ≡ false) (sym was.txn)
        (k.sessions.locks.waits running was.was was.there (λ w m spared of. idle w m spared (of ∙ sym was.session)));
  }

  back_carries : CarriesWaits (λ r. ⊥) s back
  back_carries = record {
    failed = refl;
    doubts = λ p m. (kept_but (λ (q : PreparedTxn). q.txn) a.txn p s.sessions.prepared m).0;
    doubts_on = λ p m e. left_but (λ (q : PreparedTxn). q.txn) a.txn p s.sessions.prepared m (other_doubt p m e);
    doubt_seats = λ p n m is. still_prepared a.txn p.txn (s.sessions.seats n) (kept_but (λ (q : PreparedTxn). q.txn) a.txn p s.sessions.prepared m).1 is;
    outside = λ n t above is. was_before a.txn t (s.sessions.seats n) above is;
    under_way = λ b mine. (other_list a.txn back_undo b s.sessions.active mine.0 (not_own b mine), stays_undecided a.txn b.txn (s.sessions.seats b.session) mine.1, mine.2);
    ending = λ r ends. ⊎_elim
        (λ first. absurd (ends.1 (subst (λ t. IsAmong t (txns_of back.sessions.active)) (ap (λ (q : ResolvedTxn). q.txn) first) (subst (IsAmong a.txn) (sym (txns_with a.txn back_undo s.sessions.active)) under_way))))
        (λ later. inl (later, λ m. ends.1 (subst (IsAmong r.txn) (sym (txns_with a.txn back_undo s.sessions.active)) m)))
        ends.0;
    on = (_ ∷ [], refl);
  }

  pub decided_stays : IsStateAfter o found (es ++ Decided (decision.RollBack a.txn) ∷ []) back
  decided_stays = record {
    sessions = state_of o found es s k.sessions (es ++ Decided (decision.RollBack a.txn) ∷ []) back
        (event_keeps (length found) o es s.sessions back.sessions (AppendRollback a global) s.log (sessions_of o found es s k.sessions) (can.0, can.1, refl)) back_locks;
    waits = carried_same (length found) (λ r. ⊥) s back k.waits back_carries refl
        (λ r was. (inr was.0, λ m. was.1 (subst (IsAmong r.txn) (txns_with a.txn back_undo s.sessions.active) m)))
        (λ r now own. absurd own);
    forced = forced_grown (length found) es (Decided (decision.RollBack a.txn)) s back refl (_ ∷ [], refl) refl refl k.forced;
    few =
        let few = k.few in
        let long = ap length (txns_with a.txn back_undo s.sessions.active) in
        let first = length_txns back.sessions.active in
        let second = length_txns s.sessions.active in
        let ended = ap length (ended_still back.sessions.active (record { txn = a.txn; global = global; outcome = outcome.Abort }) s.sessions.resolving
        (subst (IsAmong a.txn) (sym (txns_with a.txn back_undo s.sessions.active)) under_way) ∙ ended_with a.txn back_undo s.sessions.active s.sessions.resolving) in
        omega (arith, few, long, first, second, ended);
  }

  -- ---- to commit

  module _ (session : ℕ) (idle : DoesNotWait s session) where
    abbrev pub gone : State
    gone = resolve_committed s session a global

    abbrev its_own : ResolvedTxn
    its_own = record { txn = a.txn; global = global; outcome = outcome.Commit }

    abbrev appended : Sessions
    appended = seated s.sessions (entries_by s.sessions (AppendResolve a global)) (resolve_appended s.sessions a global)

    abbrev commit_record : LogRecord
    commit_record = record { txn = a.txn; previous = previous_of a.txn s.log; payload = payload.Commit }

    no_more : IsAmong a.txn (txns_of appended.active) → ⊥
    no_more among = (txn_without a.txn a.txn s.sessions.active among).1 refl

    gone_sessions : AreSessionsAfter (length found) o (es ++ Decided (decision.Commit a.txn) ∷ []) gone.sessions gone.log
    gone_sessions =
        then_quiet (length found) o es (Decided (decision.Commit a.txn) ∷ []) gone.sessions gone.log
        (event_keeps (length found) o (es ++ Decided (decision.Commit a.txn) ∷ []) appended gone.sessions (MoveLocks (held_by_all (released a.txn s.locks.requests))) gone.log
        (event_keeps (length found) o es s.sessions appended (AppendResolve a global) s.log (sessions_of o found es s k.sessions) (can.0, whole, can.1, refl))
        (released_moves appended s.locks.requests a.txn (ap (without_locks a.txn) k.sessions.locks.held) k.sessions.locks.orderly k.sessions.locks.rooted k.sessions.locks.below no_more))

    gone_seat : (b : SessionTxn) → HasSeat s.sessions b → HasSeat gone.sessions b
    gone_seat b mine = (member_stays a.txn b s.sessions.active mine.0 (not_own b mine), stays_undecided a.txn b.txn (s.sessions.seats b.session) mine.1, mine.2)

    gone_locks : HasTrueLocks gone
    gone_locks = record {
      held = refl;
      orderly = released_orderly s.locks.requests a.txn k.sessions.locks.orderly;
      rooted = released_rooted s.locks.requests a.txn k.sessions.locks.orderly k.sessions.locks.rooted;
      below = released_below s.locks.requests a.txn s.sessions.next_txn k.sessions.locks.orderly k.sessions.locks.below;
      waiters = λ t waits.
          let was = released_under_way s.locks.requests s.sessions a.txn k.sessions.locks.orderly k.sessions.locks.waiters t waits in
          (was.0, gone_seat was.0 was.1, was.2);
      waits = λ running b there nothing.
          released_stay_quiet s.locks.requests a.txn b.txn k.sessions.locks.orderly
          (k.sessions.locks.waits running b (among_without a.txn b s.sessions.active there).0 (λ w m. nothing w (inr m)));
    }

    gone_carries : CarriesWaits (λ r. r ≡ its_own) s gone
    gone_carries = record {
      failed = refl;
      doubts = λ p m. (kept_but (λ (q : PreparedTxn). q.txn) a.txn p s.sessions.prepared m).0;
      doubts_on = λ p m e. left_but (λ (q : PreparedTxn). q.txn) a.txn p s.sessions.prepared m (other_doubt p m e);
      doubt_seats = λ p n m is. still_prepared a.txn p.txn (s.sessions.seats n) (kept_but (λ (q : PreparedTxn). q.txn) a.txn p s.sessions.prepared m).1 is;
      outside = λ n t above is. was_before a.txn t (s.sessions.seats n) above is;
      under_way = gone_seat;
      ending = λ r ends. ⊎_elim
          (λ first. inr (sym first))
          (λ later. inl (later, λ m. ends.1 (txn_stays a.txn r.txn s.sessions.active m (λ same. not_resolved (subst (λ t. IsAmong t (resolved_of s.sessions)) same (among_map (λ (q : ResolvedTxn). q.txn) r s.sessions.resolving later))))))
          ends.0;
      on = (_ ∷ [], refl);
    }

    -- its session is in no transaction under way
    module _ (out : (t : ℕ) → 0 < t → s.sessions.seats session ≢ in_txn t) where
      own_wait : IsDecisionWait (length found) gone (decision_waiting session (call.Resolve global outcome.Commit) (next_number s))
      own_wait =
          let longer = length-push s.log commit_record in
          record {
            number = next_number s;
            decision = decision.Commit a.txn;
            is = refl;
            unanswered = inr (its_own, (inl refl, no_more), refl, refl, λ t above is. out t above (was_before a.txn t (s.sessions.seats session) above is));
            some = omega arith;
            there = omega (arith, longer);
            decided =
                let more = decisions_more (length found) s.log commit_record k.sessions.decides.long (decision.Commit a.txn) refl in
                subst (λ l. Contains (decisions_in (length found) l) (decision.Commit a.txn)) (sym (take-beyond (next_number s) s.log commit_record (omega arith)))
                (subst (λ ds. Contains ds (decision.Commit a.txn)) (sym more)
                (among_contained (decision.Commit a.txn) (decisions_in (length found) s.log ++ decision.Commit a.txn ∷ [])
                (among_last (decisions_in (length found) s.log) (decision.Commit a.txn))));
          }

      pub committed_stays : IsStateAfter o found (es ++ Decided (decision.Commit a.txn) ∷ []) gone
      committed_stays = record {
        sessions = state_of o found es s k.sessions (es ++ Decided (decision.Commit a.txn) ∷ []) gone gone_sessions gone_locks;
        waits = carried_own (length found) (λ r. r ≡ its_own) s gone k.waits gone_carries session its_own (next_number s) idle refl
            (λ r was. (inr was.0, λ m. was.1 (txn_without a.txn r.txn s.sessions.active m).0)) (λ r is. is) own_wait free_global;
        forced = forced_grown (length found) es (Decided (decision.Commit a.txn)) s gone refl (_ ∷ [], refl) refl refl k.forced;
        few =
            let few = k.few in
            let shorter = shorter_without a s.sessions.active can.0 in
            let more = ended_more appended.active its_own s.sessions.resolving in
            let same = ap length (ended_without a.txn s.sessions.active s.sessions.resolving not_resolved) in
            omega (arith, few, shorter, more, same);
      }

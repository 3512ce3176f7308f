-- A resolve that has begun leaves a state of a manager, by what its step tells, whatever it comes to.
use Rattle.std.proofs.Common.{◌≡◌, ◌≢◌, inl, inr, ◌++◌, ◌∷◌, ◌<◌, ◌≤◌, ℕ, List, [], true, false, Ok, Err, refl, sym, ap, subst, ◌∙◌, append-nil, arith, length, map, append_assoc}
use Rattle.shore_types.specs.declared.faults.Fault.{Fault}
use Rattle.shore_types.specs.declared.layout.Geometry.{Geometry}
use Rattle.shore_model.specs.declared.calls.Answer.{Answer}
use Rattle.shore_model.specs.declared.calls.Answer.TheVariants.{Resolved}
use Rattle.shore_model.specs.declared.calls.Call.TheVariants as call
use Rattle.shore_model.specs.declared.calls.Outcome.{Outcome}
use Rattle.shore_model.specs.declared.calls.Outcome.TheVariants as outcome
use Rattle.shore_model.specs.declared.histories.Decision.{Decision}
use Rattle.shore_model.specs.declared.histories.Decision.TheVariants as decision
use Rattle.shore_model.specs.declared.histories.Entry.{Entry}
use Rattle.shore_model.specs.declared.histories.Entry.TheVariants.{Decided, Exchanged}
use Rattle.shore_model.specs.declared.histories.Opening.{Opening}
use Rattle.shore_model.specs.declared.log_records.LogRecord.{LogRecord}
use Rattle.shore_model.specs.declared.sessions.SessionState.{SessionState}
use Rattle.shore_model.specs.declared.step.Step.{Step}
use Rattle.shore_model.specs.declared.step.Step.TheVariants.{Done, Nothing, Refused, Waits}
use Rattle.shore_model.specs.declared.step.Wait.{Wait}
use Rattle.laws_lives.specs.SessionSteps.{exchange}
use Rattle.laws_lives.specs.Sessions.{SessionTxn, in_txn}
use Rattle.laws_lives.specs.Views.{IsAmong}
use Rattle.laws_calls.proofs.LongerLogs.{resolve_further}
use Rattle.laws_calls.proofs.ResolveEnds.{answered_stays, awaits_stays, no_seat, rolled_logged}
use Rattle.laws_calls.proofs.ResolveStates.{committed_stays, decided_stays}
use Rattle.laws_calls.proofs.RollbackNumbers.{HasNumber, its_number, fresh_number}
use Rattle.laws_calls.proofs.RolledDecisions.{rolled_decided}
use Rattle.laws_calls.proofs.StoppedRollbacks.{stopped_stays}
use Rattle.laws_calls.proofs.ToldEntries.{decided_made, refusal_seat}
use Rattle.laws_calls.proofs.UnderGlobal.{under_one, used_in_doubt, used_resolved}
use Rattle.laws_calls.proofs.Unwinding.{its_list}
use Rattle.laws_calls.specs.CallHistories.{txn_of, txn_under}
use Rattle.laws_calls.specs.Events.{IsStateAfter}
use Rattle.laws_calls.specs.LockedStates.{entries_of_call, IsSessionsState}
use Rattle.laws_calls.specs.Resolves.{DecidesRollback, IsRollingBack, MayResolve, ResolvesTo, resolve_told, resolved_by_rollback, rollback_decided, rollback_done, rollback_number, CommitsResolve, AbortsResolve}
use Rattle.laws_calls.specs.States.{DoesNotWait, State}
use Rattle.shore_model.specs.Histories.{decisions}
use Rattle.laws_calls.proofs.ResolveLeaves.{was_undecided}
use Rattle.shore_model.specs.declared.calls.Exchange.{Exchange}

decided_back : (ds : List Decision) → decisions (map Decided ds) ≡ ds
decided_back [] = refl
decided_back (d ∷ ds) = ap (λ (xs : List Decision). d ∷ xs) (decided_back ds)

decided_then : (ds : List Decision) (session t : ℕ) (x : Exchange) → decisions (map Decided ds ++ Exchanged session t x ∷ []) ≡ ds
decided_then [] session t x = refl
decided_then (d ∷ ds) session t x = ap (λ (xs : List Decision). d ∷ xs) (decided_then ds session t x)

-- a decision that is durable was made before
pub decided_before : (s : State) (global : List ℕ) (b : SessionTxn) (d : State) → s.durable ≤ length s.log → DecidesRollback s global b d → rollback_number b.txn d.log ≤ d.durable
    → IsRollingBack s b global × (d ≡ s)
decided_before s global b d most (inr h) durable = h
decided_before s global b d most (inl h) durable =
    let number = fresh_number s global b d h in
    let same : d.durable ≡ s.durable = ap (λ (x : State). x.durable) h.3 in
    absurd (omega (arith, number, same, most, durable))

-- what a decision to roll back adds: it may have been made before
abbrev pub made_by : (s : State) (global : List ℕ) (b : SessionTxn) (d : State) → DecidesRollback s global b d → List Decision
made_by s global b d (inl h) = decision.RollBack h.0.txn ∷ []
made_by s global b d (inr h) = []

-- who may resolve is in no transaction under way
pub resolver_out : (s : State) (session : ℕ) (global : List ℕ) → MayResolve s session global → (t : ℕ) → 0 < t → s.sessions.seats session ≢ in_txn t
resolver_out s session global (inl none) t above is = let zero : 0 ≡ t = ap (λ (p : SessionState). p.txn) (sym none ∙ is) in omega arith
resolver_out s session global (inr doubt) t above is = let clash : true ≡ false = ap (λ (p : SessionState). p.prepared) (sym doubt.1 ∙ is) in cc

module _ (g : Geometry) (o : Opening) (found : List LogRecord) (es : List Entry) (s : State) (k : IsStateAfter o found es s) (session : ℕ) (global : List ℕ) where
  -- ---- the decision to roll back

  -- what it leaves
  pub record HasDecided (b : SessionTxn) (d : State) (made : List Decision) : Type 0 where
    pub stays : IsStateAfter o found (es ++ map Decided made) d
    pub rolls : IsRollingBack d b global
    pub seats : (t : ℕ) → 0 < t → s.sessions.seats session ≢ in_txn t → d.sessions.seats session ≢ in_txn t
    pub waiting : d.waiting ≡ s.waiting
    pub under : txn_under s.sessions global ≡ b.txn

  pub has_decided : (b : SessionTxn) (d : State) (by : DecidesRollback s global b d) → HasDecided b d (made_by s global b d by)
  has_decided b d (inl h) =
      subst (λ (x : State). HasDecided b x (decision.RollBack h.0.txn ∷ [])) (sym h.3) (subst (λ (x : SessionTxn). HasDecided x (rollback_decided s h.0 global) (decision.RollBack h.0.txn ∷ [])) (sym h.2) (record {
        stays = decided_stays o found es s k h.0 global h.1;
        rolls = (its_list h.0 _ s.sessions.active h.1.0, inl refl);
        seats = λ t above out is. out (was_undecided h.0.txn t (s.sessions.seats session) above is);
        waiting = refl;
        under = under_one o es s.sessions k.sessions.agree h.0.txn global (used_in_doubt s.sessions _ h.1.1);
      }))
  has_decided b d (inr h) =
      subst (λ (x : State). HasDecided b x []) (sym h.1) (record {
        stays = subst (λ (xs : List Entry). IsStateAfter o found xs s) (sym (append-nil es)) k;
        rolls = h.0;
        seats = λ t above out. out;
        waiting = refl;
        under = under_one o es s.sessions k.sessions.agree b.txn global (used_resolved s.sessions (resolved_by_rollback b global) h.0.1);
      })

  -- its number
  pub its_record : (b : SessionTxn) (d : State) (made : List Decision) → HasDecided b d made → HasNumber b.txn (length found) d.log
  its_record b d made h = its_number b.txn (length found) d.log (rolled_decided o found (es ++ map Decided made) d h.stays.sessions b global h.rolls)

  module _ (may : MayResolve s session global) (idle : DoesNotWait s session) where
    pub still_idle : (b : SessionTxn) (d : State) (made : List Decision) → HasDecided b d made → DoesNotWait d session
    still_idle b d made h w m = idle w (subst (IsAmong w) h.waiting m)

    pub out_of : (b : SessionTxn) (d : State) (made : List Decision) → HasDecided b d made → (t : ℕ) → 0 < t → d.sessions.seats session ≢ in_txn t
    out_of b d made h t above = h.seats t above (resolver_out s session global may t above)

    -- ---- what each adds to the history

    pub commit_stays : (wait : Wait) (new : State) (h : CommitsResolve s session global (Waits wait) new) → IsStateAfter o found (es ++ Decided (decision.Commit h.0.txn) ∷ []) new
    commit_stays wait new h =
        subst (IsStateAfter o found (es ++ Decided (decision.Commit h.0.txn) ∷ [])) (sym h.3) (committed_stays o found es s k h.0 global h.1 session idle (resolver_out s session global may))

    pub commit_made : (wait : Wait) (new : State) (h : CommitsResolve s session global (Waits wait) new)
        → Decided (decision.Commit h.0.txn) ∷ [] ≡ entries_of_call s session (call.Resolve global outcome.Commit) (Waits wait) new
    commit_made wait new h =
        decided_made o found es (Decided (decision.Commit h.0.txn) ∷ []) s new k.sessions (commit_stays wait new h).sessions (resolve_further s session global outcome.Commit (Waits wait) new h).on
        ∙ ap (λ (w : Wait). entries_of_call s session (call.Resolve global outcome.Commit) (Waits w) new) (sym h.2)

    pub waits_stays : (wait : Wait) (new : State) (h : AbortsResolve s session global (Waits wait) new) → IsStateAfter o found (es ++ map Decided (made_by s global h.0 h.1 h.2)) new
    waits_stays wait new h =
        let d = has_decided h.0 h.1 h.2 in
        let n = its_record h.0 h.1 (made_by s global h.0 h.1 h.2) d in
        subst (IsStateAfter o found (es ++ map Decided (made_by s global h.0 h.1 h.2))) (sym h.3.2)
        (awaits_stays o found (es ++ map Decided (made_by s global h.0 h.1 h.2)) h.1 d.stays h.0 global d.rolls session (still_idle h.0 h.1 (made_by s global h.0 h.1 h.2) d) (out_of h.0 h.1 (made_by s global h.0 h.1 h.2) d) (rollback_number h.0.txn h.1.log) n.some n.within n.decided)

    pub waits_made : (wait : Wait) (new : State) (h : AbortsResolve s session global (Waits wait) new)
        → map Decided (made_by s global h.0 h.1 h.2) ≡ entries_of_call s session (call.Resolve global outcome.Abort) (Waits wait) new
    waits_made wait new h =
        let d = has_decided h.0 h.1 h.2 in
        ap (map Decided) (sym (decided_back (made_by s global h.0 h.1 h.2)))
        ∙ decided_made o found es (map Decided (made_by s global h.0 h.1 h.2)) s new k.sessions (waits_stays wait new h).sessions (resolve_further s session global outcome.Abort (Waits wait) new h).on
        ∙ ap (λ (w : Wait). entries_of_call s session (call.Resolve global outcome.Abort) (Waits w) new) (sym h.3.1)

    abbrev pub refusal : State → Fault → Entry
    refusal at f = Exchanged session (txn_of at.sessions session) (exchange (call.Resolve global outcome.Abort) (Err f))

    pub refused_stays : (f : Fault) (new : State) (h : AbortsResolve s session global (Refused f) new) → IsStateAfter o found ((es ++ map Decided (made_by s global h.0 h.1 h.2)) ++ refusal h.1 f ∷ []) new
    refused_stays f new h =
        let d = has_decided h.0 h.1 h.2 in
        stopped_stays g o found (es ++ map Decided (made_by s global h.0 h.1 h.2)) h.1 d.stays h.0 d.rolls.0 (rolled_logged o found (es ++ map Decided (made_by s global h.0 h.1 h.2)) h.1 d.stays h.0 global d.rolls).1
        (no_seat o found (es ++ map Decided (made_by s global h.0 h.1 h.2)) h.1 d.stays h.0 global d.rolls) session (call.Resolve global outcome.Abort) f new h.3

    pub refused_made : (f : Fault) (new : State) (h : AbortsResolve s session global (Refused f) new)
        → map Decided (made_by s global h.0 h.1 h.2) ++ refusal h.1 f ∷ [] ≡ entries_of_call s session (call.Resolve global outcome.Abort) (Refused f) new
    refused_made f new h =
        let d = has_decided h.0 h.1 h.2 in
        let at = refused_stays f new h in
        ap (λ t. map Decided (made_by s global h.0 h.1 h.2) ++ Exchanged session t (exchange (call.Resolve global outcome.Abort) (Err f)) ∷ [])
        (sym (refusal_seat o found (es ++ map Decided (made_by s global h.0 h.1 h.2)) h.1 new session (txn_of h.1.sessions session) (call.Resolve global outcome.Abort) f d.stays.sessions at.sessions))
        ∙ ap (λ ds. map Decided ds ++ refusal new f ∷ []) (sym (decided_then (made_by s global h.0 h.1 h.2) session (txn_of h.1.sessions session) (exchange (call.Resolve global outcome.Abort) (Err f))))
        ∙ ap (λ ds. ds ++ refusal new f ∷ [])
        (decided_made o found es (map Decided (made_by s global h.0 h.1 h.2) ++ refusal h.1 f ∷ []) s new k.sessions
        (subst (λ (xs : List Entry). IsSessionsState o found xs new) (append_assoc es (map Decided (made_by s global h.0 h.1 h.2)) (refusal h.1 f ∷ [])) at.sessions)
        (resolve_further s session global outcome.Abort (Refused f) new h).on)

    -- answered at once, its decision was made before
    abbrev pub told : SessionTxn → Entry
    told b = Exchanged session b.txn (exchange (call.Resolve global outcome.Abort) (Ok Resolved))

    pub made_before : (answer : Answer) (new : State) (h : AbortsResolve s session global (Done answer) new) → IsRollingBack s h.0 global × (h.1 ≡ s)
    made_before answer new h = decided_before s global h.0 h.1 k.forced.most h.2 h.3.0

    pub its_place : (answer : Answer) (new : State) (h : AbortsResolve s session global (Done answer) new) → HasNumber h.0.txn (length found) s.log
    its_place answer new h = its_number h.0.txn (length found) s.log (rolled_decided o found es s k.sessions h.0 global (made_before answer new h).0)

    pub durable_place : (answer : Answer) (new : State) (h : AbortsResolve s session global (Done answer) new) → rollback_number h.0.txn s.log ≤ s.durable
    durable_place answer new h = subst (λ (x : State). rollback_number h.0.txn x.log ≤ x.durable) (made_before answer new h).1 h.3.0

    pub answered_left : (answer : Answer) (new : State) (h : AbortsResolve s session global (Done answer) new) → new ≡ resolve_told (rollback_done s h.0) session (resolved_by_rollback h.0 global)
    answered_left answer new h = h.3.2 ∙ ap (λ (x : State). resolve_told (rollback_done x h.0) session (resolved_by_rollback h.0 global)) (made_before answer new h).1

    pub answer_stays : (answer : Answer) (new : State) (h : AbortsResolve s session global (Done answer) new) → IsStateAfter o found (es ++ told h.0 ∷ []) new
    answer_stays answer new h =
        let n = its_place answer new h in
        subst (IsStateAfter o found (es ++ told h.0 ∷ [])) (sym (answered_left answer new h))
        (answered_stays o found es s k h.0 global (made_before answer new h).0 session idle (resolver_out s session global may) (rollback_number h.0.txn s.log) n.some n.within n.decided (durable_place answer new h))

    pub answer_made : (answer : Answer) (new : State) (h : AbortsResolve s session global (Done answer) new)
        → told h.0 ∷ [] ≡ entries_of_call s session (call.Resolve global outcome.Abort) (Done answer) new
    answer_made answer new h =
        ap (λ t. Exchanged session t (exchange (call.Resolve global outcome.Abort) (Ok Resolved)) ∷ []) (sym (has_decided h.0 h.1 h.2).under)
        ∙ ap (λ (x : Answer). entries_of_call s session (call.Resolve global outcome.Abort) (Done x) new) (sym h.3.1)

    -- ---- all of them

    pub resolve_stays : (asked : Outcome) (step : Step) (new : State) → ResolvesTo s session global asked step new → IsStateAfter o found (es ++ entries_of_call s session (call.Resolve global asked) step new) new
    resolve_stays outcome.Commit (Waits wait) new h = subst (λ (made : List Entry). IsStateAfter o found (es ++ made) new) (commit_made wait new h) (commit_stays wait new h)
    resolve_stays outcome.Commit (Done answer) new h = absurd h
    resolve_stays outcome.Commit (Refused f) new h = absurd h
    resolve_stays outcome.Commit Nothing new h = absurd h
    resolve_stays outcome.Abort Nothing new h = absurd h.3
    resolve_stays outcome.Abort (Waits wait) new h = subst (λ (made : List Entry). IsStateAfter o found (es ++ made) new) (waits_made wait new h) (waits_stays wait new h)
    resolve_stays outcome.Abort (Done answer) new h = subst (λ (made : List Entry). IsStateAfter o found (es ++ made) new) (answer_made answer new h) (answer_stays answer new h)
    resolve_stays outcome.Abort (Refused f) new h =
        subst (λ (made : List Entry). IsStateAfter o found (es ++ made) new) (refused_made f new h)
        (subst (λ (xs : List Entry). IsStateAfter o found xs new) (append_assoc es (map Decided (made_by s global h.0 h.1 h.2)) (refusal h.1 f ∷ [])) (refused_stays f new h))

-- Each step of a session, each force that is told and each failure leaves a state after its entries; so do any events.
use Rattle.std.proofs.Common.{◌≡◌, ◌≢◌, ◌⊎◌, inl, inr, ⊎_elim, ◌++◌, ◌∷◌, ◌≤◌, ℕ, List, [], Bool, true, false, cond, None, Some, refl, sym, ap, subst, ◌∙◌, append-nil, arith, length, take, Ok}
use Rattle.std.specs.Prelude.{◌==◌, Contains, IsTrue, Option, ◌↔◌}
use Rattle.std.proofs.lemmas.Bool.{eqb-false, eqb-true}
use Rattle.std.proofs.lemmas.List.Elements.{All-weaker}
use Rattle.shore_types.specs.declared.layout.Geometry.{Geometry}
use Rattle.shore_types.specs.declared.layout.TheConstants.{MAX_TRANSACTIONS}
use Rattle.shore_model.specs.declared.calls.Call.{Call}
use Rattle.shore_model.specs.declared.calls.Call.TheVariants as call
use Rattle.shore_model.specs.declared.histories.Decision.TheVariants as decision
use Rattle.shore_model.specs.declared.histories.Entry.{Entry}
use Rattle.shore_model.specs.declared.histories.Opening.{Opening}
use Rattle.shore_model.specs.declared.log_records.LogRecord.{LogRecord}
use Rattle.shore_model.specs.Histories.{acknowledged}
use Rattle.laws_lives.specs.LogPrefixes.{decisions_in}
use Rattle.laws_lives.specs.SessionSteps.{exchange, Ask}
use Rattle.laws_lives.specs.Sessions.{SessionTxn}
use Rattle.laws_lives.specs.Views.{IsAmong}
use Rattle.shore_model.specs.declared.step.Step.{Step}
use Rattle.shore_model.specs.declared.step.Wait.{Wait}
use Rattle.shore_model.specs.declared.step.Wait.TheVariants.{Durable, Lock}
use Rattle.laws_calls.proofs.Elements.{in_longer}
use Rattle.laws_calls.proofs.Links.{commit_goes, shorter_without, ended_without}
use Rattle.laws_calls.proofs.SessionCalls.{session_call_kept}
use Rattle.laws_calls.proofs.SessionForces.{abort_forced, commit_forced, quietly_forced, prepare_forced, ask_forced}
use Rattle.laws_calls.proofs.SessionResumes.{WaitsWhole, resumed_call_kept, IsResolveTold}
use Rattle.laws_calls.proofs.Sessions.{one_txn, commit_seats, one_member, own_of, older_resolved, event_keeps}
use Rattle.laws_calls.proofs.Unwinding.{rollback_on}
use Rattle.laws_calls.proofs.SessionsWaiting.{aborted_waits, failed_waits, quietly_waits, woken_waits, prepared_waits, committed_waits}
use Rattle.laws_calls.proofs.StepPassages.{CallPasses, ResumePasses, call_passes, resume_passes}
use Rattle.laws_calls.specs.CallHistories.{IsForced, txn_of}
use Rattle.laws_calls.specs.Events.{IsStateAfter, call_waiting, entries_of_resume, entries_of_waiting}
use Rattle.laws_calls.specs.StateChanges.{wait_refused, with_durable, with_failure}
use Rattle.laws_calls.specs.CallSteps.{ResumesCall, CallStep, ResumeStep, txn_count, IsPreparing}
use Rattle.laws_calls.specs.LockedStates.{IsSessionsState, entries_of_resumed, entries_of_call}
use Rattle.laws_calls.specs.SessionWaits.{IsDecisionWait, IsLockWait, WaitsOfSessions}
use Rattle.laws_calls.specs.States.{IsOfSession, State, Waiting, DoesNotWait, next_number}
use Rattle.shore_model.specs.declared.sessions.SessionState.{SessionState}
use Rattle.laws_calls.proofs.PrepareSteps.{prepare_waits_on}
use Rattle.laws_calls.specs.Prepares.{granules_in_ex, prepared}
use Rattle.laws_calls.proofs.Growing.{forced_grown}
use Rattle.shore_model.specs.declared.histories.Entry.TheVariants.{Decided, Exchanged, Asked}
use Rattle.laws_calls.proofs.Told.{entries_told}
use Rattle.laws_calls.proofs.Outside.{Resolving}
use Rattle.laws_calls.proofs.ToldEntries.{told_of_call}
use Rattle.laws_calls.proofs.LongerLogs.{call_further}
use Rattle.laws_calls.proofs.ResolveStays.{resolve_stays}
use Rattle.laws_calls.proofs.ResolveEnds.{resumed_stays}
use Rattle.laws_calls.proofs.UnderGlobal.{under_one, used_resolved}
use Rattle.laws_calls.specs.Resolves.{resolve_ended}
use Rattle.shore_model.specs.declared.calls.Answer.TheVariants.{Resolved}
use Rattle.laws_calls.proofs.FewTxns.{quietly_few}
use Rattle.laws_calls.proofs.TakenLocks.{state_of, sessions_of}

-- ---- the call that a session waits with

pub its_wait : (session : ℕ) (ws : List Waiting) (w : Waiting) → ((v w : Waiting) → IsAmong v ws → IsAmong w ws → v.session ≡ w.session → v ≡ w) → IsAmong w ws → w.session ≡ session
    → call_waiting session ws ≡ Some w
its_wait session [] w once there of = absurd there
its_wait session (x ∷ ws) w once there of = by (x.session == session) refl there (λ later. its_wait session ws w (λ u v m n same. once u v (inr m) (inr n) same) later of)
  where
    by : (b : Bool) → (x.session == session) ≡ b → IsAmong w (x ∷ ws) → (IsAmong w ws → call_waiting session ws ≡ Some w)
        → cond b (Some x) (call_waiting session ws) ≡ Some w
    by true e there rest = ap (λ (v : Waiting). Some v) (once x w (inl refl) there (eqb-true x.session session e ∙ sym of))
    by false e (inl same) rest = absurd (eqb-false x.session session e (ap (λ (v : Waiting). v.session) same ∙ of))
    by false e (inr later) rest = rest later

pub no_wait : (session : ℕ) (ws : List Waiting) → ((w : Waiting) → IsAmong w ws → w.session ≢ session) → call_waiting session ws ≡ None
no_wait session [] idle = refl
no_wait session (x ∷ ws) idle = by (x.session == session) refl (no_wait session ws (λ w m. idle w (inr m)))
  where
    by : (b : Bool) → (x.session == session) ≡ b → call_waiting session ws ≡ None → cond b (Some x) (call_waiting session ws) ≡ None
    by true e rest = absurd (idle x (inl refl) (eqb-true x.session session e))
    by false e rest = rest

module _ (o : Opening) (found : List LogRecord) (es : List Entry) (s : State) (k : IsStateAfter o found es s) where
  -- ---- calls

  -- a call that is no resolve, or one that is refused before it decides
  passed_stays : (g : Geometry) (session : ℕ) (c : Call) (step : Step) (new : State) → CallPasses g s session new (entries_told s session c step)
      → IsSessionsState o found (es ++ entries_told s session c step) new → IsStateAfter o found (es ++ entries_told s session c step) new
  passed_stays g session c step new passes kept = by passes
    where
      by : CallPasses g s session new (entries_told s session c step) → IsStateAfter o found (es ++ entries_told s session c step) new
      by (inl quiet) = record {
        sessions = kept;
        waits = quietly_waits (length found) g session s new (entries_told s session c step) (older_resolved o found es s k.sessions) k.waits quiet;
        forced = quietly_forced g session (length found) es s new (entries_told s session c step) quiet k.forced;
        few = quietly_few g session s new (entries_told s session c step) quiet k.few;
      }
      by (inr (inl commit)) =
          let a = commit.txn in
          record {
            sessions = kept;
            waits = subst (WaitsOfSessions (length found)) (sym commit.is) (committed_waits o found es s k.sessions k.waits a commit.of.0 (λ w m same. commit.idle w m (same ∙ commit.of.1)));
            forced =
                subst (λ made. IsForced (length found) (es ++ made) new) (sym commit.entries)
                (subst (IsForced (length found) _) (sym commit.is) (commit_forced (length found) es s k.forced a));
            few = subst (λ (x : State). txn_count x ≤ MAX_TRANSACTIONS) (sym commit.is)
                ((commit_goes g s a (own_of k.sessions a commit.of.0) commit.whole (commit_seats k.sessions.agree k.sessions.seats a (next_number s) (own_of k.sessions a commit.of.0).2.0)).few k.few);
          }
      by (inr (inr (inr prep))) =
          let a = prep.txn in
          record {
            sessions = kept;
            waits =
                subst (WaitsOfSessions (length found)) (sym prep.is)
                (prepare_waits_on g o found es s k.sessions a prep.of.0 prep.whole prep.global prep.unused k.waits (λ w m same. prep.idle w m (same ∙ prep.of.1)));
            forced =
                subst (λ made. IsForced (length found) (es ++ made) new) (sym prep.entries)
                (subst (IsForced (length found) _) (sym prep.is)
                (forced_grown (length found) es (Decided (decision.Prepare a.txn prep.global)) s (prepared s a prep.global (granules_in_ex s a)) refl (_ ∷ [], refl) refl refl k.forced));
            few = subst (λ (x : State). txn_count x ≤ MAX_TRANSACTIONS) (sym prep.is) k.few;
          }
      by (inr (inr (inl abort))) =
          let a = abort.txn in
          let on = rollback_on a.txn s.log a.undo.images in
          let fewer = shorter_without a s.sessions.active abort.of.0.0 in
          let ended = ap length (ended_without a.txn s.sessions.active s.sessions.resolving (own_of k.sessions a abort.of.0).2.1) in
          record {
            sessions = kept;
            waits = subst (WaitsOfSessions (length found)) (sym abort.is) (aborted_waits o found es s k.sessions k.waits a abort.of.0 (λ w m same. abort.idle w m (same ∙ abort.of.1)) on);
            forced =
                subst (λ made. IsForced (length found) (es ++ made) new) (sym abort.entries)
                (subst (IsForced (length found) _) (sym abort.is) (abort_forced (length found) es s k.forced a session (txn_of s.sessions session) on));
            few = subst (λ (x : State). txn_count x ≤ MAX_TRANSACTIONS) (sym abort.is) (let few = k.few in omega (arith, few, fewer, ended));
          }

  -- the entries are told by the step, or by the stages of a resolve
  pub session_call_told : (g : Geometry) (session : ℕ) (c : Call) (step : Step) (new : State) → CallStep g s session c step new
      → (CallPasses g s session new (entries_told s session c step) × IsStateAfter o found (es ++ entries_told s session c step) new)
      ⊎ (Resolving s session c step new × DoesNotWait s session)
  session_call_told g session c step new h = ⊎_elim
      (λ passes. ⊎_elim (λ kept. inl (passes, passed_stays g session c step new passes kept)) (λ r. inr r) (session_call_kept g o found es s k.sessions session c step new h))
      (λ r. inr r)
      (call_passes g o found es s k.sessions session c step new h)

  pub session_call_stays : (g : Geometry) (session : ℕ) (c : Call) (step : Step) (new : State) → CallStep g s session c step new
      → IsStateAfter o found (es ++ entries_of_call s session c step new) new
  session_call_stays g session c step new h = ⊎_elim
      (λ told. subst (λ (made : List Entry). IsStateAfter o found (es ++ made) new)
      (told_of_call o found es s new session c step k.sessions told.1.sessions (call_further g s session c step new h).on) told.1)
      (λ r. subst (λ (x : Call). IsStateAfter o found (es ++ entries_of_call s session x step new) new) (sym r.0.is)
      (resolve_stays g o found es s k session r.0.global r.0.may r.1 r.0.asked step new r.0.to))
      (session_call_told g session c step new h)

  -- ---- resumes

  pub as_it_was : IsStateAfter o found (es ++ []) s
  as_it_was = subst (λ (made : List Entry). IsStateAfter o found made s) (sym (append-nil es)) k

  -- the record of a prepare that is answered is durable
  pub prepare_is_durable : (w : Waiting) → IsAmong w s.waiting → (n : ℕ) → w.wait ≡ Durable n → n ≤ s.durable → (t : ℕ) (global : List ℕ) → IsPreparing s.sessions w.session t global → w.call ≡ call.Prepare global
      → Contains (decisions_in (length found) (take s.durable s.log)) (decision.Prepare t global)
  prepare_is_durable w m n waits durable t global mine asks = by (k.waits.each w m)
    where
      number_of : Wait → ℕ
      number_of (Durable n) = n
      number_of (Lock at) = 0

      same_name : (x y : List ℕ) → call.Prepare x ≡ call.Prepare y → x ≡ y
      same_name x y e = cc

      by : IsDecisionWait (length found) s w ⊎ IsLockWait s w → Contains (decisions_in (length found) (take s.durable s.log)) (decision.Prepare t global)
      by (inl c) =
          let same : n ≡ c.number = ap number_of (sym waits) ∙ ap (λ (v : Waiting). number_of v.wait) c.is in
          let there = in_longer (length found) c.number s.durable s.log c.decision (subst (λ x. x ≤ s.durable) same durable) c.decided in
          ⊎_elim
          (λ h.
          let number : h.0 ≡ t = ap (λ (p : SessionState). p.txn) (sym h.2.1 ∙ mine.1) in
          let name : h.1 ≡ global = same_name h.1 global (sym h.3 ∙ asks) in
          subst (λ u. Contains (decisions_in (length found) (take s.durable s.log)) (decision.Prepare u global)) number
          (subst (λ x. Contains (decisions_in (length found) (take s.durable s.log)) (decision.Prepare h.0 x)) name
          (subst (Contains (decisions_in (length found) (take s.durable s.log))) h.4 there)))
          (λ h. let clash : call.Prepare global ≡ call.Resolve h.0.global h.0.outcome = sym asks ∙ h.2 in absurd cc)
          c.unanswered
      by (inr l) = let clash : Durable n ≡ Lock l.at = sym waits ∙ l.is in absurd cc

  -- who waits for a lock, and is no victim, does not roll back
  pub waits_whole : (w : Waiting) → IsAmong w s.waiting → w.cycle ≡ None → WaitsWhole s w.session w.wait
  waits_whole w m spared at a is mem = by (k.waits.each w m)
    where
      by : IsDecisionWait (length found) s w ⊎ IsLockWait s w → a.undo.rolling ≡ None
      by (inl c) = let clash : Durable c.number ≡ Lock at = sym (ap (λ (v : Waiting). v.wait) c.is) ∙ is in absurd cc
      by (inr l) =
          let number = one_txn s.sessions l.txn a l.active.1 mem.0.1 (l.of ∙ sym mem.1) in
          let same : l.txn ≡ a = one_member k.sessions l.txn a l.active.0 mem.0.0 number in
          subst (λ (b : SessionTxn). b.undo.rolling ≡ None) same (l.whole spared)

  pub session_resumed_stays : (g : Geometry) (w : Waiting) → IsAmong w s.waiting → (step : Step) (new : State) → ResumesCall g s w step new
      → IsStateAfter o found (es ++ entries_of_resumed s w step) new
  session_resumed_stays g w m step new h = ⊎_elim
      (λ kept. by kept (resume_passes g o found es s k.sessions w (waits_whole w m) step new h))
      resolved
      (resumed_call_kept g o found es s k.sessions w (waits_whole w m) step new h)
    where
      -- the session waits for no record
      none_decided : (IsTrue s.failed ⊎ ((at : _) × (w.wait ≡ Lock at) × ((a : SessionTxn) × IsOfSession s w.session a)))
          → s.failed ≡ false → (v : Waiting) → IsAmong v s.waiting → v.session ≡ w.session → (n : ℕ) → v.wait ≢ Durable n
      none_decided (inl failed) running v mem of n is = absurd cc
      none_decided (inr lock) running v mem of n is =
          let clash : Durable n ≡ Lock lock.0 = sym is ∙ ap (λ (x : Waiting). x.wait) (k.waits.once v w mem m of) ∙ lock.1 in cc

      resolved : IsResolveTold s w.session w.wait w.call new (entries_of_resumed s w step) → IsStateAfter o found (es ++ entries_of_resumed s w step) new
      resolved told =
          let r = told.resolved in
          subst (λ made. IsStateAfter o found (es ++ made) new) (sym told.entries)
          (subst (IsStateAfter o found _) (sym told.is)
          (subst (λ t. IsStateAfter o found (es ++ Exchanged w.session t (exchange (call.Resolve r.global r.outcome) (Ok Resolved)) ∷ []) (resolve_ended s w.session r))
          (sym (under_one o es s.sessions k.sessions.agree r.txn r.global (used_resolved s.sessions r told.ended.0)))
          (resumed_stays o found es s k w m told.number told.waits told.durable r told.ended told.asks)))

      by : IsSessionsState o found (es ++ entries_of_resumed s w step) new → ResumePasses g s w.session w.wait w.call new (entries_of_resumed s w step) → IsStateAfter o found (es ++ entries_of_resumed s w step) new
      by kept (inl same) = subst (IsStateAfter o found (es ++ entries_of_resumed s w step)) (sym same.0) (subst (λ made. IsStateAfter o found (es ++ made) s) (sym same.1) as_it_was)
      by kept (inr (inl on)) =
          let woken = wait_refused s w.session in
          record {
            sessions = kept;
            waits = quietly_waits (length found) g w.session woken new (entries_of_resumed s w step) (older_resolved o found es s k.sessions) (woken_waits o found es s k.sessions k.waits w.session (none_decided on.why)) on.on;
            forced =
                quietly_forced g w.session (length found) es woken new (entries_of_resumed s w step) on.on
                (record { least = k.forced.least; most = k.forced.most; acknowledged_kept = k.forced.acknowledged_kept; tickets = k.forced.tickets });
            few = quietly_few g w.session woken new (entries_of_resumed s w step) on.on k.few;
          }
      by kept (inr (inr (inr told))) = resolved told
      by kept (inr (inr (inl told))) = record {
        sessions = kept;
        waits = subst (WaitsOfSessions (length found)) (sym told.is) (prepared_waits o found es s k.sessions k.waits w.session told.txn told.global told.preparing);
        forced =
            subst (λ made. IsForced (length found) (es ++ made) new) (sym told.entries)
            (subst (IsForced (length found) _) (sym told.is)
            (prepare_forced (length found) es s k.forced w.session told.txn told.global told.preparing.1 (prepare_is_durable w m told.number told.waits told.durable told.txn told.global told.preparing told.asks)));
        few = subst (λ (x : State). txn_count x ≤ MAX_TRANSACTIONS) (sym told.is) k.few;
      }

  pub session_resume_stays : (g : Geometry) (session : ℕ) (step : Step) (new : State) → ResumeStep g s session step new
      → IsStateAfter o found (es ++ entries_of_resume s session step) new
  session_resume_stays g session step new (inl h) =
      subst (λ (w : Option Waiting). IsStateAfter o found (es ++ entries_of_waiting s w step) new) (sym (no_wait session s.waiting h.0))
      (subst (IsStateAfter o found (es ++ [])) (sym h.2) as_it_was)
  session_resume_stays g session step new (inr h) =
      subst (λ (w : Option Waiting). IsStateAfter o found (es ++ entries_of_waiting s w step) new) (sym (its_wait session s.waiting h.0 k.waits.once h.1 h.2))
      (session_resumed_stays g h.0 h.1 step new h.3)

  -- ---- forces and failures

  pub session_force_stays : (n : ℕ) → s.durable ≤ n → n ≤ length s.log → IsStateAfter o found es (with_durable n s)
  session_force_stays n more within = record {
    sessions = record {
      sound = k.sessions.sound;
      agree = k.sessions.agree;
      seats = k.sessions.seats;
      whole = k.sessions.whole;
      doubts = k.sessions.doubts;
      log = k.sessions.log;
      decides = k.sessions.decides;
      single = k.sessions.single;
      locks = record { held = k.sessions.locks.held; orderly = k.sessions.locks.orderly; rooted = k.sessions.locks.rooted; below = k.sessions.locks.below; waiters = k.sessions.locks.waiters; waits = k.sessions.locks.waits };
    };
    waits = record {
      each = λ w m. ⊎_elim
          (λ c. inl (record { number = c.number; decision = c.decision; is = c.is; unanswered = c.unanswered; some = c.some; there = c.there; decided = c.decided }))
          (λ l. inr (record { txn = l.txn; active = l.active; of = l.of; whole = l.whole; at = l.at; is = l.is; lock = l.lock; asked = l.asked }))
          (k.waits.each w m);
      once = k.waits.once;
      prepares = k.waits.prepares;
      resolves = k.waits.resolves;
      resolve_once = k.waits.resolve_once;
    };
    forced = record {
      least = let least = k.forced.least in omega arith;
      most = within;
      acknowledged_kept =
          All-weaker (Contains (decisions_in (length found) (take s.durable s.log))) (Contains (decisions_in (length found) (take n s.log)))
          (λ d h. in_longer (length found) s.durable n s.log d more h) (acknowledged es) k.forced.acknowledged_kept;
      tickets = k.forced.tickets;
    };
    few = k.few;
  }

  pub session_failure_stays : IsStateAfter o found es (with_failure s)
  session_failure_stays = record {
    sessions = record {
      sound = k.sessions.sound;
      agree = k.sessions.agree;
      seats = k.sessions.seats;
      whole = k.sessions.whole;
      doubts = k.sessions.doubts;
      log = k.sessions.log;
      decides = k.sessions.decides;
      single = k.sessions.single;
      locks = record { held = k.sessions.locks.held; orderly = k.sessions.locks.orderly; rooted = k.sessions.locks.rooted; below = k.sessions.locks.below; waiters = k.sessions.locks.waiters; waits = λ running. absurd cc };
    };
    waits = failed_waits (length found) s k.waits;
    forced = record { least = k.forced.least; most = k.forced.most; acknowledged_kept = k.forced.acknowledged_kept; tickets = k.forced.tickets };
    few = k.few;
  }

  -- a ticket is asked for
  pub session_ask_stays : (ticket : ℕ) (answer : Bool) → ((answer ≡ true) ↔ (ticket ≤ s.durable)) → IsStateAfter o found (es ++ Asked ticket answer ∷ []) s
  session_ask_stays ticket answer truly = record {
    sessions = state_of o found es s k.sessions (es ++ Asked ticket answer ∷ []) s
        (event_keeps (length found) o es s.sessions s.sessions (Ask ticket answer) s.log (sessions_of o found es s k.sessions) refl) k.sessions.locks;
    waits = k.waits;
    forced = ask_forced (length found) es s k.forced ticket answer truly;
    few = k.few;
  }

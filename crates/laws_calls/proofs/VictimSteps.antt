-- Victims of cycles of waits, one after another, and what their sessions are told: each leaves a state after its entries, by events of the sessions.
use Rattle.std.proofs.Common.{◌≡◌, ◌≢◌, ◌⊎◌, inl, inr, ⊎_elim, ◌++◌, ◌∷◌, ◌<◌, ℕ, List, [], None, Some, Err, refl, sym, ap, subst, ◌∙◌, append-nil, arith, length, true}
use Rattle.std.specs.Prelude.{◌==◌, Option}
use Rattle.std.proofs.lemmas.Bool.{cases_Bool, eqb-false, eqb-true}
use Rattle.shore_types.specs.declared.faults.Fault.{Fault}
use Rattle.shore_types.specs.declared.faults.Fault.TheVariants as fault
use Rattle.shore_types.specs.declared.layout.Geometry.{Geometry}
use Rattle.shore_types.specs.declared.locking.Granule.{Granule}
use Rattle.shore_model.specs.declared.histories.Entry.{Entry}
use Rattle.shore_model.specs.declared.histories.Opening.{Opening}
use Rattle.shore_model.specs.declared.histories.Entry.TheVariants.{Exchanged}
use Rattle.shore_model.specs.declared.log_records.LogRecord.{LogRecord}
use Rattle.shore_model.specs.declared.requests.Request.{Request}
use Rattle.shore_model.specs.Requests.{held_by_all}
use Rattle.shore_locks.specs.Grants.{cancelled}
use Rattle.shore_cycles.specs.declared.victims.Victim.{Victim}
use Rattle.laws_lives.proofs.Members.{txn_among}
use Rattle.shore_model.specs.declared.rollbacks.Rollback.TheVariants.{Whole}
use Rattle.laws_lives.specs.SessionSteps.{Doom, MoveLocks, TellsNothing, exchange}
use Rattle.laws_lives.specs.Sessions.{SessionTxn}
use Rattle.laws_lives.specs.UndoLists.{undo_rolled}
use Rattle.laws_lives.specs.Views.{IsAmong}
use Rattle.laws_calls.proofs.Growing.{forced_grown}
use Rattle.laws_calls.proofs.Links.{ComesBy, locks_go, quietly_behind, quietly_comes, ended_with}
use Rattle.laws_calls.proofs.LockedAnswers.{refusal_told}
use Rattle.laws_calls.proofs.Passing.{told_passes}
use Rattle.laws_calls.proofs.Prefixes.{whole_prefix}
use Rattle.laws_calls.proofs.ReplyLinks.{as_many}
use Rattle.laws_calls.proofs.SessionResumes.{waits_stay}
use Rattle.laws_calls.proofs.SessionStates.{its_wait}
use Rattle.laws_calls.proofs.LeftWaits.{waits_left}
use Rattle.laws_calls.proofs.SessionsWaiting.{woken_waits, no_record_awaited}
use Rattle.laws_calls.proofs.Sessions.{one_txn, one_member, own_of, older_resolved}
use Rattle.laws_calls.proofs.TakenLocks.{sessions_of, state_of}
use Rattle.laws_calls.proofs.TakenVictims.{back_moves, doom_goes, taken_back_state, victim_moves, victim_state, victim_waits, with_doom}
use Rattle.shore_model.specs.declared.step.Step.{Step}
use Rattle.shore_model.specs.declared.step.Step.TheVariants.{Nothing, Refused}
use Rattle.shore_model.specs.declared.step.Wait.TheVariants.{Lock, Durable}
use Rattle.laws_calls.specs.CallHistories.{txn_of}
use Rattle.laws_calls.specs.CallSteps.{with_requests, ended_among}
use Rattle.laws_calls.specs.Events.{IsStateAfter, call_waiting, entries_of_resume, entries_of_waiting}
use Rattle.laws_calls.specs.LockedStates.{IsSessionsState, entries_of_resumed}
use Rattle.laws_calls.specs.SessionWaits.{IsDecisionWait, IsLockWait, WaitsOfSessions}
use Rattle.laws_calls.specs.StateChanges.{wait_refused}
use Rattle.laws_calls.specs.States.{AsksForNothing, IsOfSession, State, Waiting, without_waiting, HasSeat}
use Rattle.laws_calls.specs.GivingUp.{GivesUp}
use Rattle.laws_calls.specs.Victims.{TakesVictim, TellsVictim, Withdraws, victim_taken}
use Rattle.shore_locks.specs.Tables.{is_waiting}
use Rattle.shore_cycles.proofs.Walks.{member_waits}
use Rattle.shore_cycles.proofs.VictimLemmas.{first_In}
use Rattle.shore_cycles.proofs.Steps.{quiet_waits_not}

-- a victim waits
pub victim_is_waiting : (s new : State) (t : ℕ) (v : Victim) → TakesVictim s t v new → is_waiting v.txn s.locks.requests ≡ true
victim_is_waiting s new t v h = ⊎_elim
    (λ waits. waits)
    (λ quiet.
    let next = member_waits s.locks.requests v.cycle v.txn h.victim.stands.closed (first_In v.cycle v.txn h.victim.stands.first) in
    absurd (quiet_waits_not v.txn s.locks.requests quiet next.0 next.1))
    (cases_Bool (is_waiting v.txn s.locks.requests))

module _ (o : Opening) (found : List LogRecord) (es : List Entry) (s : State) (k : IsStateAfter o found es s) where
  -- ---- a victim

  module _ (b : SessionTxn) (mem : HasSeat s.sessions b) (cycle : List ℕ) where
    abbrev taken : State
    taken = victim_taken s b cycle

    abbrev left : List Request
    left = cancelled b.txn s.locks.requests

    taken_stays : IsStateAfter o found es taken
    taken_stays = record {
      sessions = victim_state o found es s k.sessions b mem cycle;
      waits = victim_waits o found es s k.sessions b mem cycle k.waits;
      forced = record { least = k.forced.least; most = k.forced.most; acknowledged_kept = k.forced.acknowledged_kept; tickets = k.forced.tickets };
      few =
          let few = k.few in
          let undo = undo_rolled b.undo b.undo.images Whole in
          let same = as_many b.txn undo s.sessions.active in
          let ended = ap length (ended_with b.txn undo s.sessions.active s.sessions.resolving) in
          omega (arith, few, same, ended);
    }

    taken_comes : (g : Geometry) → ComesBy g s taken []
    taken_comes g = record {
      start = s;
      before = record { sessions = refl; log = refl; counts = refl; stream = refl };
      events = Doom b ∷ MoveLocks (held_by_all left) ∷ [];
      durable = (tt, (tt, tt));
      tickets = (tt, (tt, tt));
      mid = with_requests (with_doom s b) left;
      goes = (
        with_doom s b,
        [],
        doom_goes g s b (own_of k.sessions b mem),
        (with_requests (with_doom s b) left, [], locks_go g (with_doom s b) left (victim_moves o found es s k.sessions b mem cycle), (refl, refl), refl),
        refl,
      );
      after = record { sessions = refl; log = refl; counts = refl; stream = refl };
    }

  -- a victim waits, so it is its session's
  pub victim_seat : (t : ℕ) (v : Victim) (new : State) (h : TakesVictim s t v new) → HasSeat s.sessions h.txn
  victim_seat t v new h =
      let was = k.sessions.locks.waiters v.txn (victim_is_waiting s new t v h) in
      subst (HasSeat s.sessions) (one_member k.sessions was.0 h.txn was.1.0 h.active (was.2 ∙ sym h.number)) was.1

  pub victim_stays : (t : ℕ) (v : Victim) (new : State) → TakesVictim s t v new → IsStateAfter o found es new
  victim_stays t v new h = subst (IsStateAfter o found es) (sym h.is) (taken_stays h.txn (victim_seat t v new h) v.cycle)

  pub victim_comes : (g : Geometry) (t : ℕ) (v : Victim) (new : State) → TakesVictim s t v new → ComesBy g s new []
  victim_comes g t v new h = subst (λ (x : State). ComesBy g s x []) (sym h.is) (taken_comes h.txn (victim_seat t v new h) v.cycle g)

  -- ---- a call that waited is refused

  module _ (w : Waiting) (there : IsAmong w s.waiting) (f : Fault) (nothing : TellsNothing f) where
    abbrev refusal : Entry
    refusal = Exchanged w.session (txn_of s.sessions w.session) (exchange w.call (Err f))

    -- it is the only one of its session
    refusal_entry : (session : ℕ) (step : Step) → w.session ≡ session → step ≡ Refused f → refusal ∷ [] ≡ entries_of_resume s session step
    refusal_entry session step of is =
        ap (entries_of_resumed s w) (sym is) ∙ ap (λ (x : Option Waiting). entries_of_waiting s x step) (sym (its_wait session s.waiting w k.waits.once there of))

    refused_stays : (new : State) → IsSessionsState o found (es ++ refusal ∷ []) new → WaitsOfSessions (length found) new → new.sessions.active ≡ s.sessions.active
        → new.sessions.resolving ≡ s.sessions.resolving → new.log ≡ s.log → new.durable ≡ s.durable → IsStateAfter o found (es ++ refusal ∷ []) new
    refused_stays new kept waits active resolving log durable = record {
      sessions = kept;
      waits = waits;
      forced = forced_grown (length found) es refusal s new durable ([], log ∙ sym (append-nil s.log)) refl refl k.forced;
      few =
          let few = k.few in
          let actives : length new.sessions.active ≡ length s.sessions.active = ap length active in
          let ended : length (ended_among new.sessions.active new.sessions.resolving) ≡ length (ended_among s.sessions.active s.sessions.resolving) =
          ap (λ xs. length (ended_among xs new.sessions.resolving)) active ∙ ap (λ rs. length (ended_among s.sessions.active rs)) resolving in
          omega (arith, few, actives, ended);
    }

  -- ---- the session of a victim is told

  module _ (w : Waiting) (there : IsAmong w s.waiting) (cycle : List ℕ) (victim : w.cycle ≡ Some cycle) where
    abbrev deadlock : Fault
    deadlock = fault.Deadlock cycle

    -- its call asked for nothing any more
    asked_nothing : (b : SessionTxn) → AsksForNothing (wait_refused s w.session) b.session → AsksForNothing s b.session
    asked_nothing b idle v m spared same = ⊎_elim
        (λ own. let clash : None ≡ Some cycle = sym spared ∙ ap (λ (x : Waiting). x.cycle) (k.waits.once v w m there (eqb-true v.session w.session own)) ∙ victim in absurd cc)
        (λ other. idle v (waits_stay w.session v s.waiting m (eqb-false v.session w.session other)) spared same)
        (cases_Bool (v.session == w.session))

    let_go : IsSessionsState o found es (wait_refused s w.session)
    let_go = state_of o found es s k.sessions es (wait_refused s w.session) (sessions_of o found es s k.sessions) (record {
      held = k.sessions.locks.held;
      orderly = k.sessions.locks.orderly;
      rooted = k.sessions.locks.rooted;
      below = k.sessions.locks.below;
      waiters = k.sessions.locks.waiters;
      waits = λ running b mem idle. k.sessions.locks.waits running b mem (asked_nothing b idle);
    })

    -- it waits for no record
    none_decided : (v : Waiting) → IsAmong v s.waiting → v.session ≡ w.session → (n : ℕ) → v.wait ≢ Durable n
    none_decided v m of n is = by (k.waits.each w there)
      where
        by : IsDecisionWait (length found) s w ⊎ IsLockWait s w → ⊥
        by (inl c) = let clash : None ≡ Some cycle = sym (ap (λ (x : Waiting). x.cycle) c.is) ∙ victim in cc
        by (inr l) = let clash : Durable n ≡ Lock l.at = sym is ∙ ap (λ (x : Waiting). x.wait) (k.waits.once v w m there of) ∙ l.is in cc

    deadlock_stays : IsStateAfter o found (es ++ refusal w there deadlock tt ∷ []) (wait_refused s w.session)
    deadlock_stays =
        refused_stays w there deadlock tt (wait_refused s w.session) (refusal_told o found es (wait_refused s w.session) let_go w.session w.call deadlock tt)
        (woken_waits o found es s k.sessions k.waits w.session (λ running. none_decided)) refl refl refl refl

    deadlock_comes : (g : Geometry) → ComesBy g s (wait_refused s w.session) (refusal w there deadlock tt ∷ [])
    deadlock_comes g =
        quietly_comes g w.session s (wait_refused s w.session) (wait_refused s w.session) (refusal w there deadlock tt ∷ []) (record { sessions = refl; log = refl; counts = refl; stream = refl })
        (told_passes g o found es w.session (wait_refused s w.session) (wait_refused s w.session) w.call deadlock tt (inl refl))

  pub told_stays : (session : ℕ) (step : Step) (new : State) → TellsVictim s session step new → IsStateAfter o found (es ++ entries_of_resume s session step) new
  told_stays session step new h =
      subst (λ made. IsStateAfter o found (es ++ made) new) (refusal_entry h.waited h.there (fault.Deadlock h.cycle) tt session step h.of h.told)
      (subst (IsStateAfter o found (es ++ refusal h.waited h.there (fault.Deadlock h.cycle) tt ∷ [])) (sym (h.is ∙ ap (wait_refused s) (sym h.of)))
      (deadlock_stays h.waited h.there h.cycle h.victim))

  pub told_comes : (g : Geometry) (session : ℕ) (step : Step) (new : State) → TellsVictim s session step new → ComesBy g s new (entries_of_resume s session step)
  told_comes g session step new h =
      subst (ComesBy g s new) (refusal_entry h.waited h.there (fault.Deadlock h.cycle) tt session step h.of h.told)
      (subst (λ (x : State). ComesBy g s x (refusal h.waited h.there (fault.Deadlock h.cycle) tt ∷ [])) (sym (h.is ∙ ap (wait_refused s) (sym h.of)))
      (deadlock_comes h.waited h.there h.cycle h.victim g))

  -- ---- the call of a transaction that waits for a lock is withdrawn

  module _ (a : SessionTxn) (session : ℕ) (of : IsOfSession s session a) (w : Waiting) (there : IsAmong w s.waiting) (its : w.session ≡ session) (at : Granule) (waits : w.wait ≡ Lock at) where
    abbrev idle : State
    idle = wait_refused s a.session

    abbrev back : List Request
    back = cancelled a.txn s.locks.requests

    abbrev withdrawn : State
    withdrawn = with_requests idle back

    low : a.txn < s.sessions.next_txn
    low = k.sessions.sound.below a.txn (txn_among a s.sessions.active of.0.0)

    withdrawn_state : IsSessionsState o found es withdrawn
    withdrawn_state = taken_back_state o found es s k.sessions a.txn low (without_waiting a.session s.waiting) (λ running b mem other nothing v m spared same.
        let apart : v.session ≢ a.session = λ own. other (one_txn s.sessions b a mem.1 of.0.1 (sym same ∙ own)) in
        nothing v (waits_stay a.session v s.waiting m apart) spared same)

    withdrawn_waits : WaitsOfSessions (length found) withdrawn
    withdrawn_waits =
        waits_left (length found) idle withdrawn (older_resolved o found es s k.sessions)
        (record { waiting = refl; prepared = refl; seats = λ n t is. is; active = λ b mem. (b, mem, refl, refl, λ waits whole. whole); resolving = refl; txns = λ t m. m; older = λ t less m. m; next = omega arith; outside = λ v m t is. is; on = whole_prefix s.log; running = λ running. running })
        (woken_waits o found es s k.sessions k.waits a.session (λ running. no_record_awaited o found es s k.sessions k.waits a of.0))

    -- it is refused by a fault that tells nothing
    module _ (f : Fault) (nothing : TellsNothing f) where
      abbrev told : Entry
      told = refusal w there f nothing

      told_so : IsStateAfter o found (es ++ told ∷ []) withdrawn
      told_so = refused_stays w there f nothing withdrawn (refusal_told o found es withdrawn withdrawn_state w.session w.call f nothing) withdrawn_waits refl refl refl refl

      comes_so : (g : Geometry) → ComesBy g s withdrawn (told ∷ [])
      comes_so g =
          quietly_comes g w.session s idle withdrawn (told ∷ []) (record { sessions = refl; log = refl; counts = refl; stream = refl })
          (quietly_behind g w.session idle back withdrawn (told ∷ []) (locks_go g idle back (back_moves o found es s k.sessions a.txn low))
          (told_passes g o found es w.session withdrawn withdrawn w.call f nothing (inl refl)))

      pub taken_back_stays : (step : Step) (new : State) → step ≡ Refused f → new ≡ withdrawn → IsStateAfter o found (es ++ entries_of_resume s session step) new
      taken_back_stays step new is left =
          subst (λ made. IsStateAfter o found (es ++ made) new) (refusal_entry w there f nothing session step its is) (subst (IsStateAfter o found (es ++ told ∷ [])) (sym left) told_so)

      pub taken_back_comes : (g : Geometry) (step : Step) (new : State) → step ≡ Refused f → new ≡ withdrawn → ComesBy g s new (entries_of_resume s session step)
      taken_back_comes g step new is left =
          subst (ComesBy g s new) (refusal_entry w there f nothing session step its is) (subst (λ (x : State). ComesBy g s x (told ∷ [])) (sym left) (comes_so g))

    pub withdrawn_stays : (step : Step) (new : State) → Withdraws s a step new → IsStateAfter o found (es ++ entries_of_resume s session step) new
    withdrawn_stays step new h = taken_back_stays fault.Memory tt step new h.0 h.1

    pub withdrawn_comes : (g : Geometry) (step : Step) (new : State) → Withdraws s a step new → ComesBy g s new (entries_of_resume s session step)
    withdrawn_comes g step new h = taken_back_comes fault.Memory tt g step new h.0 h.1

  -- ---- a wait that is taken back

  module _ (session : ℕ) (step : Step) (new : State) (h : GivesUp s session step new) where
    pub gives_up_as : new ≡ with_requests (wait_refused s h.txn.session) (cancelled h.txn.txn s.locks.requests)
    gives_up_as = h.is ∙ ap (λ n. with_requests (wait_refused s n) (cancelled h.txn.txn s.locks.requests)) (sym h.its.1)

    pub gives_up_stays : IsStateAfter o found (es ++ entries_of_resume s session step) new
    gives_up_stays = taken_back_stays h.txn session h.its h.waited h.there h.of h.at h.waits (fault.WouldBlock h.holder) tt step new h.told gives_up_as

    pub gives_up_comes : (g : Geometry) → ComesBy g s new (entries_of_resume s session step)
    gives_up_comes g = taken_back_comes h.txn session h.its h.waited h.there h.of h.at h.waits (fault.WouldBlock h.holder) tt g step new h.told gives_up_as

-- nothing is told of what is not given up
pub nothing_told : (s : State) (session : ℕ) → entries_of_resume s session Nothing ≡ []
nothing_told s session = of (call_waiting session s.waiting)
  where
    of : (w : Option Waiting) → entries_of_waiting s w Nothing ≡ []
    of None = refl
    of (Some w) = refl

-- A call of a session, whatever it comes to: what the sessions are after its entry.
use Rattle.std.proofs.Common.{◌≡◌, ◌≢◌, inl, inr, ⊎_elim, ◌+◌, ◌<◌, ◌++◌, ◌∷◌, ℕ, List, [], false, None, Some, Ok, Err, refl, sym, ap, subst, ◌∙◌, length, arith, ◌⊎◌}
use Rattle.std.specs.Prelude.{◌≤◌, IsSomeAnd, Option}
use Rattle.std.proofs.lemmas.List.Elements.{All-weaker}
use Rattle.shore_types.specs.declared.faults.Fault.{Fault}
use Rattle.shore_types.specs.declared.faults.Fault.TheVariants as fault
use Rattle.shore_types.specs.declared.ids.Rid.{Rid}
use Rattle.shore_types.specs.declared.layout.Geometry.{Geometry}
use Rattle.shore_types.specs.declared.locking.Granule.{Granule}
use Rattle.shore_types.specs.declared.locking.Granule.TheVariants as granule
use Rattle.shore_types.specs.Versions.{slot_limit}
use Rattle.shore_model.specs.declared.calls.Answer.{Answer}
use Rattle.shore_model.specs.declared.calls.Answer.TheVariants.{Began, AreInDoubt, Committed}
use Rattle.shore_model.specs.declared.calls.Call.{Call}
use Rattle.shore_model.specs.declared.calls.Call.TheVariants as call
use Rattle.shore_model.specs.declared.histories.Decision.TheVariants as decision
use Rattle.shore_model.specs.declared.histories.Entry.{Entry}
use Rattle.shore_model.specs.declared.histories.Opening.{Opening}
use Rattle.shore_model.specs.declared.histories.Entry.TheVariants.{Decided, Exchanged}
use Rattle.shore_model.specs.declared.log_records.LogRecord.{LogRecord}
use Rattle.shore_model.specs.Alone.{record_named_by}
use Rattle.shore_locks.specs.Tables.{is_waiting}
use Rattle.laws_locks.proofs.Waiting.{newcomer_quiet, released_stay_quiet}
use Rattle.laws_lives.proofs.Members.{among_without, txn_without}
use Rattle.laws_lives.specs.RepliesInPlace.{IsKnownAbsent}
use Rattle.laws_lives.specs.SessionSteps.{AppendCommit, BeginTxn, IsInnerCall, TellsNothing, exchange, AnswerInDoubt, entries_by, MoveLocks}
use Rattle.laws_lives.specs.Sessions.{SessionTxn, in_txn, without_locks}
use Rattle.shore_model.specs.declared.step.Step.{Step}
use Rattle.shore_model.specs.declared.step.Step.TheVariants.{Done, Nothing, Refused, Waits}
use Rattle.laws_calls.proofs.GoingOn.{goes_on_kept}
use Rattle.laws_calls.proofs.LockedAnswers.{absence_told, refusal_told}
use Rattle.laws_calls.proofs.RefusalTells.{tells_or_none, prepare_tells}
use Rattle.laws_calls.proofs.RollingCalls.{abort_kept, back_kept, savepoint_kept}
use Rattle.laws_calls.proofs.Sessions.{event_keeps, its_txn, commit_seats, own_of, then_quiet}
use Rattle.laws_calls.proofs.TakenLocks.{sessions_of, state_of}
use Rattle.laws_calls.specs.CallHistories.{txn_of}
use Rattle.laws_calls.specs.StateChanges.{committed, begun}
use Rattle.laws_calls.specs.CallSteps.{BeginStep, CommitStep, InnerStep, IsTooLong, OpenStep, RefusesEarly, RefusesGranule, CallStep, InDoubtStep, OutsideStep, listed_in_doubt}
use Rattle.laws_calls.specs.Rollbacks.{TakesCall}
use Rattle.laws_calls.proofs.Waiters.{seat_moved, released_under_way, freed_quiet}
use Rattle.laws_calls.specs.LockedStates.{IsSessionsState}
use Rattle.laws_calls.specs.States.{DoesNotWait, HasNoTxn, IsOfSession, State, HasSeat, next_number}
use Rattle.shore_model.specs.declared.sessions.SessionState.{SessionState}
use Rattle.laws_calls.proofs.Listings.{listing_steps}
use Rattle.laws_calls.specs.Prepares.{PrepareStep, granules_in_ex, prepared}
use Rattle.laws_calls.proofs.PrepareSteps.{prepare_state}
use Rattle.laws_calls.proofs.Told.{entries_told}
use Rattle.laws_calls.proofs.Outside.{Resolving, early_tells}
use Rattle.laws_calls.proofs.Links.{with_commit}
use Rattle.shore_model.specs.Requests.{held_by_all}
use Rattle.shore_locks.specs.Grants.{released}
use Rattle.laws_locks.proofs.Held.{released_moves, released_orderly, released_rooted, released_below}

module _ (g : Geometry) (o : Opening) (found : List LogRecord) (es : List Entry) (s : State) (k : IsSessionsState o found es s) (session : ℕ) where
  -- ---- a begin

  begun_state : HasNoTxn s session → IsSessionsState o found (es ++ Exchanged session s.sessions.next_txn (exchange call.Begin (Ok (Began s.sessions.next_txn))) ∷ []) (begun s session)
  begun_state idle =
      state_of o found es s k (es ++ Exchanged session s.sessions.next_txn (exchange call.Begin (Ok (Began s.sessions.next_txn))) ∷ []) (begun s session)
      (event_keeps (length found) o es s.sessions (begun s session).sessions (BeginTxn session) s.log (sessions_of o found es s k) (idle, refl))
      (record {
        held = k.locks.held;
        orderly = k.locks.orderly;
        rooted = k.locks.rooted;
        below = All-weaker (λ r. r.txn < s.sessions.next_txn) (λ r. r.txn < s.sessions.next_txn + 1) (λ r less. omega (arith, less)) s.locks.requests k.locks.below;
        waiters = λ t waits.
            let was = seat_moved s.locks.requests s.sessions session (in_txn s.sessions.next_txn) (λ a mine w same. not_in_one a mine same) k.locks.waiters t waits in
            (was.0, (inr was.1.0, was.1.1, was.1.2), was.2);
        waits = λ running b there quiet. ⊎_elim
            (λ own. subst (λ (t : ℕ). is_waiting t s.locks.requests ≡ false) (ap (λ (x : SessionTxn). x.txn) own) (newcomer_quiet s.locks.requests s.sessions.next_txn k.locks.below))
            (λ older. k.locks.waits running b older quiet)
            there;
      })
    where
      -- nobody under way is of it
      not_in_one : (a : SessionTxn) → HasSeat s.sessions a → a.session ≢ session
      not_in_one a mine same =
          let above = mine.2 in
          let none : a.txn ≡ 0 = ap (λ (p : SessionState). p.txn) (sym mine.1 ∙ ap s.sessions.seats same ∙ idle) in omega arith

  begin_kept : (step : Step) (new : State) → BeginStep s session step new → IsSessionsState o found (es ++ entries_told s session call.Begin step) new
  begin_kept (Done answer) new h =
      subst (IsSessionsState o found (es ++ entries_told s session call.Begin (Done answer))) (sym h.4)
      (subst (λ (x : Answer). IsSessionsState o found (es ++ entries_told s session call.Begin (Done x)) (begun s session)) (sym h.3) (begun_state h.0))
  begin_kept (Waits wait) new h = absurd h
  begin_kept (Refused f) new h =
      subst (IsSessionsState o found (es ++ entries_told s session call.Begin (Refused f))) (sym h.1)
      (refusal_told o found es s k session call.Begin f (⊎_elim (λ one. subst TellsNothing (sym one.0) tt) (λ more. ⊎_elim (λ two. subst TellsNothing (sym two.0) tt) (λ three. subst TellsNothing (sym three.0) tt) more) h.0))
  begin_kept Nothing new h = absurd h

  -- ---- a commit

  committed_kept : (a : SessionTxn) → a.undo.rolling ≡ None → HasSeat s.sessions a → is_waiting a.txn s.locks.requests ≡ false
      → IsSessionsState o found (es ++ entries_by s.sessions (AppendCommit a (next_number s))) (committed s a)
  committed_kept a whole mem quiet =
      let new = committed s a in
      let made = entries_by s.sessions (AppendCommit a (next_number s)) in
      let appended = with_commit g s a in
      let decided = event_keeps (length found) o es s.sessions appended.sessions (AppendCommit a (next_number s)) s.log (sessions_of o found es s k)
      (own_of k a mem, whole, commit_seats k.agree k.seats a (next_number s) (own_of k a mem).2.0) in
      let unlocked = event_keeps (length found) o (es ++ made) appended.sessions new.sessions (MoveLocks (held_by_all (released a.txn s.locks.requests))) new.log decided
      (released_moves appended.sessions s.locks.requests a.txn (ap (without_locks a.txn) k.locks.held) k.locks.orderly k.locks.rooted k.locks.below
      (λ among. (txn_without a.txn a.txn s.sessions.active among).1 refl)) in
      state_of o found es s k (es ++ made) new (then_quiet (length found) o es made new.sessions new.log unlocked) (record {
        held = refl;
        orderly = released_orderly s.locks.requests a.txn k.locks.orderly;
        rooted = released_rooted s.locks.requests a.txn k.locks.orderly k.locks.rooted;
        below = released_below s.locks.requests a.txn s.sessions.next_txn k.locks.orderly k.locks.below;
        waiters =
            freed_quiet (released a.txn s.locks.requests) s.sessions a mem.1 (released_stay_quiet s.locks.requests a.txn a.txn k.locks.orderly quiet)
            (released_under_way s.locks.requests s.sessions a.txn k.locks.orderly k.locks.waiters);
        waits = λ running b there idle.
            released_stay_quiet s.locks.requests a.txn b.txn k.locks.orderly (k.locks.waits running b (among_without a.txn b s.sessions.active there).0 idle);
      })

  commit_kept : (a : SessionTxn) → a.undo.rolling ≡ None → IsOfSession s session a → is_waiting a.txn s.locks.requests ≡ false → (step : Step) (new : State) → CommitStep s a step new → IsSessionsState o found (es ++ entries_told s session call.Commit step) new
  commit_kept a whole mem quiet (Waits wait) new h = absurd h
  commit_kept a whole mem quiet (Refused f) new h = absurd h
  commit_kept a whole mem quiet Nothing new h = absurd h
  commit_kept a whole mem quiet (Done answer) new h =
      let number = its_txn s.sessions a session mem.0.1 mem.1 in
      subst (IsSessionsState o found (es ++ entries_told s session call.Commit (Done answer))) (sym h.1)
      (subst (λ x. IsSessionsState o found (es ++ entries_told s session call.Commit (Done x)) (committed s a)) (sym h.0)
      (subst (λ t. IsSessionsState o found (es ++ Decided (decision.Commit t) ∷ Exchanged session t (exchange call.Commit (Ok (Committed (next_number s)))) ∷ []) (committed s a)) (sym number)
      (subst (λ n. IsSessionsState o found (es ++ Decided (decision.Commit a.txn) ∷ Exchanged n a.txn (exchange call.Commit (Ok (Committed (next_number s)))) ∷ []) (committed s a)) mem.1
      (committed_kept a whole mem.0 quiet))))

  -- ---- a prepare

  prepare_kept : (a : SessionTxn) → a.undo.rolling ≡ None → IsOfSession s session a → is_waiting a.txn s.locks.requests ≡ false → (global : List ℕ) (step : Step) (new : State)
      → PrepareStep g.version s a global step new → IsSessionsState o found (es ++ entries_told s session (call.Prepare global) step) new
  prepare_kept a whole mem quiet global (Waits wait) new h =
      subst (IsSessionsState o found (es ++ entries_told s session (call.Prepare global) (Waits wait))) (sym h.4)
      (subst (λ w. IsSessionsState o found (es ++ entries_told s session (call.Prepare global) (Waits w)) (prepared s a global (granules_in_ex s a))) (sym h.3)
      (subst (λ t. IsSessionsState o found (es ++ Decided (decision.Prepare t global) ∷ []) (prepared s a global (granules_in_ex s a))) (sym (its_txn s.sessions a session mem.0.1 mem.1))
      (prepare_state g o found es s k a mem.0 whole global h.1 quiet)))
  prepare_kept a whole mem quiet global (Refused f) new h =
      subst (IsSessionsState o found (es ++ entries_told s session (call.Prepare global) (Refused f))) (sym h.1)
      (refusal_told o found es s k session (call.Prepare global) f (prepare_tells g.version s a global f h.0))
  prepare_kept a whole mem quiet global (Done answer) new h = absurd h
  prepare_kept a whole mem quiet global Nothing new h = absurd h

  -- ---- before the locks

  -- the record that a call names has no place on its page
  pub record NamesNoSlot (c : Call) : Type 0 where
    pub id : Rid
    pub named : record_named_by c ≡ Some id
    pub inner : IsInnerCall c
    pub beyond : slot_limit g.version ≤ id.slot

  no_slot_of_granule : (at : Granule) → RefusesGranule g at fault.NoRecord → (id : Rid) × (at ≡ granule.Record id) × (slot_limit g.version ≤ id.slot)
  no_slot_of_granule granule.Volume h = absurd h
  no_slot_of_granule (granule.Store store) h = let clash = h.0 in absurd cc
  no_slot_of_granule (granule.Page page) h = absurd (⊎_elim (λ store. let clash = store.0 in cc) (λ in_store. let clash = in_store.0 in cc) h)
  no_slot_of_granule (granule.Record id) h = (id, refl, h.1)

  not_too_long : (bytes : List ℕ) → IsTooLong g.version bytes fault.NoRecord → ⊥
  not_too_long bytes h = let clash = h.0 in cc

  pub names_no_slot : (c : Call) → RefusesEarly g c fault.NoRecord → NamesNoSlot c
  names_no_slot (call.Get id) h = record { id = id; named = refl; inner = tt; beyond = h.1 }
  names_no_slot (call.GetForUpdate id) h = record { id = id; named = refl; inner = tt; beyond = h.1 }
  names_no_slot (call.Insert store bytes) h = absurd (⊎_elim (not_too_long bytes) (λ none. let clash = none.1 in cc) h)
  names_no_slot (call.Update id bytes) (inl h) = absurd (not_too_long bytes h)
  names_no_slot (call.Update id bytes) (inr h) = record { id = id; named = refl; inner = tt; beyond = h.1.1 }
  names_no_slot (call.Delete id) h = record { id = id; named = refl; inner = tt; beyond = h.1 }
  names_no_slot (call.Scan store) h = let clash = h.0 in absurd cc
  names_no_slot (call.Lock at mode) (inl h) = let clash = h.0 in absurd cc
  names_no_slot (call.Lock at mode) (inr h) =
      let is = no_slot_of_granule at h.1 in
      record { id = is.0; named = ap (λ (x : Granule). record_named_by (call.Lock x mode)) is.1; inner = tt; beyond = is.2 }
  names_no_slot (call.TryLock at mode) (inl h) = let clash = h.0 in absurd cc
  names_no_slot (call.TryLock at mode) (inr h) =
      let is = no_slot_of_granule at h.1 in
      record { id = is.0; named = ap (λ (x : Granule). record_named_by (call.TryLock x mode)) is.1; inner = tt; beyond = is.2 }
  names_no_slot _ h = absurd h

  early_kept : s.sessions.slots ≡ slot_limit g.version → (a : SessionTxn) → a.undo.rolling ≡ None → IsOfSession s session a → (c : Call) (f : Fault) → RefusesEarly g c f → IsSessionsState o found (es ++ Exchanged session (txn_of s.sessions session) (exchange c (Err f)) ∷ []) s
  early_kept slots a whole mem c f h = ⊎_elim
      (refusal_told o found es s k session c f)
      (λ none.
      let names = names_no_slot c (subst (RefusesEarly g c) none h) in
      subst (λ (x : Fault). IsSessionsState o found (es ++ Exchanged session (txn_of s.sessions session) (exchange c (Err x)) ∷ []) s) (sym none)
      (absence_told o found es s k session a mem.0 mem.1 c names.inner whole
      (subst (λ (x : Option Rid). IsSomeAnd x (IsKnownAbsent s.sessions.slots s.sessions.held a.txn s.sessions.records)) (sym names.named) (inr (subst (λ n. n ≤ names.id.slot) (sym slots) names.beyond)))))
      (tells_or_none f)

  -- ---- any call

  -- the transaction of a session that does not wait waits for no lock
  quiet_of : s.failed ≡ false → (a : SessionTxn) → IsOfSession s session a → DoesNotWait s session → is_waiting a.txn s.locks.requests ≡ false
  quiet_of running a mem idle = k.locks.waits running a mem.0.0 (λ w m spared same. idle w m (same ∙ mem.1))

  open_kept : s.failed ≡ false → (a : SessionTxn) → a.undo.rolling ≡ None → IsOfSession s session a → DoesNotWait s session → (c : Call) (step : Step) (new : State) → OpenStep g s a c step new
      → IsSessionsState o found (es ++ entries_told s session c step) new
  open_kept running a whole mem idle c step new (inl h) =
      subst (IsSessionsState o found (es ++ entries_told s session c step)) (sym h.3)
      (subst (λ (x : Step). IsSessionsState o found (es ++ entries_told s session c x) s) (sym h.2) (early_kept h.4 a whole mem c h.0 h.1))
  open_kept running a whole mem idle c step new (inr (inl h)) =
      goes_on_kept g o found es session a mem.1 whole s k mem.0 (quiet_of running a mem idle) c step new h.1
  open_kept running a whole mem idle c step new (inr (inr (inl h))) =
      subst (λ (x : Call). IsSessionsState o found (es ++ entries_told s session x step) new) (sym h.0) (commit_kept a whole mem (quiet_of running a mem idle) step new h.1)
  open_kept running a whole mem idle c step new (inr (inr (inr (inr h)))) =
      subst (λ (x : Call). IsSessionsState o found (es ++ entries_told s session x step) new) (sym h.1) (prepare_kept a whole mem (quiet_of running a mem idle) h.0 step new h.2)
  open_kept running a whole mem idle c step new (inr (inr (inr (inl h)))) =
      subst (λ (x : Call). IsSessionsState o found (es ++ entries_told s session x step) new) (sym h.0) (savepoint_kept g o found es session a mem.1 s k mem.0 whole step new h.1)

  refused_call : (c : Call) (step : Step) (new : State) (f : Fault) → TellsNothing f → step ≡ Refused f → new ≡ s → IsSessionsState o found (es ++ entries_told s session c step) new
  refused_call c step new f nothing is same =
      subst (IsSessionsState o found (es ++ entries_told s session c step)) (sym same)
      (subst (λ (x : Step). IsSessionsState o found (es ++ entries_told s session c x) s) (sym is) (refusal_told o found es s k session c f nothing))

  inner_kept : s.failed ≡ false → (a : SessionTxn) → IsOfSession s session a → DoesNotWait s session → (c : Call) (step : Step) (new : State) → InnerStep g s a c step new
      → IsSessionsState o found (es ++ entries_told s session c step) new
  inner_kept running a mem idle c step new (inl h) = refused_call c step new fault.MustAbort tt h.2 h.3
  inner_kept running a mem idle c step new (inr (inl h)) = open_kept running a h.0 mem idle c step new h.1
  inner_kept running a mem idle c step new (inr (inr (inl h))) =
      subst (λ (x : Call). IsSessionsState o found (es ++ entries_told s session x step) new) (sym h.1)
      (back_kept g o found es session a mem.1 s k mem.0 h.0 (subst (TakesCall a.undo) h.1 h.2) step new h.3)
  inner_kept running a mem idle c step new (inr (inr (inr h))) =
      subst (λ (x : Call). IsSessionsState o found (es ++ entries_told s session x step) new) (sym h.0) (abort_kept g o found es session a mem.1 s k mem.0 (quiet_of running a mem idle) step new h.1)

  listing_kept : (step : Step) (new : State) → InDoubtStep s step new → IsSessionsState o found (es ++ entries_told s session call.InDoubt step) new
  listing_kept (Done answer) new h =
      subst (IsSessionsState o found (es ++ entries_told s session call.InDoubt (Done answer))) (sym h.1)
      (subst (λ (x : Answer). IsSessionsState o found (es ++ entries_told s session call.InDoubt (Done x)) s) (sym h.0)
      (state_of o found es s k (es ++ entries_told s session call.InDoubt (Done (AreInDoubt (listed_in_doubt s.sessions)))) s
      (event_keeps (length found) o es s.sessions s.sessions (AnswerInDoubt session (txn_of s.sessions session) (listed_in_doubt s.sessions)) s.log (sessions_of o found es s k)
      (listing_steps k session)) k.locks))
  listing_kept (Waits wait) new h = absurd h
  listing_kept (Refused f) new h = absurd h
  listing_kept Nothing new h = absurd h

  -- a resolve that begins goes on by its own stages
  outside_kept : (c : Call) (step : Step) (new : State) → OutsideStep s session c step new → IsSessionsState o found (es ++ entries_told s session c step) new ⊎ Resolving s session c step new
  outside_kept c step new (inl h) = inl (subst (λ (x : Call). IsSessionsState o found (es ++ entries_told s session x step) new) (sym h.0) (listing_kept step new h.1))
  outside_kept c step new (inr h) = ⊎_elim
      (λ early. inl (refused_call c step new early.0 (early_tells s session h.0 h.1 early.0 early.1) early.2 early.3))
      (λ goes. inr (record { global = h.0; asked = h.1; is = h.2; may = goes.0; to = goes.1 })) h.3

  pub session_call_kept : (c : Call) (step : Step) (new : State) → CallStep g s session c step new
      → IsSessionsState o found (es ++ entries_told s session c step) new ⊎ (Resolving s session c step new × DoesNotWait s session)
  session_call_kept c step new (inl h) = inl (refused_call c step new fault.Memory tt h.0 h.1)
  session_call_kept c step new (inr (inl h)) = inl (refused_call c step new fault.Failed tt h.1 h.2)
  session_call_kept c step new (inr (inr (inl h))) = inl (refused_call c step new fault.Busy tt h.2 h.3)
  session_call_kept c step new (inr (inr (inr (inl h)))) =
      inl (subst (λ (x : Call). IsSessionsState o found (es ++ entries_told s session x step) new) (sym h.2) (begin_kept step new h.3))
  session_call_kept c step new (inr (inr (inr (inr (inl h))))) = inl (refused_call c step new fault.NoTransaction tt h.4 h.5)
  session_call_kept c step new (inr (inr (inr (inr (inr (inr (inl h))))))) = inl (refused_call c step new fault.IsPrepared tt h.4 h.5)
  session_call_kept c step new (inr (inr (inr (inr (inr (inr (inr h))))))) = ⊎_elim inl (λ r. inr (r, h.1)) (outside_kept c step new h.2)
  session_call_kept c step new (inr (inr (inr (inr (inr (inl h)))))) = inl (inner_kept h.0 h.2.0 h.2.1 h.1 c step new h.2.2)

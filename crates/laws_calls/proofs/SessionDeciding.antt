-- Each call and each resume of a session under locks comes to something.
use Rattle.std.proofs.Common.{◌≡◌, ◌≢◌, ◌⊎◌, inl, inr, ⊎_elim, ◌+◌, ◌≤◌, ◌<◌, ℕ, List, ◌∷◌, Bool, true, false, Some, None, Option, refl, sym, ap, subst, ◌∙◌, length, Ok, Err, map, nat_eq, []}
use Rattle.std.specs.Prelude.{Option, IsTrue, Result}
use Rattle.std.proofs.lemmas.Bool.{cases_Bool}
use Rattle.shore_types.specs.Layout.{HasGranule, HasSlot}
use Rattle.shore_types.specs.Locking.{level_of}
use Rattle.shore_types.specs.declared.faults.Fault.{Fault}
use Rattle.shore_types.specs.declared.faults.Fault.TheVariants as fault
use Rattle.shore_types.specs.declared.ids.Rid.{Rid}
use Rattle.shore_types.specs.declared.layout.Geometry.{Geometry}
use Rattle.shore_types.specs.declared.layout.TheConstants.{ENDING_COST, LAST_TXN, MAX_SAVEPOINTS, MAX_TRANSACTIONS}
use Rattle.shore_types.specs.declared.locking.Granule.{Granule}
use Rattle.shore_types.specs.declared.locking.Granule.TheVariants as granule
use Rattle.shore_types.specs.declared.locking.Mode.{Mode}
use Rattle.shore_types.specs.Versions.{record_limit, slot_limit, global_limit}
use Rattle.shore_model.specs.Modes.{is_allowed}
use Rattle.shore_model.specs.declared.calls.Answer.TheVariants.{Aborted, Began, Committed, Saved, WentBack, AreInDoubt, Prepared, Resolved}
use Rattle.shore_model.specs.declared.calls.Call.{Call}
use Rattle.shore_model.specs.declared.calls.Call.TheVariants as call
use Rattle.shore_model.specs.declared.histories.Entry.{Entry}
use Rattle.shore_model.specs.declared.histories.Opening.{Opening}
use Rattle.shore_model.specs.declared.log_records.LogRecord.{LogRecord}
use Rattle.shore_locks.specs.Tables.{is_waiting}
use Rattle.shore_path.specs.declared.answers.Acquired.{Acquired}
use Rattle.shore_path.specs.declared.answers.Acquired.TheVariants as acquire
use Rattle.laws_locks.specs.CallLocks.{Asked, lock_asked_by}
use Rattle.laws_lives.proofs.Lists.{within_or_beyond, mapped_one}
use Rattle.shore_model.specs.declared.rollbacks.Rollback.{Rollback}
use Rattle.shore_model.specs.declared.rollbacks.Rollback.TheVariants.{To, Whole}
use Rattle.laws_lives.specs.Sessions.{SessionTxn, in_doubt_of, resolved_of, in_use}
use Rattle.laws_lives.specs.Views.{IsAmong}
use Rattle.shore_model.specs.declared.step.Step.{Step}
use Rattle.shore_model.specs.declared.step.Step.TheVariants.{Done, Nothing, Refused, Waits}
use Rattle.shore_model.specs.declared.step.Wait.{Wait}
use Rattle.shore_model.specs.declared.step.Wait.TheVariants.{Durable, Lock}
use Rattle.laws_calls.proofs.AcquireAnswers.{acquire_fault, lock_fault_ordinary}
use Rattle.laws_calls.proofs.Decided.{IsOrdinary, OrNot, at_most, both, less_than, ordinary, page_or_not, room_or_not, same_number, store_or_not, waits_or_not}
use Rattle.laws_calls.proofs.SessionInversions.{IsLockless}
use Rattle.laws_calls.proofs.Sessions.{in_one}
use Rattle.laws_calls.specs.CallHistories.{IsRoomyState}
use Rattle.laws_calls.specs.StateChanges.{ComesOfState, answered, committed, wait_refused, begun}
use Rattle.laws_calls.specs.CallSteps.{BeginStep, InnerStep, MayAsk, RefusesEarly, RefusesGranule, RefusesId, RefusesLock, ResumesWait, CallStep, ResumeStep, aborted, behind_lock, lock_outcome, lock_waiting, on_conflict_of, txn_count, NeedsTxn, listed_in_doubt, prepare_ended}
use Rattle.laws_calls.specs.Events.{IsStateAfter}
use Rattle.laws_calls.specs.Rollbacks.{TakesCall}
use Rattle.laws_calls.specs.SessionWaits.{IsDecisionWait, IsLockWait}
use Rattle.laws_calls.specs.Victims.{TellsVictim}
use Rattle.laws_calls.specs.States.{DoesNotWait, HasNoTxn, IsOfSession, State, Waiting, next_number, HasPrepared}
use Rattle.shore_model.specs.declared.sessions.SessionState.{SessionState}
use Rattle.laws_lives.specs.OwnSeats.{IsIn, seat_of}
use Rattle.laws_lives.specs.Sessions
use Rattle.laws_calls.specs.Prepares.{RefusesPrepare, granules_in_ex, prepared}
use Rattle.std.specs.List.{AllByRecursion}
use Rattle.std.specs.Cmp.Lexicographic.{pointwise}
use Rattle.laws_room.specs.LogRooms.{prepare_cost}
use Rattle.laws_calls.proofs.ResolveDeciding.{resolve_decides}
use Rattle.shore_model.specs.declared.calls.Outcome.{Outcome}
use Rattle.laws_calls.specs.Resolves.{resolve_ended}
use Rattle.laws_calls.proofs.DecidingLocked.{GoesSomewhere, behind}

-- ---- a call that asks for a lock

module _ (g : Geometry) (s : State) (roomy : IsRoomyState g.version s) (a : SessionTxn) where
  goes_somewhere : (c : Call) (lock : Asked) → lock_asked_by c ≡ Some lock → GoesSomewhere g s a c
  goes_somewhere c lock asks = by (lock_outcome s a c lock).answer refl
    where
      by : (r : Result Acquired Fault) → (lock_outcome s a c lock).answer ≡ r → GoesSomewhere g s a c
      by (Ok acquire.Done) is =
          behind g s a (behind_lock s a c lock) (record { slots = roomy.slots; pages = roomy.pages; log = roomy.log }) c lock asks (lock, asks, is, refl)
      by (Ok (acquire.Waiting at)) is =
          (Waits (Lock at), record (behind_lock s a c lock) { waiting = lock_waiting a c at ∷ s.waiting }, (lock, at, asks, is, refl, refl), tt)
      by (Err f) is = (
        Refused f,
        behind_lock s a c lock,
        inr (inl (lock, asks, is, refl)),
        lock_fault_ordinary f (acquire_fault s.locks a.txn lock.granule lock.mode (on_conflict_of c) f is),
      )

-- ---- calls

-- the call is no resolve
abbrev pub IsNoResolve : Call → Type 0
IsNoResolve (call.Resolve global outcome) = ⊥
IsNoResolve _ = Unit {0}

-- a global id is in use, or not
unused_or_not : (global : List ℕ) (ps : List (ℕ × List ℕ)) → OrNot (AllByRecursion (λ p. pointwise nat_eq global p.1 ≡ false) ps)
unused_or_not global [] = inl tt
unused_or_not global (p ∷ ps) = by (pointwise nat_eq global p.1) refl (unused_or_not global ps)
  where
    by : (b : Bool) → pointwise nat_eq global p.1 ≡ b → OrNot (AllByRecursion (λ p. pointwise nat_eq global p.1 ≡ false) ps) → OrNot (AllByRecursion (λ p. pointwise nat_eq global p.1 ≡ false) (p ∷ ps))
    by true same others = inr (λ h. let clash : true ≡ false = sym same ∙ h.0 in cc)
    by false other others = ⊎_elim (λ rest. inl (other, rest)) (λ used. inr (λ h. used h.1)) others

abbrev pub SessionComesTo : Geometry → State → ℕ → Call → Type 0
SessionComesTo g s session c = (step : Step) × (new : State) × CallStep g s session c step new × ComesOfState step

module _ (g : Geometry) where
  -- the call may ask for its locks, or is refused before
  abbrev AsksOrNot : Call → Type 0
  AsksOrNot c = (MayAsk g c × ((lock : Asked) × (lock_asked_by c ≡ Some lock))) ⊎ ((f : Fault) × RefusesEarly g c f × IsOrdinary f)

  -- an id has its place in the volume, or it is refused
  id_or_not : (id : Rid) → HasSlot g id ⊎ ((f : Fault) × RefusesId g id f × IsOrdinary f)
  id_or_not id =
      ⊎_elim
      (λ store. ⊎_elim
      (λ page. ⊎_elim
      (λ beyond. inr (fault.NoRecord, (page, beyond), tt))
      (λ within. inl (page, within))
      (within_or_beyond (slot_limit g.version) id.slot))
      (λ none. inr (fault.NoPage, (store, none), tt))
      (page_or_not g id.page))
      (λ none. inr (fault.NoStore, none, tt))
      (store_or_not g id.page.store)

  granule_or_not : (at : Granule) → HasGranule g at ⊎ ((f : Fault) × RefusesGranule g at f × IsOrdinary f)
  granule_or_not granule.Volume = inl tt
  granule_or_not (granule.Store store) = ⊎_elim (λ has. inl has) (λ none. inr (fault.NoStore, (refl, none), tt)) (store_or_not g store)
  granule_or_not (granule.Page page) =
      ⊎_elim
      (λ store. ⊎_elim (λ has. inl has) (λ none. inr (fault.NoPage, inr (refl, store, none), tt)) (page_or_not g page))
      (λ none. inr (fault.NoStore, inl (refl, none), tt))
      (store_or_not g page.store)
  granule_or_not (granule.Record id) = id_or_not id

  lock_or_not : (at : Granule) (mode : Mode) → (IsTrue (is_allowed (level_of at) mode) × HasGranule g at) ⊎ ((f : Fault) × RefusesLock g at mode f × IsOrdinary f)
  lock_or_not at mode =
      ⊎_elim
      (λ allowed. ⊎_elim (λ has. inl (allowed, has)) (λ h. inr (h.0, inr (allowed, h.1), h.2)) (granule_or_not at))
      (λ not. inr (fault.BadMode, inl (refl, not), tt))
      (cases_Bool (is_allowed (level_of at) mode))

  asks_or_not : (c : Call) → NeedsTxn c → c ≢ call.Begin → c ≢ call.Commit → (IsLockless c → ⊥) → AsksOrNot c
  asks_or_not call.Begin served other last locks = absurd (other refl)
  asks_or_not call.Commit served other last locks = absurd (last refl)
  asks_or_not (call.Get id) served other last locks = ⊎_elim (λ has. inl (has, (_, refl))) (λ h. inr h) (id_or_not id)
  asks_or_not (call.GetForUpdate id) served other last locks = ⊎_elim (λ has. inl (has, (_, refl))) (λ h. inr h) (id_or_not id)
  asks_or_not (call.Insert store bytes) served other last locks =
      ⊎_elim
      (λ short. ⊎_elim
      (λ has. inl ((short, has), (_, refl)))
      (λ none. inr (fault.NoStore, inr (short, refl, none), tt))
      (store_or_not g store))
      (λ long. inr (fault.TooLong, inl (refl, long), tt))
      (within_or_beyond (length bytes) (record_limit g.version))
  asks_or_not (call.Update id bytes) served other last locks =
      ⊎_elim
      (λ short. ⊎_elim
      (λ has. inl ((short, has), (_, refl)))
      (λ h. inr (h.0, inr (short, h.1), h.2))
      (id_or_not id))
      (λ long. inr (fault.TooLong, inl (refl, long), tt))
      (within_or_beyond (length bytes) (record_limit g.version))
  asks_or_not (call.Delete id) served other last locks = ⊎_elim (λ has. inl (has, (_, refl))) (λ h. inr h) (id_or_not id)
  asks_or_not (call.Scan store) served other last locks = ⊎_elim (λ has. inl (has, (_, refl))) (λ none. inr (fault.NoStore, (refl, none), tt)) (store_or_not g store)
  asks_or_not (call.Lock at mode) served other last locks = ⊎_elim (λ has. inl (has, (_, refl))) (λ h. inr h) (lock_or_not at mode)
  asks_or_not (call.TryLock at mode) served other last locks = ⊎_elim (λ has. inl (has, (_, refl))) (λ h. inr h) (lock_or_not at mode)
  asks_or_not call.Savepoint served other last locks = absurd (locks tt)
  asks_or_not (call.BackTo n) served other last locks = absurd (locks tt)
  asks_or_not call.Abort served other last locks = absurd (locks tt)
  asks_or_not (call.Prepare global) served other last locks = absurd (locks tt)
  asks_or_not _ served other last locks = absurd served

module _ (g : Geometry) (s : State) (session : ℕ) where
  comes_refused : (c : Call) (f : Fault) → CallStep g s session c (Refused f) s → IsOrdinary f → SessionComesTo g s session c
  comes_refused c f h is = (Refused f, s, h, ordinary f is)

  module _ (running : s.failed ≡ false) (idle : DoesNotWait s session) where
    begins : (step : Step) (new : State) → BeginStep s session step new → ComesOfState step → SessionComesTo g s session call.Begin
    begins step new h of = (step, new, inr (inr (inr (inl (running, idle, refl, h)))), of)

    begin_comes : HasNoTxn s session → SessionComesTo g s session call.Begin
    begin_comes none =
        ⊎_elim
        (λ room. ⊎_elim
        (λ may. begins (Done (Began s.sessions.next_txn)) (begun s session) (none, room, may, refl, refl) tt)
        (λ not. begins (Refused fault.LogFull) s (inr (inr (refl, none, room, not)), refl) (ordinary fault.LogFull tt))
        (both (room_or_not s ENDING_COST) (less_than s.sessions.next_txn LAST_TXN)))
        (λ full. begins (Refused fault.TooManyTransactions) s (inr (inl (refl, none, full)), refl) (ordinary fault.TooManyTransactions tt))
        (room_or_full (txn_count s))
      where
        room_or_full : (n : ℕ) → (n < MAX_TRANSACTIONS) ⊎ (MAX_TRANSACTIONS ≤ n)
        room_or_full n = ⊎_elim (λ full. inr full) (λ room. inl room) (within_or_beyond MAX_TRANSACTIONS n)

    lists : SessionComesTo g s session call.InDoubt
    lists = (Done (AreInDoubt (listed_in_doubt s.sessions)), s, inr (inr (inr (inr (inr (inr (inr (running, idle, inl (refl, (refl, refl))))))))), tt)

    out_of_txn : (c : Call) → IsNoResolve c → HasNoTxn s session → SessionComesTo g s session c
    out_of_txn call.Begin served none = begin_comes none
    out_of_txn (call.Resolve global outcome) served none = absurd served
    out_of_txn call.InDoubt served none = lists
    out_of_txn c served none = comes_refused c fault.NoTransaction (inr (inr (inr (inr (inl (running, idle, tt, none, refl, refl)))))) tt

    -- its transaction is prepared
    prepared_comes : HasPrepared s session → (c : Call) → IsNoResolve c → SessionComesTo g s session c
    prepared_comes prepared call.Begin served = begins (Refused fault.AlreadyActive) s (inl (refl, not_none), refl) (ordinary fault.AlreadyActive tt)
      where
        not_none : HasNoTxn s session → ⊥
        not_none none = let clash : false ≡ true = sym (ap (λ (p : SessionState). p.prepared) none) ∙ prepared in cc
    prepared_comes prepared (call.Resolve global outcome) served = absurd served
    prepared_comes prepared call.InDoubt served = lists
    prepared_comes prepared c served = comes_refused c fault.IsPrepared (inr (inr (inr (inr (inr (inr (inl (running, idle, tt, prepared, refl, refl)))))))) tt

    module _ (roomy : IsRoomyState g.version s) (a : SessionTxn) (mine : IsOfSession s session a) where
      inner : (c : Call) (step : Step) (new : State) → InnerStep g s a c step new → ComesOfState step → SessionComesTo g s session c
      inner c step new h of = (step, new, inr (inr (inr (inr (inr (inl (running, idle, (a, mine, h))))))), of)

      -- no rollback is under way
      module _ (whole : a.undo.rolling ≡ None) where
        asks : (c : Call) → NeedsTxn c → c ≢ call.Begin → c ≢ call.Commit → (IsLockless c → ⊥) → SessionComesTo g s session c
        asks c served other last locks =
            ⊎_elim
            (λ h. let goes = goes_somewhere g s roomy a c h.1.0 h.1.1 in inner c goes.0 goes.1 (inr (inl (whole, inr (inl (h.0, goes.2))))) goes.3)
            (λ h. inner c (Refused h.0) s (inr (inl (whole, inl (h.0, h.1, refl, refl, roomy.slots)))) (ordinary h.0 h.2))
            (asks_or_not g c served other last locks)

        saves : SessionComesTo g s session call.Savepoint
        saves =
            ⊎_elim
            (λ full. inner call.Savepoint (Refused fault.TooManySavepoints) s (inr (inl (whole, inr (inr (inr (inl (refl, (refl, full, refl)))))))) (ordinary fault.TooManySavepoints tt))
            (λ less. inner call.Savepoint (Done (Saved (length a.undo.marks))) (answered s a call.Savepoint (Saved (length a.undo.marks)) s.counts)
            (inr (inl (whole, inr (inr (inr (inl (refl, (less, refl, refl)))))))) tt)
            (within_or_beyond MAX_SAVEPOINTS (length a.undo.marks))

        prepares : (global : List ℕ) → SessionComesTo g s session (call.Prepare global)
        prepares global =
            ⊎_elim
            (λ good. ⊎_elim
            (λ unused. ⊎_elim
            (λ may. inner (call.Prepare global) (Waits (Durable (next_number s))) (prepared s a global (granules_in_ex s a))
            (inr (inl (whole, inr (inr (inr (inr (global, refl, (good, unused, may, refl, refl)))))))) tt)
            (λ full. refuses fault.LogFull (inr (inr (refl, good, unused, full))) tt)
            (room_or_not s (prepare_cost global (granules_in_ex s a) + ENDING_COST)))
            (λ used. refuses fault.GlobalIdInUse (inr (inl (refl, good, used))) tt)
            (unused_or_not global (in_use s.sessions)))
            (λ bad. refuses fault.BadGlobalId (inl (refl, bad)) tt)
            (both (less_than 0 (length global)) (at_most (length global) (global_limit g.version)))
          where
            refuses : (f : Fault) → RefusesPrepare g.version s a global f → IsOrdinary f → SessionComesTo g s session (call.Prepare global)
            refuses f h is = inner (call.Prepare global) (Refused f) s (inr (inl (whole, inr (inr (inr (inr (global, refl, (h, refl)))))))) (ordinary f is)

      -- a way back that is taken
      goes_back : (n : ℕ) → TakesCall a.undo (call.BackTo n) → SessionComesTo g s session (call.BackTo n)
      goes_back n takes =
          ⊎_elim
          (λ late. inner (call.BackTo n) (Refused fault.NoSavepoint) s (inr (inr (inl (n, refl, takes, inl (refl, late, refl))))) (ordinary fault.NoSavepoint tt))
          (λ less. inner (call.BackTo n) (Done WentBack) (answered s a (call.BackTo n) WentBack s.counts) (inr (inr (inl (n, refl, takes, (less, refl, refl))))) tt)
          (within_or_beyond (length a.undo.marks) n)

      must_abort : (c : Call) → NeedsTxn c → (TakesCall a.undo c → ⊥) → SessionComesTo g s session c
      must_abort c needs takes = inner c (Refused fault.MustAbort) s (inl (needs, takes, refl, refl)) (ordinary fault.MustAbort tt)

      -- once a rollback is under way, nothing else is taken than an abort, and the same way back
      taken_back : (n : ℕ) → OrNot (TakesCall a.undo (call.BackTo n))
      taken_back n = by a.undo.rolling refl
        where
          same_way : (m : ℕ) → Some (To m) ≡ Some (To n) → m ≡ n
          same_way m e = cc

          its_way : (m : ℕ) → call.BackTo n ≡ call.BackTo m → n ≡ m
          its_way m e = cc

          by : (o : Option Rollback) → a.undo.rolling ≡ o → OrNot (TakesCall a.undo (call.BackTo n))
          by None whole = inl (inl whole)
          by (Some Whole) rolls = inr (λ takes. ⊎_elim
              (λ none. let clash : Some Whole ≡ None = sym rolls ∙ none in cc)
              (⊎_elim (λ abort. let clash = abort in cc) (λ on. let clash : Some Whole ≡ Some (To on.0) = sym rolls ∙ on.1 in cc)) takes)
          by (Some (To m)) rolls =
              ⊎_elim
              (λ same. inl (inr (inr (n, rolls ∙ ap (λ x. Some (To x)) same, refl))))
              (λ other. inr (λ takes. ⊎_elim
              (λ none. let clash : Some (To m) ≡ None = sym rolls ∙ none in cc)
              (⊎_elim (λ abort. let clash = abort in cc)
              (λ on. other (same_way m (sym rolls ∙ on.1 ∙ ap (λ x. Some (To x)) (sym (its_way on.0 on.2)))))) takes))
              (same_number m n)

      not_taken : (c : Call) (r : Rollback) → a.undo.rolling ≡ Some r → c ≢ call.Abort → ((n : ℕ) → c ≢ call.BackTo n) → TakesCall a.undo c → ⊥
      not_taken c r rolls abort back takes =
          ⊎_elim (λ none. let clash : Some r ≡ None = sym rolls ∙ none in cc) (⊎_elim abort (λ on. back on.0 on.2)) takes

      in_txn : (c : Call) → IsNoResolve c → SessionComesTo g s session c
      in_txn call.Begin served = begins (Refused fault.AlreadyActive) s (inl (refl, in_one s session a mine), refl) (ordinary fault.AlreadyActive tt)
      in_txn call.Abort served = inner call.Abort (Done Aborted) (aborted s a) (inr (inr (inr (refl, (refl, refl))))) tt
      in_txn (call.BackTo n) served = ⊎_elim (goes_back n) (must_abort (call.BackTo n) tt) (taken_back n)
      in_txn call.Commit served = by a.undo.rolling refl
        where
          by : (o : Option Rollback) → a.undo.rolling ≡ o → SessionComesTo g s session call.Commit
          by None whole = inner call.Commit (Done (Committed (next_number s))) (committed s a) (inr (inl (whole, inr (inr (inl (refl, (refl, refl))))))) tt
          by (Some r) rolls = must_abort call.Commit tt (not_taken call.Commit r rolls (λ e. cc) (λ n e. cc))
      in_txn call.Savepoint served = by a.undo.rolling refl
        where
          by : (o : Option Rollback) → a.undo.rolling ≡ o → SessionComesTo g s session call.Savepoint
          by None whole = saves whole
          by (Some r) rolls = must_abort call.Savepoint tt (not_taken call.Savepoint r rolls (λ e. cc) (λ n e. cc))
      in_txn (call.Prepare global) served = by a.undo.rolling refl
        where
          by : (o : Option Rollback) → a.undo.rolling ≡ o → SessionComesTo g s session (call.Prepare global)
          by None whole = prepares whole global
          by (Some r) rolls = must_abort (call.Prepare global) tt (not_taken (call.Prepare global) r rolls (λ e. cc) (λ n e. cc))
      in_txn (call.Resolve global outcome) served = absurd served
      in_txn call.InDoubt served = lists
      in_txn c served = by a.undo.rolling refl
        where
          by : (o : Option Rollback) → a.undo.rolling ≡ o → SessionComesTo g s session c
          by None whole = asks whole c tt (λ e. cc) (λ e. cc) (λ none. none)
          by (Some r) rolls = must_abort c tt (not_taken c r rolls (λ e. cc) (λ n e. cc))

  module _ (o : Opening) (found : List LogRecord) (es : List Entry) (k : IsStateAfter o found es s) (roomy : IsRoomyState g.version s) where
    resolve_comes_to : (global : List ℕ) (asked : Outcome) → SessionComesTo g s session (call.Resolve global asked)
    resolve_comes_to global asked = by s.failed refl
      where
        by : (b : Bool) → s.failed ≡ b → SessionComesTo g s session (call.Resolve global asked)
        by true failed = comes_refused (call.Resolve global asked) fault.Failed (inr (inl (failed, refl, refl))) tt
        by false running = ⊎_elim
            (λ w. comes_refused (call.Resolve global asked) fault.Busy (inr (inr (inl (running, λ idle. idle w.0 w.1 w.2, refl, refl)))) tt)
            (λ idle.
            let to = resolve_decides o found es s k session global asked in
            (to.0, to.1, inr (inr (inr (inr (inr (inr (inr (running, idle, inr (global, asked, refl, to.2)))))))), to.3))
            (waits_or_not session s.waiting)

    other_comes : (c : Call) → IsNoResolve c → SessionComesTo g s session c
    other_comes c served = by s.failed refl
      where
        in_its : s.failed ≡ false → DoesNotWait s session → (t : ℕ)
            → IsIn (map seat_of s.sessions.active) (in_doubt_of s.sessions) (resolved_of s.sessions) session t → SessionComesTo g s session c
        in_its running idle t active =
            let a = mapped_one seat_of (session, t) s.sessions.active active.0 in
            let of : a.0.session ≡ session = ap (λ (x : ℕ × ℕ). x.0) a.2 in
            let number : a.0.txn ≡ t = ap (λ (x : ℕ × ℕ). x.1) a.2 in
            let seat = k.sessions.seats.own session t active in
            let above = k.sessions.seats.above session t active in
            in_txn running idle roomy a.0 ((a.1, ap s.sessions.seats of ∙ seat ∙ ap Sessions.in_txn (sym number), subst (λ n. 0 < n) (sym number) above), of) c served

        by : (b : Bool) → s.failed ≡ b → SessionComesTo g s session c
        by true failed = comes_refused c fault.Failed (inr (inl (failed, refl, refl))) tt
        by false running =
            ⊎_elim
            (λ w. comes_refused c fault.Busy (inr (inr (inl (running, λ idle. idle w.0 w.1 w.2, refl, refl)))) tt)
            (λ idle. ⊎_elim
            (λ none. out_of_txn running idle c served none)
            (⊎_elim (λ its. in_its running idle its.0 its.1) (λ doubt. prepared_comes running idle (ap (λ (p : SessionState). p.prepared) doubt.2) c served))
            (k.sessions.seats.there session))
            (waits_or_not session s.waiting)

    pub call_comes_to_something : (c : Call) → SessionComesTo g s session c
    call_comes_to_something (call.Resolve global asked) = resolve_comes_to global asked
    call_comes_to_something c = other_comes c tt

    -- ---- resumes

    abbrev pub ResumeComes : Type 0
    ResumeComes = (step : Step) × (new : State) × (ResumeStep g s session step new ⊎ TellsVictim s session step new) × ComesOfState step

    module _ (w : Waiting) (there : IsAmong w s.waiting) (of : w.session ≡ session) (running : s.failed ≡ false) where
      resumes : w.cycle ≡ None → (wait : Wait) → w.wait ≡ wait → (step : Step) (new : State) → ResumesWait g s w wait step new → ComesOfState step → ResumeComes
      resumes spared wait is step new h from =
          (step, new, inl (inr (w, there, of, inr (running, subst (λ (x : Wait). ResumesWait g s w x step new) (sym is) h, spared))), from)

      decision_resumes : IsDecisionWait (length found) s w → ResumeComes
      decision_resumes h =
          ⊎_elim
          (λ durable. ⊎_elim
          (λ p. resumes spared (Durable h.number) wait_is (Done Prepared) (prepare_ended s w.session p.0 p.1) (inr (inl (durable, refl, (p.0, p.1, p.2, p.3, refl)))) tt)
          (λ r. resumes spared (Durable h.number) wait_is (Done Resolved) (resolve_ended s w.session r.0) (inr (inr (durable, refl, (r.0, r.1, r.2, refl)))) tt)
          h.unanswered)
          (λ not_yet. resumes spared (Durable h.number) wait_is (Waits (Durable h.number)) s (inl (not_yet, refl, refl)) tt)
          (within_or_beyond h.number s.durable)
        where
          spared : w.cycle ≡ None
          spared = ap (λ (x : Waiting). x.cycle) h.is

          wait_is : w.wait ≡ Durable h.number
          wait_is = ap (λ (x : Waiting). x.wait) h.is

      lock_resumes : w.cycle ≡ None → IsLockWait s w → ResumeComes
      lock_resumes spared h = by (is_waiting h.txn.txn s.locks.requests) refl
        where
          by : (b : Bool) → is_waiting h.txn.txn s.locks.requests ≡ b → ResumeComes
          by true still = resumes spared (Lock h.at) h.is (Waits (Lock h.at)) s (h.txn, (h.active, h.of), inl (still, refl, refl)) tt
          by false done =
              let goes = goes_somewhere g (wait_refused s w.session) (record { slots = roomy.slots; pages = roomy.pages; log = roomy.log }) h.txn w.call h.lock h.asked in
              resumes spared (Lock h.at) h.is goes.0 goes.1 (h.txn, (h.active, h.of), inr (done, goes.2)) goes.3

    pub resume_comes_to_something : ResumeComes
    resume_comes_to_something =
        ⊎_elim
        (λ w. by w.0 w.1 w.2 s.failed refl)
        (λ idle. (Nothing, s, inl (inl (idle, refl, refl)), tt))
        (waits_or_not session s.waiting)
      where
        victim_or_not : (w : Waiting) → IsAmong w s.waiting → w.session ≡ session → s.failed ≡ false → IsLockWait s w → (o : Option (List ℕ)) → w.cycle ≡ o → ResumeComes
        victim_or_not w there of running asks None spared = lock_resumes w there of running spared asks
        victim_or_not w there of running asks (Some cycle) is = (
          Refused (fault.Deadlock cycle),
          wait_refused s session,
          inr (record { running = running; waited = w; there = there; of = of; cycle = cycle; victim = is; told = refl; is = refl }),
          ordinary (fault.Deadlock cycle) tt,
        )

        by : (w : Waiting) → IsAmong w s.waiting → w.session ≡ session → (b : Bool) → s.failed ≡ b → ResumeComes
        by w there of true failed = (Refused fault.Failed, wait_refused s w.session, inl (inr (w, there, of, inl (failed, refl, refl))), ordinary fault.Failed tt)
        by w there of false running = ⊎_elim (decision_resumes w there of running) (λ asks. victim_or_not w there of running asks w.cycle refl) (k.waits.each w there)

-- A call of a transaction from its locks on: which events of the sessions it is.
use Rattle.std.proofs.Common.{◌≡◌, ◌≢◌, inl, inr, ⊎_elim, ◌∷◌, ℕ, List, [], false, None, Some, Ok, Err, refl, sym, ap, subst, ◌∙◌, length, ◌++◌}
use Rattle.std.specs.Prelude.{IsSomeAnd}
use Rattle.std.specs.FinMap.{get}
use Rattle.shore_types.specs.declared.faults.Fault.{Fault}
use Rattle.shore_types.specs.declared.faults.Fault.TheVariants as fault
use Rattle.shore_types.specs.declared.ids.Rid.{Rid}
use Rattle.shore_types.specs.declared.layout.Geometry.{Geometry}
use Rattle.shore_types.specs.declared.locking.Granule.TheVariants as granule
use Rattle.shore_types.specs.declared.locking.Mode.TheVariants.{EX}
use Rattle.shore_model.specs.declared.calls.Answer.{Answer}
use Rattle.shore_model.specs.declared.calls.Answer.TheVariants.{Got, Inserted, Locked}
use Rattle.shore_model.specs.declared.calls.Call.{Call}
use Rattle.shore_model.specs.declared.calls.Call.TheVariants as call
use Rattle.shore_model.specs.declared.histories.Entry.{Entry}
use Rattle.shore_model.specs.declared.histories.Opening.{Opening}
use Rattle.shore_model.specs.declared.histories.Entry.TheVariants.{Exchanged}
use Rattle.shore_model.specs.declared.log_records.LogRecord.{LogRecord}
use Rattle.shore_model.specs.Alone.{IsRight, record_named_by}
use Rattle.shore_model.specs.Locks.{MayRead}
use Rattle.shore_locks.specs.Tables.{is_waiting}
use Rattle.shore_path.specs.declared.answers.Acquired.TheVariants as acquire
use Rattle.shore_path.specs.declared.answers.OnConflict.TheVariants.{Refuse}
use Rattle.laws_locks.specs.CallLocks.{Asked, lock_asked_by}
use Rattle.laws_locks.proofs.Acquired.{acquired_refused}
use Rattle.laws_lives.proofs.Views.{read_of_write}
use Rattle.laws_lives.specs.RepliesInPlace.{IsKnownAbsent, Permit}
use Rattle.laws_lives.specs.SessionSteps.{GiveReply, IsInnerCall, RefuseCall, TellsNothing, exchange}
use Rattle.laws_lives.specs.Sessions.{SessionTxn, reply_given}
use Rattle.laws_room.specs.Claims.{SlotCounts}
use Rattle.shore_model.specs.declared.step.Step.{Step}
use Rattle.shore_model.specs.declared.step.Step.TheVariants.{Done, Nothing, Refused, Waits}
use Rattle.laws_calls.proofs.Elements.{same_undo}
use Rattle.laws_calls.proofs.GoingOn.{asking_is_inner, at_place, behind, lock_refusal_tells_nothing, never_waiting, page_fault_tells_nothing, permits, place_permits, some_and, still_quiet}
use Rattle.laws_calls.proofs.Links.{GoesQuietly, IsLeft, absence_goes, locks_go, quietly_behind, quietly_none, quietly_one, refusal_goes}
use Rattle.laws_calls.proofs.LockedAnswers.{inner_under}
use Rattle.laws_calls.proofs.RefusalTells.{known_absent, same_entry, tells_or_none}
use Rattle.laws_calls.proofs.ReplyLinks.{Takes, delete_takes, get_for_update_takes, get_takes, insert_takes, lock_takes, reply_goes, scan_takes, try_lock_takes, update_takes}
use Rattle.laws_calls.proofs.Sessions.{its_txn, own_of, refused_seats, reply_seats}
use Rattle.laws_calls.proofs.TakenLocks.{moved}
use Rattle.laws_calls.specs.CallHistories.{answered_under, txn_of}
use Rattle.laws_calls.specs.StateChanges.{after_refusal, answered}
use Rattle.laws_calls.specs.CallSteps.{AnswersBehind, CallGoesOn, LacksMemory, RefusesBehind, RefusesRead, behind_lock, behind_place, lock_outcome, on_conflict_of, place_outcome}
use Rattle.laws_calls.specs.LockedStates.{IsSessionsState}
use Rattle.laws_calls.specs.States.{DoesNotWait, HasSeat, State}
use Rattle.laws_calls.proofs.Told.{entries_told, asks_decides_nothing}

pub refused_left : (session : ℕ) (s : State) (f : Fault) → IsLeft session s (after_refusal f s)
refused_left session s fault.Device = inr (inl refl)
refused_left session s (fault.Damaged device place) = inr (inl refl)
refused_left session s _ = inl refl

module _ (g : Geometry) (o : Opening) (found : List LogRecord) (es : List Entry) (session : ℕ) where
  abbrev Passes : State → State → List Entry → Type 0
  Passes s new made = GoesQuietly g session s new made

  abbrev refused_entry : State → Call → Fault → Entry
  refused_entry s c f = Exchanged session (txn_of s.sessions session) (exchange c (Err f))

  abbrev answer_entry : State → Call → Answer → Entry
  answer_entry s c answer = Exchanged session (answered_under s.sessions session c) (exchange c (Ok answer))

  -- ---- replies

  -- a refusal that is no word on records
  pub told_passes : (s new : State) (c : Call) (f : Fault) → TellsNothing f → IsLeft session s new → Passes s new (refused_entry s c f ∷ [])
  told_passes s new c f nothing left =
      quietly_one g session s (RefuseCall session (txn_of s.sessions session) c f) s new tt
      (refusal_goes g s session (txn_of s.sessions session) c f (refl, nothing, refused_seats s.sessions session (txn_of s.sessions session) c f)) left

  module _ (a : SessionTxn) (of : a.session ≡ session) (whole : a.undo.rolling ≡ None) where
    -- the record that a call names is not there
    pub absence_passes : (s : State) → IsSessionsState o found es s → HasSeat s.sessions a → (c : Call) → IsInnerCall c
        → IsSomeAnd (record_named_by c) (IsKnownAbsent s.sessions.slots s.sessions.held a.txn s.sessions.records) → Passes s s (refused_entry s c fault.NoRecord ∷ [])
    absence_passes s k mem c inner known =
        let same : s.sessions ≡ reply_given s.sessions a c (Err fault.NoRecord) =
        sym (ap (λ (xs : List SessionTxn). record s.sessions { active = xs }) (same_undo a s.sessions.active k.agree.once mem.0)) in
        subst (λ (e : Entry). Passes s s (e ∷ [])) (same_entry a.session session a.txn (txn_of s.sessions session) (exchange c (Err fault.NoRecord)) of (sym (its_txn s.sessions a session mem.1 of)))
        (quietly_one g session s (GiveReply a c (Err fault.NoRecord)) s s tt (absence_goes g s a c
        (own_of k a mem, inner, known, inl whole, same ∙ reply_seats s.sessions a c (Err fault.NoRecord) inner known (reply_given s.sessions a c (Err fault.NoRecord)) refl)) (inl refl))

    -- an answer that its locks permit, that is right on the records in place, and that has its room
    pub reply_passes : (s : State) → IsSessionsState o found es s → HasSeat s.sessions a → (c : Call) → IsInnerCall c → (answer : Answer) (counts : SlotCounts)
        → Permit s.sessions.held a.txn c answer → IsRight s.sessions.records (length a.undo.marks) c answer → Takes g s a c answer counts
        → Passes s (answered s a c answer counts) (answer_entry s c answer ∷ [])
    reply_passes s k mem c inner answer counts permit right takes =
        subst (λ (e : Entry). Passes s (answered s a c answer counts) (e ∷ []))
        (same_entry a.session session a.txn (answered_under s.sessions session c) (exchange c (Ok answer)) of (sym (inner_under s session c inner ∙ its_txn s.sessions a session mem.1 of)))
        (quietly_one g session s (GiveReply a c (Ok answer)) (answered s a c answer counts) (answered s a c answer counts) tt (reply_goes g s a (own_of k a mem) c inner answer counts permit right (inl whole) takes) (inl refl))

    -- a page that was not read, or a record that is not there
    read_passes : (s : State) → IsSessionsState o found es s → HasSeat s.sessions a → (c : Call) → IsInnerCall c → (id : Rid) → record_named_by c ≡ Some id → MayRead s.sessions.held a.txn id
        → (f : Fault) → RefusesRead s id f → Passes s (after_refusal f s) (refused_entry s c f ∷ [])
    read_passes s k mem c inner id named may f h = ⊎_elim
        (λ nothing. told_passes s (after_refusal f s) c f nothing (refused_left session s f))
        (λ none.
        subst (λ (x : Fault). Passes s (after_refusal x s) (refused_entry s c x ∷ [])) (sym none)
        (absence_passes s k mem c inner (known_absent (record_named_by c) id s.sessions.held s a.txn named may (subst (RefusesRead s id) none h))))
        (tells_or_none f)

    -- a refusal by this fault
    exact_passes : (s new : State) (c : Call) (f exact : Fault) → f ≡ exact → TellsNothing exact → IsLeft session s new → Passes s new (refused_entry s c f ∷ [])
    exact_passes s new c f exact is nothing left = told_passes s new c f (subst TellsNothing (sym is) nothing) left

    -- ---- an insert, behind the lock of its store

    module _ (s : State) (k : IsSessionsState o found es s) (mem : HasSeat s.sessions a) (quiet : is_waiting a.txn s.locks.requests ≡ false) where
      -- the place is locked first
      place_first : (id : Rid) (new : State) (made : List Entry) → Passes (behind_place s a id) new made → Passes s new made
      place_first id new made rest =
          quietly_behind g session s (place_outcome s a id).requests new made
          (locks_go g s (place_outcome s a id).requests (moved o found es s k a mem quiet Refuse (granule.Record id) EX)) rest

      -- .. and what is refused then leaves the state as it was but for it
      placed_refusal : (id : Rid) (c : Call) (f exact : Fault) → f ≡ exact → TellsNothing exact → Passes s (behind_place s a id) (refused_entry s c f ∷ [])
      placed_refusal id c f exact is nothing =
          place_first id (behind_place s a id) (refused_entry s c f ∷ []) (exact_passes (behind_place s a id) (behind_place s a id) c f exact is nothing (inl refl))

      insert_refused : (store : ℕ) (bytes : List ℕ) (f : Fault) (new : State) → RefusesBehind g s a (call.Insert store bytes) f new → Passes s new (refused_entry s (call.Insert store bytes) f ∷ [])
      insert_refused store bytes f new (inl h) = exact_passes s new (call.Insert store bytes) f fault.StoreFull h.0 tt (inl h.2)
      insert_refused store bytes f new (inr (inl h)) =
          subst (λ (n : State). Passes s n (refused_entry s (call.Insert store bytes) f ∷ [])) (sym h.1.3) (placed_refusal h.1.0 (call.Insert store bytes) f fault.LockTableFull h.0 tt)
      insert_refused store bytes f new (inr (inr (inl h))) =
          subst (λ (n : State). Passes s n (refused_entry s (call.Insert store bytes) f ∷ [])) (sym h.1.3) (placed_refusal h.1.0 (call.Insert store bytes) f fault.LogFull h.0 tt)
      insert_refused store bytes f new (inr (inr (inr h))) =
          subst (λ (n : State). Passes s n (refused_entry s (call.Insert store bytes) f ∷ [])) (sym h.1)
          (told_passes s (after_refusal f s) (call.Insert store bytes) f (page_fault_tells_nothing s f h.0) (refused_left session s f))

      insert_passes : (store : ℕ) (bytes : List ℕ) (answer : Answer) (new : State) → AnswersBehind g s a (call.Insert store bytes) answer new
          → Passes s new (answer_entry s (call.Insert store bytes) answer ∷ [])
      insert_passes store bytes answer new h =
          let id = h.0 in
          let serves = h.1.0.serves in
          let place = behind_place s a id in
          let at = at_place g o found es session a of whole s k mem quiet s k mem quiet id (never_waiting h.1.1) in
          let permit = place_permits g o found es session a of whole s k mem quiet s k mem quiet id store bytes h.1.1 in
          subst (λ (n : State). Passes s n (answer_entry s (call.Insert store bytes) answer ∷ [])) (sym h.3.2)
          (subst (λ (x : Answer). Passes s (answered place a (call.Insert store bytes) x h.3.0) (answer_entry s (call.Insert store bytes) x ∷ [])) (sym h.2)
          (place_first id (answered place a (call.Insert store bytes) (Inserted id) h.3.0) (answer_entry s (call.Insert store bytes) (Inserted id) ∷ [])
          (reply_passes place at mem (call.Insert store bytes) tt (Inserted id) h.3.0 permit (id, refl, serves.of_store, serves.empty) (insert_takes g place a id h.3.0 (inl serves.inside) store bytes h.3.1))))

    -- ---- from its locks on

    module _ (s : State) (k : IsSessionsState o found es s) (mem : HasSeat s.sessions a) (quiet : is_waiting a.txn s.locks.requests ≡ false) where
      -- the lock that the call asks for comes first
      lock_first : (c : Call) (lock : Asked) (new : State) (made : List Entry) → Passes (behind_lock s a c lock) new made → Passes s new made
      lock_first c lock new made rest =
          quietly_behind g session s (lock_outcome s a c lock).requests new made
          (locks_go g s (lock_outcome s a c lock).requests (moved o found es s k a mem quiet (on_conflict_of c) lock.granule lock.mode)) rest

      module _ (c : Call) (lock : Asked) (asked : lock_asked_by c ≡ Some lock) (done : (lock_outcome s a c lock).answer ≡ Ok acquire.Done) where
        abbrev locked : State
        locked = behind_lock s a c lock

        has : IsSessionsState o found es locked
        has = behind g o found es session a of whole s k mem quiet c lock done

        free : is_waiting a.txn locked.locks.requests ≡ false
        free = still_quiet g o found es session a of whole s k mem quiet c lock done

        may : ((store : ℕ) (bytes : List ℕ) → c ≢ call.Insert store bytes) → (answer : Answer) → Permit locked.sessions.held a.txn c answer
        may other answer = permits g o found es session a of whole s k mem quiet c lock asked done other answer

        given : ((store : ℕ) (bytes : List ℕ) → c ≢ call.Insert store bytes) → (answer : Answer) (counts : SlotCounts) → IsRight s.sessions.records (length a.undo.marks) c answer
            → Takes g locked a c answer counts → Passes locked (answered locked a c answer counts) (answer_entry s c answer ∷ [])
        given other answer counts right takes = reply_passes locked has mem c (asking_is_inner c lock asked) answer counts (may other answer) right takes

      answers_pass : (c : Call) (lock : Asked) → lock_asked_by c ≡ Some lock → (lock_outcome s a c lock).answer ≡ Ok acquire.Done → (answer : Answer) (new : State)
          → AnswersBehind g (behind_lock s a c lock) a c answer new → Passes (behind_lock s a c lock) new (answer_entry s c answer ∷ [])
      answers_pass (call.Get id) lock asked done answer new h =
          let l = behind_lock s a (call.Get id) lock in
          subst (λ (n : State). Passes l n (answer_entry s (call.Get id) answer ∷ [])) (sym h.1)
          (given (call.Get id) lock asked done (λ store bytes is. cc) answer s.counts (some_and (get s.sessions.records id) h.0.0 (λ bytes. answer ≡ Got bytes) h.0.1 h.0.2) (get_takes g l a id answer))
      answers_pass (call.GetForUpdate id) lock asked done answer new h =
          let l = behind_lock s a (call.GetForUpdate id) lock in
          subst (λ (n : State). Passes l n (answer_entry s (call.GetForUpdate id) answer ∷ [])) (sym h.1)
          (given (call.GetForUpdate id) lock asked done (λ store bytes is. cc) answer s.counts (some_and (get s.sessions.records id) h.0.0 (λ bytes. answer ≡ Got bytes) h.0.1 h.0.2)
          (get_for_update_takes g l a id answer))
      answers_pass (call.Insert store bytes) lock asked done answer new h =
          insert_passes (behind_lock s a (call.Insert store bytes) lock) (has (call.Insert store bytes) lock asked done) mem (free (call.Insert store bytes) lock asked done) store bytes answer new h
      answers_pass (call.Update id bytes) lock asked done answer new h =
          let l = behind_lock s a (call.Update id bytes) lock in
          subst (λ (n : State). Passes l n (answer_entry s (call.Update id bytes) answer ∷ [])) (sym h.2.2)
          (given (call.Update id bytes) lock asked done (λ store bytes is. cc) answer h.2.0 (h.0, h.1) (update_takes g l a id h.2.0 (inr h.0) bytes answer h.2.1))
      answers_pass (call.Delete id) lock asked done answer new h =
          let l = behind_lock s a (call.Delete id) lock in
          subst (λ (n : State). Passes l n (answer_entry s (call.Delete id) answer ∷ [])) (sym h.2.2)
          (given (call.Delete id) lock asked done (λ store bytes is. cc) answer h.2.0 (h.0, h.1) (delete_takes g l a id h.2.0 (inr h.0) answer h.2.1))
      answers_pass (call.Scan store) lock asked done answer new h =
          let l = behind_lock s a (call.Scan store) lock in
          subst (λ (n : State). Passes l n (answer_entry s (call.Scan store) answer ∷ [])) (sym h.1)
          (given (call.Scan store) lock asked done (λ store bytes is. cc) answer s.counts h.0 (scan_takes g l a store answer))
      answers_pass (call.Lock at mode) lock asked done answer new h =
          let l = behind_lock s a (call.Lock at mode) lock in
          subst (λ (n : State). Passes l n (answer_entry s (call.Lock at mode) answer ∷ [])) (sym h.1)
          (given (call.Lock at mode) lock asked done (λ store bytes is. cc) answer s.counts h.0 (lock_takes g l a at mode answer))
      answers_pass (call.TryLock at mode) lock asked done answer new h =
          let l = behind_lock s a (call.TryLock at mode) lock in
          subst (λ (n : State). Passes l n (answer_entry s (call.TryLock at mode) answer ∷ [])) (sym h.1)
          (given (call.TryLock at mode) lock asked done (λ store bytes is. cc) answer s.counts h.0 (try_lock_takes g l a at mode answer))
      answers_pass _ lock asked done answer new h = absurd h

      refusals_pass : (c : Call) (lock : Asked) → lock_asked_by c ≡ Some lock → (lock_outcome s a c lock).answer ≡ Ok acquire.Done → (f : Fault) (new : State)
          → RefusesBehind g (behind_lock s a c lock) a c f new → Passes (behind_lock s a c lock) new (refused_entry s c f ∷ [])
      refusals_pass (call.Get id) lock asked done f new h =
          let l = behind_lock s a (call.Get id) lock in
          subst (λ (n : State). Passes l n (refused_entry s (call.Get id) f ∷ [])) (sym h.1)
          (read_passes l (has (call.Get id) lock asked done) mem (call.Get id) tt id refl (may (call.Get id) lock asked done (λ store bytes is. cc) Locked) f h.0)
      refusals_pass (call.GetForUpdate id) lock asked done f new h =
          let l = behind_lock s a (call.GetForUpdate id) lock in
          subst (λ (n : State). Passes l n (refused_entry s (call.GetForUpdate id) f ∷ [])) (sym h.1)
          (read_passes l (has (call.GetForUpdate id) lock asked done) mem (call.GetForUpdate id) tt id refl (may (call.GetForUpdate id) lock asked done (λ store bytes is. cc) Locked) f h.0)
      refusals_pass (call.Insert store bytes) lock asked done f new h =
          insert_refused (behind_lock s a (call.Insert store bytes) lock) (has (call.Insert store bytes) lock asked done) mem (free (call.Insert store bytes) lock asked done) store bytes f new h
      refusals_pass (call.Update id bytes) lock asked done f new h =
          let l = behind_lock s a (call.Update id bytes) lock in
          let reads = read_of_write l.sessions.held a.txn id (may (call.Update id bytes) lock asked done (λ store bytes is. cc) Locked) in
          subst (λ (n : State). Passes l n (refused_entry s (call.Update id bytes) f ∷ [])) (sym h.1)
          (⊎_elim (read_passes l (has (call.Update id bytes) lock asked done) mem (call.Update id bytes) tt id refl reads f)
          (λ full. ⊎_elim
          (λ store. exact_passes l (after_refusal f l) (call.Update id bytes) f fault.StoreFull store.0 tt (refused_left session l f))
          (λ log. exact_passes l (after_refusal f l) (call.Update id bytes) f fault.LogFull log.0 tt (refused_left session l f)) full) h.0)
      refusals_pass (call.Delete id) lock asked done f new h =
          let l = behind_lock s a (call.Delete id) lock in
          let reads = read_of_write l.sessions.held a.txn id (may (call.Delete id) lock asked done (λ store bytes is. cc) Locked) in
          subst (λ (n : State). Passes l n (refused_entry s (call.Delete id) f ∷ [])) (sym h.1)
          (⊎_elim (read_passes l (has (call.Delete id) lock asked done) mem (call.Delete id) tt id refl reads f)
          (λ log. exact_passes l (after_refusal f l) (call.Delete id) f fault.LogFull log.0 tt (refused_left session l f)) h.0)
      refusals_pass (call.Scan store) lock asked done f new h =
          let l = behind_lock s a (call.Scan store) lock in
          subst (λ (n : State). Passes l n (refused_entry s (call.Scan store) f ∷ [])) (sym h.1)
          (told_passes l (after_refusal f l) (call.Scan store) f (page_fault_tells_nothing l f h.0) (refused_left session l f))
      refusals_pass _ lock asked done f new h = absurd h

      memory_passes : (c : Call) (new : State) → LacksMemory g s a c new → Passes s new (refused_entry s c fault.Memory ∷ [])
      memory_passes c new (inl same) = told_passes s new c fault.Memory tt (inl same)
      memory_passes c new (inr h) =
          let lock = h.1.0 in
          let asked = h.1.1 in
          let done = h.1.2 in
          let l = behind_lock s a c lock in
          ⊎_elim
          (λ same. lock_first c lock new (refused_entry s c fault.Memory ∷ []) (told_passes l new c fault.Memory tt (inl (same ∙ h.1.3))))
          (λ placed.
          let id = placed.2 in
          lock_first c lock new (refused_entry s c fault.Memory ∷ [])
          (subst (λ (n : State). Passes l n (refused_entry s c fault.Memory ∷ [])) (sym (placed.5 ∙ ap (λ (x : State). behind_place x a id) h.1.3))
          (placed_refusal l (has c lock asked done) mem (free c lock asked done) id c fault.Memory fault.Memory refl tt)))
          h.2

      pub goes_on_passes : DoesNotWait s session → (c : Call) (step : Step) (new : State) → CallGoesOn g s a c step new → Passes s new (entries_told s session c step)
      goes_on_passes idle c (Done answer) new h =
          subst (λ ds. Passes s new (ds ++ answer_entry s c answer ∷ [])) (sym (asks_decides_nothing (txn_of s.sessions session) c h.1.0 h.1.1))
          (lock_first c h.1.0 new (answer_entry s c answer ∷ [])
          (answers_pass c h.1.0 h.1.1 h.1.2 answer new (subst (λ (l : State). AnswersBehind g l a c answer new) h.1.3 h.2)))
      goes_on_passes idle c (Waits wait) new h =
          subst (λ w. Passes s new (entries_told s session c (Waits w))) (sym h.4)
          (lock_first c h.0 new []
          (quietly_none g session (behind_lock s a c h.0) new
          (inr (inr (record { txn = a; active = mem; of = of; whole = whole; idle = idle; call = c; lock = h.0; asked = h.2; at = h.1; is = h.5 })))))
      goes_on_passes idle c (Refused f) new (inl h) =
          subst (λ (x : Fault). Passes s new (refused_entry s c x ∷ [])) (sym h.0) (memory_passes c new h.1)
      goes_on_passes idle c (Refused f) new (inr (inl h)) =
          let lock = h.0 in
          let nothing = lock_refusal_tells_nothing (on_conflict_of c) (record { limit = s.locks.limit; requests = (lock_outcome s a c lock).requests }) a.txn lock.granule lock.mode
          (lock_outcome s a c lock).answer f (acquired_refused (on_conflict_of c) s.locks a.txn lock.granule lock.mode k.locks.orderly quiet) h.2 in
          lock_first c lock new (refused_entry s c f ∷ []) (told_passes (behind_lock s a c lock) new c f nothing (inl h.3))
      goes_on_passes idle c (Refused f) new (inr (inr h)) =
          lock_first c h.1.0 new (refused_entry s c f ∷ [])
          (refusals_pass c h.1.0 h.1.1 h.1.2 f new (subst (λ (l : State). RefusesBehind g l a c f new) h.1.3 h.2))
      goes_on_passes idle c Nothing new h = absurd h

-- A call of a transaction from its locks on: what the sessions are after its entry.
use Rattle.std.proofs.Common.{◌≡◌, ◌≢◌, inl, inr, ⊎_elim, ◌++◌, ◌∷◌, ℕ, List, [], false, None, Some, Ok, Err, refl, sym, ap, subst, ◌∙◌, length, append-nil}
use Rattle.std.specs.Prelude.{IfErr, IsSomeAnd, Option, Result}
use Rattle.std.specs.FinMap.{get}
use Rattle.shore_types.specs.declared.faults.Fault.{Fault}
use Rattle.shore_types.specs.declared.faults.Fault.TheVariants as fault
use Rattle.shore_types.specs.declared.ids.Rid.{Rid}
use Rattle.shore_types.specs.declared.layout.Geometry.{Geometry}
use Rattle.shore_types.specs.declared.locking.Granule.{Granule}
use Rattle.shore_types.specs.declared.locking.Granule.TheVariants as granule
use Rattle.shore_types.specs.declared.locking.Mode.{Mode}
use Rattle.shore_types.specs.declared.locking.Mode.TheVariants.{EX}
use Rattle.shore_model.specs.declared.calls.Answer.{Answer}
use Rattle.shore_model.specs.declared.calls.Answer.TheVariants.{Got, Inserted, Locked}
use Rattle.shore_model.specs.declared.calls.Call.{Call}
use Rattle.shore_model.specs.declared.calls.Call.TheVariants as call
use Rattle.shore_model.specs.declared.histories.Entry.{Entry}
use Rattle.shore_model.specs.declared.histories.Opening.{Opening}
use Rattle.shore_model.specs.declared.histories.Entry.TheVariants.{Exchanged}
use Rattle.shore_model.specs.declared.log_records.LogRecord.{LogRecord}
use Rattle.shore_model.specs.Alone.{IsRight, record_named_by}
use Rattle.shore_model.specs.Locks.{MayRead}
use Rattle.shore_locks.specs.Tables.{Table, is_waiting}
use Rattle.shore_path.specs.declared.answers.Acquired.{Acquired}
use Rattle.shore_path.specs.declared.answers.Acquired.TheVariants as acquire
use Rattle.shore_path.specs.declared.answers.OnConflict.{OnConflict}
use Rattle.shore_path.specs.declared.answers.OnConflict.TheVariants.{Refuse}
use Rattle.shore_path.specs.Acquires.{MayRefuse}
use Rattle.laws_locks.specs.CallLocks.{Asked, lock_asked_by}
use Rattle.laws_locks.proofs.Acquired.{acquired_refused}
use Rattle.laws_locks.proofs.Held.{locked_of, served_by}
use Rattle.laws_lives.proofs.GranuleLocks.{permitted}
use Rattle.laws_lives.proofs.Views.{read_of_write}
use Rattle.laws_lives.specs.RepliesInPlace.{Permit}
use Rattle.laws_lives.specs.SessionSteps.{IsInnerCall, TellsNothing, exchange}
use Rattle.laws_lives.specs.Sessions.{SessionTxn}
use Rattle.laws_room.specs.Claims.{SlotCounts}
use Rattle.shore_model.specs.declared.step.Step.{Step}
use Rattle.shore_model.specs.declared.step.Step.TheVariants.{Done, Nothing, Refused, Waits}
use Rattle.laws_calls.proofs.LockedAnswers.{absence_told, after_refused, answer_given, refusal_told}
use Rattle.laws_calls.proofs.RefusalTells.{known_absent, tells_or_none}
use Rattle.laws_calls.proofs.TakenLocks.{leaves, locked_state, waiting_state}
use Rattle.laws_calls.specs.CallHistories.{answered_under, txn_of}
use Rattle.laws_calls.specs.StateChanges.{IsPageFault, after_refusal, answered}
use Rattle.laws_calls.specs.CallSteps.{AnswersBehind, CallGoesOn, LacksMemory, RefusesBehind, RefusesRead, behind_lock, behind_place, lock_outcome, lock_waiting, on_conflict_of, place_outcome}
use Rattle.laws_calls.specs.LockedStates.{IsSessionsState}
use Rattle.laws_calls.specs.States.{HasSeat, State}
use Rattle.laws_calls.proofs.Told.{entries_told, asks_decides_nothing}

-- calls that ask for a lock are made within a transaction
pub asking_is_inner : (c : Call) (lock : Asked) → lock_asked_by c ≡ Some lock → IsInnerCall c
asking_is_inner (call.Get id) lock is = tt
asking_is_inner (call.GetForUpdate id) lock is = tt
asking_is_inner (call.Insert store bytes) lock is = tt
asking_is_inner (call.Update id bytes) lock is = tt
asking_is_inner (call.Delete id) lock is = tt
asking_is_inner (call.Scan store) lock is = tt
asking_is_inner (call.Lock g mode) lock is = tt
asking_is_inner (call.TryLock g mode) lock is = tt
asking_is_inner call.Begin lock is = absurd cc
asking_is_inner call.Savepoint lock is = absurd cc
asking_is_inner (call.BackTo index) lock is = absurd cc
asking_is_inner call.Commit lock is = absurd cc
asking_is_inner call.Abort lock is = absurd cc
asking_is_inner (call.Prepare global) lock is = absurd cc
asking_is_inner (call.Resolve global outcome) lock is = absurd cc
asking_is_inner call.InDoubt lock is = absurd cc

pub never_waiting : {o : Result Acquired Fault} → o ≡ Ok acquire.Done → (g : Granule) → o ≢ Ok (acquire.Waiting g)
never_waiting is g waiting = let clash : Ok acquire.Done ≡ Ok (acquire.Waiting g) = sym is ∙ waiting in absurd cc

pub refused_not_waiting : {o : Result Acquired Fault} (f : Fault) → o ≡ Err f → (g : Granule) → o ≢ Ok (acquire.Waiting g)
refused_not_waiting f is g waiting = let clash : Err f ≡ Ok (acquire.Waiting g) = sym is ∙ waiting in absurd cc

-- a table's refusal is no word on records
pub lock_refusal_tells_nothing : (c : OnConflict) (table : Table) (t : ℕ) (g : Granule) (mode : Mode) (o : Result Acquired Fault) (f : Fault) → IfErr o (MayRefuse c table t g mode) → o ≡ Err f → TellsNothing f
lock_refusal_tells_nothing c table t g mode o f may is = ⊎_elim
    (λ nothing. nothing)
    (λ none. absurd (subst (MayRefuse c table t g mode) none (subst (λ (x : Result Acquired Fault). IfErr x (MayRefuse c table t g mode)) is may)))
    (tells_or_none f)

pub page_fault_tells_nothing : (s : State) (f : Fault) → IsPageFault s f → TellsNothing f
page_fault_tells_nothing s f (inl device) = subst TellsNothing (sym device) tt
page_fault_tells_nothing s f (inr (inl damaged)) = subst TellsNothing (sym damaged.1) tt
page_fault_tells_nothing s f (inr (inr force)) = subst TellsNothing (sym force.1) tt

pub some_and : {A : Type 0} (o : Option A) (x : A) (P : A → Type 0) → o ≡ Some x → P x → IsSomeAnd o P
some_and o x P e p = subst (λ o. IsSomeAnd o P) (sym e) p

module _ (g : Geometry) (o : Opening) (found : List LogRecord) (es : List Entry) (session : ℕ) (a : SessionTxn) (of : a.session ≡ session) (whole : a.undo.rolling ≡ None) where
  abbrev refused_entry : State → Call → Fault → Entry
  refused_entry s c f = Exchanged session (txn_of s.sessions session) (exchange c (Err f))

  abbrev answer_entry : State → Call → Answer → Entry
  answer_entry s c answer = Exchanged session (answered_under s.sessions session c) (exchange c (Ok answer))

  told : (s : State) → IsSessionsState o found es s → (c : Call) (f : Fault) → TellsNothing f → IsSessionsState o found (es ++ refused_entry s c f ∷ []) (after_refusal f s)
  told s k c f nothing = after_refused o found (es ++ refused_entry s c f ∷ []) s (refusal_told o found es s k session c f nothing) f

  -- ---- behind the lock that the call asked for

  module _ (s : State) (k : IsSessionsState o found es s) (mem : HasSeat s.sessions a) (quiet : is_waiting a.txn s.locks.requests ≡ false) where
    pub behind : (c : Call) (lock : Asked) → (lock_outcome s a c lock).answer ≡ Ok acquire.Done → IsSessionsState o found es (behind_lock s a c lock)
    behind c lock done = locked_state o found es s k a mem quiet (on_conflict_of c) lock.granule lock.mode (never_waiting done)

    pub still_quiet : (c : Call) (lock : Asked) → (lock_outcome s a c lock).answer ≡ Ok acquire.Done → is_waiting a.txn (behind_lock s a c lock).locks.requests ≡ false
    still_quiet c lock done = (leaves o found es s k a mem quiet (on_conflict_of c) lock.granule lock.mode).quiet (never_waiting done)

    pub permits : (c : Call) (lock : Asked) → lock_asked_by c ≡ Some lock → (lock_outcome s a c lock).answer ≡ Ok acquire.Done → ((store : ℕ) (bytes : List ℕ) → c ≢ call.Insert store bytes)
        → (answer : Answer) → Permit (behind_lock s a c lock).sessions.held a.txn c answer
    permits c lock asked done other answer =
        permitted (behind_lock s a c lock).sessions.held a.txn c answer
        (served_by (lock_outcome s a c lock).requests a.txn c answer lock asked other
        (locked_of (lock_outcome s a c lock).requests a.txn lock.granule lock.mode ((leaves o found es s k a mem quiet (on_conflict_of c) lock.granule lock.mode).done done)))

    -- an answer of a call whose locks permit each
    given : (c : Call) (lock : Asked) (asked : lock_asked_by c ≡ Some lock) (done : (lock_outcome s a c lock).answer ≡ Ok acquire.Done) → ((store : ℕ) (bytes : List ℕ) → c ≢ call.Insert store bytes)
        → (answer : Answer) (counts : SlotCounts) → IsRight s.sessions.records (length a.undo.marks) c answer
        → IsSessionsState o found (es ++ answer_entry s c answer ∷ []) (answered (behind_lock s a c lock) a c answer counts)
    given c lock asked done other answer counts right =
        answer_given o found es (behind_lock s a c lock) (behind c lock done) session a mem of c (asking_is_inner c lock asked) answer counts (permits c lock asked done other answer) right (inl whole)

    -- the place of an insert is locked too
    module _ (l : State) (kl : IsSessionsState o found es l) (meml : HasSeat l.sessions a) (quietl : is_waiting a.txn l.locks.requests ≡ false) (id : Rid) where
      pub at_place : ((g : Granule) → (place_outcome l a id).answer ≢ Ok (acquire.Waiting g)) → IsSessionsState o found es (behind_place l a id)
      at_place never = locked_state o found es l kl a meml quietl Refuse (granule.Record id) EX never

      pub place_permits : (store : ℕ) (bytes : List ℕ) → (place_outcome l a id).answer ≡ Ok acquire.Done → Permit (behind_place l a id).sessions.held a.txn (call.Insert store bytes) (Inserted id)
      place_permits store bytes done =
          permitted (behind_place l a id).sessions.held a.txn (call.Insert store bytes) (Inserted id)
          (locked_of (place_outcome l a id).requests a.txn (granule.Record id) EX ((leaves o found es l kl a meml quietl Refuse (granule.Record id) EX).done done))

      inserted : (store : ℕ) (bytes : List ℕ) (counts : SlotCounts) → (place_outcome l a id).answer ≡ Ok acquire.Done → id.page.store ≡ store → get l.sessions.records id ≡ None
          → IsSessionsState o found (es ++ answer_entry l (call.Insert store bytes) (Inserted id) ∷ []) (answered (behind_place l a id) a (call.Insert store bytes) (Inserted id) counts)
      inserted store bytes counts done in_store empty =
          answer_given o found es (behind_place l a id) (at_place (never_waiting done)) session a meml of (call.Insert store bytes) tt (Inserted id) counts (place_permits store bytes done)
          (id, refl, in_store, empty) (inl whole)

    answers_kept : (c : Call) (lock : Asked) → lock_asked_by c ≡ Some lock → (lock_outcome s a c lock).answer ≡ Ok acquire.Done → (answer : Answer) (new : State)
        → AnswersBehind g (behind_lock s a c lock) a c answer new → IsSessionsState o found (es ++ answer_entry s c answer ∷ []) new
    answers_kept (call.Get id) lock asked done answer new h =
        subst (IsSessionsState o found (es ++ answer_entry s (call.Get id) answer ∷ [])) (sym h.1)
        (given (call.Get id) lock asked done (λ store bytes is. cc) answer s.counts (some_and (get s.sessions.records id) h.0.0 (λ bytes. answer ≡ Got bytes) h.0.1 h.0.2))
    answers_kept (call.GetForUpdate id) lock asked done answer new h =
        subst (IsSessionsState o found (es ++ answer_entry s (call.GetForUpdate id) answer ∷ [])) (sym h.1)
        (given (call.GetForUpdate id) lock asked done (λ store bytes is. cc) answer s.counts (some_and (get s.sessions.records id) h.0.0 (λ bytes. answer ≡ Got bytes) h.0.1 h.0.2))
    answers_kept (call.Insert store bytes) lock asked done answer new h =
        let id = h.0 in
        let l = behind_lock s a (call.Insert store bytes) lock in
        let serves = h.1.0.serves in
        subst (IsSessionsState o found (es ++ answer_entry s (call.Insert store bytes) answer ∷ [])) (sym h.3.2)
        (subst (λ (x : Answer). IsSessionsState o found (es ++ answer_entry s (call.Insert store bytes) x ∷ []) (answered (behind_place l a id) a (call.Insert store bytes) x h.3.0)) (sym h.2)
        (inserted l (behind (call.Insert store bytes) lock done) mem (still_quiet (call.Insert store bytes) lock done) id store bytes h.3.0 h.1.1 serves.of_store serves.empty))
    answers_kept (call.Update id bytes) lock asked done answer new h =
        subst (IsSessionsState o found (es ++ answer_entry s (call.Update id bytes) answer ∷ [])) (sym h.2.2)
        (given (call.Update id bytes) lock asked done (λ store bytes is. cc) answer h.2.0 (h.0, h.1))
    answers_kept (call.Delete id) lock asked done answer new h =
        subst (IsSessionsState o found (es ++ answer_entry s (call.Delete id) answer ∷ [])) (sym h.2.2) (given (call.Delete id) lock asked done (λ store bytes is. cc) answer h.2.0 (h.0, h.1))
    answers_kept (call.Scan store) lock asked done answer new h =
        subst (IsSessionsState o found (es ++ answer_entry s (call.Scan store) answer ∷ [])) (sym h.1) (given (call.Scan store) lock asked done (λ store bytes is. cc) answer s.counts h.0)
    answers_kept (call.Lock at mode) lock asked done answer new h =
        subst (IsSessionsState o found (es ++ answer_entry s (call.Lock at mode) answer ∷ [])) (sym h.1) (given (call.Lock at mode) lock asked done (λ store bytes is. cc) answer s.counts h.0)
    answers_kept (call.TryLock at mode) lock asked done answer new h =
        subst (IsSessionsState o found (es ++ answer_entry s (call.TryLock at mode) answer ∷ [])) (sym h.1) (given (call.TryLock at mode) lock asked done (λ store bytes is. cc) answer s.counts h.0)
    answers_kept _ lock asked done answer new h = absurd h

    -- a record that is not there, or a page that was not read
    read_refused : (l : State) → IsSessionsState o found es l → HasSeat l.sessions a → (c : Call) → IsInnerCall c → (id : Rid) → record_named_by c ≡ Some id → MayRead l.sessions.held a.txn id
        → (f : Fault) → RefusesRead l id f → IsSessionsState o found (es ++ refused_entry l c f ∷ []) (after_refusal f l)
    read_refused l kl meml c inner id named may f h = ⊎_elim
        (told l kl c f)
        (λ none.
        subst (λ (x : Fault). IsSessionsState o found (es ++ refused_entry l c x ∷ []) (after_refusal x l)) (sym none)
        (absence_told o found es l kl session a meml of c inner whole (known_absent (record_named_by c) id l.sessions.held l a.txn named may (subst (RefusesRead l id) none h))))
        (tells_or_none f)

    -- a refusal by this fault, which leaves all as it is
    refused_with : (l : State) → IsSessionsState o found es l → (c : Call) (f exact : Fault) → f ≡ exact → TellsNothing exact → IsSessionsState o found (es ++ refused_entry l c f ∷ []) l
    refused_with l kl c f exact is nothing =
        subst (λ (x : Fault). IsSessionsState o found (es ++ refused_entry l c x ∷ []) l) (sym is) (refusal_told o found es l kl session c exact nothing)

    refused_after : (l : State) → IsSessionsState o found es l → (c : Call) (f exact : Fault) → f ≡ exact → TellsNothing exact → IsSessionsState o found (es ++ refused_entry l c f ∷ []) (after_refusal f l)
    refused_after l kl c f exact is nothing = told l kl c f (subst TellsNothing (sym is) nothing)

    insert_refused : (l : State) → IsSessionsState o found es l → HasSeat l.sessions a → is_waiting a.txn l.locks.requests ≡ false → (store : ℕ) (bytes : List ℕ) (f : Fault) (new : State)
        → RefusesBehind g l a (call.Insert store bytes) f new → IsSessionsState o found (es ++ refused_entry l (call.Insert store bytes) f ∷ []) new
    insert_refused l kl meml quietl store bytes f new (inl h) =
        subst (IsSessionsState o found (es ++ refused_entry l (call.Insert store bytes) f ∷ [])) (sym h.2) (refused_with l kl (call.Insert store bytes) f fault.StoreFull h.0 tt)
    insert_refused l kl meml quietl store bytes f new (inr (inl h)) =
        let id = h.1.0 in
        subst (IsSessionsState o found (es ++ refused_entry l (call.Insert store bytes) f ∷ [])) (sym h.1.3)
        (refused_with (behind_place l a id) (at_place l kl meml quietl id (refused_not_waiting fault.LockTableFull h.1.2)) (call.Insert store bytes) f fault.LockTableFull h.0 tt)
    insert_refused l kl meml quietl store bytes f new (inr (inr (inl h))) =
        let id = h.1.0 in
        subst (IsSessionsState o found (es ++ refused_entry l (call.Insert store bytes) f ∷ [])) (sym h.1.3)
        (refused_with (behind_place l a id) (at_place l kl meml quietl id (never_waiting h.1.1.1)) (call.Insert store bytes) f fault.LogFull h.0 tt)
    insert_refused l kl meml quietl store bytes f new (inr (inr (inr h))) =
        subst (IsSessionsState o found (es ++ refused_entry l (call.Insert store bytes) f ∷ [])) (sym h.1) (told l kl (call.Insert store bytes) f (page_fault_tells_nothing l f h.0))

    refusals_kept : (c : Call) (lock : Asked) → lock_asked_by c ≡ Some lock → (lock_outcome s a c lock).answer ≡ Ok acquire.Done → (f : Fault) (new : State)
        → RefusesBehind g (behind_lock s a c lock) a c f new → IsSessionsState o found (es ++ refused_entry s c f ∷ []) new
    refusals_kept (call.Get id) lock asked done f new h =
        subst (IsSessionsState o found (es ++ refused_entry s (call.Get id) f ∷ [])) (sym h.1)
        (read_refused (behind_lock s a (call.Get id) lock) (behind (call.Get id) lock done) mem (call.Get id) tt id refl (permits (call.Get id) lock asked done (λ store bytes is. cc) Locked) f h.0)
    refusals_kept (call.GetForUpdate id) lock asked done f new h =
        subst (IsSessionsState o found (es ++ refused_entry s (call.GetForUpdate id) f ∷ [])) (sym h.1)
        (read_refused (behind_lock s a (call.GetForUpdate id) lock) (behind (call.GetForUpdate id) lock done) mem (call.GetForUpdate id) tt id refl
        (permits (call.GetForUpdate id) lock asked done (λ store bytes is. cc) Locked) f h.0)
    refusals_kept (call.Insert store bytes) lock asked done f new h =
        insert_refused (behind_lock s a (call.Insert store bytes) lock) (behind (call.Insert store bytes) lock done) mem (still_quiet (call.Insert store bytes) lock done) store bytes f new h
    refusals_kept (call.Update id bytes) lock asked done f new h =
        let l = behind_lock s a (call.Update id bytes) lock in
        let kl = behind (call.Update id bytes) lock done in
        let may = read_of_write l.sessions.held a.txn id (permits (call.Update id bytes) lock asked done (λ store bytes is. cc) Locked) in
        subst (IsSessionsState o found (es ++ refused_entry s (call.Update id bytes) f ∷ [])) (sym h.1)
        (⊎_elim (read_refused l kl mem (call.Update id bytes) tt id refl may f)
        (λ full. ⊎_elim (λ store. refused_after l kl (call.Update id bytes) f fault.StoreFull store.0 tt) (λ log. refused_after l kl (call.Update id bytes) f fault.LogFull log.0 tt) full) h.0)
    refusals_kept (call.Delete id) lock asked done f new h =
        let l = behind_lock s a (call.Delete id) lock in
        let kl = behind (call.Delete id) lock done in
        let may = read_of_write l.sessions.held a.txn id (permits (call.Delete id) lock asked done (λ store bytes is. cc) Locked) in
        subst (IsSessionsState o found (es ++ refused_entry s (call.Delete id) f ∷ [])) (sym h.1)
        (⊎_elim (read_refused l kl mem (call.Delete id) tt id refl may f) (λ log. refused_after l kl (call.Delete id) f fault.LogFull log.0 tt) h.0)
    refusals_kept (call.Scan store) lock asked done f new h =
        let l = behind_lock s a (call.Scan store) lock in
        subst (IsSessionsState o found (es ++ refused_entry s (call.Scan store) f ∷ [])) (sym h.1) (told l (behind (call.Scan store) lock done) (call.Scan store) f (page_fault_tells_nothing l f h.0))
    refusals_kept _ lock asked done f new h = absurd h

    -- ---- from its locks on

    memory_refused : (c : Call) (new : State) → LacksMemory g s a c new → IsSessionsState o found (es ++ refused_entry s c fault.Memory ∷ []) new
    memory_refused c new (inl same) = subst (IsSessionsState o found (es ++ refused_entry s c fault.Memory ∷ [])) (sym same) (refusal_told o found es s k session c fault.Memory tt)
    memory_refused c new (inr h) =
        let lock = h.1.0 in
        let done = h.1.2 in
        let kl = behind c lock done in
        ⊎_elim
        (λ same. subst (IsSessionsState o found (es ++ refused_entry s c fault.Memory ∷ [])) (sym (same ∙ h.1.3)) (refusal_told o found es (behind_lock s a c lock) kl session c fault.Memory tt))
        (λ placed.
        let id = placed.2 in
        let at : (place_outcome (behind_lock s a c lock) a id).answer ≡ Ok acquire.Done = subst (λ (l : State). (place_outcome l a id).answer ≡ Ok acquire.Done) h.1.3 placed.4.1 in
        subst (IsSessionsState o found (es ++ refused_entry s c fault.Memory ∷ [])) (sym (placed.5 ∙ ap (λ (l : State). behind_place l a id) h.1.3))
        (refusal_told o found es (behind_place (behind_lock s a c lock) a id) (at_place (behind_lock s a c lock) kl mem (still_quiet c lock done) id (never_waiting at)) session c fault.Memory tt))
        h.2

    pub goes_on_kept : (c : Call) (step : Step) (new : State) → CallGoesOn g s a c step new → IsSessionsState o found (es ++ entries_told s session c step) new
    goes_on_kept c (Done answer) new h =
        subst (λ ds. IsSessionsState o found (es ++ (ds ++ answer_entry s c answer ∷ [])) new) (sym (asks_decides_nothing (txn_of s.sessions session) c h.1.0 h.1.1))
        (answers_kept c h.1.0 h.1.1 h.1.2 answer new (subst (λ (l : State). AnswersBehind g l a c answer new) h.1.3 h.2))
    goes_on_kept c (Waits wait) new h =
        subst (λ w. IsSessionsState o found (es ++ entries_told s session c (Waits w)) new) (sym h.4)
        (subst (IsSessionsState o found (es ++ [])) (sym h.5)
        (subst (λ (made : List Entry). IsSessionsState o found made (record (behind_lock s a c h.0) { waiting = lock_waiting a c h.1 ∷ s.waiting })) (sym (append-nil es))
        (waiting_state o found es s k a mem quiet (on_conflict_of c) h.0.granule h.0.mode c h.1)))
    goes_on_kept c (Refused f) new (inl h) =
        subst (λ (x : Fault). IsSessionsState o found (es ++ refused_entry s c x ∷ []) new) (sym h.0) (memory_refused c new h.1)
    goes_on_kept c (Refused f) new (inr (inl h)) =
        let lock = h.0 in
        let nothing = lock_refusal_tells_nothing (on_conflict_of c) (record { limit = s.locks.limit; requests = (lock_outcome s a c lock).requests }) a.txn lock.granule lock.mode
        (lock_outcome s a c lock).answer f (acquired_refused (on_conflict_of c) s.locks a.txn lock.granule lock.mode k.locks.orderly quiet) h.2 in
        subst (IsSessionsState o found (es ++ refused_entry s c f ∷ [])) (sym h.3)
        (refusal_told o found es (behind_lock s a c lock) (locked_state o found es s k a mem quiet (on_conflict_of c) lock.granule lock.mode (refused_not_waiting f h.2)) session c f nothing)
    goes_on_kept c (Refused f) new (inr (inr h)) = refusals_kept c h.1.0 h.1.1 h.1.2 f new (subst (λ (l : State). RefusesBehind g l a c f new) h.1.3 h.2)
    goes_on_kept c Nothing new h = absurd h

-- The locks of sessions change as their calls ask, and go with the answers of their commits.
use Rattle.std.proofs.Common.{◌≡◌, ◌≢◌, ◌⊎◌, inl, inr, ⊎_elim, ℕ, List, false, Some, Ok, refl, sym, ap, subst, ◌∙◌}
use Rattle.std.specs.Prelude.{All}
use Rattle.shore_types.specs.declared.faults.Fault.{Fault}
use Rattle.shore_types.specs.declared.faults.Fault.TheVariants as fault
use Rattle.shore_types.specs.declared.ids.Rid.{Rid}
use Rattle.shore_types.specs.declared.layout.Geometry.{Geometry}
use Rattle.shore_types.specs.declared.locking.Granule.{Granule}
use Rattle.shore_types.specs.declared.locking.Granule.TheVariants as granule
use Rattle.shore_types.specs.declared.locking.Mode.{Mode}
use Rattle.shore_types.specs.declared.locking.Mode.TheVariants.{EX}
use Rattle.shore_model.specs.declared.calls.Answer.{Answer}
use Rattle.shore_model.specs.declared.calls.Answer.TheVariants.{Prepared}
use Rattle.shore_model.specs.declared.calls.Call.{Call}
use Rattle.shore_model.specs.declared.calls.Call.TheVariants as call
use Rattle.shore_model.specs.declared.histories.Entry.{Entry}
use Rattle.shore_model.specs.declared.histories.Opening.{Opening}
use Rattle.shore_model.specs.declared.log_records.LogRecord.{LogRecord}
use Rattle.shore_locks.specs.Grants.{released}
use Rattle.shore_locks.specs.Tables.{Table, is_waiting}
use Rattle.shore_path.specs.declared.answers.Acquired.TheVariants as acquire
use Rattle.shore_path.specs.declared.answers.OnConflict.{OnConflict}
use Rattle.shore_path.specs.declared.answers.OnConflict.TheVariants.{Refuse}
use Rattle.shore_path.specs.Walks.{acquired}
use Rattle.laws_locks.proofs.Held.{gone_of}
use Rattle.laws_locks.specs.CallLocks.{Asked, lock_asked_by}
use Rattle.shore_model.specs.declared.rollbacks.Rollback.TheVariants.{Whole}
use Rattle.laws_lives.specs.Sessions.{SessionTxn}
use Rattle.shore_model.specs.declared.step.Step.{Step}
use Rattle.shore_model.specs.declared.step.Step.TheVariants.{Done, Nothing, Refused, Waits}
use Rattle.shore_model.specs.declared.step.Wait.{Wait}
use Rattle.shore_model.specs.declared.step.Wait.TheVariants.{Durable, Lock}
use Rattle.laws_calls.proofs.GoingOn.{never_waiting}
use Rattle.laws_calls.proofs.Sessions.{its_txn}
use Rattle.laws_calls.proofs.RollingLeaves.{back_table, interrupted_table, savepoint_table}
use Rattle.laws_calls.proofs.SessionInversions.{aborted_in, committed_in}
use Rattle.laws_calls.proofs.SessionResumes.{woken}
use Rattle.laws_calls.proofs.TakenLocks.{leaves, locked_state}
use Rattle.laws_calls.specs.CallHistories.{txn_of}
use Rattle.laws_calls.specs.StateChanges.{after_refusal, wait_refused}
use Rattle.laws_calls.specs.LockChanges.{TakesAsAsked, TakesLock}
use Rattle.laws_calls.specs.CallSteps.{AbortStep, AnswersBehind, BeginStep, CommitStep, CallGoesOn, HasLocked, InnerStep, RefusesBehind, ResumesCall, ResumesWait, CallStep, behind_lock, behind_place, lock_outcome, on_conflict_of, OutsideStep}
use Rattle.laws_calls.specs.LockedStates.{IsSessionsState}
use Rattle.laws_calls.specs.Events.{IsStateAfter}
use Rattle.laws_calls.specs.States.{HasSeat, IsOfSession, State, Waiting}
use Rattle.laws_calls.proofs.PrepareSteps.{prepare_locks}
use Rattle.laws_calls.specs.Shapes.{ResolvesTxn, IsNoRefusal, EndsAtOnce}
use Rattle.laws_calls.proofs.ResolveLeaves.{resolve_locks}
use Rattle.laws_calls.proofs.Outside.{outside_or}

-- ---- which requests a call of a transaction leaves

-- those of its place too
pub record PlaceLocks (l : State) (a : SessionTxn) (c : Call) (new : State) : Type 0 where
  pub store : ℕ
  pub bytes : List ℕ
  pub id : Rid
  pub insert : c ≡ call.Insert store bytes
  pub of_store : id.page.store ≡ store
  pub is : new.locks ≡ (behind_place l a id).locks

abbrev LocksBehind : State → SessionTxn → Call → State → Type 0
LocksBehind l a c new = (new.locks ≡ l.locks) ⊎ PlaceLocks l a c new

pub refused_locks : (f : Fault) (s : State) → (after_refusal f s).locks ≡ s.locks
refused_locks fault.Device s = refl
refused_locks (fault.Damaged device place) s = refl
refused_locks _ s = refl

module _ (g : Geometry) (l : State) (a : SessionTxn) where
  answers_lock : (c : Call) (answer : Answer) (new : State) → AnswersBehind g l a c answer new → LocksBehind l a c new
  answers_lock (call.Get id) answer new h = inl (ap (λ (x : State). x.locks) h.1)
  answers_lock (call.GetForUpdate id) answer new h = inl (ap (λ (x : State). x.locks) h.1)
  answers_lock (call.Insert store bytes) answer new h =
      inr (record { store = store; bytes = bytes; id = h.0; insert = refl; of_store = h.1.0.serves.of_store; is = ap (λ (x : State). x.locks) h.3.2 })
  answers_lock (call.Update id bytes) answer new h = inl (ap (λ (x : State). x.locks) h.2.2)
  answers_lock (call.Delete id) answer new h = inl (ap (λ (x : State). x.locks) h.2.2)
  answers_lock (call.Scan store) answer new h = inl (ap (λ (x : State). x.locks) h.1)
  answers_lock (call.Lock at mode) answer new h = inl (ap (λ (x : State). x.locks) h.1)
  answers_lock (call.TryLock at mode) answer new h = inl (ap (λ (x : State). x.locks) h.1)
  answers_lock _ answer new h = absurd h

  refusals_lock : (c : Call) (f : Fault) (new : State) → RefusesBehind g l a c f new → LocksBehind l a c new
  refusals_lock (call.Get id) f new h = inl (ap (λ (x : State). x.locks) h.1 ∙ refused_locks f l)
  refusals_lock (call.GetForUpdate id) f new h = inl (ap (λ (x : State). x.locks) h.1 ∙ refused_locks f l)
  refusals_lock (call.Insert store bytes) f new (inl h) = inl (ap (λ (x : State). x.locks) h.2)
  refusals_lock (call.Insert store bytes) f new (inr (inl h)) =
      inr (record { store = store; bytes = bytes; id = h.1.0; insert = refl; of_store = h.1.1.serves.of_store; is = ap (λ (x : State). x.locks) h.1.3 })
  refusals_lock (call.Insert store bytes) f new (inr (inr (inl h))) =
      inr (record { store = store; bytes = bytes; id = h.1.0; insert = refl; of_store = h.1.1.0.serves.of_store; is = ap (λ (x : State). x.locks) h.1.3 })
  refusals_lock (call.Insert store bytes) f new (inr (inr (inr h))) = inl (ap (λ (x : State). x.locks) h.1 ∙ refused_locks f l)
  refusals_lock (call.Update id bytes) f new h = inl (ap (λ (x : State). x.locks) h.1 ∙ refused_locks f l)
  refusals_lock (call.Delete id) f new h = inl (ap (λ (x : State). x.locks) h.1 ∙ refused_locks f l)
  refusals_lock (call.Scan store) f new h = inl (ap (λ (x : State). x.locks) h.1 ∙ refused_locks f l)
  refusals_lock _ f new h = absurd h

-- none, that of the call, or behind it those of its place too
abbrev pub LocksOf : State → SessionTxn → Call → State → Type 0
LocksOf s a c new = (new.locks ≡ s.locks) ⊎ ((lock : Asked) × (lock_asked_by c ≡ Some lock)
    × ((new.locks ≡ (behind_lock s a c lock).locks) ⊎ (((lock_outcome s a c lock).answer ≡ Ok acquire.Done) × PlaceLocks (behind_lock s a c lock) a c new)))

-- the call has its lock
with_lock : (g : Geometry) (s : State) (a : SessionTxn) (c : Call) (locked new : State) → HasLocked s a c locked → LocksBehind locked a c new → LocksOf s a c new
with_lock g s a c locked new had h =
    inr (had.0, had.1, ⊎_elim (λ same. inl (same ∙ ap (λ (x : State). x.locks) had.3)) (λ placed. inr (had.2, subst (λ (l : State). PlaceLocks l a c new) had.3 placed)) h)

pub goes_on_locks : (g : Geometry) (s : State) (a : SessionTxn) (c : Call) (step : Step) (new : State) → CallGoesOn g s a c step new → LocksOf s a c new
goes_on_locks g s a c (Done answer) new h = with_lock g s a c h.0 new h.1 (answers_lock g h.0 a c answer new h.2)
goes_on_locks g s a c (Waits wait) new h = inr (h.0, h.2, inl (ap (λ (x : State). x.locks) h.5))
goes_on_locks g s a c (Refused f) new (inl h) = ⊎_elim
    (λ same. inl (ap (λ (x : State). x.locks) same))
    (λ locked.
    ⊎_elim
    (λ same. with_lock g s a c locked.0 new locked.1 (inl (ap (λ (x : State). x.locks) same)))
    (λ placed. with_lock g s a c locked.0 new locked.1 (inr (record {
      store = placed.0;
      bytes = placed.1;
      id = placed.2;
      insert = placed.3;
      of_store = placed.4.0.serves.of_store;
      is = ap (λ (x : State). x.locks) placed.5;
    })))
    locked.2)
    h.1
goes_on_locks g s a c (Refused f) new (inr (inl h)) = inr (h.0, h.1, inl (ap (λ (x : State). x.locks) h.3))
goes_on_locks g s a c (Refused f) new (inr (inr h)) = with_lock g s a c h.0 new h.1 (refusals_lock g h.0 a c f new h.2)
goes_on_locks g s a c Nothing new h = absurd h

-- ---- how they change

module _ (g : Geometry) (o : Opening) (found : List LogRecord) (es : List Entry) (session : ℕ) (a : SessionTxn) (of : a.session ≡ session) where
  -- a lock that is asked for
  takes_lock : (s : State) → IsSessionsState o found es s → HasSeat s.sessions a → is_waiting a.txn s.locks.requests ≡ false → (c : OnConflict) (at : Granule) (mode : Mode)
      → TakesLock s.locks.requests a.txn at mode (acquired c s.locks a.txn at mode).requests
  takes_lock s k mem quiet c at mode =
      let left = leaves o found es s k a mem quiet c at mode in
      record { others = left.others; own = left.grows; none_weaker = left.none_weaker }

  module _ (s : State) (k : IsSessionsState o found es s) (mem : HasSeat s.sessions a) (quiet : is_waiting a.txn s.locks.requests ≡ false) where
    first_lock : (c : Call) (lock : Asked) → TakesLock s.locks.requests a.txn lock.granule lock.mode (behind_lock s a c lock).locks.requests
    first_lock c lock = takes_lock s k mem quiet (on_conflict_of c) lock.granule lock.mode

    -- the place's comes behind the call's own, which was had
    place_lock : (c : Call) (lock : Asked) → (lock_outcome s a c lock).answer ≡ Ok acquire.Done → (id : Rid)
        → TakesLock (behind_lock s a c lock).locks.requests a.txn (granule.Record id) EX (behind_place (behind_lock s a c lock) a id).locks.requests
    place_lock c lock done id =
        takes_lock (behind_lock s a c lock) (locked_state o found es s k a mem quiet (on_conflict_of c) lock.granule lock.mode (never_waiting done)) mem
        ((leaves o found es s k a mem quiet (on_conflict_of c) lock.granule lock.mode).quiet (never_waiting done)) Refuse (granule.Record id) EX

    place_change : (c : Call) (lock : Asked) → lock_asked_by c ≡ Some lock → (lock_outcome s a c lock).answer ≡ Ok acquire.Done → (new : State) → PlaceLocks (behind_lock s a c lock) a c new
        → TakesAsAsked s.locks.requests a.txn c new.locks.requests
    place_change c lock asked done new h = (
      lock,
      asked,
      inr (record {
        store = h.store;
        bytes = h.bytes;
        id = h.id;
        insert = h.insert;
        of_store = h.of_store;
        between = (behind_lock s a c lock).locks.requests;
        first = first_lock c lock;
        place = subst (TakesLock (behind_lock s a c lock).locks.requests a.txn (granule.Record h.id) EX) (sym (ap (λ (x : Table). x.requests) h.is)) (place_lock c lock done h.id);
      }),
    )

    locks_change : (c : Call) (new : State) → LocksOf s a c new → (new.locks.requests ≡ s.locks.requests) ⊎ TakesAsAsked s.locks.requests a.txn c new.locks.requests
    locks_change c new (inl same) = inl (ap (λ (x : Table). x.requests) same)
    locks_change c new (inr (lock, asked, rest)) = ⊎_elim
        (λ own. inr (lock, asked, inl (subst (TakesLock s.locks.requests a.txn lock.granule lock.mode) (sym (ap (λ (x : Table). x.requests) own)) (first_lock c lock))))
        (λ placed. inr (place_change c lock asked placed.0 new placed.1))
        rest

    pub on_changes : (c : Call) (step : Step) (new : State) → CallGoesOn g s a c step new → (new.locks.requests ≡ s.locks.requests) ⊎ TakesAsAsked s.locks.requests a.txn c new.locks.requests
    on_changes c step new h = locks_change c new (goes_on_locks g s a c step new h)

-- ---- calls

pub begin_keeps_locks : (s : State) (session : ℕ) (step : Step) (new : State) → BeginStep s session step new → new.locks ≡ s.locks
begin_keeps_locks s session (Done answer) new h = ap (λ (x : State). x.locks) h.4
begin_keeps_locks s session (Waits wait) new h = absurd h
begin_keeps_locks s session (Refused f) new h = ap (λ (x : State). x.locks) h.1
begin_keeps_locks s session Nothing new h = absurd h

-- nothing, or as the session's transaction asks
abbrev pub ChangesAsAsked : State → ℕ → Call → State → Type 0
ChangesAsAsked s session c new =
    (new.locks.requests ≡ s.locks.requests) ⊎ ((a : SessionTxn) × IsOfSession s session a × TakesAsAsked s.locks.requests a.txn c new.locks.requests)

-- .. or with a commit's or an abort's answer all of its transaction go
abbrev pub ChangesByCall : State → ℕ → Call → Step → State → Type 0
ChangesByCall s session c step new =
    ChangesAsAsked s session c new
    ⊎ ((EndsAtOnce s c step × ((a : SessionTxn) × IsOfSession s session a × (new.locks.requests ≡ released a.txn s.locks.requests)))
    ⊎ ((a : SessionTxn) × ResolvesTxn s c a × IsNoRefusal step × (new.locks.requests ≡ released a.txn s.locks.requests)))

no_change : (s : State) (session : ℕ) (c : Call) (new : State) → new.locks ≡ s.locks → ChangesAsAsked s session c new
no_change s session c new same = inl (ap (λ (x : Table). x.requests) same)

module _ (g : Geometry) (o : Opening) (found : List LogRecord) (es : List Entry) (s : State) (k : IsStateAfter o found es s) where
  inner_changes : (session : ℕ) (a : SessionTxn) → IsOfSession s session a → is_waiting a.txn s.locks.requests ≡ false → (c : Call) (step : Step) (new : State) → InnerStep g s a c step new
      → ChangesByCall s session c step new
  inner_changes session a mem quiet c step new (inl h) = inl (no_change s session c new (ap (λ (x : State). x.locks) h.3))
  inner_changes session a mem quiet c step new (inr (inl (whole, inl h))) = inl (no_change s session c new (ap (λ (x : State). x.locks) h.3))
  inner_changes session a mem quiet c step new (inr (inl (whole, inr (inl h)))) =
      inl (⊎_elim (λ same. inl same) (λ taken. inr (a, mem, taken)) (on_changes g o found es session a mem.1 s k.sessions mem.0 quiet c step new h.1))
  inner_changes session a mem quiet c step new (inr (inl (whole, inr (inr (inl h))))) = commit_changes step h.1
    where
      commit_changes : (step : Step) → CommitStep s a step new → ChangesByCall s session c step new
      commit_changes (Done answer) x = inr (inl (inr (h.0, ap Done x.0), (a, mem, ap (λ (y : State). y.locks.requests) x.1)))
      commit_changes (Refused f) x = absurd x
      commit_changes (Waits wait) x = absurd x
      commit_changes Nothing x = absurd x
  inner_changes session a mem quiet c step new (inr (inl (whole, inr (inr (inr (inl h)))))) = inl (no_change s session c new (savepoint_table s a step new h.1).locks)
  inner_changes session a mem quiet c step new (inr (inl (whole, inr (inr (inr (inr h)))))) = inl (no_change s session c new (prepare_locks g.version s a h.0 step new h.2))
  inner_changes session a mem quiet c step new (inr (inr (inl h))) = inl (no_change s session c new (back_table s a h.0 step new h.3).locks)
  inner_changes session a mem quiet c step new (inr (inr (inr h))) = abort_changes step h.1
    where
      abort_changes : (step : Step) → AbortStep s a step new → ChangesByCall s session c step new
      abort_changes (Done answer) x = inr (inl (inl (h.0, ap Done x.0), (a, mem, ap (λ (y : State). y.locks.requests) x.1)))
      abort_changes (Refused f) x = inl (no_change s session c new (interrupted_table s a Whole f new x).locks)
      abort_changes (Waits wait) x = absurd x
      abort_changes Nothing x = absurd x

  outside_changes : (session : ℕ) (c : Call) (step : Step) (new : State) → OutsideStep s session c step new → ChangesByCall s session c step new
  outside_changes session c step new h = ⊎_elim
      (λ same. inl (no_change s session c new (ap (λ (x : State). x.locks) same)))
      (λ r. ⊎_elim
      (λ same. inl (no_change s session c new same))
      (λ gone. inr (inr (gone.txn, (r.global, r.asked, r.is, gone.its), gone.ends, gone.requests)))
      (resolve_locks s session r.global r.asked step new r.to))
      (outside_or s session c step new h)

  pub call_changes : (session : ℕ) (c : Call) (step : Step) (new : State) → CallStep g s session c step new → ChangesByCall s session c step new
  call_changes session c step new (inl h) = inl (no_change s session c new (ap (λ (x : State). x.locks) h.1))
  call_changes session c step new (inr (inl h)) = inl (no_change s session c new (ap (λ (x : State). x.locks) h.2))
  call_changes session c step new (inr (inr (inl h))) = inl (no_change s session c new (ap (λ (x : State). x.locks) h.3))
  call_changes session c step new (inr (inr (inr (inl h)))) = inl (no_change s session c new (begin_keeps_locks s session step new h.3))
  call_changes session c step new (inr (inr (inr (inr (inl h))))) = inl (no_change s session c new (ap (λ (x : State). x.locks) h.5))
  call_changes session c step new (inr (inr (inr (inr (inr (inr (inl h))))))) = inl (no_change s session c new (ap (λ (x : State). x.locks) h.5))
  call_changes session c step new (inr (inr (inr (inr (inr (inr (inr h))))))) = outside_changes session c step new h.2
  call_changes session c step new (inr (inr (inr (inr (inr (inl h)))))) =
      let mem = h.2.1 in
      inner_changes session h.2.0 mem (k.sessions.locks.waits h.0 h.2.0 mem.0.0 (λ w m spared same. h.1 w m (same ∙ mem.1))) c step new h.2.2

  -- a commit that is refused takes and gives no lock
  pub commit_keeps : (session : ℕ) (f : Fault) (new : State) → CallStep g s session call.Commit (Refused f) new → new.locks.requests ≡ s.locks.requests
  commit_keeps session f new h =
      ⊎_elim (⊎_elim (λ same. same) (λ taken. let clash = taken.2.1 in absurd cc))
      (⊎_elim (λ ends. ⊎_elim (λ abort. let clash = abort.0 in absurd cc) (λ commit. let clash = commit.1 in absurd cc) ends.0) (λ resolve. let clash = resolve.1.2 in absurd cc))
      (call_changes session call.Commit (Refused f) new h)

  -- once it is answered, its transaction has no lock
  pub commit_gone : (session : ℕ) (answer : Answer) (new : State) → CallStep g s session call.Commit (Done answer) new
      → (new.locks.requests ≡ released (txn_of s.sessions session) s.locks.requests) × All (λ h. h.txn ≢ txn_of s.sessions session) new.sessions.held
  commit_gone session answer new h =
      let t = committed_in g s new session answer h in
      let its = sym (its_txn s.sessions t.0 session t.1.0.1 t.1.1) in
      subst (λ n. (new.locks.requests ≡ released n s.locks.requests) × All (λ h. h.txn ≢ n) new.sessions.held) its
      (subst (λ (x : State). (x.locks.requests ≡ released t.0.txn s.locks.requests) × All (λ h. h.txn ≢ t.0.txn) x.sessions.held) (sym t.3.1)
      (refl, gone_of s.locks.requests t.0.txn k.sessions.locks.orderly))

  -- once an abort is answered, its transaction has no lock
  pub abort_gone : (session : ℕ) (answer : Answer) (new : State) → CallStep g s session call.Abort (Done answer) new
      → (new.locks.requests ≡ released (txn_of s.sessions session) s.locks.requests) × All (λ h. h.txn ≢ txn_of s.sessions session) new.sessions.held
  abort_gone session answer new h =
      let t = aborted_in g s new session answer h in
      let its = sym (its_txn s.sessions t.0 session t.1.0.1 t.1.1) in
      subst (λ n. (new.locks.requests ≡ released n s.locks.requests) × All (λ h. h.txn ≢ n) new.sessions.held) its
      (subst (λ (x : State). (x.locks.requests ≡ released t.0.txn s.locks.requests) × All (λ h. h.txn ≢ t.0.txn) x.sessions.held) (sym t.2.1)
      (refl, gone_of s.locks.requests t.0.txn k.sessions.locks.orderly))

  -- ---- going on

  wait_changes : (w : Waiting) (wait : Wait) (step : Step) (new : State) → ResumesWait g s w wait step new → ChangesAsAsked s w.session w.call new
  wait_changes w (Durable n) step new (inl h) = no_change s w.session w.call new (ap (λ (x : State). x.locks) h.2)
  wait_changes w (Durable n) step new (inr (inl h)) = no_change s w.session w.call new (ap (λ (x : State). x.locks) h.2.4)
  wait_changes w (Durable n) step new (inr (inr h)) = no_change s w.session w.call new (ap (λ (x : State). x.locks) h.2.3)
  wait_changes w (Lock at) step new h = ⊎_elim
      (λ still. no_change s w.session w.call new (ap (λ (x : State). x.locks) still.2))
      (λ free.
      ⊎_elim (λ same. inl same) (λ taken. inr (h.0, h.1, taken))
      (on_changes g o found es w.session h.0 h.1.1 (wait_refused s w.session) (woken g o found es s k.sessions h.0 w.session h.1 free.0) h.1.0 free.0 w.call step new free.1))
      h.2

  pub resume_changes : (w : Waiting) (step : Step) (new : State) → ResumesCall g s w step new → ChangesAsAsked s w.session w.call new
  resume_changes w step new (inl h) = no_change s w.session w.call new (ap (λ (x : State). x.locks) h.2)
  resume_changes w step new (inr h) = wait_changes w w.wait step new h.1

-- the answer of a prepare leaves all locks
prepare_told_in : (g : Geometry) (s : State) (w : Waiting) (wait : Wait) (n : ℕ) (new : State) → wait ≡ Durable n → ResumesWait g s w wait (Done Prepared) new
    → (new.locks.requests ≡ s.locks.requests) × (new.sessions.held ≡ s.sessions.held)
prepare_told_in g s w (Durable m) n new is (inl h) = let clash = h.1 in absurd cc
prepare_told_in g s w (Durable m) n new is (inr (inl h)) = (ap (λ (x : State). x.locks.requests) h.2.4, ap (λ (x : State). x.sessions.held) h.2.4)
prepare_told_in g s w (Durable m) n new is (inr (inr h)) = (ap (λ (x : State). x.locks.requests) h.2.3, ap (λ (x : State). x.sessions.held) h.2.3)
prepare_told_in g s w (Lock at) n new is h = absurd cc

pub prepare_leaves_locks : (g : Geometry) (s : State) (w : Waiting) (n : ℕ) (new : State) → w.wait ≡ Durable n → ResumesCall g s w (Done Prepared) new
    → (new.locks.requests ≡ s.locks.requests) × (new.sessions.held ≡ s.sessions.held)
prepare_leaves_locks g s w n new is h = ⊎_elim (λ failed. let clash = failed.1 in absurd cc) (λ on. prepare_told_in g s w w.wait n new is on.1) h

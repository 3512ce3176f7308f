-- A lock table in bounds stays so with each event of a manager whose calls ask for granules that are there.
use Rattle.std.proofs.Common.{◌≡◌, inl, inr, ⊎_elim, ◌≤◌, ℕ, List, [], ◌∷◌, Some, refl, sym, ap, subst, ◌∙◌, length, reverse}
use Rattle.std.specs.Prelude.{All, Option}
use Rattle.std.specs.List.{AllByRecursion}
use Rattle.shore_types.specs.Layout.{HasGranule}
use Rattle.shore_types.specs.declared.faults.Fault.{Fault}
use Rattle.shore_types.specs.declared.ids.Rid.{Rid}
use Rattle.shore_types.specs.declared.layout.Geometry.{Geometry}
use Rattle.shore_types.specs.declared.locking.Granule.{Granule}
use Rattle.shore_types.specs.declared.locking.Granule.TheVariants as granule
use Rattle.shore_types.specs.declared.locking.Mode.{Mode}
use Rattle.shore_types.specs.declared.locking.Mode.TheVariants.{EX}
use Rattle.shore_model.specs.Locks.{path}
use Rattle.shore_model.specs.declared.calls.Answer.{Answer}
use Rattle.shore_model.specs.declared.calls.Call.{Call}
use Rattle.shore_model.specs.declared.calls.Call.TheVariants as call
use Rattle.shore_model.specs.declared.calls.Outcome.{Outcome}
use Rattle.shore_model.specs.declared.calls.Outcome.TheVariants as outcome
use Rattle.shore_model.specs.declared.requests.Request.{Request}
use Rattle.shore_model.specs.declared.rollbacks.Rollback.TheVariants.{Whole}
use Rattle.shore_model.specs.declared.step.Step.{Step}
use Rattle.shore_model.specs.declared.step.Step.TheVariants.{Done, Nothing, Refused, Waits}
use Rattle.shore_model.specs.declared.step.Wait.{Wait}
use Rattle.shore_model.specs.declared.step.Wait.TheVariants.{Durable, Lock}
use Rattle.shore_cycles.specs.declared.victims.Victim.{Victim}
use Rattle.shore_locks.proofs.Members.{All-In, In-All}
use Rattle.shore_locks.specs.Grants.{cancelled, released}
use Rattle.shore_locks.specs.Tables.{Table}
use Rattle.shore_path.specs.Walks.{acquired}
use Rattle.shore_path.specs.declared.answers.OnConflict.{OnConflict}
use Rattle.shore_path.specs.declared.answers.OnConflict.TheVariants.{Refuse}
use Rattle.laws_locks.specs.CallLocks.{Asked, lock_asked_by}
use Rattle.laws_lives.specs.Sessions.{SessionTxn}
use Rattle.laws_calls.proofs.AskedLocks.{begin_keeps_locks, refused_locks}
use Rattle.laws_calls.proofs.LockWaits.{asked_for, called, may, resumes, same_call, victims}
use Rattle.laws_calls.proofs.Outside.{outside_or}
use Rattle.laws_calls.proofs.PrepareSteps.{prepare_locks}
use Rattle.laws_calls.proofs.ResolveLeaves.{decided_table, resolve_locks}
use Rattle.laws_calls.proofs.RollingLeaves.{back_table, interrupted_table, savepoint_table}
use Rattle.laws_calls.proofs.Rows.{page_has_store}
use Rattle.laws_calls.specs.CallSteps.{AbortStep, AnswersBehind, CallGoesOn, CallStep, HasLocked, InnerStep, MayAsk, OutsideStep, RefusesBehind, ResumeStep, ResumesWait, ServesTxn, behind_lock, behind_place, on_conflict_of, CommitStep}
use Rattle.laws_calls.specs.Resolves.{ResolvesTo}
use Rattle.laws_calls.specs.Events.{Called, EventMoves, Forced, GaveUp, HasFailed, ManagerEvent, Resumed, TicketAsked}
use Rattle.laws_calls.specs.Settling.{SettledResume, Settles}
use Rattle.laws_calls.specs.Shapes.{LockWaitsMayAsk}
use Rattle.laws_calls.specs.StateChanges.{wait_refused}
use Rattle.laws_calls.specs.States.{State, Waiting}
use Rattle.laws_calls.specs.Victims.{TakesVictim, TakesVictims}
use Rattle.laws_runs.proofs.TableBounds.{InBounds, acquired_bounds, cancelled_bounds, released_bounds}
use Rattle.laws_runs.specs.RoomyStates.{HasLocksInBounds}

module _ (g : Geometry) where
  -- what is above a granule that is there is there too
  pub way_there : (at : Granule) → HasGranule g at → AllByRecursion (HasGranule g) (reverse (path at))
  way_there granule.Volume there = (tt, tt)
  way_there (granule.Store store) there = (tt, (there, tt))
  way_there (granule.Page page) there = (tt, (page_has_store g page there, (there, tt)))
  way_there (granule.Record id) there = (tt, (page_has_store g id.page there.0, (there.0, (there, tt))))

  -- ---- tables

  requests_of : (s : State) → HasLocksInBounds g s → InBounds (HasGranule g) s.locks.limit s.locks.requests
  requests_of s k = record { within = k.within; inside = λ r there. In-All (λ (r : Request). HasGranule g r.granule) s.locks.requests r k.inside there }

  -- with these requests
  with_bounds : (s new : State) (rs : List Request) → new.locks ≡ record { limit = s.locks.limit; requests = rs } → HasLocksInBounds g s → InBounds (HasGranule g) s.locks.limit rs
      → HasLocksInBounds g new
  with_bounds s new rs is k bounds = record {
    limit = subst (λ (x : Table). x.limit ≤ g.max_locks) (sym is) k.limit;
    within = subst (λ (x : Table). length x.requests ≤ x.limit) (sym is) bounds.within;
    inside = subst (λ (x : Table). All (λ (r : Request). HasGranule g r.granule) x.requests) (sym is) (All-In (λ (r : Request). HasGranule g r.granule) rs bounds.inside);
  }

  -- the same table
  pub same_bounds : (s new : State) → new.locks ≡ s.locks → HasLocksInBounds g s → HasLocksInBounds g new
  same_bounds s new same k = with_bounds s new s.locks.requests same k (requests_of s k)

  -- a transaction asks for a granule that is there
  pub asked_bounds : (s new : State) (c : OnConflict) (t : ℕ) (at : Granule) (mode : Mode) → new.locks ≡ record { limit = s.locks.limit; requests = (acquired c s.locks t at mode).requests }
      → HasGranule g at → HasLocksInBounds g s → HasLocksInBounds g new
  asked_bounds s new c t at mode is there k =
      with_bounds s new (acquired c s.locks t at mode).requests is k
      (acquired_bounds (HasGranule g) s.locks.limit c t at mode s.locks.requests (way_there at there) (requests_of s k))

  -- its requests go, or that with which it waits
  pub freed_bounds : (s new : State) (t : ℕ) → new.locks ≡ record { limit = s.locks.limit; requests = released t s.locks.requests } → HasLocksInBounds g s → HasLocksInBounds g new
  freed_bounds s new t is k = with_bounds s new (released t s.locks.requests) is k (released_bounds (HasGranule g) s.locks.limit t s.locks.requests (requests_of s k))

  pub withdrawn_bounds : (s new : State) (t : ℕ) → new.locks ≡ record { limit = s.locks.limit; requests = cancelled t s.locks.requests } → HasLocksInBounds g s → HasLocksInBounds g new
  withdrawn_bounds s new t is k = with_bounds s new (cancelled t s.locks.requests) is k (cancelled_bounds (HasGranule g) s.locks.limit t s.locks.requests (requests_of s k))

  -- ---- a call of a transaction

  same_asked : (x y : Asked) → ◌≡◌ {A = Option Asked} (Some x) (Some y) → x.granule ≡ y.granule
  same_asked x y e = cc

  -- what a call asks for is there
  pub asks_there : (c : Call) (lock : Asked) → MayAsk g c → lock_asked_by c ≡ Some lock → HasGranule g lock.granule
  asks_there (call.Get id) lock may asked = subst (HasGranule g) (same_asked _ lock asked) may
  asks_there (call.GetForUpdate id) lock may asked = subst (HasGranule g) (same_asked _ lock asked) may
  asks_there (call.Insert store bytes) lock may asked = subst (HasGranule g) (same_asked _ lock asked) may.1
  asks_there (call.Update id bytes) lock may asked = subst (HasGranule g) (same_asked _ lock asked) may.1
  asks_there (call.Delete id) lock may asked = subst (HasGranule g) (same_asked _ lock asked) may
  asks_there (call.Scan store) lock may asked = subst (HasGranule g) (same_asked _ lock asked) may
  asks_there (call.Lock at mode) lock may asked = subst (HasGranule g) (same_asked _ lock asked) may.1
  asks_there (call.TryLock at mode) lock may asked = subst (HasGranule g) (same_asked _ lock asked) may.1
  asks_there _ lock may asked = absurd may

  module _ (s : State) (a : SessionTxn) (k : HasLocksInBounds g s) where
    behind_lock_bounds : (c : Call) (lock : Asked) → MayAsk g c → lock_asked_by c ≡ Some lock → HasLocksInBounds g (behind_lock s a c lock)
    behind_lock_bounds c lock may asked = asked_bounds s (behind_lock s a c lock) (on_conflict_of c) a.txn lock.granule lock.mode refl (asks_there c lock may asked) k

    behind_place_bounds : (store : ℕ) (bytes : List ℕ) (id : Rid) → ServesTxn g s a.txn store bytes id → HasLocksInBounds g (behind_place s a id)
    behind_place_bounds store bytes id serves = asked_bounds s (behind_place s a id) Refuse a.txn (granule.Record id) EX refl (serves.inside, serves.fits.there) k

    -- behind its locks
    answers_bounds : (c : Call) (answer : Answer) (new : State) → AnswersBehind g s a c answer new → HasLocksInBounds g new
    answers_bounds (call.Get id) answer new h = same_bounds s new (ap (λ (x : State). x.locks) h.1) k
    answers_bounds (call.GetForUpdate id) answer new h = same_bounds s new (ap (λ (x : State). x.locks) h.1) k
    answers_bounds (call.Insert store bytes) answer new h = same_bounds (behind_place s a h.0) new (ap (λ (x : State). x.locks) h.3.2) (behind_place_bounds store bytes h.0 h.1.0.serves)
    answers_bounds (call.Update id bytes) answer new h = same_bounds s new (ap (λ (x : State). x.locks) h.2.2) k
    answers_bounds (call.Delete id) answer new h = same_bounds s new (ap (λ (x : State). x.locks) h.2.2) k
    answers_bounds (call.Scan store) answer new h = same_bounds s new (ap (λ (x : State). x.locks) h.1) k
    answers_bounds (call.Lock at mode) answer new h = same_bounds s new (ap (λ (x : State). x.locks) h.1) k
    answers_bounds (call.TryLock at mode) answer new h = same_bounds s new (ap (λ (x : State). x.locks) h.1) k
    answers_bounds _ answer new h = absurd h

    refused_bounds : (c : Call) (f : Fault) (new : State) → RefusesBehind g s a c f new → HasLocksInBounds g new
    refused_bounds (call.Get id) f new h = same_bounds s new (ap (λ (x : State). x.locks) h.1 ∙ refused_locks f s) k
    refused_bounds (call.GetForUpdate id) f new h = same_bounds s new (ap (λ (x : State). x.locks) h.1 ∙ refused_locks f s) k
    refused_bounds (call.Insert store bytes) f new (inl h) = same_bounds s new (ap (λ (x : State). x.locks) h.2) k
    refused_bounds (call.Insert store bytes) f new (inr (inl h)) = same_bounds (behind_place s a h.1.0) new (ap (λ (x : State). x.locks) h.1.3) (behind_place_bounds store bytes h.1.0 h.1.1.serves)
    refused_bounds (call.Insert store bytes) f new (inr (inr (inl h))) =
        same_bounds (behind_place s a h.1.0) new (ap (λ (x : State). x.locks) h.1.3) (behind_place_bounds store bytes h.1.0 h.1.1.0.serves)
    refused_bounds (call.Insert store bytes) f new (inr (inr (inr h))) = same_bounds s new (ap (λ (x : State). x.locks) h.1 ∙ refused_locks f s) k
    refused_bounds (call.Update id bytes) f new h = same_bounds s new (ap (λ (x : State). x.locks) h.1 ∙ refused_locks f s) k
    refused_bounds (call.Delete id) f new h = same_bounds s new (ap (λ (x : State). x.locks) h.1 ∙ refused_locks f s) k
    refused_bounds (call.Scan store) f new h = same_bounds s new (ap (λ (x : State). x.locks) h.1 ∙ refused_locks f s) k
    refused_bounds _ f new h = absurd h

  -- what is left once it has its lock
  locked_bounds : (s : State) (a : SessionTxn) (c : Call) (locked : State) → MayAsk g c → HasLocked s a c locked → HasLocksInBounds g s → HasLocksInBounds g locked
  locked_bounds s a c locked may had k = same_bounds (behind_lock s a c had.0) locked (ap (λ (x : State). x.locks) had.3) (behind_lock_bounds s a k c had.0 may had.1)

  pub goes_on_bounds : (s : State) (a : SessionTxn) (c : Call) (step : Step) (new : State) → MayAsk g c → CallGoesOn g s a c step new → HasLocksInBounds g s → HasLocksInBounds g new
  goes_on_bounds s a c (Done answer) new may h k = answers_bounds h.0 a (locked_bounds s a c h.0 may h.1 k) c answer new h.2
  goes_on_bounds s a c (Waits wait) new may h k = same_bounds (behind_lock s a c h.0) new (ap (λ (x : State). x.locks) h.5) (behind_lock_bounds s a k c h.0 may h.2)
  goes_on_bounds s a c (Refused f) new may (inl h) k = ⊎_elim
      (λ same. same_bounds s new (ap (λ (x : State). x.locks) same) k)
      (λ locked.
      let had = locked_bounds s a c locked.0 may locked.1 k in
      ⊎_elim
      (λ same. same_bounds locked.0 new (ap (λ (x : State). x.locks) same) had)
      (λ placed.
      same_bounds (behind_place locked.0 a placed.2) new (ap (λ (x : State). x.locks) placed.5)
      (behind_place_bounds locked.0 a had placed.0 placed.1 placed.2 placed.4.0.serves))
      locked.2)
      h.1
  goes_on_bounds s a c (Refused f) new may (inr (inl h)) k = same_bounds (behind_lock s a c h.0) new (ap (λ (x : State). x.locks) h.3) (behind_lock_bounds s a k c h.0 may h.1)
  goes_on_bounds s a c (Refused f) new may (inr (inr h)) k = refused_bounds h.0 a (locked_bounds s a c h.0 may h.1 k) c f new h.2
  goes_on_bounds s a c Nothing new may h k = absurd h

  -- ---- calls

  abort_bounds : (s : State) (a : SessionTxn) (step : Step) (new : State) → AbortStep s a step new → HasLocksInBounds g s → HasLocksInBounds g new
  abort_bounds s a (Done answer) new h k = freed_bounds s new a.txn (ap (λ (x : State). x.locks) h.1) k
  abort_bounds s a (Refused f) new h k = same_bounds s new (interrupted_table s a Whole f new h).locks k
  abort_bounds s a (Waits wait) new h k = absurd h
  abort_bounds s a Nothing new h k = absurd h

  commit_bounds : (s : State) (a : SessionTxn) (step : Step) (new : State) → CommitStep s a step new → HasLocksInBounds g s → HasLocksInBounds g new
  commit_bounds s a (Done answer) new h k = freed_bounds s new a.txn (ap (λ (x : State). x.locks) h.1) k
  commit_bounds s a (Refused f) new h k = absurd h
  commit_bounds s a (Waits wait) new h k = absurd h
  commit_bounds s a Nothing new h k = absurd h

  inner_bounds : (s : State) (a : SessionTxn) (c : Call) (step : Step) (new : State) → InnerStep g s a c step new → HasLocksInBounds g s → HasLocksInBounds g new
  inner_bounds s a c step new (inl h) k = same_bounds s new (ap (λ (x : State). x.locks) h.3) k
  inner_bounds s a c step new (inr (inl (whole, inl h))) k = same_bounds s new (ap (λ (x : State). x.locks) h.3) k
  inner_bounds s a c step new (inr (inl (whole, inr (inl h)))) k = goes_on_bounds s a c step new h.0 h.1 k
  inner_bounds s a c step new (inr (inl (whole, inr (inr (inl h))))) k = commit_bounds s a step new h.1 k
  inner_bounds s a c step new (inr (inl (whole, inr (inr (inr (inl h)))))) k = same_bounds s new (savepoint_table s a step new h.1).locks k
  inner_bounds s a c step new (inr (inl (whole, inr (inr (inr (inr h)))))) k = same_bounds s new (prepare_locks g.version s a h.0 step new h.2) k
  inner_bounds s a c step new (inr (inr (inl h))) k = same_bounds s new (back_table s a h.0 step new h.3).locks k
  inner_bounds s a c step new (inr (inr (inr h))) k = abort_bounds s a step new h.1 k

  resolve_limit : (s : State) (session : ℕ) (global : List ℕ) (asked : Outcome) (step : Step) (new : State) → ResolvesTo s session global asked step new → new.locks.limit ≡ s.locks.limit
  resolve_limit s session global outcome.Commit (Waits wait) new h = ap (λ (x : State). x.locks.limit) h.3
  resolve_limit s session global outcome.Commit (Done answer) new h = absurd h
  resolve_limit s session global outcome.Commit (Refused f) new h = absurd h
  resolve_limit s session global outcome.Commit Nothing new h = absurd h
  resolve_limit s session global outcome.Abort (Waits wait) new h = ap (λ (x : State). x.locks.limit) h.3.2 ∙ ap (λ (x : Table). x.limit) (decided_table s global h.0 h.1 h.2).locks
  resolve_limit s session global outcome.Abort (Done answer) new h = ap (λ (x : State). x.locks.limit) h.3.2 ∙ ap (λ (x : Table). x.limit) (decided_table s global h.0 h.1 h.2).locks
  resolve_limit s session global outcome.Abort (Refused f) new h =
      ap (λ (x : Table). x.limit) (interrupted_table h.1 h.0 Whole f new h.3).locks ∙ ap (λ (x : Table). x.limit) (decided_table s global h.0 h.1 h.2).locks
  resolve_limit s session global outcome.Abort Nothing new h = absurd h.3

  table_of : (x : Table) (limit : ℕ) (rs : List Request) → x.limit ≡ limit → x.requests ≡ rs → x ≡ record { limit = limit; requests = rs }
  table_of x limit rs same is = ap (λ n. record { limit = n; requests = x.requests }) same ∙ ap (λ (xs : List Request). record { limit = limit; requests = xs }) is

  outside_bounds : (s : State) (session : ℕ) (c : Call) (step : Step) (new : State) → OutsideStep s session c step new → HasLocksInBounds g s → HasLocksInBounds g new
  outside_bounds s session c step new h k = ⊎_elim
      (λ same. same_bounds s new (ap (λ (x : State). x.locks) same) k)
      (λ r. ⊎_elim
      (λ same. same_bounds s new same k)
      (λ gone.
      freed_bounds s new gone.txn.txn
      (table_of new.locks s.locks.limit (released gone.txn.txn s.locks.requests) (resolve_limit s session r.global r.asked step new r.to) gone.requests) k)
      (resolve_locks s session r.global r.asked step new r.to))
      (outside_or s session c step new h)

  pub call_bounds : (s : State) (session : ℕ) (c : Call) (step : Step) (new : State) → CallStep g s session c step new → HasLocksInBounds g s → HasLocksInBounds g new
  call_bounds s session c step new (inl h) k = same_bounds s new (ap (λ (x : State). x.locks) h.1) k
  call_bounds s session c step new (inr (inl h)) k = same_bounds s new (ap (λ (x : State). x.locks) h.2) k
  call_bounds s session c step new (inr (inr (inl h))) k = same_bounds s new (ap (λ (x : State). x.locks) h.3) k
  call_bounds s session c step new (inr (inr (inr (inl h)))) k = same_bounds s new (begin_keeps_locks s session step new h.3) k
  call_bounds s session c step new (inr (inr (inr (inr (inl h))))) k = same_bounds s new (ap (λ (x : State). x.locks) h.5) k
  call_bounds s session c step new (inr (inr (inr (inr (inr (inl h)))))) k = inner_bounds s h.2.0 c step new h.2.2 k
  call_bounds s session c step new (inr (inr (inr (inr (inr (inr (inl h))))))) k = same_bounds s new (ap (λ (x : State). x.locks) h.5) k
  call_bounds s session c step new (inr (inr (inr (inr (inr (inr (inr h))))))) k = outside_bounds s session c step new h.2 k

  -- ---- calls that go on, and victims

  waited_bounds : (s : State) (w : Waiting) (wait : Wait) (step : Step) (new : State) → ((at : Granule) → wait ≡ Lock at → MayAsk g w.call) → ResumesWait g s w wait step new
      → HasLocksInBounds g s → HasLocksInBounds g new
  waited_bounds s w (Durable n) step new may (inl h) k = same_bounds s new (ap (λ (x : State). x.locks) h.2) k
  waited_bounds s w (Durable n) step new may (inr (inl h)) k = same_bounds s new (ap (λ (x : State). x.locks) h.2.4) k
  waited_bounds s w (Durable n) step new may (inr (inr h)) k = same_bounds s new (ap (λ (x : State). x.locks) h.2.3) k
  waited_bounds s w (Lock at) step new may h k = ⊎_elim
      (λ still. same_bounds s new (ap (λ (x : State). x.locks) still.2) k)
      (λ free. goes_on_bounds (wait_refused s w.session) h.0 w.call step new (may at refl) free.1 (same_bounds s (wait_refused s w.session) refl k))
      h.2

  pub resume_bounds : (s : State) (session : ℕ) (step : Step) (new : State) → LockWaitsMayAsk g s → ResumeStep g s session step new → HasLocksInBounds g s → HasLocksInBounds g new
  resume_bounds s session step new asks (inl h) k = same_bounds s new (ap (λ (x : State). x.locks) h.2) k
  resume_bounds s session step new asks (inr h) k = ⊎_elim
      (λ failed. same_bounds s new (ap (λ (x : State). x.locks) failed.2) k)
      (λ on. waited_bounds s h.0 h.0.wait step new (asks h.0 h.1) on.1 k)
      h.3

  victim_bounds : (s : State) (t : ℕ) (v : Victim) (new : State) → TakesVictim s t v new → HasLocksInBounds g s → HasLocksInBounds g new
  victim_bounds s t v new h k = withdrawn_bounds s new h.txn.txn (ap (λ (x : State). x.locks) h.is) k

  pub victims_bounds : (s : State) (t : ℕ) (vs : List Victim) (new : State) → TakesVictims s t vs new → HasLocksInBounds g s → HasLocksInBounds g new
  victims_bounds s t [] new h k = subst (HasLocksInBounds g) (sym h) k
  victims_bounds s t (v ∷ vs) new h k = victims_bounds h.0 t vs new h.2 (victim_bounds s t v h.0 h.1 k)

  -- ---- calls and resumes as a whole, and events

  settles_bounds : (s : State) (session : ℕ) (first : Step) (rounds : List (List Victim)) (step : Step) (new : State) → LockWaitsMayAsk g s → Settles g s session first rounds step new
      → HasLocksInBounds g s → HasLocksInBounds g new
  settles_bounds s session first [] step new asks h k = subst (HasLocksInBounds g) (sym h.2) k
  settles_bounds s session first (vs ∷ rounds) step new asks h k =
      let broken = victims_bounds s h.0.txn vs h.2 h.5 k in
      let on = victims g (asked_for g) (same_call g) s h.2 h.0.txn vs h.5 asks in
      ⊎_elim
      (λ ends. ⊎_elim
      (λ still. same_bounds h.2 new (ap (λ (x : State). x.locks) still.3) broken)
      (λ end. ⊎_elim
      (λ told. same_bounds h.2 new (ap (λ (x : State). x.locks) told.is) broken)
      (λ back. withdrawn_bounds h.2 new h.0.txn (ap (λ (x : State). x.locks) back.1.1) broken)
      end)
      ends.1)
      (λ goes.
      settles_bounds goes.1 session goes.0 rounds step new (resumes g (asked_for g) (same_call g) h.2 goes.1 session goes.0 goes.3 on) goes.4
      (resume_bounds h.2 session goes.0 goes.1 on goes.3 broken))
      h.6

  resumed_bounds : (s : State) (session : ℕ) (step : Step) (new : State) → LockWaitsMayAsk g s → SettledResume g s session step new → HasLocksInBounds g s → HasLocksInBounds g new
  resumed_bounds s session step new asks (inl told) k = same_bounds s new (ap (λ (x : State). x.locks) told.is) k
  resumed_bounds s session step new asks (inr (inl still)) k = resume_bounds s session step new asks still.0 k
  resumed_bounds s session step new asks (inr (inr on)) k =
      settles_bounds on.mid session on.first on.rounds step new (resumes g (asked_for g) (same_call g) s on.mid session on.first on.resumes asks) on.settles
      (resume_bounds s session on.first on.mid asks on.resumes k)

  pub event_keeps_locks : (s new : State) (e : ManagerEvent) → LockWaitsMayAsk g s → EventMoves g s e new → HasLocksInBounds g s → HasLocksInBounds g new
  event_keeps_locks s new (Called session c step) asks h k =
      settles_bounds h.1.mid session h.1.first h.1.rounds step new (called g (asked_for g) (same_call g) s h.1.mid session c (may g session c) h.1.first h.1.calls asks) h.1.settles
      (call_bounds s session c h.1.first h.1.mid h.1.calls k)
  event_keeps_locks s new (Resumed session step) asks h k = resumed_bounds s session step new asks h k
  event_keeps_locks s new (GaveUp session step) asks (inl h) k = withdrawn_bounds s new h.txn.txn (ap (λ (x : State). x.locks) h.is) k
  event_keeps_locks s new (GaveUp session step) asks (inr h) k = same_bounds s new (ap (λ (x : State). x.locks) h.is) k
  event_keeps_locks s new (Forced n) asks h k = same_bounds s new (ap (λ (x : State). x.locks) h.2) k
  event_keeps_locks s new HasFailed asks h k = same_bounds s new (ap (λ (x : State). x.locks) h) k
  event_keeps_locks s new (TicketAsked ticket answer) asks h k = same_bounds s new (ap (λ (x : State). x.locks) h.1) k

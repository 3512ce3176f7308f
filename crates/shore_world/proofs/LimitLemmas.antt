-- No event changes the limit of the lock table: it stays the label's.
use Rattle.std.proofs.Common.{◌≡◌, inl, inr, ⊎_elim, ℕ, List, [], ◌∷◌, refl, ap, ◌∙◌}
use Rattle.shore_types.specs.declared.faults.Fault.{Fault}
use Rattle.shore_types.specs.declared.layout.Geometry.{Geometry}
use Rattle.shore_model.specs.declared.calls.Answer.{Answer}
use Rattle.shore_model.specs.declared.calls.Call.{Call}
use Rattle.shore_model.specs.declared.calls.Call.TheVariants as call
use Rattle.shore_model.specs.declared.calls.Outcome.{Outcome}
use Rattle.shore_model.specs.declared.calls.Outcome.TheVariants as outcome
use Rattle.shore_model.specs.declared.histories.Entry.{Entry}
use Rattle.shore_model.specs.declared.rollbacks.Rollback.TheVariants.{Whole}
use Rattle.shore_model.specs.declared.step.Step.{Step}
use Rattle.shore_model.specs.declared.step.Step.TheVariants.{Done, Nothing, Refused, Waits}
use Rattle.shore_model.specs.declared.step.Wait.{Wait}
use Rattle.shore_model.specs.declared.step.Wait.TheVariants.{Durable, Lock}
use Rattle.shore_cycles.specs.declared.victims.Victim.{Victim}
use Rattle.shore_locks.specs.Tables.{Table}
use Rattle.laws_lives.specs.Sessions.{SessionTxn}
use Rattle.laws_calls.proofs.AskedLocks.{begin_keeps_locks, refused_locks}
use Rattle.laws_calls.proofs.Outside.{outside_or}
use Rattle.laws_calls.proofs.PrepareSteps.{prepare_locks}
use Rattle.laws_calls.proofs.ResolveLeaves.{decided_table}
use Rattle.laws_calls.proofs.RollingLeaves.{back_table, interrupted_table, savepoint_table}
use Rattle.laws_calls.specs.CallSteps.{AbortStep, AnswersBehind, CallGoesOn, CallStep, CommitStep, HasLocked, InnerStep, OutsideStep, RefusesBehind, ResumeStep, ResumesWait}
use Rattle.laws_calls.specs.Events.{Called, EventMoves, Forced, GaveUp, HasFailed, ManagerEvent, Resumed, TicketAsked}
use Rattle.laws_calls.specs.Midway.{AsksIn, Interlude, Intervene, Takes, WaitsAnew}
use Rattle.laws_calls.specs.Resolves.{ResolvesTo}
use Rattle.laws_calls.specs.Settling.{SettledResume, Settles}
use Rattle.laws_calls.specs.States.{State, Waiting}
use Rattle.laws_calls.specs.Victims.{TakesVictim, TakesVictims}
use Rattle.laws_runs.specs.CheckpointSteps.{CheckpointedMove, CheckpointedMoves, CheckpointedState, CheckpointedSteps, Checkpoints, Goes}
use Rattle.laws_runs.specs.StoredRuns.{Manage, Tend}
use Rattle.shore_world.proofs.CheckpointLemmas.{moves_state, step_keeps}

-- the limit is as before
abbrev pub SameLimit : State → State → Type 0
SameLimit s new = new.locks.limit ≡ s.locks.limit

by_state : {new later : State} → new ≡ later → SameLimit later new
by_state is = ap (λ (x : State). x.locks.limit) is

by_table : {t u : Table} → t ≡ u → t.limit ≡ u.limit
by_table is = ap (λ (x : Table). x.limit) is

module _ (g : Geometry) where
  answers_limit : (s : State) (a : SessionTxn) (c : Call) (answer : Answer) (new : State) → AnswersBehind g s a c answer new → SameLimit s new
  answers_limit s a (call.Get id) answer new h = by_state h.1
  answers_limit s a (call.GetForUpdate id) answer new h = by_state h.1
  answers_limit s a (call.Insert store bytes) answer new h = by_state h.3.2
  answers_limit s a (call.Update id bytes) answer new h = by_state h.2.2
  answers_limit s a (call.Delete id) answer new h = by_state h.2.2
  answers_limit s a (call.Scan store) answer new h = by_state h.1
  answers_limit s a (call.Lock at mode) answer new h = by_state h.1
  answers_limit s a (call.TryLock at mode) answer new h = by_state h.1
  answers_limit s a _ answer new h = absurd h

  refuses_limit : (s : State) (a : SessionTxn) (c : Call) (f : Fault) (new : State) → RefusesBehind g s a c f new → SameLimit s new
  refuses_limit s a (call.Get id) f new h = by_state h.1 ∙ by_table (refused_locks f s)
  refuses_limit s a (call.GetForUpdate id) f new h = by_state h.1 ∙ by_table (refused_locks f s)
  refuses_limit s a (call.Insert store bytes) f new (inl h) = by_state h.2
  refuses_limit s a (call.Insert store bytes) f new (inr (inl h)) = by_state h.1.3
  refuses_limit s a (call.Insert store bytes) f new (inr (inr (inl h))) = by_state h.1.3
  refuses_limit s a (call.Insert store bytes) f new (inr (inr (inr h))) = by_state h.1 ∙ by_table (refused_locks f s)
  refuses_limit s a (call.Update id bytes) f new h = by_state h.1 ∙ by_table (refused_locks f s)
  refuses_limit s a (call.Delete id) f new h = by_state h.1 ∙ by_table (refused_locks f s)
  refuses_limit s a (call.Scan store) f new h = by_state h.1 ∙ by_table (refused_locks f s)
  refuses_limit s a _ f new h = absurd h

  locked_limit : (s : State) (a : SessionTxn) (c : Call) (locked : State) → HasLocked s a c locked → SameLimit s locked
  locked_limit s a c locked had = by_state had.3

  goes_on_limit : (s : State) (a : SessionTxn) (c : Call) (step : Step) (new : State) → CallGoesOn g s a c step new → SameLimit s new
  goes_on_limit s a c (Done answer) new h = answers_limit h.0 a c answer new h.2 ∙ locked_limit s a c h.0 h.1
  goes_on_limit s a c (Waits wait) new h = by_state h.5
  goes_on_limit s a c (Refused f) new (inl h) = ⊎_elim
      (λ same. by_state same)
      (λ locked. ⊎_elim (λ same. by_state same ∙ locked_limit s a c locked.0 locked.1) (λ placed. by_state placed.5 ∙ locked_limit s a c locked.0 locked.1) locked.2)
      h.1
  goes_on_limit s a c (Refused f) new (inr (inl h)) = by_state h.3
  goes_on_limit s a c (Refused f) new (inr (inr h)) = refuses_limit h.0 a c f new h.2 ∙ locked_limit s a c h.0 h.1
  goes_on_limit s a c Nothing new h = absurd h

  -- ---- calls

  abort_limit : (s : State) (a : SessionTxn) (step : Step) (new : State) → AbortStep s a step new → SameLimit s new
  abort_limit s a (Done answer) new h = by_state h.1
  abort_limit s a (Refused f) new h = by_table (interrupted_table s a Whole f new h).locks
  abort_limit s a (Waits wait) new h = absurd h
  abort_limit s a Nothing new h = absurd h

  commit_limit : (s : State) (a : SessionTxn) (step : Step) (new : State) → CommitStep s a step new → SameLimit s new
  commit_limit s a (Done answer) new h = by_state h.1
  commit_limit s a (Refused f) new h = absurd h
  commit_limit s a (Waits wait) new h = absurd h
  commit_limit s a Nothing new h = absurd h

  inner_limit : (s : State) (a : SessionTxn) (c : Call) (step : Step) (new : State) → InnerStep g s a c step new → SameLimit s new
  inner_limit s a c step new (inl h) = by_state h.3
  inner_limit s a c step new (inr (inl (whole, inl h))) = by_state h.3
  inner_limit s a c step new (inr (inl (whole, inr (inl h)))) = goes_on_limit s a c step new h.1
  inner_limit s a c step new (inr (inl (whole, inr (inr (inl h))))) = commit_limit s a step new h.1
  inner_limit s a c step new (inr (inl (whole, inr (inr (inr (inl h)))))) = by_table (savepoint_table s a step new h.1).locks
  inner_limit s a c step new (inr (inl (whole, inr (inr (inr (inr h)))))) = by_table (prepare_locks g.version s a h.0 step new h.2)
  inner_limit s a c step new (inr (inr (inl h))) = by_table (back_table s a h.0 step new h.3).locks
  inner_limit s a c step new (inr (inr (inr h))) = abort_limit s a step new h.1

  resolve_limit : (s : State) (session : ℕ) (global : List ℕ) (asked : Outcome) (step : Step) (new : State) → ResolvesTo s session global asked step new → SameLimit s new
  resolve_limit s session global outcome.Commit (Waits wait) new h = by_state h.3
  resolve_limit s session global outcome.Commit (Done answer) new h = absurd h
  resolve_limit s session global outcome.Commit (Refused f) new h = absurd h
  resolve_limit s session global outcome.Commit Nothing new h = absurd h
  resolve_limit s session global outcome.Abort (Waits wait) new h = by_state h.3.2 ∙ by_table (decided_table s global h.0 h.1 h.2).locks
  resolve_limit s session global outcome.Abort (Done answer) new h = by_state h.3.2 ∙ by_table (decided_table s global h.0 h.1 h.2).locks
  resolve_limit s session global outcome.Abort (Refused f) new h = by_table (interrupted_table h.1 h.0 Whole f new h.3).locks ∙ by_table (decided_table s global h.0 h.1 h.2).locks
  resolve_limit s session global outcome.Abort Nothing new h = absurd h.3

  outside_limit : (s : State) (session : ℕ) (c : Call) (step : Step) (new : State) → OutsideStep s session c step new → SameLimit s new
  outside_limit s session c step new h = ⊎_elim (λ same. by_state same) (λ r. resolve_limit s session r.global r.asked step new r.to) (outside_or s session c step new h)

  call_limit : (s : State) (session : ℕ) (c : Call) (step : Step) (new : State) → CallStep g s session c step new → SameLimit s new
  call_limit s session c step new (inl h) = by_state h.1
  call_limit s session c step new (inr (inl h)) = by_state h.2
  call_limit s session c step new (inr (inr (inl h))) = by_state h.3
  call_limit s session c step new (inr (inr (inr (inl h)))) = by_table (begin_keeps_locks s session step new h.3)
  call_limit s session c step new (inr (inr (inr (inr (inl h))))) = by_state h.5
  call_limit s session c step new (inr (inr (inr (inr (inr (inl h)))))) = inner_limit s h.2.0 c step new h.2.2
  call_limit s session c step new (inr (inr (inr (inr (inr (inr (inl h))))))) = by_state h.5
  call_limit s session c step new (inr (inr (inr (inr (inr (inr (inr h))))))) = outside_limit s session c step new h.2

  -- ---- calls that go on, and victims

  waited_limit : (s : State) (w : Waiting) (wait : Wait) (step : Step) (new : State) → ResumesWait g s w wait step new → SameLimit s new
  waited_limit s w (Durable n) step new (inl h) = by_state h.2
  waited_limit s w (Durable n) step new (inr (inl h)) = by_state h.2.4
  waited_limit s w (Durable n) step new (inr (inr h)) = by_state h.2.3
  waited_limit s w (Lock at) step new h = ⊎_elim (λ still. by_state still.2) (λ free. goes_on_limit _ h.0 w.call step new free.1) h.2

  resume_limit : (s : State) (session : ℕ) (step : Step) (new : State) → ResumeStep g s session step new → SameLimit s new
  resume_limit s session step new (inl h) = by_state h.2
  resume_limit s session step new (inr h) = ⊎_elim (λ failed. by_state failed.2) (λ on. waited_limit s h.0 h.0.wait step new on.1) h.3

  victim_limit : (s : State) (t : ℕ) (v : Victim) (new : State) → TakesVictim s t v new → SameLimit s new
  victim_limit s t v new h = by_state h.is

  victims_limit : (s : State) (t : ℕ) (vs : List Victim) (new : State) → TakesVictims s t vs new → SameLimit s new
  victims_limit s t [] new h = by_state h
  victims_limit s t (v ∷ vs) new h = victims_limit h.0 t vs new h.2 ∙ victim_limit s t v h.0 h.1

  -- ---- calls and resumes as a whole, and events

  settles_limit : (s : State) (session : ℕ) (first : Step) (rounds : List (List Victim)) (step : Step) (new : State) → Settles g s session first rounds step new → SameLimit s new
  settles_limit s session first [] step new h = by_state h.2
  settles_limit s session first (vs ∷ rounds) step new h =
      let broken = victims_limit s h.0.txn vs h.2 h.5 in
      ⊎_elim
      (λ ends. ⊎_elim (λ still. by_state still.3 ∙ broken) (λ end. ⊎_elim (λ told. by_state told.is ∙ broken) (λ back. by_state back.1.1 ∙ broken) end) ends.1)
      (λ goes. settles_limit goes.1 session goes.0 rounds step new goes.4 ∙ resume_limit h.2 session goes.0 goes.1 goes.3 ∙ broken)
      h.6

  resumed_limit : (s : State) (session : ℕ) (step : Step) (new : State) → SettledResume g s session step new → SameLimit s new
  resumed_limit s session step new (inl told) = by_state told.is
  resumed_limit s session step new (inr (inl still)) = resume_limit s session step new still.0
  resumed_limit s session step new (inr (inr on)) = settles_limit on.mid session on.first on.rounds step new on.settles ∙ resume_limit s session on.first on.mid on.resumes

  event_limit : (s new : State) (e : ManagerEvent) → EventMoves g s e new → SameLimit s new
  event_limit s new (Called session c step) h = settles_limit h.1.mid session h.1.first h.1.rounds step new h.1.settles ∙ call_limit s session c h.1.first h.1.mid h.1.calls
  event_limit s new (Resumed session step) h = resumed_limit s session step new h
  event_limit s new (GaveUp session step) (inl h) = by_state h.is
  event_limit s new (GaveUp session step) (inr h) = by_state h.is
  event_limit s new (Forced n) h = by_state h.2
  event_limit s new HasFailed h = by_state h
  event_limit s new (TicketAsked ticket answer) h = by_state h.1

  move_limit : (m new : CheckpointedState) (e : CheckpointedMove) → CheckpointedSteps g m e new → SameLimit m.state new.state
  move_limit m new (Goes (Manage e works)) h = event_limit m.state new.state e h.0.0
  move_limit m new (Goes (Tend works)) h = by_state h.0.0
  move_limit m new (Checkpoints step) h = step_keeps (SameLimit m.state) m.state (λ l. refl) (λ n. refl) refl refl step new.state (moves_state m step new h)

  pub moves_limit : (m last : CheckpointedState) (moves : List CheckpointedMove) (made : List Entry) → CheckpointedMoves g m moves last made → SameLimit m.state last.state
  moves_limit m last [] made h = ap (λ (x : CheckpointedState). x.state.locks.limit) h.0
  moves_limit m last (e ∷ moves) made h = moves_limit h.0 last moves h.1 h.3 ∙ move_limit m h.0 e h.2

  -- ---- where a call asks

  intervene_limit : (session : ℕ) (s : State) (between : List Interlude) (last : State) → Intervene g session s between last → SameLimit s last
  intervene_limit session s [] last h = by_state h
  intervene_limit session s (Takes b v ∷ between) last h = intervene_limit session h.0 between last h.2 ∙ victim_limit s h.1.0.txn v h.0 h.1.2.0
  intervene_limit session s (WaitsAnew at ∷ between) last h = intervene_limit session h.0 between last h.2 ∙ resume_limit s session (Waits (Lock at)) h.0 h.1

  pub asks_limit : (s : State) (session : ℕ) (c : Call) (last : State) → AsksIn g s session c last → SameLimit s last
  asks_limit s session c last (inl same) = by_state same
  asks_limit s session c last (inr (between, x, midway, is)) =
      by_state is ∙ intervene_limit session midway.waits between x midway.intervene ∙ call_limit s session c (Waits (Lock midway.at)) midway.waits midway.calls

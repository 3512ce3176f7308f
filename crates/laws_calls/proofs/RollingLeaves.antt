-- What savepoints, ways back and interrupted rollbacks leave of the lock table, the calls that wait, and devices.
use Rattle.std.proofs.Common.{◌≡◌, inl, inr, ℕ, refl, sym, ap, subst, ◌∙◌}
use Rattle.shore_types.specs.declared.faults.Fault.{Fault}
use Rattle.shore_types.specs.declared.faults.Fault.TheVariants as fault
use Rattle.shore_model.specs.declared.rollbacks.Rollback.{Rollback}
use Rattle.shore_model.specs.declared.rollbacks.Rollback.TheVariants.{To}
use Rattle.laws_lives.specs.Sessions.{SessionTxn}
use Rattle.shore_model.specs.declared.step.Step.{Step}
use Rattle.shore_model.specs.declared.step.Step.TheVariants.{Done, Nothing, Refused, Waits}
use Rattle.laws_calls.specs.Rollbacks.{BackToStep, IsInterrupted, IsUnwound, SavepointStep}
use Rattle.laws_calls.specs.StateChanges.{after_refusal}
use Rattle.laws_calls.specs.States.{State}

-- the lock table stays, and so do the calls that wait
pub record LeavesTable (s new : State) : Type 0 where
  pub locks : new.locks ≡ s.locks
  pub held : new.sessions.held ≡ s.sessions.held
  pub waiting : new.waiting ≡ s.waiting

pub same_table : (s new : State) → new ≡ s → LeavesTable s new
same_table s new same = record { locks = ap (λ (x : State). x.locks) same; held = ap (λ (x : State). x.sessions.held) same; waiting = ap (λ (x : State). x.waiting) same }

refused_table : (f : Fault) (s : State) → LeavesTable s (after_refusal f s)
refused_table fault.Device s = record { locks = refl; held = refl; waiting = refl }
refused_table (fault.Damaged device place) s = record { locks = refl; held = refl; waiting = refl }
refused_table _ s = record { locks = refl; held = refl; waiting = refl }

pub table_then : (s mid new : State) → LeavesTable s mid → LeavesTable mid new → LeavesTable s new
table_then s mid new h k = record { locks = k.locks ∙ h.locks; held = k.held ∙ h.held; waiting = k.waiting ∙ h.waiting }

unwound_table : (s : State) (a : SessionTxn) (r : Rollback) (mid : State) → IsUnwound s a r mid → LeavesTable s mid
unwound_table s a r mid (inl same) = same_table s mid same
unwound_table s a r mid (inr h) = subst (LeavesTable s) (sym h.5) (record { locks = refl; held = refl; waiting = refl })

pub interrupted_table : (s : State) (a : SessionTxn) (r : Rollback) (f : Fault) (new : State) → IsInterrupted s a r f new → LeavesTable s new
interrupted_table s a r f new h = table_then s h.0 new (unwound_table s a r h.0 h.1) (subst (LeavesTable h.0) (sym h.3) (refused_table f h.0))

pub savepoint_table : (s : State) (a : SessionTxn) (step : Step) (new : State) → SavepointStep s a step new → LeavesTable s new
savepoint_table s a (Done answer) new h = subst (LeavesTable s) (sym h.2) (record { locks = refl; held = refl; waiting = refl })
savepoint_table s a (Refused f) new h = same_table s new h.2
savepoint_table s a (Waits wait) new h = absurd h
savepoint_table s a Nothing new h = absurd h

pub back_table : (s : State) (a : SessionTxn) (n : ℕ) (step : Step) (new : State) → BackToStep s a n step new → LeavesTable s new
back_table s a n (Done answer) new h = subst (LeavesTable s) (sym h.2) (record { locks = refl; held = refl; waiting = refl })
back_table s a n (Refused f) new (inl h) = same_table s new h.2
back_table s a n (Refused f) new (inr h) = interrupted_table s a (To n) f new h.1
back_table s a n (Waits wait) new h = absurd h
back_table s a n Nothing new h = absurd h

-- whether the state has failed stays
pub unwound_runs : (s : State) (a : SessionTxn) (r : Rollback) (mid : State) → IsUnwound s a r mid → mid.failed ≡ s.failed
unwound_runs s a r mid (inl same) = ap (λ (x : State). x.failed) same
unwound_runs s a r mid (inr h) = ap (λ (x : State). x.failed) h.5

-- .. and so does what is durable
pub unwound_durable : (s : State) (a : SessionTxn) (r : Rollback) (mid : State) → IsUnwound s a r mid → mid.durable ≡ s.durable
unwound_durable s a r mid (inl same) = ap (λ (x : State). x.durable) same
unwound_durable s a r mid (inr h) = ap (λ (x : State). x.durable) h.5

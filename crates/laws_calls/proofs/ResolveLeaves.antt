-- What a resolve leaves of the lock table, the calls that wait, the log, and of the transactions whose session is in them.
use Rattle.std.proofs.Common.{◌≡◌, ◌≢◌, ◌⊎◌, inl, inr, ◌∷◌, ◌<◌, ℕ, List, Bool, true, false, cond, refl, sym, ap, subst, ◌∙◌, arith}
use Rattle.std.specs.Prelude.{◌==◌, ◌&&◌}
use Rattle.shore_types.specs.declared.faults.Fault.{Fault}
use Rattle.shore_model.specs.declared.calls.Outcome.{Outcome}
use Rattle.shore_model.specs.declared.calls.Outcome.TheVariants as outcome
use Rattle.shore_model.specs.declared.rollbacks.Rollback.TheVariants.{Whole}
use Rattle.shore_model.specs.declared.sessions.SessionState.{SessionState}
use Rattle.shore_model.specs.declared.step.Step.{Step}
use Rattle.shore_model.specs.declared.step.Step.TheVariants.{Done, Nothing, Refused, Waits}
use Rattle.shore_model.specs.Histories.{free, once_decided}
use Rattle.shore_locks.specs.Grants.{released}
use Rattle.laws_lives.specs.Sessions.{SessionTxn, in_txn}
use Rattle.laws_calls.proofs.RollingLeaves.{LeavesTable, interrupted_table, same_table, table_then}
use Rattle.laws_calls.specs.Resolves.{DecidesRollback, IsResolvable, IsRollingBack, ResolvesTo, rollback_number}
use Rattle.shore_model.specs.declared.calls.Call.TheVariants as call
use Rattle.shore_model.specs.declared.step.Wait.TheVariants.{Durable}
use Rattle.laws_calls.specs.Shapes.{IsNoRefusal}
use Rattle.laws_calls.specs.StateChanges.{decision_waiting}
use Rattle.laws_calls.specs.States.{State, next_number}

-- the decision to roll back leaves the table
pub decided_table : (s : State) (global : List ℕ) (b : SessionTxn) (d : State) → DecidesRollback s global b d → LeavesTable s d
decided_table s global b d (inl h) = subst (LeavesTable s) (sym h.3) (record { locks = refl; held = refl; waiting = refl })
decided_table s global b d (inr h) = same_table s d h.1

pub decided_durable : (s : State) (global : List ℕ) (b : SessionTxn) (d : State) → DecidesRollback s global b d → d.durable ≡ s.durable
decided_durable s global b d (inl h) = ap (λ (x : State). x.durable) h.3
decided_durable s global b d (inr h) = ap (λ (x : State). x.durable) h.1

-- its transaction is the one that was resolved
pub decided_txn : (s : State) (global : List ℕ) (b : SessionTxn) (d : State) → DecidesRollback s global b d
    → (a : SessionTxn) × (IsResolvable s a global ⊎ IsRollingBack s a global) × (a.txn ≡ b.txn)
decided_txn s global b d (inl h) = (h.0, inl h.1, sym (ap (λ (x : SessionTxn). x.txn) h.2))
decided_txn s global b d (inr h) = (b, inr h.0, refl)

pub interrupted_decided : (s : State) (global : List ℕ) (b : SessionTxn) (d : State) (f : Fault) (new : State) → DecidesRollback s global b d
    → LeavesTable d new → LeavesTable s new
interrupted_decided s global b d f new by left = table_then s d new (decided_table s global b d by) left

-- the requests stay, or those of the resolved transaction go
pub record GivesBack (s : State) (global : List ℕ) (step : Step) (new : State) : Type 0 where
  pub txn : SessionTxn
  pub its : IsResolvable s txn global ⊎ IsRollingBack s txn global
  pub ends : IsNoRefusal step
  pub requests : new.locks.requests ≡ released txn.txn s.locks.requests

pub gives_back : (s : State) (session : ℕ) (global : List ℕ) (asked : Outcome) (step : Step) (new : State) → IsNoRefusal step → ResolvesTo s session global asked step new → GivesBack s global step new
gives_back s session global outcome.Commit (Waits wait) new some h = record { txn = h.0; its = inl h.1; ends = tt; requests = ap (λ (x : State). x.locks.requests) h.3 }
gives_back s session global outcome.Commit (Done answer) new some h = absurd h
gives_back s session global outcome.Commit (Refused f) new some h = absurd some
gives_back s session global outcome.Commit Nothing new some h = absurd h
gives_back s session global outcome.Abort (Refused f) new some h = absurd some
gives_back s session global outcome.Abort (Done answer) new some h =
    let its = decided_txn s global h.0 h.1 h.2 in
    record {
      txn = its.0;
      its = its.1;
      ends = tt;
      requests = ap (λ (x : State). x.locks.requests) h.3.2 ∙ ap (λ t. released t h.1.locks.requests) (sym its.2) ∙ ap (λ l. released its.0.txn l.requests) (decided_table s global h.0 h.1 h.2).locks;
    }
gives_back s session global outcome.Abort (Waits wait) new some h =
    let its = decided_txn s global h.0 h.1 h.2 in
    record {
      txn = its.0;
      its = its.1;
      ends = tt;
      requests = ap (λ (x : State). x.locks.requests) h.3.2 ∙ ap (λ t. released t h.1.locks.requests) (sym its.2) ∙ ap (λ l. released its.0.txn l.requests) (decided_table s global h.0 h.1 h.2).locks;
    }
gives_back s session global outcome.Abort Nothing new some h = absurd h.3

pub resolve_locks : (s : State) (session : ℕ) (global : List ℕ) (asked : Outcome) (step : Step) (new : State) → ResolvesTo s session global asked step new → (new.locks ≡ s.locks) ⊎ GivesBack s global step new
resolve_locks s session global asked (Waits wait) new h = inr (gives_back s session global asked (Waits wait) new tt h)
resolve_locks s session global asked (Done answer) new h = inr (gives_back s session global asked (Done answer) new tt h)
resolve_locks s session global asked Nothing new h = inr (gives_back s session global asked Nothing new tt h)
resolve_locks s session global outcome.Commit (Refused f) new h = absurd h
resolve_locks s session global outcome.Abort (Refused f) new h =
    inl (interrupted_decided s global h.0 h.1 f new h.2 (interrupted_table h.1 h.0 Whole f new h.3)).locks

-- ---- seats

-- who is in a transaction behind a decision was in it before
pub was_undecided : (t u : ℕ) (p : SessionState) → 0 < u → once_decided p t ≡ in_txn u → p ≡ in_txn u
was_undecided t u p above =
    elim ((p.txn == t) && p.prepared) as (λ b. cond b free p ≡ in_txn u → p ≡ in_txn u) [
      | true ↦ λ h. let none : 0 ≡ u = ap (λ (x : SessionState). x.txn) h in absurd (omega arith)
      | false ↦ λ h. h
    ]

-- .. and who is in one that is not prepared stays in it
pub stays_undecided : (t u : ℕ) (p : SessionState) → p ≡ in_txn u → once_decided p t ≡ in_txn u
stays_undecided t u p is = ap (λ (x : SessionState). once_decided x t) is ∙ by (u == t)
  where
    by : (b : Bool) → cond (b && false) free (in_txn u) ≡ in_txn u
    by true = refl
    by false = refl

-- ---- the calls that wait

-- the same calls wait, or the resolve is one more
abbrev pub WaitsAfter : State → ℕ → List ℕ → Outcome → Step → State → Type 0
WaitsAfter s session global asked step new =
    (new.waiting ≡ s.waiting) ⊎ ((n : ℕ) × (step ≡ Waits (Durable n)) × (new.waiting ≡ decision_waiting session (call.Resolve global asked) n ∷ s.waiting))

pub resolve_waiting : (s : State) (session : ℕ) (global : List ℕ) (asked : Outcome) (step : Step) (new : State) → ResolvesTo s session global asked step new → WaitsAfter s session global asked step new
resolve_waiting s session global outcome.Commit (Waits wait) new h = inr (next_number s, ap Waits h.2, ap (λ (x : State). x.waiting) h.3)
resolve_waiting s session global outcome.Commit (Done answer) new h = absurd h
resolve_waiting s session global outcome.Commit (Refused f) new h = absurd h
resolve_waiting s session global outcome.Commit Nothing new h = absurd h
resolve_waiting s session global outcome.Abort (Refused f) new h = inl (interrupted_decided s global h.0 h.1 f new h.2 (interrupted_table h.1 h.0 Whole f new h.3)).waiting
resolve_waiting s session global outcome.Abort (Done answer) new h = inl (ap (λ (x : State). x.waiting) h.3.2 ∙ (decided_table s global h.0 h.1 h.2).waiting)
resolve_waiting s session global outcome.Abort (Waits wait) new h =
    let n = rollback_number h.0.txn h.1.log in
    inr (n, ap Waits h.3.1, ap (λ (x : State). x.waiting) h.3.2 ∙ ap (λ ws. decision_waiting session (call.Resolve global outcome.Abort) n ∷ ws) (decided_table s global h.0 h.1 h.2).waiting)
resolve_waiting s session global outcome.Abort Nothing new h = absurd h.3

pub none_added : (s new : State) (session : ℕ) (global : List ℕ) (asked : Outcome) (step : Step) → ((n : ℕ) → step ≢ Waits (Durable n)) → WaitsAfter s session global asked step new
    → new.waiting ≡ s.waiting
none_added s new session global asked step other (inl same) = same
none_added s new session global asked step other (inr h) = absurd (other h.0 h.1)

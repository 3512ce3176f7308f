-- What a resolve leaves of the locks: refused it leaves all, else none of its transaction's are left, and others keep theirs.
use Rattle.std.proofs.Common.{◌≡◌, ◌≢◌, ◌⊎◌, inl, inr, ⊎_elim, ℕ, List, refl, sym, ap, subst, ◌∙◌, true}
use Rattle.std.specs.Prelude.{All}
use Rattle.shore_types.specs.declared.faults.Fault.{Fault}
use Rattle.shore_types.specs.declared.layout.Geometry.{Geometry}
use Rattle.shore_model.specs.declared.calls.Answer.TheVariants.{Resolved}
use Rattle.shore_model.specs.declared.calls.Call.TheVariants as call
use Rattle.shore_model.specs.declared.calls.Outcome.{Outcome}
use Rattle.shore_model.specs.declared.calls.Outcome.TheVariants as outcome
use Rattle.shore_model.specs.declared.histories.Entry.{Entry}
use Rattle.shore_model.specs.declared.histories.Opening.{Opening}
use Rattle.shore_model.specs.declared.log_records.LogRecord.{LogRecord}
use Rattle.shore_model.specs.declared.rollbacks.Rollback.TheVariants.{Whole}
use Rattle.shore_model.specs.declared.step.Step.{Step}
use Rattle.shore_model.specs.declared.step.Step.TheVariants.{Done, Refused, Waits, Nothing}
use Rattle.shore_model.specs.declared.step.Wait.{Wait}
use Rattle.shore_model.specs.declared.step.Wait.TheVariants.{Durable, Lock}
use Rattle.shore_model.specs.Requests.{held_by_all}
use Rattle.shore_locks.specs.Grants.{released}
use Rattle.laws_calls.proofs.Outside.{resolve_in}
use Rattle.laws_calls.proofs.ResolveLeaves.{GivesBack, decided_table, gives_back}
use Rattle.laws_calls.proofs.RollingLeaves.{LeavesTable, interrupted_table, same_table, table_then}
use Rattle.laws_calls.proofs.SessionStates.{session_call_stays}
use Rattle.laws_calls.proofs.UnderGlobal.{under_one, used_in_doubt, used_resolved}
use Rattle.laws_calls.specs.CallHistories.{txn_under}
use Rattle.laws_calls.specs.CallSteps.{CallStep, ResumesCall, ResumesWait}
use Rattle.laws_calls.specs.Events.{IsStateAfter}
use Rattle.laws_calls.specs.Resolves.{IsResolvable, IsRollingBack, ResolvesTo, resolved_by_rollback}
use Rattle.laws_calls.specs.Shapes.{IsNoRefusal}
use Rattle.laws_calls.specs.States.{State, Waiting}
use Rattle.laws_locks.proofs.Held.{gone_of}
use Rattle.laws_calls.proofs.WrongResumes.{gone}
use Rattle.laws_lives.specs.SessionSteps.{KeepsLocks}
use Rattle.shore_path.proofs.Holding.{holder_from_lock, enough_of, lock_from_holder, holder_of}
use Rattle.shore_path.proofs.Freeing.{weaker_released}
use Rattle.shore_model.specs.Locks.{HoldsAtLeast}
use Rattle.shore_model.specs.declared.holds.Hold.{Hold}

-- ---- refused

refused_table : (s : State) (session : ℕ) (global : List ℕ) (asked : Outcome) (f : Fault) (new : State) → ResolvesTo s session global asked (Refused f) new → LeavesTable s new
refused_table s session global outcome.Commit f new h = absurd h
refused_table s session global outcome.Abort f new h = table_then s h.1 new (decided_table s global h.0 h.1 h.2) (interrupted_table h.1 h.0 Whole f new h.3)

pub refused_resolve_keeps : (g : Geometry) (s new : State) (session : ℕ) (global : List ℕ) (asked : Outcome) (f : Fault) → CallStep g s session (call.Resolve global asked) (Refused f) new
    → (new.locks ≡ s.locks) × (new.sessions.held ≡ s.sessions.held)
refused_resolve_keeps g s new session global asked f h =
    let left = ⊎_elim
    (λ general. same_table s new general.3)
    (λ goes. ⊎_elim (λ early. same_table s new early.3) (λ on. refused_table s session global asked f new on.1) goes.2)
    (resolve_in g s new session global asked (Refused f) h) in
    (left.locks, left.held)

-- the answer of one that waited leaves all
pub resolve_leaves_locks : (g : Geometry) (s : State) (w : Waiting) (n : ℕ) (new : State) → w.wait ≡ Durable n → ResumesCall g s w (Done Resolved) new
    → (new.locks.requests ≡ s.locks.requests) × (new.sessions.held ≡ s.sessions.held)
resolve_leaves_locks g s w n new is h = ⊎_elim (λ failed. let clash = failed.1 in absurd cc) (λ on. by w.wait is on.1) h
  where
    by : (wait : Wait) → wait ≡ Durable n → ResumesWait g s w wait (Done Resolved) new → (new.locks.requests ≡ s.locks.requests) × (new.sessions.held ≡ s.sessions.held)
    by (Durable m) same (inl x) = let clash = x.1 in absurd cc
    by (Durable m) same (inr (inl x)) = let clash = x.1 in absurd cc
    by (Durable m) same (inr (inr x)) = (ap (λ (y : State). y.locks.requests) x.2.3, ap (λ (y : State). y.sessions.held) x.2.3)
    by (Lock at) same x = absurd cc

-- ---- not refused

module _ (g : Geometry) (o : Opening) (found : List LogRecord) (es : List Entry) (s : State) (k : IsStateAfter o found es s) (session : ℕ) (global : List ℕ) (asked : Outcome) (step : Step) (new : State) where
  under_its : (t : ℕ) (a : _) → IsResolvable s a global ⊎ IsRollingBack s a global → a.txn ≡ t → txn_under s.sessions global ≡ t
  under_its t a its is = ⊎_elim
      (λ can. under_one o es s.sessions k.sessions.agree a.txn global (used_in_doubt s.sessions (record { txn = a.txn; global = global; answered = true }) can.1))
      (λ rolls. under_one o es s.sessions k.sessions.agree a.txn global (used_resolved s.sessions (resolved_by_rollback a global) rolls.1)) its
      ∙ is

  gives : IsNoRefusal step → CallStep g s session (call.Resolve global asked) step new → GivesBack s global step new
  gives some h = ⊎_elim
      (λ general. absurd (subst IsNoRefusal general.2 some))
      (λ goes. ⊎_elim (λ early. absurd (subst IsNoRefusal early.2 some)) (λ on. gives_back s session global asked step new some on.1) goes.2)
      (resolve_in g s new session global asked step h)

  pub resolve_gone : IsNoRefusal step → CallStep g s session (call.Resolve global asked) step new
      → (new.locks.requests ≡ released (txn_under s.sessions global) s.locks.requests) × All (λ h. h.txn ≢ txn_under s.sessions global) new.sessions.held
  resolve_gone some h =
      let its = gives some h in
      let number = under_its its.txn.txn its.txn its.its refl in
      let left = its.requests ∙ ap (λ t. released t s.locks.requests) (sym number) in
      let later = session_call_stays o found es s k g session (call.Resolve global asked) step new h in (
        left,
        subst (All (λ h. h.txn ≢ txn_under s.sessions global)) (sym (later.sessions.locks.held ∙ ap held_by_all left)) (gone_of s.locks.requests (txn_under s.sessions global) k.sessions.locks.orderly),
      )

  -- nobody's request of it is left
  pub no_request_left : IsNoRefusal step → CallStep g s session (call.Resolve global asked) step new → All (λ r. r.txn ≢ txn_under s.sessions global) new.locks.requests
  no_request_left some h = subst (All (λ r. r.txn ≢ txn_under s.sessions global)) (sym (resolve_gone some h).0) (gone (txn_under s.sessions global) s.locks.requests k.sessions.locks.orderly)

  -- whatever it comes to, others keep theirs
  pub resolve_keeps_others : (u : ℕ) → u ≢ txn_under s.sessions global → CallStep g s session (call.Resolve global asked) step new → KeepsLocks s.sessions.held new.sessions.held u
  resolve_keeps_others u other h = by step refl
    where
      released_keeps : IsNoRefusal step → KeepsLocks s.sessions.held new.sessions.held u
      released_keeps some m at held =
          let t = txn_under s.sessions global in
          let later = session_call_stays o found es s k g session (call.Resolve global asked) step new h in
          let was = holder_from_lock u at m s.locks.requests (subst (λ (l : List Hold). HoldsAtLeast l u m at) k.sessions.locks.held held) in
          let enough = weaker_released t s.locks.requests k.sessions.locks.orderly u at m other (enough_of u at m s.locks.requests k.sessions.locks.orderly.one_each was) in
          subst (λ (l : List Hold). HoldsAtLeast l u m at) (sym (later.sessions.locks.held ∙ ap held_by_all (resolve_gone some h).0))
          (lock_from_holder u at m (released t s.locks.requests) (holder_of u at m (released t s.locks.requests) enough))

      by : (x : Step) → step ≡ x → KeepsLocks s.sessions.held new.sessions.held u
      by (Refused f) is = λ m at held.
          subst (λ (l : List Hold). HoldsAtLeast l u m at) (sym (refused_resolve_keeps g s new session global asked f (subst (λ (x : Step). CallStep g s session (call.Resolve global asked) x new) is h)).1) held
      by (Done answer) is = released_keeps (subst IsNoRefusal (sym is) tt)
      by (Waits wait) is = released_keeps (subst IsNoRefusal (sym is) tt)
      by Nothing is = released_keeps (subst IsNoRefusal (sym is) tt)

-- Resolves that do not come.
use Rattle.std.proofs.Common.{◌≡◌, ◌≢◌, ◌⊎◌, inl, inr, ⊎_elim, ℕ, List, true, false, sym, ap, subst, ◌∙◌, length, take}
use Rattle.std.specs.Prelude.{Contains}
use Rattle.shore_types.specs.declared.faults.Fault.{Fault}
use Rattle.shore_types.specs.declared.faults.Fault.TheVariants as fault
use Rattle.shore_types.specs.declared.layout.Geometry.{Geometry}
use Rattle.shore_model.specs.declared.calls.Answer.{Answer}
use Rattle.shore_model.specs.declared.calls.Answer.TheVariants.{Resolved}
use Rattle.shore_model.specs.declared.calls.Call.TheVariants as call
use Rattle.shore_model.specs.declared.calls.Outcome.{Outcome}
use Rattle.shore_model.specs.declared.calls.Outcome.TheVariants as outcome
use Rattle.shore_model.specs.declared.histories.Decision.TheVariants as decision
use Rattle.shore_model.specs.declared.histories.Entry.{Entry}
use Rattle.shore_model.specs.declared.histories.Opening.{Opening}
use Rattle.shore_model.specs.declared.log_records.LogRecord.{LogRecord}
use Rattle.shore_model.specs.declared.step.Step.{Step}
use Rattle.shore_model.specs.declared.step.Step.TheVariants.{Done, Nothing, Refused, Waits}
use Rattle.laws_lives.proofs.Lists.{among_map}
use Rattle.laws_lives.specs.LogPrefixes.{decisions_in}
use Rattle.laws_lives.specs.Sessions.{PreparedTxn, SessionTxn, in_doubt_of, in_use}
use Rattle.laws_lives.specs.Views.{IsAmong}
use Rattle.laws_calls.proofs.DoubtsApart.{doubts_apart}
use Rattle.laws_calls.proofs.Elements.{in_longer}
use Rattle.laws_calls.proofs.OneResolve.{not_both}
use Rattle.laws_calls.proofs.Outside.{IsGeneral, interrupted_outside, resolve_in}
use Rattle.laws_calls.proofs.ResolveEnds.{rolled_logged}
use Rattle.laws_calls.proofs.ResolveStates.{one_doubt}
use Rattle.laws_calls.proofs.ResolveStays.{durable_place, has_decided, its_place}
use Rattle.laws_calls.proofs.TakenLocks.{sessions_of}
use Rattle.laws_calls.proofs.UnderGlobal.{one_global, used_in_doubt, used_resolved}
use Rattle.laws_calls.specs.CallHistories.{txn_under}
use Rattle.laws_calls.specs.CallSteps.{CallStep}
use Rattle.laws_calls.specs.Events.{IsStateAfter}
use Rattle.laws_calls.specs.Resolves.{IsResolvable, IsRollingBack, MayResolve, RefusesResolve, ResolvesTo, resolved_by_rollback, rollback_number}
use Rattle.laws_calls.specs.Rollbacks.{Interrupts}
use Rattle.laws_calls.specs.Shapes.{IsNoRefusal}
use Rattle.laws_calls.specs.States.{State, DoesNotWait}

-- ---- what it goes on with

module _ (s : State) (session : ℕ) (global : List ℕ) where
  pub has_one : (asked : Outcome) (step : Step) (new : State) → ResolvesTo s session global asked step new → (a : SessionTxn) × (IsResolvable s a global ⊎ IsRollingBack s a global)
  has_one outcome.Commit (Waits wait) new h = (h.0, inl h.1)
  has_one outcome.Commit (Done answer) new h = absurd h
  has_one outcome.Commit (Refused f) new h = absurd h
  has_one outcome.Commit Nothing new h = absurd h
  has_one outcome.Abort step new h = ⊎_elim (λ now. (now.0, inl now.1)) (λ before. (h.0, inr before.0)) h.2

module _ (g : Geometry) (s new : State) (session : ℕ) (global : List ℕ) (asked : Outcome) where
  abbrev Comes : Step → Type 0
  Comes step = CallStep g s session (call.Resolve global asked) step new

  pub goes_on : (step : Step) → IsNoRefusal step → Comes step → MayResolve s session global × ResolvesTo s session global asked step new
  goes_on step some h = ⊎_elim
      (λ general. absurd (subst IsNoRefusal general.2 some))
      (λ goes. ⊎_elim (λ early. absurd (subst IsNoRefusal early.2 some)) (λ on. on) goes.2)
      (resolve_in g s new session global asked step h)

  pub resolves_none : (step : Step) → ((a : SessionTxn) → IsResolvable s a global ⊎ IsRollingBack s a global → ⊥) → IsNoRefusal step → Comes step → ⊥
  resolves_none step none some h = let a = has_one s session global asked step new (goes_on step some h).1 in none a.0 a.1

  pub resolves_from_another : (step : Step) → (MayResolve s session global → ⊥) → IsNoRefusal step → Comes step → ⊥
  resolves_from_another step not some h = not (goes_on step some h).0

  pub resolve_answered_other : (answer : Answer) → answer ≢ Resolved → Comes (Done answer) → ⊥
  resolve_answered_other answer other h = by asked (goes_on (Done answer) tt h).1
    where
      by : (asked : Outcome) → ResolvesTo s session global asked (Done answer) new → ⊥
      by outcome.Commit to = to
      by outcome.Abort to = other to.3.1

  -- ---- why it is refused

  abbrev Why : Fault → Type 0
  Why f = IsGeneral f ⊎ (RefusesResolve s session global asked f ⊎ ((x : State) × Interrupts x f))

  same_refusal : (e f : Fault) → Refused e ≡ Refused f → f ≡ e
  same_refusal e f is = cc

  why : (f : Fault) → Comes (Refused f) → Why f
  why f h = ⊎_elim
      (λ general. inl (subst IsGeneral (same_refusal f general.0 general.2) general.1))
      (λ goes. inr (⊎_elim
      (λ early. inl (subst (RefusesResolve s session global asked) (same_refusal f early.0 early.2) early.1))
      (λ on. by asked on.1) goes.2))
      (resolve_in g s new session global asked (Refused f) h)
    where
      by : (asked : Outcome) → ResolvesTo s session global asked (Refused f) new → RefusesResolve s session global asked f ⊎ ((x : State) × Interrupts x f)
      by outcome.Commit to = absurd to
      by outcome.Abort to = inr (to.3.0, to.3.2)

  pub elsewhere_though_free : MayResolve s session global → Comes (Refused fault.AlreadyActive) → ⊥
  elsewhere_though_free may h = ⊎_elim
      (⊎_elim (λ e. cc) (⊎_elim (λ e. cc) (λ e. cc)))
      (⊎_elim (⊎_elim (λ active. active.1 may) (⊎_elim (λ none. let clash = none.0 in cc) (λ must. let clash = must.0 in cc))) (λ x. interrupted_outside x.0 fault.AlreadyActive x.1))
      (why fault.AlreadyActive h)

  pub none_though_there : (a : SessionTxn) → IsResolvable s a global ⊎ IsRollingBack s a global → Comes (Refused fault.NoGlobalId) → ⊥
  none_though_there a its h = ⊎_elim
      (⊎_elim (λ e. cc) (⊎_elim (λ e. cc) (λ e. cc)))
      (⊎_elim (⊎_elim (λ active. let clash = active.0 in cc) (⊎_elim (λ none. none.2 a its) (λ must. let clash = must.0 in cc))) (λ x. interrupted_outside x.0 fault.NoGlobalId x.1))
      (why fault.NoGlobalId h)

  pub must_abort_though_none : ((a : SessionTxn) → IsRollingBack s a global → ⊥) ⊎ (asked ≡ outcome.Abort) → Comes (Refused fault.MustAbort) → ⊥
  must_abort_though_none never_or h = ⊎_elim
      (⊎_elim (λ e. cc) (⊎_elim (λ e. cc) (λ e. cc)))
      (⊎_elim (⊎_elim (λ active. let clash = active.0 in cc) (⊎_elim (λ none. let clash = none.0 in cc) (λ must. ⊎_elim (λ never. never must.3.0 must.3.1)
      (λ abort. let clash : outcome.Commit ≡ outcome.Abort = sym must.2 ∙ abort in cc) never_or))) (λ x. interrupted_outside x.0 fault.MustAbort x.1))
      (why fault.MustAbort h)

pub commit_at_once : (g : Geometry) (s new : State) (session : ℕ) (global : List ℕ) (answer : Answer) → CallStep g s session (call.Resolve global outcome.Commit) (Done answer) new → ⊥
commit_at_once g s new session global answer h = (goes_on g s new session global outcome.Commit (Done answer) tt h).1

-- ---- of one whose prepare is not answered, and of one that is being rolled back

module _ (g : Geometry) (o : Opening) (found : List LogRecord) (es : List Entry) (s : State) (k : IsStateAfter o found es s) (session : ℕ) (global : List ℕ) where
  -- a transaction in doubt is not being rolled back
  no_doubt_rolls : (t : ℕ) → IsAmong (t, global) (in_use s.sessions) → IsAmong t (in_doubt_of s.sessions) → (b : SessionTxn) → IsRollingBack s b global → ⊥
  no_doubt_rolls t used doubt b rolls =
      let same = one_global o es s.sessions k.sessions.agree t b.txn global used (used_resolved s.sessions (resolved_by_rollback b global) rolls.1) in
      (rolled_logged o found es s k b global rolls).1 (subst (λ u. IsAmong u (in_doubt_of s.sessions)) same doubt)

  pub resolves_unanswered : (new : State) (t : ℕ) (asked : Outcome) (step : Step) → IsAmong (record { txn = t; global = global; answered = false }) s.sessions.prepared → IsNoRefusal step
      → CallStep g s session (call.Resolve global asked) step new → ⊥
  resolves_unanswered new t asked step there some h = ⊎_elim in_doubt (λ rolls. no_doubt_rolls t used (among_map (λ (p : PreparedTxn). p.txn) mine s.sessions.prepared there) a.0 rolls) a.1
    where
      mine : PreparedTxn
      mine = record { txn = t; global = global; answered = false }

      used : IsAmong (t, global) (in_use s.sessions)
      used = used_in_doubt s.sessions (record { txn = t; global = global; answered = false }) there

      a : (a : SessionTxn) × (IsResolvable s a global ⊎ IsRollingBack s a global)
      a = has_one s session global asked step new (goes_on g s new session global asked step some h).1

      in_doubt : IsResolvable s a.0 global → ⊥
      in_doubt can =
          let its : PreparedTxn = record { txn = a.0.txn; global = global; answered = true } in
          let unanswered : PreparedTxn = record { txn = t; global = global; answered = false } in
          let same = one_global o es s.sessions k.sessions.agree a.0.txn t global (used_in_doubt s.sessions its can.1) used in
          let one = one_doubt its unanswered s.sessions.prepared (doubts_apart (sessions_of o found es s k.sessions)) can.1 there same in
          let clash : true ≡ false = ap (λ (p : PreparedTxn). p.answered) one in cc

  pub commits_rolled_back : (new : State) (a : SessionTxn) (step : Step) → IsRollingBack s a global → IsNoRefusal step → CallStep g s session (call.Resolve global outcome.Commit) step new → ⊥
  commits_rolled_back new a step rolls some h = by step some (goes_on g s new session global outcome.Commit step some h).1
    where
      by : (step : Step) → IsNoRefusal step → ResolvesTo s session global outcome.Commit step new → ⊥
      by (Waits wait) some to = not_both g o found es s k session global to.0 a to.1 rolls
      by (Done answer) some to = to
      by (Refused f) some to = to
      by Nothing some to = to

  -- an answer at once is durable
  pub answered_durably : (new : State) (asked : Outcome) (answer : Answer) → CallStep g s session (call.Resolve global asked) (Done answer) new
      → Contains (decisions_in (length found) (take s.durable s.log)) (decision.RollBack (txn_under s.sessions global))
  answered_durably new asked answer h = ⊎_elim
      (λ general. let clash = general.2 in absurd cc)
      (λ goes. ⊎_elim (λ early. let clash = early.2 in absurd cc) (λ on. by asked on.0 goes.1 on.1) goes.2)
      (resolve_in g s new session global asked (Done answer) h)
    where
      by : (asked : Outcome) → MayResolve s session global → DoesNotWait s session → ResolvesTo s session global asked (Done answer) new
          → Contains (decisions_in (length found) (take s.durable s.log)) (decision.RollBack (txn_under s.sessions global))
      by outcome.Commit may idle to = absurd to
      by outcome.Abort may idle to =
          let n = its_place g o found es s k session global may idle answer new to in
          subst (λ t. Contains (decisions_in (length found) (take s.durable s.log)) (decision.RollBack t)) (sym (has_decided g o found es s k session global to.0 to.1 to.2).under)
          (in_longer (length found) (rollback_number to.0.txn s.log) s.durable s.log (decision.RollBack to.0.txn) (durable_place g o found es s k session global may idle answer new to) n.decided)

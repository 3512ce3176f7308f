-- Resolves, and commits and aborts that are answered, of a state: what they leave.
use Rattle.std.proofs.Common.{◌≡◌, ⊎_elim, subst, ap, ℕ, List}
use Rattle.shore_types.specs.declared.layout.Geometry.{Geometry}
use Rattle.shore_model.specs.declared.calls.Answer.{Answer}
use Rattle.shore_model.specs.declared.calls.Answer.TheVariants.{Committed}
use Rattle.shore_model.specs.declared.calls.Call.{Call}
use Rattle.shore_model.specs.declared.calls.Call.TheVariants as call
use Rattle.shore_model.specs.declared.calls.Outcome.{Outcome}
use Rattle.shore_model.specs.declared.histories.Entry.{Entry}
use Rattle.shore_model.specs.declared.histories.Opening.{Opening}
use Rattle.shore_model.specs.declared.log_records.LogRecord.{LogRecord}
use Rattle.shore_model.specs.declared.step.Step.{Step}
use Rattle.shore_model.specs.declared.step.Step.TheVariants.{Done, Waits}
use Rattle.shore_model.specs.declared.step.Wait.{Wait}
use Rattle.shore_locks.specs.Grants.{released}
use Rattle.laws_lives.specs.Sessions.{SessionTxn}
use Rattle.laws_calls.proofs.AnswersDone.{answered_in_none}
use Rattle.laws_calls.proofs.Midway.{settled_call_to}
use Rattle.laws_calls.proofs.Outside.{resolve_in}
use Rattle.laws_calls.proofs.ResolveLeaves.{GivesBack, gives_back}
use Rattle.laws_calls.proofs.SessionInversions.{aborted_in, committed_in}
use Rattle.laws_calls.proofs.SettledAsks.{waits_may}
use Rattle.laws_calls.proofs.WrongWaits.{commit_waits}
use Rattle.laws_calls.specs.CallSteps.{CallStep, MayAsk}
use Rattle.laws_calls.specs.Events.{IsStateAfter}
use Rattle.laws_calls.specs.Settling.{SettledCall}
use Rattle.laws_calls.specs.Shapes.{IsNoRefusal}
use Rattle.laws_calls.specs.StateChanges.{committed}
use Rattle.laws_calls.specs.States.{HasNoTxn, IsOfSession, State, next_number}

-- ---- calls that may ask for no lock

module _ (g : Geometry) (s new : State) (session : ℕ) where
  at_once : (c : Call) → (MayAsk g c → ⊥) → (step : Step) → SettledCall g s session c step new → CallStep g s session c step new
  at_once c none step h = ⊎_elim
      (λ once. once.1)
      (λ came. let m = came.midway in absurd (none (waits_may g s m.waits session c m.at m.calls)))
      (settled_call_to g s session c step new h)

  pub resolves_at_once : (global : List ℕ) (asked : Outcome) (step : Step) → SettledCall g s session (call.Resolve global asked) step new
      → CallStep g s session (call.Resolve global asked) step new
  resolves_at_once global asked step h = at_once (call.Resolve global asked) (λ asks. asks) step h

  -- a resolve that is not refused gives back what its transaction holds
  pub resolve_gives_back : (global : List ℕ) (asked : Outcome) (step : Step) → IsNoRefusal step → SettledCall g s session (call.Resolve global asked) step new
      → GivesBack s global step new
  resolve_gives_back global asked step some h = ⊎_elim
      (λ general. absurd (subst IsNoRefusal general.2 some))
      (λ goes. ⊎_elim (λ early. absurd (subst IsNoRefusal early.2 some)) (λ on. gives_back s session global asked step new some on.1) goes.2)
      (resolve_in g s new session global asked step (resolves_at_once global asked step h))

  -- so does an abort that is answered
  pub abort_gives_back : (answer : Answer) → SettledCall g s session call.Abort (Done answer) new
      → (a : SessionTxn) × IsOfSession s session a × (new.locks.requests ≡ released a.txn s.locks.requests)
  abort_gives_back answer h =
      let its = aborted_in g s new session answer (at_once call.Abort (λ asks. asks) (Done answer) h) in
      (its.0, its.1, ap (λ (x : State). x.locks.requests) its.2.1)

  -- a commit that is answered has the number of its record, which goes last, and gives its locks back
  pub commit_answered : (answer : Answer) → SettledCall g s session call.Commit (Done answer) new
      → (a : SessionTxn) × IsOfSession s session a × (answer ≡ Committed (next_number s)) × (new ≡ committed s a)
  commit_answered answer h =
      let its = committed_in g s new session answer (at_once call.Commit (λ asks. asks) (Done answer) h) in
      (its.0, its.1, its.3.0, its.3.1)

  -- .. and none waits
  pub no_commit_waits : (wait : Wait) → SettledCall g s session call.Commit (Waits wait) new → ⊥
  no_commit_waits wait h = commit_waits g s new session wait (at_once call.Commit (λ asks. asks) (Waits wait) h)

-- behind a commit its session is in no transaction
pub commit_ends : (g : Geometry) (o : Opening) (found : List LogRecord) (es : List Entry) (s new : State) → IsStateAfter o found es s → (session : ℕ) (answer : Answer)
    → SettledCall g s session call.Commit (Done answer) new → HasNoTxn new session
commit_ends g o found es s new k session answer h =
    answered_in_none g o found es s new k.sessions session answer (at_once g s new session call.Commit (λ asks. asks) (Done answer) h)

-- When no request of a session's call waits.
use Rattle.std.proofs.Common.{◌≡◌, ℕ, List, Option, None, Some, IfNone, true, false, refl, sym, ap, subst, ◌∙◌}
use Rattle.shore_types.specs.declared.locking.Granule.{Granule}
use Rattle.shore_model.specs.declared.step.Wait.{Wait}
use Rattle.shore_model.specs.declared.step.Wait.TheVariants.{Durable, Lock}
use Rattle.shore_locks.specs.Tables.{is_waiting}
use Rattle.laws_calls.proofs.Sessions.{its_txn}
use Rattle.laws_calls.specs.GivingUp.{HasNoRequest}
use Rattle.laws_calls.specs.States.{DoesNotWait, IsOfSession, State, Waiting}
use Rattle.laws_lives.specs.Sessions.{SessionTxn}
use Rattle.laws_lives.specs.Views.{IsAmong}
use Rattle.shore_sessions.specs.Calls.{awaits_record, is_durable}
use Rattle.shore_sessions.specs.Standing.{HasWaits}
use Rattle.shore_sessions.specs.declared.waits.WaitingCall.{WaitingCall}
use Rattle.shore_sessions.proofs.Taking.{AreApart, one_of_session}
use Rattle.shore_sessions.proofs.WaitSteps.{waiting_call}

pub if_none : {A P : Type 0} (o : Option A) → P → IfNone o P
if_none None holds = holds
if_none (Some x) holds = tt

pub lock_of : (wait : Wait) → is_durable wait ≡ false → (at : Granule) × (wait ≡ Lock at)
lock_of (Durable n) plain = cc
lock_of (Lock at) plain = (at, refl)

-- no call of the session waits
pub none_of_idle : (s : State) (session : ℕ) → DoesNotWait s session → HasNoRequest s session
none_of_idle s session idle w at a there of waits its = absurd (idle w there of)

-- its call waits for its record
pub none_of_record : (calls : List WaitingCall) → AreApart calls → (s : State) → HasWaits calls s → (session : ℕ) (v : WaitingCall) → IsAmong v calls → v.session ≡ session → awaits_record v ≡ true
    → HasNoRequest s session
none_of_record calls apart s was session v there of durable w at a m its waits active =
    let x = waiting_call calls s was w m in
    let same : x.0 ≡ v = one_of_session calls apart x.0 v x.1 there (ap (λ (y : Waiting). y.session) x.2 ∙ its ∙ sym of) in
    let clash : true ≡ false = sym durable ∙ ap awaits_record (sym same) ∙ ap is_durable (ap (λ (y : Waiting). y.wait) x.2 ∙ waits) in cc

-- its transaction waits with no request
pub none_of_quiet : (s : State) (session : ℕ) (b : SessionTxn) → IsOfSession s session b → is_waiting b.txn s.locks.requests ≡ false → HasNoRequest s session
none_of_quiet s session b mine quiet w at a there of waits its =
    subst (λ t. is_waiting t s.locks.requests ≡ false) (sym (its_txn s.sessions b session mine.0.1 mine.1) ∙ its_txn s.sessions a session its.0.1 its.1) quiet

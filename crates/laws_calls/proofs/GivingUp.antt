-- A wait for a lock that is taken back: what it leaves, whom it names, and that it can be.
use Rattle.std.proofs.Common.{◌≡◌, ◌⊎◌, inl, inr, ⊎_elim, ℕ, List, [], true, false, Option, Some, None, refl, sym, ap, subst, ◌∙◌, length}
use Rattle.std.specs.Prelude.{is_some}
use Rattle.std.proofs.lemmas.Bool.{cases_Bool}
use Rattle.shore_types.specs.declared.faults.Fault.TheVariants as fault
use Rattle.shore_types.specs.declared.locking.Granule.{Granule}
use Rattle.shore_types.specs.declared.versions.Version.{Version}
use Rattle.shore_model.specs.declared.histories.Entry.{Entry}
use Rattle.shore_model.specs.declared.histories.Opening.{Opening}
use Rattle.shore_model.specs.declared.log_records.LogRecord.{LogRecord}
use Rattle.shore_model.specs.declared.requests.Request.{Request}
use Rattle.shore_model.specs.declared.step.Step.{Step}
use Rattle.shore_model.specs.declared.step.Step.TheVariants.{Nothing, Refused}
use Rattle.shore_model.specs.declared.step.Wait.TheVariants.{Lock}
use Rattle.shore_model.specs.Requests.{WaitsFor, placed_last}
use Rattle.shore_locks.proofs.Blocked.{has_somebody, somebody_awaited}
use Rattle.shore_locks.proofs.Outcomes.{quiet_after_cancel}
use Rattle.shore_locks.specs.Grants.{cancelled, in_its_way}
use Rattle.shore_locks.specs.Tables.{is_waiting, waiting_request}
use Rattle.shore_cycles.proofs.Steps.{waits_as}
use Rattle.shore_path.proofs.Freeing.{weaker_cancelled}
use Rattle.shore_path.specs.Acquires.{NoneWeaker, OthersOnlyGranted}
use Rattle.laws_lives.specs.Sessions.{SessionTxn}
use Rattle.laws_lives.specs.Views.{IsAmong}
use Rattle.laws_calls.proofs.Cancelled.{cancelled_grants}
use Rattle.laws_calls.proofs.SessionEndings.{others_wait}
use Rattle.laws_calls.proofs.SessionsWaiting.{no_record_awaited}
use Rattle.laws_calls.specs.CallHistories.{IsRoomyState}
use Rattle.laws_calls.specs.CallSteps.{with_requests}
use Rattle.laws_calls.specs.Events.{IsStateAfter}
use Rattle.laws_calls.specs.GivingUp.{GivesUp, GiveUpStep, HasNoRequest}
use Rattle.laws_calls.specs.Midway.{but_doomed}
use Rattle.laws_calls.specs.SessionWaits.{IsDecisionWait, IsLockWait}
use Rattle.laws_calls.specs.StateChanges.{wait_refused}
use Rattle.laws_calls.specs.States.{DoesNotWait, IsOfSession, State, Waiting}

pub give_up_roomy : (v : Version) (s new : State) (session : ℕ) (step : Step) → GiveUpStep s session step new → IsRoomyState v s → IsRoomyState v new
give_up_roomy v s new session step (inl h) roomy = subst (IsRoomyState v) (sym h.is) (record { slots = roomy.slots; pages = roomy.pages; log = roomy.log })
give_up_roomy v s new session step (inr h) roomy = subst (IsRoomyState v) (sym h.is) roomy

module _ (s new : State) (session : ℕ) (step : Step) where
  pub given_up_alone : GiveUpStep s session step new → new ≡ but_doomed s [] new
  given_up_alone (inl h) = subst (λ (x : State). x ≡ but_doomed s [] x) (sym h.is) refl
  given_up_alone (inr h) = subst (λ (x : State). x ≡ but_doomed s [] x) (sym h.is) refl

  module _ (h : GivesUp s session step new) where
    pub given_up_idle : DoesNotWait new session
    given_up_idle = others_wait s new session (ap (λ (x : State). x.waiting) h.is)

    pub given_up_keeps_txn : IsOfSession new session h.txn
    given_up_keeps_txn = subst (λ (x : State). IsOfSession x session h.txn) (sym h.is) h.its

module _ (o : Opening) (found : List LogRecord) (es : List Entry) (s : State) (k : IsStateAfter o found es s) where
  module _ (session : ℕ) (step : Step) (new : State) (h : GivesUp s session step new) where
    pub given_up_quiet : is_waiting h.txn.txn new.locks.requests ≡ false
    given_up_quiet = subst (λ (x : State). is_waiting h.txn.txn x.locks.requests ≡ false) (sym h.is) (quiet_after_cancel h.txn.txn s.locks.requests k.sessions.locks.orderly)

    pub given_up_grants : OthersOnlyGranted s.locks.requests new.locks.requests h.txn.txn
    given_up_grants =
        subst (λ (x : State). OthersOnlyGranted s.locks.requests x.locks.requests h.txn.txn) (sym h.is) (cancelled_grants s.locks.requests h.txn.txn k.sessions.locks.orderly)

    pub given_up_weakens_none : NoneWeaker s.locks.requests new.locks.requests
    given_up_weakens_none = subst (λ (x : State). NoneWeaker s.locks.requests x.locks.requests) (sym h.is) (weaker_cancelled h.txn.txn s.locks.requests k.sessions.locks.orderly)

  module _ (session : ℕ) (a : SessionTxn) (its : IsOfSession s session a) (running : s.failed ≡ false) where
    -- whoever waits in the table has a call that waits for a lock
    pub quiet_of_none : HasNoRequest s session → is_waiting a.txn s.locks.requests ≡ false
    quiet_of_none none = ⊎_elim
        (λ waits. k.sessions.locks.waits running a its.0.0 (λ w m spared same. absurd (clash waits w m (same ∙ its.1))))
        (λ quiet. quiet)
        (cases_Bool (is_waiting a.txn s.locks.requests))
      where
        clash : is_waiting a.txn s.locks.requests ≡ true → (w : Waiting) → IsAmong w s.waiting → w.session ≡ session → ⊥
        clash waits w m same = by (k.waits.each w m)
          where
            by : IsDecisionWait (length found) s w ⊎ IsLockWait s w → ⊥
            by (inl d) = no_record_awaited o found es s k.sessions k.waits a its.0 w m (same ∙ sym its.1) d.number (ap (λ (x : Waiting). x.wait) d.is)
            by (inr l) = let quiet = none w l.at a m same l.is its in cc

    pub may_give_up : (w : Waiting) (at : Granule) → IsAmong w s.waiting → w.session ≡ session → w.wait ≡ Lock at → is_waiting a.txn s.locks.requests ≡ true
        → (holder : ℕ) × (new : State) × GivesUp s session (Refused (fault.WouldBlock holder)) new
    may_give_up w at m same waits is = of (waiting_request a.txn s.locks.requests) refl is
      where
        named : (r : Request) → waiting_request a.txn s.locks.requests ≡ Some r → (other : Option ℕ) → in_its_way r s.locks.requests ≡ other → is_some other ≡ true
            → (holder : ℕ) × (new : State) × GivesUp s session (Refused (fault.WouldBlock holder)) new
        named r asks None blocked there = cc
        named r asks (Some holder) blocked there = (
          holder,
          with_requests (wait_refused s session) (cancelled a.txn s.locks.requests),
          record { running = running; waited = w; there = m; of = same; at = at; waits = waits; txn = a; its = its; request = r; asks = asks; holder = holder; blocked = blocked; told = refl; is = refl },
        )

        of : (r : Option Request) → waiting_request a.txn s.locks.requests ≡ r → is_some r ≡ true → (holder : ℕ) × (new : State) × GivesUp s session (Refused (fault.WouldBlock holder)) new
        of None asks there = cc
        of (Some r) asks there = named r asks (in_its_way r s.locks.requests) refl (has_somebody s.locks.requests k.sessions.locks.orderly a.txn r asks)

  -- .. so nothing is given up only where none waits
  pub nothing_waits : (session : ℕ) (new : State) (a : SessionTxn) → s.failed ≡ false → IsOfSession s session a → GiveUpStep s session Nothing new → is_waiting a.txn s.locks.requests ≡ false
  nothing_waits session new a running its (inl h) = let told : Nothing ≡ Refused (fault.WouldBlock h.holder) = h.told in cc
  nothing_waits session new a running its (inr h) = quiet_of_none session a its running (h.none running)

-- who is named is one for whom the transaction would wait, if it asked now
pub given_up_names : (s new : State) (session : ℕ) (step : Step) (h : GivesUp s session step new) → WaitsFor (placed_last h.request s.locks.requests) h.txn.txn h.holder
given_up_names s new session step h =
    let w = waits_as h.txn.txn s.locks.requests h.request h.asks in
    subst (λ t. WaitsFor (placed_last h.request s.locks.requests) t h.holder) w.by (somebody_awaited s.locks.requests h.request h.holder w.wants h.blocked)

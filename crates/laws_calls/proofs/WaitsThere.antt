-- A request with which a transaction waits is its session's call's, at the granule for which that waits: each step keeps that.
use Rattle.std.proofs.Common.{◌≡◌, ◌≢◌, ◌⊎◌, inl, inr, ⊎_elim, ◌++◌, ℕ, List, ◌∷◌, true, false, Option, Some, None, refl, sym, ap, subst, ◌∙◌, cond, arith}
use Rattle.std.specs.Prelude.{◌==◌, is_some}
use Rattle.std.proofs.lemmas.Bool.{cases_Bool, eqb-false, eqb-true, eq-eqb}
use Rattle.shore_types.specs.declared.faults.Fault.{Fault}
use Rattle.shore_types.specs.declared.layout.Geometry.{Geometry}
use Rattle.shore_types.specs.declared.locking.Granule.{Granule}
use Rattle.shore_model.specs.declared.calls.Answer.{Answer}
use Rattle.shore_model.specs.declared.calls.Call.{Call}
use Rattle.shore_model.specs.declared.calls.Call.TheVariants as call
use Rattle.shore_model.specs.declared.histories.Entry.{Entry}
use Rattle.shore_model.specs.declared.histories.Opening.{Opening}
use Rattle.shore_model.specs.declared.log_records.LogRecord.{LogRecord}
use Rattle.shore_model.specs.declared.requests.Request.{Request}
use Rattle.shore_model.specs.declared.rollbacks.Rollback.TheVariants.{To, Whole}
use Rattle.shore_model.specs.declared.step.Step.{Step}
use Rattle.shore_model.specs.declared.step.Step.TheVariants.{Done, Nothing, Refused, Waits}
use Rattle.shore_model.specs.declared.step.Wait.{Wait}
use Rattle.shore_model.specs.declared.step.Wait.TheVariants.{Durable, Lock}
use Rattle.shore_locks.specs.Grants.{cancelled}
use Rattle.shore_locks.specs.Orderly.{IsOrderly}
use Rattle.shore_locks.specs.Tables.{is_waiting, waiting_request}
use Rattle.shore_locks.proofs.Members.{In}
use Rattle.shore_cycles.proofs.Steps.{waits_as}
use Rattle.shore_cycles.specs.declared.victims.Victim.{Victim}
use Rattle.laws_lives.proofs.Members.{among_without}
use Rattle.laws_lives.specs.Sessions.{SessionTxn, Sessions, in_txn, prepare_answered}
use Rattle.laws_lives.specs.Views.{IsAmong}
use Rattle.laws_calls.proofs.AfterRefusals.{goes_leaves}
use Rattle.laws_calls.proofs.AskedLocks.{ChangesByCall, call_changes, on_changes}
use Rattle.laws_calls.proofs.Elements.{waits_on}
use Rattle.laws_calls.proofs.LockWaits.{waited_so}
use Rattle.laws_calls.proofs.SessionEndings.{call_waits, done_leaves, refusing_leaves, call_adds}
use Rattle.laws_calls.proofs.SessionInversions.{durable_no_lock, waits_on_lock}
use Rattle.laws_calls.proofs.SessionResumes.{woken}
use Rattle.laws_calls.proofs.SessionStates.{session_call_stays, session_resume_stays}
use Rattle.laws_calls.proofs.Sessions.{one_txn, one_member, prepare_seats}
use Rattle.laws_calls.proofs.SettledEnds.{call_leaves, idle_before}
use Rattle.laws_calls.proofs.TakenLocks.{leaves}
use Rattle.laws_calls.proofs.WaitingRequests.{NoneWaitsAnew, cancelled_none, found_waiting, others_none, released_none}
use Rattle.laws_calls.specs.CallSteps.{AbortStep, AnswersBehind, BeginStep, CallGoesOn, CallStep, CommitStep, InnerStep, ResumeStep, ResumesWait, behind_lock, lock_waiting, on_conflict_of, with_requests, prepare_ended, OutsideStep}
use Rattle.laws_calls.specs.Events.{IsStateAfter, entries_of_resume}
use Rattle.laws_calls.specs.LockChanges.{TakesAsAsked}
use Rattle.laws_calls.specs.LockedStates.{IsSessionsState}
use Rattle.laws_calls.specs.Rollbacks.{BackToStep, SavepointStep}
use Rattle.laws_calls.specs.SessionWaits.{AllWaitThere, IsItsRequest, WaitsThere}
use Rattle.laws_calls.specs.Shapes.{with_locks_of}
use Rattle.laws_calls.specs.StateChanges.{wait_refused, begun}
use Rattle.laws_calls.specs.States.{DoesNotWait, IsOfSession, State, Waiting, without_waiting, HasSeat}
use Rattle.laws_calls.specs.Victims.{TakesVictim, TellsVictim, Withdraws, victim_taken, with_cycle}
use Rattle.shore_model.specs.declared.sessions.SessionState.{SessionState}
use Rattle.shore_model.specs.Histories.{free}
use Rattle.laws_calls.proofs.Outside.{outside_something, outside_or}
use Rattle.laws_calls.specs.Prepares.{PrepareStep}
use Rattle.laws_calls.specs.Resolves.{resolve_ended}
use Rattle.laws_calls.proofs.WereUnderWay.{WasUnderWay, was_it, was_with, was_beside, was_in_txn, was_in, AllWereUnderWay, interrupted_were, told_seat, resolve_were}

module _ (g : Geometry) (l : State) (a : SessionTxn) (new : State) where
  -- what a transaction's call leaves once it is answered
  answers_were : (c : Call) (answer : Answer) → AnswersBehind g l a c answer new → AllWereUnderWay l new
  answers_were (call.Get id) answer h b = was_in l new _ b h.1 (was_with l a.txn _ b)
  answers_were (call.GetForUpdate id) answer h b = was_in l new _ b h.1 (was_with l a.txn _ b)
  answers_were (call.Insert store bytes) answer h b = was_in l new _ b h.3.2 (was_with l a.txn _ b)
  answers_were (call.Update id bytes) answer h b = was_in l new _ b h.2.2 (was_with l a.txn _ b)
  answers_were (call.Delete id) answer h b = was_in l new _ b h.2.2 (was_with l a.txn _ b)
  answers_were (call.Scan store) answer h b = was_in l new _ b h.1 (was_with l a.txn _ b)
  answers_were (call.Lock at mode) answer h b = was_in l new _ b h.1 (was_with l a.txn _ b)
  answers_were (call.TryLock at mode) answer h b = was_in l new _ b h.1 (was_with l a.txn _ b)
  answers_were _ answer h b = absurd h

pub goes_were : (g : Geometry) (s : State) (a : SessionTxn) (c : Call) (step : Step) (new : State) → CallGoesOn g s a c step new → AllWereUnderWay s new
goes_were g s a c (Done answer) new h b m =
    let had = h.1 in answers_were g (behind_lock s a c had.0) a new c answer (subst (λ (l : State). AnswersBehind g l a c answer new) had.3 h.2) b m
goes_were g s a c (Waits wait) new h b m = was_in s new _ b h.5 (was_it s b) m
goes_were g s a c (Refused f) new h b m = was_in s new (with_locks_of new s) b (goes_leaves g s new a c f h) (was_it s b) m
goes_were g s a c Nothing new h b m = absurd h

module _ (g : Geometry) (s new : State) (session : ℕ) where
  -- of other sessions
  abbrev pub OthersWereUnderWay : Type 0
  OthersWereUnderWay = (b : SessionTxn) → HasSeat new.sessions b → b.session ≢ session → WasUnderWay s b

  begin_were : (step : Step) → BeginStep s session step new → OthersWereUnderWay
  begin_were (Done answer) h b m other = by now.0
    where
      now : HasSeat (begun s session).sessions b
      now = subst (λ (x : State). HasSeat x.sessions b) h.4 m

      by : IsAmong b (begun s session).sessions.active → WasUnderWay s b
      by (inl same) = absurd (other (ap (λ (x : SessionTxn). x.session) (sym same)))
      by (inr later) = was_it s b (was_beside s session (in_txn s.sessions.next_txn) b (λ same. other (sym same)) (later, now.1, now.2))
  begin_were (Refused f) h b m other = was_in s new s b h.1 (was_it s b) m
  begin_were (Waits wait) h b m other = absurd h
  begin_were Nothing h b m other = absurd h

  commit_were : (a : SessionTxn) → a.session ≡ session → (step : Step) → CommitStep s a step new → OthersWereUnderWay
  commit_were a of (Done answer) h b m other =
      was_in s new _ b h.1 (λ now. was_it s b (was_beside s a.session free b (λ same. other (sym same ∙ of)) ((among_without a.txn b s.sessions.active now.0).0, now.1, now.2))) m
  commit_were a of (Waits wait) h b m other = absurd h
  commit_were a of (Refused f) h b m other = absurd h
  commit_were a of Nothing h b m other = absurd h

  prepare_were : (a : SessionTxn) → a.session ≡ session → (global : List ℕ) (step : Step) → PrepareStep g.version s a global step new → OthersWereUnderWay
  prepare_were a of global (Waits wait) h b m other =
      was_in s new _ b h.4 (λ now. was_it s b (now.0, was_in_txn a.txn b.txn (s.sessions.seats b.session) now.1, now.2)) m
  prepare_were a of global (Refused f) h b m other = was_in s new s b h.1 (was_it s b) m
  prepare_were a of global (Done answer) h b m other = absurd h
  prepare_were a of global Nothing h b m other = absurd h

  savepoint_were : (a : SessionTxn) (step : Step) → SavepointStep s a step new → AllWereUnderWay s new
  savepoint_were a (Done answer) h b = was_in s new _ b h.2 (was_with s a.txn _ b)
  savepoint_were a (Refused f) h b = was_in s new s b h.2 (was_it s b)
  savepoint_were a (Waits wait) h b = absurd h
  savepoint_were a Nothing h b = absurd h

  back_were : (a : SessionTxn) (n : ℕ) (step : Step) → BackToStep s a n step new → AllWereUnderWay s new
  back_were a n (Done answer) h b = was_in s new _ b h.2 (was_with s a.txn _ b)
  back_were a n (Refused f) (inl h) b = was_in s new s b h.2 (was_it s b)
  back_were a n (Refused f) (inr h) b = interrupted_were s a (To n) f new h.1 b
  back_were a n (Waits wait) h b = absurd h
  back_were a n Nothing h b = absurd h

  abort_were : (a : SessionTxn) → a.session ≡ session → (step : Step) → AbortStep s a step new → OthersWereUnderWay
  abort_were a of (Done answer) h b m other =
      was_in s new _ b h.1 (λ now. was_it s b (was_beside s a.session free b (λ same. other (sym same ∙ of)) ((among_without a.txn b s.sessions.active now.0).0, now.1, now.2))) m
  abort_were a of (Refused f) h b m other = interrupted_were s a Whole f new h b m
  abort_were a of (Waits wait) h b m other = absurd h
  abort_were a of Nothing h b m other = absurd h

  inner_were : (a : SessionTxn) → a.session ≡ session → (c : Call) (step : Step) → InnerStep g s a c step new → OthersWereUnderWay
  inner_were a of c step (inl h) b m other = was_in s new s b h.3 (was_it s b) m
  inner_were a of c step (inr (inl (whole, inl h))) b m other = was_in s new s b h.3 (was_it s b) m
  inner_were a of c step (inr (inl (whole, inr (inl h)))) b m other = goes_were g s a c step new h.1 b m
  inner_were a of c step (inr (inl (whole, inr (inr (inl h))))) b m other = commit_were a of step h.1 b m other
  inner_were a of c step (inr (inl (whole, inr (inr (inr (inl h)))))) b m other = savepoint_were a step h.1 b m
  inner_were a of c step (inr (inl (whole, inr (inr (inr (inr h)))))) b m other = prepare_were a of h.0 step h.2 b m other
  inner_were a of c step (inr (inr (inl h))) b m other = back_were a h.0 step h.3 b m
  inner_were a of c step (inr (inr (inr h))) b m other = abort_were a of step h.1 b m other

  outside_were : (c : Call) (step : Step) → OutsideStep s session c step new → OthersWereUnderWay
  outside_were c step h b m other = ⊎_elim (λ same. was_in s new s b same (was_it s b) m) (λ r. resolve_were s session r.global r.asked step new r.to b m other) (outside_or s session c step new h)

  pub call_were : (c : Call) (step : Step) → CallStep g s session c step new → OthersWereUnderWay
  call_were c step (inl h) b m other = was_in s new s b h.1 (was_it s b) m
  call_were c step (inr (inl h)) b m other = was_in s new s b h.2 (was_it s b) m
  call_were c step (inr (inr (inl h))) b m other = was_in s new s b h.3 (was_it s b) m
  call_were c step (inr (inr (inr (inl h)))) b m other = begin_were step h.3 b m other
  call_were c step (inr (inr (inr (inr (inl h))))) b m other = was_in s new s b h.5 (was_it s b) m
  call_were c step (inr (inr (inr (inr (inr (inr (inl h))))))) b m other = was_in s new s b h.5 (was_it s b) m
  call_were c step (inr (inr (inr (inr (inr (inr (inr h))))))) b m other = outside_were c step h.2 b m other
  call_were c step (inr (inr (inr (inr (inr (inl h)))))) b m other = inner_were h.2.0 h.2.1.1 c step h.2.2 b m other

  -- ---- no call comes to nothing

  pub call_nothing : (c : Call) → CallStep g s session c Nothing new → ⊥
  call_nothing c (inl h) = let clash = h.0 in cc
  call_nothing c (inr (inl h)) = let clash = h.1 in cc
  call_nothing c (inr (inr (inl h))) = let clash = h.2 in cc
  call_nothing c (inr (inr (inr (inl h)))) = h.3
  call_nothing c (inr (inr (inr (inr (inl h))))) = let clash = h.4 in cc
  call_nothing c (inr (inr (inr (inr (inr (inr (inl h))))))) = let clash = h.4 in cc
  call_nothing c (inr (inr (inr (inr (inr (inr (inr h))))))) = outside_something s session c new h.2
  call_nothing c (inr (inr (inr (inr (inr (inl h)))))) = by h.2.2
    where
      by : InnerStep g s h.2.0 c Nothing new → ⊥
      by (inl x) = let clash = x.2 in cc
      by (inr (inl (whole, inl x))) = let clash = x.2 in cc
      by (inr (inl (whole, inr (inl x)))) = x.1
      by (inr (inl (whole, inr (inr (inl x))))) = x.1
      by (inr (inl (whole, inr (inr (inr (inl x)))))) = x.1
      by (inr (inl (whole, inr (inr (inr (inr x)))))) = x.2
      by (inr (inr (inl x))) = x.3
      by (inr (inr (inr x))) = x.1

  -- ---- calls that wait

  abbrev pub OthersWaited : Type 0
  OthersWaited = (w : Waiting) → IsAmong w new.waiting → w.session ≢ session → IsAmong w s.waiting

  same_waited : new.waiting ≡ s.waiting → OthersWaited
  same_waited same w m other = subst (IsAmong w) same m

  one_waited : (x : Waiting) → x.session ≡ session → new.waiting ≡ x ∷ s.waiting → OthersWaited
  one_waited x of is w m other = by (subst (IsAmong w) is m)
    where
      by : IsAmong w (x ∷ s.waiting) → IsAmong w s.waiting
      by (inl same) = absurd (other (ap (λ (y : Waiting). y.session) (sym same) ∙ of))
      by (inr later) = later

  call_waited : (c : Call) (step : Step) → CallStep g s session c step new → OthersWaited
  call_waited c (Done answer) h = same_waited (call_leaves g s new session c (Done answer) h tt)
  call_waited c (Refused f) h = same_waited (call_leaves g s new session c (Refused f) h tt)
  call_waited c (Waits wait) h = one_waited (record { session = session; call = c; wait = wait; cycle = None }) refl (call_adds g s new session c wait h)
  call_waited c Nothing h = absurd (call_nothing c h)

-- ---- it is kept

-- of a session whose call and transaction were there, with no request of it that begins to wait
there_kept : (s new : State) (session : ℕ) → IsOrderly s.locks.requests
    → ((w : Waiting) → IsAmong w new.waiting → w.session ≡ session → (v : Waiting) × IsAmong v s.waiting × (v.session ≡ session) × (v.wait ≡ w.wait) × (v.call ≡ w.call))
    → ((b : SessionTxn) → IsOfSession new session b → (a : SessionTxn) × IsOfSession s session a × (a.txn ≡ b.txn))
    → ((a : SessionTxn) → IsOfSession s session a → (r : Request) → In r new.locks.requests → r.txn ≡ a.txn → is_some r.wanted ≡ true → In r s.locks.requests)
    → WaitsThere s session → WaitsThere new session
there_kept s new session orderly waited were stood k w m of at lock b its r is =
    let v = waited w m of in
    let a = were b its in
    let waits = waits_as b.txn new.locks.requests r is in
    let own = waits.by ∙ sym a.2 in
    subst (λ (c : Call). IsItsRequest c at r) v.4
    (k v.0 v.1 v.2 at (v.3 ∙ lock) a.0 a.1 r (found_waiting a.0.txn s.locks.requests orderly r (stood a.0 a.1 r waits.there own waits.wants) own waits.wants))

-- whoever waits, if no request begins to wait
pub all_there : (s new : State) → IsOrderly s.locks.requests → ((w : Waiting) → IsAmong w new.waiting → (v : Waiting) × IsAmong v s.waiting × (v.session ≡ w.session) × (v.wait ≡ w.wait) × (v.call ≡ w.call))
    → AllWereUnderWay s new → NoneWaitsAnew s.locks.requests new.locks.requests → AllWaitThere s → AllWaitThere new
all_there s new orderly waited were stood k session =
    there_kept s new session orderly
    (λ w m of. let v = waited w m in (v.0, v.1, v.2 ∙ of, v.3, v.4))
    (λ b its. let a = were b its.0 in (a.0, (a.1.0, a.1.1 ∙ its.1), a.2))
    (λ a its r there own wants. stood r there wants)
    (k session)

-- ---- a call

same_request : (o : Option Request) (q r : Request) → o ≡ Some q → o ≡ Some r → q ≡ r
same_request o q r d e = cc

-- whose call has just come to wait at a granule waits there, and with that one request alone
module _ (g : Geometry) (o : Opening) (found : List LogRecord) (es : List Entry) (s : State) (k : IsSessionsState o found es s) (a : SessionTxn) (mem : HasSeat s.sessions a) (quiet : is_waiting a.txn s.locks.requests ≡ false)
    (c : Call) (at : Granule) (new : State) (h : CallGoesOn g s a c (Waits (Lock at)) new) where
  lock_at : (wait : Wait) (there : Granule) → Lock at ≡ Lock there → at ≡ there
  lock_at wait there e = cc

  pub fresh : (request : Request) × (waiting_request a.txn new.locks.requests ≡ Some request) × IsItsRequest c at request
  fresh =
      let waits = (leaves o found es s k a mem quiet (on_conflict_of c) h.0.granule h.0.mode).waits h.1 h.3 in
      let there : at ≡ h.1 = lock_at (Lock at) h.1 h.4 in (
        waits.1.request,
        ap (λ (x : State). waiting_request a.txn x.locks.requests) h.5 ∙ waits.1.waits,
        subst (λ (x : Granule). IsItsRequest c x waits.1.request) (sym there) (record { lock = h.0; asked = h.2; there = waits.1.at; on = waits.0; wanted = waits.1.wanted }),
      )

  pub fresh_active : HasSeat new.sessions a
  fresh_active = subst (λ (x : State). HasSeat x.sessions a) (sym h.5) mem

-- the fresh wait of a session's call
module _ (o : Opening) (found : List LogRecord) (es : List Entry) (new : State) (k : IsStateAfter o found es new) (session : ℕ) (a : SessionTxn) (of : IsOfSession new session a) (at : Granule) (c : Call)
    (fresh : (request : Request) × (waiting_request a.txn new.locks.requests ≡ Some request) × IsItsRequest c at request)
    (w : Waiting) (there : IsAmong w new.waiting) (its : w.session ≡ session) (asks : w.call ≡ c) (lock : w.wait ≡ Lock at) where
  same_granule : (x y : Granule) → Lock x ≡ Lock y → x ≡ y
  same_granule x y e = cc

  pub fresh_there : WaitsThere new session
  fresh_there v m mine to waits b ofb r is =
      let one = k.waits.once w v there m (its ∙ sym mine) in
      let same : a.txn ≡ b.txn = one_txn new.sessions a b of.0.1 ofb.0.1 (of.1 ∙ sym ofb.1) in
      let request = same_request (waiting_request b.txn new.locks.requests) fresh.0 r (ap (λ t. waiting_request t new.locks.requests) (sym same) ∙ fresh.1) is in
      subst (λ (x : Request). IsItsRequest v.call to x) request
      (subst (λ (x : Granule). IsItsRequest v.call x fresh.0) (same_granule at to (sym lock ∙ ap (λ (x : Waiting). x.wait) one ∙ waits))
      (subst (λ (d : Call). IsItsRequest d at fresh.0) (sym asks ∙ ap (λ (x : Waiting). x.call) one) fresh.2))

module _ (g : Geometry) (o : Opening) (found : List LogRecord) (es : List Entry) (s : State) (k : IsStateAfter o found es s) (session : ℕ) (c : Call) where
  -- another's requests are only granted
  call_stood : (step : Step) (new : State) → CallStep g s session c step new → (a : SessionTxn) → HasSeat s.sessions a → a.session ≢ session
      → (r : Request) → In r new.locks.requests → r.txn ≡ a.txn → is_some r.wanted ≡ true → In r s.locks.requests
  call_stood step new h a mem other r there own wants = by (call_changes g o found es s k session c step new h)
    where
      -- it is no request of the caller's
      apart : (t : SessionTxn) → IsOfSession s session t → r.txn ≢ t.txn
      apart t of same = other (ap (λ (x : SessionTxn). x.session) (one_member k.sessions a t mem.0 of.0.0 (sym own ∙ same)) ∙ of.1)

      by : ChangesByCall s session c step new → In r s.locks.requests
      by (inl (inl same)) = subst (In r) same there
      by (inl (inr (t, of, (lock, asked, inl one)))) = others_none s.locks.requests new.locks.requests t.txn one.others r there wants (apart t of)
      by (inl (inr (t, of, (lock, asked, inr place)))) =
          others_none s.locks.requests place.between t.txn place.first.others r (others_none place.between new.locks.requests t.txn place.place.others r there wants (apart t of)) wants (apart t of)
      by (inr (inl (ends, (t, of, gone)))) = released_none t.txn s.locks.requests k.sessions.locks.orderly.one_each r (subst (In r) gone there) wants
      by (inr (inr (t, its, ends, gone))) = released_none t.txn s.locks.requests k.sessions.locks.orderly.one_each r (subst (In r) gone there) wants

  -- its own
  own_there : (step : Step) (new : State) → CallStep g s session c step new → WaitsThere s session → WaitsThere new session
  own_there step new h was = by step h
    where
      idle : DoesNotWait new session → WaitsThere new session
      idle none w m of = absurd (none w m of)

      ended : (step : Step) → CallStep g s session c step new → new.waiting ≡ s.waiting → DoesNotWait s session → WaitsThere new session
      ended step h same none = idle (λ w m. none w (subst (IsAmong w) same m))

      as_it_was : new ≡ s → WaitsThere new session
      as_it_was same = subst (λ x. WaitsThere x session) (sym same) was

      refused : (f : Fault) → CallStep g s session c (Refused f) new → new.waiting ≡ s.waiting → WaitsThere new session
      refused f (inl h) same = as_it_was h.1
      refused f (inr (inl h)) same = as_it_was h.2
      refused f (inr (inr (inl h))) same = as_it_was h.3
      refused f (inr (inr (inr (inl h)))) same = idle (λ w m. h.1 w (subst (IsAmong w) same m))
      refused f (inr (inr (inr (inr (inl h))))) same = as_it_was h.5
      refused f (inr (inr (inr (inr (inr (inr (inl h))))))) same = as_it_was h.5
      refused f (inr (inr (inr (inr (inr (inr (inr h))))))) same = idle (λ w m. h.1 w (subst (IsAmong w) same m))
      refused f (inr (inr (inr (inr (inr (inl h)))))) same = idle (λ w m. h.1 w (subst (IsAmong w) same m))

      by : (step : Step) → CallStep g s session c step new → WaitsThere new session
      by (Done answer) h =
          ended (Done answer) h (call_leaves g s new session c (Done answer) h tt) (idle_before g s new session c (Done answer) (λ f e. let clash = e in absurd cc) h)
      by (Refused f) h = refused f h (call_leaves g s new session c (Refused f) h tt)
      by Nothing h = absurd (call_nothing g s new session c h)
      by (Waits (Durable n)) h = λ w m of at lock.
          let later = session_call_stays o found es s k g session c (Waits (Durable n)) new h in
          let one = later.waits.once w (record { session = session; call = c; wait = Durable n; cycle = None }) m (call_waits g s new session c (Durable n) h) of in
          absurd (durable_no_lock n at (ap (λ (x : Waiting). x.wait) (sym one) ∙ lock))
      by (Waits (Lock at)) h =
          let t = waits_on_lock g s new session c at h in
          let later = session_call_stays o found es s k g session c (Waits (Lock at)) new h in
          let quiet = k.sessions.locks.waits t.running t.txn t.of.0.0 (λ w m spared same. t.idle w m (same ∙ t.of.1)) in
          fresh_there o found _ new later session t.txn (fresh_active g o found es s k.sessions t.txn t.of.0 quiet c at new t.goes, t.of.1) at c
          (fresh g o found es s k.sessions t.txn t.of.0 quiet c at new t.goes) (record { session = session; call = c; wait = Lock at; cycle = None }) (call_waits g s new session c (Lock at) h) refl refl refl

  pub call_there : (step : Step) (new : State) → CallStep g s session c step new → AllWaitThere s → AllWaitThere new
  call_there step new h was v = ⊎_elim
      (λ own. subst (WaitsThere new) (sym (eqb-true v session own)) (own_there step new h (was session)))
      (λ other.
      let apart = eqb-false v session other in
      there_kept s new v k.sessions.locks.orderly
      (λ w m of. (w, call_waited g s new session c step h w m (λ same. apart (sym of ∙ same)), of, refl, refl))
      (λ b its. let a = call_were g s new session c step h b its.0 (λ same. apart (sym its.1 ∙ same)) in (a.0, (a.1.0, a.1.1 ∙ its.1), a.2))
      (λ a its r there own wants. call_stood step new h a its.0 (λ same. apart (sym its.1 ∙ same)) r there own wants)
      (was v))
      (cases_Bool (v == session))

-- ---- a call that goes on

module _ (g : Geometry) (o : Opening) (found : List LogRecord) (es : List Entry) (s : State) (k : IsSessionsState o found es s) (a : SessionTxn) (session : ℕ) (of : IsOfSession s session a) (idle : DoesNotWait s session)
    (quiet : is_waiting a.txn s.locks.requests ≡ false) (c : Call) (new : State) where
  goes_stood : (step : Step) → CallGoesOn g s a c step new → (b : SessionTxn) → HasSeat s.sessions b → b.session ≢ session
      → (r : Request) → In r new.locks.requests → r.txn ≡ b.txn → is_some r.wanted ≡ true → In r s.locks.requests
  goes_stood step h b mem other r there own wants = by (on_changes g o found es session a of.1 s k of.0 quiet c step new h)
    where
      apart : r.txn ≢ a.txn
      apart same = other (ap (λ (x : SessionTxn). x.session) (one_member k b a mem.0 of.0.0 (sym own ∙ same)) ∙ of.1)

      by : (new.locks.requests ≡ s.locks.requests) ⊎ TakesAsAsked s.locks.requests a.txn c new.locks.requests → In r s.locks.requests
      by (inl same) = subst (In r) same there
      by (inr (lock, asked, inl one)) = others_none s.locks.requests new.locks.requests a.txn one.others r there wants apart
      by (inr (lock, asked, inr place)) =
          others_none s.locks.requests place.between a.txn place.first.others r (others_none place.between new.locks.requests a.txn place.place.others r there wants apart) wants apart

  goes_waited : (step : Step) → CallGoesOn g s a c step new → OthersWaited g s new session
  goes_waited (Done answer) h = same_waited g s new session (done_leaves g s a c answer new h)
  goes_waited (Refused f) h = same_waited g s new session (refusing_leaves g s a c f new h)
  goes_waited (Waits wait) h = one_waited g s new session (lock_waiting a c h.1) of.1 (ap (λ (x : State). x.waiting) h.5)
  goes_waited Nothing h = absurd h

  module _ (later : List Entry) (stays : IsStateAfter o found later new) where
    goes_own : (step : Step) → CallGoesOn g s a c step new → WaitsThere new session
    goes_own (Done answer) h = λ w m its. absurd (idle w (subst (IsAmong w) (done_leaves g s a c answer new h) m) its)
    goes_own (Refused f) h = λ w m its. absurd (idle w (subst (IsAmong w) (refusing_leaves g s a c f new h) m) its)
    goes_own Nothing h = absurd h
    goes_own (Waits (Durable n)) h = absurd (durable_no_lock n h.1 h.4)
    goes_own (Waits (Lock at)) h =
        fresh_there o found later new stays session a (fresh_active g o found es s k a of.0 quiet c at new h, of.1) at c (fresh g o found es s k a of.0 quiet c at new h)
        (lock_waiting a c h.1) (subst (λ (x : State). IsAmong (lock_waiting a c h.1) x.waiting) (sym h.5) (inl refl)) of.1 refl (sym h.4)

    pub goes_there : (step : Step) → CallGoesOn g s a c step new → AllWaitThere s → AllWaitThere new
    goes_there step h was v = ⊎_elim
        (λ own. subst (WaitsThere new) (sym (eqb-true v session own)) (goes_own step h))
        (λ other.
        let apart = eqb-false v session other in
        there_kept s new v k.locks.orderly
        (λ w m its. (w, goes_waited step h w m (λ same. apart (sym its ∙ same)), its, refl, refl))
        (λ b its. let w = goes_were g s a c step new h b its.0 in (w.0, (w.1.0, w.1.1 ∙ its.1), w.2))
        (λ b its r there own wants. goes_stood step h b its.0 (λ same. apart (sym its.1 ∙ same)) r there own wants)
        (was v))
        (cases_Bool (v == session))

-- ---- a resume

-- who waits without a session's call waited
still_waited : (s : State) (n : ℕ) (w : Waiting) → IsAmong w (without_waiting n s.waiting) → (v : Waiting) × IsAmong v s.waiting × (v.session ≡ w.session) × (v.wait ≡ w.wait) × (v.call ≡ w.call)
still_waited s n w m = (w, (waits_on n w s.waiting m).0, refl, refl, refl)

-- who is its session's once a commit is answered was so
pub freed_were : (s : State) (a b : SessionTxn) → HasSeat (record s.sessions { seats = λ n. cond (a.session == n) free (s.sessions.seats n) }) b → WasUnderWay s b
freed_were s a b m = was_it s b (was_beside s a.session free b other m)
  where
    other : a.session ≢ b.session
    other same =
        let above = m.2 in
        let here : cond (a.session == b.session) free (s.sessions.seats b.session) ≡ free = ap (λ c. cond c free (s.sessions.seats b.session)) (eq-eqb a.session b.session same) in
        let none : b.txn ≡ 0 = ap (λ (p : SessionState). p.txn) (sym m.1 ∙ here) in
        omega arith

module _ (g : Geometry) (o : Opening) (found : List LogRecord) (es : List Entry) (s : State) (k : IsStateAfter o found es s) (session : ℕ) (step : Step) (new : State) (resumes : ResumeStep g s session step new)
    (was : AllWaitThere s) where
  same_there : new ≡ s → AllWaitThere new
  same_there same = subst AllWaitThere (sym same) was

  woken_there : (n : ℕ) → AllWaitThere (wait_refused s n)
  woken_there n = all_there s (wait_refused s n) k.sessions.locks.orderly (still_waited s n) (was_it s) (λ r there wants. there) was

  prepared_there : (w : Waiting) (t : ℕ) (global : List ℕ) → AllWaitThere (prepare_ended s w.session t global)
  prepared_there w t global =
      subst (λ (x : Sessions). AllWaitThere (record s { sessions = x; waiting = without_waiting w.session s.waiting })) (prepare_seats s.sessions w.session t global)
      (all_there s (record s { sessions = prepare_answered s.sessions t; waiting = without_waiting w.session s.waiting }) k.sessions.locks.orderly (still_waited s w.session) (was_it s) (λ r there wants. there) was)

  wait_there : (w : Waiting) → w.session ≡ session → (wait : Wait) → ResumesWait g s w wait step new → AllWaitThere new
  wait_there w of (Durable n) (inl h) = same_there h.2
  wait_there w of (Durable n) (inr (inl h)) = subst AllWaitThere (sym h.2.4) (prepared_there w h.2.0 h.2.1)
  wait_there w of (Durable n) (inr (inr h)) = subst AllWaitThere (sym h.2.3)
      (all_there s (resolve_ended s w.session h.2.0) k.sessions.locks.orderly (still_waited s w.session) (λ b m. was_it s b (m.0, sym (told_seat s.sessions.seats w.session b.session) ∙ m.1, m.2))
      (λ r there wants. there) was)
  wait_there w of (Lock at) h = ⊎_elim
      (λ still. same_there still.2)
      (λ free.
      goes_there g o found es (wait_refused s w.session) (woken g o found es s k.sessions h.0 w.session h.1 free.0) h.0 w.session h.1 (λ v m. (waits_on w.session v s.waiting m).1) free.0 w.call new
      (es ++ entries_of_resume s session step) (session_resume_stays o found es s k g session step new resumes) step free.1 (woken_there w.session))
      h.2

  pub resume_there : AllWaitThere new
  resume_there = by resumes
    where
      by : ResumeStep g s session step new → AllWaitThere new
      by (inl h) = same_there h.2
      by (inr h) = ⊎_elim
          (λ failed. subst AllWaitThere (sym failed.2) (woken_there h.0.session))
          (λ runs. wait_there h.0 h.2 h.0.wait runs.1)
          h.3

-- ---- victims, and what stops a call

module _ (o : Opening) (found : List LogRecord) (es : List Entry) (s : State) (k : IsStateAfter o found es s) (was : AllWaitThere s) where
  pub victim_there : (t : ℕ) (v : Victim) (new : State) → TakesVictim s t v new → AllWaitThere new
  victim_there t v new h = subst AllWaitThere (sym h.is)
      (all_there s (victim_taken s h.txn v.cycle) k.sessions.locks.orderly waited (λ b. was_with s h.txn.txn _ b) (cancelled_none h.txn.txn s.locks.requests k.sessions.locks.orderly.one_each) was)
    where
      waited : (w : Waiting) → IsAmong w (with_cycle h.txn.session v.cycle s.waiting) → (x : Waiting) × IsAmong x s.waiting × (x.session ≡ w.session) × (x.wait ≡ w.wait) × (x.call ≡ w.call)
      waited w m = let x = waited_so h.txn.session v.cycle s.waiting w m in (x.was, x.there, x.session, x.wait, x.its)

  pub told_there : (session : ℕ) (step : Step) (new : State) → TellsVictim s session step new → AllWaitThere new
  told_there session step new h = subst AllWaitThere (sym h.is) (all_there s (wait_refused s session) k.sessions.locks.orderly (still_waited s session) (was_it s) (λ r there wants. there) was)

  pub withdrawn_there : (a : SessionTxn) (step : Step) (new : State) → Withdraws s a step new → AllWaitThere new
  withdrawn_there a step new h = subst AllWaitThere (sym h.1)
      (all_there s (with_requests (wait_refused s a.session) (cancelled a.txn s.locks.requests)) k.sessions.locks.orderly (still_waited s a.session) (was_it s)
      (cancelled_none a.txn s.locks.requests k.sessions.locks.orderly.one_each) was)

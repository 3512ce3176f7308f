-- The locks of sessions change as a call as a whole asks: whatever victims were taken on the way.
use Rattle.std.proofs.Common.{◌≡◌, ◌⊎◌, inl, inr, ⊎_elim, ℕ, List, [], ◌∷◌, true, false, Some, refl, sym, ap, subst, ◌∙◌, Ok}
use Rattle.std.specs.Prelude.{Contains, is_some}
use Rattle.std.proofs.lemmas.Bool.{cases_Bool}
use Rattle.shore_types.specs.declared.layout.Geometry.{Geometry}
use Rattle.shore_types.specs.declared.locking.Granule.{Granule}
use Rattle.shore_model.specs.declared.calls.Call.{Call}
use Rattle.shore_model.specs.Locks.{path}
use Rattle.shore_model.specs.declared.histories.Entry.{Entry}
use Rattle.shore_model.specs.declared.histories.Opening.{Opening}
use Rattle.shore_model.specs.declared.log_records.LogRecord.{LogRecord}
use Rattle.shore_model.specs.declared.requests.Request.{Request}
use Rattle.shore_model.specs.declared.step.Step.{Step}
use Rattle.shore_model.specs.declared.step.Step.TheVariants.{Done, Nothing, Refused, Waits}
use Rattle.shore_model.specs.declared.step.Wait.{Wait}
use Rattle.shore_model.specs.declared.step.Wait.TheVariants.{Durable, Lock}
use Rattle.shore_locks.proofs.Members.{Contains-In, In-Contains}
use Rattle.shore_locks.proofs.Outcomes.{any_from}
use Rattle.shore_locks.proofs.Tables.{fit_of}
use Rattle.shore_locks.specs.Grants.{cancelled, granted, released, wanted_mode, withdrawn}
use Rattle.shore_locks.specs.Tables.{Table, is_waiting, waiting_request}
use Rattle.shore_cycles.proofs.VictimLemmas.{first_victim, later_spared}
use Rattle.shore_cycles.specs.Blockers.{is_victim}
use Rattle.shore_cycles.specs.declared.victims.Victim.{Victim}
use Rattle.shore_deadlock.proofs.Sparing.{Spares, spares_acquired, spares_on}
use Rattle.shore_deadlock.specs.Locking.{OnlyGrantsOthers}
use Rattle.shore_path.specs.Acquires.{GrowsAsAsked}
use Rattle.shore_path.specs.Walks.{asked_of}
use Rattle.shore_path.specs.declared.answers.Acquired.TheVariants as acquire
use Rattle.shore_path.specs.declared.answers.OnConflict.TheVariants as conflict
use Rattle.shore_types.specs.declared.locking.Granule.TheVariants as granule
use Rattle.shore_types.specs.declared.locking.Mode.TheVariants.{EX}
use Rattle.shore_model.specs.declared.rollbacks.Rollback.TheVariants.{Whole}
use Rattle.laws_locks.specs.CallLocks.{Asked, lock_asked_by}
use Rattle.laws_lives.specs.Sessions.{SessionTxn}
use Rattle.laws_lives.specs.Views.{IsAmong}
use Rattle.laws_calls.proofs.AskedLocks.{PlaceLocks, begin_keeps_locks, goes_on_locks}
use Rattle.laws_calls.proofs.Decided.{both_ways}
use Rattle.laws_calls.proofs.GoingOn.{never_waiting}
use Rattle.laws_calls.proofs.GrownLocks.{Grown, grown_acquired, grown_cancelled, grown_from, grown_waiting}
use Rattle.laws_calls.proofs.Midway.{CallCameTo, CameTo, IsPaused, paused_at_first, paused_next, settled_call_to, settled_resume_to}
use Rattle.laws_calls.proofs.SessionInversions.{same_lock, waits_on_lock}
use Rattle.laws_calls.proofs.SessionResumes.{woken}
use Rattle.laws_calls.proofs.Sessions.{its_txn}
use Rattle.laws_calls.proofs.SettledWaits.{HasWaited, resumes_its}
use Rattle.laws_calls.proofs.RollingLeaves.{back_table, interrupted_table, savepoint_table}
use Rattle.laws_calls.proofs.TakenLocks.{leaves, locked_state}
use Rattle.laws_calls.specs.CallSteps.{AbortStep, CallGoesOn, CallStep, InnerStep, ResumeStep, ResumesWait, behind_lock, lock_outcome, on_conflict_of, place_outcome, OutsideStep, CommitStep}
use Rattle.laws_calls.specs.Events.{IsStateAfter}
use Rattle.laws_calls.specs.LockChanges.{ChangesLocks}
use Rattle.laws_calls.specs.LockedStates.{IsSessionsState}
use Rattle.laws_calls.specs.Midway.{EndsFrom, Interlude, Intervene, IsMidway, Takes, WaitsAnew, cycles_among}
use Rattle.laws_calls.specs.SessionWaits.{WaitsThere}
use Rattle.laws_calls.specs.Settling.{SettledCall, SettledResume, WaitsForNoLock}
use Rattle.laws_calls.specs.StateChanges.{wait_refused}
use Rattle.laws_calls.specs.States.{IsOfSession, State, Waiting, HasSeat}
use Rattle.laws_calls.proofs.PrepareSteps.{prepare_locks}
use Rattle.laws_calls.specs.Shapes.{ResolvesTxn, IsNoRefusal, EndsAtOnce}
use Rattle.laws_calls.proofs.ResolveLeaves.{resolve_locks}
use Rattle.laws_calls.proofs.Outside.{outside_or}

-- ---- words

only_grants : (t : ℕ) (vs : List Victim) (old new : List Request) → Spares t vs old new → OnlyGrantsOthers t vs old new
only_grants t vs old new spares = record {
  stays = λ r there other spared.
      ⊎_elim (λ stood. inl (In-Contains new r stood)) (λ was. inr (was.0, In-Contains new (granted r) was.1)) (spares.stays r (Contains-In old r there) other spared);
  comes = λ r there other.
      ⊎_elim (λ stood. inl (In-Contains old r stood))
      (λ rest. inr (⊎_elim
      (λ was. inl (any_from (λ q. (is_some q.wanted ≡ true) × (r ≡ granted q)) old was.0 was.1 (was.2, was.3)))
      (λ taken. inr (taken.0, any_from (λ q. r ≡ withdrawn q) old taken.1.0 taken.1.1 taken.1.2)) rest))
      (spares.comes r (Contains-In new r there) other);
}

-- ---- midway

-- each victim is among these
abbrev AreIn : List Victim → List Interlude → Type 0
AreIn vs [] = Unit {0}
AreIn vs (Takes b v ∷ between) = (is_victim vs v.txn ≡ true) × AreIn vs between
AreIn vs (WaitsAnew at ∷ between) = AreIn vs between

module _ (g : Geometry) (o : Opening) (found : List LogRecord) (es : List Entry) (session n : ℕ) (c : Call) (lock : Asked) (asked : lock_asked_by c ≡ Some lock) (rs : List Request) (vs : List Victim) where
  abbrev HasGrown : State → Type 0
  HasGrown x = Grown rs n lock.granule lock.mode vs x.locks.requests

  -- the call asks
  goes_grown : (x : State) → IsSessionsState o found es x → (a : SessionTxn) → HasSeat x.sessions a → a.txn ≡ n → is_waiting a.txn x.locks.requests ≡ false → HasGrown x
      → HasGrown (behind_lock x a c lock)
  goes_grown x k a mem is quiet grown =
      subst (λ t. Grown rs t lock.granule lock.mode vs (behind_lock x a c lock).locks.requests) is
      (grown_acquired rs a.txn lock.granule lock.mode vs (on_conflict_of c) x.locks k.locks.orderly quiet (leaves o found es x k a mem quiet (on_conflict_of c) lock.granule lock.mode)
      (subst (λ t. Grown rs t lock.granule lock.mode vs x.locks.requests) (sym is) grown))

  -- .. and waits
  waits_grown : (x : State) → IsSessionsState o found es x → (a : SessionTxn) → HasSeat x.sessions a → a.txn ≡ n → is_waiting a.txn x.locks.requests ≡ false → (wait : Wait) (new : State)
      → CallGoesOn g x a c (Waits wait) new → HasGrown x → HasGrown new
  waits_grown x k a mem is quiet wait new h grown =
      let same = same_lock (lock_asked_by c) lock h.0 asked h.2 in
      subst HasGrown (sym h.5) (subst (λ (l : Asked). Grown rs n lock.granule lock.mode vs (behind_lock x a c l).locks.requests) same (goes_grown x k a mem is quiet grown))

  anew_grown : (x new : State) (at : Granule) → IsPaused g o found es session n c x → ResumeStep g x session (Waits (Lock at)) new → HasGrown x → HasGrown new
  anew_grown x new at p h grown = ⊎_elim
      (λ failed. let clash = failed.1 in absurd cc)
      (λ runs. by (subst (λ (w : Wait). ResumesWait g x p.waits.waited w (Waits (Lock at)) new) p.waits.lock runs.1))
      (resumes_its session n c p.at g x p.waits p.stays.waits.once (Waits (Lock at)) new h)
    where
      by : ResumesWait g x p.waits.waited (Lock p.at) (Waits (Lock at)) new → HasGrown new
      by y = ⊎_elim
          (λ still. subst HasGrown (sym still.2) grown)
          (λ free.
          let number : y.0.txn ≡ n = sym (its_txn x.sessions y.0 session y.1.0.1 (y.1.1 ∙ p.waits.of)) ∙ p.waits.number in
          waits_grown (wait_refused x p.waits.waited.session) (woken g o found es x p.stays.sessions y.0 p.waits.waited.session y.1 free.0) y.0 y.1.0 number free.0 (Lock at) new
          (subst (λ (d : Call). CallGoesOn g (wait_refused x p.waits.waited.session) y.0 d (Waits (Lock at)) new) p.waits.its free.1) grown)
          y.2

  grown_midway : (x : State) (between : List Interlude) (last : State) → AreIn vs between → IsPaused g o found es session n c x → HasGrown x → Intervene g session x between last
      → IsPaused g o found es session n c last × HasGrown last
  grown_midway x [] last are p grown h = (subst (IsPaused g o found es session n c) (sym h) p, subst HasGrown (sym h) grown)
  grown_midway x (Takes b v ∷ between) last are p grown h =
      let taken = h.1.2.0 in
      grown_midway h.0 between last are.1 (paused_next g o found es session n c x h.0 (Takes b v) p h.1)
      (subst HasGrown (sym taken.is)
      (grown_cancelled rs n lock.granule lock.mode vs taken.txn.txn x.locks.requests p.stays.sessions.locks.orderly (inr (subst (λ u. is_victim vs u ≡ true) (sym taken.number) are.0)) grown))
      h.2
  grown_midway x (WaitsAnew at ∷ between) last are p grown h =
      grown_midway h.0 between last are (paused_next g o found es session n c x h.0 (WaitsAnew at) p h.1) (anew_grown x h.0 at p h.1 grown) h.2

  -- ---- the end

  abbrev ChangesSo : List Request → Type 0
  ChangesSo new = ChangesLocks rs n c vs new

  as_grown : (new : List Request) → Grown rs n lock.granule lock.mode vs new → ChangesSo new
  as_grown new grown = record { others = only_grants n vs rs new grown.others; lock = lock; asked = asked; own = inl grown.own; none_weaker = grown.weaker }

  -- the place of an insert, behind the lock of its store
  placed : (x : State) → IsSessionsState o found es x → (a : SessionTxn) → HasSeat x.sessions a → a.txn ≡ n → is_waiting a.txn x.locks.requests ≡ false → HasGrown x
      → (lock_outcome x a c lock).answer ≡ Ok acquire.Done → (new : State) → PlaceLocks (behind_lock x a c lock) a c new → ChangesSo new.locks.requests
  placed x k a mem is quiet grown done new h =
      let mid = behind_lock x a c lock in
      let first = leaves o found es x k a mem quiet (on_conflict_of c) lock.granule lock.mode in
      let kept = locked_state o found es x k a mem quiet (on_conflict_of c) lock.granule lock.mode (never_waiting done) in
      let still = first.quiet (never_waiting done) in
      let place = leaves o found es mid kept a mem still conflict.Refuse (granule.Record h.id) EX in
      let before = goes_grown x k a mem is quiet grown in
      let after = spares_acquired conflict.Refuse mid.locks a.txn (granule.Record h.id) EX vs (fit_of mid.locks.requests kept.locks.orderly) still in
      let left : List Request = (place_outcome mid a h.id).requests in
      subst ChangesSo (sym (ap (λ (x : Table). x.requests) h.is))
      (record {
        others = only_grants n vs rs left (spares_on n vs rs mid.locks.requests left before.others (subst (λ t. Spares t vs mid.locks.requests left) is after));
        lock = lock;
        asked = asked;
        own = inr (record {
          store = h.store;
          bytes = h.bytes;
          id = h.id;
          insert = h.insert;
          of_store = h.of_store;
          between = mid.locks.requests;
          first = before.own;
          place = subst (λ t. GrowsAsAsked mid.locks.requests left t (granule.Record h.id) EX) is place.grows;
        });
        none_weaker = λ u at m enough. place.none_weaker u at m (before.weaker u at m enough);
      })

  -- the call goes on, to whatever it comes
  goes_changes : (x : State) → IsSessionsState o found es x → (a : SessionTxn) → HasSeat x.sessions a → a.txn ≡ n → is_waiting a.txn x.locks.requests ≡ false → HasGrown x
      → (step : Step) (new : State) → CallGoesOn g x a c step new → ChangesSo new.locks.requests
  goes_changes x k a mem is quiet grown step new h = ⊎_elim
      (λ same. subst ChangesSo (sym (ap (λ (y : Table). y.requests) same)) (as_grown x.locks.requests grown))
      (λ taken.
      let its = same_lock (lock_asked_by c) taken.0 lock taken.1 asked in
      ⊎_elim
      (λ own. subst ChangesSo (sym (ap (λ (y : Table). y.requests) (own ∙ ap (λ (l : Asked). (behind_lock x a c l).locks) its))) (as_grown (behind_lock x a c lock).locks.requests (goes_grown x k a mem is quiet grown)))
      (λ at_place.
      placed x k a mem is quiet grown (subst (λ (l : Asked). (lock_outcome x a c l).answer ≡ Ok acquire.Done) its at_place.0) new
      (subst (λ (l : Asked). PlaceLocks (behind_lock x a c l) a c new) its at_place.1))
      taken.2)
      (goes_on_locks g x a c step new h)

  ends_changes : (x new : State) (step : Step) → IsPaused g o found es session n c x → HasGrown x → EndsFrom g x session step new → ChangesSo new.locks.requests
  ends_changes x new step p grown (inl still) = subst (λ (y : State). ChangesSo y.locks.requests) (sym still.is) (as_grown x.locks.requests grown)
  ends_changes x new step p grown (inr (inl (inl told))) = subst (λ (y : State). ChangesSo y.locks.requests) (sym told.is) (as_grown x.locks.requests grown)
  ends_changes x new step p grown (inr (inl (inr back))) =
      let number : back.0.txn ≡ n = sym (its_txn x.sessions back.0 session back.1.0.1 back.1.1) ∙ p.waits.number in
      subst (λ (y : State). ChangesSo y.locks.requests) (sym back.2.1)
      (as_grown (cancelled back.0.txn x.locks.requests) (grown_cancelled rs n lock.granule lock.mode vs back.0.txn x.locks.requests p.stays.sessions.locks.orderly (inl number) grown))
  ends_changes x new step p grown (inr (inr goes)) = ⊎_elim
      (λ failed. absurd (both_ways x.failed failed.0 p.waits.running))
      (λ runs. by (subst (λ (w : Wait). ResumesWait g x p.waits.waited w step new) p.waits.lock runs.1))
      (resumes_its session n c p.at g x p.waits p.stays.waits.once step new goes.1)
    where
      by : ResumesWait g x p.waits.waited (Lock p.at) step new → ChangesSo new.locks.requests
      by y = ⊎_elim
          (λ still. absurd (subst WaitsForNoLock still.1 goes.0))
          (λ free.
          let number : y.0.txn ≡ n = sym (its_txn x.sessions y.0 session y.1.0.1 (y.1.1 ∙ p.waits.of)) ∙ p.waits.number in
          goes_changes (wait_refused x p.waits.waited.session) (woken g o found es x p.stays.sessions y.0 p.waits.waited.session y.1 free.0) y.0 y.1.0 number free.0 grown step new
          (subst (λ (d : Call). CallGoesOn g (wait_refused x p.waits.waited.session) y.0 d step new) p.waits.its free.1))
          y.2

-- ---- victims

later_victim : (v : Victim) (vs : List Victim) (u : ℕ) → is_victim vs u ≡ true → is_victim (v ∷ vs) u ≡ true
later_victim v vs u one = ⊎_elim
    (λ it. it)
    (λ no. let clash : true ≡ false = sym one ∙ later_spared v vs u no in absurd cc)
    (cases_Bool (is_victim (v ∷ vs) u))

more_in : (v : Victim) (vs : List Victim) (between : List Interlude) → AreIn vs between → AreIn (v ∷ vs) between
more_in v vs [] are = tt
more_in v vs (Takes b w ∷ between) are = (later_victim v vs w.txn are.0, more_in v vs between are.1)
more_in v vs (WaitsAnew at ∷ between) are = more_in v vs between are

all_in : (between : List Interlude) → AreIn (cycles_among between) between
all_in [] = tt
all_in (Takes b v ∷ between) = (first_victim v (cycles_among between) v.txn refl, more_in v (cycles_among between) between (all_in between))
all_in (WaitsAnew at ∷ between) = all_in between

-- ---- a call

module _ (g : Geometry) (o : Opening) (found : List LogRecord) (es : List Entry) (s : State) (k : IsStateAfter o found es s) (session : ℕ) (c : Call) where
  -- nothing, or an abort's answer, or the call asks
  abbrev StepsSo : Step → State → Type 0
  StepsSo step new =
      (new.locks ≡ s.locks)
      ⊎ (((EndsAtOnce s c step × ((a : SessionTxn) × IsOfSession s session a × (new.locks.requests ≡ released a.txn s.locks.requests)))
      ⊎ ((a : SessionTxn) × ResolvesTxn s c a × IsNoRefusal step × (new.locks.requests ≡ released a.txn s.locks.requests)))
      ⊎ ((a : SessionTxn) × IsOfSession s session a × (is_waiting a.txn s.locks.requests ≡ false) × CallGoesOn g s a c step new))

  inner_so : (a : SessionTxn) → IsOfSession s session a → is_waiting a.txn s.locks.requests ≡ false → (step : Step) (new : State) → InnerStep g s a c step new → StepsSo step new
  inner_so a of quiet step new (inl h) = inl (ap (λ (x : State). x.locks) h.3)
  inner_so a of quiet step new (inr (inl (whole, inl h))) = inl (ap (λ (x : State). x.locks) h.3)
  inner_so a of quiet step new (inr (inl (whole, inr (inl h)))) = inr (inr (a, of, quiet, h.1))
  inner_so a of quiet step new (inr (inl (whole, inr (inr (inl h))))) = commits step h.1
    where
      commits : (step : Step) → CommitStep s a step new → StepsSo step new
      commits (Done answer) x = inr (inl (inl (inr (h.0, ap Done x.0), (a, of, ap (λ (y : State). y.locks.requests) x.1))))
      commits (Refused f) x = absurd x
      commits (Waits wait) x = absurd x
      commits Nothing x = absurd x
  inner_so a of quiet step new (inr (inl (whole, inr (inr (inr (inl h)))))) = inl (savepoint_table s a step new h.1).locks
  inner_so a of quiet step new (inr (inl (whole, inr (inr (inr (inr h)))))) = inl (prepare_locks g.version s a h.0 step new h.2)
  inner_so a of quiet step new (inr (inr (inl h))) = inl (back_table s a h.0 step new h.3).locks
  inner_so a of quiet step new (inr (inr (inr h))) = aborts step h.1
    where
      aborts : (step : Step) → AbortStep s a step new → StepsSo step new
      aborts (Done answer) x = inr (inl (inl (inl (h.0, ap Done x.0), (a, of, ap (λ (y : State). y.locks.requests) x.1))))
      aborts (Refused f) x = inl (interrupted_table s a Whole f new x).locks
      aborts (Waits wait) x = absurd x
      aborts Nothing x = absurd x

  outside_so : (step : Step) (new : State) → OutsideStep s session c step new → StepsSo step new
  outside_so step new h = ⊎_elim
      (λ same. inl (ap (λ (x : State). x.locks) same))
      (λ r. ⊎_elim
      (λ same. inl same)
      (λ gone. inr (inl (inr (gone.txn, (r.global, r.asked, r.is, gone.its), gone.ends, gone.requests))))
      (resolve_locks s session r.global r.asked step new r.to))
      (outside_or s session c step new h)

  call_so : (step : Step) (new : State) → CallStep g s session c step new → StepsSo step new
  call_so step new (inl h) = inl (ap (λ (x : State). x.locks) h.1)
  call_so step new (inr (inl h)) = inl (ap (λ (x : State). x.locks) h.2)
  call_so step new (inr (inr (inl h))) = inl (ap (λ (x : State). x.locks) h.3)
  call_so step new (inr (inr (inr (inl h)))) = inl (begin_keeps_locks s session step new h.3)
  call_so step new (inr (inr (inr (inr (inl h))))) = inl (ap (λ (x : State). x.locks) h.5)
  call_so step new (inr (inr (inr (inr (inr (inr (inl h))))))) = inl (ap (λ (x : State). x.locks) h.5)
  call_so step new (inr (inr (inr (inr (inr (inr (inr h))))))) = outside_so step new h.2
  call_so step new (inr (inr (inr (inr (inr (inl h)))))) =
      inner_so h.2.0 h.2.1 (k.sessions.locks.waits h.0 h.2.0 h.2.1.0.0 (λ w m spared same. h.1 w m (same ∙ h.2.1.1))) step new h.2.2

  -- what asks for a lock
  asks_lock : (a : SessionTxn) (step : Step) (new : State) → CallGoesOn g s a c step new → ((lock : Asked) × (lock_asked_by c ≡ Some lock)) ⊎ (new.locks ≡ s.locks)
  asks_lock a step new h = ⊎_elim (λ same. inr same) (λ taken. inl (taken.0, taken.1)) (goes_on_locks g s a c step new h)

  -- the requests stay; or an abort is answered, and all of its transaction's go; or they change as its transaction's call asks
  abbrev pub LocksSettle : Step → State → Type 0
  LocksSettle step new =
      (new.locks.requests ≡ s.locks.requests)
      ⊎ (((EndsAtOnce s c step × ((a : SessionTxn) × IsOfSession s session a × (new.locks.requests ≡ released a.txn s.locks.requests)))
      ⊎ ((a : SessionTxn) × ResolvesTxn s c a × IsNoRefusal step × (new.locks.requests ≡ released a.txn s.locks.requests)))
      ⊎ ((a : SessionTxn) × IsOfSession s session a
      × ((between : List Interlude) × ((between ≡ []) ⊎ ((x : State) × IsMidway g s session c between x)) × ChangesLocks s.locks.requests a.txn c (cycles_among between) new.locks.requests)))

  at_once : (step : Step) (new : State) → CallStep g s session c step new → LocksSettle step new
  at_once step new h = ⊎_elim
      (λ same. inl (ap (λ (x : Table). x.requests) same))
      (⊎_elim
      (λ gone. inr (inl gone))
      (λ goes. ⊎_elim
      (λ asks.
      inr (inr (
        goes.0,
        goes.1,
        (
          [],
          inl refl,
          goes_changes g o found es session goes.0.txn c asks.0 asks.1 s.locks.requests [] s k.sessions goes.0 goes.1.0 refl goes.2
              (grown_from s.locks.requests goes.0.txn asks.0.granule asks.0.mode [] goes.2) step new goes.3,
        ),
      )))
      (λ same. inl (ap (λ (x : Table). x.requests) same))
      (asks_lock goes.0 step new goes.3)))
      (call_so step new h)

  behind_waits : (step : Step) (new : State) → CallCameTo g s session c step new → LocksSettle step new
  behind_waits step new came =
      let m = came.midway in
      let t = waits_on_lock g s m.waits session c m.at m.calls in
      let goes = t.goes in
      let a = t.txn in
      let vs = cycles_among came.between in
      let quiet = k.sessions.locks.waits t.running a t.of.0.0 (λ w there spared same. t.idle w there (same ∙ t.of.1)) in
      let number = its_txn s.sessions a session t.of.0.1 t.of.1 in
      let p = subst (λ n. IsPaused g o found es session n c m.waits) number (paused_at_first g o found es s k session c m.at m.waits m.calls) in
      let first = waits_grown g o found es session a.txn c goes.0 goes.2 s.locks.requests vs s k.sessions a t.of.0 refl quiet (Lock m.at) m.waits goes (grown_from s.locks.requests a.txn goes.0.granule goes.0.mode vs quiet) in
      let last = grown_midway g o found es session a.txn c goes.0 goes.2 s.locks.requests vs m.waits came.between came.from (all_in came.between) p first m.intervene in
      inr (inr (a, t.of, (came.between, inr (came.from, m), ends_changes g o found es session a.txn c goes.0 goes.2 s.locks.requests vs came.from new step last.0 last.1 came.ends)))

  pub settled_call_locks : (step : Step) (new : State) → SettledCall g s session c step new → LocksSettle step new
  settled_call_locks step new h = ⊎_elim (λ once. at_once step new once.1) (behind_waits step new) (settled_call_to g s session c step new h)

-- ---- a resume

module _ (g : Geometry) (o : Opening) (found : List LogRecord) (es : List Entry) (s : State) (k : IsStateAfter o found es s) (session : ℕ) (there : WaitsThere s session) where
  -- The requests stay, or they change as the call asks that waited.
  abbrev pub LocksSettleAgain : Step → State → Type 0
  LocksSettleAgain step new =
      (new.locks.requests ≡ s.locks.requests)
      ⊎ ((w : Waiting) × IsAmong w s.waiting × (w.session ≡ session) × ((a : SessionTxn) × IsOfSession s session a
      × ((between : List Interlude) × ((x : State) × Intervene g session s between x) × ChangesLocks s.locks.requests a.txn w.call (cycles_among between) new.locks.requests)))

  wait_settles : (w : Waiting) → IsAmong w s.waiting → w.session ≡ session → (wait : Wait) → w.wait ≡ wait → (step : Step) (new : State) → ResumesWait g s w wait step new → LocksSettleAgain step new
  wait_settles w m of (Durable n) is step new (inl h) = inl (ap (λ (x : State). x.locks.requests) h.2)
  wait_settles w m of (Durable n) is step new (inr (inl h)) = inl (ap (λ (x : State). x.locks.requests) h.2.4)
  wait_settles w m of (Durable n) is step new (inr (inr h)) = inl (ap (λ (x : State). x.locks.requests) h.2.3)
  wait_settles w m of (Lock at) is step new h = ⊎_elim
      (λ still. inl (ap (λ (x : State). x.locks.requests) still.2))
      (λ free. ⊎_elim
      (λ commits. let clash : Durable commits.number ≡ Lock at = sym (ap (λ (x : Waiting). x.wait) commits.is) ∙ is in absurd cc)
      (λ locks.
      inr (
        w,
        m,
        of,
        (
          h.0,
          (h.1.0, h.1.1 ∙ of),
          (
            [],
            (s, refl),
            goes_changes g o found es w.session h.0.txn w.call locks.lock locks.asked s.locks.requests [] (wait_refused s w.session) (woken g o found es s k.sessions h.0 w.session h.1 free.0) h.0 h.1.0 refl free.0
                (grown_from s.locks.requests h.0.txn locks.lock.granule locks.lock.mode [] free.0) step new free.1,
          ),
        ),
      ))
      (k.waits.each w m))
      h.2

  step_settles : (step : Step) (new : State) → ResumeStep g s session step new → LocksSettleAgain step new
  step_settles step new (inl h) = inl (ap (λ (x : State). x.locks.requests) h.2)
  step_settles step new (inr h) = ⊎_elim
      (λ failed. inl (ap (λ (x : State). x.locks.requests) failed.2))
      (λ runs. wait_settles h.0 h.1 h.2 h.0.wait refl step new runs.1)
      h.3

  -- what it waits for is asked
  asks_so : (w : Waiting) → IsAmong w s.waiting → w.session ≡ session → (at : Granule) → w.wait ≡ Lock at → (lock : Asked) → lock_asked_by w.call ≡ Some lock
      → (a : SessionTxn) → IsOfSession s session a → (r : Request) → waiting_request a.txn s.locks.requests ≡ Some r
      → Contains (path lock.granule) r.granule × (r.wanted ≡ Some (wanted_mode r.held (asked_of lock.granule lock.mode r.granule)))
  asks_so w m its at waits lock asked a of r some =
      let request = there w m its at waits a of r some in
      subst (λ (x : Granule). Contains (path lock.granule) x × (r.wanted ≡ Some (wanted_mode r.held (asked_of lock.granule lock.mode x)))) (sym request.there)
      (subst (λ (l : Asked). Contains (path l.granule) at × (r.wanted ≡ Some (wanted_mode r.held (asked_of l.granule l.mode at)))) (sym (same_lock (lock_asked_by w.call) lock request.lock asked request.asked))
      (request.on, request.wanted))

  way_settles : (step : Step) (new : State) → HasWaited s session → CameTo g session s step new → LocksSettleAgain step new
  way_settles step new was came =
      let w = was.waits.waited in
      ⊎_elim
      (λ commits. let clash : Durable commits.number ≡ Lock was.at = sym (ap (λ (x : Waiting). x.wait) commits.is) ∙ was.waits.lock in absurd cc)
      (λ locks.
      let a = locks.txn in
      let of : IsOfSession s session a = (locks.active, locks.of ∙ was.waits.of) in
      let number = its_txn s.sessions a session of.0.1 of.1 in
      let p : IsPaused g o found es session a.txn w.call s = record {
        stays = k;
        at = was.at;
        waits = record { waited = w; there = was.waits.there; of = was.waits.of; its = refl; lock = was.waits.lock; number = number; running = was.waits.running };
      } in
      let vs = cycles_among came.between in
      let last = grown_midway g o found es session a.txn w.call locks.lock locks.asked s.locks.requests vs s came.between came.from (all_in came.between) p
      (grown_waiting s.locks.requests a.txn locks.lock.granule locks.lock.mode vs k.sessions.locks.orderly (asks_so w was.waits.there was.waits.of was.at was.waits.lock locks.lock locks.asked a of)) came.intervene in
      inr (
        w,
        was.waits.there,
        was.waits.of,
        (
          a,
          of,
          (
            came.between,
            (came.from, came.intervene),
            ends_changes g o found es session a.txn w.call locks.lock locks.asked s.locks.requests vs came.from new step last.0 last.1 came.ends,
          ),
        ),
      ))
      (k.waits.each w was.waits.there)

  pub settled_resume_locks : (step : Step) (new : State) → SettledResume g s session step new → LocksSettleAgain step new
  settled_resume_locks step new h = ⊎_elim
      (step_settles step new)
      (⊎_elim (λ told. inl (ap (λ (x : State). x.locks.requests) told.is)) (λ on. way_settles step new on.0 on.1))
      (settled_resume_to g s session step new h)

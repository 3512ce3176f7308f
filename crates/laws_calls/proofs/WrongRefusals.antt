-- Refusals of sessions that must not come.
use Rattle.std.proofs.Common.{◌≡◌, ◌≢◌, inl, inr, ⊎_elim, ◌<◌, ℕ, List, false, None, refl, sym, subst, ◌∙◌, arith, true, ap}
use Rattle.std.specs.Prelude.{IsTrue}
use Rattle.shore_types.specs.declared.faults.Fault.{Fault}
use Rattle.shore_types.specs.declared.faults.Fault.TheVariants as fault
use Rattle.shore_types.specs.declared.ids.Rid.{Rid}
use Rattle.shore_types.specs.declared.layout.Geometry.{Geometry}
use Rattle.shore_types.specs.declared.layout.TheConstants.{MAX_TRANSACTIONS}
use Rattle.shore_types.specs.declared.locking.Granule.{Granule}
use Rattle.shore_types.specs.declared.locking.Granule.TheVariants as granule
use Rattle.shore_types.specs.declared.locking.Mode.{Mode}
use Rattle.shore_types.specs.declared.versions.Version.{Version}
use Rattle.shore_model.specs.declared.calls.Call.{Call}
use Rattle.shore_model.specs.declared.calls.Call.TheVariants as call
use Rattle.shore_model.specs.declared.rollbacks.Rollback.{Rollback}
use Rattle.shore_model.specs.declared.rollbacks.Rollback.TheVariants.{To, Whole}
use Rattle.laws_lives.specs.Sessions.{SessionTxn}
use Rattle.shore_model.specs.declared.step.Step.TheVariants.{Refused}
use Rattle.laws_calls.proofs.AcquireAnswers.{IsLockFault, acquire_fault}
use Rattle.laws_calls.proofs.Decided.{both_ways}
use Rattle.laws_calls.proofs.SessionInversions.{IsOwn, same_fault}
use Rattle.laws_calls.specs.CallSteps.{BeginStep, CallGoesOn, InnerStep, IsTooLong, MayAsk, RefusesBehind, RefusesEarly, RefusesGranule, RefusesId, RefusesLock, RefusesRead, CallStep, on_conflict_of, txn_count, NeedsTxn, OutsideStep}
use Rattle.laws_calls.specs.StateChanges.{IsPageFault}
use Rattle.laws_calls.specs.Rollbacks.{IsInterrupted}
use Rattle.laws_calls.specs.Shapes.{ForItsTxn}
use Rattle.laws_calls.specs.States.{DoesNotWait, HasNoTxn, IsInTxn, IsOfSession, MayBegin, State, HasPrepared}
use Rattle.laws_calls.proofs.Sessions.{in_one, not_prepared}
use Rattle.shore_model.specs.declared.sessions.SessionState.{SessionState}
use Rattle.laws_calls.specs.Prepares.{RefusesPrepare}
use Rattle.laws_calls.proofs.Outside.{outside_fault, outside_refused, not_outside, interrupted_outside}

-- ---- which refusals there are

-- the refusals of a call of a transaction, before its locks, by the lock table, behind them, of savepoints, or for lack of memory
abbrev IsInner : Fault → Type 0
IsInner fault.NoStore = Unit {0}
IsInner fault.NoPage = Unit {0}
IsInner fault.NoRecord = Unit {0}
IsInner fault.TooLong = Unit {0}
IsInner fault.StoreFull = Unit {0}
IsInner fault.LogFull = Unit {0}
IsInner fault.LockTableFull = Unit {0}
IsInner fault.BadMode = Unit {0}
IsInner (fault.WouldBlock holder) = Unit {0}
IsInner (fault.NeedForce n) = Unit {0}
IsInner fault.Device = Unit {0}
IsInner (fault.Damaged device offset) = Unit {0}
IsInner fault.Memory = Unit {0}
IsInner fault.TooManySavepoints = Unit {0}
IsInner fault.NoSavepoint = Unit {0}
IsInner fault.BadGlobalId = Unit {0}
IsInner fault.GlobalIdInUse = Unit {0}
IsInner _ = ⊥

-- those of a prepare
abbrev pub IsOfPrepare : Fault → Type 0
IsOfPrepare fault.BadGlobalId = Unit {0}
IsOfPrepare fault.GlobalIdInUse = Unit {0}
IsOfPrepare fault.LogFull = Unit {0}
IsOfPrepare _ = ⊥

pub prepare_refuses : (v : Version) (s : State) (a : SessionTxn) (global : List ℕ) (f : Fault) → RefusesPrepare v s a global f → IsOfPrepare f
prepare_refuses v s a global f (inl bad) = subst IsOfPrepare (sym bad.0) tt
prepare_refuses v s a global f (inr (inl used)) = subst IsOfPrepare (sym used.0) tt
prepare_refuses v s a global f (inr (inr full)) = subst IsOfPrepare (sym full.0) tt

-- those before the locks
abbrev pub IsEarly : Fault → Type 0
IsEarly fault.NoStore = Unit {0}
IsEarly fault.NoPage = Unit {0}
IsEarly fault.NoRecord = Unit {0}
IsEarly fault.TooLong = Unit {0}
IsEarly fault.BadMode = Unit {0}
IsEarly _ = ⊥

-- those behind them
abbrev pub IsBehind : Fault → Type 0
IsBehind fault.NoRecord = Unit {0}
IsBehind fault.StoreFull = Unit {0}
IsBehind fault.LogFull = Unit {0}
IsBehind fault.LockTableFull = Unit {0}
IsBehind (fault.NeedForce n) = Unit {0}
IsBehind fault.Device = Unit {0}
IsBehind (fault.Damaged device offset) = Unit {0}
IsBehind _ = ⊥

early_inner : (f : Fault) → IsEarly f → IsInner f
early_inner fault.NoStore h = tt
early_inner fault.NoPage h = tt
early_inner fault.NoRecord h = tt
early_inner fault.TooLong h = tt
early_inner fault.BadMode h = tt
early_inner _ h = absurd h

behind_inner : (f : Fault) → IsBehind f → IsInner f
behind_inner fault.NoRecord h = tt
behind_inner fault.StoreFull h = tt
behind_inner fault.LogFull h = tt
behind_inner fault.LockTableFull h = tt
behind_inner (fault.NeedForce n) h = tt
behind_inner fault.Device h = tt
behind_inner (fault.Damaged device offset) h = tt
behind_inner _ h = absurd h

lock_inner : (f : Fault) → IsLockFault f → IsInner f
lock_inner f (inl e) = subst IsInner (sym e) tt
lock_inner f (inr (inl e)) = subst IsInner (sym e) tt
lock_inner f (inr (inr h)) = subst IsInner (sym h.1) tt

module _ (g : Geometry) where
  id_early : (id : Rid) (f : Fault) → RefusesId g id f → IsEarly f
  id_early id fault.NoStore h = tt
  id_early id fault.NoPage h = tt
  id_early id fault.NoRecord h = tt
  id_early id _ h = absurd h

  granule_early : (at : Granule) (f : Fault) → RefusesGranule g at f → IsEarly f
  granule_early granule.Volume f h = absurd h
  granule_early (granule.Store store) f h = subst IsEarly (sym h.0) tt
  granule_early (granule.Page page) f h = ⊎_elim (λ store. subst IsEarly (sym store.0) tt) (λ none. subst IsEarly (sym none.0) tt) h
  granule_early (granule.Record id) f h = id_early id f h

  lock_early : (at : Granule) (mode : Mode) (f : Fault) → RefusesLock g at mode f → IsEarly f
  lock_early at mode f h = ⊎_elim (λ bad. subst IsEarly (sym bad.0) tt) (λ none. granule_early at f none.1) h

  long_early : (bytes : List ℕ) (f : Fault) → IsTooLong g.version bytes f → IsEarly f
  long_early bytes f h = subst IsEarly (sym h.0) tt

  pub refused_early : (c : Call) (f : Fault) → RefusesEarly g c f → IsEarly f
  refused_early (call.Get id) f h = id_early id f h
  refused_early (call.GetForUpdate id) f h = id_early id f h
  refused_early (call.Insert store bytes) f h = ⊎_elim (long_early bytes f) (λ none. subst IsEarly (sym none.1) tt) h
  refused_early (call.Update id bytes) f h = ⊎_elim (long_early bytes f) (λ none. id_early id f none.1) h
  refused_early (call.Delete id) f h = id_early id f h
  refused_early (call.Scan store) f h = subst IsEarly (sym h.0) tt
  refused_early (call.Lock at mode) f h = lock_early at mode f h
  refused_early (call.TryLock at mode) f h = lock_early at mode f h
  refused_early _ f h = absurd h

prepare_inner : (f : Fault) → IsOfPrepare f → IsInner f
prepare_inner fault.BadGlobalId h = tt
prepare_inner fault.GlobalIdInUse h = tt
prepare_inner fault.LogFull h = tt
prepare_inner _ h = absurd h

-- none of a prepare's comes before locks
pub early_no_prepare : (f : Fault) → IsEarly f → IsOfPrepare f → ⊥
early_no_prepare fault.NoStore e h = h
early_no_prepare fault.NoPage e h = h
early_no_prepare fault.NoRecord e h = h
early_no_prepare fault.TooLong e h = h
early_no_prepare fault.BadMode e h = h
early_no_prepare _ e h = absurd e

pub page_behind : (s : State) (f : Fault) → IsPageFault s f → IsBehind f
page_behind s f (inl device) = subst IsBehind (sym device) tt
page_behind s f (inr (inl damaged)) = subst IsBehind (sym damaged.1) tt
page_behind s f (inr (inr force)) = subst IsBehind (sym force.1) tt

read_behind : (s : State) (id : Rid) (f : Fault) → RefusesRead s id f → IsBehind f
read_behind s id fault.NoRecord h = tt
read_behind s id f h = page_behind s f h

module _ (g : Geometry) (l : State) (a : SessionTxn) (new : State) where
  pub refused_behind : (c : Call) (f : Fault) → RefusesBehind g l a c f new → IsBehind f
  refused_behind (call.Get id) f h = read_behind l id f h.0
  refused_behind (call.GetForUpdate id) f h = read_behind l id f h.0
  refused_behind (call.Insert store bytes) f (inl h) = subst IsBehind (sym h.0) tt
  refused_behind (call.Insert store bytes) f (inr (inl h)) = subst IsBehind (sym h.0) tt
  refused_behind (call.Insert store bytes) f (inr (inr (inl h))) = subst IsBehind (sym h.0) tt
  refused_behind (call.Insert store bytes) f (inr (inr (inr h))) = page_behind l f h.0
  refused_behind (call.Update id bytes) f h =
      ⊎_elim (read_behind l id f) (λ full. ⊎_elim (λ store. subst IsBehind (sym store.0) tt) (λ log. subst IsBehind (sym log.0) tt) full) h.0
  refused_behind (call.Delete id) f h = ⊎_elim (read_behind l id f) (λ log. subst IsBehind (sym log.0) tt) h.0
  refused_behind (call.Scan store) f h = page_behind l f h.0
  refused_behind _ f h = absurd h

-- ---- the manager's and the session's own

module _ (g : Geometry) (s new : State) (session : ℕ) where
  abbrev pub RefusedWith : Call → Fault → Type 0
  RefusedWith c f = CallStep g s session c (Refused f) new

  goes_inner : (a : SessionTxn) (c : Call) (f : Fault) → CallGoesOn g s a c (Refused f) new → IsInner f
  goes_inner a c f (inl h) = subst IsInner (sym h.0) tt
  goes_inner a c f (inr (inl h)) = lock_inner f (acquire_fault s.locks a.txn h.0.granule h.0.mode (on_conflict_of c) f h.2)
  goes_inner a c f (inr (inr h)) = behind_inner f (refused_behind g h.0 a new c f h.2)

  -- a refusal is the manager's, the session's, or a call's within its transaction
  data Origin (c : Call) (f : Fault) : Type 0 where
    lacks_memory : f ≡ fault.Memory → Origin c f
    has_failed : IsTrue s.failed → f ≡ fault.Failed → Origin c f
    is_busy : (DoesNotWait s session → ⊥) → f ≡ fault.Busy → Origin c f
    begins : c ≡ call.Begin → BeginStep s session (Refused f) new → Origin c f
    in_none : HasNoTxn s session → f ≡ fault.NoTransaction → Origin c f
    in_doubt : HasPrepared s session → f ≡ fault.IsPrepared → Origin c f
    rolls_back : (a : SessionTxn) → IsOfSession s session a → (a.undo.rolling ≡ None → ⊥) → f ≡ fault.MustAbort → (c ≡ call.Begin → ⊥) → Origin c f
    outside : OutsideStep s session c (Refused f) new → Origin c f
    inside : IsInTxn s session → IsInner f → (c ≡ call.Begin → ⊥) → (c ≡ call.Commit → ⊥) → Origin c f

  origin_of : (c : Call) (f : Fault) → RefusedWith c f → Origin c f
  origin_of c f (inl h) = lacks_memory (same_fault f fault.Memory h.0)
  origin_of c f (inr (inl h)) = has_failed h.0 (same_fault f fault.Failed h.1)
  origin_of c f (inr (inr (inl h))) = is_busy h.1 (same_fault f fault.Busy h.2)
  origin_of c f (inr (inr (inr (inl h)))) = begins h.2 h.3
  origin_of c f (inr (inr (inr (inr (inl h))))) = in_none h.3 (same_fault f fault.NoTransaction h.4)
  origin_of c f (inr (inr (inr (inr (inr (inr (inl h))))))) = in_doubt h.3 (same_fault f fault.IsPrepared h.4)
  origin_of c f (inr (inr (inr (inr (inr (inr (inr h))))))) = outside h.2
  origin_of c f (inr (inr (inr (inr (inr (inl h)))))) = by h.2.2
    where
      no_early : (other : Call) (f : Fault) → (RefusesEarly g other f → ⊥) → c ≡ other → RefusesEarly g c f → ⊥
      no_early other f never e h = never (subst (λ (c : Call). RefusesEarly g c f) e h)

      apart_calls : (x y : Call) → x ≢ y → c ≡ x → c ≡ y → ⊥
      apart_calls x y apart d e = apart (sym d ∙ e)

      asks_none : (other : Call) → (MayAsk g other → ⊥) → c ≡ other → MayAsk g c → ⊥
      asks_none other never e h = never (subst (MayAsk g) e h)

      interrupted : (r : Rollback) → IsInterrupted s h.2.0 r f new → IsInner f
      interrupted r x = ⊎_elim (λ memory. subst IsInner (sym memory) tt) (λ page. behind_inner f (page_behind x.0 f page)) x.2

      by : InnerStep g s h.2.0 c (Refused f) new → Origin c f
      by (inl x) = rolls_back h.2.0 h.2.1 (λ whole. x.1 (inl whole)) (same_fault f fault.MustAbort x.2) (λ e. subst NeedsTxn e x.0)
      by (inr (inl (whole, inl x))) =
          inside (in_one s session h.2.0 h.2.1) (subst IsInner (sym (same_fault f x.0 x.2)) (early_inner x.0 (refused_early g c x.0 x.1))) (λ e. no_early call.Begin x.0 (λ x. x) e x.1) (λ e. no_early call.Commit x.0 (λ x. x) e x.1)
      by (inr (inl (whole, inr (inl x)))) = inside (in_one s session h.2.0 h.2.1) (goes_inner h.2.0 c f x.1) (λ e. asks_none call.Begin (λ x. x) e x.0) (λ e. asks_none call.Commit (λ x. x) e x.0)
      by (inr (inl (whole, inr (inr (inl x))))) = absurd x.1
      by (inr (inl (whole, inr (inr (inr (inl x)))))) =
          inside (in_one s session h.2.0 h.2.1) (subst IsInner (sym x.1.0) tt) (λ e. apart_calls call.Savepoint call.Begin (λ d. cc) x.0 e) (λ e. apart_calls call.Savepoint call.Commit (λ d. cc) x.0 e)
      by (inr (inl (whole, inr (inr (inr (inr x)))))) =
          inside (in_one s session h.2.0 h.2.1) (prepare_inner f (prepare_refuses g.version s h.2.0 x.0 f x.2.0)) (λ e. apart_calls (call.Prepare x.0) call.Begin (λ d. cc) x.1 e)
          (λ e. apart_calls (call.Prepare x.0) call.Commit (λ d. cc) x.1 e)
      by (inr (inr (inl x))) =
          inside (in_one s session h.2.0 h.2.1) (⊎_elim (λ late. subst IsInner (sym late.0) tt) (λ rolls. interrupted (To x.0) rolls.1) x.3)
          (λ e. apart_calls (call.BackTo x.0) call.Begin (λ d. cc) x.1 e) (λ e. apart_calls (call.BackTo x.0) call.Commit (λ d. cc) x.1 e)
      by (inr (inr (inr x))) =
          inside (in_one s session h.2.0 h.2.1) (interrupted Whole x.1) (λ e. apart_calls call.Abort call.Begin (λ d. cc) x.0 e) (λ e. apart_calls call.Abort call.Commit (λ d. cc) x.0 e)

  -- what a begin is refused with
  pub begin_fault : (P : Fault → Type 0) → P fault.AlreadyActive → P fault.TooManyTransactions → P fault.LogFull → (f : Fault) → BeginStep s session (Refused f) new → P f
  begin_fault P active many full f h =
      ⊎_elim (λ x. subst P (sym x.0) active) (λ more. ⊎_elim (λ x. subst P (sym x.0) many) (λ x. subst P (sym x.0) full) more) h.0

  -- who must abort rolls back
  pub must_of : (c : Call) → NeedsTxn c → RefusedWith c fault.MustAbort → (a : SessionTxn) × IsOfSession s session a × (a.undo.rolling ≡ None → ⊥)
  must_of c needs h = by (origin_of c fault.MustAbort h)
    where
      by : Origin c fault.MustAbort → (a : SessionTxn) × IsOfSession s session a × (a.undo.rolling ≡ None → ⊥)
      by (rolls_back a of rolling e first) = (a, of, rolling)
      by (lacks_memory e) = absurd cc
      by (has_failed failed e) = absurd cc
      by (is_busy waits e) = absurd cc
      by (begins e x) = absurd (begin_fault (λ f. f ≢ fault.MustAbort) (λ e. cc) (λ e. cc) (λ e. cc) fault.MustAbort x refl)
      by (in_none none e) = absurd cc
      by (in_doubt doubt e) = absurd cc
      by (outside x) = absurd (not_outside s session c (Refused fault.MustAbort) new needs x)
      by (inside mine inner first other) = absurd inner

  pub busy_though_idle : (c : Call) → DoesNotWait s session → RefusedWith c fault.Busy → ⊥
  busy_though_idle c idle h = by (origin_of c fault.Busy h)
    where
      by : Origin c fault.Busy → ⊥
      by (lacks_memory e) = cc
      by (has_failed failed e) = cc
      by (is_busy waits e) = waits idle
      by (begins e x) = begin_fault (λ f. f ≢ fault.Busy) (λ e. cc) (λ e. cc) (λ e. cc) fault.Busy x refl
      by (in_none none e) = cc
      by (in_doubt doubt e) = cc
      by (rolls_back a of rolling e first) = cc
      by (outside x) = outside_fault s session c fault.Busy new x
      by (inside mine inner first other) = inner

  pub none_though_in_one : (c : Call) → IsInTxn s session → RefusedWith c fault.NoTransaction → ⊥
  none_though_in_one c mine h = by (origin_of c fault.NoTransaction h)
    where
      by : Origin c fault.NoTransaction → ⊥
      by (lacks_memory e) = cc
      by (has_failed failed e) = cc
      by (is_busy waits e) = cc
      by (begins e x) = begin_fault (λ f. f ≢ fault.NoTransaction) (λ e. cc) (λ e. cc) (λ e. cc) fault.NoTransaction x refl
      by (in_none none e) = mine none
      by (in_doubt doubt e) = cc
      by (rolls_back a of rolling e first) = cc
      by (outside x) = outside_fault s session c fault.NoTransaction new x
      by (inside mine inner first other) = inner

  -- only in one that is prepared
  pub prepared_in_doubt : (c : Call) → RefusedWith c fault.IsPrepared → HasPrepared s session
  prepared_in_doubt c h = by (origin_of c fault.IsPrepared h)
    where
      by : Origin c fault.IsPrepared → HasPrepared s session
      by (lacks_memory e) = absurd cc
      by (has_failed failed e) = absurd cc
      by (is_busy waits e) = absurd cc
      by (begins e x) = absurd (begin_fault (λ f. f ≢ fault.IsPrepared) (λ e. cc) (λ e. cc) (λ e. cc) fault.IsPrepared x refl)
      by (in_none none e) = absurd cc
      by (in_doubt doubt e) = doubt
      by (rolls_back a of rolling e first) = absurd cc
      by (outside x) = absurd (outside_fault s session c fault.IsPrepared new x)
      by (inside mine inner first other) = absurd inner

  pub prepared_though_at_work : (c : Call) → ForItsTxn s session (λ a. RefusedWith c fault.IsPrepared → ⊥)
  prepared_though_at_work c a of h = not_prepared s session a of (prepared_in_doubt c h)

  pub prepared_though_free : (c : Call) → HasNoTxn s session → RefusedWith c fault.IsPrepared → ⊥
  prepared_though_free c none h = let clash : false ≡ true = sym (ap (λ (p : SessionState). p.prepared) none) ∙ prepared_in_doubt c h in cc

  pub failed_though_running : (c : Call) → s.failed ≡ false → RefusedWith c fault.Failed → ⊥
  failed_though_running c running h = by (origin_of c fault.Failed h)
    where
      by : Origin c fault.Failed → ⊥
      by (lacks_memory e) = cc
      by (has_failed failed e) = both_ways s.failed failed running
      by (is_busy waits e) = cc
      by (begins e x) = begin_fault (λ f. f ≢ fault.Failed) (λ e. cc) (λ e. cc) (λ e. cc) fault.Failed x refl
      by (in_none none e) = cc
      by (in_doubt doubt e) = cc
      by (rolls_back a of rolling e first) = cc
      by (outside x) = outside_fault s session c fault.Failed new x
      by (inside mine inner first other) = inner

  begin_when : (c : Call) (f : Fault) → IsOwn f → (IsInner f → ⊥) → (OutsideStep s session c (Refused f) new → ⊥) → RefusedWith c f → BeginStep s session (Refused f) new
  begin_when c f own apart beside h = by (origin_of c f h)
    where
      by : Origin c f → BeginStep s session (Refused f) new
      by (lacks_memory e) = absurd (subst IsOwn e own)
      by (has_failed failed e) = absurd (subst IsOwn e own)
      by (is_busy waits e) = absurd (subst IsOwn e own)
      by (begins e x) = x
      by (in_none none e) = absurd (subst IsOwn e own)
      by (in_doubt doubt e) = absurd (subst IsOwn e own)
      by (rolls_back a of rolling e first) = absurd (subst IsOwn e own)
      by (outside x) = absurd (beside x)
      by (inside mine inner first other) = absurd (apart inner)

  pub too_many_below : (c : Call) → txn_count s < MAX_TRANSACTIONS → RefusedWith c fault.TooManyTransactions → ⊥
  too_many_below c below h =
      ⊎_elim (λ x. let clash = x.0 in cc) (λ more. ⊎_elim (λ x. let full = x.2 in omega arith) (λ x. let clash = x.0 in cc) more)
      (begin_when c fault.TooManyTransactions tt (λ x. x) (outside_fault s session c fault.TooManyTransactions new) h).0

  pub active_though_none : (c : Call) → HasNoTxn s session → RefusedWith c fault.AlreadyActive → ⊥
  active_though_none c none h =
      ⊎_elim (λ x. x.1 none) (λ more. ⊎_elim (λ x. let clash = x.0 in cc) (λ x. let clash = x.0 in cc) more)
      (begin_when c fault.AlreadyActive tt (λ x. x) beside h).0
    where
      beside : OutsideStep s session c (Refused fault.AlreadyActive) new → ⊥
      beside x = ⊎_elim
          (λ early. ⊎_elim (λ active. active.1 (inl none)) (λ more. ⊎_elim (λ y. let clash = y.0 in cc) (λ y. let clash = y.0 in cc) more) early.refuses)
          (λ stopped. interrupted_outside stopped.how.0 fault.AlreadyActive stopped.how.2)
          (outside_refused s session c fault.AlreadyActive new x)

  pub begin_refused : (f : Fault) → IsOwn f → RefusedWith call.Begin f → BeginStep s session (Refused f) new
  begin_refused f own h = by (origin_of call.Begin f h)
    where
      by : Origin call.Begin f → BeginStep s session (Refused f) new
      by (lacks_memory e) = absurd (subst IsOwn e own)
      by (has_failed failed e) = absurd (subst IsOwn e own)
      by (is_busy waits e) = absurd (subst IsOwn e own)
      by (begins e x) = x
      by (in_none none e) = absurd (subst IsOwn e own)
      by (in_doubt doubt e) = absurd (subst IsOwn e own)
      by (rolls_back a of rolling e first) = absurd (first refl)
      by (outside x) = ⊎_elim (λ y. let clash = y.0 in absurd cc) (λ y. let clash = y.2 in absurd cc) x
      by (inside mine inner first other) = absurd (first refl)

  pub begin_full_though_room : MayBegin s → RefusedWith call.Begin fault.LogFull → ⊥
  begin_full_though_room may h =
      ⊎_elim (λ x. let clash = x.0 in cc) (λ more. ⊎_elim (λ x. let clash = x.0 in cc) (λ x. x.3 may) more) (begin_refused fault.LogFull tt h).0

  pub commit_in_txn : (f : Fault) (b : SessionTxn) → IsOfSession s session b → ForItsTxn s session (λ a. a.undo.rolling ≡ None) → f ≢ fault.Memory → s.failed ≡ false → DoesNotWait s session → RefusedWith call.Commit f → ⊥
  commit_in_txn f b of whole memory running idle h = by (origin_of call.Commit f h)
    where
      by : Origin call.Commit f → ⊥
      by (rolls_back a mine rolling e first) = rolling (whole a mine)
      by (lacks_memory e) = memory e
      by (has_failed failed e) = both_ways s.failed failed running
      by (is_busy waits e) = waits idle
      by (begins e x) = cc
      by (in_none none e) = in_one s session b of none
      by (in_doubt doubt e) = not_prepared s session b of doubt
      by (outside x) = not_outside s session call.Commit (Refused f) new tt x
      by (inside mine inner first other) = other refl

  pub too_long_in_no_txn : (c : Call) → HasNoTxn s session → RefusedWith c fault.TooLong → ⊥
  too_long_in_no_txn c none h = by (origin_of c fault.TooLong h)
    where
      by : Origin c fault.TooLong → ⊥
      by (lacks_memory e) = cc
      by (has_failed failed e) = cc
      by (is_busy waits e) = cc
      by (begins e x) = begin_fault (λ f. f ≢ fault.TooLong) (λ e. cc) (λ e. cc) (λ e. cc) fault.TooLong x refl
      by (in_none free e) = cc
      by (in_doubt doubt e) = cc
      by (rolls_back a of rolling e first) = cc
      by (outside x) = outside_fault s session c fault.TooLong new x
      by (inside mine inner first other) = mine none

  pub commit_forces_none : (n : ℕ) → RefusedWith call.Commit (fault.NeedForce n) → ⊥
  commit_forces_none n h = by (origin_of call.Commit (fault.NeedForce n) h)
    where
      by : Origin call.Commit (fault.NeedForce n) → ⊥
      by (lacks_memory e) = cc
      by (has_failed failed e) = cc
      by (is_busy waits e) = cc
      by (begins e x) = cc
      by (in_none none e) = cc
      by (in_doubt doubt e) = cc
      by (rolls_back a of rolling e first) = cc
      by (outside x) = not_outside s session call.Commit (Refused (fault.NeedForce n)) new tt x
      by (inside mine inner first other) = other refl

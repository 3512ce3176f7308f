-- What stands beside the answers of calls one after another.
use Rattle.std.proofs.Common.{◌≡◌, ◌⊎◌, inl, inr, ℕ, Result, Ok, Err, IfErr, IfOk, IsErrAnd, refl, sym, ap, subst, ◌∙◌, arith}
use Rattle.shore_types.specs.declared.faults.Device.{Device}
use Rattle.shore_types.specs.declared.faults.Fault.{Fault}
use Rattle.shore_types.specs.declared.faults.Fault.TheVariants as fault
use Rattle.shore_types.specs.declared.ids.PageId.{PageId}
use Rattle.shore_types.specs.declared.ids.Rid.{Rid}
use Rattle.shore_types.specs.declared.layout.Geometry.{Geometry}
use Rattle.shore_types.specs.declared.locking.Granule.{Granule}
use Rattle.shore_types.specs.declared.locking.Granule.TheVariants as granule
use Rattle.shore_types.specs.declared.locking.Mode.{Mode}
use Rattle.shore_model.specs.declared.calls.Call.{Call}
use Rattle.shore_model.specs.declared.calls.Call.TheVariants as call
use Rattle.shore_model.specs.declared.step.Step.{Step}
use Rattle.shore_model.specs.declared.step.Step.TheVariants.{Refused}
use Rattle.shore_disk.specs.Cause.{HasCause}
use Rattle.shore_disk.specs.Device.{size}
use Rattle.shore_disk.specs.declared.device.Disk as disk
use Rattle.shore_log.specs.declared.tail.Tail as tail
use Rattle.shore_dwrite.specs.Settled as settled_device
use Rattle.shore_pool.specs.Pools.{NeedsForce}
use Rattle.shore_heap.specs.Heaps as heaps
use Rattle.shore_heap.specs.Heaps.{pool_of}
use Rattle.laws_calls.specs.CallSteps.{RefusesEarly, RefusesGranule, RefusesId, RefusesLock}
use Rattle.shore_sessions.specs.Noting.{IsOfNoDevice}
use Rattle.shore_core.specs.declared.core_calls.Core.{Core}
use Rattle.shore_core.specs.Cores.{begins_of, durable_of, faults_of, geometry_of, has_failed, heap_of, last_of, tail_of}
use Rattle.shore_core.specs.Replies.{IsEarned, Keeps, MakesNoCall, NeedsForceIn, OnlyLocks, Serves, ServesCall, fault_at}
use Rattle.shore_core.proofs.Earning.{earned_as}
use Rattle.shore_core.proofs.Forcing.{forced_as}
use Rattle.shore_core.proofs.Keeping.{keeps_then, leaves_nothing, leaves_then}
use Rattle.shore_core.proofs.Safe.{locks_keep}
use Rattle.shore_core.proofs.Taking.{map_err, plain_refusal}

-- ---- faults that say nothing of a device

abbrev pub IsAside : Fault → Type 0
IsAside fault.Device = ⊥
IsAside (fault.Damaged device offset) = ⊥
IsAside (fault.NeedForce number) = ⊥
IsAside _ = Unit {0}

pub no_device : (f : Fault) → IsOfNoDevice f → IsAside f
no_device fault.Device none = absurd (none.0 refl)
no_device (fault.Damaged device offset) none = absurd (none.1 device offset refl)
no_device (fault.NeedForce number) none = absurd (none.2 number refl)
no_device _ none = tt

pub as_aside : (f g : Fault) → f ≡ g → IsAside g → IsAside f
as_aside f g is aside = subst IsAside (sym is) aside

id_aside : (g : Geometry) (id : Rid) (f : Fault) → RefusesId g id f → IsAside f
id_aside g id fault.Device refuses = absurd refuses
id_aside g id (fault.Damaged device offset) refuses = absurd refuses
id_aside g id (fault.NeedForce number) refuses = absurd refuses
id_aside g id _ refuses = tt

granule_aside : (g : Geometry) (at : Granule) (f : Fault) → RefusesGranule g at f → IsAside f
granule_aside g granule.Volume f refuses = absurd refuses
granule_aside g (granule.Store store) f refuses = as_aside f fault.NoStore refuses.0 tt
granule_aside g (granule.Page page) f (inl store) = as_aside f fault.NoStore store.0 tt
granule_aside g (granule.Page page) f (inr none) = as_aside f fault.NoPage none.0 tt
granule_aside g (granule.Record id) f refuses = id_aside g id f refuses

lock_aside : (g : Geometry) (at : Granule) (mode : Mode) (f : Fault) → RefusesLock g at mode f → IsAside f
lock_aside g at mode f (inl bad) = as_aside f fault.BadMode bad.0 tt
lock_aside g at mode f (inr refuses) = granule_aside g at f refuses.1

-- what refuses a call before it asks for its locks
pub early_aside : (g : Geometry) (c : Call) (f : Fault) → RefusesEarly g c f → IsAside f
early_aside g (call.Get id) f refuses = id_aside g id f refuses
early_aside g (call.GetForUpdate id) f refuses = id_aside g id f refuses
early_aside g (call.Insert store bytes) f (inl long) = as_aside f fault.TooLong long.0 tt
early_aside g (call.Insert store bytes) f (inr none) = as_aside f fault.NoStore none.1 tt
early_aside g (call.Update id bytes) f (inl long) = as_aside f fault.TooLong long.0 tt
early_aside g (call.Update id bytes) f (inr refuses) = id_aside g id f refuses.1
early_aside g (call.Delete id) f refuses = id_aside g id f refuses
early_aside g (call.Scan store) f refuses = as_aside f fault.NoStore refuses.0 tt
early_aside g (call.Lock at mode) f refuses = lock_aside g at mode f refuses
early_aside g (call.TryLock at mode) f refuses = lock_aside g at mode f refuses
early_aside g call.Begin f refuses = absurd refuses
early_aside g call.Savepoint f refuses = absurd refuses
early_aside g (call.BackTo index) f refuses = absurd refuses
early_aside g call.Commit f refuses = absurd refuses
early_aside g call.Abort f refuses = absurd refuses
early_aside g (call.Prepare global) f refuses = absurd refuses
early_aside g (call.Resolve global outcome) f refuses = absurd refuses
early_aside g call.InDoubt f refuses = absurd refuses

-- a fault that is handed on
pub aside_as : {A : Type 0} (r : Result A Fault) (f : Fault) → IsErrAnd r (λ e. e ≡ f) → IsAside f → IfErr r IsAside
aside_as r f same aside = plain_refusal r IsAside f same aside

pub no_damage_of_device : (d : Device) (offset : ℕ) → fault.Device ≡ fault.Damaged d offset → ⊥
no_damage_of_device d offset is = cc

pub no_force_of_device : (n : ℕ) → fault.Device ≡ fault.NeedForce n → ⊥
no_force_of_device n is = cc

-- what refuses a session whose transaction is prepared, or may do no more than end a rollback
pub not_open_aside : (f : Fault) → (f ≡ fault.MustAbort) ⊎ (f ≡ fault.IsPrepared) → IsAside f
not_open_aside f (inl must) = as_aside f fault.MustAbort must tt
not_open_aside f (inr prepared) = as_aside f fault.IsPrepared prepared tt

-- ---- causes

err_is : {A : Type 0} {e d : Fault} → ◌≡◌ {A = Result A Fault} (Err e) (Err d) → e ≡ d
err_is is = cc

ok_is_none : {A : Type 0} {x : A} {d : Fault} → ◌≡◌ {A = Result A Fault} (Ok x) (Err d) → ⊥
ok_is_none is = cc

pub cause_aside : {A : Type 0} (r : Result A Fault) (old new : ℕ) → new ≡ old → IfErr r IsAside → HasCause r old new
cause_aside (Ok x) old new same aside = record { no_lower = omega (arith, same); reported = λ is. absurd (ok_is_none is); unreported = λ other. same }
cause_aside (Err f) old new same aside = record { no_lower = omega (arith, same); reported = λ is. absurd (subst IsAside (err_is is) aside); unreported = λ other. same }

-- calls that report no failure of the device, and then one that may
pub cause_then : {A : Type 0} (r : Result A Fault) (old mid new : ℕ) → mid ≡ old → HasCause r mid new → HasCause r old new
cause_then r old mid new same cause = subst (λ n. HasCause r n new) same cause

-- a fault that is handed on has the cause that it had
pub cause_handed : {A B : Type 0} (r : Result B Fault) (f : Fault) (old new : ℕ) → IsErrAnd r (λ e. e ≡ f) → HasCause {T = A} (Err f) old new → HasCause r old new
cause_handed (Err e) f old new same cause = record {
  no_lower = cause.no_lower;
  reported = λ is. cause.reported (ap Err (sym same ∙ err_is is));
  unreported = λ other. cause.unreported (λ is. other (ap Err (same ∙ err_is is)));
}
cause_handed (Ok x) f old new same cause = absurd same

-- what was done reports no failure
pub none_failed : {A : Type 0} (x : A) (old new : ℕ) → HasCause {T = A} (Ok x) old new → new ≡ old
none_failed x old new cause = cause.unreported (λ is. ok_is_none is)

-- a refusal is no answer
none_answered : {A : Type 0} (P : A → Type 0) (r : Result A Fault) (f : Fault) → IsErrAnd r (λ e. e ≡ f) → IfOk r P
none_answered P (Err e) f same = tt
none_answered P (Ok x) f same = absurd same

-- ---- what stands beside

module _ {T V : Type 0} {G : tail.Ghosts T} {H : disk.Ghosts V} where
  -- what no call changes, of a call that has failed nothing
  pub keeps_of : {A : Type 0} {IsRead : PageId → Type 0} {at old new : Core T V G H} {r : Result A Fault} → Serves IsRead at r old new → has_failed new ≡ has_failed old → Keeps old new
  keeps_of serves failed = record { volume = serves.volume; durable = serves.durable; failed = failed; first = serves.first }

  -- ---- no call of the device

  -- the pages are where they were
  pub nothing_called : (old new : Core T V G H) → heap_of new ≡ heap_of old → durable_of new ≡ durable_of old → begins_of new ≡ begins_of old → has_failed new ≡ has_failed old → MakesNoCall old new
  nothing_called old new heap durable first failed = record {
    keeps = record {
      volume = record { geometry = ap (λ h. heaps.geometry_of h) heap; honest = ap (λ h. heaps.honesty_of h) heap; size = ap (λ h. size (heaps.history_of h)) heap };
      durable = durable;
      failed = failed;
      first = first;
    };
    history = ap (λ h. heaps.history_of h) heap;
    faults = ap (λ h. heaps.faults_of h) heap;
  }

  -- .. or at least their device
  pub device_alone : (old new : Core T V G H) → heaps.device_of (heap_of new) ≡ heaps.device_of (heap_of old) → durable_of new ≡ durable_of old → begins_of new ≡ begins_of old → has_failed new ≡ has_failed old
      → MakesNoCall old new
  device_alone old new device durable first failed = record {
    keeps = record {
      volume = record {
        geometry = ap (λ d. settled_device.geometry_of d) device;
        honest = ap (λ d. H.is_honest (settled_device.device_of d)) device;
        size = ap (λ d. size (H.history (settled_device.device_of d))) device;
      };
      durable = durable;
      failed = failed;
      first = first;
    };
    history = ap (λ d. H.history (settled_device.device_of d)) device;
    faults = ap (λ d. H.faults (settled_device.device_of d)) device;
  }

  pub no_call_then : (old mid new : Core T V G H) → MakesNoCall old mid → MakesNoCall mid new → MakesNoCall old new
  no_call_then old mid new one two = record { keeps = keeps_then old mid new one.keeps two.keeps; history = two.history ∙ one.history; faults = two.faults ∙ one.faults }

  pub locks_call_nothing : (old new : Core T V G H) → OnlyLocks old new → MakesNoCall old new
  locks_call_nothing old new only = record { keeps = locks_keep old new only; history = ap (λ h. heaps.history_of h) only.heap; faults = ap (λ h. heaps.faults_of h) only.heap }

  -- a call that makes no call of the device, and is not refused for one
  pub serves_alone : {A : Type 0} (IsRead : PageId → Type 0) (at old new : Core T V G H) (r : Result A Fault) → MakesNoCall old new → IfErr r IsAside → Serves IsRead at r old new
  serves_alone IsRead at old new r none aside = record {
    volume = none.keeps.volume;
    durable = none.keeps.durable;
    first = none.keeps.first;
    any_moment = leaves_nothing old new none.history;
    damaged = λ front disk holds. map_err IsAside (IsEarned (geometry_of old) disk (last_of old) IsRead) r (λ f says device offset is. absurd (subst IsAside is says)) aside;
    forced = λ front disk holds.
        map_err IsAside (λ f. (number : ℕ) → f ≡ fault.NeedForce number → NeedsForce (pool_of (heap_of at)) (durable_of at) number) r (λ f says number is. absurd (subst IsAside is says)) aside;
    cause = cause_aside r (faults_of old) (faults_of new) none.faults aside;
  }

  -- .. for the pages are where they were
  pub serves_still : {A : Type 0} (IsRead : PageId → Type 0) (at old new : Core T V G H) (r : Result A Fault) → heap_of new ≡ heap_of old → durable_of new ≡ durable_of old
      → begins_of new ≡ begins_of old → has_failed new ≡ has_failed old → IfErr r IsAside → Serves IsRead at r old new
  serves_still IsRead at old new r heap durable first failed aside = serves_alone IsRead at old new r (nothing_called old new heap durable first failed) aside

  -- a fault is handed on
  pub serves_as : {A B : Type 0} (IsRead : PageId → Type 0) (at old new : Core T V G H) (r : Result B Fault) (f : Fault) → IsErrAnd r (λ e. e ≡ f) → Serves {A = A} IsRead at (Err f) old new
      → Serves IsRead at r old new
  serves_as IsRead at old new r f same serves = record {
    volume = serves.volume;
    durable = serves.durable;
    first = serves.first;
    any_moment = serves.any_moment;
    damaged = λ front disk holds. earned_as (geometry_of old) disk (last_of old) IsRead r f same (serves.damaged front disk holds);
    forced = λ front disk holds. forced_as (NeedsForce (pool_of (heap_of at)) (durable_of at)) r f same (serves.forced front disk holds);
    cause = cause_handed r f (faults_of old) (faults_of new) same serves.cause;
  }

  -- it may read more pages
  pub serves_more : {A : Type 0} (IsRead IsMore : PageId → Type 0) (at old new : Core T V G H) (r : Result A Fault) → ((page : PageId) → IsRead page → IsMore page) → Serves IsRead at r old new
      → Serves IsMore at r old new
  serves_more IsRead IsMore at old new r more serves = record {
    volume = serves.volume;
    durable = serves.durable;
    first = serves.first;
    any_moment = serves.any_moment;
    damaged = λ front disk holds. map_err (IsEarned (geometry_of old) disk (last_of old) IsRead) (IsEarned (geometry_of old) disk (last_of old) IsMore) r
        (λ f earned device offset is. let e = earned device offset is in (e.0, (e.1.0, more e.1.0 e.1.1, e.1.2, e.1.3, e.1.4))) (serves.damaged front disk holds);
    forced = serves.forced;
    cause = serves.cause;
  }

  -- a call that was served, and then one that makes no call of the device
  pub serves_then : {A B : Type 0} {IsFirst : PageId → Type 0} (IsRead : PageId → Type 0) (was at old mid new : Core T V G H) (x : A) (r : Result B Fault) → Serves IsFirst was (Ok x) old mid → MakesNoCall mid new
      → IfErr r IsAside → Serves IsRead at r old new
  serves_then IsRead was at old mid new x r serves after aside = record {
    volume = record {
      geometry = after.keeps.volume.geometry ∙ serves.volume.geometry;
      honest = after.keeps.volume.honest ∙ serves.volume.honest;
      size = after.keeps.volume.size ∙ serves.volume.size;
    };
    durable = after.keeps.durable ∙ serves.durable;
    first = after.keeps.first ∙ serves.first;
    any_moment = leaves_then old mid new serves.any_moment after.history;
    damaged = λ front disk holds. map_err IsAside (IsEarned (geometry_of old) disk (last_of old) IsRead) r (λ f none device offset is. absurd (subst IsAside is none)) aside;
    forced = λ front disk holds.
        map_err IsAside (λ f. (number : ℕ) → f ≡ fault.NeedForce number → NeedsForce (pool_of (heap_of at)) (durable_of at) number) r (λ f none number is. absurd (subst IsAside is none)) aside;
    cause = cause_aside r (faults_of old) (faults_of new) (after.faults ∙ none_failed x (faults_of old) (faults_of mid) serves.cause) aside;
  }

  -- ---- whole calls

  -- it makes no call of the device
  pub call_alone : (IsRead : PageId → Type 0) (at old new : Core T V G H) (r : Result Step Fault) → MakesNoCall old new → IfErr r IsAside → IfOk r (λ step. fault_at step ≡ Ok tt) → ServesCall IsRead at r old new
  call_alone IsRead at old new r none aside plain = record { beside = serves_alone IsRead at old new r none aside; failed = none.keeps.failed; plain = plain }

  pub call_still : (IsRead : PageId → Type 0) (at old new : Core T V G H) (r : Result Step Fault) → heap_of new ≡ heap_of old → durable_of new ≡ durable_of old → begins_of new ≡ begins_of old
      → has_failed new ≡ has_failed old → IfErr r IsAside → IfOk r (λ step. fault_at step ≡ Ok tt) → ServesCall IsRead at r old new
  call_still IsRead at old new r heap durable first failed aside plain = call_alone IsRead at old new r (nothing_called old new heap durable first failed) aside plain

  -- .. and hands a refusal on
  pub refused_still : (IsRead : PageId → Type 0) (at old new : Core T V G H) (r : Result Step Fault) (f : Fault) → IsErrAnd r (λ e. e ≡ f) → heap_of new ≡ heap_of old → durable_of new ≡ durable_of old
      → begins_of new ≡ begins_of old → has_failed new ≡ has_failed old → IsAside f → ServesCall IsRead at r old new
  refused_still IsRead at old new r f same heap durable first failed aside =
      call_still IsRead at old new r heap durable first failed (aside_as r f same aside) (none_answered (λ step. fault_at step ≡ Ok tt) r f same)

  -- .. as the call before it was served
  pub refused_as : {A : Type 0} (IsRead : PageId → Type 0) (at old new : Core T V G H) (r : Result Step Fault) (f : Fault) → IsErrAnd r (λ e. e ≡ f) → Serves {A = A} IsRead at (Err f) old new
      → has_failed new ≡ has_failed old → ServesCall IsRead at r old new
  refused_as IsRead at old new r f same serves failed = record {
    beside = serves_as IsRead at old new r f same serves;
    failed = failed;
    plain = none_answered (λ step. fault_at step ≡ Ok tt) r f same;
  }

  -- a call that was served, and then one that makes no call of the device
  pub call_then : {A : Type 0} {IsFirst : PageId → Type 0} (IsRead : PageId → Type 0) (was at old mid new : Core T V G H) (x : A) (r : Result Step Fault) → Serves IsFirst was (Ok x) old mid → has_failed mid ≡ has_failed old
      → MakesNoCall mid new → IfErr r IsAside → IfOk r (λ step. fault_at step ≡ Ok tt) → ServesCall IsRead at r old new
  call_then IsRead was at old mid new x r serves failed after aside plain = record {
    beside = serves_then IsRead was at old mid new x r serves after aside;
    failed = after.keeps.failed ∙ failed;
    plain = plain;
  }

  -- .. and is refused
  pub refused_then : {A : Type 0} {IsFirst : PageId → Type 0} (IsRead : PageId → Type 0) (was at old mid new : Core T V G H) (x : A) (r : Result Step Fault) (f : Fault) → IsErrAnd r (λ e. e ≡ f) → Serves IsFirst was (Ok x) old mid
      → has_failed mid ≡ has_failed old → MakesNoCall mid new → IsAside f → ServesCall IsRead at r old new
  refused_then IsRead was at old mid new x r f same serves failed after aside =
      call_then IsRead was at old mid new x r serves failed after (aside_as r f same aside) (none_answered (λ step. fault_at step ≡ Ok tt) r f same)

  -- the core may note a failure behind it
  pub serves_on : {A : Type 0} (IsRead : PageId → Type 0) (at old mid new : Core T V G H) (r : Result A Fault) → heap_of new ≡ heap_of mid → durable_of new ≡ durable_of mid → tail_of new ≡ tail_of mid
      → Serves IsRead at r old mid → Serves IsRead at r old new
  serves_on IsRead at old mid new r heap durable tail serves = record {
    volume = record {
      geometry = ap (λ h. heaps.geometry_of h) heap ∙ serves.volume.geometry;
      honest = ap (λ h. heaps.honesty_of h) heap ∙ serves.volume.honest;
      size = ap (λ h. size (heaps.history_of h)) heap ∙ serves.volume.size;
    };
    durable = durable ∙ serves.durable;
    first = ap (λ t. (G.first t, G.told t)) tail ∙ serves.first;
    any_moment = leaves_then old mid new serves.any_moment (ap (λ h. heaps.history_of h) heap);
    damaged = serves.damaged;
    forced = serves.forced;
    cause = subst (HasCause r (faults_of old)) (sym (ap (λ h. heaps.faults_of h) heap)) serves.cause;
  }

  -- .. and refuse by its fault
  pub serves_noted : {A : Type 0} (IsRead : PageId → Type 0) (at after old mid new : Core T V G H) (f : Fault) (step : Step) → step ≡ Refused f → heap_of new ≡ heap_of mid → durable_of new ≡ durable_of mid
      → tail_of new ≡ tail_of mid → (NeedsForceIn {A = Unit {0}} old at (Err f) → NeedsForceIn {A = Unit {0}} old after (Err f)) → Serves {A = A} IsRead at (Err f) old mid
      → Serves IsRead after (fault_at step) old new
  serves_noted {A = A} IsRead at after old mid new f step is heap durable tail still serves =
      let on = serves_on {A = A} IsRead at old mid new (Err f) heap durable tail serves in
      subst (λ (x : Step). Serves IsRead after (fault_at x) old new) (sym is) (record {
        volume = on.volume;
        durable = on.durable;
        first = on.first;
        any_moment = on.any_moment;
        damaged = on.damaged;
        forced = still on.forced;
        cause = cause_handed (Err f) f (faults_of old) (faults_of new) refl on.cause;
      })

  -- an answer that is no refusal
  pub serves_answered : (IsRead : PageId → Type 0) (at old new : Core T V G H) (step : Step) → ServesCall IsRead at (Ok step) old new → Serves IsRead at (fault_at step) old new
  serves_answered IsRead at old new step serves = subst (λ (r : Result (Unit {0}) Fault). Serves IsRead at r old new) (sym serves.plain) (record {
    volume = serves.beside.volume;
    durable = serves.beside.durable;
    first = serves.beside.first;
    any_moment = serves.beside.any_moment;
    damaged = λ front disk holds. tt;
    forced = λ front disk holds. tt;
    cause = cause_aside (Ok tt) (faults_of old) (faults_of new) (none_failed step (faults_of old) (faults_of new) serves.beside.cause) tt;
  })

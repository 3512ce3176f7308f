-- The errors of pages, and which faults they come of.
use Rattle.std.proofs.Common.{◌≡◌, ◌≢◌, ◌⊎◌, ◌≤◌, ◌<◌, ℕ, List, Result, Ok, Err, inl, inr, sym, ap, subst, ◌∙◌, length, arith}
use Rattle.std.specs.Prelude.{IsErrAnd}
use Rattle.shore_types.specs.Layout.{HasPage}
use Rattle.shore_types.specs.declared.faults.Device.TheVariants as device
use Rattle.shore_types.specs.declared.faults.Fault.{Fault}
use Rattle.shore_types.specs.declared.faults.Fault.TheVariants as fault
use Rattle.shore_types.specs.declared.ids.PageId.{PageId}
use Rattle.shore_types.specs.declared.log_ends.LogEnds.{LogEnds}
use Rattle.shore_disk.specs.declared.device.Disk.{Ghosts}
use Rattle.shore_dwrite.specs.Volumes.{HasNoPage, page_number, page_offset}
use Rattle.shore_heap.specs.declared.heap.Heap.{Heap}
use Rattle.shore_heap.specs.Heaps.{RefusesPage, geometry_of}
use Rattle.laws_heaps.specs.LoggedHeaps.{IsStoreOf}
use Rattle.laws_lives.specs.Recovery.{IsRecoverable, RecoveryState}
use Rattle.shore_disk.specs.Cause.{HasCause}
use Rattle.shore_restart.specs.declared.errors.RestartError.{RestartError}
use Rattle.shore_restart.specs.declared.errors.RestartError.TheVariants.{BadAnchor, BadRecord, Log, Memory, NoRoom, Page}
use Rattle.shore_restart.specs.Errors.{IsEarned, IsPageError, volume_answer}
use Rattle.shore_restart.proofs.Standing.{force_within}

one_page : (f h : Fault) → Page f ≡ Page h → f ≡ h
one_page f h is = cc

no_memory_page : (f : Fault) → Memory ≡ Page f → ⊥
no_memory_page f is = cc

-- the fault that a page's error is of
pub page_is : (f h : Fault) (error : RestartError) → IsPageError f error → error ≡ Page h → (f ≡ h) × (f ≢ fault.Memory)
page_is f h error (inl memory) is = absurd (no_memory_page h (sym memory.1 ∙ is))
page_is f h error (inr other) is = (one_page f h (sym other.1 ∙ is), other.0)

no_memory : (f : Fault) → f ≡ fault.Device → f ≡ fault.Memory → ⊥
no_memory f is memory = let clash = sym is ∙ memory in cc

pub device_error : (f : Fault) (error : RestartError) → IsPageError f error → f ≡ fault.Device → error ≡ Page fault.Device
device_error f error (inl memory) is = absurd (no_memory f is memory.0)
device_error f error (inr other) is = other.1 ∙ ap Page is

module _ {V : Type 0} {H : Ghosts V} where
  -- under a store no page is damaged
  pub refused_page : (disk : ℕ → List ℕ) (heap : Heap V H) (s : RecoveryState) (page : PageId) (ends : LogEnds) (f h : Fault) (error : RestartError) → IsStoreOf heap disk s → IsRecoverable s
      → HasPage (geometry_of heap) page → length s.log ≤ ends.last → RefusesPage heap disk page ends f → IsPageError f error → error ≡ Page h
      → (h ≡ fault.Device) ⊎ ((n : ℕ) × (h ≡ fault.NeedForce n) × (ends.durable < n) × (n ≤ length s.log))
  refused_page disk heap s page ends f h error store recoverable there low (inl dev) of is = inl (sym (page_is f h error of is).0 ∙ dev)
  refused_page disk heap s page ends f h error store recoverable there low (inr (inl memory)) of is = absurd ((page_is f h error of is).1 memory)
  refused_page disk heap s page ends f h error store recoverable there low (inr (inr (inl damaged))) of is =
      let text = store.volume.each page there in
      let high = damaged.1 (s.volume page).number text.images text.text in
      let most = recoverable.ahead page in
      let logged = recoverable.durable in
      absurd (omega arith)
  refused_page disk heap s page ends f h error store recoverable there low (inr (inr (inr asks))) of is =
      inr (asks.0, sym (page_is f h error of is).0 ∙ asks.1, asks.2.above, force_within disk heap s ends.durable asks.0 store recoverable asks.2)

  pub earned_page : (disk : ℕ → List ℕ) (heap : Heap V H) (page : PageId) (ends : LogEnds) (f : Fault) (error : RestartError) → HasPage (geometry_of heap) page
      → RefusesPage heap disk page ends f → IsPageError f error → IsEarned (geometry_of heap) disk ends.last error
  earned_page disk heap page ends f error there refuses of offset is = by_kind refuses
    where
      same : f ≡ fault.Damaged device.Volume offset
      same = (page_is f (fault.Damaged device.Volume offset) error of is).0

      by_kind : RefusesPage heap disk page ends f → (id : PageId) × HasPage (geometry_of heap) id × (offset ≡ page_offset (geometry_of heap).version (page_number (geometry_of heap) id)) × HasNoPage (geometry_of heap).version (disk (page_number (geometry_of heap) id)) id ends.last
      by_kind (inl dev) = let clash = sym same ∙ dev in absurd cc
      by_kind (inr (inl memory)) = let clash = sym same ∙ memory in absurd cc
      by_kind (inr (inr (inl damaged))) = let one = sym same ∙ damaged.0 in (page, there, cc, damaged.1)
      by_kind (inr (inr (inr asks))) = let clash = sym same ∙ asks.1 in absurd cc

one_err : (x y : Fault) → ◌≡◌ {A = Result (Unit {0}) Fault} (Err x) (Err y) → x ≡ y
one_err x y is = cc

-- the volume's answer is the fault's
pub page_cause : (A : Type 0) (f : Fault) (error : RestartError) (old new : ℕ) → IsPageError f error → HasCause {T = Unit {0}} (Err f) old new → HasCause (volume_answer {A = A} (Err error)) old new
page_cause A f error old new (inl memory) cause = subst (λ (e : RestartError). HasCause (volume_answer {A = A} (Err e)) old new) (sym memory.1) (record {
  no_lower = cause.no_lower;
  reported = λ is. absurd cc;
  unreported = λ other. cause.unreported (λ is. no_memory f (one_err f fault.Device is) memory.0);
})
page_cause A f error old new (inr other) cause = subst (λ (e : RestartError). HasCause (volume_answer {A = A} (Err e)) old new) (sym other.1) cause

-- an error that was passed on
pub err_with : {T E : Type 0} (r : Result T E) (x : E) → IsErrAnd r (λ e. e ≡ x) → r ≡ Err x
err_with (Ok u) x is = absurd is
err_with (Err e) x is = ap Err is

-- .. with what it tells of the volume, behind calls that were not refused
pub passed_cause : (A B : Type 0) (r : Result A RestartError) (error : RestartError) (old between new : ℕ) → between ≡ old → IsErrAnd r (λ e. e ≡ error) → HasCause (volume_answer {A = B} (Err error)) between new
    → HasCause (volume_answer {A = A} r) old new
passed_cause A B r error old between new same is cause = subst (λ (result : Result A RestartError). HasCause (volume_answer {A = A} result) old new) (sym (err_with r error is))
    (subst (λ (n : ℕ). HasCause (volume_answer {A = A} (Err error)) n new) same (same_answer error cause))
  where
    same_answer : (e : RestartError) → HasCause (volume_answer {A = B} (Err e)) between new → HasCause (volume_answer {A = A} (Err e)) between new
    same_answer Memory cause = cause
    same_answer NoRoom cause = cause
    same_answer (BadRecord n) cause = cause
    same_answer (Page f) cause = cause
    same_answer (Log f) cause = cause
    same_answer BadAnchor cause = cause

-- Who is let through, in the state that a core is in.
use Rattle.std.proofs.Common.{◌≡◌, ◌<◌, inl, inr, ℕ, zero, suc, List, [], ◌∷◌, Some, false, IsTrue, refl, sym, ◌∙◌, ap, subst}
use Rattle.std.specs.Prelude.{◌↔◌, slice_get}
use Rattle.std.proofs.lemmas.Option.{same_Some}
use Rattle.shore_types.specs.declared.locking.Granule.{Granule}
use Rattle.shore_disk.specs.declared.device.Disk as disk
use Rattle.shore_log.specs.declared.tail.Tail as tail
use Rattle.shore_locks.specs.Tables.{Table, is_waiting}
use Rattle.shore_model.specs.declared.log_records.LogRecord.{LogRecord}
use Rattle.shore_model.specs.declared.step.Wait.{Wait}
use Rattle.shore_model.specs.declared.step.Wait.TheVariants.{Durable, Lock}
use Rattle.laws_calls.specs.States.{State}
use Rattle.shore_model.specs.declared.sessions.SessionState.{SessionState}
use Rattle.laws_lives.specs.Sessions.{in_txn}
use Rattle.laws_lives.specs.Views.{IsAmong}
use Rattle.shore_sessions.specs.Calls.{as_waiting, awaits_record, is_durable}
use Rattle.shore_sessions.specs.declared.waits.WaitingCall.{WaitingCall}
use Rattle.shore_sessions.proofs.Seats.{active_above}
use Rattle.shore_sessions.proofs.WaitSteps.{asks}
use Rattle.shore_core.specs.declared.core_calls.Core.{Core}
use Rattle.shore_core.specs.Cores.{IsBeside, locks_of, txns_of, waits_of}
use Rattle.shore_core.specs.Waking.{IsLetThrough, MayGoOnIn}

pub among_at : {A : Type 0} (xs : List A) (i : ℕ) (x : A) → slice_get xs i ≡ Some x → IsAmong x xs
among_at [] i x at = absurd cc
among_at (y ∷ ys) zero x at = inl (same_Some y x at)
among_at (y ∷ ys) (suc i) x at = inr (among_at ys i x at)

-- what is not for a force is for a lock
lock_of : (w : Wait) → is_durable w ≡ false → (at : Granule) × (w ≡ Lock at)
lock_of (Lock at) is = (at, refl)
lock_of (Durable n) is = absurd cc

for_lock : (w : Wait) (at : Granule) → w ≡ Lock at → is_durable w ≡ false
for_lock w at is = ap is_durable is

module _ {T V : Type 0} {G : tail.Ghosts T} {H : disk.Ghosts V} (core : Core T V G H) (before : List LogRecord) (s : State) (is : IsBeside before core s) (w : WaitingCall) (among : IsAmong w (waits_of core)) where
  waits_alike : (t : ℕ) → is_waiting t s.locks.requests ≡ is_waiting t (locks_of core).requests
  waits_alike t = ap (λ (l : Table). is_waiting t l.requests) is.parts.stands.locks

  goes_on : IsLetThrough core w → MayGoOnIn s (as_waiting w)
  goes_on (inl failed) = inl (is.parts.failed_is ∙ failed)
  goes_on (inr (lock, free)) =
      let at = lock_of w.wait lock in
      let its = asks (waits_of core) s is.parts.stands.waits (active_above (txns_of core) s is.parts.stands.txns) w among lock in
      inr (at.0, its.0, at.1, its.1, ap (λ t. is_waiting t s.locks.requests) its.2 ∙ waits_alike w.txn ∙ free)

  let_through : MayGoOnIn s (as_waiting w) → IsLetThrough core w
  let_through (inl failed) = inl (sym is.parts.failed_is ∙ failed)
  let_through (inr (at, a, lock, of, free)) =
      let none = for_lock w.wait at lock in
      let seats : in_txn w.txn ≡ in_txn a.txn = sym (is.parts.stands.waits.asking w among none).1 ∙ ap s.sessions.seats (sym of.1) ∙ of.0.1 in
      let same : w.txn ≡ a.txn = ap (λ (x : SessionState). x.txn) seats in
      inr (none, ap (λ t. is_waiting t (locks_of core).requests) same ∙ sym (waits_alike a.txn) ∙ free)

  pub both_ways : IsLetThrough core w ↔ MayGoOnIn s (as_waiting w)
  both_ways = (goes_on, let_through)

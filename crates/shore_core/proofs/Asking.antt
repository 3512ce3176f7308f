-- Which calls ask for a lock, and when a call has to need the force that it asks for.
use Rattle.std.proofs.Common.{◌≡◌, ◌⊎◌, inl, inr, ℕ, List, Result, false, refl, sym, subst}
use Rattle.std.specs.Prelude.{IfErr, IsSome}
use Rattle.std.proofs.lemmas.Bool.{false≢true}
use Rattle.shore_model.specs.declared.calls.Call.{Call}
use Rattle.shore_model.specs.declared.calls.Call.TheVariants as call
use Rattle.shore_model.specs.declared.calls.Outcome.TheVariants as outcome
use Rattle.shore_disk.specs.declared.device.Disk as disk
use Rattle.shore_log.specs.declared.tail.Tail as tail
use Rattle.shore_pool.specs.Pools.{NeedsForce}
use Rattle.shore_heap.specs.declared.heap.Heap.{Heap}
use Rattle.shore_heap.specs.Heaps.{pool_of}
use Rattle.shore_types.specs.declared.faults.Fault.{Fault}
use Rattle.shore_types.specs.declared.faults.Fault.TheVariants as fault
use Rattle.laws_locks.specs.CallLocks.{lock_asked_by}
use Rattle.laws_calls.specs.CallSteps.{NeedsTxn}
use Rattle.shore_sessions.specs.Calls.{logs_decision}
use Rattle.shore_core.specs.declared.core_calls.Core.{Core}
use Rattle.shore_core.specs.Cores.{durable_of, heap_of}
use Rattle.shore_core.specs.Replies.{NeedsForceIn, forced_at}

-- a call in a session's transaction, but for those that begin it, prepare it, end it or roll it back
pub asks : (c : Call) → (c ≡ call.Begin) ⊎ NeedsTxn c → (c ≡ call.Begin → ⊥) → (c ≡ call.Commit → ⊥) → ((global : List ℕ) → c ≡ call.Prepare global → ⊥) → (c ≡ call.Savepoint → ⊥)
    → ((index : ℕ) → c ≡ call.BackTo index → ⊥) → (c ≡ call.Abort → ⊥) → IsSome (lock_asked_by c)
asks call.Begin own begin commit prepare savepoint back abort = absurd (begin refl)
asks call.Commit own begin commit prepare savepoint back abort = absurd (commit refl)
asks (call.Get id) own begin commit prepare savepoint back abort = refl
asks (call.GetForUpdate id) own begin commit prepare savepoint back abort = refl
asks (call.Insert store bytes) own begin commit prepare savepoint back abort = refl
asks (call.Update id bytes) own begin commit prepare savepoint back abort = refl
asks (call.Delete id) own begin commit prepare savepoint back abort = refl
asks (call.Scan store) own begin commit prepare savepoint back abort = refl
asks (call.Lock granule mode) own begin commit prepare savepoint back abort = refl
asks (call.TryLock granule mode) own begin commit prepare savepoint back abort = refl
asks call.Savepoint own begin commit prepare savepoint back abort = absurd (savepoint refl)
asks (call.BackTo index) own begin commit prepare savepoint back abort = absurd (back index refl)
asks call.Abort own begin commit prepare savepoint back abort = absurd (abort refl)
asks (call.Prepare global) own begin commit prepare savepoint back abort = absurd (prepare global refl)
asks (call.Resolve global asked) (inl is) begin commit prepare savepoint back abort = absurd (begin is)
asks (call.Resolve global asked) (inr needs) begin commit prepare savepoint back abort = absurd needs
asks call.InDoubt (inl is) begin commit prepare savepoint back abort = absurd (begin is)
asks call.InDoubt (inr needs) begin commit prepare savepoint back abort = absurd needs

-- .. which logs no decision
pub asks_no_decision : (c : Call) → IsSome (lock_asked_by c) → logs_decision c ≡ false
asks_no_decision (call.Get id) asked = refl
asks_no_decision (call.GetForUpdate id) asked = refl
asks_no_decision (call.Insert store bytes) asked = refl
asks_no_decision (call.Update id bytes) asked = refl
asks_no_decision (call.Delete id) asked = refl
asks_no_decision (call.Scan store) asked = refl
asks_no_decision (call.Lock granule mode) asked = refl
asks_no_decision (call.TryLock granule mode) asked = refl
asks_no_decision call.Begin asked = refl
asks_no_decision call.Savepoint asked = refl
asks_no_decision (call.BackTo index) asked = refl
asks_no_decision call.Abort asked = refl
asks_no_decision call.Commit asked = absurd (false≢true asked)
asks_no_decision (call.Prepare global) asked = absurd (false≢true asked)
asks_no_decision (call.Resolve global decided) asked = absurd (false≢true asked)
asks_no_decision call.InDoubt asked = refl

module _ {T V : Type 0} {G : tail.Ghosts T} {H : disk.Ghosts V} (old : Core T V G H) where
  -- a call that asks for a lock has to need a force as it begins
  pub forced_as_asked : (new : Core T V G H) (c : Call) → IsSome (lock_asked_by c) → forced_at c old new ≡ old
  forced_as_asked new (call.Get id) asked = refl
  forced_as_asked new (call.GetForUpdate id) asked = refl
  forced_as_asked new (call.Insert store bytes) asked = refl
  forced_as_asked new (call.Update id bytes) asked = refl
  forced_as_asked new (call.Delete id) asked = refl
  forced_as_asked new (call.Scan store) asked = refl
  forced_as_asked new (call.Lock granule mode) asked = refl
  forced_as_asked new (call.TryLock granule mode) asked = refl
  forced_as_asked new call.Begin asked = refl
  forced_as_asked new call.Savepoint asked = refl
  forced_as_asked new (call.BackTo index) asked = absurd (false≢true asked)
  forced_as_asked new call.Commit asked = refl
  forced_as_asked new call.Abort asked = absurd (false≢true asked)
  forced_as_asked new (call.Prepare global) asked = refl
  forced_as_asked new (call.Resolve global outcome.Commit) asked = refl
  forced_as_asked new (call.Resolve global outcome.Abort) asked = absurd (false≢true asked)
  forced_as_asked new call.InDoubt asked = refl

  -- a failure that is noted moves no page
  pub forced_behind : (mid new : Core T V G H) (c : Call) {A : Type 0} (r : Result A Fault) → heap_of new ≡ heap_of mid → durable_of new ≡ durable_of mid
      → NeedsForceIn old (forced_at c old mid) r → NeedsForceIn old (forced_at c old new) r
  forced_behind mid new c r heap durable = by_call c
    where
      -- .. of a call that needs it as it has left the pages
      left : NeedsForceIn old mid r → NeedsForceIn old new r
      left needs front disk holds =
          subst (λ (h : Heap V H). IfErr r (λ f. (n : ℕ) → f ≡ fault.NeedForce n → NeedsForce (pool_of h) (durable_of new) n)) (sym heap)
          (subst (λ d. IfErr r (λ f. (n : ℕ) → f ≡ fault.NeedForce n → NeedsForce (pool_of (heap_of mid)) d n)) (sym durable) (needs front disk holds))

      by_call : (c : Call) → NeedsForceIn old (forced_at c old mid) r → NeedsForceIn old (forced_at c old new) r
      by_call (call.BackTo index) needs = left needs
      by_call call.Abort needs = left needs
      by_call (call.Get id) needs = needs
      by_call (call.GetForUpdate id) needs = needs
      by_call (call.Insert store bytes) needs = needs
      by_call (call.Update id bytes) needs = needs
      by_call (call.Delete id) needs = needs
      by_call (call.Scan store) needs = needs
      by_call (call.Lock granule mode) needs = needs
      by_call (call.TryLock granule mode) needs = needs
      by_call call.Begin needs = needs
      by_call call.Savepoint needs = needs
      by_call call.Commit needs = needs
      by_call (call.Prepare global) needs = needs
      by_call (call.Resolve global outcome.Commit) needs = needs
      by_call (call.Resolve global outcome.Abort) needs = left needs
      by_call call.InDoubt needs = needs

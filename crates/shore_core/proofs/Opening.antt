-- What a call comes to whose session has no transaction, or one that may do no more than end a rollback.
use Rattle.laws_checkpoints.specs.CheckpointedStores.{CheckpointedStore}
use Rattle.std.proofs.Common.{◌≡◌, ◌≢◌, ◌⊎◌, inl, inr, ℕ, List, None, Option, Some, Result, Err, IsErrAnd, false, true, refl, subst}
use Rattle.std.specs.Prelude.{IsSome}
use Rattle.shore_types.specs.declared.faults.Fault.{Fault}
use Rattle.shore_types.specs.declared.faults.Fault.TheVariants as fault
use Rattle.shore_model.specs.declared.calls.Call.{Call}
use Rattle.shore_model.specs.declared.calls.Call.TheVariants as call
use Rattle.shore_model.specs.declared.calls.Outcome.{Outcome}
use Rattle.shore_model.specs.declared.log_records.LogRecord.{LogRecord}
use Rattle.shore_disk.specs.declared.device.Disk as disk
use Rattle.shore_log.specs.declared.tail.Tail as tail
use Rattle.laws_locks.specs.CallLocks.{Asked, lock_asked_by}
use Rattle.laws_lives.specs.OwnSeats.{HasOwnSeats}
use Rattle.laws_lives.specs.UndoLists.{UndoList}
use Rattle.laws_calls.proofs.SessionInversions.{asks_in_txn}
use Rattle.laws_calls.specs.CallSteps.{NeedsTxn}
use Rattle.laws_calls.specs.Rollbacks.{TakesCall}
use Rattle.laws_calls.specs.States.{DoesNotWait, HasPrepared, State}
use Rattle.shore_model.specs.declared.step.Step.{Step}
use Rattle.shore_sessions.proofs.Seats.{in_no_txn}
use Rattle.shore_txn.specs.Transactions.{HasNoTxnOf}
use Rattle.shore_core.specs.declared.core_calls.Core.{Core}
use Rattle.shore_core.specs.Callers.{IsNotOpen}
use Rattle.shore_core.specs.Cores.{IsIn, IsOver, txns_of}
use Rattle.shore_core.specs.Replies.{Replied}
use Rattle.shore_core.proofs.Coming.{comes_same}
use Rattle.shore_core.proofs.Taking.{replied_as}

-- a call of a transaction that does not roll it back
pub record IsInner (c : Call) : Type 0 where
  pub needs : NeedsTxn c
  pub aborts : c ≢ call.Abort
  pub goes : (n : ℕ) → c ≢ call.BackTo n

pub inner_asks : (c : Call) → IsSome (lock_asked_by c) → IsInner c
inner_asks c some = record {
  needs = let asked = asked_some (lock_asked_by c) some in asks_in_txn c asked.0 asked.1;
  aborts = λ is. abort (subst (λ x. IsSome (lock_asked_by x)) is some);
  goes = λ n is. back n (subst (λ x. IsSome (lock_asked_by x)) is some);
}
  where
    asked_some : (o : Option Asked) → IsSome o → (lock : Asked) × (o ≡ Some lock)
    asked_some (Some lock) is = (lock, refl)
    asked_some None is = absurd (never is)
      where
        never : false ≡ true → ⊥
        never e = cc

    abort : IsSome (lock_asked_by call.Abort) → ⊥
    abort e = cc

    back : (n : ℕ) → IsSome (lock_asked_by (call.BackTo n)) → ⊥
    back n e = cc

-- a call in a session's transaction needs one, unless it begins one
pub needs_txn : (c : Call) → (c ≡ call.Begin) ⊎ NeedsTxn c → c ≢ call.Begin → NeedsTxn c
needs_txn c (inl begins) other = absurd (other begins)
needs_txn c (inr needs) other = needs

-- a call that is neither a resolve nor asks who is in doubt is in a session's transaction
pub own_call : (c : Call) → ((global : List ℕ) (asked : Outcome) → c ≡ call.Resolve global asked → ⊥) → (c ≡ call.InDoubt → ⊥) → (c ≡ call.Begin) ⊎ NeedsTxn c
own_call call.Begin resolve doubt = inl refl
own_call (call.Get id) resolve doubt = inr tt
own_call (call.GetForUpdate id) resolve doubt = inr tt
own_call (call.Insert store bytes) resolve doubt = inr tt
own_call (call.Update id bytes) resolve doubt = inr tt
own_call (call.Delete id) resolve doubt = inr tt
own_call (call.Scan store) resolve doubt = inr tt
own_call (call.Lock at mode) resolve doubt = inr tt
own_call (call.TryLock at mode) resolve doubt = inr tt
own_call call.Savepoint resolve doubt = inr tt
own_call (call.BackTo index) resolve doubt = inr tt
own_call call.Commit resolve doubt = inr tt
own_call call.Abort resolve doubt = inr tt
own_call (call.Prepare global) resolve doubt = inr tt
own_call (call.Resolve global asked) resolve doubt = absurd (resolve global asked refl)
own_call call.InDoubt resolve doubt = absurd (doubt refl)

pub inner_commit : IsInner call.Commit
inner_commit = record { needs = tt; aborts = λ e. cc; goes = λ n e. cc }

pub inner_savepoint : IsInner call.Savepoint
inner_savepoint = record { needs = tt; aborts = λ e. cc; goes = λ n e. cc }

pub inner_prepare : (global : List ℕ) → IsInner (call.Prepare global)
inner_prepare global = record { needs = tt; aborts = λ e. cc; goes = λ n e. cc }

-- it is not taken once a rollback has begun
whole_taken : (undo : UndoList) (c : Call) → IsInner c → TakesCall undo c → undo.rolling ≡ None
whole_taken undo c inner (inl whole) = whole
whole_taken undo c inner (inr (inl abort)) = absurd (inner.aborts abort)
whole_taken undo c inner (inr (inr back)) = absurd (inner.goes back.0 back.2)

module _ {T V : Type 0} {G : tail.Ghosts T} {H : disk.Ghosts V} (core : Core T V G H) where
  -- a call of a session that has no transaction
  pub replied_none : (front : List ℕ) (disk : ℕ → List ℕ) (before : List LogRecord) (s : State) (store : CheckpointedStore) (session : ℕ) (c : Call)
      → IsIn front disk before core s → IsOver disk core s store → HasOwnSeats s.sessions → NeedsTxn c → s.failed ≡ false → DoesNotWait s session → HasNoTxnOf session (txns_of core)
      → Replied session c (Err fault.NoTransaction) core core front before s store
  replied_none front disk before s store session c is over seats needs works idle none = record {
    later = s;
    replies = inr (inr (inr (inr (inl (works, idle, needs, in_no_txn (txns_of core) s is.beside.parts.stands.txns seats session none, refl, refl)))));
    comes = inr (comes_same core front disk before s store is over);
  }

  -- .. or one that is prepared
  pub replied_prepared : (front : List ℕ) (disk : ℕ → List ℕ) (before : List LogRecord) (s : State) (store : CheckpointedStore) (session : ℕ) (c : Call) (r : Result Step Fault) (f : Fault)
      → IsIn front disk before core s → IsOver disk core s store → NeedsTxn c → s.failed ≡ false → DoesNotWait s session → IsErrAnd r (λ e. e ≡ f) → f ≡ fault.IsPrepared → HasPrepared s session
      → Replied session c r core core front before s store
  replied_prepared front disk before s store session c r f is over needs works idle same is_prepared prepared =
      replied_as core core front before s store session c r fault.IsPrepared (subst (λ x. IsErrAnd r (λ e. e ≡ x)) is_prepared same)
      (inr (inr (inr (inr (inr (inr (inl (works, idle, needs, prepared, refl, refl))))))))
      (inr (comes_same core front disk before s store is over))

  pub replied_not_open : (front : List ℕ) (disk : ℕ → List ℕ) (before : List LogRecord) (s : State) (store : CheckpointedStore) (session : ℕ) (c : Call) (r : Result Step Fault) (f : Fault)
      → IsIn front disk before core s → IsOver disk core s store → IsInner c → s.failed ≡ false → DoesNotWait s session → IsErrAnd r (λ e. e ≡ f) → IsNotOpen s session f
      → Replied session c r core core front before s store
  replied_not_open front disk before s store session c r f is over inner works idle same (inl (must, (a, its, rolls))) =
      replied_as core core front before s store session c r fault.MustAbort (subst (λ x. IsErrAnd r (λ e. e ≡ x)) must same)
      (inr (inr (inr (inr (inr (inl (works, idle, (a, its, inl (inner.needs, (λ takes. rolls (whole_taken a.undo c inner takes)), refl, refl)))))))))
      (inr (comes_same core front disk before s store is over))
  replied_not_open front disk before s store session c r f is over inner works idle same (inr (is_prepared, prepared)) =
      replied_prepared front disk before s store session c r f is over inner.needs works idle same is_prepared prepared

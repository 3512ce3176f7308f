-- What a lock that may wait can be refused with.
use Rattle.std.proofs.Common.{◌≡◌, inl, inr, ℕ, List, [], ◌∷◌, Bool, true, false, cond, Option, None, Some, refl, ap, sym, subst, ◌∙◌}
use Rattle.std.specs.Prelude.{Result, Ok, Err, IfErr, reverse}
use Rattle.shore_types.specs.Locking.{level_of}
use Rattle.shore_types.specs.declared.faults.Fault.{Fault}
use Rattle.shore_types.specs.declared.faults.Fault.TheVariants as fault
use Rattle.shore_types.specs.declared.locking.Granule.{Granule}
use Rattle.shore_types.specs.declared.locking.Mode.{Mode}
use Rattle.shore_model.specs.Locks.{path}
use Rattle.shore_model.specs.Modes.{is_allowed}
use Rattle.shore_model.specs.declared.requests.Request.{Request}
use Rattle.shore_locks.specs.Grants.{answer_to}
use Rattle.shore_locks.specs.Tables.{Table}
use Rattle.shore_locks.specs.declared.answers.Requested.{Requested}
use Rattle.shore_locks.specs.declared.answers.Requested.TheVariants as requested
use Rattle.shore_path.specs.Walks.{Outcome, acquired, after_at, is_spared, of_request, or_stop, asked_of, walk}
use Rattle.shore_path.specs.declared.answers.Acquired.{Acquired}
use Rattle.shore_path.specs.declared.answers.Acquired.TheVariants as acquire
use Rattle.shore_path.specs.declared.answers.OnConflict.TheVariants as conflict
use Rattle.shore_deadlock.specs.declared.locking.Locked.{Locked}
use Rattle.shore_deadlock.specs.declared.locking.Locked.TheVariants as locked
use Rattle.shore_cycles.specs.declared.victims.Victim.{Victim}
use Rattle.shore_deadlock.specs.Locking.{Ends, Settles}
use Rattle.shore_sessions.specs.Noting.{RefusesToLock, answer_of, told_cycle}
use Rattle.shore_sessions.proofs.LockRounds.{told_more, told_victim}

of_walk : (t : ℕ) (target : Granule) (mode : Mode) (limit : ℕ) (way : List Granule) (rs : List Request) → IfErr (walk conflict.Wait t target mode limit way rs).answer RefusesToLock
of_walk t target mode limit [] rs = tt
of_walk t target mode limit (g ∷ below) rs =
    by (is_spared t target mode g rs) (answer_to (record { limit = limit; requests = rs }) t g (asked_of target mode g)) (of_walk t target mode limit below after)
  where
    after : List Request
    after = after_at conflict.Wait (record { limit = limit; requests = rs }) t g (asked_of target mode g)

    by : (b : Bool) (answer : Requested) → IfErr (walk conflict.Wait t target mode limit below after).answer RefusesToLock
        → IfErr (cond b (record { answer = Ok acquire.Done; requests = rs }) (or_stop (of_request g answer) after (walk conflict.Wait t target mode limit below after))).answer RefusesToLock
    by true answer rest = tt
    by false requested.Granted rest = rest
    by false requested.Waiting rest = tt
    by false requested.Full rest = tt

of_acquire : (table : Table) (t : ℕ) (target : Granule) (mode : Mode) → IfErr (acquired conflict.Wait table t target mode).answer RefusesToLock
of_acquire table t target mode = elim (is_allowed (level_of target) mode) as (λ b.
    IfErr (cond b (walk conflict.Wait t target mode table.limit (reverse (path target)) table.requests) (record { answer = Err fault.BadMode; requests = table.requests })).answer RefusesToLock) [
      | true ↦ of_walk t target mode table.limit (reverse (path target)) table.requests
      | false ↦ tt
    ]

of_end : (table : Table) (t : ℕ) (target : Granule) (mode : Mode) (answer : Result Locked Fault) (o : Option (List ℕ)) (last : List Victim) (new : List Request)
    → Ends table t target mode answer last new → IfErr (answer_of answer (told_cycle t o last)) RefusesToLock
of_end table t target mode (Ok locked.Done) o last new ends = tt
of_end table t target mode (Ok (locked.Waiting g)) o last new ends = tt
of_end table t target mode (Ok locked.Deadlock) o last new ends =
    let told = told_victim t o last ends.1 in subst (λ cycle. IfErr (answer_of (Ok locked.Deadlock) cycle) RefusesToLock) (sym told.1) tt
of_end table t target mode (Err f) o last new (inl acquires, none) =
    subst (λ answer. IfErr answer RefusesToLock) (ap (λ (out : Outcome). out.answer) acquires) (of_acquire table t target mode)
of_end table t target mode (Err f) o last new (inr short, none) = subst RefusesToLock (sym short.0) tt

pub refuses_so : (old new : Table) (t : ℕ) (target : Granule) (mode : Mode) (answer : Result Locked Fault) (victims : List Victim) → Settles old new t target mode answer victims
    → IfErr (answer_of answer (told_cycle t None victims)) RefusesToLock
refuses_so old new t target mode answer victims settles =
    subst (λ o. IfErr (answer_of answer o) RefusesToLock) (sym (ap (told_cycle t None) settles.told ∙ told_more t None settles.before settles.last))
    (of_end (record { limit = old.limit; requests = settles.mid }) t target mode answer (told_cycle t None settles.before) settles.last new.requests settles.ends)

no_refusal : (f : Fault) → Err f ≡ Ok acquire.Done → ⊥
no_refusal f is = cc

no_wait : (g : Granule) → ◌≡◌ {A = Result Acquired Fault} (Ok (acquire.Waiting g)) (Ok acquire.Done) → ⊥
no_wait g is = cc

-- what is told as done is done
pub done_so : (answer : Result Locked Fault) (told : Option (List ℕ)) → answer_of answer told ≡ Ok acquire.Done → answer ≡ Ok locked.Done
done_so (Ok locked.Done) told is = refl
done_so (Ok (locked.Waiting g)) told is = absurd (no_wait g is)
done_so (Ok locked.Deadlock) (Some cycle) is = absurd (no_refusal (fault.Deadlock cycle) is)
done_so (Ok locked.Deadlock) None is = absurd (no_refusal fault.MustAbort is)
done_so (Err f) told is = absurd (no_refusal f is)

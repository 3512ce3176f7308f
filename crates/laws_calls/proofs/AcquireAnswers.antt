-- What an acquire of the lock table is answered: which refusals there are, and who is told to wait.
use Rattle.std.proofs.Common.{◌≡◌, ◌⊎◌, inl, inr, ℕ, List, Bool, true, false, sym, subst, cond, Ok, Err, reverse}
use Rattle.shore_types.specs.Locking.{level_of}
use Rattle.shore_types.specs.declared.faults.Fault.{Fault}
use Rattle.shore_types.specs.declared.faults.Fault.TheVariants as fault
use Rattle.shore_types.specs.declared.locking.Granule.{Granule}
use Rattle.shore_types.specs.declared.locking.Mode.{Mode}
use Rattle.shore_model.specs.Locks.{path}
use Rattle.shore_model.specs.Modes.{is_allowed}
use Rattle.shore_model.specs.declared.requests.Request.{Request}
use Rattle.shore_locks.specs.Tables.{Table}
use Rattle.shore_path.proofs.Walking.{EachCase, of_walk}
use Rattle.shore_path.specs.Walks.{Outcome, acquired, walk}
use Rattle.shore_path.specs.declared.answers.Acquired.TheVariants as acquire
use Rattle.shore_path.specs.declared.answers.OnConflict.{OnConflict}
use Rattle.shore_path.specs.declared.answers.OnConflict.TheVariants as conflict
use Rattle.shore_model.specs.declared.step.Step.TheVariants.{Refused}
use Rattle.laws_calls.proofs.Decided.{ordinary}
use Rattle.laws_calls.specs.StateChanges.{ComesOfState}

abbrev pub IsLockFault : Fault → Type 0
IsLockFault f = (f ≡ fault.LockTableFull) ⊎ ((f ≡ fault.BadMode) ⊎ ((holder : ℕ) × (f ≡ fault.WouldBlock holder)))

pub lock_fault_ordinary : (f : Fault) → IsLockFault f → ComesOfState (Refused f)
lock_fault_ordinary f (inl e) = subst (λ (f : Fault). ComesOfState (Refused f)) (sym e) (ordinary fault.LockTableFull tt)
lock_fault_ordinary f (inr (inl e)) = subst (λ (f : Fault). ComesOfState (Refused f)) (sym e) (ordinary fault.BadMode tt)
lock_fault_ordinary f (inr (inr h)) = subst (λ (f : Fault). ComesOfState (Refused f)) (sym h.1) (ordinary (fault.WouldBlock h.0) tt)

module _ (t : ℕ) (target : Granule) (mode : Mode) (limit : ℕ) where
  module _ (c : OnConflict) where
    fault_case : EachCase c t target mode limit (λ way rs out. (f : Fault) → out.answer ≡ Err f → IsLockFault f)
    fault_case = record {
      over = λ rs f e. absurd cc;
      spared = λ g below rs s f e. absurd cc;
      full = λ g below rs s f e. inl cc;
      waits = λ g below rs o is s f e. absurd cc;
      blocked = λ g below rs o is s f e. inr (inr (o.txn, cc));
      holds = λ g below rs s on f e. on f e;
      grants = λ g below rs e s o on f is. on f is;
    }

    pub walk_fault : (way : List Granule) (rs : List Request) (f : Fault) → (walk c t target mode limit way rs).answer ≡ Err f → IsLockFault f
    walk_fault = of_walk c t target mode limit (λ way rs out. (f : Fault) → out.answer ≡ Err f → IsLockFault f) fault_case

    mode_case : EachCase c t target mode limit (λ way rs out. out.answer ≡ Err fault.BadMode → ⊥)
    mode_case = record {
      over = λ rs e. cc;
      spared = λ g below rs s e. cc;
      full = λ g below rs s e. cc;
      waits = λ g below rs o is s e. cc;
      blocked = λ g below rs o is s e. cc;
      holds = λ g below rs s on e. on e;
      grants = λ g below rs e s o on is. on is;
    }

    pub walk_mode : (way : List Granule) (rs : List Request) → (walk c t target mode limit way rs).answer ≡ Err fault.BadMode → ⊥
    walk_mode = of_walk c t target mode limit (λ way rs out. out.answer ≡ Err fault.BadMode → ⊥) mode_case

  try_case : EachCase conflict.Refuse t target mode limit (λ way rs out. (g : Granule) → out.answer ≡ Ok (acquire.Waiting g) → ⊥)
  try_case = record {
    over = λ rs g e. cc;
    spared = λ h below rs s g e. cc;
    full = λ h below rs s g e. cc;
    waits = λ h below rs o is s g e. cc;
    blocked = λ h below rs o is s g e. cc;
    holds = λ h below rs s on g e. on g e;
    grants = λ h below rs e s o on g is. on g is;
  }

  pub walk_try : (way : List Granule) (rs : List Request) (g : Granule) → (walk conflict.Refuse t target mode limit way rs).answer ≡ Ok (acquire.Waiting g) → ⊥
  walk_try = of_walk conflict.Refuse t target mode limit (λ way rs out. (g : Granule) → out.answer ≡ Ok (acquire.Waiting g) → ⊥) try_case

  wait_case : EachCase conflict.Wait t target mode limit (λ way rs out. (holder : ℕ) → out.answer ≡ Err (fault.WouldBlock holder) → ⊥)
  wait_case = record {
    over = λ rs holder e. cc;
    spared = λ g below rs s holder e. cc;
    full = λ g below rs s holder e. cc;
    waits = λ g below rs o is s holder e. cc;
    blocked = λ g below rs o is s holder e. cc;
    holds = λ g below rs s on holder e. on holder e;
    grants = λ g below rs e s o on holder is. on holder is;
  }

  pub walk_wait : (way : List Granule) (rs : List Request) (holder : ℕ) → (walk conflict.Wait t target mode limit way rs).answer ≡ Err (fault.WouldBlock holder) → ⊥
  walk_wait = of_walk conflict.Wait t target mode limit (λ way rs out. (holder : ℕ) → out.answer ≡ Err (fault.WouldBlock holder) → ⊥) wait_case

-- what refuses it is the mode, or the walk
abbrev pub outcome_by : OnConflict → Table → ℕ → Granule → Mode → Bool → Outcome
outcome_by c table t target mode b = cond b (walk c t target mode table.limit (reverse (path target)) table.requests) (record { answer = Err fault.BadMode; requests = table.requests })

module _ (table : Table) (t : ℕ) (target : Granule) (mode : Mode) where
  pub acquire_fault : (c : OnConflict) (f : Fault) → (acquired c table t target mode).answer ≡ Err f → IsLockFault f
  acquire_fault c f = by (is_allowed (level_of target) mode)
    where
      by : (b : Bool) → (outcome_by c table t target mode b).answer ≡ Err f → IsLockFault f
      by true e = walk_fault t target mode table.limit c (reverse (path target)) table.requests f e
      by false e = inr (inl cc)

  -- an acquire that may not wait is never told to
  pub try_never_waits : (g : Granule) → (acquired conflict.Refuse table t target mode).answer ≡ Ok (acquire.Waiting g) → ⊥
  try_never_waits g = by (is_allowed (level_of target) mode)
    where
      by : (b : Bool) → (outcome_by conflict.Refuse table t target mode b).answer ≡ Ok (acquire.Waiting g) → ⊥
      by true e = walk_try t target mode table.limit (reverse (path target)) table.requests g e
      by false e = cc

  -- one that may is refused for no holder
  pub wait_never_blocks : (holder : ℕ) → (acquired conflict.Wait table t target mode).answer ≡ Err (fault.WouldBlock holder) → ⊥
  wait_never_blocks holder = by (is_allowed (level_of target) mode)
    where
      by : (b : Bool) → (outcome_by conflict.Wait table t target mode b).answer ≡ Err (fault.WouldBlock holder) → ⊥
      by true e = walk_wait t target mode table.limit (reverse (path target)) table.requests holder e
      by false e = cc

  -- one for an allowed mode is refused for no mode
  pub allowed_mode : (c : OnConflict) → is_allowed (level_of target) mode ≡ true → (acquired c table t target mode).answer ≡ Err fault.BadMode → ⊥
  allowed_mode c = by (is_allowed (level_of target) mode)
    where
      by : (b : Bool) → b ≡ true → (outcome_by c table t target mode b).answer ≡ Err fault.BadMode → ⊥
      by true allowed e = walk_mode t target mode table.limit c (reverse (path target)) table.requests e
      by false allowed e = cc

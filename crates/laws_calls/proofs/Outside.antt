-- Calls that are about no transaction, or about one that is in doubt: who is in doubt is told and nothing changes, and a resolve.
use Rattle.std.proofs.Common.{◌≡◌, ◌⊎◌, inl, inr, ⊎_elim, ℕ, List, false, refl, sym, subst, None, Some, ◌≢◌}
use Rattle.shore_types.specs.declared.faults.Fault.{Fault}
use Rattle.shore_types.specs.declared.faults.Fault.TheVariants as fault
use Rattle.shore_types.specs.declared.layout.Geometry.{Geometry}
use Rattle.shore_types.specs.declared.locking.Granule.{Granule}
use Rattle.shore_model.specs.declared.calls.Answer.{Answer}
use Rattle.shore_model.specs.declared.calls.Answer.TheVariants.{AreInDoubt}
use Rattle.shore_model.specs.declared.calls.Call.{Call}
use Rattle.shore_model.specs.declared.calls.Call.TheVariants as call
use Rattle.shore_model.specs.declared.calls.Outcome.{Outcome}
use Rattle.shore_model.specs.declared.calls.Outcome.TheVariants as outcome
use Rattle.shore_model.specs.declared.rollbacks.Rollback.TheVariants.{Whole}
use Rattle.shore_model.specs.declared.step.Step.{Step}
use Rattle.shore_model.specs.declared.step.Step.TheVariants.{Done, Nothing, Refused, Waits}
use Rattle.shore_model.specs.declared.step.Wait.{Wait}
use Rattle.shore_model.specs.declared.step.Wait.TheVariants.{Durable, Lock}
use Rattle.laws_lives.specs.Sessions.{SessionTxn}
use Rattle.laws_calls.specs.CallSteps.{CallStep, InDoubtStep, InnerStep, NeedsTxn, OutsideStep, listed_in_doubt}
use Rattle.laws_calls.specs.Resolves.{DecidesRollback, IsResolvable, MayResolve, RefusesResolve, ResolveStep, ResolvesTo, RollsBack, resolve_committed, rollback_number}
use Rattle.laws_calls.specs.Rollbacks.{Interrupts, IsInterrupted}
use Rattle.laws_calls.specs.States.{DoesNotWait, State, next_number}
use Rattle.laws_locks.specs.CallLocks.{Asked, lock_asked_by}
use Rattle.laws_calls.specs.Shapes.{rollback_of}
use Rattle.shore_model.specs.declared.rollbacks.Rollback.{Rollback}
use Rattle.laws_lives.specs.SessionSteps.{TellsNothing}

pub listing_same : (s : State) (step : Step) (new : State) → InDoubtStep s step new → new ≡ s
listing_same s (Done answer) new h = h.1
listing_same s (Waits wait) new h = absurd h
listing_same s (Refused f) new h = absurd h
listing_same s Nothing new h = absurd h

-- no call of a transaction is one of them
pub not_outside : (s : State) (session : ℕ) (c : Call) (step : Step) (new : State) → NeedsTxn c → OutsideStep s session c step new → ⊥
not_outside s session c step new needs (inl h) = subst NeedsTxn h.0 needs
not_outside s session c step new needs (inr h) = subst NeedsTxn h.2 needs

-- ---- resolves

-- a resolve that is not refused before it decides
pub record Resolving (s : State) (session : ℕ) (c : Call) (step : Step) (new : State) : Type 0 where
  pub global : List ℕ
  pub asked : Outcome
  pub is : c ≡ call.Resolve global asked
  pub may : MayResolve s session global
  pub to : ResolvesTo s session global asked step new

-- all else changes nothing
pub outside_or : (s : State) (session : ℕ) (c : Call) (step : Step) (new : State) → OutsideStep s session c step new → (new ≡ s) ⊎ Resolving s session c step new
outside_or s session c step new (inl h) = inl (listing_same s step new h.1)
outside_or s session c step new (inr h) = ⊎_elim (λ early. inl early.3) (λ goes. inr (record { global = h.0; asked = h.1; is = h.2; may = goes.0; to = goes.1 })) h.3

-- refused before it decides
pub record ResolveRefused (s : State) (session : ℕ) (c : Call) (f : Fault) (new : State) : Type 0 where
  pub global : List ℕ
  pub asked : Outcome
  pub is : c ≡ call.Resolve global asked
  pub refuses : RefusesResolve s session global asked f
  pub same : new ≡ s

-- .. or interrupted behind its decision
pub record RollbackStopped (s : State) (session : ℕ) (c : Call) (f : Fault) (new : State) : Type 0 where
  pub global : List ℕ
  pub is : c ≡ call.Resolve global outcome.Abort
  pub may : MayResolve s session global
  pub txn : SessionTxn
  pub decided : State
  pub by : DecidesRollback s global txn decided
  pub how : IsInterrupted decided txn Whole f new

same_refusal : (e f : Fault) → Refused e ≡ Refused f → e ≡ f
same_refusal e f is = cc

pub outside_refused : (s : State) (session : ℕ) (c : Call) (f : Fault) (new : State) → OutsideStep s session c (Refused f) new → ResolveRefused s session c f new ⊎ RollbackStopped s session c f new
outside_refused s session c f new (inl h) = absurd h.1
outside_refused s session c f new (inr h) = ⊎_elim
    (λ early. inl (record {
      global = h.0;
      asked = h.1;
      is = h.2;
      refuses = subst (RefusesResolve s session h.0 h.1) (same_refusal early.0 f (sym early.2)) early.1;
      same = early.3;
    }))
    (λ goes. by h.1 h.2 goes.0 goes.1) h.3
  where
    by : (asked : Outcome) → c ≡ call.Resolve h.0 asked → MayResolve s session h.0 → ResolvesTo s session h.0 asked (Refused f) new → ResolveRefused s session c f new ⊎ RollbackStopped s session c f new
    by outcome.Commit is may to = absurd to
    by outcome.Abort is may to = inr (record { global = h.0; is = is; may = may; txn = to.0; decided = to.1; by = to.2; how = to.3 })

-- a resolve to commit that waits
pub record CommitWaits (s : State) (session : ℕ) (c : Call) (wait : Wait) (new : State) : Type 0 where
  pub global : List ℕ
  pub is : c ≡ call.Resolve global outcome.Commit
  pub may : MayResolve s session global
  pub txn : SessionTxn
  pub resolvable : IsResolvable s txn global
  pub waits : wait ≡ Durable (next_number s)
  pub left : new ≡ resolve_committed s session txn global

-- .. and one to roll back
pub record RollbackWaits (s : State) (session : ℕ) (c : Call) (wait : Wait) (new : State) : Type 0 where
  pub global : List ℕ
  pub is : c ≡ call.Resolve global outcome.Abort
  pub may : MayResolve s session global
  pub txn : SessionTxn
  pub decided : State
  pub by : DecidesRollback s global txn decided
  pub to : RollsBack decided session global txn (Waits wait) new

pub outside_waits : (s : State) (session : ℕ) (c : Call) (wait : Wait) (new : State) → OutsideStep s session c (Waits wait) new → CommitWaits s session c wait new ⊎ RollbackWaits s session c wait new
outside_waits s session c wait new (inl h) = absurd h.1
outside_waits s session c wait new (inr h) = ⊎_elim
    (λ early. let clash = early.2 in absurd cc)
    (λ goes. by h.1 h.2 goes.0 goes.1) h.3
  where
    by : (asked : Outcome) → c ≡ call.Resolve h.0 asked → MayResolve s session h.0 → ResolvesTo s session h.0 asked (Waits wait) new → CommitWaits s session c wait new ⊎ RollbackWaits s session c wait new
    by outcome.Commit is may to = inl (record { global = h.0; is = is; may = may; txn = to.0; resolvable = to.1; waits = to.2; left = to.3 })
    by outcome.Abort is may to = inr (record { global = h.0; is = is; may = may; txn = to.0; decided = to.1; by = to.2; to = to.3 })

-- a resolve waits for no lock
pub outside_no_lock : (s : State) (session : ℕ) (c : Call) (at : Granule) (new : State) → OutsideStep s session c (Waits (Lock at)) new → ⊥
outside_no_lock s session c at new h = ⊎_elim
    (λ commit. let clash : Lock at ≡ Durable (next_number s) = commit.waits in cc)
    (λ back. let clash : Lock at ≡ Durable (rollback_number back.txn.txn back.decided.log) = back.to.1 in cc)
    (outside_waits s session c (Lock at) new h)

pub outside_something : (s : State) (session : ℕ) (c : Call) (new : State) → OutsideStep s session c Nothing new → ⊥
outside_something s session c new (inl h) = h.1
outside_something s session c new (inr h) = ⊎_elim (λ early. let clash = early.2 in cc) (λ goes. by h.1 goes.1) h.3
  where
    by : (asked : Outcome) → ResolvesTo s session h.0 asked Nothing new → ⊥
    by outcome.Commit to = to
    by outcome.Abort to = to.3

-- ---- who is in doubt

module _ (g : Geometry) (s new : State) (session : ℕ) where
  -- no transaction makes the call
  nothing_inside : (a : SessionTxn) (step : Step) → InnerStep g s a call.InDoubt step new → ⊥
  nothing_inside a step (inl x) = x.0
  nothing_inside a step (inr (inl (whole, inl x))) = x.1
  nothing_inside a step (inr (inl (whole, inr (inl x)))) = x.0
  nothing_inside a step (inr (inl (whole, inr (inr (inl x))))) = let clash = x.0 in cc
  nothing_inside a step (inr (inl (whole, inr (inr (inr (inl x)))))) = let clash = x.0 in cc
  nothing_inside a step (inr (inl (whole, inr (inr (inr (inr x)))))) = let clash = x.1 in cc
  nothing_inside a step (inr (inr (inl x))) = let clash = x.1 in cc
  nothing_inside a step (inr (inr (inr x))) = let clash = x.0 in cc

  only_listing : (step : Step) → OutsideStep s session call.InDoubt step new → new ≡ s
  only_listing step (inl h) = listing_same s step new h.1
  only_listing step (inr h) = let clash = h.2 in absurd cc

  listed_only : (answer : Answer) → OutsideStep s session call.InDoubt (Done answer) new → answer ≡ AreInDoubt (listed_in_doubt s.sessions)
  listed_only answer (inl h) = h.1.0
  listed_only answer (inr h) = let clash = h.2 in absurd cc

  pub listing_leaves : (step : Step) → CallStep g s session call.InDoubt step new → new ≡ s
  listing_leaves step (inl h) = h.1
  listing_leaves step (inr (inl h)) = h.2
  listing_leaves step (inr (inr (inl h))) = h.3
  listing_leaves step (inr (inr (inr (inl h)))) = let clash = h.2 in absurd cc
  listing_leaves step (inr (inr (inr (inr (inl h))))) = absurd h.2
  listing_leaves step (inr (inr (inr (inr (inr (inl h)))))) = absurd (nothing_inside h.2.0 step h.2.2)
  listing_leaves step (inr (inr (inr (inr (inr (inr (inl h))))))) = absurd h.2
  listing_leaves step (inr (inr (inr (inr (inr (inr (inr h))))))) = only_listing step h.2

  pub listed_in : (answer : Answer) → CallStep g s session call.InDoubt (Done answer) new → answer ≡ AreInDoubt (listed_in_doubt s.sessions)
  listed_in answer (inl h) = let clash = h.0 in absurd cc
  listed_in answer (inr (inl h)) = let clash = h.1 in absurd cc
  listed_in answer (inr (inr (inl h))) = let clash = h.2 in absurd cc
  listed_in answer (inr (inr (inr (inl h)))) = let clash = h.2 in absurd cc
  listed_in answer (inr (inr (inr (inr (inl h))))) = absurd h.2
  listed_in answer (inr (inr (inr (inr (inr (inl h)))))) = absurd (nothing_inside h.2.0 (Done answer) h.2.2)
  listed_in answer (inr (inr (inr (inr (inr (inr (inl h))))))) = absurd h.2
  listed_in answer (inr (inr (inr (inr (inr (inr (inr h))))))) = listed_only answer h.2

  pub same_list : (pairs : List (List ℕ × ℕ)) → CallStep g s session call.InDoubt (Done (AreInDoubt pairs)) new → pairs ≡ listed_in_doubt s.sessions
  same_list pairs h = by (listed_in (AreInDoubt pairs) h)
    where
      by : AreInDoubt pairs ≡ AreInDoubt (listed_in_doubt s.sessions) → pairs ≡ listed_in_doubt s.sessions
      by e = cc

-- ---- what a resolve and a listing are refused with

abbrev pub IsOfOutside : Fault → Type 0
IsOfOutside fault.Memory = Unit {0}
IsOfOutside fault.Failed = Unit {0}
IsOfOutside fault.Busy = Unit {0}
IsOfOutside fault.AlreadyActive = Unit {0}
IsOfOutside fault.NoGlobalId = Unit {0}
IsOfOutside fault.MustAbort = Unit {0}
IsOfOutside fault.Device = Unit {0}
IsOfOutside (fault.Damaged device offset) = Unit {0}
IsOfOutside (fault.NeedForce n) = Unit {0}
IsOfOutside _ = ⊥

-- .. by the step itself
abbrev pub IsOutsides : Fault → Type 0
IsOutsides fault.Memory = Unit {0}
IsOutsides fault.AlreadyActive = Unit {0}
IsOutsides fault.NoGlobalId = Unit {0}
IsOutsides fault.MustAbort = Unit {0}
IsOutsides fault.Device = Unit {0}
IsOutsides (fault.Damaged device offset) = Unit {0}
IsOutsides (fault.NeedForce n) = Unit {0}
IsOutsides _ = ⊥

of_outside : (f : Fault) → IsOutsides f → IsOfOutside f
of_outside fault.Failed h = absurd h
of_outside fault.Busy h = absurd h
of_outside f h = h

interrupted_fault : (x : State) (f : Fault) → Interrupts x f → IsOutsides f
interrupted_fault x f (inl memory) = subst IsOutsides (sym memory) tt
interrupted_fault x f (inr (inl device)) = subst IsOutsides (sym device) tt
interrupted_fault x f (inr (inr (inl damaged))) = subst IsOutsides (sym damaged.1) tt
interrupted_fault x f (inr (inr (inr force))) = subst IsOutsides (sym force.1) tt

-- what interrupts a rollback is no refusal before it
abbrev pub IsOfRollback : Fault → Type 0
IsOfRollback fault.Memory = Unit {0}
IsOfRollback fault.Device = Unit {0}
IsOfRollback (fault.Damaged device offset) = Unit {0}
IsOfRollback (fault.NeedForce n) = Unit {0}
IsOfRollback _ = ⊥

pub interrupted_outside : (x : State) (f : Fault) → Interrupts x f → IsOfRollback f
interrupted_outside x f (inl memory) = subst IsOfRollback (sym memory) tt
interrupted_outside x f (inr (inl device)) = subst IsOfRollback (sym device) tt
interrupted_outside x f (inr (inr (inl damaged))) = subst IsOfRollback (sym damaged.1) tt
interrupted_outside x f (inr (inr (inr force))) = subst IsOfRollback (sym force.1) tt

early_fault : (s : State) (session : ℕ) (global : List ℕ) (asked : Outcome) (f : Fault) → RefusesResolve s session global asked f → IsOutsides f
early_fault s session global asked f (inl active) = subst IsOutsides (sym active.0) tt
early_fault s session global asked f (inr (inl none)) = subst IsOutsides (sym none.0) tt
early_fault s session global asked f (inr (inr must)) = subst IsOutsides (sym must.0) tt

pub outside_fault : (s : State) (session : ℕ) (c : Call) (f : Fault) (new : State) → OutsideStep s session c (Refused f) new → IsOutsides f
outside_fault s session c f new h = ⊎_elim
    (λ early. early_fault s session early.global early.asked f early.refuses)
    (λ stopped. interrupted_fault stopped.how.0 f stopped.how.2)
    (outside_refused s session c f new h)

-- a refusal of the manager or of the session, which leaves all
abbrev pub IsGeneral : Fault → Type 0
IsGeneral f = (f ≡ fault.Memory) ⊎ ((f ≡ fault.Failed) ⊎ (f ≡ fault.Busy))

general_fault : (f : Fault) → IsGeneral f → IsOfOutside f
general_fault f (inl memory) = subst IsOfOutside (sym memory) tt
general_fault f (inr (inl failed)) = subst IsOfOutside (sym failed) tt
general_fault f (inr (inr busy)) = subst IsOfOutside (sym busy) tt

module _ (g : Geometry) (s new : State) (session : ℕ) (global : List ℕ) (asked : Outcome) where
  pub no_txn_resolves : (a : SessionTxn) (step : Step) → InnerStep g s a (call.Resolve global asked) step new → ⊥
  no_txn_resolves a step (inl x) = x.0
  no_txn_resolves a step (inr (inl (whole, inl x))) = x.1
  no_txn_resolves a step (inr (inl (whole, inr (inl x)))) = x.0
  no_txn_resolves a step (inr (inl (whole, inr (inr (inl x))))) = let clash = x.0 in cc
  no_txn_resolves a step (inr (inl (whole, inr (inr (inr (inl x)))))) = let clash = x.0 in cc
  no_txn_resolves a step (inr (inl (whole, inr (inr (inr (inr x)))))) = let clash = x.1 in cc
  no_txn_resolves a step (inr (inr (inl x))) = let clash = x.1 in cc
  no_txn_resolves a step (inr (inr (inr x))) = let clash = x.0 in cc

  -- what a resolve comes to
  abbrev pub ComesTo : Step → Type 0
  ComesTo step =
      ((f : Fault) × IsGeneral f × (step ≡ Refused f) × (new ≡ s)) ⊎ ((s.failed ≡ false) × DoesNotWait s session × ResolveStep s session global asked step new)

  same_global : (other : List ℕ) (o : Outcome) → call.Resolve global asked ≡ call.Resolve other o → (other ≡ global) × (o ≡ asked)
  same_global other o e = (cc, cc)

  pub resolve_in : (step : Step) → CallStep g s session (call.Resolve global asked) step new → ComesTo step
  resolve_in step (inl h) = inl (fault.Memory, inl refl, h.0, h.1)
  resolve_in step (inr (inl h)) = inl (fault.Failed, inr (inl refl), h.1, h.2)
  resolve_in step (inr (inr (inl h))) = inl (fault.Busy, inr (inr refl), h.2, h.3)
  resolve_in step (inr (inr (inr (inl h)))) = let clash = h.2 in absurd cc
  resolve_in step (inr (inr (inr (inr (inl h))))) = absurd h.2
  resolve_in step (inr (inr (inr (inr (inr (inl h)))))) = absurd (no_txn_resolves h.2.0 step h.2.2)
  resolve_in step (inr (inr (inr (inr (inr (inr (inl h))))))) = absurd h.2
  resolve_in step (inr (inr (inr (inr (inr (inr (inr h))))))) = inr (h.0, h.1, by h.2)
    where
      by : OutsideStep s session (call.Resolve global asked) step new → ResolveStep s session global asked step new
      by (inl x) = let clash = x.0 in absurd cc
      by (inr x) =
          let same = same_global x.0 x.1 x.2 in
          subst (λ name. ResolveStep s session name asked step new) same.0 (subst (λ o. ResolveStep s session x.0 o step new) same.1 x.3)

  pub resolve_fault : (f : Fault) → CallStep g s session (call.Resolve global asked) (Refused f) new → IsOfOutside f
  resolve_fault f h = ⊎_elim
      (λ general. subst IsOfOutside (same_refusal general.0 f (sym general.2)) (general_fault general.0 general.1))
      (λ goes. of_outside f (outside_fault s session (call.Resolve global asked) f new (inr (global, asked, refl, goes.2))))
      (resolve_in (Refused f) h)

pub listing_refused : (g : Geometry) (s new : State) (session : ℕ) (f : Fault) → CallStep g s session call.InDoubt (Refused f) new → IsGeneral f
listing_refused g s new session f (inl h) = inl (sym (same_refusal fault.Memory f (sym h.0)))
listing_refused g s new session f (inr (inl h)) = inr (inl (sym (same_refusal fault.Failed f (sym h.1))))
listing_refused g s new session f (inr (inr (inl h))) = inr (inr (sym (same_refusal fault.Busy f (sym h.2))))
listing_refused g s new session f (inr (inr (inr (inl h)))) = let clash = h.2 in absurd cc
listing_refused g s new session f (inr (inr (inr (inr (inl h))))) = absurd h.2
listing_refused g s new session f (inr (inr (inr (inr (inr (inl h)))))) = absurd (nothing_inside g s new session h.2.0 (Refused f) h.2.2)
listing_refused g s new session f (inr (inr (inr (inr (inr (inr (inl h))))))) = absurd h.2
listing_refused g s new session f (inr (inr (inr (inr (inr (inr (inr h))))))) = ⊎_elim (λ x. absurd x.1) (λ x. let clash = x.2 in absurd cc) h.2

pub listing_fault : (g : Geometry) (s new : State) (session : ℕ) (f : Fault) → CallStep g s session call.InDoubt (Refused f) new → IsOfOutside f
listing_fault g s new session f h = general_fault f (listing_refused g s new session f h)

-- a fault of a page, or of the log behind it: no resolve is refused by it before it decides
abbrev pub IsOfPage : Fault → Type 0
IsOfPage fault.Device = Unit {0}
IsOfPage (fault.Damaged device offset) = Unit {0}
IsOfPage (fault.NeedForce n) = Unit {0}
IsOfPage _ = ⊥

general_no_page : (f : Fault) → IsGeneral f → IsOfPage f → ⊥
general_no_page f (inl memory) page = subst IsOfPage memory page
general_no_page f (inr (inl failed)) page = subst IsOfPage failed page
general_no_page f (inr (inr busy)) page = subst IsOfPage busy page

pub listing_no_page : (g : Geometry) (s new : State) (session : ℕ) (f : Fault) → IsOfPage f → CallStep g s session call.InDoubt (Refused f) new → ⊥
listing_no_page g s new session f page h = general_no_page f (listing_refused g s new session f h) page

early_no_page : (s : State) (session : ℕ) (global : List ℕ) (asked : Outcome) (f : Fault) → RefusesResolve s session global asked f → IsOfPage f → ⊥
early_no_page s session global asked f (inl active) page = subst IsOfPage active.0 page
early_no_page s session global asked f (inr (inl none)) page = subst IsOfPage none.0 page
early_no_page s session global asked f (inr (inr must)) page = subst IsOfPage must.0 page

-- it has interrupted a rollback then
pub resolve_stopped : (g : Geometry) (s new : State) (session : ℕ) (global : List ℕ) (asked : Outcome) (f : Fault) → IsOfPage f → CallStep g s session (call.Resolve global asked) (Refused f) new
    → RollbackStopped s session (call.Resolve global asked) f new
resolve_stopped g s new session global asked f page h = ⊎_elim
    (λ general. absurd (general_no_page f (subst IsGeneral (same_refusal general.0 f (sym general.2)) general.1) page))
    (λ goes. ⊎_elim (λ early. absurd (early_no_page s session early.global early.asked f early.refuses page)) (λ stopped. stopped)
    (outside_refused s session (call.Resolve global asked) f new (inr (global, asked, refl, goes.2))))
    (resolve_in g s new session global asked (Refused f) h)

-- ---- calls of transactions

-- who asks for a lock is in one
pub asks_needs : (c : Call) (lock : Asked) → lock_asked_by c ≡ Some lock → NeedsTxn c
asks_needs call.Begin lock e = let clash : None ≡ Some lock = e in absurd cc
asks_needs call.InDoubt lock e = let clash : None ≡ Some lock = e in absurd cc
asks_needs (call.Resolve global asked) lock e = let clash : None ≡ Some lock = e in absurd cc
asks_needs _ lock e = tt

-- .. and who rolls back, but for a resolve
pub rolls_needs : (c : Call) (r : Rollback) → rollback_of c ≡ Some r → ((global : List ℕ) → c ≢ call.Resolve global outcome.Abort) → NeedsTxn c
rolls_needs call.Begin r e none = let clash : None ≡ Some r = e in absurd cc
rolls_needs call.InDoubt r e none = let clash : None ≡ Some r = e in absurd cc
rolls_needs (call.Resolve global outcome.Commit) r e none = let clash : None ≡ Some r = e in absurd cc
rolls_needs (call.Resolve global outcome.Abort) r e none = absurd (none global refl)
rolls_needs _ r e none = tt

-- ---- words on records

pub early_tells : (s : State) (session : ℕ) (global : List ℕ) (asked : Outcome) (f : Fault) → RefusesResolve s session global asked f → TellsNothing f
early_tells s session global asked f (inl active) = subst TellsNothing (sym active.0) tt
early_tells s session global asked f (inr (inl none)) = subst TellsNothing (sym none.0) tt
early_tells s session global asked f (inr (inr must)) = subst TellsNothing (sym must.0) tt

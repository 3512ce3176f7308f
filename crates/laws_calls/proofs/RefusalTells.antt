-- What refusals tell of a record, and their entries.
use Rattle.std.proofs.Common.{◌≡◌, ◌⊎◌, inl, inr, ℕ, List, None, Some, refl, sym, ap, subst, ◌∙◌}
use Rattle.std.specs.Prelude.{IsSomeAnd, Option}
use Rattle.std.specs.FinMap.{get}
use Rattle.shore_types.specs.declared.faults.Fault.{Fault}
use Rattle.shore_types.specs.declared.faults.Fault.TheVariants as fault
use Rattle.shore_types.specs.declared.ids.Rid.{Rid}
use Rattle.shore_types.specs.declared.versions.Version.{Version}
use Rattle.shore_model.specs.declared.calls.Exchange.{Exchange}
use Rattle.shore_model.specs.declared.histories.Entry.TheVariants.{Exchanged}
use Rattle.shore_model.specs.declared.holds.Hold.{Hold}
use Rattle.shore_model.specs.Locks.{MayRead}
use Rattle.laws_lives.specs.RepliesInPlace.{IsKnownAbsent}
use Rattle.laws_lives.specs.SessionSteps.{TellsNothing}
use Rattle.laws_calls.specs.States.{State}
use Rattle.laws_lives.specs.Sessions.{SessionTxn}
use Rattle.laws_calls.specs.Prepares.{RefusesPrepare}

-- ---- which refusals tell of a record

pub tells_or_none : (f : Fault) → TellsNothing f ⊎ (f ≡ fault.NoRecord)
tells_or_none fault.NoRecord = inr refl
tells_or_none _ = inl tt

pub known_absent : (o : Option Rid) (id : Rid) (held : List Hold) (s : State) (t : ℕ) → o ≡ Some id → MayRead held t id → get s.sessions.records id ≡ None
    → IsSomeAnd o (IsKnownAbsent s.sessions.slots held t s.sessions.records)
known_absent o id held s t named may none = subst (λ o. IsSomeAnd o (IsKnownAbsent s.sessions.slots held t s.sessions.records)) (sym named) (inl (may, none))

-- ---- refusals

pub same_entry : (m n t u : ℕ) (x : Exchange) → m ≡ n → t ≡ u → Exchanged m t x ≡ Exchanged n u x
same_entry m n t u x e f = ap (λ m. Exchanged m t x) e ∙ ap (λ t. Exchanged n t x) f

-- what refuses a prepare is no word on records
pub prepare_tells : (v : Version) (s : State) (a : SessionTxn) (global : List ℕ) (f : Fault) → RefusesPrepare v s a global f → TellsNothing f
prepare_tells v s a global f (inl bad) = subst TellsNothing (sym bad.0) tt
prepare_tells v s a global f (inr (inl used)) = subst TellsNothing (sym used.0) tt
prepare_tells v s a global f (inr (inr full)) = subst TellsNothing (sym full.0) tt

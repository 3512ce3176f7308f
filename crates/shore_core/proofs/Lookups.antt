-- What calls that read come to: they leave the state as it was.
use Rattle.std.proofs.Common.{◌≡◌, ◌⊎◌, inl, inr, ℕ, List, Err, Some, ap, refl, sym, subst}
use Rattle.std.specs.FinMap.{get}
use Rattle.shore_types.specs.declared.faults.Fault.{Fault}
use Rattle.shore_types.specs.declared.faults.Fault.TheVariants as fault
use Rattle.shore_types.specs.declared.ids.Rid.{Rid}
use Rattle.shore_types.specs.declared.layout.Geometry.{Geometry}
use Rattle.shore_types.specs.declared.locking.Granule.{Granule}
use Rattle.shore_types.specs.declared.locking.Mode.{Mode}
use Rattle.shore_model.specs.declared.calls.Answer.TheVariants.{Got, Locked}
use Rattle.shore_model.specs.declared.calls.Call.{Call}
use Rattle.shore_model.specs.declared.calls.Call.TheVariants as call
use Rattle.laws_lives.specs.Sessions.{EachOnce, SessionTxn, txns_of, with_undo}
use Rattle.laws_lives.specs.Views.{IsAmong}
use Rattle.laws_calls.proofs.Elements.{same_undo}
use Rattle.laws_calls.proofs.PlainReads.{get_leaves}
use Rattle.laws_calls.specs.StateChanges.{IsPageFault, after_refusal}
use Rattle.laws_calls.specs.CallSteps.{AnswersBehind, RefusesRead}
use Rattle.laws_calls.specs.States.{State}
use Rattle.shore_core.specs.Replies.{IsServedBehind}

module _ (g : Geometry) (s : State) (a : SessionTxn) (id : Rid) where
  -- what refuses the read of a record
  pub get_fault : (f : Fault) → (f ≡ fault.Memory) ⊎ RefusesRead s id f → IsServedBehind g s a (call.Get id) (Err f) (after_refusal f s)
  get_fault f (inl memory) = subst (λ (x : Fault). IsServedBehind g s a (call.Get id) (Err x) (after_refusal x s)) (sym memory) (inl (refl, inl refl))
  get_fault f (inr read) = inr (read, refl)

  pub getu_fault : (f : Fault) → (f ≡ fault.Memory) ⊎ RefusesRead s id f → IsServedBehind g s a (call.GetForUpdate id) (Err f) (after_refusal f s)
  getu_fault f (inl memory) = subst (λ (x : Fault). IsServedBehind g s a (call.GetForUpdate id) (Err x) (after_refusal x s)) (sym memory) (inl (refl, inl refl))
  getu_fault f (inr read) = inr (read, refl)

  module _ (once : EachOnce (txns_of s.sessions.active)) (mem : IsAmong a s.sessions.active) (bytes : List ℕ) (found : get s.sessions.records id ≡ Some bytes) where
    pub got : AnswersBehind g s a (call.Get id) (Got bytes) s
    got = ((bytes, found, refl), sym (get_leaves s a once mem (Got bytes) id))

    pub got_for_update : AnswersBehind g s a (call.GetForUpdate id) (Got bytes) s
    got_for_update = ((bytes, found, refl), sym (ap (λ (xs : List SessionTxn). record s { sessions = record s.sessions { active = xs } }) (same_undo a s.sessions.active once mem)))

module _ (g : Geometry) (s : State) (a : SessionTxn) (store : ℕ) where
  -- .. and a scan
  pub scan_fault : (f : Fault) → (f ≡ fault.Memory) ⊎ IsPageFault s f → IsServedBehind g s a (call.Scan store) (Err f) (after_refusal f s)
  scan_fault f (inl memory) = subst (λ (x : Fault). IsServedBehind g s a (call.Scan store) (Err x) (after_refusal x s)) (sym memory) (inl (refl, inl refl))
  scan_fault f (inr page) = inr (page, refl)

-- a lock that is had changes nothing else
module _ (g : Geometry) (s : State) (a : SessionTxn) (once : EachOnce (txns_of s.sessions.active)) (mem : IsAmong a s.sessions.active) where
  as_it_was : s ≡ record s { sessions = record s.sessions { active = with_undo a.txn a.undo s.sessions.active } }
  as_it_was = sym (ap (λ (xs : List SessionTxn). record s { sessions = record s.sessions { active = xs } }) (same_undo a s.sessions.active once mem))

  pub lock_answer : (c : Call) → ((at : Granule) × (mode : Mode) × (c ≡ call.Lock at mode)) ⊎ ((at : Granule) × (mode : Mode) × (c ≡ call.TryLock at mode)) → AnswersBehind g s a c Locked s
  lock_answer c (inl lock) = subst (λ (it : Call). AnswersBehind g s a it Locked s) (sym lock.2) (refl, as_it_was)
  lock_answer c (inr lock) = subst (λ (it : Call). AnswersBehind g s a it Locked s) (sym lock.2) (refl, as_it_was)

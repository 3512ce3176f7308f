-- Reads leave a state as it was.
use Rattle.std.proofs.Common.{◌≡◌, ℕ, List, ap}
use Rattle.shore_types.specs.declared.ids.Rid.{Rid}
use Rattle.shore_model.specs.declared.calls.Answer.{Answer}
use Rattle.shore_model.specs.declared.calls.Call.TheVariants as call
use Rattle.laws_lives.specs.Sessions.{EachOnce, SessionTxn, txns_of}
use Rattle.laws_lives.specs.Views.{IsAmong}
use Rattle.laws_calls.proofs.Elements.{same_undo}
use Rattle.laws_calls.specs.StateChanges.{answered}
use Rattle.laws_calls.specs.States.{State}

module _ (s : State) (a : SessionTxn) (once : EachOnce (txns_of s.sessions.active)) (mem : IsAmong a s.sessions.active) (answer : Answer) where
  pub get_leaves : (id : Rid) → answered s a (call.Get id) answer s.counts ≡ s
  get_leaves id = ap (λ (xs : List SessionTxn). record s { sessions = record s.sessions { active = xs } }) (same_undo a s.sessions.active once mem)

  pub scan_leaves : (store : ℕ) → answered s a (call.Scan store) answer s.counts ≡ s
  scan_leaves store = ap (λ (xs : List SessionTxn). record s { sessions = record s.sessions { active = xs } }) (same_undo a s.sessions.active once mem)

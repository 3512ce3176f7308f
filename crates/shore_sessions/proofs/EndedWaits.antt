-- What a resolve that waits has decided.
use Rattle.std.proofs.Common.{◌≡◌, ◌++◌, Some, false, sym, subst}
use Rattle.laws_lives.specs.Sessions.{ResolvedTxn, txns_of}
use Rattle.laws_lives.specs.Views.{IsAmong}
use Rattle.laws_calls.specs.CallSteps.{HasEnded}
use Rattle.laws_calls.specs.States.{State}
use Rattle.shore_sessions.specs.Calls.{as_resolved, resolved_by}
use Rattle.shore_sessions.specs.Controls.{txns_in, waits_in}
use Rattle.shore_sessions.specs.Seated.{rolled_in}
use Rattle.shore_sessions.specs.Standing.{HasControl}
use Rattle.shore_sessions.specs.declared.control.Control.{Control}
use Rattle.shore_sessions.specs.declared.waits.WaitingCall.{WaitingCall}
use Rattle.shore_sessions.proofs.Lists.{among_right}
use Rattle.shore_sessions.proofs.Permuted.{among_permuted, made_among}
use Rattle.shore_sessions.proofs.Rolled.{resolve_is}

pub has_ended : (control : Control) (s : State) → HasControl control s → s.failed ≡ false → (w : WaitingCall) (r : ResolvedTxn) → IsAmong w (waits_in control) → as_resolved w ≡ Some r → HasEnded s.sessions r
has_ended control s was works w r m is = (
  among_permuted s.sessions.resolving (rolled_in (txns_in control) ++ resolved_by (waits_in control)) (was.resolving works) r
      (among_right r (rolled_in (txns_in control)) (resolved_by (waits_in control)) (made_among as_resolved w r (waits_in control) m is)),
  λ n. (was.waits.ended w r m is).0 (subst (λ k. IsAmong k (txns_of s.sessions.active)) (sym (resolve_is w.txn w.call r is).0) n),
)

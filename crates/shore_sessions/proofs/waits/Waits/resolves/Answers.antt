use Rattle.std.proofs.Common.{sym, subst}
use Rattle.laws_lives.specs.Views.{IsAmong}
use Rattle.shore_sessions.specs.declared.waits.WaitingCall.{WaitingCall}
use Rattle.shore_sessions.proofs.Taking.{among_at}
use Rattle.shore_sessions.proofs.waits.Waits.resolves.Goals as goal

pub returns-then-resolves_name-clause-some : goal.returns-then-resolves_name-clause-some
returns-then-resolves_name-clause-some c told =
    let found = c.if-resolves_name.ensures.some told in (
      c.waiting-item.result,
      found.0,
      subst (IsAmong c.waiting-item.result) c.deref-waiting-items.ensures.value
          (subst (λ (w : WaitingCall). IsAmong w c.deref-waiting-items.result.now) (sym c.waiting-item.is) (among_at c.deref-waiting-items.result.now c.loop-waiting.waiting-index c.waiting-item.result c.loop-waiting-test.true)),
      found.1,
    )

use Rattle.std.proofs.Common.{sym, ap, ◌∙◌, subst}
use Rattle.laws_lives.specs.Views.{IsAmong}
use Rattle.shore_sessions.specs.Waits.{calls_in}
use Rattle.shore_sessions.specs.declared.waits.WaitingCall.{WaitingCall}
use Rattle.shore_sessions.proofs.Taking.{among_at}
use Rattle.shore_sessions.proofs.waits.Waits.of.Goals as goal

pub returns-clause-some : goal.returns-clause-some
returns-clause-some c =
    let found = c.index.result.now in
    let at = c.in_ok-index.ensures.some in (
      subst (λ (w : WaitingCall). IsAmong w (calls_in c.args.self.now)) (sym c.index.ensures) (among_at (calls_in c.args.self.now) c.in_ok-index.index found at.0),
      ap (λ (w : WaitingCall). w.session) c.index.ensures ∙ at.1 found,
    )

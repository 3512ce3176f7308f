use Rattle.std.proofs.Common.{◌<◌, take}
use Rattle.std.specs.Prelude.{All, IfSome}
use Rattle.shore_model.specs.Histories.{began}
use Rattle.slow_histories.proofs.sessions.is_above_begun.Given as goal

abbrev pub invariant-loop-entry : goal.invariant-loop-entry
invariant-loop-entry l = All (λ e. IfSome (began e) (λ u. u < l.txn)) (take l.entry-index l.before)

use Rattle.std.proofs.Common.{[], ◌∷◌, subst, sym}
use Rattle.shore_script.specs.Reading.{Reads}
use Rattle.shore_script.specs.Words.{AskPlain}
use Rattle.shore_script.proofs.command.command_with_two.Goals as goal

pub returns-in-crash-clause-asks : goal.returns-in-crash-clause-asks
returns-in-crash-clause-asks c =
    subst (λ word. Reads (AskPlain (word ∷ c.args.object.now ∷ c.args.number.now ∷ [])) c.mixed_crash.result) (sym c.in-crash.is) c.mixed_crash.ensures.asks

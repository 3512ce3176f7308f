use Rattle.std.proofs.Common.{[], ◌∷◌, subst, sym}
use Rattle.shore_script.specs.Reading.{Reads}
use Rattle.shore_script.specs.Words.{AskPlain}
use Rattle.shore_script.proofs.command.command_with_one.Goals as goal

pub returns-in-checkpoint-clause-asks : goal.returns-in-checkpoint-clause-asks
returns-in-checkpoint-clause-asks c =
    subst (λ word. Reads (AskPlain (word ∷ c.args.object.now ∷ [])) c.half_of_checkpoint.result) (sym c.in-checkpoint.is) c.half_of_checkpoint.ensures.asks

pub returns-in-crash-clause-asks : goal.returns-in-crash-clause-asks
returns-in-crash-clause-asks c =
    subst (λ word. Reads (AskPlain (word ∷ c.args.object.now ∷ [])) c.crash_of.result) (sym c.in-crash.is) c.crash_of.ensures.asks

use Rattle.shore_world.proofs.RollbackLemmas.{refused_resolve, refused_rollback}
use Rattle.shore_world.proofs.promises.calls.interrupted_rollbacks_keep_their_steps.Goals as goal

pub returns-clause-call : goal.returns-clause-call
returns-clause-call d e w new o es ws session c r f k served needs is one = refused_rollback w o es ws k new session f c r served needs is one

pub returns-clause-resolve : goal.returns-clause-resolve
returns-clause-resolve d e w new o es ws session global asked f k served one = refused_resolve w o es ws k new session f global asked served one

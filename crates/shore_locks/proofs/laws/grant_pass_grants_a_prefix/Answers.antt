use Rattle.shore_locks.proofs.LawLemmas.{pass_beginning}
use Rattle.shore_locks.proofs.laws.grant_pass_grants_a_prefix.Goals as goal

pub returns : goal.returns
returns c = pass_beginning

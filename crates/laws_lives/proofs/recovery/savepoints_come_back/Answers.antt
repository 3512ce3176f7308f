use Rattle.laws_lives.proofs.Savepoints.{back_at, other_saved, own_saved, save_at}
use Rattle.laws_lives.proofs.recovery.savepoints_come_back.Goals as goal

pub returns-clause-taken : goal.returns-clause-taken
returns-clause-taken c log t W own now = save_at log t W own now

pub returns-clause-others : goal.returns-clause-others
returns-clause-others c log r t W depth lawful follows runs saved ne = other_saved log lawful r follows t runs W depth saved ne

pub returns-clause-own : goal.returns-clause-own
returns-clause-own c log r W depth follows saved no_commit above = own_saved log r follows W depth saved no_commit above

pub returns-clause-back : goal.returns-clause-back
returns-clause-back c log t W id saved opens = back_at log t W id saved opens

use Rattle.laws_lives.proofs.WorkedDoubts.{log_gives_back, prepare_once, resolve_after_open, resolve_to_abort, resolve_to_commit}
use Rattle.laws_lives.proofs.sessions.prepared_transactions_are_resolved.Goals as goal

pub returns-clause-prepare : goal.returns-clause-prepare
returns-clause-prepare c o a x z global at_a = prepare_once a o x z global at_a

pub returns-clause-abort : goal.returns-clause-abort
returns-clause-abort c o a x z global at_a = resolve_to_abort a o x z global at_a

pub returns-clause-commit : goal.returns-clause-commit
returns-clause-commit c o a x z global at_a = resolve_to_commit a o x z global at_a

pub returns-clause-returned : goal.returns-clause-returned
returns-clause-returned c o a x z global at_a = resolve_after_open a o x z global at_a

pub returns-clause-from_log : goal.returns-clause-from_log
returns-clause-from_log c o a z global = log_gives_back a o z global

use Rattle.laws_lives.proofs.UndoChains.{next_by_last, unanswered_chain}
use Rattle.laws_lives.proofs.recovery.undo_follows_the_chain.Goals as goal

pub returns-clause-chain : goal.returns-clause-chain
returns-clause-chain c log t = unanswered_chain log t

pub returns-clause-next : goal.returns-clause-next
returns-clause-next c log t lawful some unprepared runs known = next_by_last log lawful t some unprepared runs known

use Rattle.laws_lives.proofs.LazyCommits.{decided_is_kept, later_ticket, reads_what_is_decided}
use Rattle.laws_lives.proofs.commits.readers_come_later.Goals as goal

pub returns-clause-reads : goal.returns-clause-reads
returns-clause-reads c o es s a id k mem none may unwritten = reads_what_is_decided o es s a id k mem none may unwritten

pub returns-clause-kept : goal.returns-clause-kept
returns-clause-kept c base o es s last log all events made t n d k g among is_free runs its there =
    decided_is_kept base o es s last log all events made t n d k g among is_free runs its there

pub returns-clause-ticket : goal.returns-clause-ticket
returns-clause-ticket c base durable log es a ticket earlier t given among answers = later_ticket base durable log es a ticket earlier t given among answers

use Rattle.std.proofs.Common.{[], ◌∷◌}
use Rattle.laws_lives.proofs.Tickets.{still_tickets}
use Rattle.laws_lives.proofs.CheckpointRecords.{doubts_are, image_is, loser_stays, loser_was, records_are, stays_after, stays_decided, stays_tracked, stays_whole, told_are}
use Rattle.laws_checkpoints.proofs.checkpoints.checkpoint_records_tell_nothing.Goals as goal

pub returns-clause-told : goal.returns-clause-told
returns-clause-told c log r its = (told_are log r its, doubts_are log r its, image_is log r its)

pub returns-clause-txns : goal.returns-clause-txns
returns-clause-txns c log r t its none one = (records_are log r its none t one, (loser_stays log r its none t one, loser_was log r its none t one))

pub returns-clause-whole : goal.returns-clause-whole
returns-clause-whole c log r s follows its k = stays_whole log r its k.lawful follows s k

pub returns-clause-tells : goal.returns-clause-tells
returns-clause-tells c log r o es s lawful follows its some k = stays_after log r its lawful follows o es s some k

pub returns-clause-decides : goal.returns-clause-decides
returns-clause-decides c log r base o es lawful follows its k = stays_decided log r its lawful follows base o es k

pub returns-clause-doubts : goal.returns-clause-doubts
returns-clause-doubts c log r s lawful follows its k = stays_tracked log r its lawful follows s k

pub returns-clause-tickets : goal.returns-clause-tickets
returns-clause-tickets c log r base es k = still_tickets base log (r ∷ []) es k

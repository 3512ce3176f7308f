use Rattle.std.specs.List.{filter_map}
use Rattle.shore_model.specs.Logs.{is_in_doubt}
use Rattle.laws_lives.proofs.DoubtLocks.{locks_are_restored, reads_under, restored_are_no_more, restored_in_harmony, restored_well_rooted, restored_were_held}
use Rattle.laws_lives.proofs.DoubtOpenings.{doubts_lie_under}
use Rattle.laws_lives.proofs.DoubtRecords.{among_filter}
use Rattle.laws_lives.proofs.WholeSteps.{as_lying}
use Rattle.laws_lives.specs.Doubts.{LoggedDoubt, doubt_of}
use Rattle.laws_lives.proofs.sessions.doubts_get_their_locks.Goals as goal

pub returns-clause-made : goal.returns-clause-made
returns-clause-made c log = locks_are_restored log

pub returns-clause-harmony : goal.returns-clause-harmony
returns-clause-harmony c log held stand k = restored_in_harmony stand k

pub returns-clause-under : goal.returns-clause-under
returns-clause-under c log held t id stand k reads =
    let r = reads_under stand k t id reads in (r.doubt, r.among, r.its, as_lying r.doubt.granules id r.granule r.named r.on)

pub returns-clause-changed : goal.returns-clause-changed
returns-clause-changed c log d id lawful among changed =
    let h = among_filter (λ (d : LoggedDoubt). is_in_doubt d.txn log) d (filter_map doubt_of log) among in
    doubts_lie_under log lawful d id h.0 h.1 changed

pub returns-clause-rooted : goal.returns-clause-rooted
returns-clause-rooted c log held k = restored_well_rooted k

pub returns-clause-before : goal.returns-clause-before
returns-clause-before c log s held tracks rooted k = restored_were_held k s tracks rooted

pub returns-clause-no_more : goal.returns-clause-no_more
returns-clause-no_more c log s held tracks rooted k once = restored_are_no_more k s tracks rooted once

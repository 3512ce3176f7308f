use Rattle.std.proofs.Common.{[]}
use Rattle.laws_lives.proofs.UndoRecords.{lawful_front}
use Rattle.laws_lives.proofs.WholeLogs.{image_in_place}
use Rattle.laws_lives.proofs.WholeRuns.{events_stay_whole, open_is_whole}
use Rattle.laws_lives.proofs.WholeSteps.{event_stays_whole}
use Rattle.laws_lives.proofs.lives.lists_are_whole.Goals as goal

pub returns-clause-each : goal.returns-clause-each
returns-clause-each c o es old new e log k l d w steps = event_stays_whole o es old new e log k l d w steps

pub returns-clause-in_place : goal.returns-clause-in_place
returns-clause-in_place c o es s log id k l w = image_in_place k l w id

pub returns-clause-run : goal.returns-clause-run
returns-clause-run c o found log first last events made opened runs =
    let h = events_stay_whole o [] first found events last log made (open_is_whole o found first opened) runs in
    (h.whole.lawful, λ n. lawful_front log n h.whole.lawful, h.whole, h.logged, λ id. image_in_place h.sound h.logged h.whole id, h.agree.history, h.sound.sound, h.agree, h.tracks)

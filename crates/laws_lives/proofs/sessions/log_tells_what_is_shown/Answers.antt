use Rattle.std.proofs.Common.{sym, ap, ◌∙◌}
use Rattle.shore_model.specs.Histories.{shown}
use Rattle.laws_lives.proofs.DoubtOpenings.{is_just_opened, open_has_log, open_tracks_doubts}
use Rattle.laws_lives.proofs.DoubtSteps.{event_tracks_doubts}
use Rattle.laws_lives.proofs.DoubtsShown.{told_is_shown}
use Rattle.laws_lives.proofs.LogDecisions.{whole_tells}
use Rattle.laws_lives.proofs.LogSteps.{event_keeps_log}
use Rattle.laws_lives.specs.Soundness.{history_from}
use Rattle.laws_lives.proofs.sessions.log_tells_what_is_shown.Goals as goal

pub returns-clause-open : goal.returns-clause-open
returns-clause-open c o s log h = (is_just_opened o log s h, open_has_log o log s h, open_tracks_doubts o log s h)

pub returns-clause-each : goal.returns-clause-each
returns-clause-each c o es old new e log k l moves = event_keeps_log o es old new e log k l moves

pub returns-clause-doubts : goal.returns-clause-doubts
returns-clause-doubts c o es old new e log k agree l t moves = event_tracks_doubts o es old new e log k agree l t moves

pub returns-clause-tells : goal.returns-clause-tells
returns-clause-tells c base o es s log lawful k agree l t d =
    (told_is_shown base o es log lawful (whole_tells k agree l t d.all) ∙ ap (shown (history_from o es)) (sym d.all), agree.in_doubt ∙ sym t.in_doubt)

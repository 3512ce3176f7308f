-- From an open on, the log stays whole beside the sessions.
use Rattle.std.proofs.Common.{◌++◌, List, [], ◌∷◌, sym, subst}
use Rattle.shore_model.specs.declared.histories.Entry.{Entry}
use Rattle.shore_model.specs.declared.histories.Opening.{Opening}
use Rattle.shore_model.specs.declared.log_records.LogRecord.{LogRecord}
use Rattle.laws_lives.proofs.DoubtOpenings.{is_just_opened, open_has_log, open_is_whole_log, open_tracks_doubts}
use Rattle.laws_lives.proofs.DoubtSteps.{event_tracks_doubts}
use Rattle.laws_lives.proofs.LogSteps.{event_keeps_log}
use Rattle.laws_lives.proofs.SessionsAgree.{event_agrees, open_agrees}
use Rattle.laws_lives.proofs.Steps.{event_stays_sound, open_is_sound}
use Rattle.laws_lives.proofs.WholeSteps.{event_stays_whole}
use Rattle.laws_lives.specs.Doubts.{TracksDoubts}
use Rattle.laws_lives.specs.LogTells.{IsLogAfter}
use Rattle.laws_lives.specs.Logged.{log_after}
use Rattle.laws_lives.specs.SessionSteps.{SessionEvent, StepsTo, entries_by}
use Rattle.laws_lives.specs.Sessions.{Sessions}
use Rattle.laws_lives.specs.Soundness.{IsSoundAfter, SessionsAgree}
use Rattle.laws_lives.specs.WholeLogs.{IsOpenOn, IsWholeLog, RunsWithLog}

-- the invariants of sessions, of their history and of their log, side by side
pub record AllHold (o : Opening) (es : List Entry) (s : Sessions) (log : List LogRecord) : Type 0 where
  pub sound : IsSoundAfter o es s
  pub agree : SessionsAgree o es s
  pub logged : IsLogAfter o es s log
  pub tracks : TracksDoubts log s
  pub whole : IsWholeLog log s

pub open_is_whole : (o : Opening) (log : List LogRecord) (s : Sessions) → IsOpenOn o log s → AllHold o [] s log
open_is_whole o log s h = record {
  sound = open_is_sound o s (is_just_opened o log s h);
  agree = open_agrees o s (is_just_opened o log s h);
  logged = open_has_log o log s h;
  tracks = open_tracks_doubts o log s h;
  whole = open_is_whole_log o log s h;
}

pub event_keeps_all : (o : Opening) (es : List Entry) (old new : Sessions) (e : SessionEvent) (log : List LogRecord) → AllHold o es old log
    → StepsTo old e new → AllHold o (es ++ entries_by old e) new (log_after log old e)
event_keeps_all o es old new e log h steps = record {
  sound = event_stays_sound o es old new e h.sound h.agree steps;
  agree = event_agrees o es old new e h.sound h.agree steps;
  logged = event_keeps_log o es old new e log h.sound h.logged steps;
  tracks = event_tracks_doubts o es old new e log h.sound h.agree h.logged h.tracks steps;
  whole = event_stays_whole o es old new e log h.sound h.logged h.tracks h.whole steps;
}

pub events_stay_whole : (o : Opening) (es : List Entry) (s : Sessions) (log : List LogRecord) (events : List SessionEvent) (last : Sessions) (all : List LogRecord) (made : List Entry)
    → AllHold o es s log → RunsWithLog s log events es last all made → AllHold o made last all
events_stay_whole o es s log [] last all made h runs =
    subst (λ es. AllHold o es last all) (sym runs.2) (subst (AllHold o es last) (sym runs.1) (subst (λ s. AllHold o es s log) (sym runs.0) h))
events_stay_whole o es s log (e ∷ events) last all made h runs =
    events_stay_whole o (es ++ entries_by s e) runs.0 (log_after log s e) events last all made (event_keeps_all o es s runs.0 e log h runs.1) runs.2

-- Each step of a session keeps the room of pages and log.
use Rattle.std.proofs.Common.{◌++◌, ◌∷◌, ℕ, List, [], sym, ap, subst, ◌∙◌, length}
use Rattle.shore_types.specs.declared.layout.Geometry.{Geometry}
use Rattle.shore_types.specs.declared.layout.TheConstants.{LONGEST_FRAME}
use Rattle.shore_types.specs.declared.versions.Version.{Version}
use Rattle.shore_model.specs.declared.calls.Call.{Call}
use Rattle.shore_model.specs.declared.histories.Entry.{Entry}
use Rattle.shore_model.specs.declared.histories.Opening.{Opening}
use Rattle.shore_model.specs.declared.log_records.LogRecord.{LogRecord}
use Rattle.laws_room.proofs.LogRooms.{event_room}
use Rattle.laws_room.proofs.Undone.{event_claims}
use Rattle.laws_room.specs.Claims.{Claimed}
use Rattle.laws_room.specs.LogRooms.{HasLogRoom}
use Rattle.laws_lives.specs.SessionSteps.{SessionEvent, entries_by}
use Rattle.laws_lives.specs.Sessions.{Sessions}
use Rattle.shore_model.specs.declared.step.Step.{Step}
use Rattle.laws_calls.proofs.Comings.{goes_keeps, like_keeps, session_resume_comes}
use Rattle.laws_calls.proofs.Links.{ComesBy, Goes, GoesBy, IsLike}
use Rattle.laws_calls.proofs.Rooms.{as_log_room, within}
use Rattle.laws_calls.proofs.Sessions.{AreSessionsAfter}
use Rattle.laws_calls.proofs.SettledComings.{session_event_comes, settled_call_comes, settled_resume_comes}
use Rattle.laws_calls.proofs.TakenLocks.{sessions_of}
use Rattle.laws_calls.specs.CallHistories.{IsRoomyState}
use Rattle.laws_calls.specs.Events.{IsStateAfter, ManagerEvent, EventMoves, entries_of, entries_of_resume}
use Rattle.laws_calls.specs.CallSteps.{CallStep, ResumeStep}
use Rattle.laws_calls.specs.Settling.{SettledCall, SettledResume}
use Rattle.laws_calls.specs.States.{State, cost_of_log, log_room}
use Rattle.laws_calls.proofs.DoubtsApart.{doubts_apart}
use Rattle.laws_calls.proofs.CallComings.{session_call_comes}
use Rattle.laws_calls.specs.LockedStates.{entries_of_call}

pub goes_roomy : (base : ℕ) (o : Opening) (es : List Entry) (g : Geometry) (s new : State) (e : SessionEvent) → AreSessionsAfter base o es s.sessions s.log → IsRoomyState g.version s → Goes g s e new
    → IsRoomyState g.version new
goes_roomy base o es g s new e k roomy h =
    let room = event_room LONGEST_FRAME within s.sessions (log_room s) roomy.log k.agree.once (doubts_apart k) e new.sessions h.room.room h.moves h.admits h.room.after in
    record {
      slots = (goes_keeps base o es g s new e k h).agree.slots ∙ sym k.agree.slots ∙ roomy.slots;
      pages = event_claims k.sound s.counts roomy.pages e new.sessions new.counts h.moves h.fits;
      log = as_log_room new h.room.room room h.room.kept h.room.stream h.room.last;
    }

by_roomy : (base : ℕ) (o : Opening) (es : List Entry) (g : Geometry) (s : State) (events : List SessionEvent) (new : State) (made : List Entry) → AreSessionsAfter base o es s.sessions s.log
    → IsRoomyState g.version s → GoesBy g s events new made → IsRoomyState g.version new
by_roomy base o es g s [] new made k roomy h = subst (IsRoomyState g.version) (sym h.0) roomy
by_roomy base o es g s (e ∷ events) new made k roomy h =
    by_roomy base o (es ++ entries_by s.sessions e) g h.0 events new h.1 (goes_keeps base o es g s h.0 e k h.2) (goes_roomy base o es g s h.0 e k roomy h.2) h.3

-- the same sessions, log and slots
pub like_roomy : (v : Version) (s t : State) → IsLike s t → IsRoomyState v s → IsRoomyState v t
like_roomy v s t h roomy = record {
  slots = ap (λ (x : Sessions). x.slots) h.sessions ∙ roomy.slots;
  pages =
      subst (Claimed v t.sessions.records t.sessions.active) (sym h.counts)
      (subst (λ (x : Sessions). Claimed v x.records x.active s.counts) (sym h.sessions) roomy.pages);
  log =
      as_log_room t (log_room s) (subst (λ (x : Sessions). HasLogRoom LONGEST_FRAME (length x.prepared) x.active (log_room s)) (sym h.sessions) roomy.log) (ap cost_of_log (sym h.log)) (sym h.stream) (ap length (sym h.log));
}

module _ (g : Geometry) (o : Opening) (found : List LogRecord) (es : List Entry) (s : State) (k : IsStateAfter o found es s) (roomy : IsRoomyState g.version s) where
  pub comes_roomy : (new : State) (made : List Entry) → ComesBy g s new made → IsRoomyState g.version new
  comes_roomy new made h =
      like_roomy g.version h.mid new h.after
      (by_roomy (length found) o es g h.start h.events h.mid made
      (like_keeps (length found) o es s h.start h.before (sessions_of o found es s k.sessions)) (like_roomy g.version s h.start h.before roomy) h.goes)

  pub session_call_roomy : (session : ℕ) (c : Call) (step : Step) (new : State) → CallStep g s session c step new → IsRoomyState g.version new
  session_call_roomy session c step new h = comes_roomy new (entries_of_call s session c step new) (session_call_comes g o found es s k session c step new h)

  pub session_resume_roomy : (session : ℕ) (step : Step) (new : State) → ResumeStep g s session step new → IsRoomyState g.version new
  session_resume_roomy session step new h = comes_roomy new (entries_of_resume s session step) (session_resume_comes g o found es s k session step new h)

  pub settled_call_roomy : (session : ℕ) (c : Call) (step : Step) (new : State) → SettledCall g s session c step new → IsRoomyState g.version new
  settled_call_roomy session c step new h = comes_roomy new (entries_of_call s session c step new) (settled_call_comes g o found es s k session c step new h)

  pub settled_resume_roomy : (session : ℕ) (step : Step) (new : State) → SettledResume g s session step new → IsRoomyState g.version new
  settled_resume_roomy session step new h = comes_roomy new (entries_of_resume s session step) (settled_resume_comes g o found es s k session step new h)

  pub session_event_roomy : (new : State) (e : ManagerEvent) → EventMoves g s e new → IsRoomyState g.version new
  session_event_roomy new e h = comes_roomy new (entries_of s e new) (session_event_comes g o found es s k new e h)

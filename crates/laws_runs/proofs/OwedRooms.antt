-- What is owed to a checkpoint under way has its room through each event of a manager.
use Rattle.std.proofs.Common.{◌≡◌, ◌++◌, ℕ, List, [], ◌∷◌, sym, ap, subst, length, arith}
use Rattle.shore_types.specs.declared.layout.Geometry.{Geometry}
use Rattle.shore_types.specs.declared.layout.TheConstants.{LONGEST_FRAME}
use Rattle.shore_model.specs.declared.histories.Entry.{Entry}
use Rattle.shore_model.specs.declared.histories.Opening.{Opening}
use Rattle.shore_model.specs.declared.log_records.LogRecord.{LogRecord}
use Rattle.laws_room.proofs.LogRooms.{event_room}
use Rattle.laws_room.specs.LogRooms.{HasLogRoom, LogRoom}
use Rattle.laws_lives.specs.SessionSteps.{SessionEvent, entries_by}
use Rattle.laws_lives.specs.Sessions.{Sessions}
use Rattle.laws_calls.proofs.Comings.{goes_keeps, like_keeps}
use Rattle.laws_calls.proofs.DoubtsApart.{doubts_apart}
use Rattle.laws_calls.proofs.Links.{Goes, GoesBy, IsLike}
use Rattle.laws_calls.proofs.Rooms.{within}
use Rattle.laws_calls.proofs.SessionRooms.{goes_roomy, like_roomy}
use Rattle.laws_calls.proofs.Sessions.{AreSessionsAfter}
use Rattle.laws_calls.proofs.SettledComings.{session_event_comes}
use Rattle.laws_calls.proofs.TakenLocks.{sessions_of}
use Rattle.laws_calls.specs.CallHistories.{IsRoomyState}
use Rattle.laws_calls.specs.Events.{EventMoves, IsStateAfter, ManagerEvent, entries_of}
use Rattle.laws_calls.specs.States.{State, cost_of_log, log_room}
use Rattle.laws_checkpoints.proofs.RingEvents.{event_ring}
use Rattle.laws_checkpoints.specs.RingRooms.{HasRingRoom, RingRoom}

-- beside the room of the state so much is owed
abbrev pub owing : ℕ → State → RingRoom
owing owed s = record { room = log_room s; to_log = owed }

abbrev with_room : LogRoom → ℕ → RingRoom
with_room room owed = record { room = room; to_log = owed }

-- a room of these sums is the state's
same_sums : (owed : ℕ) (s : State) (room : LogRoom) → HasRingRoom (with_room room owed) → room.kept ≡ cost_of_log s.log → room.reserved ≡ (log_room s).reserved
    → room.stream_bytes ≡ s.stream_bytes → room.last_lsn ≡ length s.log → HasRingRoom (owing owed s)
same_sums owed s room h kept reserved stream last =
    let fits = h.fits in
    let numbers = h.numbers in
    let short = h.short in
    record { fits = omega (arith, fits, kept, reserved, stream); numbers = omega (arith, numbers, reserved, last); short = omega (arith, short, stream, kept); most = h.most }

nothing_spared : (doubts : ℕ) (s : State) → HasLogRoom LONGEST_FRAME doubts s.sessions.active (log_room s) → HasLogRoom 0 doubts s.sessions.active (log_room s)
nothing_spared doubts s h = let fits = h.fits in record { sum = h.sum; fits = omega (arith, fits); lsns = h.lsns; short = h.short }

module _ (owed : ℕ) where
  goes_owing : (base : ℕ) (o : Opening) (es : List Entry) (g : Geometry) (s new : State) (e : SessionEvent) → AreSessionsAfter base o es s.sessions s.log → IsRoomyState g.version s
      → HasRingRoom (owing owed s) → Goes g s e new → HasRingRoom (owing owed new)
  goes_owing base o es g s new e k roomy ring h =
      let room = event_room LONGEST_FRAME within s.sessions (log_room s) roomy.log k.agree.once (doubts_apart k) e new.sessions h.room.room h.moves h.admits h.room.after in
      let kept =
      event_ring s.sessions (owing owed s) (nothing_spared (length s.sessions.prepared) s roomy.log) h.room.room e new.sessions ring h.moves h.admits h.room.after in
      same_sums owed new h.room.room kept h.room.kept room.sum h.room.stream h.room.last

  by_owing : (base : ℕ) (o : Opening) (es : List Entry) (g : Geometry) (s : State) (events : List SessionEvent) (new : State) (made : List Entry) → AreSessionsAfter base o es s.sessions s.log
      → IsRoomyState g.version s → HasRingRoom (owing owed s) → GoesBy g s events new made → HasRingRoom (owing owed new)
  by_owing base o es g s [] new made k roomy ring h = subst (λ x. HasRingRoom (owing owed x)) (sym h.0) ring
  by_owing base o es g s (e ∷ events) new made k roomy ring h =
      by_owing base o (es ++ entries_by s.sessions e) g h.0 events new h.1 (goes_keeps base o es g s h.0 e k h.2) (goes_roomy base o es g s h.0 e k roomy h.2)
      (goes_owing base o es g s h.0 e k roomy ring h.2) h.3

  like_owing : (s t : State) → IsLike s t → HasRingRoom (owing owed s) → HasRingRoom (owing owed t)
  like_owing s t h ring =
      same_sums owed t (log_room s) ring (ap cost_of_log (sym h.log)) (ap (λ (x : Sessions). reserved_for x) (sym h.sessions)) (sym h.stream) (ap length (sym h.log))
    where
      reserved_for : Sessions → ℕ
      reserved_for x = (log_room (record s { sessions = x })).reserved

  pub event_owing : (g : Geometry) (o : Opening) (found : List LogRecord) (es : List Entry) (s : State) → IsStateAfter o found es s → IsRoomyState g.version s → HasRingRoom (owing owed s) → (new : State)
      (e : ManagerEvent) → EventMoves g s e new → HasRingRoom (owing owed new)
  event_owing g o found es s k roomy ring new e h =
      let comes = session_event_comes g o found es s k new e h in
      like_owing comes.mid new comes.after
      (by_owing (length found) o es g comes.start comes.events comes.mid (entries_of s e new)
      (like_keeps (length found) o es s comes.start comes.before (sessions_of o found es s k.sessions)) (like_roomy g.version s comes.start comes.before roomy)
      (like_owing s comes.start comes.before ring) comes.goes)

-- The sums of the log's room, and the room that an open has.
use Rattle.std.proofs.Common.{◌≡◌, ◌++◌, ◌+◌, ◌≤◌, ◌<◌, List, None, refl, ap, length, arith, [], ◌∷◌}
use Rattle.shore_types.specs.Versions.{slot_limit}
use Rattle.shore_model.specs.declared.histories.Opening.{Opening}
use Rattle.std.specs.FinMap.{get}
use Rattle.std.proofs.lemmas.List.Sums.{sum_by_push}
use Rattle.shore_types.specs.declared.ids.PageId.{PageId}
use Rattle.shore_types.specs.declared.ids.Rid.{Rid}
use Rattle.shore_types.specs.declared.layout.TheConstants.{GREATEST_CHECKPOINT, LAST_OPENED, LONGEST_FRAME, MAX_LOG_BYTES}
use Rattle.shore_types.specs.declared.versions.Version.{Version}
use Rattle.shore_model.specs.declared.log_records.LogRecord.{LogRecord}
use Rattle.shore_logrec.specs.Text.{cost_of}
use Rattle.shore_page.specs.Room.{HasRoom}
use Rattle.laws_room.specs.Claims.{slots_of, NoOthers}
use Rattle.laws_room.specs.LogRooms.{HasLogRoom, LogRoom}
use Rattle.laws_calls.specs.CallHistories.{IsOpened, IsRoomyState}
use Rattle.laws_calls.specs.States.{State, cost_of_log, log_room}
use Rattle.std.specs.List.{AllByRecursion}
use Rattle.shore_model.specs.Locks.{MayWrite}
use Rattle.laws_room.proofs.Undone.{alone}
use Rattle.laws_lives.proofs.DoubtOpenings.{is_just_opened}
use Rattle.laws_lives.proofs.Lists.{recursion-weaker}
use Rattle.laws_lives.proofs.Steps.{open_is_sound}
use Rattle.laws_lives.specs.Sessions.{SessionTxn}
use Rattle.laws_lives.specs.Views.{IsAmong}

-- ---- costs

pub cost_pushed : (log : List LogRecord) (r : LogRecord) → cost_of_log (log ++ r ∷ []) ≡ cost_of_log log + cost_of r.payload
cost_pushed log r = sum_by_push (λ (r : LogRecord). cost_of r.payload) log r

-- ---- the log's room of a state

-- a room of these sums is the state's
pub as_log_room : (s : State) (room : LogRoom) → HasLogRoom LONGEST_FRAME (length s.sessions.prepared) s.sessions.active room → room.kept ≡ cost_of_log s.log
    → room.stream_bytes ≡ s.stream_bytes → room.last_lsn ≡ length s.log → HasLogRoom LONGEST_FRAME (length s.sessions.prepared) s.sessions.active (log_room s)
as_log_room s room h kept stream last =
    let sum = h.sum in
    let fits = h.fits in
    let lsns = h.lsns in
    let short = h.short in
    record { sum = refl; fits = omega arith; lsns = omega arith; short = omega arith }

pub within : LONGEST_FRAME ≤ LONGEST_FRAME + GREATEST_CHECKPOINT
within = omega arith

-- ---- an open

-- what those in doubt claim and owe has its room too
module _ (v : Version) (o : Opening) (found : List LogRecord) (s : State) (h : IsOpened o found s) where
  owned_by_locks : (a : SessionTxn) → IsAmong a s.sessions.active → AllByRecursion (λ e. NoOthers s.sessions.active a.txn e.0) a.undo.images
  owned_by_locks a mem =
      let sound = open_is_sound o s.sessions (is_just_opened o found s.sessions h.on) in
      recursion-weaker (λ e. MayWrite s.sessions.held a.txn e.0) (λ e. NoOthers s.sessions.active a.txn e.0) (λ e may. alone sound a mem e.0 may) a.undo.images (sound.undoes a mem).changed

  pub open_roomy : s.sessions.slots ≡ slot_limit v → ((p : PageId) → HasRoom v (slots_of s.sessions.records s.sessions.active p (s.counts p)))
      → ((id : Rid) → s.counts id.page ≤ id.slot → get s.sessions.records id ≡ None)
      → ((a : SessionTxn) → IsAmong a s.sessions.active → AllByRecursion (λ e. e.0.slot < s.counts e.0.page) a.undo.images)
      → cost_of_log found + (log_room s).reserved + LONGEST_FRAME ≤ s.stream_bytes
      → length found + (log_room s).reserved < LAST_OPENED → s.stream_bytes ≤ MAX_LOG_BYTES → IsRoomyState v s
  open_roomy slots pages behind within room numbers short =
      let kept : cost_of_log s.log ≡ cost_of_log found = ap cost_of_log h.log in
      let last : length s.log ≡ length found = ap length h.log in
      record {
        slots = slots;
        pages = record { room = pages; behind = behind; within = within; owned = owned_by_locks; once = h.on.once };
        log = record { sum = refl; fits = omega (arith, kept, room); lsns = omega (arith, last, numbers); short = omega (arith, short) };
      }

-- Undo of all losers: turn by turn, and the force behind the last one.
use Rattle.std.proofs.Common.{◌≡◌, ◌++◌, ◌-◌, ℕ, List, [], ◌∷◌, Result, Ok, Err, sym, ap, subst, ◌∙◌, length, drop, length-append, arith}
use Rattle.std.proofs.Math.Seq.{drop-append_seam}
use Rattle.std.proofs.lemmas.List.{append_assoc}
use Rattle.shore_gate.specs.declared.anchors.Anchor.{Anchor}
use Rattle.std.specs.Prelude.{OnOk}
use Rattle.shore_types.specs.declared.layout.TheConstants.{LOG_FRONT_BYTES}
use Rattle.shore_disk.specs.declared.device.Disk.{Ghosts}
use Rattle.shore_model.specs.declared.log_records.LogRecord.{LogRecord}
use Rattle.shore_log.specs.declared.device.LogDev.{LogDev}
use Rattle.shore_heap.specs.declared.heap.Heap.{Heap}
use Rattle.shore_heap.specs.Heaps.{geometry_of, history_of}
use Rattle.laws_lives.specs.Recovery.{RecoveryState, after_force}
use Rattle.laws_lives.specs.Undo.{IsLoser, undo_record}
use Rattle.shore_analysis.specs.Losers.{IsNextToUndo}
use Rattle.shore_analysis.proofs.InTurn.{in_order_more}
use Rattle.shore_restart.specs.declared.errors.RestartError.{RestartError}
use Rattle.shore_restart.specs.Standing.{Forces, RestartMoves, SameLog, stream_bytes_of}
use Rattle.shore_restart.specs.Turns.{IsUndoneSoFar, gone_on}
use Rattle.shore_restart.proofs.Coming.{CameFrom, came_forced, force_stops, moves_of, moves_stop}

-- ---- the log

-- a turn more
pub undone_and : (found log later : List LogRecord) (t : ℕ) → IsUndoneSoFar found log → IsLoser log t → IsNextToUndo log t → later ≡ log ++ undo_record log t ∷ [] → IsUndoneSoFar found later
undone_and found log later t so_far loser next same =
    subst (IsUndoneSoFar found) (sym same) (so_far.0 ++ t ∷ [], in_order_more found so_far.0 log t so_far.1 loser next)

-- one list behind another
pub gone_then : (mine first now later xs more : List LogRecord) → now ≡ first ++ xs → later ≡ now ++ more → gone_on (gone_on mine first now) now later ≡ gone_on mine first later
gone_then mine first now later xs more one two =
    ap (λ (ys : List LogRecord). (mine ++ ys) ++ drop (length now) later) (parts first now xs one) ∙ ap (λ (ys : List LogRecord). (mine ++ xs) ++ ys) (parts now later more two) ∙ append_assoc mine xs more
    ∙ sym (ap (λ (ys : List LogRecord). mine ++ ys) (parts first later (xs ++ more) (two ∙ ap (λ (ys : List LogRecord). ys ++ more) one ∙ append_assoc first xs more)))
  where
    parts : (front whole rest : List LogRecord) → whole ≡ front ++ rest → drop (length front) whole ≡ rest
    parts front whole rest same = ap (drop (length front)) same ∙ drop-append_seam front rest

-- .. is as long as that
pub gone_long : (mine first now xs : List LogRecord) → now ≡ first ++ xs → length mine ≡ length first → length (gone_on mine first now) ≡ length now
gone_long mine first now xs same long =
    let rest : drop (length first) now ≡ xs = ap (drop (length first)) same ∙ drop-append_seam first xs in
    let own = ap length rest in
    let all = ap length same in
    omega (arith, own, all, long, length-append mine (drop (length first) now), length-append first xs)

-- what holds anyway, holds if it was not refused
pub on_ok : {T E : Type 0} {P : Type 0} (r : Result T E) → P → OnOk r P
on_ok (Ok x) is = is
on_ok (Err e) is = tt

pub ok_then : {T E : Type 0} {P Q : Type 0} (r : Result T E) → OnOk r P → (P → Q) → OnOk r Q
ok_then (Ok x) is then = then is
ok_then (Err e) is then = tt

-- ---- the log device

module _ {L : Type 0} {G : Ghosts L} where
  -- its stream is as long
  pub stream_same : (old new : LogDev L G) → SameLog old new → stream_bytes_of new ≡ stream_bytes_of old
  stream_same old new same = ap (λ (n : ℕ). n - LOG_FRONT_BYTES) same.size

-- ---- both devices

module _ {L V : Type 0} {G : Ghosts L} {H : Ghosts V} (log_front front : List ℕ) (anchor : Anchor) (first_log : LogDev L G) (first : Heap V H) (s : RecoveryState) where
  -- it has come from there to some store
  abbrev pub HasCome : LogDev L G → Heap V H → Type 0
  HasCome log heap = (later : RecoveryState) × CameFrom log_front front anchor first_log first s log heap later

  -- a step from there was stopped
  pub come_stop : {A B : Type 0} (e : RestartError) (r : Result B RestartError) (log new_log : LogDev L G) (heap new : Heap V H) (Done Then : RecoveryState → Type 0) → (come : HasCome log heap) → r ≡ Err e
      → RestartMoves {A = A} (Err e) log_front front anchor log new_log heap new come.0 Done → RestartMoves r log_front front anchor first_log new_log first new s Then
  come_stop {A = A} {B = B} e r log new_log heap new Done Then come is m =
      subst (λ (r : Result B RestartError). RestartMoves r log_front front anchor first_log new_log first new s Then) (sym is)
      (moves_stop log_front front anchor first_log first s log new_log heap new come.0 come.1 {A = A} {B = B} e e Done Then m)

  -- the force behind the last turn, whatever it answers
  pub force_last : (r : Result (Unit {0}) RestartError) (old new : LogDev L G) (heap : Heap V H) (later : RecoveryState) → IsUndoneSoFar s.log later.log → (came : CameFrom log_front front anchor first_log first s old heap later)
      → Forces r (geometry_of first) log_front front anchor (history_of heap) old new later → RestartMoves r log_front front anchor first_log new first heap s (λ later. (later.durable ≡ length later.log) × IsUndoneSoFar s.log later.log)
  force_last (Ok u) old new heap later so_far came f =
      moves_of log_front front anchor first_log first s {A = Unit {0}} tt new heap (after_force later f.durable) (λ later. (later.durable ≡ length later.log) × IsUndoneSoFar s.log later.log)
      (came_forced log_front front anchor first_log first s old new heap later came f) (f.done.0, so_far)
  force_last (Err e) old new heap later so_far came f = force_stops log_front front anchor first_log first s e e old new heap later (λ later. (later.durable ≡ length later.log) × IsUndoneSoFar s.log later.log) came f

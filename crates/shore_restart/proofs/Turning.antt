-- A record of undo: done on its page, and then taken into the log.
use Rattle.std.proofs.Common.{◌≡◌, ◌≤◌, ◌+◌, ◌-◌, ℕ, List, [], ◌∷◌, ◌++◌, Option, Some, None, true, Result, Ok, Err, refl, sym, ap, subst, ◌∙◌, length, drop, arith}
use Rattle.shore_gate.specs.declared.anchors.Anchor.{Anchor}
use Rattle.std.specs.Prelude.{IsSomeAnd, is_some, IsTrue}
use Rattle.std.proofs.lemmas.List.{drop-append-le, length-append, take-append-le}
use Rattle.shore_types.specs.Layout.{HasPage}
use Rattle.shore_types.specs.declared.ids.Rid.{Rid}
use Rattle.shore_disk.specs.Device.{DeviceHistory}
use Rattle.shore_disk.specs.declared.device.Disk.{Ghosts}
use Rattle.shore_disk.proofs.Moments.{started}
use Rattle.shore_model.specs.declared.log_records.LogRecord.{LogRecord}
use Rattle.shore_model.specs.declared.log_records.Payload.{Payload}
use Rattle.shore_model.specs.declared.log_records.Payload.TheVariants as payload
use Rattle.shore_model.specs.declared.unanswered_changes.UnansweredChange.{UnansweredChange}
use Rattle.shore_model.specs.Logs.{image_in}
use Rattle.shore_frames.specs.Frames.{GivesBehindFrom}
use Rattle.laws_images.specs.StandsBehind.{kept_behind}
use Rattle.shore_restart.specs.Anchors.{EndsBehind}
use Rattle.shore_log.specs.Settled.{KeepsFrames, cut_of_log, records_of_log, stable}
use Rattle.shore_log.specs.declared.device.LogDev.{LogDev}
use Rattle.shore_page.specs.Room.{Fits}
use Rattle.shore_page.specs.Slots.{Slot}
use Rattle.shore_pool.specs.declared.frame.Frame.{Frame}
use Rattle.shore_heap.specs.declared.heap.Heap.{Heap}
use Rattle.shore_heap.specs.Heaps.{frame_of, geometry_of, history_of}
use Rattle.laws_lives.specs.Recovery.{AppendRecord, LeadsTo, RecoveryState, after_append}
use Rattle.laws_lives.specs.Restarts.{IsRestartStep}
use Rattle.laws_lives.specs.Undo.{IsLoser, undo_payload, undo_record}
use Rattle.laws_checkpoints.specs.RecoveryNumbers.{RecoveryNumbers, recovery_after}
use Rattle.laws_lives.proofs.Invariant.{event_kept}
use Rattle.laws_runs.specs.SlotCounts.{slots_left}
use Rattle.laws_heaps.specs.HeapRecoveries.{HasRecoveries}
use Rattle.laws_heaps.proofs.Made.{appended_without}
use Rattle.laws_heaps.proofs.Noted.{without_noted}
use Rattle.laws_heaps.proofs.SettledSlots.{framed_whole}
use Rattle.shore_restart.specs.declared.errors.RestartError.{RestartError}
use Rattle.laws_images.specs.Moments.{ShowsLeft}
use Rattle.laws_images.specs.MomentsBehind.{GivesKeptPrefix, PathBehind}
use Rattle.shore_restart.specs.Standing.{Appends, IsAtRest, IsReady, RestartMoves, Stands, log_history, moment_of, resting}
use Rattle.shore_restart.proofs.Coming.{CameFrom, came_here, moves_of}
use Rattle.shore_restart.proofs.Noting.{behind_on}
use Rattle.shore_restart.proofs.Paths.{path_and, path_covered, step_volume}
use Rattle.shore_restart.proofs.Standing.{left_by}

-- a prefix of the log is one of a longer log too
prefix_longer : (log_front : List ℕ) (anchor : Anchor) (s : RecoveryState) (r : LogRecord) (c : List ℕ) → GivesKeptPrefix log_front anchor s c → GivesKeptPrefix log_front anchor (after_append s r) c
prefix_longer log_front anchor s r c gives =
    let within : gives.0 ≤ length s.log = gives.2 in
    let long = length-append s.log (r ∷ []) in
    (gives.0, gives.1, omega (arith, within, long), subst (λ (rs : List LogRecord). GivesBehindFrom log_front anchor.tail anchor.tail_place (kept_behind anchor rs) c) (sym (take-append-le gives.0 s.log (r ∷ []) within)) gives.3)

-- a record that puts nothing back
abbrev pub IsNoCompensation : Payload → Type 0
IsNoCompensation (payload.Change id before after) = Unit {0}
IsNoCompensation (payload.Compensation id after undo_next) = ⊥
IsNoCompensation payload.Commit = Unit {0}
IsNoCompensation payload.End = Unit {0}
IsNoCompensation (payload.Prepare global granules) = Unit {0}
IsNoCompensation payload.RollbackDecided = Unit {0}
IsNoCompensation payload.CheckpointBegin = Unit {0}
IsNoCompensation (payload.CheckpointEnd begin next txns dirty) = Unit {0}
IsNoCompensation (payload.Anchor checkpoint tail) = Unit {0}

-- .. has no image, if it is a record of undo
pub undo_without : (cs : List UnansweredChange) (p : Payload) → p ≡ undo_payload cs → IsNoCompensation p → image_in (undo_payload cs) ≡ None
undo_without [] p is other = refl
undo_without (c ∷ cs) p is other = absurd (subst IsNoCompensation is other)

module _ {L : Type 0} {G : Ghosts L} where
  -- the log device has one record more, which waits
  pub rest_taken : (log_front : List ℕ) (anchor : Anchor) (old new : LogDev L G) (s : RecoveryState) (r : LogRecord) → KeepsFrames old new → records_of_log new ≡ records_of_log old ++ r ∷ []
      → EndsBehind (cut_of_log old) (s.log ++ r ∷ []) → IsAtRest log_front anchor old s → IsAtRest log_front anchor new (after_append s r)
  rest_taken log_front anchor old new s r frames taken ends rest =
      let same : cut_of_log new ≡ cut_of_log old = ap (λ t. t.first - 1) frames.tail in
      record {
        settled = frames.settled anchor.tail anchor.tail_place log_front rest.settled;
        none_staged = frames.under_way ∙ rest.none_staged;
        records = ap (λ (n : ℕ). drop n (s.log ++ r ∷ [])) same ∙ drop-append-le (cut_of_log old) s.log (r ∷ []) rest.ended.cuts.0 ∙ ap (λ (rs : List LogRecord). rs ++ r ∷ []) rest.records ∙ sym taken;
        ended = subst (λ (n : ℕ). EndsBehind n (s.log ++ r ∷ [])) (sym same) ends;
        durable = rest.durable ∙ ap (λ (n : ℕ). n + length (stable old)) (sym same) ∙ ap (λ (n : ℕ). cut_of_log new + n) (ap length (sym frames.forced));
      }

module _ {V : Type 0} {H : Ghosts V} where
  -- what fits the slots that the log leaves fits the frame of a page
  pub fits_whole : (front : List ℕ) (disk : ℕ → List ℕ) (heap : Heap V H) (s : RecoveryState) (id : Rid) (bytes : ℕ) → Stands front disk heap s → s.redone ≡ length s.log → HasPage (geometry_of heap) id.page
      → IsTrue (is_some (frame_of heap id.page)) → Fits (geometry_of heap).version (slots_left s.log id.page) id.slot bytes → IsSomeAnd (frame_of heap id.page) (λ f. Fits (geometry_of heap).version f.page.slots id.slot bytes)
  fits_whole front disk heap s id bytes stands all there held fits = at (frame_of heap id.page) refl held
    where
      at : (o : Option Frame) → frame_of heap id.page ≡ o → IsTrue (is_some o) → IsSomeAnd o (λ f. Fits (geometry_of heap).version f.page.slots id.slot bytes)
      at None same none = absurd cc
      at (Some f) same some =
          subst (λ (slots : List Slot). Fits (geometry_of heap).version slots id.slot bytes) (sym (framed_whole heap disk s stands.store stands.settled id.page f stands.recoverable there same all)) fits

  -- .. and what fits that fits those slots
  pub fits_left : (front : List ℕ) (disk : ℕ → List ℕ) (heap : Heap V H) (s : RecoveryState) (id : Rid) (bytes : ℕ) → Stands front disk heap s → s.redone ≡ length s.log → HasPage (geometry_of heap) id.page
      → IsSomeAnd (frame_of heap id.page) (λ f. Fits (geometry_of heap).version f.page.slots id.slot bytes) → Fits (geometry_of heap).version (slots_left s.log id.page) id.slot bytes
  fits_left front disk heap s id bytes stands all there fits = at (frame_of heap id.page) refl fits
    where
      at : (o : Option Frame) → frame_of heap id.page ≡ o → IsSomeAnd o (λ f. Fits (geometry_of heap).version f.page.slots id.slot bytes) → Fits (geometry_of heap).version (slots_left s.log id.page) id.slot bytes
      at None same none = absurd none
      at (Some f) same here = subst (λ (slots : List Slot). Fits (geometry_of heap).version slots id.slot bytes) (framed_whole heap disk s stands.store stands.settled id.page f stands.recoverable there same all) here

  -- a record without an image
  pub without_stands : (front : List ℕ) (disk : ℕ → List ℕ) (heap : Heap V H) (s : RecoveryState) (r : LogRecord) → Stands front disk heap s → s.redone ≡ length s.log → image_in r.payload ≡ None
      → LeadsTo s (AppendRecord r) (after_append s r) × Stands front disk heap (after_append s r)
  without_stands front disk heap s r stands all none =
      let m = appended_without heap disk s r stands.store stands.recoverable all none in
      (m.0, record { store = m.1; settled = stands.settled; recoverable = event_kept s (AppendRecord r) (after_append s r) stands.recoverable m.0; slots = stands.slots; shows = stands.shows })

module _ {L V : Type 0} {G : Ghosts L} {H : Ghosts V} (log_front front : List ℕ) (anchor : Anchor) (first_log : LogDev L G) (first : Heap V H) (s : RecoveryState) where
  -- stopped before the record was done
  pub append_stops : {A B : Type 0} (result : Result A RestartError) (error : RestartError) (log new : LogDev L G) (heap : Heap V H) (r : LogRecord) (Done : RecoveryState → Type 0) → log_history new ≡ log_history log
      → RestartMoves result log_front front anchor first_log log first heap s Done → Appends {A = B} (Err error) log_front front anchor first_log new first heap s r
  append_stops result error log new heap r Done same m = record {
    later = m.later;
    moments = m.moments;
    path = subst (λ (h : DeviceHistory). PathBehind (geometry_of first) log_front front anchor (moment_of (log_history first_log) first s) m.moments (moment_of h heap m.later)) (sym same) m.path;
    done = tt;
    notes = tt;
  }

  -- the record is done, and there is memory for it in the log
  pub appended : (log mid : LogDev L G) (heap new : Heap V H) (later : RecoveryState) (r : LogRecord) (disk : ℕ → List ℕ) → (came : CameFrom log_front front anchor first_log first s log heap later) → later.log ≡ s.log
      → log_history mid ≡ log_history log → history_of new ≡ history_of heap → IsAtRest log_front anchor mid later → LeadsTo later (AppendRecord r) (after_append later r) → Stands front disk new (after_append later r)
      → ((recovery : RecoveryNumbers) → HasRecoveries heap recovery → HasRecoveries new (recovery_after later (AppendRecord r) recovery)) → Appends {A = Unit {0}} (Ok tt) log_front front anchor first_log mid first new s r
  appended log mid heap new later r disk came log_is same history rest leads stands noted = record {
    later = later;
    moments = came.moments;
    path =
        subst (λ (h : DeviceHistory). PathBehind (geometry_of first) log_front front anchor (moment_of (log_history first_log) first s) came.moments (record { log = log_history mid; volume = h; store = later })) (sym history)
        (subst (λ (h : DeviceHistory). PathBehind (geometry_of first) log_front front anchor (moment_of (log_history first_log) first s) came.moments (moment_of h heap later)) (sym same) came.path);
    done = (log_is, came.ready.redone, rest, leads, disk, stands);
    notes = λ a recovery has. let before = came.notes a recovery has in (before.0, before.1, before.2, noted before.1 before.3);
  }

  -- a record without an image, if there is memory for it
  pub append_without : (result : Result (Unit {0}) RestartError) (mid : LogDev L G) (r : LogRecord) (disk : ℕ → List ℕ) → IsReady log_front front anchor disk first_log first s → image_in r.payload ≡ None
      → log_history mid ≡ log_history first_log → IsAtRest log_front anchor mid s → Appends result log_front front anchor first_log mid first first s r
  append_without (Ok u) mid r disk ready none same rest =
      let m = without_stands front disk first s r ready.stands ready.redone none in
      appended first_log mid first first s r disk (came_here log_front front anchor first_log first s disk ready) refl same refl rest m.0 m.1 (λ recovery has. (without_noted first s recovery r has none).0)
  append_without (Err e) mid r disk ready none same rest =
      append_stops {A = Unit {0}} (Ok tt) e first_log mid first r (λ later. later ≡ s) same
      (moves_of log_front front anchor first_log first s {A = Unit {0}} tt first_log first s (λ later. later ≡ s) (came_here log_front front anchor first_log first s disk ready) refl)

  -- stopped as its record was
  pub turn_stops : {A B : Type 0} (e other : RestartError) (new : LogDev L G) (heap : Heap V H) (r : LogRecord) (Done : RecoveryState → Type 0)
      → Appends {A = A} (Err e) log_front front anchor first_log new first heap s r → RestartMoves {A = B} (Err other) log_front front anchor first_log new first heap s Done
  turn_stops e other new heap r Done a = record { later = a.later; moments = a.moments; path = a.path; done = tt; notes = tt }

  -- neither device was called
  pub moves_none : {A : Type 0} (result : Result A RestartError) (disk : ℕ → List ℕ) (Done : RecoveryState → Type 0) → IsReady log_front front anchor disk first_log first s → Done s
      → RestartMoves result log_front front anchor first_log first_log first first s Done
  moves_none (Ok x) disk Done ready is = moves_of log_front front anchor first_log first s x first_log first s Done (came_here log_front front anchor first_log first s disk ready) is
  moves_none (Err e) disk Done ready is =
      let came = came_here log_front front anchor first_log first s disk ready in
      record { later = s; moments = came.moments; path = came.path; done = tt; notes = tt }

  -- .. and taken into the log
  module _ (mid new_log : LogDev L G) (heap : Heap V H) (r : LogRecord) (a : Appends {A = Unit {0}} (Ok tt) log_front front anchor first_log mid first heap s r) (frames : KeepsFrames mid new_log)
      (taken : records_of_log new_log ≡ records_of_log mid ++ r ∷ []) (history : log_history new_log ≡ log_history mid) (geometry : geometry_of heap ≡ geometry_of first) (t : ℕ) (loser : IsLoser s.log t)
      (is : r ≡ undo_record s.log t) (ends : EndsBehind (cut_of_log mid) (a.later.log ++ r ∷ [])) where
    -- it is a step of a restart
    undone : IsRestartStep a.later (AppendRecord r)
    undone = (t, subst (λ (log : List LogRecord). IsLoser log t) (sym a.done.0) loser, is ∙ ap (λ (log : List LogRecord). undo_record log t) (sym a.done.0))

    path_taken : PathBehind (geometry_of first) log_front front anchor (moment_of (log_history first_log) first s) (a.moments ++ moment_of (log_history mid) heap (after_append a.later r) ∷ [])
        (moment_of (log_history mid) heap (after_append a.later r))
    path_taken =
        let covered = path_covered (geometry_of first) log_front front anchor (moment_of (log_history first_log) first s) a.moments (moment_of (log_history mid) heap a.later) a.path in
        path_and (geometry_of first) log_front front anchor (moment_of (log_history first_log) first s) a.moments (moment_of (log_history mid) heap a.later) (moment_of (log_history mid) heap (after_append a.later r)) a.path
        (step_volume (geometry_of first) log_front front anchor (log_history mid) (history_of heap) (history_of heap) a.later (after_append a.later r) (AppendRecord r ∷ []) (tt, tt) covered.log
        (undone, after_append a.later r, a.done.3, refl)
        (started (history_of heap) (ShowsLeft (geometry_of first) front a.later) covered.volume))
        (record { log = λ c left. prefix_longer log_front anchor a.later r c (covered.log c left); volume = left_by front a.done.4 first heap (after_append a.later r) geometry a.done.5 })

    pub turned : RestartMoves (Ok true) log_front front anchor first_log new_log first heap s (λ later. later.log ≡ s.log ++ r ∷ [])
    turned =
        let rest = rest_taken log_front anchor mid new_log a.later r frames taken ends a.done.2 in
        let long = length-append a.later.log (r ∷ []) in
        let all = a.done.1 in
        record {
          later = after_append a.later r;
          moments = a.moments ++ moment_of (log_history mid) heap (after_append a.later r) ∷ [];
          path = subst (λ (h : DeviceHistory). PathBehind (geometry_of first) log_front front anchor (moment_of (log_history first_log) first s) (a.moments ++ moment_of (log_history mid) heap (after_append a.later r) ∷ []) (moment_of h heap (after_append a.later r)))
              (sym history) path_taken;
          done = (ap (λ (log : List LogRecord). log ++ r ∷ []) a.done.0, a.done.4, record { at_rest = rest; stands = a.done.5; redone = omega (arith, long, all) });
          notes = λ b recovery has.
              let before = a.notes b recovery has in
              let after = recovery_after a.later (AppendRecord r) before.1 in (
                before.0 ++ AppendRecord r ∷ [],
                after,
                behind_on (resting b s recovery) before.0 (resting b a.later before.1) (AppendRecord r ∷ []) (resting b (after_append a.later r) after) before.2 (undone, tt, after_append a.later r, a.done.3, refl),
                before.3,
              );
        }

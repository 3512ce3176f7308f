use Rattle.std.proofs.Common.{◌≡◌, ◌<◌, ◌-◌, ◌∷◌, Ok, ap, Err, Result, length, arith, ℕ, List, [], Bool, inl, inr, refl, sym, subst, ◌∙◌}
use Rattle.std.specs.Prelude.{OnOk}
use Rattle.shore_dwrite.proofs.Moves.{if_err}
use Rattle.shore_model.specs.declared.log_records.LogRecord.{LogRecord}
use Rattle.shore_heap.specs.Heaps.{faults_of, geometry_of, history_of}
use Rattle.shore_log.specs.Settled.{cut_of_log, records_of_log}
use Rattle.laws_lives.specs.Undo.{undo_record}
use Rattle.laws_lives.proofs.UndoRecords.{undone_grows}
use Rattle.shore_analysis.specs.Padded.{padded}
use Rattle.shore_analysis.proofs.InTurn.{in_order_undone}
use Rattle.shore_restart.proofs.LogTurns.{gone_none}
use Rattle.shore_restart.proofs.WholeLogs.{whole_taken}
use Rattle.laws_lives.specs.Undo.{HasNoLosers}
use Rattle.shore_restart.specs.Standing.{log_faults, log_seen, stream_bytes_of}
use Rattle.shore_restart.specs.Turns.{CannotUndo, HasNoTurnRoom, IsUndoOf, IsUndoneSoFar, TurnsFit, gone_on}
use Rattle.shore_disk.specs.Cause.{HasCause}
use Rattle.shore_restart.specs.Errors.{log_answer}
use Rattle.shore_restart.proofs.Causes.{err_to, no_page_cause}
use Rattle.shore_restart.proofs.LogErrors.{passed_log_cause}
use Rattle.shore_restart.proofs.Coming.{came_here, came_moved}
use Rattle.shore_restart.proofs.Frames.{same_on, seen_same}
use Rattle.shore_restart.proofs.PageErrors.{err_with, passed_cause}
use Rattle.shore_restart.proofs.RedoAll.{same_again}
use Rattle.shore_restart.proofs.Standing.{left_by}
use Rattle.shore_restart.proofs.TurnsFit.{no_turns}
use Rattle.shore_restart.proofs.Undoing.{come_stop, force_last, gone_long, gone_then, on_ok, stream_same, undone_and}
use Rattle.shore_restart.proofs.HeldPages.{held_behind, held_beside, held_err, held_here, held_then, held_wider}
use Rattle.shore_types.specs.declared.layout.Geometry.{Geometry}
use Rattle.shore_restart.specs.AnyPages.{AllFindRoom, FindsNoRoomToUndo, IsUndoneOnPage, MayBeUndoneOnPage}
use Rattle.shore_restart.specs.Held.{IsHeld, StaysHeld, WorksHeld}
use Rattle.shore_restart.proofs.QuietLogs.{quiet_err, quiet_of, quiet_then}
use Rattle.shore_restart.proofs.turns.Undo.undo_all.Goals as goal

pub loop-init : goal.loop-init
loop-init g c = record {
  undo = c.requires;
  so_far = ([], refl);
  come = λ log_front front anchor disk s ready.
      ((s, came_here log_front front anchor c.args.log.now c.args.heap.now s disk ready), sym (gone_none s.log (log_seen c.args.log.now)), ([], refl));
  quiet = λ log_front quiet. (quiet, omega arith);
  any_pages = λ front first disk due long held.
      let heap = c.args.heap.now in
      subst (λ (done : List LogRecord). StaysHeld front first disk heap heap (length due) done (length (log_seen c.args.log.now))) (sym (gone_none due (log_seen c.args.log.now)))
      (subst (λ (last : ℕ). StaysHeld front first disk heap heap (length due) due last) long (held_here front first disk heap due (length due) (length due) (omega arith) held));
  fits = λ log_front front anchor disk s ready. subst (TurnsFit (geometry_of c.args.heap.now).version s.log) (sym (gone_none s.log (log_seen c.args.log.now))) (no_turns (geometry_of c.args.heap.now).version s.log);
  any_fit = λ front first disk due long held all. subst (AllFindRoom (geometry_of c.args.heap.now) first) (sym (gone_none due (log_seen c.args.log.now))) all;
  volume = record { geometry = refl; honest = refl; size = refl; frames = refl };
  log = record { tail = refl; anchors = refl; honest = refl; size = refl };
  volume_faults = refl;
  log_faults = refl;
  unstaged = λ none. none;
}

pub loop-preserved : goal.loop-preserved
loop-preserved g c =
    let invariant = c.loop.invariant in
    let taken = c.in_ok-turn.ensures.turn c.if-branch.true in
    let first = log_seen c.args.log.now in
    let now = log_seen c.loop.log in
    let later = log_seen c.turn.new.log in
    let grown = undone_grows first invariant.so_far.0 now (in_order_undone first invariant.so_far.0 now invariant.so_far.1) in
    let on : (mine : List LogRecord) → gone_on (gone_on mine first now) now later ≡ gone_on mine first later = λ mine. gone_then mine first now later grown.0 (undo_record now taken.loser ∷ []) grown.1 taken.logged in
    record {
      undo = c.in_ok-turn.ensures.undo;
      so_far = undone_and first now later taken.loser invariant.so_far taken.is_one taken.next taken.logged;
      come = λ log_front front anchor disk s ready.
          let at = invariant.come log_front front anchor disk s ready in
          let come = at.0 in
          let rest = come.1.ready.at_rest in
          let moved = c.in_ok-turn.ensures.moves log_front front anchor come.1.disk come.0 come.1.ready in
          let came = came_moved log_front front anchor c.args.log.now c.args.heap.now s c.loop.log c.turn.new.log c.loop.heap c.turn.new.heap come.0 come.1 c.in_ok-turn.field-0 _ moved c.turn.ensures.volume.geometry in (
            (moved.later, came),
            moved.done.0 ∙ ap (λ (l : List LogRecord). gone_on l now later) at.1 ∙ on s.log,
            whole_taken (cut_of_log c.loop.log) (records_of_log c.loop.log) come.0.log rest.ended rest.records later _ _ taken s.log moved.later.log at.2 moved.done.0,
          );
      quiet = λ log_front quiet.
          let held = invariant.quiet log_front quiet in
          let then = quiet_of log_front c.loop.log c.turn.new.log c.in_ok-turn.field-0 (c.in_ok-turn.ensures.log_device log_front held.0) in
          let more = held.1 in
          let longer = then.1 in
          (then.0, omega (arith, more, longer));
      any_pages = λ front texts disk due long held.
          let s = invariant.any_pages front texts disk due long held in
          let mid = gone_on due first now in
          let many = gone_long due first now grown.0 grown.1 long in
          subst (λ (done : List LogRecord). StaysHeld front texts disk c.args.heap.now c.turn.new.heap (length due) done (length later)) (on due)
          (held_then front texts disk c.args.heap.now c.loop.heap (length due) mid (length now) s c.turn.new.heap (gone_on mid now later) (length later) invariant.volume.geometry
          (subst (λ (k : ℕ). WorksHeld (Ok c.in_ok-turn.field-0) (IsUndoneOnPage now) front texts s.left c.loop.heap c.turn.new.heap k (gone_on mid now later) (length later)) many
          (c.in_ok-turn.ensures.any_pages front texts s.left mid many (subst (IsHeld front texts s.left c.loop.heap mid) (sym many) s.held))).stays);
      fits = λ log_front front anchor disk s ready.
          let at = invariant.come log_front front anchor disk s ready in
          let come = at.0 in
          subst (TurnsFit (geometry_of c.args.heap.now).version s.log) (ap (λ (l : List LogRecord). gone_on l now later) at.1 ∙ on s.log)
          (subst (λ (g : Geometry). TurnsFit g.version s.log (gone_on come.0.log now later)) invariant.volume.geometry
          (c.in_ok-turn.ensures.fits log_front front anchor come.1.disk come.0 s.log come.1.ready
          (subst (λ (g : Geometry). TurnsFit g.version s.log come.0.log) (sym invariant.volume.geometry)
          (subst (TurnsFit (geometry_of c.args.heap.now).version s.log) (sym at.1) (invariant.fits log_front front anchor disk s ready)))));
      any_fit = λ front texts disk due long held all.
          let s = invariant.any_pages front texts disk due long held in
          let mid = gone_on due first now in
          let many = gone_long due first now grown.0 grown.1 long in
          let so_far = subst (λ (g : Geometry). AllFindRoom g texts mid) (sym invariant.volume.geometry) (invariant.any_fit front texts disk due long held all) in
          subst (AllFindRoom (geometry_of c.args.heap.now) texts) (on due) (subst (λ (g : Geometry). AllFindRoom g texts (gone_on mid now later)) invariant.volume.geometry
          (c.in_ok-turn.ensures.any_fit front texts s.left mid many (subst (IsHeld front texts s.left c.loop.heap mid) (sym many) s.held) so_far));
      volume = same_again c.args.heap.now c.loop.heap c.turn.new.heap invariant.volume c.turn.ensures.volume;
      log = same_on c.args.log.now c.loop.log c.turn.new.log invariant.log c.turn.ensures.log;
      volume_faults = c.in_ok-turn.ensures.volume_cause.unreported (λ e. cc) ∙ invariant.volume_faults;
      log_faults = c.in_ok-turn.ensures.log_cause.unreported (λ e. cc) ∙ invariant.log_faults;
      unstaged = λ none. c.in_ok-turn.ensures.unstaged (invariant.unstaged none);
    }

pub loop-smaller : goal.loop-smaller
loop-smaller g c = (c.in_ok-turn.ensures.turn c.if-branch.true).fewer

pub force-requires : goal.force-requires
force-requires g c = record { room = c.in_ok-turn.ensures.undo.room.leaves }

-- ---- a turn was refused

pub returns-in_err-turn-clause-moves : goal.returns-in_err-turn-clause-moves
returns-in_err-turn-clause-moves g c log_front front anchor disk s ready =
    let e = c.in_err-turn.field-0.0 in
    let come = (c.loop.invariant.come log_front front anchor disk s ready).0 in
    come_stop log_front front anchor c.args.log.now c.args.heap.now s e c.from_residual.result c.loop.log c.turn.new.log c.loop.heap c.turn.new.heap _ _ come (err_with c.from_residual.result e c.from_residual.ensures.1)
    (c.in_err-turn.ensures.moves log_front front anchor come.1.disk come.0 come.1.ready)

pub returns-in_err-turn-clause-no_room : goal.returns-in_err-turn-clause-no_room
returns-in_err-turn-clause-no_room g c =
    let invariant = c.loop.invariant in
    let cut = cut_of_log c.args.log.now in
    let same : cut_of_log c.loop.log ≡ cut = ap (λ t. t.first - 1) invariant.log.tail in
    if_err c.from_residual.result c.from_residual.ensures.1 (λ error other is. (
      records_of_log c.loop.log,
      subst (λ (n : ℕ). IsUndoneSoFar (log_seen c.args.log.now) (padded n (records_of_log c.loop.log))) same invariant.so_far,
      subst (λ (n : ℕ). HasNoTurnRoom n (records_of_log c.loop.log) (stream_bytes_of c.args.log.now)) same
          (subst (λ (n : ℕ). HasNoTurnRoom (cut_of_log c.loop.log) (records_of_log c.loop.log) n) (stream_same c.args.log.now c.loop.log invariant.log) (c.in_err-turn.ensures.no_room (sym other ∙ is))),
    ))

pub returns-in_err-turn-clause-bad : goal.returns-in_err-turn-clause-bad
returns-in_err-turn-clause-bad g c log_front front anchor disk s ready =
    let at = c.loop.invariant.come log_front front anchor disk s ready in
    let come = at.0 in
    if_err c.from_residual.result c.from_residual.ensures.1 (λ error same n is. (
      come.0.log,
      at.2,
      subst (TurnsFit (geometry_of c.args.heap.now).version s.log) (sym at.1) (c.loop.invariant.fits log_front front anchor disk s ready),
      subst (λ (g : Geometry). CannotUndo g.version come.0.log n) c.loop.invariant.volume.geometry
          (c.in_err-turn.ensures.bad log_front front anchor come.1.disk come.0 come.1.ready n (sym same ∙ is)),
    ))

pub returns-in_err-turn-clause-device : goal.returns-in_err-turn-clause-device
returns-in_err-turn-clause-device g c log_front front anchor disk s ready =
    let come = (c.loop.invariant.come log_front front anchor disk s ready).0 in
    if_err c.from_residual.result c.from_residual.ensures.1 (λ error same f is. c.in_err-turn.ensures.device log_front front anchor come.1.disk come.0 come.1.ready f (sym same ∙ is))

pub returns-in_err-turn-clause-volume : goal.returns-in_err-turn-clause-volume
returns-in_err-turn-clause-volume g c = same_again c.args.heap.now c.loop.heap c.turn.new.heap c.loop.invariant.volume c.turn.ensures.volume

pub returns-in_err-turn-clause-log : goal.returns-in_err-turn-clause-log
returns-in_err-turn-clause-log g c = same_on c.args.log.now c.loop.log c.turn.new.log c.loop.invariant.log c.turn.ensures.log

pub returns-in_err-turn-clause-volume_cause : goal.returns-in_err-turn-clause-volume_cause
returns-in_err-turn-clause-volume_cause g c =
    passed_cause (Unit {0}) Bool c.from_residual.result c.in_err-turn.field-0.0 (faults_of c.args.heap.now) (faults_of c.loop.heap) (faults_of c.turn.new.heap) c.loop.invariant.volume_faults
    c.from_residual.ensures.1 c.in_err-turn.ensures.volume_cause

pub returns-in_err-turn-clause-log_cause : goal.returns-in_err-turn-clause-log_cause
returns-in_err-turn-clause-log_cause g c =
    passed_log_cause (Unit {0}) Bool c.from_residual.result c.in_err-turn.field-0.0 (log_faults c.args.log.now) (log_faults c.loop.log) (log_faults c.turn.new.log) c.loop.invariant.log_faults
    c.from_residual.ensures.1 c.in_err-turn.ensures.log_cause

-- ---- nobody is left

pub returns-clause-undone : goal.returns-clause-undone
returns-clause-undone g c =
    let invariant = c.loop.invariant in
    let first = log_seen c.args.log.now in
    let now = log_seen c.loop.log in
    let last = c.in_ok-turn.ensures.done c.if-branch.false in
    let seen : log_seen c.force.new.log ≡ now = seen_same c.turn.new.log c.force.new.log c.force.ensures.log c.force.ensures.same ∙ seen_same c.loop.log c.turn.new.log c.turn.ensures.log last.0 in
    on_ok c.force.result (subst (IsUndoneSoFar first) (sym seen) invariant.so_far)

pub returns-clause-done : goal.returns-clause-done
returns-clause-done g c =
    let last = c.in_ok-turn.ensures.done c.if-branch.false in
    on_ok c.force.result (subst HasNoLosers (sym (seen_same c.turn.new.log c.force.new.log c.force.ensures.log c.force.ensures.same)) last.1)

pub returns-clause-undo : goal.returns-clause-undo
returns-clause-undo g c =
    let cut : cut_of_log c.force.new.log ≡ cut_of_log c.turn.new.log = ap (λ t. t.first - 1) c.force.ensures.log.tail in
    on_ok c.force.result (subst (λ (n : ℕ). IsUndoOf (geometry_of c.turn.new.heap) n (records_of_log c.force.new.log) (stream_bytes_of c.force.new.log) c.turn.new.self) (sym cut)
    (subst (λ (n : ℕ). IsUndoOf (geometry_of c.turn.new.heap) (cut_of_log c.turn.new.log) (records_of_log c.force.new.log) n c.turn.new.self) (sym (stream_same c.turn.new.log c.force.new.log c.force.ensures.log))
    (subst (λ (log : List LogRecord). IsUndoOf (geometry_of c.turn.new.heap) (cut_of_log c.turn.new.log) log (stream_bytes_of c.turn.new.log) c.turn.new.self) (sym c.force.ensures.same) c.in_ok-turn.ensures.undo)))

pub returns-clause-moves : goal.returns-clause-moves
returns-clause-moves g c log_front front anchor disk s ready =
    let at = c.loop.invariant.come log_front front anchor disk s ready in
    let before = at.0 in
    let last = c.in_ok-turn.ensures.done c.if-branch.false in
    let moved = c.in_ok-turn.ensures.moves log_front front anchor before.1.disk before.0 before.1.ready in
    let now = came_moved log_front front anchor c.args.log.now c.args.heap.now s c.loop.log c.turn.new.log c.loop.heap c.turn.new.heap before.0 before.1 c.in_ok-turn.field-0 _ moved c.turn.ensures.volume.geometry in
    let still : moved.later.log ≡ before.0.log = moved.done.0 ∙ ap (gone_on before.0.log (log_seen c.loop.log)) (seen_same c.loop.log c.turn.new.log c.turn.ensures.log last.0) ∙ gone_none before.0.log (log_seen c.loop.log) in
    force_last log_front front anchor c.args.log.now c.args.heap.now s c.force.result c.turn.new.log c.force.new.log c.turn.new.heap moved.later (subst (IsUndoneSoFar s.log) (sym still) at.2) now
    (c.force.ensures.forces log_front anchor moved.later now.ready.at_rest now.ready.redone (geometry_of c.args.heap.now) front (history_of c.turn.new.heap)
    (left_by front now.disk c.args.heap.now c.turn.new.heap moved.later now.geometry now.ready.stands))

pub returns-clause-no_room : goal.returns-clause-no_room
returns-clause-no_room g c = err_to c.force.result c.force.ensures.refused (λ error is none. elim is [
  | inl memory ↦ let clash = sym memory ∙ none in absurd cc
  | inr (inl device) ↦ let clash = sym device ∙ none in absurd cc
  | inr (inr full) ↦ let clash = sym full ∙ none in absurd cc
])

pub returns-clause-anchor : goal.returns-clause-anchor
returns-clause-anchor g c = err_to c.force.result c.force.ensures.refused (λ error is bad. elim is [
  | inl memory ↦ let clash = sym memory ∙ bad in absurd cc
  | inr (inl device) ↦ let clash = sym device ∙ bad in absurd cc
  | inr (inr full) ↦ let clash = sym full ∙ bad in absurd cc
])

pub returns-clause-bad : goal.returns-clause-bad
returns-clause-bad g c log_front front anchor disk s ready = err_to c.force.result c.force.ensures.refused (λ error is n bad. elim is [
  | inl memory ↦ let clash = sym memory ∙ bad in absurd cc
  | inr (inl device) ↦ let clash = sym device ∙ bad in absurd cc
  | inr (inr full) ↦ let clash = sym full ∙ bad in absurd cc
])

pub returns-clause-fits : goal.returns-clause-fits
returns-clause-fits g c log_front front anchor disk s ready =
    let invariant = c.loop.invariant in
    let first = log_seen c.args.log.now in
    let now = log_seen c.loop.log in
    let last = c.in_ok-turn.ensures.done c.if-branch.false in
    let seen : log_seen c.force.new.log ≡ now = seen_same c.turn.new.log c.force.new.log c.force.ensures.log c.force.ensures.same ∙ seen_same c.loop.log c.turn.new.log c.turn.ensures.log last.0 in
    on_ok c.force.result (subst (λ (l : List LogRecord). TurnsFit (geometry_of c.args.heap.now).version s.log (gone_on s.log first l)) (sym seen) (invariant.fits log_front front anchor disk s ready))

pub returns-clause-device : goal.returns-clause-device
returns-clause-device g c log_front front anchor disk s ready = err_to c.force.result c.force.ensures.refused (λ error is f page. elim is [
  | inl memory ↦ let clash = sym memory ∙ page in absurd cc
  | inr (inl device) ↦ let clash = sym device ∙ page in absurd cc
  | inr (inr full) ↦ let clash = sym full ∙ page in absurd cc
])

pub returns-clause-volume : goal.returns-clause-volume
returns-clause-volume g c = same_again c.args.heap.now c.loop.heap c.turn.new.heap c.loop.invariant.volume c.turn.ensures.volume

pub returns-clause-log : goal.returns-clause-log
returns-clause-log g c =
    same_on c.args.log.now c.turn.new.log c.force.new.log (same_on c.args.log.now c.loop.log c.turn.new.log c.loop.invariant.log c.turn.ensures.log) c.force.ensures.log

pub returns-clause-volume_cause : goal.returns-clause-volume_cause
returns-clause-volume_cause g c =
    no_page_cause (Unit {0}) c.force.result (faults_of c.args.heap.now) (faults_of c.turn.new.heap) (c.in_ok-turn.ensures.volume_cause.unreported (λ e. cc) ∙ c.loop.invariant.volume_faults)
    (err_to c.force.result c.force.ensures.refused (λ error is f page. elim is [
      | inl memory ↦ let clash = sym memory ∙ page in cc
      | inr (inl device) ↦ let clash = sym device ∙ page in cc
      | inr (inr full) ↦ let clash = sym full ∙ page in cc
    ]))

pub returns-clause-log_cause : goal.returns-clause-log_cause
returns-clause-log_cause g c =
    let same = c.in_ok-turn.ensures.log_cause.unreported (λ e. cc) ∙ c.loop.invariant.log_faults in
    subst (λ (n : ℕ). HasCause (log_answer c.force.result) n (log_faults c.force.new.log)) same c.force.ensures.cause

-- ---- whatever the pages hold

pub returns-in_err-turn-clause-any_pages : goal.returns-in_err-turn-clause-any_pages
returns-in_err-turn-clause-any_pages g c front texts disk due long held =
    let invariant = c.loop.invariant in
    let first = log_seen c.args.log.now in
    let now = log_seen c.loop.log in
    let grown = undone_grows first invariant.so_far.0 now (in_order_undone first invariant.so_far.0 now invariant.so_far.1) in
    let later = log_seen c.turn.new.log in
    let mid = gone_on due first now in
    let many = gone_long due first now grown.0 grown.1 long in
    let s = invariant.any_pages front texts disk due long held in
    held_err front texts disk c.args.heap.now c.turn.new.heap (length due) (gone_on mid now later) (length later) (gone_on due first later) (length later) c.from_residual.result c.in_err-turn.field-0.0 c.from_residual.ensures.1
    (held_wider (IsUndoneOnPage now) (MayBeUndoneOnPage first) _ front texts disk c.args.heap.now c.turn.new.heap (length due) (gone_on mid now later) (length later) (λ p on. (now, invariant.so_far, on))
    (held_behind front texts disk c.args.heap.now c.loop.heap (length due) mid (length now) s {A = Bool} (Err c.in_err-turn.field-0.0) c.turn.new.heap (gone_on mid now later) (length later) invariant.volume.geometry
    (subst (λ (k : ℕ). WorksHeld {A = Bool} (Err c.in_err-turn.field-0.0) (IsUndoneOnPage now) front texts s.left c.loop.heap c.turn.new.heap k (gone_on mid now later) (length later)) many
    (c.in_err-turn.ensures.any_pages front texts s.left mid many (subst (IsHeld front texts s.left c.loop.heap mid) (sym many) s.held)))))

pub returns-clause-any_pages : goal.returns-clause-any_pages
returns-clause-any_pages g c front texts disk due long held =
    let invariant = c.loop.invariant in
    let first = log_seen c.args.log.now in
    let now = log_seen c.loop.log in
    let grown = undone_grows first invariant.so_far.0 now (in_order_undone first invariant.so_far.0 now invariant.so_far.1) in
    let last = c.in_ok-turn.ensures.done c.if-branch.false in
    let later = log_seen c.turn.new.log in
    let end = log_seen c.force.new.log in
    let turned : later ≡ now = seen_same c.loop.log c.turn.new.log c.turn.ensures.log last.0 in
    let forced : end ≡ later = seen_same c.turn.new.log c.force.new.log c.force.ensures.log c.force.ensures.same in
    let heap = c.args.heap.now in
    let mid = gone_on due first now in
    let many = gone_long due first now grown.0 grown.1 long in
    let s = invariant.any_pages front texts disk due long held in
    let stays = held_then front texts disk heap c.loop.heap (length due) mid (length now) s c.turn.new.heap (gone_on mid now later) (length later) invariant.volume.geometry
    (subst (λ (k : ℕ). WorksHeld (Ok c.in_ok-turn.field-0) (IsUndoneOnPage now) front texts s.left c.loop.heap c.turn.new.heap k (gone_on mid now later) (length later)) many
    (c.in_ok-turn.ensures.any_pages front texts s.left mid many (subst (IsHeld front texts s.left c.loop.heap mid) (sym many) s.held))).stays in
    let same : gone_on mid now later ≡ gone_on due first later = ap (gone_on mid now) turned ∙ gone_none mid now ∙ ap (gone_on due first) (sym turned) in
    held_beside front texts disk heap c.turn.new.heap (length due) (gone_on due first end) (length end) c.force.result (err_to c.force.result c.force.ensures.refused (λ error is f page. elim is [
      | inl memory ↦ let clash = sym memory ∙ page in cc
      | inr (inl device) ↦ let clash = sym device ∙ page in cc
      | inr (inr full) ↦ let clash = sym full ∙ page in cc
    ])) (subst (λ (l : List LogRecord). StaysHeld front texts disk heap c.turn.new.heap (length due) (gone_on due first l) (length l)) (sym forced)
    (subst (λ (done : List LogRecord). StaysHeld front texts disk heap c.turn.new.heap (length due) done (length later)) same stays))

pub returns-in_err-turn-clause-any_bad : goal.returns-in_err-turn-clause-any_bad
returns-in_err-turn-clause-any_bad g c front texts disk due long held all =
    let invariant = c.loop.invariant in
    let first = log_seen c.args.log.now in
    let now = log_seen c.loop.log in
    let grown = undone_grows first invariant.so_far.0 now (in_order_undone first invariant.so_far.0 now invariant.so_far.1) in
    let many = gone_long due first now grown.0 grown.1 long in
    let mid = gone_on due first now in
    let s = invariant.any_pages front texts disk due long held in
    if_err c.from_residual.result c.from_residual.ensures.1 (λ error same n is. (
      now,
      invariant.so_far,
      invariant.any_fit front texts disk due long held all,
      subst (λ (g : Geometry). FindsNoRoomToUndo g texts now mid n) invariant.volume.geometry
          (c.in_err-turn.ensures.any_bad front texts s.left mid many (subst (IsHeld front texts s.left c.loop.heap mid) (sym many) s.held) n (sym same ∙ is)),
    ))

pub returns-clause-any_fit : goal.returns-clause-any_fit
returns-clause-any_fit g c front texts disk due long held all =
    let invariant = c.loop.invariant in
    let first = log_seen c.args.log.now in
    let now = log_seen c.loop.log in
    let last = c.in_ok-turn.ensures.done c.if-branch.false in
    let seen : log_seen c.force.new.log ≡ now = seen_same c.turn.new.log c.force.new.log c.force.ensures.log c.force.ensures.same ∙ seen_same c.loop.log c.turn.new.log c.turn.ensures.log last.0 in
    on_ok c.force.result (subst (λ (l : List LogRecord). AllFindRoom (geometry_of c.args.heap.now) texts (gone_on due first l)) (sym seen) (invariant.any_fit front texts disk due long held all))

pub returns-clause-any_bad : goal.returns-clause-any_bad
returns-clause-any_bad g c front first disk due long held all = err_to c.force.result c.force.ensures.refused (λ error is n bad. elim is [
  | inl memory ↦ let clash = sym memory ∙ bad in absurd cc
  | inr (inl device) ↦ let clash = sym device ∙ bad in absurd cc
  | inr (inr full) ↦ let clash = sym full ∙ bad in absurd cc
])

pub returns-in_err-turn-clause-log_device : goal.returns-in_err-turn-clause-log_device
returns-in_err-turn-clause-log_device g c log_front quiet =
    let now = c.loop.invariant.quiet log_front quiet in
    quiet_err log_front c.args.log.now c.loop.log c.turn.new.log now.1 c.from_residual.result c.in_err-turn.field-0.0 c.from_residual.ensures.1 (c.in_err-turn.ensures.log_device log_front now.0)

pub returns-clause-log_device : goal.returns-clause-log_device
returns-clause-log_device g c log_front quiet =
    let now = c.loop.invariant.quiet log_front quiet in
    let on = quiet_of log_front c.loop.log c.turn.new.log c.in_ok-turn.field-0 (c.in_ok-turn.ensures.log_device log_front now.0) in
    let more = now.1 in
    let longer = on.1 in
    quiet_then log_front c.args.log.now c.turn.new.log c.force.new.log (omega (arith, more, longer)) c.force.result (c.force.ensures.log_device log_front on.0)

pub returns-in_err-turn-clause-bad_number : goal.returns-in_err-turn-clause-bad_number
returns-in_err-turn-clause-bad_number g c =
    if_err c.from_residual.result c.from_residual.ensures.1 (λ error same n is.
    let bad = c.in_err-turn.ensures.bad_number (log_seen c.args.log.now) c.loop.invariant.so_far n (sym same ∙ is) in
    (subst (λ (cut : ℕ). cut < n) (ap (λ t. t.first - 1) c.loop.invariant.log.tail) bad.0, bad.1))

pub returns-clause-bad_number : goal.returns-clause-bad_number
returns-clause-bad_number g c = err_to c.force.result c.force.ensures.refused (λ error is n bad. elim is [
  | inl memory ↦ let clash = sym memory ∙ bad in absurd cc
  | inr (inl device) ↦ let clash = sym device ∙ bad in absurd cc
  | inr (inr full) ↦ let clash = sym full ∙ bad in absurd cc
])

ok_then : {T E P Q : Type 0} (r : Result T E) → OnOk r P → (P → Q) → OnOk r Q
ok_then (Ok x) is then = then is
ok_then (Err e) is then = tt

pub returns-clause-forced : goal.returns-clause-forced
returns-clause-forced g c =
    ok_then c.force.result c.force.ensures.forced (λ all none. (all (c.in_ok-turn.ensures.unstaged (c.loop.invariant.unstaged none))).1)

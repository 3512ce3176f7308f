-- A restart from what an open has found: through redo and undo to what pages keep for those in doubt, or stopped on the way.
use Rattle.std.proofs.Common.{arith, ◌≡◌, ◌≤◌, ◌+◌, ℕ, List, [], ◌∷◌, ◌++◌, Option, None, Some, Result, Ok, Err, refl, sym, ap, subst, ◌∙◌, length, drop}
use Rattle.std.specs.Prelude.{IfSome}
use Rattle.shore_gate.specs.declared.anchors.Anchor.{Anchor}
use Rattle.shore_disk.specs.Device.{may_leave}
use Rattle.shore_disk.specs.declared.device.Disk.{Ghosts}
use Rattle.shore_model.specs.declared.log_records.LogRecord.{LogRecord}
use Rattle.shore_log.specs.Settled.{cut_of_log, records_of_log}
use Rattle.shore_log.specs.declared.device.LogDev.{LogDev}
use Rattle.shore_heap.specs.declared.heap.Heap.{Heap}
use Rattle.shore_heap.specs.Heaps.{geometry_of}
use Rattle.laws_lives.specs.DirtyPages.{redo_begins_behind}
use Rattle.laws_lives.specs.Pages.{LoggedPages}
use Rattle.laws_lives.specs.Recovery.{RecoveryState}
use Rattle.laws_checkpoints.specs.Checkpoints.{Checkpoint, TableIsRight, end_among, redo_behind}
use Rattle.shore_analysis.specs.KeptTables.{redo_table}
use Rattle.shore_analysis.specs.declared.kept_tables.RedoTable.{RedoTable}
use Rattle.shore_restart.specs.declared.errors.RestartError.{RestartError}
use Rattle.laws_images.specs.MomentsBehind.{GivesKeptPrefix, PathBehind}
use Rattle.shore_sessions.specs.Controls.{txns_in}
use Rattle.shore_txn.specs.Transactions.{kept_in}
use Rattle.shore_txn.specs.declared.transactions.Transactions.{Transactions}
use Rattle.shore_restart.specs.declared.passes.Passed.{Passed}
use Rattle.shore_restart.specs.GivenBack.{IsRestarted, Keeps, PassesMove, StandsWith}
use Rattle.shore_restart.specs.Standing.{IsFound, IsToRedo, RestartMoves, RedoesAll, log_history, moment_of}
use Rattle.shore_restart.specs.Turns.{IsUndoneSoFar}
use Rattle.shore_restart.proofs.Coming.{came_moved, rest_same, worked_on}
use Rattle.shore_restart.proofs.Frames.{last_is, rest_left}
use Rattle.shore_restart.proofs.Noting.{notes_on}
use Rattle.shore_restart.proofs.Standing.{stands_left}
use Rattle.shore_restart.proofs.Undoing.{HasCome}

-- redo begins where the table says
begins_there : (o : Option Checkpoint) → redo_behind o ≡ redo_begins_behind (redo_table o).begin (redo_table o).dirty
begins_there None = refl
begins_there (Some c) = refl

right_there : (log : List LogRecord) (pages : LoggedPages) (o : Option Checkpoint) → IfSome o (λ c. TableIsRight log c.begin c.dirty pages) → TableIsRight log (redo_table o).begin (redo_table o).dirty pages
right_there log pages None right = λ p k r e lt at is same. absurd (omega (arith, lt))
right_there log pages (Some c) right = right

module _ {L V : Type 0} {G : Ghosts L} {H : Ghosts V} (log_front front : List ℕ) (anchor : Anchor) (disk : ℕ → List ℕ) (log : LogDev L G) (heap : Heap V H) (s : RecoveryState) (found : IsFound log_front front anchor disk log heap s) where
  -- what a crash leaves of the log device, which redo does not call
  pub found_covered : (c : List ℕ) → may_leave (log_history log) c → GivesKeptPrefix log_front anchor s c
  found_covered = rest_left log_front anchor log s found.at_rest

  -- what redo has to do
  pub found_to_redo : (cut checkpoint : ℕ) (kept : List LogRecord) (table : RedoTable) → checkpoint ≡ anchor.checkpoint → cut ≡ cut_of_log log → kept ≡ records_of_log log → table ≡ redo_table (end_among checkpoint kept)
      → IsToRedo cut kept table s
  found_to_redo cut checkpoint kept table of_anchor cut_is kept_is table_is =
      let end : end_among anchor.checkpoint s.log ≡ end_among checkpoint kept = found.found ∙ ap (end_among anchor.checkpoint) (sym kept_is) ∙ ap (λ n. end_among n kept) (sym of_anchor) in
      let same : redo_table (end_among anchor.checkpoint s.log) ≡ table = ap redo_table end ∙ sym table_is in
      let within = found.at_rest.ended.cuts.0 in
      let behind = found.kept in
      record {
        kept_are = ap (λ n. drop n s.log) cut_is ∙ found.at_rest.records ∙ sym kept_is;
        within = omega (arith, within, cut_is);
        durable = found.durable;
        redone = found.redone ∙ begins_there (end_among anchor.checkpoint s.log) ∙ ap (λ (t : RedoTable). redo_begins_behind t.begin t.dirty) same;
        behind = omega (arith, behind, cut_is);
        right = subst (λ (t : RedoTable). TableIsRight s.log t.begin t.dirty s.in_place) same (right_there s.log s.in_place (end_among anchor.checkpoint s.log) found.right);
        inside = found.inside;
      }

  -- refused before a device was called
  pub nothing_moved : {A : Type 0} (r : Result A RestartError) (e : RestartError) (Done : RecoveryState → Type 0) → r ≡ Err e → RestartMoves r log_front front anchor log log heap heap s Done
  nothing_moved {A = A} r e Done is =
      subst (λ (r : Result A RestartError). RestartMoves r log_front front anchor log log heap heap s Done) (sym is)
      (record { later = s; moments = []; path = (refl, record { log = found_covered; volume = stands_left front disk heap s found.stands }); done = tt; notes = tt })

  module _ (new : Heap V H) where
    -- refused in redo
    pub redo_stopped : {A B : Type 0} (r : Result B RestartError) (e : RestartError) (Done : RecoveryState → Type 0) → r ≡ Err e → RedoesAll {A = A} (Err e) (log_history log) log_front front anchor heap new s
        → RestartMoves r log_front front anchor log log heap new s Done
    redo_stopped {B = B} r e Done is redoes =
        subst (λ (r : Result B RestartError). RestartMoves r log_front front anchor log log heap new s Done) (sym is)
        (record { later = redoes.later; moments = redoes.moments; path = redoes.path; done = tt; notes = tt })

    -- all records are redone, and undo may begin: with the same log
    pub come_redone : {A : Type 0} (x : A) → RedoesAll (Ok x) (log_history log) log_front front anchor heap new s → geometry_of new ≡ geometry_of heap
        → (come : HasCome log_front front anchor log heap s log new) × (come.0.log ≡ s.log)
    come_redone x redoes geometry = (
      (
        redoes.later,
        record {
          moments = redoes.moments;
          path = redoes.path;
          geometry = geometry;
          disk = redoes.done.1;
          ready = record {
            at_rest = rest_same log_front anchor log s redoes.later redoes.log_is redoes.durable found.at_rest;
            stands = redoes.done.2;
            redone = redoes.done.0 ∙ ap length (sym redoes.log_is);
          };
          notes = redoes.notes;
        },
      ),
      redoes.log_is,
    )

module _ {L V : Type 0} {G : Ghosts L} {H : Ghosts V} (log_front front : List ℕ) (anchor : Anchor) (first_log : LogDev L G) (first : Heap V H) (s : RecoveryState) where
  -- the passes were refused there
  pub passes_stop : (r : Result Passed RestartError) (e : RestartError) (log : LogDev L G) (heap : Heap V H) (Done : RecoveryState → Type 0) → r ≡ Err e → RestartMoves r log_front front anchor first_log log first heap s Done
      → PassesMove r log_front front anchor first_log log first heap s
  passes_stop (Ok passed) e log heap Done is m = let clash = is in absurd cc
  passes_stop (Err error) e log heap Done is m = record { later = m.later; moments = m.moments; path = m.path; notes = tt; undone = tt; done = tt }

  -- all losers are undone, and the records of it are forced
  abbrev pub HasUndone : LogDev L G → Heap V H → Type 0
  HasUndone log heap = (come : HasCome log_front front anchor first_log first s log heap) × (come.0.durable ≡ length come.0.log) × IsUndoneSoFar s.log come.0.log

  pub come_undone : {A : Type 0} (x : A) (log new_log : LogDev L G) (heap new : Heap V H) → (come : HasCome log_front front anchor first_log first s log heap) → come.0.log ≡ s.log
      → RestartMoves (Ok x) log_front front anchor log new_log heap new come.0 (λ later. (later.durable ≡ length later.log) × IsUndoneSoFar come.0.log later.log) → geometry_of new ≡ geometry_of heap → HasUndone new_log new
  come_undone x log new_log heap new come same m geometry = (
    (m.later, came_moved log_front front anchor first_log first s log new_log heap new come.0 come.1 x (λ later. (later.durable ≡ length later.log) × IsUndoneSoFar come.0.log later.log) m geometry),
    m.done.0.0,
    subst (λ (l : List LogRecord). IsUndoneSoFar l m.later.log) same m.done.0.1,
  )

  -- .. so all of the log is durable
  pub all_durable : (log : LogDev L G) (heap : Heap V H) (undone : HasUndone log heap) (last : ℕ) → last ≡ cut_of_log log + length (records_of_log log) → (length undone.0.0.log ≤ last) × (last ≤ undone.0.0.durable)
  all_durable log heap undone last same =
      let records = last_is log_front anchor log undone.0.0 undone.0.1.ready.at_rest in
      let all = undone.1 in
      (omega (arith, records, same), omega (arith, records, same, all))

  -- .. and then pages keep what those in doubt may put back
  module _ (log : LogDev L G) (heap new : Heap V H) (undone : HasUndone log heap) (txns : Transactions) where
    abbrev IsKept : Result (Unit {0}) RestartError → Type 0
    IsKept r = Keeps r front heap new undone.0.0 (λ left later. StandsWith (kept_in txns) front left new later)

    path_kept : (r : Result (Unit {0}) RestartError) → (k : IsKept r)
        → PathBehind (geometry_of first) log_front front anchor (moment_of (log_history first_log) first s) (undone.0.1.moments ++ moment_of (log_history log) new k.later ∷ []) (moment_of (log_history log) new k.later)
    path_kept r k = worked_on log_front front anchor first_log first s log heap new undone.0.0 k.later undone.0.1 k.work k.same.log k.same.durable

    pub keep_stops : (r : Result Passed RestartError) (e other : RestartError) → r ≡ Err other → IsKept (Err e) → PassesMove r log_front front anchor first_log log first new s
    keep_stops (Ok passed) e other is k = let clash = is in absurd cc
    keep_stops (Err error) e other is k = record { later = k.later; moments = undone.0.1.moments ++ moment_of (log_history log) new k.later ∷ []; path = path_kept (Err e) k; notes = tt; undone = tt; done = tt }

    pub keep_done : (u : Unit {0}) (passed : Passed) → txns_in passed.control ≡ txns → IsKept (Ok u) → PassesMove (Ok passed) log_front front anchor first_log log first new s
    keep_done u passed same k = record {
      later = k.later;
      moments = undone.0.1.moments ++ moment_of (log_history log) new k.later ∷ [];
      path = path_kept (Ok u) k;
      notes = notes_on first heap new s undone.0.0 k.later undone.0.1.notes k.notes;
      undone = subst (IsUndoneSoFar s.log) (sym k.same.log) undone.2;
      done = (
        k.stands.0,
        subst (λ (t : Transactions). IsRestarted (kept_in t) log_front front anchor k.stands.0 log new k.later) (sym same) (record {
          at_rest = rest_same log_front anchor log undone.0.0 k.later k.same.log k.same.durable undone.0.1.ready.at_rest;
          stands = k.stands.1;
          redone = k.same.redone ∙ undone.0.1.ready.redone ∙ ap length (sym k.same.log);
          durable = k.same.durable ∙ undone.1 ∙ ap length (sym k.same.log);
        }),
      );
    }

-- Redo of all records, one after another.
use Rattle.std.proofs.Common.{◌≡◌, ◌+◌, ℕ, List, [], ◌∷◌, ◌++◌, Bool, Some, Ok, Err, refl, sym, ap, subst, ◌∙◌, length, drop}
use Rattle.shore_gate.specs.declared.anchors.Anchor.{Anchor}
use Rattle.std.specs.Prelude.{if◌then◌else◌, slice_get}
use Rattle.shore_types.specs.declared.layout.Geometry.{Geometry}
use Rattle.shore_disk.specs.Device.{DeviceHistory, LeavesOnly, may_leave}
use Rattle.shore_disk.specs.declared.device.Disk.{Ghosts}
use Rattle.shore_model.specs.declared.log_records.LogRecord.{LogRecord}
use Rattle.shore_heap.specs.declared.heap.Heap.{Heap}
use Rattle.shore_heap.specs.Heaps.{geometry_of, history_of}
use Rattle.shore_model.specs.Logs.{image_in}
use Rattle.laws_lives.specs.Pages.{redone_on_all}
use Rattle.laws_checkpoints.specs.Checkpoints.{TableIsRight}
use Rattle.laws_checkpoints.proofs.PageTables.{right_redone}
use Rattle.shore_analysis.specs.declared.kept_tables.RedoTable.{RedoTable}
use Rattle.laws_lives.specs.Recovery.{RecoveryState}
use Rattle.shore_restart.specs.declared.errors.RestartError.{RestartError}
use Rattle.laws_images.specs.Moments.{Moment, ShowsLeft}
use Rattle.laws_images.specs.MomentsBehind.{GivesKeptPrefix, PathBehind}
use Rattle.shore_restart.specs.Missing.{is_missing, missing_behind, missing_on}
use Rattle.shore_restart.specs.Standing.{Notes, Redoes, RedoesAll, SameVolume, Stands, Worked, moment_of}
use Rattle.shore_restart.proofs.Missing.{count_next}
use Rattle.shore_restart.proofs.Noting.{notes_none, notes_on}
use Rattle.shore_restart.proofs.Paths.{path_and, path_covered, prefix_same, step_volume}
use Rattle.shore_restart.proofs.Standing.{stands_left}

module _ {V : Type 0} {H : Ghosts V} where
  -- so many records are redone
  pub record SoFar (table : RedoTable) (log : DeviceHistory) (log_front front : List ℕ) (anchor : Anchor) (first heap : Heap V H) (s : RecoveryState) (n : ℕ) : Type 0 where
    pub later : RecoveryState
    pub moments : List Moment
    pub path : PathBehind (geometry_of first) log_front front anchor (moment_of log first s) moments (moment_of log heap later)
    pub log_is : later.log ≡ s.log
    pub durable : later.durable ≡ s.durable
    pub redone : later.redone ≡ n
    pub left : ℕ → List ℕ
    pub stands : Stands front left heap later
    pub right : TableIsRight s.log table.begin table.dirty later.in_place
    pub notes : Notes first heap s later

  pub none_so_far : (table : RedoTable) (log : DeviceHistory) (log_front front : List ℕ) (anchor : Anchor) (disk : ℕ → List ℕ) (heap : Heap V H) (s : RecoveryState) (n : ℕ) → Stands front disk heap s → s.redone ≡ n
      → ((c : List ℕ) → may_leave log c → GivesKeptPrefix log_front anchor s c) → TableIsRight s.log table.begin table.dirty s.in_place → SoFar table log log_front front anchor heap heap s n
  none_so_far table log log_front front anchor disk heap s n stands none covered right = record {
    later = s;
    moments = [];
    path = (refl, record { log = covered; volume = stands_left front disk heap s stands });
    log_is = refl;
    durable = refl;
    redone = none;
    left = disk;
    stands = stands;
    right = right;
    notes = notes_none heap s;
  }

  module _ (table : RedoTable) (log : DeviceHistory) (log_front front : List ℕ) (anchor : Anchor) (first heap new : Heap V H) (s : RecoveryState) (n : ℕ) (so_far : SoFar table log log_front front anchor first heap s n) (same : geometry_of heap ≡ geometry_of first) where
    covered : (c : List ℕ) → may_leave log c → GivesKeptPrefix log_front anchor so_far.later c
    covered = (path_covered (geometry_of first) log_front front anchor (moment_of log first s) so_far.moments (moment_of log heap so_far.later) so_far.path).log

    path_next : (later : RecoveryState) → Worked front heap new so_far.later later → later.log ≡ so_far.later.log → later.durable ≡ so_far.later.durable
        → PathBehind (geometry_of first) log_front front anchor (moment_of log first s) (so_far.moments ++ moment_of log new later ∷ []) (moment_of log new later)
    path_next later work log_is durable =
        let volume = subst (λ (g : Geometry). LeavesOnly (history_of heap) (history_of new) (ShowsLeft g front so_far.later)) same work.volume in
        let end = subst (λ (g : Geometry). (c : List ℕ) → may_leave (history_of new) c → ShowsLeft g front later c) same work.left in
        path_and (geometry_of first) log_front front anchor (moment_of log first s) so_far.moments (moment_of log heap so_far.later) (moment_of log new later) so_far.path
        (step_volume (geometry_of first) log_front front anchor log (history_of heap) (history_of new) so_far.later later work.works work.loses_none covered work.work volume)
        (record { log = λ c left. prefix_same log_front anchor so_far.later later c log_is durable (covered c left); volume = end })

    pub one_more : (b : Bool) → Redoes (Ok b) front heap new so_far.later → (x : LogRecord) → slice_get so_far.later.log so_far.later.redone ≡ Some x → SoFar table log log_front front anchor first new s (n + 1)
    one_more b r x next = record {
      later = r.later;
      moments = so_far.moments ++ moment_of log new r.later ∷ [];
      path = path_next r.later r.work r.log r.durable;
      log_is = r.log ∙ so_far.log_is;
      durable = r.durable ∙ so_far.durable;
      redone = r.done.0 ∙ ap (λ (k : ℕ). k + 1) so_far.redone;
      left = r.done.1;
      stands = r.done.2;
      right = subst (TableIsRight s.log table.begin table.dirty) (sym (r.pages x next)) (right_redone s.log table.begin table.dirty so_far.later.in_place so_far.right (so_far.later.redone + 1) x);
      notes = notes_on first heap new s so_far.later r.later so_far.notes r.notes;
    }

    pub stopped : (A : Type 0) (error other : RestartError) → Redoes {A = Bool} (Err error) front heap new so_far.later → RedoesAll {A = A} (Err other) log log_front front anchor first new s
    stopped A error other r = record {
      later = r.later;
      moments = so_far.moments ++ moment_of log new r.later ∷ [];
      path = path_next r.later r.work r.log r.durable;
      log_is = r.log ∙ so_far.log_is;
      durable = r.durable ∙ so_far.durable;
      done = tt;
      notes = tt;
    }

  pub all_done : (A : Type 0) (x : A) (table : RedoTable) (log : DeviceHistory) (log_front front : List ℕ) (anchor : Anchor) (first heap : Heap V H) (s : RecoveryState) (n : ℕ) → SoFar table log log_front front anchor first heap s n → n ≡ length s.log
      → RedoesAll (Ok x) log log_front front anchor first heap s
  all_done A x table log log_front front anchor first heap s n so_far all = record {
    later = so_far.later;
    moments = so_far.moments;
    path = so_far.path;
    log_is = so_far.log_is;
    durable = so_far.durable;
    done = (so_far.redone ∙ all, so_far.left, so_far.stands);
    notes = so_far.notes;
  }

  -- .. without the way there
  pub record Now (table : RedoTable) (front : List ℕ) (heap : Heap V H) (s : RecoveryState) (n count : ℕ) : Type 0 where
    pub later : RecoveryState
    pub log_is : later.log ≡ s.log
    pub durable : later.durable ≡ s.durable
    pub redone : later.redone ≡ n
    pub left : ℕ → List ℕ
    pub stands : Stands front left heap later
    pub right : TableIsRight s.log table.begin table.dirty later.in_place
    pub counted : count + missing_behind n (drop n s.log) later.in_place ≡ missing_on s.log s.in_place

  pub now_next : (table : RedoTable) (front : List ℕ) (heap new : Heap V H) (s : RecoveryState) (n count : ℕ) (b : Bool) → (now : Now table front heap s n count) → (x : LogRecord) → slice_get s.log n ≡ Some x
      → b ≡ is_missing now.later.in_place (n + 1) (image_in x.payload) → Redoes (Ok b) front heap new now.later → Now table front new s (n + 1) ((if b then 1 else 0) + count)
  now_next table front heap new s n count b now x at did r =
      let next : slice_get now.later.log now.later.redone ≡ Some x = ap (slice_get now.later.log) now.redone ∙ ap (λ (l : List LogRecord). slice_get l n) now.log_is ∙ at in
      record {
        later = r.later;
        log_is = r.log ∙ now.log_is;
        durable = r.durable ∙ now.durable;
        redone = r.done.0 ∙ ap (λ (k : ℕ). k + 1) now.redone;
        left = r.done.1;
        stands = r.done.2;
        right = subst (TableIsRight s.log table.begin table.dirty) (sym (r.pages x next)) (right_redone s.log table.begin table.dirty now.later.in_place now.right (now.later.redone + 1) x);
        counted =
            count_next s.log n count b x now.later.in_place r.later.in_place (missing_on s.log s.in_place) at did
            (r.pages x next ∙ ap (λ (k : ℕ). redone_on_all (k + 1) x now.later.in_place) now.redone) now.counted;
      }

  pub same_again : (a b c : Heap V H) → SameVolume a b → SameVolume b c → SameVolume a c
  same_again a b c one two = record { geometry = two.geometry ∙ one.geometry; honest = two.honest ∙ one.honest; size = two.size ∙ one.size; frames = two.frames ∙ one.frames }

  module _ (table : RedoTable) (front : List ℕ) (heap : Heap V H) (s : RecoveryState) (n count : ℕ) (r : LogRecord) (now : Now table front heap s n count) (whole : s.durable ≡ length s.log) (at : slice_get s.log n ≡ Some r) where
    pub next_is : slice_get now.later.log now.later.redone ≡ Some r
    next_is = ap (slice_get now.later.log) now.redone ∙ ap (λ (l : List LogRecord). slice_get l n) now.log_is ∙ at

    pub long : length s.log ≡ length now.later.log
    long = ap length (sym now.log_is)

    pub all_durable : now.later.durable ≡ length now.later.log
    all_durable = now.durable ∙ whole ∙ ap length (sym now.log_is)

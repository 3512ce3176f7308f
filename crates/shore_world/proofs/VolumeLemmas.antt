-- What a world comes to that was at a state and a store, by what was done to its volume.
use Rattle.std.proofs.Common.{◌≡◌, ◌⊎◌, inl, inr, ℕ, ◌≤◌, List, [], ◌∷◌, Bool, true, false, IsTrue, length, refl, sym, ◌∙◌, ap, subst, arith}
use Rattle.shore_types.specs.declared.layout.Geometry.{Geometry}
use Rattle.shore_disk.specs.Device.{DeviceHistory, LeavesOnly, may_leave}
use Rattle.shore_disk.specs.declared.device.Disk.{Ghosts}
use Rattle.shore_disk.proofs.Moments.{at_end, started, widened}
use Rattle.shore_heap.specs.Heaps as heaps
use Rattle.shore_heap.specs.Heaps.{LeavesPages}
use Rattle.shore_model.specs.declared.log_records.LogRecord.{LogRecord}
use Rattle.laws_calls.specs.States.{State}
use Rattle.laws_lives.specs.Pages.{LoggedPages}
use Rattle.laws_lives.specs.Recovery.{CrashMayLeave, ForceLog, RecoveryEvent, RecoveryState, after_force}
use Rattle.laws_checkpoints.specs.CheckpointedStores.{CheckpointedStore}
use Rattle.laws_heaps.specs.LoggedHeaps.{LeavesStore}
use Rattle.laws_heaps.proofs.Flushes.{left_amid}
use Rattle.laws_heaps.proofs.LoggedLeft.{left_settled}
use Rattle.shore_core.specs.Cores as cores
use Rattle.shore_core.specs.Cores.{FailsOver, IsKept, durable_of, heap_of}
use Rattle.shore_core.specs.Flushing.{AreFlushes}
use Rattle.shore_core.specs.Replies.{MayLeave}
use Rattle.shore_core.specs.Stores.{WorksOn, force_to}
use Rattle.shore_core.proofs.Works.{works_leave}
use Rattle.shore_check.specs.Stages as stages
use Rattle.shore_check.specs.declared.stage.Stage.{Stage}
use Rattle.shore_gate.specs.declared.anchors.Anchors.{Anchors}
use Rattle.laws_images.specs.Moments.{ShowsLeft}
use Rattle.laws_images.specs.StandsBehind.{anchored_by}
use Rattle.shore_world.specs.declared.world.World.{World}
use Rattle.shore_world.specs.Worlds.{WorldComesTo, IsAt, IsInState, IsLeftOfLog, IsOverStore, LeavesAtAnyMoment, SurvivesCrashes, anchors_in, before_in, failed_in, geometry_in, history_in, volume_history_in}

pub runs_or_failed : (b : Bool) → (b ≡ false) ⊎ (b ≡ true)
runs_or_failed false = inl refl
runs_or_failed true = inr refl

pub never_both : {P : Type 0} (b : Bool) → b ≡ true → b ≡ false → P
never_both b fails runs = let clash : true ≡ false = sym fails ∙ runs in absurd cc

-- what power may be lost with stays so behind a force
pub left_after_force : (store : RecoveryState) (n : ℕ) → store.durable ≤ n → (left : LoggedPages) → CrashMayLeave store left → CrashMayLeave (after_force store n) left
left_after_force store n more left may = λ p. elim (may p) [
  | inl volume ↦ inl volume
  | inr placed ↦ inr (placed.0, omega (arith, placed.1, more))
]

-- such pages are shown for a store with the same log that power may be lost with so
pub shows_left : (g : Geometry) (front : List ℕ) (store after : RecoveryState) → after.log ≡ store.log → ((left : LoggedPages) → CrashMayLeave store left → CrashMayLeave after left)
    → (c : List ℕ) → ShowsLeft g front store c → ShowsLeft g front after c
shows_left g front store after log covers c shows =
    (shows.0, covers shows.0 shows.1, subst (λ (l : List LogRecord). LeavesStore l g front shows.0 c) (sym log) shows.2)

module _ {L V : Type 0} {G : Ghosts L} {H : Ghosts V} where
  -- as much is durable in the store as the core was told
  pub durable_told : (w : World L V G H) (front : List ℕ) (disk : ℕ → List ℕ) (s : State) (store : CheckpointedStore) → IsInState w front disk s → IsOverStore w disk s store
      → durable_of w.core ≡ store.store.durable
  durable_told w front disk s store is over = sym (over.kept.stored.durable ∙ is.beside.parts.durable_is)

  -- ---- at any moment of it

  -- a volume of which no call was made
  pub volume_still : (old new : World L V G H) → volume_history_in new ≡ volume_history_in old → (log_front front : List ℕ) (disk : ℕ → List ℕ) (s : State) (store : CheckpointedStore)
      → IsAt old log_front front disk s store → LeavesOnly (volume_history_in old) (volume_history_in new) (ShowsLeft (geometry_in old) front store.store)
  volume_still old new same log_front front disk s store at =
      subst (λ (h : DeviceHistory). LeavesOnly (volume_history_in old) h (ShowsLeft (geometry_in old) front store.store)) (sym same)
      (started (volume_history_in old) (ShowsLeft (geometry_in old) front store.store) at.volume)

  -- one that pages may have been written back to, if it had not failed
  pub volume_written : (old new : World L V G H) → MayLeave old.core new.core → (IsTrue (failed_in old) → heap_of new.core ≡ heap_of old.core)
      → (log_front front : List ℕ) (disk : ℕ → List ℕ) (s : State) (store : CheckpointedStore)
      → IsAt old log_front front disk s store → LeavesOnly (volume_history_in old) (volume_history_in new) (ShowsLeft (geometry_in old) front store.store)
  volume_written old new leaves still log_front front disk s store at = elim (runs_or_failed s.failed) [
    | inl runs ↦
        let durable = durable_told old front disk s store at.is_in at.over in
        widened (volume_history_in old) (volume_history_in new) (LeavesPages (heap_of old.core) (durable_of old.core) front disk) (ShowsLeft (geometry_in old) front store.store)
        (leaves front disk (at.is_in.pages runs).holds)
        (λ c left. left_amid (heap_of old.core) (durable_of old.core) front disk store.store c (at.over.pages runs).pages left (omega (arith, durable)))
    | inr fails ↦ volume_still old new (ap heaps.history_of (still (sym at.is_in.beside.parts.failed_is ∙ fails))) log_front front disk s store at
  ]

  -- a log device of which no call was made
  pub log_still : (old new : World L V G H) → history_in new ≡ history_in old → (log_front : List ℕ) → SurvivesCrashes old log_front
      → LeavesOnly (history_in old) (history_in new) (IsLeftOfLog old log_front)
  log_still old new same log_front k =
      subst (λ (h : DeviceHistory). LeavesOnly (history_in old) h (IsLeftOfLog old log_front)) (sym same)
      (started (history_in old) (IsLeftOfLog old log_front) k.images)

  -- neither device
  pub both_still : (old new : World L V G H) → history_in new ≡ history_in old → volume_history_in new ≡ volume_history_in old → LeavesAtAnyMoment old new
  both_still old new log volume = record { log = log_still old new log; volume = volume_still old new volume; one = inl log }

  -- the volume alone
  pub volume_alone : (old new : World L V G H) → history_in new ≡ history_in old → MayLeave old.core new.core → (IsTrue (failed_in old) → heap_of new.core ≡ heap_of old.core)
      → LeavesAtAnyMoment old new
  volume_alone old new log leaves still = record { log = log_still old new log; volume = volume_written old new leaves still; one = inl log }

  -- ---- what it comes to

  -- works leave the checkpoint under way and the anchor
  pub same_stage : (old new : World L V G H) → new.stage ≡ old.stage → (works : List RecoveryEvent) (store after : CheckpointedStore) → WorksOn store works after
      → stages.IsAt old.stage store.stage → stages.IsAt new.stage after.stage
  same_stage old new stage works store after work at =
      subst (λ x. stages.IsAt new.stage x) (sym (works_leave store works after work).0) (subst (λ (t : Stage). stages.IsAt t store.stage) (sym stage) at)

  pub same_anchor : (old new : World L V G H) → anchors_in new ≡ anchors_in old → (works : List RecoveryEvent) (store after : CheckpointedStore) → WorksOn store works after
      → store.anchored ≡ anchored_by old.log.anchors.anchor → after.anchored ≡ anchored_by new.log.anchors.anchor
  same_anchor old new anchors works store after work is =
      (works_leave store works after work).1 ∙ is ∙ ap (λ (a : Anchors). anchored_by a.anchor) (sym anchors)

  -- over the volume as it was, by works that take nothing from what power may be lost with
  pub comes_still : (old new : World L V G H) → volume_history_in new ≡ volume_history_in old → geometry_in new ≡ geometry_in old → new.stage ≡ old.stage → anchors_in new ≡ anchors_in old
      → (log_front front : List ℕ) (disk : ℕ → List ℕ) (s : State) (store : CheckpointedStore) → IsAt old log_front front disk s store
      → (later : State) (works : List RecoveryEvent) (after : CheckpointedStore) → WorksOn store works after → after.store.log ≡ store.store.log
      → ((left : LoggedPages) → CrashMayLeave store.store left → CrashMayLeave after.store left)
      → IsInState new front disk later → IsOverStore new disk later after → SurvivesCrashes new log_front → WorldComesTo new log_front front store later
  comes_still old new same geometry stage anchors log_front front disk s store at later works after work log covers is_in over kept = record {
    left = disk;
    works = works;
    after = after;
    work = work;
    at = record {
      is_in = is_in;
      over = over;
      log = kept;
      volume = λ c may. shows_left (geometry_in new) front store.store after.store log covers c
          (subst (λ (g : Geometry). ShowsLeft g front store.store c) (sym geometry) (at.volume c (subst (λ (h : DeviceHistory). may_leave h c) same may)));
      stage = same_stage old new stage works store after work at.stage;
      anchored = same_anchor old new anchors works store after work at.anchored;
    };
  }

  -- .. by no work
  pub comes_unworked : (old new : World L V G H) → volume_history_in new ≡ volume_history_in old → geometry_in new ≡ geometry_in old → new.stage ≡ old.stage → anchors_in new ≡ anchors_in old
      → (log_front front : List ℕ) (disk : ℕ → List ℕ) (s : State) (store : CheckpointedStore) → IsAt old log_front front disk s store
      → (later : State) → IsInState new front disk later → IsOverStore new disk later store → SurvivesCrashes new log_front → WorldComesTo new log_front front store later
  comes_unworked old new same geometry stage anchors log_front front disk s store at later is_in over kept =
      comes_still old new same geometry stage anchors log_front front disk s store at later [] store refl refl (λ left may. may) is_in over kept

  -- .. by a force that was told
  pub comes_forced : (old new : World L V G H) → volume_history_in new ≡ volume_history_in old → geometry_in new ≡ geometry_in old → new.stage ≡ old.stage → anchors_in new ≡ anchors_in old
      → (log_front front : List ℕ) (disk : ℕ → List ℕ) (s : State) (store : CheckpointedStore) → IsAt old log_front front disk s store
      → (later : State) (n : ℕ) → store.store.durable ≤ n → n ≤ length store.store.log → IsInState new front disk later → IsOverStore new disk later (force_to store n)
      → SurvivesCrashes new log_front → WorldComesTo new log_front front store later
  comes_forced old new same geometry stage anchors log_front front disk s store at later n more within is_in over kept =
      comes_still old new same geometry stage anchors log_front front disk s store at later (ForceLog n ∷ []) (force_to store n) (tt, after_force store.store n, (more, within, refl), refl) refl
      (left_after_force store.store n more) is_in over kept

  -- Pages may have been written back. After a failure of the volume the store is as it was, or as a call has left it that had done work before: what is
  -- left of the pages is what a crash may have left in the midst. The records before its buffer are these.
  module _ (old new : World L V G H) (geometry : geometry_in new ≡ geometry_in old) (stage : new.stage ≡ old.stage) (anchors : anchors_in new ≡ anchors_in old)
      (log_front front : List ℕ) (disk : ℕ → List ℕ) (s : State) (store : CheckpointedStore) (at : IsAt old log_front front disk s store)
      (leaves : LeavesOnly (volume_history_in old) (volume_history_in new) (ShowsLeft (geometry_in old) front store.store)) (kept : SurvivesCrashes new log_front)
      (later : State) (comes : cores.CoreComesTo new.core front (before_in new later) store later) where
    written_running : later.failed ≡ false → WorldComesTo new log_front front store later
    written_running runs = record {
      left = comes.left;
      works = comes.works;
      after = comes.after;
      work = comes.work;
      at = record {
        is_in = comes.is_in;
        over = comes.over;
        log = kept;
        volume = λ c may. (comes.after.store.volume, (λ p. inl refl), left_settled (heap_of new.core) front comes.left comes.after.store c (comes.over.pages runs).pages (comes.is_in.pages runs).holds may);
        stage = same_stage old new stage comes.works store comes.after comes.work at.stage;
        anchored = same_anchor old new anchors comes.works store comes.after comes.work at.anchored;
      };
    }

    -- a call may have worked before the volume failed
    worked_failed : later.failed ≡ true → FailsOver new.core front later store → WorldComesTo new log_front front store later
    worked_failed failed over = record {
      left = comes.left;
      works = over.behind.works;
      after = over.behind.after;
      work = over.behind.work;
      at = record {
        is_in = comes.is_in;
        over = record { kept = over.behind.kept; pages = λ runs. never_both later.failed failed runs };
        log = kept;
        volume = over.left;
        stage = same_stage old new stage over.behind.works store over.behind.after over.behind.work at.stage;
        anchored = same_anchor old new anchors over.behind.works store over.behind.after over.behind.work at.anchored;
      };
    }

    pub comes_worked : (later.failed ≡ true → FailsOver new.core front later store) → WorldComesTo new log_front front store later
    comes_worked fails = elim (runs_or_failed later.failed) [ inl runs ↦ written_running runs | inr failed ↦ worked_failed failed (fails failed) ]

    module _ (fails : later.failed ≡ true → IsKept later store) where
      written_so : (later.failed ≡ false) ⊎ (later.failed ≡ true) → WorldComesTo new log_front front store later
      written_so (inl runs) = written_running runs
      written_so (inr failed) = record {
        left = comes.left;
        works = [];
        after = store;
        work = refl;
        at = record {
          is_in = comes.is_in;
          over = record { kept = fails failed; pages = λ runs. never_both later.failed failed runs };
          log = kept;
          volume = λ c may. subst (λ (g : Geometry). ShowsLeft g front store.store c) (sym geometry)
              (at_end (volume_history_in old) (volume_history_in new) (ShowsLeft (geometry_in old) front store.store) leaves c may);
          stage = same_stage old new stage [] store store refl at.stage;
          anchored = same_anchor old new anchors [] store store refl at.anchored;
        };
      }

      flushes_so : AreFlushes comes.works → (so : (later.failed ≡ false) ⊎ (later.failed ≡ true)) → AreFlushes (written_so so).works
      unfolding written_so written_running
      flushes_so flushes (inl runs) = flushes
      flushes_so flushes (inr failed) = tt

      pub comes_written : WorldComesTo new log_front front store later
      comes_written = written_so (runs_or_failed later.failed)

      pub written_flushes : AreFlushes comes.works → AreFlushes comes_written.works
      unfolding comes_written written_so written_running
      written_flushes flushes = flushes_so flushes (runs_or_failed later.failed)

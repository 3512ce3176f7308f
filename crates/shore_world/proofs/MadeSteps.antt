-- What a step of a checkpoint that calls no device makes of a world.
use Rattle.std.proofs.Common.{◌≡◌, inl, inr, ℕ, ◌-◌, List, false, IsTrue, drop, refl, sym, ap, subst, ◌∙◌}
use Rattle.shore_types.specs.declared.faults.Fault.{Fault}
use Rattle.shore_types.specs.declared.faults.Fault.TheVariants as fault
use Rattle.shore_disk.specs.Device.{may_leave}
use Rattle.shore_disk.specs.declared.device.Disk.{Ghosts}
use Rattle.shore_gate.specs.declared.anchors.Anchors.{Anchors}
use Rattle.shore_model.specs.declared.calls.Answer.{Answer}
use Rattle.shore_model.specs.declared.calls.Answer.TheVariants.{Anchored, Begun, Ended, Moved}
use Rattle.shore_model.specs.declared.log_records.LogRecord.{LogRecord}
use Rattle.shore_model.specs.declared.step.Step.{Step}
use Rattle.shore_model.specs.declared.step.Step.TheVariants.{Done, Nothing, Refused, Waits}
use Rattle.shore_heap.specs.Heaps as heaps
use Rattle.shore_check.specs.Stages as stages
use Rattle.shore_check.specs.declared.stage.Stage.{Stage}
use Rattle.shore_log.specs.declared.device.LogDev.{LogDev}
use Rattle.shore_log.specs.Settled.{HoldsFrom, IsAnchored, stable}
use Rattle.laws_calls.specs.States.{State}
use Rattle.laws_checkpoints.specs.Checkpoints as checkpoints
use Rattle.laws_checkpoints.specs.Checkpoints.{cut_of}
use Rattle.laws_checkpoints.specs.CheckpointedStores.{CheckpointedStore}
use Rattle.laws_heaps.proofs.LoggedLeft.{left_settled}
use Rattle.laws_images.specs.StandsBehind.{anchored_by}
use Rattle.laws_runs.specs.CheckpointSteps.{CheckpointAnswers, CheckpointMoves, CheckpointRefused, CheckpointedState}
use Rattle.shore_core.specs.Checkpointing.{HasKept, MakesStep, MayGoOn, with_store}
use Rattle.shore_core.specs.Cores as cores
use Rattle.shore_core.specs.Cores.{IsIn, IsSafe, heap_of, waiting_of}
use Rattle.shore_core.specs.Replies.{InEach}
use Rattle.shore_world.specs.declared.event.Event.TheVariants.{CheckpointStep}
use Rattle.shore_world.specs.declared.world.World.{World}
use Rattle.shore_world.specs.Ready.{IsReadyLog}
use Rattle.shore_world.specs.Worlds.{ComesByCheckpoint, EventMovesWorld, ForCheckpoint, IsAt, IsUnchanged, MayCheckpoint, SurvivesCrashes, anchor_in, before_in, cut_in, durable_in, failed_in, geometry_in, report_in, volume_history_in}
use Rattle.shore_world.proofs.LogParts.{IsBesideOf, before_stays, log_of}
use Rattle.shore_world.proofs.UnchangedLemmas.{unchanged_parts}
use Rattle.shore_world.proofs.VolumeLemmas.{both_still, runs_or_failed}
use Rattle.shore_world.proofs.WorldLemmas.{length-stable, ready_gives, ready_same, stable_gives}

-- ---- the anchor

-- a step that does not move it leaves it
pub anchor_kept : (m : CheckpointedState) (step : Step) (new : CheckpointedState) → CheckpointMoves m step new → (step ≡ Done Moved → ⊥) → new.store.anchored ≡ m.store.anchored
anchor_kept m (Done answer) new h isnt = by answer (λ is. isnt (ap Done is)) h.1
  where
    by : (answer : Answer) → (answer ≡ Moved → ⊥) → CheckpointAnswers m answer new → new.store.anchored ≡ m.store.anchored
    by (Begun n) isnt h = ap (λ (x : CheckpointedState). x.store.anchored) h.6
    by (Ended n) isnt h = ap (λ (x : CheckpointedState). x.store.anchored) h.3
    by (Anchored checkpoint tail) isnt h = ap (λ (x : CheckpointedState). x.store.anchored) h.6
    by Moved isnt h = absurd (isnt refl)
    by _ isnt h = absurd h
anchor_kept m Nothing new h isnt = ap (λ (x : CheckpointedState). x.store.anchored) h.2
anchor_kept m (Refused f) new (inl h) isnt = ap (λ (x : CheckpointedState). x.store.anchored) h.2
anchor_kept m (Refused f) new (inr (runs, (inl memory))) isnt = ap (λ (x : CheckpointedState). x.store.anchored) memory.2
anchor_kept m (Refused f) new (inr (runs, (inr (inl full)))) isnt = ap (λ (x : CheckpointedState). x.store.anchored) full.3
anchor_kept m (Refused f) new (inr (runs, (inr (inr device)))) isnt = ap (λ (x : CheckpointedState). x.store.anchored) device.2
anchor_kept m (Waits wait) new h isnt = absurd h

may_go : (ring_bytes : ℕ) (stage : Stage) (m : CheckpointedState) → MayCheckpoint ring_bytes m → stages.IsAt stage m.store.stage → MayGoOn stage m
may_go ring_bytes stage m may at = record { at = at; in_order = may.in_order; room = may.room }

module _ {L V : Type 0} {G : Ghosts L} {H : Ghosts V} where
  -- ---- what a step of a core needs

  -- what is cut off of the log device is what the store's anchor cuts off
  pub cut_same : (w : World L V G H) (store : CheckpointedStore) → store.anchored ≡ anchored_by (anchor_in w) → cut_in w ≡ cut_of store.anchored
  cut_same w store anchored = ap (λ n. n - 1) (sym w.log.anchored.0) ∙ ap cut_of (sym anchored)

  pub has_kept : (w : World L V G H) (s : State) (store : CheckpointedStore) → IsBesideOf w s → store.anchored ≡ anchored_by (anchor_in w) → HasKept w.log (with_store s store)
  has_kept w s store is anchored =
      let cut = cut_same w store anchored in
      record {
        cut = cut;
        coming = waiting_of w.core;
        kept = ap (λ n. drop n s.log) (sym cut) ∙ (log_of w s is).kept;
        forced = sym (is.parts.durable_is ∙ w.durable_agrees);
      }

  -- what has not failed holds frames
  pub frames_of : (w : World L V G H) (front : List ℕ) → SurvivesCrashes w front → failed_in w ≡ false
      → (groups : List (List LogRecord)) × HoldsFrom (anchor_in w).tail (anchor_in w).tail_place w.log groups
  frames_of w front k running = elim (k.ready running) [ inl s ↦ (s.0.groups, s.0.holds) | inr s ↦ (s.1.groups, s.1.holds) ]

  -- ---- what it makes of the world

  -- one that has not failed survives crashes with whatever checkpoint is under way
  pub ready_kept : (w : World L V G H) (front : List ℕ) → IsAnchored w.log front → IsReadyLog w.log front → SurvivesCrashes w front
  ready_kept w front anchored ready = record {
    images = λ c left. inl (stable_gives w front c (ready_gives w.log front ready c left));
    anchored = anchored;
    ready = λ running. ready;
  }

  pub staged_kept : (old new : World L V G H) → new.log ≡ old.log → failed_in old ≡ false → (front : List ℕ) → SurvivesCrashes old front → SurvivesCrashes new front
  staged_kept old new log running front k =
      ready_kept new front (subst (λ (l : LogDev L G). IsAnchored l front) (sym log) k.anchored) (ready_same old.log new.log log front (k.ready running))

  module _ (old new : World L V G H) (step : Step) (log : new.log ≡ old.log) (heap : heap_of new.core ≡ heap_of old.core) (failed : failed_in new ≡ failed_in old) (isnt : step ≡ Done Moved → ⊥) where
    pub comes_made : failed_in old ≡ false → (log_front front : List ℕ) (disk : ℕ → List ℕ) (s : State) (store : CheckpointedStore) → IsAt old log_front front disk s store
        → MakesStep step new.stage new.core front disk (before_in old s) (with_store s store) → ComesByCheckpoint old step new log_front front s store
    comes_made running log_front front disk s store at made =
        let later = made.later in
        let is = made.comes.is_in in
        let runs : later.state.failed ≡ false = is.beside.parts.failed_is ∙ failed ∙ running in
        record {
          last = later;
          moves = made.moves;
          front_behind = log_front;
          is_front = inl (ap (λ (l : LogDev L G). l.anchors) log, refl);
          left = disk;
          at = record {
            is_in = subst (λ (b : List LogRecord). IsIn front disk b new.core later.state)
                (sym (before_stays old new s later.state at.is_in.beside (waiting_of new.core) is.beside.parts.log log)) is;
            over = made.comes.over;
            log = staged_kept old new log running log_front at.log;
            volume = λ c may. (later.store.store.volume, (λ p. inl refl), left_settled (heap_of new.core) front disk later.store.store c (made.comes.over.pages runs).pages (is.pages runs).holds may);
            stage = made.comes.at;
            anchored = anchor_kept (with_store s store) step later made.moves isnt ∙ at.anchored ∙ ap (λ (l : LogDev L G). anchored_by l.anchors.anchor) (sym log);
          };
        }

    -- after a failure it is refused, and nothing has changed
    pub comes_refused : IsTrue (failed_in old) → step ≡ Refused fault.Failed → IsUnchanged old new → (log_front front : List ℕ) (disk : ℕ → List ℕ) (s : State) (store : CheckpointedStore)
        → IsAt old log_front front disk s store → ComesByCheckpoint old step new log_front front s store
    comes_refused fails is same log_front front disk s store at = record {
      last = with_store s store;
      moves = subst (λ (x : Step). CheckpointMoves (with_store s store) x (with_store s store)) (sym is) (inl (at.is_in.beside.parts.failed_is ∙ fails, refl, refl));
      front_behind = log_front;
      is_front = inl (ap (λ (l : LogDev L G). l.anchors) log, refl);
      left = disk;
      at = same.at log_front front disk s store at;
    }

    pub made_moves : (IsTrue (failed_in old) → (step ≡ Refused fault.Failed) × (new.core ≡ old.core) × (new.stage ≡ old.stage)) → report_in new ≡ report_in old
        → ((tail place : ℕ) (groups : List (List LogRecord)) → HoldsFrom tail place old.log groups → InEach (λ front disk before s store.
        HasKept old.log (with_store s store) → MayGoOn old.stage (with_store s store) → MakesStep step new.stage new.core front disk before (with_store s store)) old.core)
        → EventMovesWorld old CheckpointStep step new
    made_moves refused report made = record {
      geometry = ap heaps.geometry_of heap;
      state = λ log_front front disk s store at safe may. inr (
        tt,
        elim (runs_or_failed (failed_in old)) [
          | inl runs ↦
              let frames = frames_of old log_front at.log runs in
              comes_made runs log_front front disk s store at
              (made (anchor_in old).tail (anchor_in old).tail_place frames.0 frames.1 front disk (before_in old s) s store at.is_in safe at.over
              (has_kept old s store at.is_in.beside at.anchored) (may_go _ old.stage (with_store s store) (may tt) at.stage))
          | inr fails ↦
              let same = refused fails in
              comes_refused fails same.0 (unchanged_parts old new same.1 log same.2 report) log_front front disk s store at
        ],
      );
      any_moment = both_still old new (ap (λ (l : LogDev L G). G.history l.device) log) (ap heaps.history_of heap);
    }

  -- what the core says of a begin it says of the world
  pub each_begin : (w : World L V G H) → failed_in w ≡ false → (P : ℕ → List (List LogRecord) → CheckpointedState → Type 0)
      → ((tail place : ℕ) (groups : List (List LogRecord)) → HoldsFrom tail place w.log groups → InEach (λ front disk before s store.
      HasKept w.log (with_store s store) → MayGoOn w.stage (with_store s store) → P tail groups (with_store s store)) w.core)
      → ForCheckpoint w (λ m. (groups : List (List LogRecord)) × HoldsFrom (anchor_in w).tail (anchor_in w).tail_place w.log groups × P (anchor_in w).tail groups m)
  each_begin w running P each log_front front disk s store at safe may =
      let frames = frames_of w log_front at.log running in (
        frames.0,
        frames.1,
        each (anchor_in w).tail (anchor_in w).tail_place frames.0 frames.1 front disk (before_in w s) s store at.is_in safe at.over
            (has_kept w s store at.is_in.beside at.anchored) (may_go _ w.stage (with_store s store) may at.stage),
      )

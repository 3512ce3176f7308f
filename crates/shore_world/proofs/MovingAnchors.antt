-- What the last step of a checkpoint makes of a world: the log device is asked to move its anchor.
use Rattle.std.proofs.Common.{◌≡◌, ◌⊎◌, inl, inr, ℕ, ◌+◌, ◌-◌, ◌<◌, ◌≤◌, ◌++◌, List, Bool, true, false, IsTrue, length, take, drop, refl, sym, ap, subst, ◌∙◌, arith, length-append, append_assoc}
use Rattle.std.proofs.Math.Seq.{take-append-add}
use Rattle.std.proofs.lemmas.List.{length-drop, length-take, take-append-drop, take-append-le}
use Rattle.shore_types.specs.declared.faults.Fault.TheVariants as fault
use Rattle.shore_types.specs.declared.layout.TheConstants.{LAST_OPENED}
use Rattle.shore_types.specs.declared.layout.Geometry.{Geometry}
use Rattle.shore_disk.specs.Device.{DeviceHistory, LeavesOnly, may_leave, size}
use Rattle.shore_disk.specs.declared.device.Disk.{Ghosts}
use Rattle.shore_disk.proofs.Moments.{at_end, widened}
use Rattle.shore_gate.specs.Anchor.{other_of}
use Rattle.shore_gate.specs.Moves.{moved}
use Rattle.shore_gate.specs.declared.anchors.Anchor.{Anchor}
use Rattle.shore_gate.specs.declared.anchors.Anchors.{Anchors}
use Rattle.shore_model.specs.declared.calls.Answer.TheVariants.{Moved}
use Rattle.shore_model.specs.declared.log_records.LogRecord.{LogRecord}
use Rattle.shore_model.specs.declared.step.Step.{Step}
use Rattle.shore_model.specs.declared.step.Step.TheVariants.{Done, Refused}
use Rattle.shore_heap.specs.Heaps as heaps
use Rattle.shore_check.specs.Stages as stages
use Rattle.shore_check.specs.declared.stage.Mark.{Mark}
use Rattle.shore_check.specs.declared.stage.Named.{Named}
use Rattle.shore_check.specs.declared.stage.Stage.{Stage}
use Rattle.shore_check.specs.declared.stage.Stage.TheVariants as stage
use Rattle.shore_log.specs.declared.device.LogDev.{LogDev}
use Rattle.shore_log.specs.Settled.{FreesBelow, HoldsFrom, IsAnchored, IsCutTo, IsLeftByMove, IsSettledFrom, IsStagedFrom, LosesFront, anchor_of, cut_of_log, next_anchor, records_of_log, stable}
use Rattle.shore_log.proofs.ForceLemmas.{staged_settled}
use Rattle.shore_txn.specs.Transactions.{room_in}
use Rattle.laws_calls.specs.StateChanges.{with_failure}
use Rattle.laws_calls.specs.States.{State, cost_of_log}
use Rattle.laws_lives.proofs.UndoRecords.{lawful_front}
use Rattle.laws_checkpoints.specs.Checkpoints.{Anchored, cut_of, cut_point}
use Rattle.laws_checkpoints.specs.CheckpointedStores.{AnchorLogged, CheckpointStage, CheckpointedStore}
use Rattle.laws_checkpoints.specs.StoresInOrder.{IsStageRight}
use Rattle.laws_checkpoints.proofs.Cuts.{point_at_begin}
use Rattle.laws_checkpoints.proofs.Ends.{end_stands}
use Rattle.laws_heaps.proofs.LoggedLeft.{left_settled}
use Rattle.laws_images.specs.Moments.{ShowsLeft}
use Rattle.laws_images.specs.StandsBehind.{anchored_by}
use Rattle.laws_runs.proofs.MovedAnchors.{cost_between, cost_of_front}
use Rattle.laws_runs.specs.CheckpointSteps.{CheckpointedState, IsNextAnchor, freed_to, moved_to}
use Rattle.laws_runs.specs.CheckpointedStates.{BeganBehind}
use Rattle.shore_core.specs.Checkpointing.{MovesTo, with_store}
use Rattle.shore_core.specs.declared.core_calls.Core.{Core}
use Rattle.shore_log.specs.declared.tail.Tail as tail
use Rattle.shore_pool.specs.Pools as pools
use Rattle.shore_pool.specs.declared.pool.Pool.{Pool}
use Rattle.shore_core.specs.Cores.{IsIn, IsSafe, heap_of, txns_of, waiting_of}
use Rattle.shore_core.specs.Replies.{InEach}
use Rattle.shore_core.proofs.CheckpointSteps.{freed_is}
use Rattle.shore_world.specs.declared.event.Event.TheVariants.{CheckpointStep}
use Rattle.shore_world.specs.declared.world.World.{World}
use Rattle.shore_world.specs.Ready.{IsReadyLog}
use Rattle.shore_world.specs.Worlds.{ComesByCheckpoint, EventMovesWorld, HasMoved, IsAt, IsInState, IsLeftOfLog, IsNextIn, IsOverStore, IsUnchanged, LeavesAtAnyMoment, MayCheckpoint, SurvivesCrashes, anchor_in, anchors_in, before_in, cut_in, durable_in, failed_in, geometry_in, history_in, list_in, stream_bytes_in, volume_history_in}
use Rattle.shore_world.proofs.LogParts.{IsBesideOf, gone_long, log_parts}
use Rattle.shore_world.proofs.MadeSteps.{cut_same, frames_of, has_kept, ready_kept}
use Rattle.shore_world.proofs.MovedLemmas.{next_may_be}
use Rattle.shore_world.proofs.VolumeLemmas.{both_still, volume_still}
use Rattle.shore_world.proofs.KeptLogs.{left_same}
use Rattle.shore_world.proofs.WorldLemmas.{anchored_same, failed_runs}

-- ---- log devices

module _ {L : Type 0} {G : Ghosts L} where
  -- what is ready is settled, staged or not
  pub ready_settles : (log : LogDev L G) (front : List ℕ) → IsReadyLog log front → IsSettledFrom (anchor_of log).tail (anchor_of log).tail_place log front
  ready_settles log front (inl s) = s.0
  ready_settles log front (inr s) = staged_settled log front s.0 s.1

  -- as many first records are let go as the cut rises, and it has them
  pub lost_within : (old new : LogDev L G) → LosesFront old new → cut_of_log new - cut_of_log old ≤ length (records_of_log old)
  lost_within old new lost = omega (arith, lost.last, lost.rises, length-take old.forced (records_of_log old))

-- a core is told of the move, and how much that frees
abbrev pub MakesMove : {T V : Type 0} {G : tail.Ghosts T} {H : Ghosts V} → ℕ → Step → Stage → Core T V G H → Core T V G H → Type 0
MakesMove freed step stage new old = InEach (λ front disk before s store. (a : Anchored) → s.failed ≡ false → IsNextAnchor store a → freed ≡ freed_to (with_store s store) a.tail
    → freed ≤ (room_in (txns_of old)).kept → MovesTo a step stage new front disk before (with_store s store)) old

module _ {L V : Type 0} {G : Ghosts L} {H : Ghosts V} (old : World L V G H) (mark : Mark) (named : Named) (at_named : old.stage ≡ stage.Named named) (says : named.mark ≡ mark)
    (durable : named.number ≤ durable_in old) where
  abbrev next : Anchor
  next = next_anchor old.log mark.checkpoint mark.tail

  is_next : IsNextIn old next
  is_next = record { named = named; at = at_named; durable = durable; anchor = ap (λ (m : Mark). next_anchor old.log m.checkpoint m.tail) (sym says) }

  pub there_is_next : (a : Anchor) × IsNextIn old a
  there_is_next = (next, is_next)

  -- the anchor has moved there, and the kept frames are cut
  pub has_moved : (new : World L V G H) → anchors_in new ≡ record { slot = other_of (anchors_in old).slot; anchor = next }
      → ((tail place : ℕ) (groups : List (List LogRecord)) → HoldsFrom tail place old.log groups → IsCutTo tail place groups mark.tail new.log) → HasMoved old new
  has_moved new anchors cut = record {
    next = record {
      named = named;
      at = at_named;
      durable = durable;
      anchor = ap (λ (x : Anchors). x.anchor) anchors ∙ ap (λ (m : Mark). next_anchor old.log m.checkpoint m.tail) (sym says);
    };
    cut = λ groups holds. subst (λ (m : Mark). IsCutTo (anchor_in old).tail (anchor_in old).tail_place groups m.tail new.log) (sym says) (cut (anchor_in old).tail (anchor_in old).tail_place groups holds);
  }

  -- ---- the move may be made

  -- what the log device asks of it
  pub record MayBeMoved : Type 0 where
    pub later : (anchor_in old).checkpoint < mark.checkpoint
    pub within : mark.checkpoint ≤ durable_in old
    pub kept : cut_in old < mark.tail
    pub below : mark.tail ≤ mark.checkpoint
    pub last : mark.tail ≤ LAST_OPENED

  pub may_be_moved : (ring_bytes : ℕ) (log_front front : List ℕ) (disk : ℕ → List ℕ) (s : State) (store : CheckpointedStore) → IsAt old log_front front disk s store → MayCheckpoint ring_bytes (with_store s store) → MayBeMoved
  may_be_moved ring_bytes log_front front disk s store at may =
      let is = subst (λ (t : Stage). stages.IsAt t store.stage) at_named at.stage in
      let c = is.0 in
      let n = is.1 in
      let logged : store.stage ≡ AnchorLogged c n = is.2 in
      let right = subst (IsStageRight store) logged may.in_order.stage_right in
      let began : store.anchored.checkpoint < c.begin = subst (BeganBehind store.anchored.checkpoint) logged may.later in
      let end = end_stands (take n store.store.log) (lawful_front store.store.log n may.in_order.lawful) c.begin c right.1.1 in
      let behind = end.behind in
      let inside = end.within in
      let long = length-take n store.store.log in
      let number : named.number ≡ n = is.3.number in
      let checkpoint : mark.checkpoint ≡ c.begin = ap (λ (m : Mark). m.checkpoint) (sym says ∙ is.3.mark) in
      let tail : mark.tail ≡ cut_point c = ap (λ (m : Mark). m.tail) (sym says ∙ is.3.mark) in
      let point = point_at_begin c in
      let no_lower = right.0.no_lower in
      let old_checkpoint : store.anchored.checkpoint ≡ (anchor_in old).checkpoint = ap (λ (a : Anchored). a.checkpoint) at.anchored in
      let old_tail : store.anchored.tail ≡ (anchor_in old).tail = ap (λ (a : Anchored). a.tail) at.anchored in
      let first = old.log.anchored.0 in
      let some = old.log.gone_below in
      let within : mark.checkpoint ≤ durable_in old = omega (arith, checkpoint, behind, inside, long, number, durable) in
      record {
        later = omega (arith, began, checkpoint, old_checkpoint);
        within = within;
        kept = omega (arith, tail, no_lower, old_tail, first, some);
        below = omega (arith, tail, point, checkpoint);
        last = omega (arith, tail, point, checkpoint, within, old.core.forced, old.core.numbers);
      }

  -- so a refusal for want of that comes of no state
  pub never_refused : (new : World L V G H) (step : Step) → (MayBeMoved → ⊥) → IsUnchanged old new → EventMovesWorld old CheckpointStep step new
  never_refused new step none same = record {
    geometry = ap (λ (p : Pool V H). pools.geometry_of p) same.pool;
    state = λ log_front front disk s store at safe may. absurd (none (may_be_moved (stream_bytes_in old) log_front front disk s store at (may tt)));
    any_moment = both_still old new (ap G.history same.device) (ap (λ (p : Pool V H). pools.history_of p) same.pool);
  }

  -- ---- at each moment of it

  module _ (new : World L V G H) (running : failed_in old ≡ false) (heap : heap_of new.core ≡ heap_of old.core)
      (moments : (tail place : ℕ) (front : List ℕ) → IsSettledFrom tail place old.log front → IsAnchored old.log front
      → LeavesOnly (history_in old) (history_in new) (IsLeftByMove (anchors_in old) next front (stable old.log))) where
    pub leaves_amid : (front : List ℕ) → SurvivesCrashes old front → LeavesOnly (history_in old) (history_in new) (IsLeftOfLog old front)
    leaves_amid front k =
        widened (history_in old) (history_in new) (IsLeftByMove (anchors_in old) next front (stable old.log)) (IsLeftOfLog old front)
        (moments (anchor_in old).tail (anchor_in old).tail_place front (ready_settles old.log front (k.ready running)) k.anchored) (λ c amid. inr (next, is_next, amid))

    pub amid_move : LeavesAtAnyMoment old new
    amid_move = record { log = leaves_amid; volume = volume_still old new (ap heaps.history_of heap); one = inr (ap heaps.history_of heap) }

    -- ---- it is made

    module _ (freed : ℕ) (step : Step) (is_moved : step ≡ Done Moved) (failed : failed_in new ≡ failed_in old)
        (anchors : anchors_in new ≡ record { slot = other_of (anchors_in old).slot; anchor = next })
        (settled : (tail place : ℕ) (front : List ℕ) → IsSettledFrom tail place old.log front → IsSettledFrom (anchor_in new).tail (anchor_in new).tail_place new.log (moved (anchors_in old) (anchor_in new) front))
        (staged : (tail place : ℕ) (front : List ℕ) (group : List LogRecord) → IsStagedFrom tail place old.log front group
        → IsStagedFrom (anchor_in new).tail (anchor_in new).tail_place new.log (moved (anchors_in old) (anchor_in new) front) group)
        (anchored : (tail place : ℕ) (front : List ℕ) → IsSettledFrom tail place old.log front → IsAnchored old.log front → IsAnchored new.log (moved (anchors_in old) (anchor_in new) front))
        (frees : (tail place : ℕ) (groups : List (List LogRecord)) → HoldsFrom tail place old.log groups → FreesBelow old.log mark.tail (anchor_in new).tail freed)
        (lost : LosesFront old.log new.log)
        (steps : MakesMove freed step new.stage new.core old.core) where
      ready_moved : (front : List ℕ) → IsReadyLog old.log front → IsReadyLog new.log (moved (anchors_in old) (anchor_in new) front)
      ready_moved front (inl s) = inl (settled (anchor_in old).tail (anchor_in old).tail_place front s.0, lost.staged ∙ s.1)
      ready_moved front (inr s) = inr (s.0, staged (anchor_in old).tail (anchor_in old).tail_place front s.0 s.1)

      kept_moved : (front : List ℕ) → SurvivesCrashes old front → SurvivesCrashes new (moved (anchors_in old) (anchor_in new) front)
      kept_moved front k =
          let ready = k.ready running in
          ready_kept new (moved (anchors_in old) (anchor_in new) front)
          (anchored (anchor_in old).tail (anchor_in old).tail_place front (ready_settles old.log front ready) k.anchored) (ready_moved front ready)

      -- what is cut off and what is kept are the same records together
      before_moved : (s later : State) → IsBesideOf old s → later.log ≡ s.log → before_in new later ≡ before_in old s
      before_moved s later is log =
          let rs = records_of_log old.log in
          let count = cut_in new - cut_in old in
          let gone = take (cut_in old) s.log in
          let long = gone_long old s is in
          let sum : cut_in new ≡ length gone + count = omega (arith, long, lost.rises) in
          ap (λ (l : List LogRecord). take (cut_in new) l ++ records_of_log new.log) (log ∙ log_parts old s is)
          ∙ ap (λ n. take n (gone ++ list_in old) ++ records_of_log new.log) sum
          ∙ ap (λ (l : List LogRecord). l ++ records_of_log new.log) (take-append-add gone (list_in old) count)
          ∙ ap (λ (l : List LogRecord). (gone ++ l) ++ records_of_log new.log) (take-append-le count rs (waiting_of old.core) (lost_within old.log new.log lost))
          ∙ ap (λ (l : List LogRecord). (gone ++ take count rs) ++ l) lost.records
          ∙ append_assoc gone (take count rs) (drop count rs)
          ∙ ap (λ (l : List LogRecord). gone ++ l) (take-append-drop count rs)

      -- no more is freed than is kept
      freed_room : (s : State) (store : CheckpointedStore) → IsBesideOf old s → store.anchored ≡ anchored_by (anchor_in old) → MayCheckpoint (stream_bytes_in old) (with_store s store) → (tail : ℕ)
          → store.anchored.tail ≤ tail → freed_to (with_store s store) tail ≤ (room_in (txns_of old.core)).kept
      freed_room s store is anchored may tail rises =
          let cut = cut_of store.anchored in
          let below : cut ≤ tail - 1 = omega (arith, rises) in
          let parts = cost_between s.log cut (tail - 1) below in
          let front = cost_of_front s.log (tail - 1) in
          let ring = old.ring in
          let room = is.parts.stands.txns.room in
          omega (arith, parts, front, ring, room, may.limit)

      comes_moved : (log_front front : List ℕ) (disk : ℕ → List ℕ) (s : State) (store : CheckpointedStore) → IsAt old log_front front disk s store → IsSafe (geometry_in old) s
          → MayCheckpoint (stream_bytes_in old) (with_store s store) → ComesByCheckpoint old step new log_front front s store
      comes_moved log_front front disk s store at safe may =
          let a = anchored_by next in
          let later = moved_to (with_store s store) a in
          let runs : s.failed ≡ false = at.is_in.beside.parts.failed_is ∙ running in
          let durable_is : store.store.durable ≡ durable_in old = at.over.kept.stored.durable ∙ at.is_in.beside.parts.durable_is in
          let reaches = next_may_be old next is_next (with_store s store) may.in_order at.stage at.anchored durable_is in
          let kept = has_kept old s store at.is_in.beside at.anchored in
          let frames = frames_of old log_front at.log running in
          let freed_now = frees (anchor_in old).tail (anchor_in old).tail_place frames.0 frames.1 in
          let tail : (anchor_in new).tail ≡ next.tail = ap (λ (x : Anchors). x.anchor.tail) anchors in
          let freed_as : freed ≡ freed_to (with_store s store) next.tail =
          freed_is old.log s store kept mark.tail (anchor_in new).tail freed freed_now ∙ ap (freed_to (with_store s store)) tail in
          let old_tail : store.anchored.tail ≡ (anchor_in old).tail = ap (λ (x : Anchored). x.tail) at.anchored in
          let room = freed_room s store at.is_in.beside at.anchored may next.tail (omega (arith, old_tail, reaches.rises)) in
          let went = steps front disk (before_in old s) s store at.is_in safe at.over a runs reaches.may freed_as (omega (arith, freed_as, room)) in
          let runs_on : later.state.failed ≡ false = runs in
          record {
            last = later;
            moves = went.moves;
            front_behind = moved (anchors_in old) (anchor_in new) log_front;
            is_front = inr (is_moved, refl);
            left = disk;
            at = record {
              is_in = subst (λ (b : List LogRecord). IsIn front disk b new.core later.state) (sym (before_moved s later.state at.is_in.beside refl)) went.comes.is_in;
              over = went.comes.over;
              log = kept_moved log_front at.log;
              volume = λ c left. (later.store.store.volume, (λ p. inl refl), left_settled (heap_of new.core) front disk later.store.store c (went.comes.over.pages runs_on).pages (went.comes.is_in.pages runs_on).holds left);
              stage = went.comes.at;
              anchored = ap (λ (x : Anchors). anchored_by x.anchor) (sym anchors);
            };
          }

      pub moves_made : EventMovesWorld old CheckpointStep step new
      moves_made = record {
        geometry = ap heaps.geometry_of heap;
        state = λ log_front front disk s store at safe may. inr (tt, comes_moved log_front front disk s store at safe (may tt));
        any_moment = amid_move;
      }

    -- ---- it fails

    module _ (failed : IsTrue (failed_in new)) (stage_is : new.stage ≡ old.stage) (anchors : anchors_in new ≡ anchors_in old) (tail : new.log.tail ≡ old.log.tail) (frames : new.log.frames.items ≡ old.log.frames.items)
        (list : list_in new ≡ list_in old) (forced : stable new.log ≡ stable old.log) (durable_is : durable_in new ≡ durable_in old)
        (comes : (front : List ℕ) (disk : ℕ → List ℕ) (s : State) (store : CheckpointedStore) → IsInState old front disk s → IsOverStore old disk s store → IsSafe (geometry_in old) s
        → IsInState new front disk (with_failure s) × IsOverStore new disk (with_failure s) store) where
      kept_failed : (front : List ℕ) → SurvivesCrashes old front → SurvivesCrashes new front
      kept_failed front k = record {
        images = λ c left. left_same old new stage_is anchors tail frames list forced durable_is front c (at_end (history_in old) (history_in new) (IsLeftOfLog old front) (leaves_amid front k) c left);
        anchored = anchored_same old.log new.log anchors front k.anchored;
        ready = λ runs. absurd (failed_runs (failed_in new) failed runs);
      }

      comes_failed : (log_front front : List ℕ) (disk : ℕ → List ℕ) (s : State) (store : CheckpointedStore) → IsAt old log_front front disk s store → IsSafe (geometry_in old) s
          → MayCheckpoint (stream_bytes_in old) (with_store s store) → ComesByCheckpoint old (Refused fault.Device) new log_front front s store
      comes_failed log_front front disk s store at safe may =
          let runs : s.failed ≡ false = at.is_in.beside.parts.failed_is ∙ running in
          let durable_same : store.store.durable ≡ durable_in old = at.over.kept.stored.durable ∙ at.is_in.beside.parts.durable_is in
          let reaches = next_may_be old next is_next (with_store s store) may.in_order at.stage at.anchored durable_same in
          let to = comes front disk s store at.is_in at.over safe in
          record {
            last = with_store (with_failure s) store;
            moves = inr (runs, inr (inr (refl, (anchored_by next, reaches.may), refl)));
            front_behind = log_front;
            is_front = inl (anchors, refl);
            left = disk;
            at = record {
              is_in = to.0;
              over = to.1;
              log = kept_failed log_front at.log;
              volume = λ c left. subst (λ (g : Geometry). ShowsLeft g front store.store c) (sym (ap heaps.geometry_of heap))
                  (at.volume c (subst (λ (h : DeviceHistory). may_leave h c) (ap heaps.history_of heap) left));
              stage = subst (λ (t : Stage). stages.IsAt t store.stage) (sym stage_is) at.stage;
              anchored = at.anchored ∙ ap (λ (x : Anchors). anchored_by x.anchor) (sym anchors);
            };
          }

      pub moves_failed : EventMovesWorld old CheckpointStep (Refused fault.Device) new
      moves_failed = record {
        geometry = ap heaps.geometry_of heap;
        state = λ log_front front disk s store at safe may. inr (tt, comes_failed log_front front disk s store at safe (may tt));
        any_moment = amid_move;
      }

-- The world that an open answers, by what its restart has left.
use Rattle.std.proofs.Common.{◌≡◌, inl, ◌<◌, ◌≤◌, ◌-◌, ◌++◌, ◌∷◌, ℕ, List, [], Option, None, Some, length, take, drop, map, refl, sym, ap, subst, ◌∙◌, arith}
use Rattle.shore_types.specs.Versions.{slot_limit}
use Rattle.std.specs.Prelude.{IfSome}
use Rattle.std.specs.List.{AllByRecursion}
use Rattle.std.proofs.lemmas.List.{drop-append-le, take-append-drop}
use Rattle.std.proofs.lemmas.List.Elements.{All-from_recursion}
use Rattle.shore_types.specs.declared.ids.PageId.{PageId}
use Rattle.shore_types.specs.declared.layout.Geometry.{Geometry}
use Rattle.shore_types.specs.declared.layout.TheConstants.{LOG_FRONT_BYTES}
use Rattle.shore_types.specs.declared.versions.Version.{Version}
use Rattle.shore_disk.specs.Device.{size}
use Rattle.shore_disk.specs.declared.device.Disk.{Ghosts}
use Rattle.shore_gate.specs.declared.anchors.Anchor.{Anchor}
use Rattle.shore_model.specs.declared.histories.InDoubt.{InDoubt}
use Rattle.shore_model.specs.declared.histories.Opening.{Opening}
use Rattle.shore_model.specs.declared.log_records.LogRecord.{LogRecord}
use Rattle.shore_model.specs.declared.unanswered_changes.UnansweredChange.{UnansweredChange}
use Rattle.shore_model.specs.Logs.{unanswered}
use Rattle.shore_log.specs.Settled.{IsAnchored, IsSettledFrom, cut_of_log, records_of_log}
use Rattle.shore_log.specs.declared.device.LogDev.{LogDev}
use Rattle.shore_check.specs.Stages as stages
use Rattle.shore_check.specs.declared.stage.Stage.{Stage}
use Rattle.shore_check.specs.declared.stage.Stage.TheVariants as stage
use Rattle.laws_lives.specs.Doubts.{IsOpeningOf, LoggedDoubt, doubts_in, pair_logged}
use Rattle.laws_lives.specs.Pages.{LoggedPages}
use Rattle.laws_lives.specs.Recovery.{RecoveryEvent, RecoveryState}
use Rattle.laws_lives.specs.Restarts.{IsRestartOf}
use Rattle.laws_lives.specs.Sessions.{pairs_of}
use Rattle.laws_lives.specs.Soundness.{found_in_doubt}
use Rattle.laws_lives.specs.Undo.{HasNoLosers, IsUndoneTo, undo_payload, undo_record}
use Rattle.laws_lives.proofs.Invariant.{redone_whole}
use Rattle.laws_lives.proofs.Openings.{undone_opening}
use Rattle.laws_lives.proofs.UndoRecords.{undone_grows}
use Rattle.laws_calls.specs.States.{State}
use Rattle.laws_checkpoints.specs.Checkpoints.{Checkpoint, end_among, end_in, or_next_end}
use Rattle.laws_checkpoints.specs.CheckpointedStores.{CheckpointedStore}
use Rattle.laws_checkpoints.proofs.Ends.{end_among-append}
use Rattle.laws_heaps.proofs.LoggedLeft.{left_settled}
use Rattle.laws_images.specs.Moments.{Moment}
use Rattle.laws_images.specs.StandsBehind.{anchored_by}
use Rattle.laws_runs.specs.CheckpointSteps.{log_limit}
use Rattle.laws_runs.specs.CheckpointedStates.{IsOpenedBehind, MayBeOpenedBehind, found_behind}
use Rattle.laws_runs.specs.CheckpointedStays.{RestartsBehind}
use Rattle.laws_runs.specs.RoomyStates.{HasLocksInBounds}
use Rattle.laws_runs.specs.SlotCounts.{slot_count}
use Rattle.laws_runs.specs.StoredRuns.{IsOpenedOver}
use Rattle.laws_runs.proofs.OpenedBehind.{is_restart, restarted}
use Rattle.laws_runs.proofs.PlainWorks.{HasRestarted}
use Rattle.laws_runs.proofs.Prefixes.{whole_roomy}
use Rattle.shore_analysis.specs.KeptTables.{IsNextKept}
use Rattle.shore_analysis.specs.Padded.{padded}
use Rattle.shore_restart.specs.GivenBack.{HasDoubtsBack}
use Rattle.shore_restart.specs.Opened.{OpensIn}
use Rattle.shore_restart.specs.Standing.{IsAtRest, log_seen}
use Rattle.shore_core.specs.Cores.{IsIn, KeepsAllButRoom, control_of, heap_of, locks_of}
use Rattle.shore_core.specs.declared.core_calls.Core.{Core}
use Rattle.shore_core.proofs.LearningRoom.{in_learned, over_learned}
use Rattle.shore_log.specs.declared.tail.Tail as tail
use Rattle.shore_world.specs.Opens.{IsOpenedAt, log_kept}
use Rattle.shore_world.specs.Refusals.{cut_behind}
use Rattle.shore_world.specs.declared.world.World.{World}
use Rattle.shore_world.specs.Worlds.{anchor_in, before_in, cut_in, geometry_in, history_in, volume_history_in}
use Rattle.shore_world.proofs.LeftDoubts.{left_behind}
use Rattle.shore_world.proofs.LogOpenings.{logged_opening, opening_logged}
use Rattle.shore_world.proofs.RestoredBounds.{locks_in_bounds}
use Rattle.shore_world.proofs.ShownPages.{cut_found}
use Rattle.shore_world.proofs.WorldLemmas.{settled_kept}

-- ---- those in doubt, as an opening lists them

pairs_found : (ds : List InDoubt) → pairs_of (map found_in_doubt ds) ≡ map (λ (d : InDoubt). (d.txn, d.global)) ds
pairs_found [] = refl
pairs_found (d ∷ ds) = ap (λ ps. (d.txn, d.global) ∷ ps) (pairs_found ds)

txns_paired : (ds : List InDoubt) → map (λ (d : InDoubt). d.txn) ds ≡ map (λ (p : ℕ × List ℕ). p.0) (map (λ (d : InDoubt). (d.txn, d.global)) ds)
txns_paired [] = refl
txns_paired (d ∷ ds) = ap (λ ts. d.txn ∷ ts) (txns_paired ds)

txns_logged : (ds : List LoggedDoubt) → map (λ (p : ℕ × List ℕ). p.0) (map pair_logged ds) ≡ map (λ (d : LoggedDoubt). d.txn) ds
txns_logged [] = refl
txns_logged (d ∷ ds) = ap (λ ts. d.txn ∷ ts) (txns_logged ds)

-- ---- records of undo are no End of a checkpoint

nothing_next : (o : Option Checkpoint) → or_next_end o None ≡ o
nothing_next None = refl
nothing_next (Some c) = refl

undo_no_end : (b : ℕ) (cs : List UnansweredChange) → end_in b (undo_payload cs) ≡ None
undo_no_end b [] = refl
undo_no_end b (c ∷ cs) = refl

undone_ends : (b : ℕ) (log : List LogRecord) (ts : List ℕ) (last : List LogRecord) → IsUndoneTo log ts last → end_among b last ≡ end_among b log
undone_ends b log [] last undone = ap (end_among b) undone
undone_ends b log (t ∷ ts) last undone =
    undone_ends b (log ++ undo_record log t ∷ []) ts last undone.1 ∙ end_among-append b log (undo_record log t ∷ [])
    ∙ ap (λ (o : Option Checkpoint). or_next_end (end_among b log) (or_next_end o None)) (undo_no_end b (unanswered t log)) ∙ nothing_next (end_among b log)

each_front : {A : Type 0} (P : A → Type 0) (xs ys : List A) → AllByRecursion P (xs ++ ys) → AllByRecursion P xs
each_front P [] ys all = tt
each_front P (x ∷ xs) ys all = (all.0, each_front P xs ys all.1)

-- ---- what is seen of the log behind a restart

pub seen_left : {L : Type 0} {G : Ghosts L} (anchor : Anchor) (log_front : List ℕ) (log : LogDev L G) (s : RecoveryState) → IsAtRest log_front anchor log s → log_seen log ≡ log_kept anchor s.log
seen_left anchor log_front log s rest =
    let cut : cut_of_log log ≡ cut_behind anchor = ap (λ n. n - 1) rest.settled.holds.first in
    ap (λ n. padded n (records_of_log log)) cut ∙ ap (padded (cut_behind anchor)) (sym rest.records ∙ ap (λ n. drop n s.log) cut)

-- ---- a core that opens so does still, once its log buffer has learned something

pub opens_learned : (v : Version) {T V : Type 0} {G : tail.Ghosts T} {H : Ghosts V} (old new : Core T V G H) → KeepsAllButRoom old new → (cut checkpoint : ℕ) (front : List ℕ) (disk : ℕ → List ℕ)
    (found : List LogRecord) (stream_bytes : ℕ) (ready : CheckpointedStore) → OpensIn v cut checkpoint old front disk found stream_bytes ready → OpensIn v cut checkpoint new front disk found stream_bytes ready
opens_learned v old new same cut checkpoint front disk found stream_bytes ready o = record {
  first = o.first;
  slots = o.slots;
  opened = o.opened;
  counts = o.counts;
  stream = o.stream;
  next = o.next;
  is_in = in_learned old new same front disk ready.store.log o.first o.is_in;
  over = over_learned old new same disk o.first ready o.over;
}

-- ---- the open over what a restart has left

module _ (g : Geometry) (ring_bytes : ℕ) (anchor : Anchor) (rs : List LogRecord) (pages : LoggedPages) (may : MayBeOpenedBehind g ring_bytes (anchored_by anchor) rs pages)
    (works : List RecoveryEvent) (ready : CheckpointedStore) (behind : RestartsBehind (found_behind (anchored_by anchor) rs pages) works ready) where
  abbrev cut : ℕ
  cut = cut_behind anchor

  went : HasRestarted (found_behind (anchored_by anchor) rs pages) works ready
  went = restarted g ring_bytes (anchored_by anchor) rs pages may works ready behind

  its : IsRestartOf rs ready.store
  its = is_restart g ring_bytes (anchored_by anchor) rs pages may works ready behind

  same_end : end_among anchor.checkpoint ready.store.log ≡ end_among anchor.checkpoint rs
  same_end = undone_ends anchor.checkpoint rs its.turns ready.store.log its.undone

  -- what was kept is kept at the front still
  kept_front : (P : LogRecord → Type 0) → AllByRecursion P (drop cut ready.store.log) → AllByRecursion P (drop cut rs)
  kept_front P all =
      let more = undone_grows rs its.turns ready.store.log its.undone in
      each_front P (drop cut rs) more.0
      (subst (AllByRecursion P) (ap (drop cut) more.1 ∙ drop-append-le cut rs more.0 (cut_found g ring_bytes anchor rs pages may).within) all)

  module _ (first : State) (o : Opening) (opening : IsOpeningOf rs o) (opens : IsOpenedOver o ready.store first) (redone : ready.store.redone ≡ length ready.store.log)
      (next : IsNextKept (drop cut rs) (end_among anchor.checkpoint rs) first.sessions.next_txn) where
    there : IsOpeningOf ready.store.log o
    there = undone_opening o rs its.turns ready.store.log its.undone opening

    pub opened_from : (stream_bytes : ℕ) → first.stream_bytes ≡ stream_bytes → ((p : PageId) → first.counts p ≡ slot_count ready.store.log p) → HasLocksInBounds g first → o.slots ≡ slot_limit g.version
        → IsOpenedBehind g stream_bytes (anchored_by anchor) ready.store.log first
    opened_from stream_bytes long counts locks sized = record {
      slots = opens.sessions.slots ∙ sized;
      log = sym opens.stored.log;
      as_long = long;
      records = λ id. opens.sessions.records id ∙ redone_whole ready.store went.in_order.recoverable redone id.page id.slot;
      prepared = ap pairs_of opens.sessions.prepared ∙ pairs_found o.in_doubt ∙ there.in_doubt;
      active = opens.sessions.active ∙ txns_paired o.in_doubt ∙ ap (map (λ (p : ℕ × List ℕ). p.0)) there.in_doubt ∙ txns_logged (doubts_in ready.store.log);
      undo_lists = opens.sessions.undo_lists;
      counts = counts;
      some = opens.sessions.some;
      least = λ n some all end. next.least n (omega (arith, some))
          (All-from_recursion (λ (r : LogRecord). r.txn < n) (drop cut rs) (kept_front (λ (r : LogRecord). r.txn < n) all))
          (subst (λ (e : Option Checkpoint). IfSome e (λ c. c.next ≤ n)) same_end end);
      not_below = subst (λ (e : Option Checkpoint). IfSome e (λ c. c.next ≤ first.sessions.next_txn)) (sym same_end) next.not_below;
      locks = locks;
    }

  -- ---- the world

  module _ {L V : Type 0} {G : Ghosts L} {H : Ghosts V} (w : World L V G H) (log_front front : List ℕ) where
    -- the last moment of its way
    abbrev pub moment_in : Moment
    moment_in = record { log = history_in w; volume = volume_history_in w; store = ready.store }

    module _ (rest : IsAtRest log_front anchor w.log ready.store) (anchor_is : anchor_in w ≡ anchor) (left : ℕ → List ℕ)
        (opens : OpensIn g.version (cut_of_log w.log) anchor.checkpoint w.core front left rs (size (history_in w) - LOG_FRONT_BYTES) ready) where
      cut_is : cut_of_log w.log ≡ cut
      cut_is = ap (λ n. n - 1) rest.settled.holds.first

      over : IsOpenedOver (logged_opening (slot_limit g.version) rs) ready.store opens.first
      over = opens.opened (logged_opening (slot_limit g.version) rs) (opening_logged (slot_limit g.version) rs) refl

      before_is : before_in w opens.first ≡ ready.store.log
      before_is =
          ap (λ (l : List LogRecord). take (cut_in w) l ++ records_of_log w.log) (sym over.stored.log)
          ∙ ap (λ (l : List LogRecord). take (cut_in w) ready.store.log ++ l) (sym rest.records) ∙ take-append-drop (cut_in w) ready.store.log

      pub opened_at : geometry_in w ≡ g → ready.store.redone ≡ length ready.store.log → HasNoLosers ready.store.log → IsAnchored w.log log_front → w.stage ≡ stage.Resting
          → HasDoubtsBack g.max_locks (log_kept anchor rs) (control_of w.core) → IsOpenedAt w g anchor log_front front rs pages moment_in
      opened_at geometry redone quiet anchored resting doubts =
          let roomy = whole_roomy g (log_limit ring_bytes cut rs) (length rs) rs may.opened.roomy in
          record {
            geometry = geometry;
            histories = (refl, refl);
            redone = redone;
            no_losers = quiet;
            first = opens.first;
            disk = left;
            works = works;
            ready = ready;
            restarts = behind;
            store = refl;
            at = record {
              is_in = subst (λ (l : List LogRecord). IsIn front left l w.core opens.first) (sym before_is) opens.is_in;
              over = opens.over;
              log = settled_kept w log_front anchored (subst (λ (a : Anchor). IsSettledFrom a.tail a.tail_place w.log log_front) (sym anchor_is) rest.settled) rest.none_staged;
              volume = λ c may. (
                ready.store.volume,
                (λ p. inl refl),
                left_settled (heap_of w.core) front left ready.store c (opens.over.pages over.running).pages (opens.is_in.pages over.running).holds may,
              );
              stage = subst (λ (s : Stage). stages.IsAt s ready.stage) (sym resting) went.stage;
              anchored = went.anchored ∙ ap anchored_by (sym anchor_is);
            };
            over = opens.opened;
            from = opened_from opens.first (logged_opening (slot_limit g.version) rs) (opening_logged (slot_limit g.version) rs) over redone
                (subst (λ n. IsNextKept (drop n rs) (end_among anchor.checkpoint rs) opens.first.sessions.next_txn) cut_is opens.next)
                (log_limit (size (history_in w) - LOG_FRONT_BYTES) cut ready.store.log)
                (opens.stream ∙ ap (λ n. log_limit (size (history_in w) - LOG_FRONT_BYTES) n ready.store.log) cut_is) opens.counts
                (locks_in_bounds g rs roomy.placed.inside (log_kept anchor rs) (left_behind rs may.opened.lawful pages cut (cut_found g ring_bytes anchor rs pages may))
                (locks_of w.core) doubts.locks opens.first opens.is_in.beside.parts.stands.locks roomy.locks) refl;
            doubts = doubts;
          }

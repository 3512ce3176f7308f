-- Each step of the core goes on with its trail.
use Rattle.std.proofs.Common.{◌≡◌, ◌≤◌, ◌+◌, inl, inr, ℕ, List, [], ◌∷◌, ◌++◌, length, arith, refl, sym, ◌∙◌, ap, subst, append-nil, length-append, drop, true, false, IsTrue}
use Rattle.std.proofs.lemmas.List.{drop-append-le, drop-drop}
use Rattle.std.proofs.Math.Seq.{drop-append_seam}
use Rattle.shore_types.specs.declared.layout.Geometry.{Geometry}
use Rattle.shore_types.specs.declared.faults.Fault.TheVariants as fault
use Rattle.shore_check.specs.Stages as stages
use Rattle.shore_check.specs.declared.stage.Stage.{Stage}
use Rattle.shore_disk.specs.Device.{DeviceHistory, LeavesOnly, may_leave}
use Rattle.shore_disk.specs.declared.device.Disk as disk
use Rattle.shore_disk.proofs.Moments.{at_end, started, widened}
use Rattle.shore_log.specs.declared.device.LogDev.{LogDev}
use Rattle.shore_log.specs.declared.tail.Tail as tail
use Rattle.shore_log.specs.Settled.{cut_of_log, records_of_log, stable}
use Rattle.shore_heap.specs.Heaps as heaps
use Rattle.shore_heap.specs.Heaps.{LeavesPages}
use Rattle.shore_model.specs.Calls.{IsServed}
use Rattle.shore_model.specs.declared.calls.Answer.TheVariants.{Moved}
use Rattle.shore_model.specs.declared.calls.Call.{Call}
use Rattle.shore_model.specs.declared.log_records.LogRecord.{LogRecord}
use Rattle.shore_model.specs.declared.step.Step.{Step}
use Rattle.shore_model.specs.declared.step.Step.TheVariants.{Done, Waits, Refused, Nothing}
use Rattle.laws_lives.specs.Recovery.{ForceLog, RecoveryEvent, after_force}
use Rattle.laws_calls.specs.Events.{Called, EventMoves, Forced, GaveUp, HasFailed, ManagerEvent, Resumed}
use Rattle.laws_calls.specs.StateChanges.{with_durable, with_failure}
use Rattle.laws_calls.specs.States.{State}
use Rattle.laws_checkpoints.specs.Checkpoints.{Anchored, cut_of}
use Rattle.laws_checkpoints.specs.CheckpointedStores.{CheckpointedStore}
use Rattle.laws_heaps.proofs.Flushes.{left_amid}
use Rattle.laws_heaps.proofs.LoggedLeft.{left_settled}
use Rattle.laws_images.specs.Moments.{ShowsLeft}
use Rattle.laws_runs.proofs.Checkpointing.{moves_go}
use Rattle.laws_runs.proofs.UnderWay.{under_way_inside}
use Rattle.laws_runs.specs.CheckpointSteps.{CheckpointedMove, CheckpointedState, CheckpointedSteps, Checkpoints, Goes, entries_of_move, moved_to, stored_in}
use Rattle.laws_runs.specs.CheckpointedStates.{IsAtCheckpoints}
use Rattle.laws_runs.specs.StoredRuns.{Manage, Tend}
use Rattle.shore_txn.specs.Transactions.{room_in}
use Rattle.shore_core.specs.declared.core_calls.Core.{Core}
use Rattle.shore_core.specs.Checkpointing.{HasKept, MakesStep, MayGoOn, MovesTo, with_store}
use Rattle.shore_core.specs.Cores.{CoreComesTo, FailsOver, IsIn, IsKept, IsOver, IsSafe, durable_of, geometry_of, has_failed, heap_of, history_of, last_of, txns_of, waiting_of}
use Rattle.shore_core.specs.Flushing.{FlushMoves, FlushSteps}
use Rattle.shore_core.specs.Replies.{InEach, MayLeave, Stepped}
use Rattle.shore_core.specs.Replies as replies
use Rattle.shore_core.specs.Stores.{WorksOn, force_to}
use Rattle.shore_core.proofs.Works.{stores_to, works_leave, works_to}
use Rattle.shore_world.proofs.GrowLemmas.{failed_call_stays, given_up_same, failed_resume_keeps, flush_same, kept_same}
use Rattle.shore_world.specs.EventMoves.{OfCheckpoint, OfManager, PlainMove, moves_among}
use Rattle.shore_world.proofs.MadeSteps.{anchor_kept}
use Rattle.shore_world.proofs.StoredLemmas.{all_join, among_join}
use Rattle.shore_world.proofs.VolumeLemmas.{left_after_force, never_both, runs_or_failed, shows_left}
use Rattle.shore_held.specs.Comings.{Beginning, HasComeBy}

-- the bytes of its ring
abbrev pub ring_of : {T V : Type 0} {G : tail.Ghosts T} {H : disk.Ghosts V} → Core T V G H → ℕ
ring_of core = (room_in (txns_of core)).stream_bytes

module _ {T V : Type 0} {G : tail.Ghosts T} {H : disk.Ghosts V} {start : Beginning} (cut : ℕ) (kept : List LogRecord) (old : Core T V G H) (stage : Stage) (anchored : Anchored) (trail : List PlainMove)
    (h : HasComeBy start cut kept old stage anchored trail) where
  -- the manager that the core is, is under way with its checkpoint
  pub under_way : IsAtCheckpoints h.geometry h.ring_bytes start.opening start.found (start.earlier ++ h.made) h.last
  under_way = moves_go h.geometry h.ring_bytes start.opening start.found start.earlier start.first h.began h.plain h.last h.made h.moves

  pub safe : IsSafe (geometry_of old) h.last.state
  safe =
      let k = under_way.under_way in
      subst (λ (g : Geometry). IsSafe g h.last.state) (sym h.is)
      (record {
        opening = start.opening;
        found = start.found;
        entries = start.earlier ++ h.made;
        after = k.state;
        asks = λ w at there is. k.asks w there at is;
        roomy = k.roomy;
        stream_bytes = h.last.state.stream_bytes;
        leaves = k.leaves;
        inside = under_way_inside h.geometry h.last.state.stream_bytes start.opening start.found (start.earlier ++ h.made) (stored_in h.last) k;
      })

  -- what the core has come to: another state, over another store, of whose pages a crash leaves what the store may lose power with
  pub record CameTo (new : Core T V G H) (later : State) : Type 0 where
    pub left : ℕ → List ℕ
    pub works : List RecoveryEvent
    pub after : CheckpointedStore
    pub work : WorksOn h.last.store works after
    pub is_in : IsIn h.front left h.before new later
    pub over : IsOver left new later after
    pub volume : (image : List ℕ) → may_leave (history_of new) image → ShowsLeft h.geometry h.front after.store image

  -- ---- by one move

  module _ (new : Core T V G H) (same : geometry_of new ≡ geometry_of old) (ring : ring_of new ≡ ring_of old) (last : CheckpointedState) (plain : CheckpointedMove) (steps : CheckpointedSteps h.geometry h.last plain last) where
    pub by : (stage' : Stage) (anchored' : Anchored) (left : ℕ → List ℕ) → IsIn h.front left h.before new last.state → IsOver left new last.state last.store
        → ((image : List ℕ) → may_leave (history_of new) image → ShowsLeft h.geometry h.front last.store.store image)
        → stages.IsAt stage' last.store.stage → last.store.anchored ≡ anchored' → HasComeBy start cut kept new stage' anchored' (trail ++ moves_among (plain ∷ []))
    by stage' anchored' left is_in over volume at anchored_is = record {
      geometry = h.geometry;
      is = same ∙ h.is;
      ring_bytes = h.ring_bytes;
      ring = ring ∙ h.ring;
      began = h.began;
      plain = h.plain ++ plain ∷ [];
      made = h.made ++ entries_of_move h.last plain last;
      last = last;
      moves = all_join h.geometry start.first h.plain h.last h.made (plain ∷ []) last (entries_of_move h.last plain last) h.moves
          (last, [], steps, (refl, refl), sym (append-nil (entries_of_move h.last plain last)));
      are = among_join h.plain (plain ∷ []) ∙ ap (λ (l : List PlainMove). l ++ moves_among (plain ∷ [])) h.are;
      before = h.before;
      cut_off = h.cut_off;
      kept_is = h.kept_is;
      front = h.front;
      is_front = h.is_front;
      labelled = h.labelled;
      disk = left;
      is_in = is_in;
      over = over;
      volume = volume;
      at = at;
      anchored_is = anchored_is;
    }

  module _ (new : Core T V G H) (same : geometry_of new ≡ geometry_of old) (ring : ring_of new ≡ ring_of old) (later : State) (came : CameTo new later) where
    abbrev after : CheckpointedState
    after = record { state = later; store = came.after }

    goes : (plain : CheckpointedMove) → CheckpointedSteps h.geometry h.last plain after → HasComeBy start cut kept new stage anchored (trail ++ moves_among (plain ∷ []))
    goes plain steps =
        let keep = works_leave h.last.store came.works came.after came.work in
        by new same ring after plain steps stage anchored came.left came.is_in came.over came.volume
        (subst (stages.IsAt stage) (sym keep.0) h.at) (keep.1 ∙ h.anchored_is)

    -- by an event of the manager
    goes_on : (e : ManagerEvent) → EventMoves (geometry_of old) h.last.state e later → HasComeBy start cut kept new stage anchored (trail ++ OfManager e ∷ [])
    goes_on e moves =
        goes (Goes (Manage e came.works))
        ((subst (λ (g : Geometry). EventMoves g h.last.state e later) h.is moves, works_to h.last.store came.works came.after came.work, came.over.kept.stored), stores_to h.last.store came.works came.after came.work)

    -- by work between two events
    is_tended : later ≡ h.last.state → HasComeBy start cut kept new stage anchored trail
    is_tended is = subst (HasComeBy start cut kept new stage anchored) (append-nil trail)
        (goes (Goes (Tend came.works)) ((is, works_to h.last.store came.works came.after came.work, came.over.kept.stored), stores_to h.last.store came.works came.after came.work))

  -- ---- what a crash leaves of the volume

  -- at any moment of a step, pages that the store may lose power with
  pub volume_amid : (new : Core T V G H) → MayLeave old new → (IsTrue (has_failed old) → heap_of new ≡ heap_of old)
      → LeavesOnly (history_of old) (history_of new) (ShowsLeft h.geometry h.front h.last.store.store)
  volume_amid new leaves still = elim (runs_or_failed h.last.state.failed) [
    | inl runs ↦
        let durable = sym (h.over.kept.stored.durable ∙ h.is_in.beside.parts.durable_is) in
        let amid = widened (history_of old) (history_of new) (LeavesPages (heap_of old) (durable_of old) h.front h.disk) (ShowsLeft (geometry_of old) h.front h.last.store.store)
        (leaves h.front h.disk (h.is_in.pages runs).holds)
        (λ c left. left_amid (heap_of old) (durable_of old) h.front h.disk h.last.store.store c (h.over.pages runs).pages left (omega (arith, durable))) in
        subst (λ (g : Geometry). LeavesOnly (history_of old) (history_of new) (ShowsLeft g h.front h.last.store.store)) h.is amid
    | inr fails ↦
        subst (λ (y : DeviceHistory). LeavesOnly (history_of old) y (ShowsLeft h.geometry h.front h.last.store.store))
        (sym (ap heaps.history_of (still (sym h.is_in.beside.parts.failed_is ∙ fails)))) (started (history_of old) (ShowsLeft h.geometry h.front h.last.store.store) h.volume)
  ]

  module _ (new : Core T V G H) (same : geometry_of new ≡ geometry_of old) (later : State) (comes : CoreComesTo new h.front h.before h.last.store later) where
    pub running : later.failed ≡ false → CameTo new later
    running runs = record {
      left = comes.left;
      works = comes.works;
      after = comes.after;
      work = comes.work;
      is_in = comes.is_in;
      over = comes.over;
      volume = λ c may. subst (λ (g : Geometry). ShowsLeft g h.front comes.after.store c) (same ∙ h.is)
          (comes.after.store.volume, (λ p. inl refl), left_settled (heap_of new) h.front comes.left comes.after.store c (comes.over.pages runs).pages (comes.is_in.pages runs).holds may);
    }

    -- a call that had worked before the volume failed
    pub failing : later.failed ≡ true → FailsOver new h.front later h.last.store → CameTo new later
    failing failed over = record {
      left = comes.left;
      works = over.behind.works;
      after = over.behind.after;
      work = over.behind.work;
      is_in = comes.is_in;
      over = record { kept = over.behind.kept; pages = λ runs. never_both later.failed failed runs };
      volume = λ c may. subst (λ (g : Geometry). ShowsLeft g h.front over.behind.after.store c) (same ∙ h.is) (over.left c may);
    }

    -- a step that has worked on no record as the volume failed
    pub torn : LeavesOnly (history_of old) (history_of new) (ShowsLeft h.geometry h.front h.last.store.store) → later.failed ≡ true → IsKept later h.last.store → CameTo new later
    torn leaves failed keeps = record {
      left = comes.left;
      works = [];
      after = h.last.store;
      work = refl;
      is_in = comes.is_in;
      over = record { kept = keeps; pages = λ runs. never_both later.failed failed runs };
      volume = λ c may. at_end (history_of old) (history_of new) (ShowsLeft h.geometry h.front h.last.store.store) leaves c may;
    }

  -- ---- the steps

  abbrev Come : Core T V G H → List PlainMove → Type 0
  Come new more = HasComeBy start cut kept new stage anchored (trail ++ more)

  pub called : (new : Core T V G H) (session : ℕ) (c : Call) (step : Step) → geometry_of new ≡ geometry_of old → ring_of new ≡ ring_of old → IsServed c
      → InEach (λ front disk before s store. Stepped session c step old new front before s store) old
      → MayLeave old new → (IsTrue (has_failed old) → heap_of new ≡ heap_of old) → Come new (OfManager (Called session c step) ∷ [])
  called new session c step same ring served each leaves still =
      let s = each h.front h.disk h.before h.last.state h.last.store h.is_in safe h.over in
      let amid = volume_amid new leaves still in
      let came : CameTo new s.later = elim (runs_or_failed s.later.failed) [
        | inl runs ↦ running new same s.later s.comes runs
        | inr fails ↦ elim (runs_or_failed h.last.state.failed) [
          | inl ran ↦ failing new same s.later s.comes fails (s.fails (sym h.is_in.beside.parts.failed_is ∙ ran) fails)
          | inr before ↦
              torn new same s.later s.comes amid fails
              (subst (λ (x : State). IsKept x h.last.store) (sym (failed_call_stays (geometry_of old) h.last.state session c step s.later s.moves before)) h.over.kept)
        ]
      ] in
      goes_on new same ring s.later came (Called session c step) (served, s.moves)

  pub resumed : (new : Core T V G H) (session : ℕ) (step : Step) → geometry_of new ≡ geometry_of old → ring_of new ≡ ring_of old
      → InEach (λ front disk before s store. replies.Resumed session step old new front before s store) old
      → MayLeave old new → (IsTrue (has_failed old) → heap_of new ≡ heap_of old) → Come new (OfManager (Resumed session step) ∷ [])
  resumed new session step same ring each leaves still =
      let s = each h.front h.disk h.before h.last.state h.last.store h.is_in safe h.over in
      let came : CameTo new s.later = elim (runs_or_failed s.later.failed) [
        | inl runs ↦ running new same s.later s.comes runs
        | inr fails ↦
            torn new same s.later s.comes (volume_amid new leaves still) fails
            (kept_same h.last.state s.later h.last.store (failed_resume_keeps (geometry_of old) h.last.state session step s.later s.moves fails) h.over.kept)
      ] in
      goes_on new same ring s.later came (Resumed session step) s.moves

  pub given_up : (new : Core T V G H) (session : ℕ) (step : Step) → geometry_of new ≡ geometry_of old → ring_of new ≡ ring_of old
      → InEach (λ front disk before s store. replies.GaveUp session step old new front before s store) old
      → MayLeave old new → heap_of new ≡ heap_of old → Come new (OfManager (GaveUp session step) ∷ [])
  given_up new session step same ring each leaves still =
      let s = each h.front h.disk h.before h.last.state h.last.store h.is_in safe h.over in
      let came : CameTo new s.later = elim (runs_or_failed s.later.failed) [
        | inl runs ↦ running new same s.later s.comes runs
        | inr fails ↦
            torn new same s.later s.comes (volume_amid new leaves (λ failed. still)) fails
            (kept_same h.last.state s.later h.last.store (given_up_same h.last.state session step s.later s.moves) h.over.kept)
      ] in
      goes_on new same ring s.later came (GaveUp session step) s.moves

  -- what leaves the heap leaves the volume
  module _ (new : Core T V G H) (heap : heap_of new ≡ heap_of old) (ring : ring_of new ≡ ring_of old) where
    same_geometry : geometry_of new ≡ geometry_of old
    same_geometry = ap heaps.geometry_of heap

    pub volume_still : (image : List ℕ) → may_leave (history_of new) image → ShowsLeft h.geometry h.front h.last.store.store image
    volume_still c may = h.volume c (subst (λ (y : DeviceHistory). may_leave y c) (ap heaps.history_of heap) may)

    pub told : (n : ℕ) → durable_of old ≤ n → n ≤ last_of old
        → InEach (λ front disk before s store. IsIn front disk before new (with_durable n s) × IsOver disk new (with_durable n s) (force_to store n)) old → Come new (OfManager (Forced n) ∷ [])
    told n more within each =
        let is = each h.front h.disk h.before h.last.state h.last.store h.is_in safe h.over in
        let parts = h.is_in.beside.parts in
        let store = h.last.store in
        let long : length h.last.state.log ≡ length h.before + length (waiting_of old) = ap length parts.log ∙ length-append h.before (waiting_of old) in
        let logged : n ≤ length h.last.state.log = omega (arith, within, long, h.is_in.beside.first) in
        let durable : h.last.state.durable ≤ n = omega (arith, more, parts.durable_is) in
        let stored = h.over.kept.stored in
        let stands : store.store.durable ≤ n = omega (arith, durable, stored.durable) in
        let inside : n ≤ length store.store.log = omega (arith, logged, ap length stored.log) in
        goes_on new same_geometry ring (with_durable n h.last.state)
        (record {
          left = h.disk;
          works = ForceLog n ∷ [];
          after = force_to store n;
          work = (tt, after_force store.store n, (stands, inside, refl), refl);
          is_in = is.0;
          over = is.1;
          volume = λ c may. shows_left h.geometry h.front store.store (after_force store.store n) refl (left_after_force store.store n stands) c (volume_still c may);
        })
        (Forced n) (durable, logged, refl)

    pub failed : InEach (λ front disk before s store. IsIn front disk before new (with_failure s) × IsOver disk new (with_failure s) store) old → Come new (OfManager HasFailed ∷ [])
    failed each =
        let is = each h.front h.disk h.before h.last.state h.last.store h.is_in safe h.over in
        goes_on new same_geometry ring (with_failure h.last.state)
        (record { left = h.disk; works = []; after = h.last.store; work = refl; is_in = is.0; over = is.1; volume = volume_still }) HasFailed refl

    -- by nothing: the core is the same but for the facts that it carries
    pub is_like : ((front : List ℕ) (disk : ℕ → List ℕ) (before : List LogRecord) (s : State) → IsIn front disk before old s → IsIn front disk before new s)
        → ((disk : ℕ → List ℕ) (s : State) (store : CheckpointedStore) → IsOver disk old s store → IsOver disk new s store) → HasComeBy start cut kept new stage anchored trail
    is_like state over = is_tended new same_geometry ring h.last.state (record {
      left = h.disk;
      works = [];
      after = h.last.store;
      work = refl;
      is_in = state h.front h.disk h.before h.last.state h.is_in;
      over = over h.disk h.last.state h.last.store h.over;
      volume = volume_still;
    }) refl

  -- by a step of the flush
  module _ (new : Core T V G H) (same : geometry_of new ≡ geometry_of old) (ring : ring_of new ≡ ring_of old) (leaves : MayLeave old new) (still : IsTrue (has_failed old) → heap_of new ≡ heap_of old) where
    pub flush_came : (step : Step) (s : FlushSteps step new h.front h.before h.last.state h.last.store) → CameTo new s.later
    flush_came step s = elim (runs_or_failed s.later.failed) [
      | inl runs ↦ running new same s.later s.comes runs
      | inr fails ↦ torn new same s.later s.comes (volume_amid new leaves still) fails (kept_same h.last.state s.later h.last.store (flush_same h.last.state step s.later s.moves) h.over.kept)
    ]

    pub flushed : (step : Step) → ¬ (step ≡ Refused fault.Device) → InEach (λ front disk before s store. FlushSteps step new front before s store) old → HasComeBy start cut kept new stage anchored trail
    flushed step other each =
        let s = each h.front h.disk h.before h.last.state h.last.store h.is_in safe h.over in
        is_tended new same ring s.later (flush_came step s) (stays step s.later other s.moves)
      where
        stays : (step : Step) (later : State) → ¬ (step ≡ Refused fault.Device) → FlushMoves h.last.state step later → later ≡ h.last.state
        stays (Done answer) later other p = p.2
        stays (Waits wait) later other p = absurd p
        stays (Refused f) later other (inl p) = p.2
        stays (Refused f) later other (inr (running, device, is)) = absurd (other (ap Refused device))
        stays Nothing later other p = p.1

    pub flush_failed : InEach (λ front disk before s store. FlushSteps (Refused fault.Device) new front before s store) old → Come new (OfManager HasFailed ∷ [])
    flush_failed each =
        let s = each h.front h.disk h.before h.last.state h.last.store h.is_in safe h.over in
        goes_on new same ring s.later (flush_came (Refused fault.Device) s) HasFailed (device s.later s.moves)
      where
        device : (later : State) → FlushMoves h.last.state (Refused fault.Device) later → later ≡ with_failure h.last.state
        device later (inl p) = let clash : fault.Device ≡ fault.Failed = p.1 in cc
        device later (inr (running, of_device, is)) = is

  -- ---- a checkpoint

  pub may_go : MayGoOn stage (with_store h.last.state h.last.store)
  may_go = let k = under_way in record { at = h.at; in_order = k.in_order; room = k.room }

  -- of all that is kept, the device has the first records, which are these, if it has cut off as many as the anchor says
  pub has_kept : {D : Type 0} {L : disk.Ghosts D} (log : LogDev D L) (gone rest : List LogRecord) → kept ++ waiting_of old ≡ gone ++ (records_of_log log ++ rest) → cut_of_log log ≡ cut + length gone
      → anchored.tail ≡ cut_of_log log + 1 → cut_of_log log + length (stable log) ≡ durable_of old → HasKept log (with_store h.last.state h.last.store)
  has_kept log gone rest parts cut_off tail forced =
      let so : cut_of_log log ≡ cut_of h.last.store.anchored = omega (arith, tail, ap (λ a. a.tail) h.anchored_is) in
      let all : h.last.state.log ≡ h.before ++ waiting_of old = h.is_in.beside.parts.log in
      let first : drop cut (h.before ++ waiting_of old) ≡ kept ++ waiting_of old = drop-append-le cut h.before (waiting_of old) h.cut_off ∙ ap (λ l. l ++ waiting_of old) h.kept_is in
      record {
        cut = so;
        coming = rest;
        kept =
            ap (λ n. drop n h.last.state.log) (sym so ∙ cut_off) ∙ ap (drop (cut + length gone)) all ∙ sym (drop-drop (length gone) cut (h.before ++ waiting_of old))
            ∙ ap (drop (length gone)) (first ∙ parts) ∙ drop-append_seam gone (records_of_log log ++ rest);
        forced = forced ∙ sym h.is_in.beside.parts.durable_is;
      }

  -- a step that is refused since a device had failed before
  pub checkpoint_refused : IsTrue h.last.state.failed → HasComeBy start cut kept old stage anchored (trail ++ OfCheckpoint (Refused fault.Failed) ∷ [])
  checkpoint_refused fails =
      by old refl refl h.last (Checkpoints (Refused fault.Failed)) (inl (fails, refl, refl)) stage anchored h.disk h.is_in h.over h.volume h.at h.anchored_is

  module _ (new : Core T V G H) (heap : heap_of new ≡ heap_of old) (ring : ring_of new ≡ ring_of old) (stage' : Stage) where
    -- a step that moves no anchor, while no device has failed
    pub checkpointed : (step : Step) → (step ≡ Done Moved → ⊥) → (made : MakesStep step stage' new h.front h.disk h.before (with_store h.last.state h.last.store)) → made.later.state.failed ≡ false
        → HasComeBy start cut kept new stage' anchored (trail ++ OfCheckpoint step ∷ [])
    checkpointed step isnt made runs =
        let later = made.later in
        by new (ap heaps.geometry_of heap) ring later (Checkpoints step) made.moves stage' anchored h.disk made.comes.is_in made.comes.over
        (λ c may. subst (λ (g : Geometry). ShowsLeft g h.front later.store.store c) (ap heaps.geometry_of heap ∙ h.is)
        (later.store.store.volume, (λ p. inl refl), left_settled (heap_of new) h.front h.disk later.store.store c (made.comes.over.pages runs).pages (made.comes.is_in.pages runs).holds may))
        made.comes.at (anchor_kept (with_store h.last.state h.last.store) step later made.moves isnt ∙ h.anchored_is)

    -- the move of the anchor
    pub moved : (a : Anchored) → h.last.state.failed ≡ false → MovesTo a (Done Moved) stage' new h.front h.disk h.before (with_store h.last.state h.last.store)
        → HasComeBy start cut kept new stage' a (trail ++ OfCheckpoint (Done Moved) ∷ [])
    moved a runs made =
        let later = moved_to (with_store h.last.state h.last.store) a in
        by new (ap heaps.geometry_of heap) ring later (Checkpoints (Done Moved)) made.moves stage' a h.disk made.comes.is_in made.comes.over
        (λ c may. subst (λ (g : Geometry). ShowsLeft g h.front later.store.store c) (ap heaps.geometry_of heap ∙ h.is)
        (later.store.store.volume, (λ p. inl refl), left_settled (heap_of new) h.front h.disk later.store.store c (made.comes.over.pages runs).pages (made.comes.is_in.pages runs).holds may))
        made.comes.at refl

-- The same core over another log buffer is as far, if the records before it and there are the same.
pub over_another : {T U V : Type 0} {G : tail.Ghosts T} {K : tail.Ghosts U} {H : disk.Ghosts V} {start : Beginning} (cut : ℕ) (kept : List LogRecord) (old : Core T V G H) (new : Core U V K H) (stage : Stage) (anchored : Anchored) (trail : List PlainMove)
    → heap_of new ≡ heap_of old → ring_of new ≡ ring_of old
    → ((front : List ℕ) (disk : ℕ → List ℕ) (before : List LogRecord) (s : State) → IsIn front disk before old s → IsIn front disk before new s)
    → ((disk : ℕ → List ℕ) (s : State) (store : CheckpointedStore) → IsOver disk old s store → IsOver disk new s store)
    → HasComeBy start cut kept old stage anchored trail → HasComeBy start cut kept new stage anchored trail
over_another cut kept old new stage anchored trail heap ring state over h = record {
  geometry = h.geometry;
  is = ap heaps.geometry_of heap ∙ h.is;
  ring_bytes = h.ring_bytes;
  ring = ring ∙ h.ring;
  began = h.began;
  plain = h.plain;
  made = h.made;
  last = h.last;
  moves = h.moves;
  are = h.are;
  before = h.before;
  cut_off = h.cut_off;
  kept_is = h.kept_is;
  front = h.front;
  is_front = h.is_front;
  labelled = h.labelled;
  disk = h.disk;
  is_in = state h.front h.disk h.before h.last.state h.is_in;
  over = over h.disk h.last.state h.last.store h.over;
  volume = λ c may. h.volume c (subst (λ (y : DeviceHistory). may_leave y c) (ap heaps.history_of heap) may);
  at = h.at;
  anchored_is = h.anchored_is;
}

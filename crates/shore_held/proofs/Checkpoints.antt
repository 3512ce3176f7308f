-- A step of a checkpoint goes on with the trail of the core and with what is kept of the log device.
use Rattle.std.proofs.Common.{◌≡◌, inl, inr, ◌≤◌, ◌<◌, ◌+◌, ◌-◌, ℕ, List, [], ◌∷◌, ◌++◌, length, take, false, IsTrue, arith, refl, sym, ap, subst, ◌∙◌, append_assoc}
use Rattle.std.proofs.lemmas.List.{length-take}
use Rattle.shore_types.specs.declared.faults.Fault.TheVariants as fault
use Rattle.shore_types.specs.declared.layout.TheConstants.{LAST_OPENED}
use Rattle.shore_gate.specs.declared.anchors.Anchors.{Anchors}
use Rattle.shore_disk.specs.declared.device.Disk as disk
use Rattle.shore_heap.specs.Heaps as heaps
use Rattle.shore_log.specs.declared.device.LogDev.{LogDev}
use Rattle.shore_log.specs.declared.tail.Tail as tail
use Rattle.shore_log.specs.Settled.{FreesBelow, HoldsFrom, anchor_of, cut_of_log, records_of_log, stable}
use Rattle.shore_check.specs.Stages as stages
use Rattle.shore_check.specs.declared.stage.Mark.{Mark}
use Rattle.shore_check.specs.declared.stage.Named.{Named}
use Rattle.shore_check.specs.declared.stage.Stage.{Stage}
use Rattle.shore_check.specs.declared.stage.Stage.TheVariants as variant
use Rattle.shore_model.specs.declared.calls.Answer.TheVariants.{Moved}
use Rattle.shore_model.specs.declared.log_records.LogRecord.{LogRecord}
use Rattle.shore_model.specs.declared.step.Step.{Step}
use Rattle.shore_model.specs.declared.step.Step.TheVariants.{Done, Refused}
use Rattle.shore_txn.specs.Transactions.{room_in}
use Rattle.laws_calls.specs.StateChanges.{with_failure}
use Rattle.laws_checkpoints.specs.Checkpoints.{Anchored, cut_of, cut_point}
use Rattle.laws_checkpoints.specs.CheckpointedStores.{AnchorLogged}
use Rattle.laws_checkpoints.specs.StoresInOrder.{IsStageRight}
use Rattle.laws_checkpoints.proofs.Cuts.{point_at_begin}
use Rattle.laws_checkpoints.proofs.Ends.{end_stands}
use Rattle.laws_images.specs.StandsBehind.{anchored_by}
use Rattle.laws_lives.proofs.UndoRecords.{lawful_front}
use Rattle.laws_runs.specs.CheckpointedStates.{BeganBehind}
use Rattle.laws_runs.proofs.MovedAnchors.{cost_between, cost_of_front}
use Rattle.laws_runs.specs.CheckpointSteps.{Checkpoints, IsNextAnchor, freed_to}
use Rattle.shore_core.specs.Checkpointing.{HasKept, MakesStep, MayGoOn, MovesTo, StepsCheckpoint, with_store}
use Rattle.shore_core.specs.declared.checkpointing.CheckpointStep.{CheckpointStep}
use Rattle.shore_core.specs.declared.checkpointing.CheckpointStep.TheVariants as made
use Rattle.shore_core.specs.declared.core_calls.Core.{Core}
use Rattle.shore_core.specs.Cores.{IsIn, IsOver, durable_of, has_failed, heap_of, txns_of, waiting_of}
use Rattle.shore_core.specs.Replies.{InEach}
use Rattle.shore_core.proofs.CheckpointSteps.{freed_is}
use Rattle.shore_world.specs.EventMoves.{OfCheckpoint, PlainMove}
use Rattle.shore_world.proofs.VolumeLemmas.{runs_or_failed}
use Rattle.shore_held.specs.Comings.{Beginning, HasComeBy}
use Rattle.shore_held.specs.Logs.{AreMet, LogState}
use Rattle.shore_held.proofs.Comings.{by, checkpoint_refused, checkpointed, has_kept, may_go, moved, ring_of, safe, under_way, volume_still}

-- the step that was made
abbrev step_in : CheckpointStep → Step → Step
step_in (made.Made step) other = step
step_in (made.Move mark) other = other

module _ {T V : Type 0} {G : tail.Ghosts T} {H : disk.Ghosts V} {start : Beginning} (cut : ℕ) (kept : List LogRecord) (old : Core T V G H) (stage : Stage) (anchored : Anchored) (trail : List PlainMove)
    (h : HasComeBy start cut kept old stage anchored trail) where
  running_in : has_failed old ≡ false → h.last.state.failed ≡ false
  running_in runs = h.is_in.beside.parts.failed_is ∙ runs

  -- with both locks, where the log device has these records, and those more that wait to be taken in
  module _ {D : Type 0} {L : disk.Ghosts D} (log : LogDev D L) (held : LogState) (waits : List LogRecord) (anchors_are : held.anchors ≡ log.anchors) (cut_is : held.cut ≡ cut_of_log log) (list_is : held.list ≡ records_of_log log ++ waits)
      (stable_is : held.stable ≡ stable log) (met : AreMet cut kept (waiting_of old) (durable_of old) anchored held) where
    kept_now : HasKept log (with_store h.last.state h.last.store)
    kept_now = has_kept cut kept old stage anchored trail h log met.gone (waits ++ met.coming)
        (met.parts ∙ ap (λ l. met.gone ++ (l ++ met.coming)) list_is ∙ ap (λ l. met.gone ++ l) (append_assoc (records_of_log log) waits met.coming))
        (omega (arith, met.cut_off, cut_is)) (omega (arith, ap (λ a. a.tail) met.anchored_is, met.first, cut_is)) (omega (arith, met.durable_is, cut_is, ap length stable_is))

    -- ---- a step that calls no device

    pub step_made : (new : Core T V G H) (later : Stage) (result : CheckpointStep) (step : Step) → result ≡ made.Made step → heap_of new ≡ heap_of old → ring_of new ≡ ring_of old → has_failed new ≡ has_failed old
        → (step ≡ Done Moved → ⊥) → (IsTrue (has_failed old) → (result ≡ made.Made (Refused fault.Failed)) × (new ≡ old) × (later ≡ stage))
        → (tail place : ℕ) (groups : List (List LogRecord)) → HoldsFrom tail place log groups
        → ((tail place : ℕ) (groups : List (List LogRecord)) → HoldsFrom tail place log groups → InEach (λ front disk before s store.
        HasKept log (with_store s store) → MayGoOn stage (with_store s store) → StepsCheckpoint result later new front disk before (with_store s store)) old)
        → HasComeBy start cut kept new later anchored (trail ++ OfCheckpoint step ∷ [])
    step_made new later result step is heap ring fails isnt refused tail place groups holds each = elim (runs_or_failed (has_failed old)) [
      | inl runs ↦
          let went = each tail place groups holds h.front h.disk h.before h.last.state h.last.store h.is_in (safe cut kept old stage anchored trail h) h.over kept_now (may_go cut kept old stage anchored trail h) in
          let makes : MakesStep step later new h.front h.disk h.before (with_store h.last.state h.last.store) = subst (λ (r : CheckpointStep). StepsCheckpoint r later new h.front h.disk h.before (with_store h.last.state h.last.store)) is went in
          checkpointed cut kept old stage anchored trail h new heap ring later step isnt makes (makes.comes.is_in.beside.parts.failed_is ∙ fails ∙ runs)
      | inr failed ↦
          let same = refused failed in
          let refusal : step ≡ Refused fault.Failed = sym (ap (λ (r : CheckpointStep). step_in r step) is) ∙ ap (λ (r : CheckpointStep). step_in r step) same.0 in
          subst (λ (s : Step). HasComeBy start cut kept new later anchored (trail ++ OfCheckpoint s ∷ [])) (sym refusal)
          (subst (λ (c : Core T V G H). HasComeBy start cut kept c later anchored (trail ++ OfCheckpoint (Refused fault.Failed) ∷ [])) (sym same.1)
          (subst (λ (t : Stage). HasComeBy start cut kept old t anchored (trail ++ OfCheckpoint (Refused fault.Failed) ∷ [])) (sym same.2)
          (checkpoint_refused cut kept old stage anchored trail h (h.is_in.beside.parts.failed_is ∙ failed))))
    ]

    -- ---- the move of the anchor

    -- the log device may make it
    pub may_be_moved : (mark : Mark) (named : Named) → stage ≡ variant.Named named → named.mark ≡ mark → named.number ≤ durable_of old
        → ((anchor_of log).checkpoint < mark.checkpoint) × (mark.checkpoint ≤ cut_of_log log + length (stable log)) × (cut_of_log log < mark.tail) × (mark.tail ≤ mark.checkpoint) × (mark.tail ≤ LAST_OPENED)
    may_be_moved mark named at_named says durable =
        let up = under_way cut kept old stage anchored trail h in
        let store = h.last.store in
        let is = subst (λ (t : Stage). stages.IsAt t store.stage) at_named h.at in
        let c = is.0 in
        let n = is.1 in
        let logged : store.stage ≡ AnchorLogged c n = is.2 in
        let right = subst (IsStageRight store) logged up.in_order.stage_right in
        let began : store.anchored.checkpoint < c.begin = subst (BeganBehind store.anchored.checkpoint) logged up.later in
        let end = end_stands (take n store.store.log) (lawful_front store.store.log n up.in_order.lawful) c.begin c right.1.1 in
        let behind = end.behind in
        let inside = end.within in
        let long = length-take n store.store.log in
        let number : named.number ≡ n = is.3.number in
        let checkpoint : mark.checkpoint ≡ c.begin = ap (λ (m : Mark). m.checkpoint) (sym says ∙ is.3.mark) in
        let tail : mark.tail ≡ cut_point c = ap (λ (m : Mark). m.tail) (sym says ∙ is.3.mark) in
        let point = point_at_begin c in
        let no_lower = right.0.no_lower in
        let same : store.anchored ≡ anchored_by (anchor_of log) = h.anchored_is ∙ met.anchored_is ∙ ap (λ (a : Anchors). anchored_by a.anchor) anchors_are in
        let old_checkpoint = ap (λ (a : Anchored). a.checkpoint) same in
        let old_tail = ap (λ (a : Anchored). a.tail) same in
        let within : mark.checkpoint ≤ cut_of_log log + length (stable log) =
        omega (arith, checkpoint, behind, inside, long, number, durable, met.durable_is, cut_is, ap length stable_is) in (
          omega (arith, began, checkpoint, old_checkpoint),
          within,
          omega (arith, tail, no_lower, old_tail, log.anchored.0, log.gone_below),
          omega (arith, tail, point, checkpoint),
          omega (arith, tail, point, checkpoint, within, met.durable_is, cut_is, ap length stable_is, old.forced, old.numbers),
        )

    module _ (mark : Mark) (named : Named) (at_named : stage ≡ variant.Named named) (says : named.mark ≡ mark) (durable : named.number ≤ durable_of old) (low : cut_of_log log < mark.tail) where
      -- any anchor of this checkpoint from this tail on, that is kept and no higher than the mark's, is one that the move makes
      is_next : (a : Anchored) → a.checkpoint ≡ mark.checkpoint → anchored.tail ≤ a.tail → a.tail ≤ mark.tail → IsNextAnchor h.last.store a
      is_next a checkpoint above below =
          let is = subst (λ (t : Stage). stages.IsAt t h.last.store.stage) at_named h.at in
          let c = is.0 in
          let n = is.1 in
          let durable_is = h.over.kept.stored.durable ∙ h.is_in.beside.parts.durable_is in
          let number : named.number ≡ n = is.3.number in
          let begin : mark.checkpoint ≡ c.begin = ap (λ (m : Mark). m.checkpoint) (sym says ∙ is.3.mark) in
          let point : mark.tail ≡ cut_point c = ap (λ (m : Mark). m.tail) (sym says ∙ is.3.mark) in
          (c, n, is.2, omega (arith, durable, number, durable_is), checkpoint ∙ begin, omega (arith, above, ap (λ x. x.tail) h.anchored_is), omega (arith, below, point))

      -- no more is freed than is kept
      freed_room : (tail : ℕ) → h.last.store.anchored.tail ≤ tail → freed_to (with_store h.last.state h.last.store) tail ≤ (room_in (txns_of old)).kept
      freed_room tail rises =
          let log_is = h.last.state.log in
          let first = cut_of h.last.store.anchored in
          let below : first ≤ tail - 1 = omega (arith, rises) in
          let parts = cost_between log_is first (tail - 1) below in
          let front = cost_of_front log_is (tail - 1) in
          let room = h.is_in.beside.parts.stands.txns.room in
          let limit = (under_way cut kept old stage anchored trail h).limit in
          omega (arith, parts, front, h.ring, room, limit)

      -- the device has moved it there
      pub anchor_moved : (new : Core T V G H) (later : Stage) (step : Step) (behind : LogDev D L) (freed : ℕ) → has_failed old ≡ false → heap_of new ≡ heap_of old → ring_of new ≡ ring_of old
          → FreesBelow log mark.tail (anchor_of behind).tail freed → step ≡ Done Moved
          → InEach (λ front disk before s store. (a : Anchored) → s.failed ≡ false → IsNextAnchor store a → freed ≡ freed_to (with_store s store) a.tail → freed ≤ (room_in (txns_of old)).kept
          → MovesTo a step later new front disk before (with_store s store)) old
          → HasComeBy start cut kept new later (record { checkpoint = mark.checkpoint; tail = (anchor_of behind).tail }) (trail ++ OfCheckpoint step ∷ [])
      anchor_moved new later step behind freed runs heap ring frees is each =
          let a : Anchored = record { checkpoint = mark.checkpoint; tail = (anchor_of behind).tail } in
          let above : anchored.tail ≤ a.tail = omega (arith, ap (λ x. x.tail) met.anchored_is, met.first, cut_is, frees.from) in
          let next = is_next a refl above frees.below in
          let frees_so = freed_is log h.last.state h.last.store kept_now mark.tail a.tail freed frees in
          let room = freed_room a.tail (omega (arith, above, ap (λ x. x.tail) h.anchored_is)) in
          let went = each h.front h.disk h.before h.last.state h.last.store h.is_in (safe cut kept old stage anchored trail h) h.over a (running_in runs) next frees_so (omega (arith, frees_so, room)) in
          subst (λ (s : Step). HasComeBy start cut kept new later a (trail ++ OfCheckpoint s ∷ [])) (sym is)
          (moved cut kept old stage anchored trail h new heap ring later a (running_in runs) (subst (λ (s : Step). MovesTo a s later new h.front h.disk h.before (with_store h.last.state h.last.store)) is went))

      -- the device has failed in it
      pub move_failed : (new : Core T V G H) (step : Step) → has_failed old ≡ false → heap_of new ≡ heap_of old → ring_of new ≡ ring_of old → step ≡ Refused fault.Device
          → InEach (λ front disk before s store. IsIn front disk before new (with_failure s) × IsOver disk new (with_failure s) store) old
          → HasComeBy start cut kept new stage anchored (trail ++ OfCheckpoint step ∷ [])
      move_failed new step runs heap ring is each =
          let a : Anchored = record { checkpoint = mark.checkpoint; tail = anchored.tail } in
          let next = is_next a refl (omega arith) (omega (arith, ap (λ x. x.tail) met.anchored_is, met.first, cut_is, low)) in
          let to = each h.front h.disk h.before h.last.state h.last.store h.is_in (safe cut kept old stage anchored trail h) h.over in
          subst (λ (s : Step). HasComeBy start cut kept new stage anchored (trail ++ OfCheckpoint s ∷ [])) (sym is)
          (by cut kept old stage anchored trail h new (ap heaps.geometry_of heap) ring (with_store (with_failure h.last.state) h.last.store) (Checkpoints (Refused fault.Device))
          (inr (running_in runs, inr (inr (refl, (a, next), refl)))) stage anchored h.disk to.0 to.1
          (volume_still cut kept old stage anchored trail h new heap ring) h.at h.anchored_is)

-- of the same trail, and the same anchor
pub come_as : {T V : Type 0} {G : tail.Ghosts T} {H : disk.Ghosts V} {start : Beginning} (cut : ℕ) (kept : List LogRecord) (core : Core T V G H) (stage : Stage) (anchored other : Anchored) (trail same : List PlainMove) → other ≡ anchored → same ≡ trail
    → HasComeBy start cut kept core stage anchored trail → HasComeBy start cut kept core stage other same
come_as {start = start} cut kept core stage anchored other trail same anchored_is trail_is h =
    subst (λ a. HasComeBy start cut kept core stage a same) (sym anchored_is) (subst (HasComeBy start cut kept core stage anchored) (sym trail_is) h)

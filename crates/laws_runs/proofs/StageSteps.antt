-- What a step of a checkpoint comes to, by the stage.
use Rattle.std.proofs.Common.{◌≡◌, inl, inr, ◌+◌, ◌-◌, ◌<◌, ◌≤◌, ℕ, Bool, false, refl, sym, ap, subst, ◌∙◌, take, arith}
use Rattle.std.specs.Prelude.{IsTrue}
use Rattle.shore_types.specs.declared.faults.Fault.{Fault}
use Rattle.shore_types.specs.declared.faults.Fault.TheVariants as fault
use Rattle.shore_model.specs.declared.calls.Answer.{Answer}
use Rattle.shore_model.specs.declared.calls.Answer.TheVariants.{Anchored, Begun, Ended, Moved}
use Rattle.shore_model.specs.declared.log_records.Payload.TheVariants as payload
use Rattle.shore_model.specs.declared.step.Step.{Step}
use Rattle.shore_model.specs.declared.step.Step.TheVariants.{Done, Nothing, Refused, Waits}
use Rattle.shore_logrec.specs.Text.{CheckpointFits}
use Rattle.laws_calls.specs.StateChanges.{with_failure}
use Rattle.laws_calls.specs.States.{cost_of_log, next_number}
use Rattle.laws_checkpoints.specs.Checkpoints as checkpoints
use Rattle.laws_checkpoints.specs.Checkpoints.{Checkpoint, cut_of, cut_point, end_payload, of_checkpoint}
use Rattle.laws_checkpoints.specs.CheckpointedStores.{AnchorLogged, BeginLogged, CheckpointStage, EndLogged, NoCheckpoint}
use Rattle.laws_runs.proofs.MovedAnchors.{cost_between, cost_of_more}
use Rattle.laws_runs.specs.CheckpointSteps.{CheckpointAnswers, CheckpointMoves, CheckpointRefused, CheckpointedState, IsAdmitted, IsCheckpointNow, IsNextAnchor, awaited, freed_to, moved_to, noted}
use Rattle.laws_runs.specs.CheckpointedStates.{BeganBehind}

not_both : (b : Bool) → IsTrue b → b ≡ false → ⊥
not_both b has_failed no_more = cc

-- ---- the stages differ

none_or_begun : (s : CheckpointStage) (c : Checkpoint) → s ≡ NoCheckpoint → s ≡ BeginLogged c → ⊥
none_or_begun s c h k = cc

none_or_ended : (s : CheckpointStage) (c : Checkpoint) (n : ℕ) → s ≡ NoCheckpoint → s ≡ EndLogged c n → ⊥
none_or_ended s c n h k = cc

none_or_named : (s : CheckpointStage) (c : Checkpoint) (n : ℕ) → s ≡ NoCheckpoint → s ≡ AnchorLogged c n → ⊥
none_or_named s c n h k = cc

begun_or_ended : (s : CheckpointStage) (c d : Checkpoint) (n : ℕ) → s ≡ BeginLogged c → s ≡ EndLogged d n → ⊥
begun_or_ended s c d n h k = cc

begun_or_named : (s : CheckpointStage) (c d : Checkpoint) (n : ℕ) → s ≡ BeginLogged c → s ≡ AnchorLogged d n → ⊥
begun_or_named s c d n h k = cc

ended_or_named : (s : CheckpointStage) (c d : Checkpoint) (n k : ℕ) → s ≡ EndLogged c n → s ≡ AnchorLogged d k → ⊥
ended_or_named s c d n k at here = cc

same_begun : (s : CheckpointStage) (c d : Checkpoint) → s ≡ BeginLogged c → s ≡ BeginLogged d → d ≡ c
same_begun s c d h k = cc

same_ended : (s : CheckpointStage) (c d : Checkpoint) (n k : ℕ) → s ≡ EndLogged c n → s ≡ EndLogged d k → d ≡ c
same_ended s c d n k at here = cc

same_named : (s : CheckpointStage) (c d : Checkpoint) (n k : ℕ) → s ≡ AnchorLogged c n → s ≡ AnchorLogged d k → d ≡ c
same_named s c d n k at here = cc

module _ (m new : CheckpointedState) where
  -- ---- a failed manager, and one that waits

  pub at_failed : (step : Step) → IsTrue m.state.failed → CheckpointMoves m step new → (step ≡ Refused fault.Failed) × (new ≡ m)
  at_failed (Done answer) has_failed h = absurd (not_both m.state.failed has_failed h.0)
  at_failed Nothing has_failed h = absurd (not_both m.state.failed has_failed h.0)
  at_failed (Refused f) has_failed (inl h) = (ap Refused h.1, h.2)
  at_failed (Refused f) has_failed (inr h) = absurd (not_both m.state.failed has_failed h.0)
  at_failed (Waits wait) has_failed h = absurd h

  -- the Anchor record of the next anchor is durable
  named_durable : (a : checkpoints.Anchored) → IsNextAnchor m.store a → awaited m.store.stage ≤ m.store.store.durable
  named_durable a h = let is : awaited m.store.stage ≡ h.1 = ap awaited h.2 in let forced = h.3 in omega (arith, is, forced)

  no_answer : (answer : Answer) → m.store.store.durable ≡ m.state.durable → m.state.durable < awaited m.store.stage → CheckpointAnswers m answer new → ⊥
  no_answer (Begun n) told late h = let is : awaited m.store.stage ≡ 0 = ap awaited h.2 in omega (arith, late, is)
  no_answer (Ended n) told late h = let is : awaited m.store.stage ≡ 0 = ap awaited h.1 in omega (arith, late, is)
  no_answer (Anchored checkpoint tail) told late h = let is : awaited m.store.stage ≡ h.1 = ap awaited h.2 in let forced = h.3 in omega (arith, late, is, forced)
  no_answer Moved told late h = let forced = named_durable h.0 h.1 in omega (arith, told, late, forced)
  no_answer _ told late h = absurd h

  not_refused : (f : Fault) → m.store.store.durable ≡ m.state.durable → m.state.durable < awaited m.store.stage → CheckpointRefused m f new → ⊥
  not_refused f told late (inl short) = let forced = short.1 in omega (arith, late, forced)
  not_refused f told late (inr (inl full)) = let is : awaited m.store.stage ≡ 0 = ap awaited full.1 in omega (arith, late, is)
  not_refused f told late (inr (inr device)) = let forced = named_durable device.1.0 device.1.1 in omega (arith, told, late, forced)

  pub at_wait : (step : Step) → m.state.failed ≡ false → m.store.store.durable ≡ m.state.durable → m.state.durable < awaited m.store.stage → CheckpointMoves m step new
      → (step ≡ Nothing) × (new ≡ m)
  at_wait (Done answer) whole told late h = absurd (no_answer answer told late h.1)
  at_wait Nothing whole told late h = (refl, h.2)
  at_wait (Refused f) whole told late (inl h) = absurd (not_both m.state.failed h.0 whole)
  at_wait (Refused f) whole told late (inr h) = absurd (not_refused f told late h.1)
  at_wait (Waits wait) whole told late h = absurd h

  -- ---- what each stage answers

  pub at_none : (answer : Answer) → m.store.stage ≡ NoCheckpoint → CheckpointAnswers m answer new → (c : Checkpoint) × (answer ≡ Begun (next_number m.state)) × (c.begin ≡ next_number m.state)
      × CheckpointFits c.begin c.next c.txns c.dirty × (new ≡ noted m (of_checkpoint payload.CheckpointBegin) (BeginLogged c))
  at_none (Begun n) at h = (h.0, ap Begun (h.5 ∙ h.3.begin), h.3.begin, h.3.fits, h.6)
  at_none (Ended n) at h = absurd (none_or_begun m.store.stage h.0 at h.1)
  at_none (Anchored checkpoint tail) at h = absurd (none_or_ended m.store.stage h.0 h.1 at h.2)
  at_none Moved at h = absurd (none_or_named m.store.stage h.1.0 h.1.1 at h.1.2)
  at_none _ at h = absurd h

  pub at_begun : (answer : Answer) (c : Checkpoint) → m.store.stage ≡ BeginLogged c → CheckpointAnswers m answer new
      → (answer ≡ Ended (next_number m.state)) × (new ≡ noted m (of_checkpoint (end_payload c)) (EndLogged c (next_number m.state)))
  at_begun (Begun n) c at h = absurd (none_or_begun m.store.stage c h.2 at)
  at_begun (Ended n) c at h =
      let same = same_begun m.store.stage c h.0 at h.1 in (
        ap Ended h.2,
        h.3 ∙ ap (λ i. noted m (of_checkpoint (end_payload h.0)) (EndLogged h.0 i)) h.2 ∙ ap (λ d. noted m (of_checkpoint (end_payload d)) (EndLogged d (next_number m.state))) same,
      )
  at_begun (Anchored checkpoint tail) c at h = absurd (begun_or_ended m.store.stage c h.0 h.1 at h.2)
  at_begun Moved c at h = absurd (begun_or_named m.store.stage c h.1.0 h.1.1 at h.1.2)
  at_begun _ c at h = absurd h

  pub at_ended : (answer : Answer) (c : Checkpoint) (n : ℕ) → m.store.stage ≡ EndLogged c n → CheckpointAnswers m answer new
      → (answer ≡ Anchored c.begin (cut_point c)) × (new ≡ noted m (of_checkpoint (payload.Anchor c.begin (cut_point c))) (AnchorLogged c (next_number m.state)))
  at_ended (Begun k) c n at h = absurd (none_or_ended m.store.stage c n h.2 at)
  at_ended (Ended k) c n at h = absurd (begun_or_ended m.store.stage h.0 c n h.1 at)
  at_ended (Anchored checkpoint tail) c n at h =
      let same = same_ended m.store.stage c h.0 n h.1 at h.2 in (
        ap (λ b. Anchored b tail) h.4 ∙ ap (Anchored h.0.begin) h.5 ∙ ap (λ (d : Checkpoint). Anchored d.begin (cut_point d)) same,
        h.6 ∙ ap (λ b. noted m (of_checkpoint (payload.Anchor b tail)) (AnchorLogged h.0 (next_number m.state))) h.4
            ∙ ap (λ t. noted m (of_checkpoint (payload.Anchor h.0.begin t)) (AnchorLogged h.0 (next_number m.state))) h.5
            ∙ ap (λ (d : Checkpoint). noted m (of_checkpoint (payload.Anchor d.begin (cut_point d))) (AnchorLogged d (next_number m.state))) same,
      )
  at_ended Moved c n at h = absurd (ended_or_named m.store.stage c h.1.0 n h.1.1 at h.1.2)
  at_ended _ c n at h = absurd h

  pub at_named : (answer : Answer) (c : Checkpoint) (n : ℕ) → m.store.stage ≡ AnchorLogged c n → CheckpointAnswers m answer new
      → (answer ≡ Moved) × (new.store.anchored.checkpoint ≡ c.begin) × (new.store.anchored.tail ≤ cut_point c) × (new ≡ moved_to m new.store.anchored)
  at_named (Begun k) c n at h = absurd (none_or_named m.store.stage c n h.2 at)
  at_named (Ended k) c n at h = absurd (begun_or_named m.store.stage h.0 c n h.1 at)
  at_named (Anchored checkpoint tail) c n at h = absurd (ended_or_named m.store.stage h.0 c h.1 n h.2 at)
  at_named Moved c n at h =
      let same = same_named m.store.stage c h.1.0 n h.1.1 at h.1.2 in
      let anchor : new.store.anchored ≡ h.0 = ap (λ (x : CheckpointedState). x.store.anchored) h.2 in
      let begins : h.0.checkpoint ≡ c.begin = h.1.4 ∙ ap (λ (d : Checkpoint). d.begin) same in
      let below : h.0.tail ≤ cut_point c = subst (λ d. h.0.tail ≤ cut_point d) same h.1.6 in (
        refl,
        subst (λ (a : checkpoints.Anchored). a.checkpoint ≡ c.begin) (sym anchor) begins,
        subst (λ (a : checkpoints.Anchored). a.tail ≤ cut_point c) (sym anchor) below,
        h.2 ∙ ap (moved_to m) (sym anchor),
      )
  at_named _ c n at h = absurd h

  -- ---- what is refused

  full_or_short : fault.LogFull ≡ fault.Memory → ⊥
  full_or_short e = cc

  full_or_device : fault.LogFull ≡ fault.Device → ⊥
  full_or_device e = cc

  full_or_failed : fault.LogFull ≡ fault.Failed → ⊥
  full_or_failed e = cc

  device_or_short : fault.Device ≡ fault.Memory → ⊥
  device_or_short e = cc

  device_or_failed : fault.Device ≡ fault.Failed → ⊥
  device_or_failed e = cc

  pub at_full : CheckpointMoves m (Refused fault.LogFull) new
      → (m.store.stage ≡ NoCheckpoint) × (new ≡ m) × (c : Checkpoint) × (kept_from : ℕ) × IsCheckpointNow m c kept_from × ¬ IsAdmitted m c kept_from
  at_full (inl failed) = absurd (full_or_failed failed.1)
  at_full (inr (whole, inl short)) = absurd (full_or_short short.0)
  at_full (inr (whole, inr (inl full))) = (full.1, full.3, full.2.0, full.2.1, full.2.2, full.2.3)
  at_full (inr (whole, inr (inr device))) = absurd (full_or_device device.0)

  pub at_device : CheckpointMoves m (Refused fault.Device) new → (a : checkpoints.Anchored) × IsNextAnchor m.store a × (new ≡ record m { state = with_failure m.state })
  at_device (inl failed) = absurd (device_or_failed failed.1)
  at_device (inr (whole, inl short)) = absurd (device_or_short short.0)
  at_device (inr (whole, inr (inl full))) = absurd (full_or_device (sym full.0))
  at_device (inr (whole, inr (inr device))) = (device.1.0, device.1.1, device.2)

-- ---- the move, and what a begin counts on

module _ (m : CheckpointedState) where
  pub at_move : (a : checkpoints.Anchored) → BeganBehind m.store.anchored.checkpoint m.store.stage → IsNextAnchor m.store a
      → (m.store.anchored.checkpoint < a.checkpoint) × (m.store.anchored.tail ≤ a.tail)
  at_move a behind h =
      let began : m.store.anchored.checkpoint < h.0.begin = subst (BeganBehind m.store.anchored.checkpoint) h.2 behind in
      let is = h.4 in
      (omega (arith, began, is), h.5)

  module _ (c : Checkpoint) (kept_from : ℕ) (now : IsCheckpointNow m c kept_from) where
    pub counts_on_freed : freed_to m kept_from ≤ freed_to m (cut_point c)
    counts_on_freed =
        let low = now.no_lower in
        let high = now.no_higher in
        let here = cost_between m.state.log (cut_of m.store.anchored) (kept_from - 1) (omega (arith, low)) in
        let there = cost_between m.state.log (cut_of m.store.anchored) (cut_point c - 1) (omega (arith, low, high)) in
        let more = cost_of_more m.state.log (kept_from - 1) (cut_point c - 1) (omega (arith, high)) in
        omega (arith, here, there, more)

    pub counts_on_durable : cost_of_log (take (cut_of m.store.anchored) m.state.log) + freed_to m kept_from ≤ cost_of_log (take m.state.durable m.state.log)
    counts_on_durable =
        let low = now.no_lower in
        let forced = now.forced in
        let here = cost_between m.state.log (cut_of m.store.anchored) (kept_from - 1) (omega (arith, low)) in
        let more = cost_of_more m.state.log (kept_from - 1) m.state.durable (omega (arith, forced)) in
        omega (arith, here, more)

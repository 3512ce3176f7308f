-- Steps of checkpoints do their work, of a world that is a manager.
use Rattle.std.proofs.Common.{◌≡◌, ◌<◌, ◌≤◌, ◌⊎◌, ◌+◌, inl, inr, ⊎_elim, ℕ, List, [], Bool, false, IsTrue, take, refl, sym, ap, subst, ◌∙◌, arith}
use Rattle.std.proofs.lemmas.Bool.{cases_lt}
use Rattle.shore_types.specs.declared.faults.Fault.{Fault}
use Rattle.shore_types.specs.declared.faults.Fault.TheVariants as fault
use Rattle.shore_disk.specs.declared.device.Disk.{Ghosts}
use Rattle.shore_check.specs.Stages.{IsAt}
use Rattle.shore_check.specs.declared.stage.Stage.{Stage}
use Rattle.shore_check.specs.declared.stage.Stage.TheVariants as stage
use Rattle.shore_model.specs.declared.calls.Answer.{Answer}
use Rattle.shore_model.specs.declared.calls.Answer.TheVariants.{Anchored, Begun, Ended, Moved}
use Rattle.shore_model.specs.declared.calls.Call.{Call}
use Rattle.shore_model.specs.declared.histories.Entry.{Entry}
use Rattle.shore_model.specs.declared.histories.Opening.{Opening}
use Rattle.shore_model.specs.declared.step.Step.{Step}
use Rattle.shore_model.specs.declared.step.Step.TheVariants.{Done, Nothing, Refused, Waits}
use Rattle.laws_checkpoints.specs.Checkpoints as checkpoints
use Rattle.laws_checkpoints.specs.CheckpointedStores.{CheckpointStage, NoCheckpoint}
use Rattle.laws_runs.proofs.StageSteps.{at_begun, at_ended, at_move, at_named, at_none, at_wait}
use Rattle.laws_runs.specs.CheckpointSteps.{CheckpointAnswers, CheckpointMoves, CheckpointRefused, CheckpointedState, IsNextAnchor, awaited}
use Rattle.shore_world.specs.declared.event.Event.TheVariants as event
use Rattle.shore_world.specs.declared.world.World.{World}
use Rattle.shore_world.specs.Promises.{CheckpointAnswer, ChecksIfAny, GoesOnAs, IsManagerOf, IsRefusedStep, awaited_at}
use Rattle.shore_world.specs.Worlds.{ForCheckpoint, HasMoved, IsFullIn, IsRoomyIn, Steps, anchor_in, durable_in, failed_in, geometry_in, last_in, stream_bytes_in}
use Rattle.shore_world.proofs.PromiseLemmas.{as_up, checkpointed, log_seen, seen}
use Rattle.shore_world.proofs.StoredLemmas.{up_may, up_safe}

awaited_same : (t : Stage) (s : CheckpointStage) → IsAt t s → awaited_at t ≡ awaited s
awaited_same stage.Resting s at = sym (ap awaited at)
awaited_same (stage.Begun b) s at = sym (ap awaited at.1)
awaited_same (stage.Ended e) s at = at.3.number ∙ sym (ap awaited at.2)
awaited_same (stage.Named m) s at = at.3.number ∙ sym (ap awaited at.2)

rests : (t : Stage) (s : CheckpointStage) → IsAt t s → s ≡ NoCheckpoint → t ≡ stage.Resting
rests stage.Resting s at none = refl
rests (stage.Begun b) s at none = let clash = sym at.1 ∙ none in absurd cc
rests (stage.Ended e) s at none = let clash = sym at.2 ∙ none in absurd cc
rests (stage.Named m) s at none = let clash = sym at.2 ∙ none in absurd cc

in_time : (a b : ℕ) → (a ≤ b) ⊎ (b < a)
in_time a b = elim (cases_lt b a) [
  | inl less ↦ inr less
  | inr within ↦ inl within
]

-- a move is to the next anchor
next_of : (m last : CheckpointedState) (answer : Answer) → answer ≡ Moved → CheckpointAnswers m answer last → IsNextAnchor m.store last.store.anchored
next_of m last answer is h =
    let went = subst (λ (a : Answer). CheckpointAnswers m a last) is h in
    subst (IsNextAnchor m.store) (sym (ap (λ (x : CheckpointedState). x.store.anchored) went.2)) went.1

module _ {L V : Type 0} {G : Ghosts L} {H : Ghosts V} (w : World L V G H) (o : Opening) (es : List Entry) (ws : List (ℕ × Call)) (k : IsManagerOf w o es ws) where
  pub goes_plainly : (step : Step) (new : World L V G H) → Steps w event.CheckpointStep step new
      → (on : GoesOnAs new o es ws event.CheckpointStep step) × (on.made ≡ []) × CheckpointMoves k.now step on.manager.now
  goes_plainly step new one = let went = checkpointed w o es ws k step new one in (went.on, went.none, went.moves)

  told : k.now.store.store.durable ≡ k.now.state.durable
  told = k.under_way.under_way.stored.durable

  awaits : awaited_at w.stage ≡ awaited k.now.store.stage
  awaits = awaited_same w.stage k.now.store.stage k.at.stage

  -- it is at a state and a store over which a checkpoint may go on
  at_its_state : (P : CheckpointedState → Type 0) → ForCheckpoint w P → P k.now
  at_its_state P each =
      each k.log_front k.front k.disk k.now.state k.now.store k.at
      (up_safe (geometry_in w) (stream_bytes_in w) o k.found (take 512 k.log_front) k.front es w k.now (as_up w o es ws k))
      (up_may (geometry_in w) (stream_bytes_in w) o k.found (take 512 k.log_front) k.front es w k.now (as_up w o es ws k))

  refused_so : (f : Fault) (last : CheckpointedState) → CheckpointRefused k.now f last → failed_in w ≡ false → (Refused f ≡ Refused fault.LogFull → ForCheckpoint w (IsFullIn w))
      → IsRefusedStep w (Refused f) ⊎ ((w.stage ≡ stage.Resting) × (Refused f ≡ Refused fault.LogFull) × IsFullIn w k.now)
  refused_so f last (inl short) runs none = inl (inr (runs, ap Refused short.0))
  refused_so f last (inr (inl full)) runs none = inr (rests w.stage k.now.store.stage k.at.stage full.1, ap Refused full.0, at_its_state (IsFullIn w) (none (ap Refused full.0)))
  refused_so f last (inr (inr device)) runs none = inl (inl (inr (runs, ap Refused device.0)))

  -- one that rests and makes its step begins
  begins_so : (answer : Answer) (new : World L V G H) → CheckpointAnswer w.stage w answer new → ((n : ℕ) → Done answer ≡ Done (Begun n) → ForCheckpoint w (IsRoomyIn w)) → w.stage ≡ stage.Resting → IsRoomyIn w k.now
  begins_so answer new is roomy rests =
      at_its_state (IsRoomyIn w) (roomy (last_in w + 1) (ap Done (subst (λ (t : Stage). CheckpointAnswer t w answer new) rests is)))

  -- one that is made does not wait
  made_in_time : (answer : Answer) (last : CheckpointedState) → CheckpointMoves k.now (Done answer) last → awaited k.now.store.stage ≤ k.now.state.durable
  made_in_time answer last h = ⊎_elim
      (λ within. within)
      (λ late. let clash = (at_wait k.now last (Done answer) h.0 told late h).0 in absurd cc)
      (in_time (awaited k.now.store.stage) k.now.state.durable)

  module _ (new : World L V G H) (answer : Answer) (on : GoesOnAs new o es ws event.CheckpointStep (Done answer)) (h : CheckpointMoves k.now (Done answer) on.manager.now)
      (went : Done answer ≡ Done Moved → HasMoved w new) where
    answers : (t : Stage) → IsAt t k.now.store.stage → CheckpointAnswer t w answer new
    answers stage.Resting at = (at_none k.now on.manager.now answer at h.1).1 ∙ ap Begun (omega (arith, log_seen w o es ws k))
    answers (stage.Begun b) at = (at_begun k.now on.manager.now answer at.0 at.1 h.1).0 ∙ ap Ended (omega (arith, log_seen w o es ws k))
    answers (stage.Ended e) at =
        (at_ended k.now on.manager.now answer at.0 at.1 at.2 h.1).0 ∙ ap (λ x. Anchored x.checkpoint x.tail) (sym at.3.mark)
    answers (stage.Named m) at =
        let its = at_named k.now on.manager.now answer at.0 at.1 at.2 h.1 in
        let now = on.manager.at.anchored in
        let before = k.at.anchored in
        let moved = its.3 in
        let mark = at.3.mark in
        let checkpoint : (anchor_in new).checkpoint ≡ m.mark.checkpoint = ap (λ (a : checkpoints.Anchored). a.checkpoint) (sym now) ∙ its.1 ∙ ap (λ x. x.checkpoint) (sym mark) in
        let next = next_of k.now on.manager.now answer its.0 h.1 in
        let behind = at_move k.now on.manager.now.store.anchored k.under_way.later next in (
          its.0,
          checkpoint,
          omega (arith, behind.0, ap (λ (a : checkpoints.Anchored). a.checkpoint) now, ap (λ (a : checkpoints.Anchored). a.checkpoint) before, checkpoint),
          omega (arith, behind.1, ap (λ (a : checkpoints.Anchored). a.tail) now, ap (λ (a : checkpoints.Anchored). a.tail) before),
          omega (arith, its.2, ap (λ (a : checkpoints.Anchored). a.tail) now, ap (λ x. x.tail) mark),
          went (ap Done its.0),
        )

  pub checks : (step : Step) (new : World L V G H) → Steps w event.CheckpointStep step new
      → IsRefusedStep w step ⊎ ((w.stage ≡ stage.Resting) × (step ≡ Refused fault.LogFull) × IsFullIn w k.now)
      ⊎ (ChecksIfAny w step new × (w.stage ≡ stage.Resting → IsRoomyIn w k.now))
  checks step new one = let went = checkpointed w o es ws k step new one in by step went.on went.moves (one.moved tt) (one.full_begin tt) (λ n. one.roomy_begin n tt)
    where
      failed_is : k.now.state.failed ≡ failed_in w
      failed_is = (seen w o es ws k).failed

      -- what rests waits for nothing
      no_wait : durable_in w < awaited_at w.stage → w.stage ≡ stage.Resting → ⊥
      no_wait waits rests = omega (arith, waits, ap awaited_at rests)

      by : (step : Step) (on : GoesOnAs new o es ws event.CheckpointStep step) → CheckpointMoves k.now step on.manager.now → (step ≡ Done Moved → HasMoved w new) → (step ≡ Refused fault.LogFull → ForCheckpoint w (IsFullIn w))
          → ((n : ℕ) → step ≡ Done (Begun n) → ForCheckpoint w (IsRoomyIn w)) → IsRefusedStep w step ⊎ ((w.stage ≡ stage.Resting) × (step ≡ Refused fault.LogFull) × IsFullIn w k.now)
          ⊎ (ChecksIfAny w step new × (w.stage ≡ stage.Resting → IsRoomyIn w k.now))
      by (Done answer) on h moved full roomy =
          let time = made_in_time answer on.manager.now h in
          let is = answers new answer on h moved w.stage k.at.stage in
          inr (inr (inr (omega (arith, time, awaits, (seen w o es ws k).durable), (answer, refl, is)), begins_so answer new is roomy))
      by Nothing on h moved full roomy = let waits : durable_in w < awaited_at w.stage = omega (arith, h.1, awaits, (seen w o es ws k).durable) in inr (inr (inl (waits, refl), λ rests. absurd (no_wait waits rests)))
      by (Refused f) on (inl h) moved full roomy = inl (inl (inl (subst (λ (b : Bool). IsTrue b) failed_is h.0, ap Refused h.1)))
      by (Refused f) on (inr h) moved full roomy = ⊎_elim (λ refused. inl refused) (λ none. inr (inl none)) (refused_so f on.manager.now h.1 (sym failed_is ∙ h.0) full)
      by (Waits wait) on h moved full roomy = absurd h

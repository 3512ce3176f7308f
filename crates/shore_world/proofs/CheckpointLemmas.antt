-- What a step of a checkpoint does to a state, and what a crash amid the move of its anchor leaves.
use Rattle.std.proofs.Common.{◌≡◌, inl, inr, ◌+◌, ◌++◌, ℕ, List, [], ◌∷◌, refl, sym, ap, subst, ◌∙◌}
use Rattle.shore_model.specs.declared.calls.Answer.{Answer}
use Rattle.shore_model.specs.declared.calls.Answer.TheVariants.{Anchored, Begun, Ended, Moved}
use Rattle.shore_model.specs.declared.step.Step.{Step}
use Rattle.shore_model.specs.declared.step.Step.TheVariants.{Done, Nothing, Refused, Waits}
use Rattle.laws_calls.specs.SessionWaits.{AllBeginWithTheirs, AllWaitThere}
use Rattle.laws_calls.specs.StateChanges.{with_failure}
use Rattle.laws_calls.specs.States.{State}
use Rattle.laws_checkpoints.specs.Checkpoints.{end_payload, of_checkpoint}
use Rattle.shore_model.specs.declared.log_records.LogRecord.{LogRecord}
use Rattle.shore_model.specs.declared.log_records.Payload.TheVariants as payload
use Rattle.laws_runs.specs.CheckpointSteps.{CheckpointAnswers, CheckpointMoves, CheckpointedState, freed_to}
use Rattle.shore_world.specs.declared.event.Event.{Event}
use Rattle.shore_world.specs.declared.event.Event.TheVariants as event
use Rattle.shore_types.specs.declared.layout.Geometry.{Geometry}
use Rattle.shore_world.specs.Events.{IsOfCheckpoint}
use Rattle.shore_world.specs.EventMoves.{OfCheckpoint, moves_by}
use Rattle.shore_world.specs.Worlds.{CheckpointsState, EventStep, NotesCheckpoint}

-- ---- what it does to the state

answers_note : (m : CheckpointedState) (answer : Answer) (new : CheckpointedState) → CheckpointAnswers m answer new → NotesCheckpoint m.state answer new.state
answers_note m (Begun n) new h = (h.5 ∙ h.3.begin, ap (λ (x : CheckpointedState). x.state) h.6)
answers_note m (Ended n) new h = (h.0, h.2, ap (λ (x : CheckpointedState). x.state) h.3)
answers_note m (Anchored checkpoint tail) new h = ap (λ (x : CheckpointedState). x.state) h.6
answers_note m Moved new h = (freed_to m h.0.tail, ap (λ (x : CheckpointedState). x.state) h.2)
answers_note m _ new h = absurd h

pub moves_state : (m : CheckpointedState) (step : Step) (new : CheckpointedState) → CheckpointMoves m step new → CheckpointsState m.state step new.state
moves_state m (Done answer) new h = (h.0, answers_note m answer new h.1)
moves_state m Nothing new h = (h.0, ap (λ (x : CheckpointedState). x.state) h.2)
moves_state m (Refused f) new (inl h) = inl (h.0, h.1, ap (λ (x : CheckpointedState). x.state) h.2)
moves_state m (Refused f) new (inr (running, (inl memory))) = inr (inr (running, inl memory.0, ap (λ (x : CheckpointedState). x.state) memory.2))
moves_state m (Refused f) new (inr (running, (inr (inl full)))) = inr (inr (running, inr full.0, ap (λ (x : CheckpointedState). x.state) full.3))
moves_state m (Refused f) new (inr (running, (inr (inr device)))) = inr (inl (running, device.0, ap (λ (x : CheckpointedState). x.state) device.2))
moves_state m (Waits wait) new h = absurd h

-- what a longer log, a longer stream and a failure leave is left by such a step
module _ (P : State → Type 0) (s : State) (log : (l : List LogRecord) → P (record s { log = l })) (stream : (n : ℕ) → P (record s { stream_bytes = n })) (failed : P (with_failure s)) (same : P s) where
  notes_keep : (answer : Answer) (new : State) → NotesCheckpoint s answer new → P new
  notes_keep (Begun n) new h = subst P (sym h.1) (log (s.log ++ of_checkpoint payload.CheckpointBegin ∷ []))
  notes_keep (Ended n) new h = subst P (sym h.2) (log (s.log ++ of_checkpoint (end_payload h.0) ∷ []))
  notes_keep (Anchored checkpoint tail) new h = subst P (sym h) (log (s.log ++ of_checkpoint (payload.Anchor checkpoint tail) ∷ []))
  notes_keep Moved new h = subst P (sym h.1) (stream (s.stream_bytes + h.0))
  notes_keep _ new h = absurd h

  pub step_keeps : (step : Step) (new : State) → CheckpointsState s step new → P new
  step_keeps (Done answer) new h = notes_keep answer new h.1
  step_keeps Nothing new h = subst P (sym h.1) same
  step_keeps (Refused f) new (inl h) = subst P (sym h.2) same
  step_keeps (Refused f) new (inr (inl h)) = subst P (sym h.2) failed
  step_keeps (Refused f) new (inr (inr h)) = subst P (sym h.2) same
  step_keeps (Waits wait) new h = absurd h

-- calls wait as before
pub waits_kept : (s : State) (step : Step) (new : State) → CheckpointsState s step new → new.waiting ≡ s.waiting
waits_kept s step new h = step_keeps (λ (x : State). x.waiting ≡ s.waiting) s (λ l. refl) (λ n. refl) refl refl step new h

-- .. each at a request of its own, and each that is to be told a cycle as the first of it
pub there_kept : (s : State) (step : Step) (new : State) → CheckpointsState s step new → AllWaitThere s → AllWaitThere new
there_kept s step new h there = step_keeps AllWaitThere s (λ l. there) (λ n. there) there there step new h

pub firsts_kept : (s : State) (step : Step) (new : State) → CheckpointsState s step new → AllBeginWithTheirs s → AllBeginWithTheirs new
firsts_kept s step new h firsts = step_keeps AllBeginWithTheirs s (λ l. firsts) (λ n. firsts) firsts firsts step new h

-- ---- the event that it is

pub checkpoint_step : (g : Geometry) (s : State) (e : Event) (step : Step) (new : State) → IsOfCheckpoint e → CheckpointsState s step new → EventStep g s e step new
checkpoint_step g s (event.Call session call) step new is h = absurd is
checkpoint_step g s (event.Resume session) step new is h = absurd is
checkpoint_step g s (event.GiveUp session) step new is h = absurd is
checkpoint_step g s (event.Ask ticket) step new is h = absurd is
checkpoint_step g s event.ForceStage step new is h = absurd is
checkpoint_step g s event.ForceOpen step new is h = absurd is
checkpoint_step g s event.FlushStep step new is h = absurd is
checkpoint_step g s event.CheckpointStep step new is h = h
checkpoint_step g s event.CutTrail step new is h = absurd is

pub checkpoint_moves : (e : Event) (step : Step) → IsOfCheckpoint e → moves_by e step ≡ OfCheckpoint step ∷ []
checkpoint_moves (event.Call session call) step is = absurd is
checkpoint_moves (event.Resume session) step is = absurd is
checkpoint_moves (event.GiveUp session) step is = absurd is
checkpoint_moves (event.Ask ticket) step is = absurd is
checkpoint_moves event.ForceStage step is = absurd is
checkpoint_moves event.ForceOpen step is = absurd is
checkpoint_moves event.FlushStep step is = absurd is
checkpoint_moves event.CheckpointStep step is = refl
checkpoint_moves event.CutTrail step is = absurd is

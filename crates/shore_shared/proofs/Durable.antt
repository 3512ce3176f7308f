-- No move of a manager makes less durable, and a step of a checkpoint leaves what waits.
use Rattle.std.proofs.Common.{◌≡◌, ◌≤◌, ◌∷◌, [], List, inl, inr, arith, ap, refl, ◌∙◌}
use Rattle.shore_types.specs.declared.faults.Fault.{Fault}
use Rattle.shore_types.specs.declared.layout.Geometry.{Geometry}
use Rattle.shore_model.specs.declared.calls.Answer.{Answer}
use Rattle.shore_model.specs.declared.calls.Answer.TheVariants as answer
use Rattle.shore_model.specs.declared.histories.Entry.{Entry}
use Rattle.shore_model.specs.declared.step.Step.{Step}
use Rattle.shore_model.specs.declared.step.Step.TheVariants as made
use Rattle.laws_calls.proofs.LongerLogs.{give_up_further, settled_call_further, settled_resume_further}
use Rattle.laws_calls.specs.Events.{Called, EventMoves, Forced, GaveUp, HasFailed, ManagerEvent, Resumed, TicketAsked}
use Rattle.laws_calls.specs.States.{State}
use Rattle.laws_runs.specs.CheckpointSteps.{CheckpointAnswers, CheckpointMoves, CheckpointRefused, CheckpointedMove, CheckpointedMoves, CheckpointedState, Checkpoints, Goes}
use Rattle.laws_runs.specs.StoredRuns.{Manage, Tend}

by_event : (g : Geometry) (s new : State) (e : ManagerEvent) → EventMoves g s e new → s.durable ≤ new.durable
by_event g s new (Called session c step) h = let same = (settled_call_further g s session c step new h.1).durable in omega (arith, same)
by_event g s new (Resumed session step) h = let same = (settled_resume_further g s session step new h).durable in omega (arith, same)
by_event g s new (GaveUp session step) h = let same = (give_up_further s session step new h).durable in omega (arith, same)
by_event g s new (Forced n) h = let same = ap (λ (x : State). x.durable) h.2 in let more = h.0 in omega (arith, same, more)
by_event g s new HasFailed h = let same = ap (λ (x : State). x.durable) h in omega (arith, same)
by_event g s new (TicketAsked ticket answer) h = let same = ap (λ (x : State). x.durable) h.1 in omega (arith, same)

-- as much is durable, and the same calls wait
abbrev pub IsAlike : CheckpointedState → CheckpointedState → Type 0
IsAlike m new = (new.state.durable ≡ m.state.durable) × (new.state.waiting ≡ m.state.waiting)

stays : (m new other : CheckpointedState) → new ≡ other → other.state.durable ≡ m.state.durable → other.state.waiting ≡ m.state.waiting → IsAlike m new
stays m new other is durable waiting = (ap (λ (x : CheckpointedState). x.state.durable) is ∙ durable, ap (λ (x : CheckpointedState). x.state.waiting) is ∙ waiting)

by_answer : (m : CheckpointedState) (a : Answer) (new : CheckpointedState) → CheckpointAnswers m a new → IsAlike m new
by_answer m (answer.Begun n) new h = stays m new _ h.6 refl refl
by_answer m (answer.Ended n) new h = stays m new _ h.3 refl refl
by_answer m (answer.Anchored checkpoint tail) new h = stays m new _ h.6 refl refl
by_answer m answer.Moved new h = stays m new _ h.2 refl refl
by_answer m (answer.Began t) new h = absurd h
by_answer m (answer.Got bytes) new h = absurd h
by_answer m (answer.Inserted id) new h = absurd h
by_answer m answer.Updated new h = absurd h
by_answer m answer.Deleted new h = absurd h
by_answer m (answer.Scanned pairs) new h = absurd h
by_answer m answer.Locked new h = absurd h
by_answer m (answer.Saved n) new h = absurd h
by_answer m answer.WentBack new h = absurd h
by_answer m (answer.Committed ticket) new h = absurd h
by_answer m answer.Aborted new h = absurd h
by_answer m answer.Prepared new h = absurd h
by_answer m answer.Resolved new h = absurd h
by_answer m (answer.AreInDoubt pairs) new h = absurd h
by_answer m (answer.Staged n) new h = absurd h
by_answer m (answer.Forced n) new h = absurd h
by_answer m (answer.Flushed n) new h = absurd h
by_answer m answer.Cut new h = absurd h
by_answer m (answer.IsDurable is) new h = absurd h

by_refusal : (m : CheckpointedState) (f : Fault) (new : CheckpointedState) → CheckpointRefused m f new → IsAlike m new
by_refusal m f new (inl h) = stays m new m h.2 refl refl
by_refusal m f new (inr (inl h)) = stays m new m h.3 refl refl
by_refusal m f new (inr (inr h)) = stays m new _ h.2 refl refl

pub by_checkpoint : (m : CheckpointedState) (step : Step) (new : CheckpointedState) → CheckpointMoves m step new → IsAlike m new
by_checkpoint m (made.Done a) new h = by_answer m a new h.1
by_checkpoint m made.Nothing new h = stays m new m h.2 refl refl
by_checkpoint m (made.Refused f) new (inl h) = stays m new m h.2 refl refl
by_checkpoint m (made.Refused f) new (inr h) = by_refusal m f new h.1
by_checkpoint m (made.Waits wait) new h = absurd h

pub rises : (g : Geometry) (m : CheckpointedState) (moves : List CheckpointedMove) (last : CheckpointedState) (entries : List Entry) → CheckpointedMoves g m moves last entries → m.state.durable ≤ last.state.durable
rises g m [] last entries is = let same = ap (λ (x : CheckpointedState). x.state.durable) is.0 in omega (arith, same)
rises g m (Goes (Manage e works) ∷ moves) last entries (new, later, steps, rest, same) =
    let here = by_event g m.state new.state e steps.0.0 in let more = rises g new moves last later rest in omega (arith, here, more)
rises g m (Goes (Tend works) ∷ moves) last entries (new, later, steps, rest, same) =
    let here = ap (λ (x : State). x.durable) steps.0.0 in let more = rises g new moves last later rest in omega (arith, here, more)
rises g m (Checkpoints step ∷ moves) last entries (new, later, steps, rest, same) =
    let here = (by_checkpoint m step new steps).0 in let more = rises g new moves last later rest in omega (arith, here, more)

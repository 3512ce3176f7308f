-- What is kept of a log goes on from event to event, of a world that is a manager.
use Rattle.std.proofs.Common.{◌≡◌, ◌≤◌, ◌⊎◌, ◌+◌, ◌-◌, ◌++◌, ◌∷◌, [], inl, inr, ⊎_elim, ℕ, List, refl, sym, ap, subst, ◌∙◌, append-nil, arith, drop, drop-drop, length}
use Rattle.std.proofs.lemmas.List.{drop-append-le}
use Rattle.std.proofs.Math.Seq.{drop-append_seam}
use Rattle.shore_types.specs.declared.layout.Geometry.{Geometry}
use Rattle.shore_disk.specs.declared.device.Disk.{Ghosts}
use Rattle.shore_gate.specs.declared.anchors.Anchors.{Anchors}
use Rattle.shore_model.specs.declared.calls.Answer.{Answer}
use Rattle.shore_model.specs.declared.calls.Answer.TheVariants.{Anchored, Begun, Ended, Moved}
use Rattle.shore_model.specs.declared.calls.Call.{Call}
use Rattle.shore_model.specs.declared.histories.Entry.{Entry}
use Rattle.shore_model.specs.declared.histories.Opening.{Opening}
use Rattle.shore_model.specs.declared.log_records.LogRecord.{LogRecord}
use Rattle.shore_model.specs.declared.log_records.Payload.TheVariants as payload
use Rattle.shore_model.specs.declared.step.Step.{Step}
use Rattle.shore_model.specs.declared.step.Step.TheVariants.{Done, Nothing, Refused, Waits}
use Rattle.laws_calls.proofs.LongerLogs.{session_event_goes_on}
use Rattle.laws_calls.specs.CallHistories.{IsPrefix}
use Rattle.laws_calls.specs.Events.{Called, GaveUp, Resumed}
use Rattle.laws_calls.specs.States.{State}
use Rattle.laws_checkpoints.specs.Checkpoints as checkpoints
use Rattle.laws_checkpoints.specs.Checkpoints.{end_payload, of_checkpoint}
use Rattle.laws_runs.specs.CheckpointSteps.{CheckpointedState}
use Rattle.shore_world.specs.declared.event.Event.{Event}
use Rattle.shore_world.specs.declared.event.Event.TheVariants as event
use Rattle.shore_world.specs.declared.world.World.{World}
use Rattle.shore_world.specs.Events.{IsOfCheckpoint, IsServedEvent}
use Rattle.shore_world.specs.Promises.{IsManagerOf, gained}
use Rattle.shore_world.specs.Worlds.{CheckpointsState, EventStep, NotesCheckpoint, Steps, anchors_in, cut_in, geometry_in, list_in}
use Rattle.shore_world.proofs.CheckpointWorks.{goes_plainly}
use Rattle.shore_world.proofs.DecisionLemmas.{ask_log, cut_log, flush_log, open_log, stage_log}
use Rattle.shore_world.proofs.LogParts.{log_of}
use Rattle.shore_world.proofs.PromiseLemmas.{HasStepped, cut_low, gains, stepped}

-- ---- the whole log

same_goes_on : (s new : State) → new.log ≡ s.log → IsPrefix s.log new.log
same_goes_on s new same = ([], same ∙ sym (append-nil s.log))

notes_go_on : (s : State) (answer : Answer) (new : State) → NotesCheckpoint s answer new → IsPrefix s.log new.log
notes_go_on s (Begun n) new h = (of_checkpoint payload.CheckpointBegin ∷ [], ap (λ (x : State). x.log) h.1)
notes_go_on s (Ended n) new h = (of_checkpoint (end_payload h.0) ∷ [], ap (λ (x : State). x.log) h.2)
notes_go_on s (Anchored checkpoint tail) new h = (of_checkpoint (payload.Anchor checkpoint tail) ∷ [], ap (λ (x : State). x.log) h)
notes_go_on s Moved new h = same_goes_on s new (ap (λ (x : State). x.log) h.1)
notes_go_on s _ new h = absurd h

checkpoint_goes_on : (s : State) (step : Step) (new : State) → CheckpointsState s step new → IsPrefix s.log new.log
checkpoint_goes_on s (Done answer) new h = notes_go_on s answer new h.1
checkpoint_goes_on s Nothing new h = same_goes_on s new (ap (λ (x : State). x.log) h.1)
checkpoint_goes_on s (Refused f) new (inl h) = same_goes_on s new (ap (λ (x : State). x.log) h.2)
checkpoint_goes_on s (Refused f) new (inr (inl h)) = same_goes_on s new (ap (λ (x : State). x.log) h.2)
checkpoint_goes_on s (Refused f) new (inr (inr h)) = same_goes_on s new (ap (λ (x : State). x.log) h.2)
checkpoint_goes_on s (Waits wait) new h = absurd h

event_goes_on : (g : Geometry) (s : State) (e : Event) (step : Step) (new : State) → IsServedEvent e → EventStep g s e step new → IsPrefix s.log new.log
event_goes_on g s (event.Call session c) step new served h = session_event_goes_on g s new (Called session c step) (served, h)
event_goes_on g s (event.Resume session) step new served h = session_event_goes_on g s new (Resumed session step) h
event_goes_on g s (event.GiveUp session) step new served h = session_event_goes_on g s new (GaveUp session step) h
event_goes_on g s (event.Ask ticket) step new served h = same_goes_on s new (ask_log g s new ticket step h)
event_goes_on g s event.ForceStage step new served h = same_goes_on s new (stage_log g s new step h)
event_goes_on g s event.ForceOpen step new served h = same_goes_on s new (open_log g s new step h)
event_goes_on g s event.FlushStep step new served h = same_goes_on s new (flush_log s new step h)
event_goes_on g s event.CheckpointStep step new served h = checkpoint_goes_on s step new h
event_goes_on g s event.CutTrail step new served h = same_goes_on s new (cut_log g s new step h)

-- ---- what is kept of it

is_checkpoint : (e : Event) → IsOfCheckpoint e → e ≡ event.CheckpointStep
is_checkpoint (event.Call session c) is = absurd is
is_checkpoint (event.Resume session) is = absurd is
is_checkpoint (event.GiveUp session) is = absurd is
is_checkpoint (event.Ask ticket) is = absurd is
is_checkpoint event.ForceStage is = absurd is
is_checkpoint event.ForceOpen is = absurd is
is_checkpoint event.FlushStep is = absurd is
is_checkpoint event.CheckpointStep is = refl
is_checkpoint event.CutTrail is = absurd is

-- a front that is cut off of all is cut off of the first part
cut_of_parts : (first more : List LogRecord) (cut later : ℕ) → cut ≤ later → later ≤ length first → drop later (first ++ more) ≡ drop (later - cut) (drop cut first) ++ more
cut_of_parts first more cut later low high =
    let parts : later ≡ cut + (later - cut) = omega (arith, low) in
    drop-append-le later first more high ∙ ap (λ n. drop n first ++ more) parts ∙ ap (λ (l : List LogRecord). l ++ more) (sym (drop-drop (later - cut) cut first))

module _ {L V : Type 0} {G : Ghosts L} {H : Ghosts V} (w : World L V G H) (o : Opening) (es : List Entry) (ws : List (ℕ × Call)) (k : IsManagerOf w o es ws) (e : Event) (step : Step)
    (new : World L V G H) (served : IsServedEvent e) (one : Steps w e step new) where
  abbrev went : HasStepped w o es ws k e step new
  went = stepped w o es ws k e step new served one

  abbrev later : State
  later = went.on.manager.now.state

  cut_is : (anchors_in new ≡ anchors_in w) → cut_in new ≡ cut_in w
  cut_is same = let tail = ap (λ (a : Anchors). a.anchor.tail) same in omega (arith, tail, w.log.anchored.0, new.log.anchored.0)

  -- a move goes on to a tail that is no lower
  moved_on : e ≡ event.CheckpointStep → step ≡ Done Moved → cut_in w ≤ cut_in new
  moved_on is moved =
      let plain = goes_plainly w o es ws k (Done Moved) new (subst (λ (x : Step). Steps w event.CheckpointStep x new) moved (subst (λ (x : Event). Steps w x step new) is one)) in
      let went_to = plain.2.1 in
      let is_anchor : plain.0.manager.now.store.anchored ≡ went_to.0 = ap (λ (x : CheckpointedState). x.store.anchored) went_to.2 in
      let here = ap (λ (a : checkpoints.Anchored). a.tail) k.at.anchored in
      let there = ap (λ (a : checkpoints.Anchored). a.tail) plain.0.manager.at.anchored in
      let next = ap (λ (a : checkpoints.Anchored). a.tail) is_anchor in
      let rises = went_to.1.5 in
      omega (arith, here, there, next, rises, w.log.anchored.0, new.log.anchored.0)

  pub cut_rises : cut_in w ≤ cut_in new
  cut_rises = ⊎_elim (λ same. let is = cut_is same in omega (arith, is)) (λ moved. moved_on (is_checkpoint e moved.0) moved.1) one.anchors

  pub cut_by : (cut_in new ≡ cut_in w) ⊎ ((e ≡ event.CheckpointStep) × (step ≡ Done Moved))
  cut_by = ⊎_elim (λ same. inl (cut_is same)) (λ moved. inr (is_checkpoint e moved.0, moved.1)) one.anchors

  pub kept_on : list_in new ≡ drop (cut_in new - cut_in w) (list_in w) ++ gained w new
  kept_on =
      let s = k.now.state in
      let beside = went.on.manager.at.is_in.beside in
      let on = event_goes_on (geometry_in w) s e step later served went.moves in
      let more : on.0 ≡ gained w new = sym (ap (drop (length s.log)) on.1 ∙ drop-append_seam s.log on.0) ∙ gains w o es ws k e step new later one went.moves beside in
      let low = cut_low w o es ws k e step new later one went.moves beside in
      sym (log_of new later beside).kept ∙ ap (drop (cut_in new)) on.1 ∙ cut_of_parts s.log on.0 (cut_in w) (cut_in new) cut_rises low
      ∙ ap (λ (l : List LogRecord). drop (cut_in new - cut_in w) l ++ on.0) (log_of w s k.at.is_in.beside).kept ∙ ap (λ (l : List LogRecord). drop (cut_in new - cut_in w) (list_in w) ++ l) more

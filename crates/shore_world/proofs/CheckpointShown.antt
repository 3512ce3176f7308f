-- What a step of a checkpoint leaves of what is shown, of a world that is a manager.
use Rattle.std.proofs.Common.{◌≡◌, inl, inr, ◌++◌, ℕ, List, [], ◌∷◌, refl, sym, ap, subst, ◌∙◌, append-nil, drop, length}
use Rattle.std.specs.List.{AllByRecursion}
use Rattle.std.proofs.Math.Seq.{drop-append_seam}
use Rattle.shore_disk.specs.declared.device.Disk.{Ghosts}
use Rattle.shore_model.specs.declared.calls.Answer.{Answer}
use Rattle.shore_model.specs.declared.calls.Answer.TheVariants.{Anchored, Begun, Ended, Moved}
use Rattle.shore_model.specs.declared.calls.Call.{Call}
use Rattle.shore_model.specs.declared.histories.Entry.{Entry}
use Rattle.shore_model.specs.declared.histories.Opening.{Opening}
use Rattle.shore_model.specs.declared.log_records.LogRecord.{LogRecord}
use Rattle.shore_model.specs.declared.log_records.Payload.{Payload}
use Rattle.shore_model.specs.declared.log_records.Payload.TheVariants as payload
use Rattle.shore_model.specs.declared.step.Step.{Step}
use Rattle.shore_model.specs.declared.step.Step.TheVariants.{Done, Nothing, Refused, Waits}
use Rattle.shore_model.specs.Histories.{decisions, shown}
use Rattle.shore_model.specs.Logs.{records_told}
use Rattle.shore_model.specs.Records.{Records}
use Rattle.laws_calls.specs.States.{State}
use Rattle.laws_checkpoints.specs.Checkpoints.{end_payload, of_checkpoint}
use Rattle.laws_lives.specs.Soundness.{history_from}
use Rattle.shore_world.specs.declared.event.Event.TheVariants as event
use Rattle.shore_world.specs.declared.world.World.{World}
use Rattle.shore_world.specs.Lives.{DumpsShow}
use Rattle.shore_world.specs.Promises.{GoesOnAs, IsManagerOf, IsSameButForLog, gained}
use Rattle.shore_world.specs.Worlds.{CheckpointsState, NotesCheckpoint, Steps, durable_in, requests_in}
use Rattle.shore_world.proofs.CheckpointLemmas.{moves_state, step_keeps}
use Rattle.shore_world.proofs.PromiseLemmas.{HasStepped, gains, seen, stepped, told_is_shown}
use Rattle.shore_world.proofs.CheckpointWorks.{goes_plainly}

-- ---- of the state

but_for_log : (s : State) (step : Step) (new : State) → CheckpointsState s step new → IsSameButForLog s new
but_for_log s step new h = step_keeps (IsSameButForLog s) s (λ l. refl) (λ n. refl) refl refl step new h

-- what it appends is of no transaction
abbrev OfNone : List LogRecord → Type 0
OfNone rs = AllByRecursion (λ r. r.txn ≡ 0) rs

none_more : (log : List LogRecord) → OfNone (drop (length log) log)
none_more log = subst OfNone (sym (ap (drop (length log)) (sym (append-nil log)) ∙ drop-append_seam log [])) tt

one_more : (log : List LogRecord) (p : Payload) → OfNone (drop (length log) (log ++ of_checkpoint p ∷ []))
one_more log p = subst OfNone (sym (drop-append_seam log (of_checkpoint p ∷ []))) (refl, tt)

notes_of_none : (s : State) (answer : Answer) (new : State) → NotesCheckpoint s answer new → OfNone (drop (length s.log) new.log)
notes_of_none s (Begun n) new h = subst (λ (x : State). OfNone (drop (length s.log) x.log)) (sym h.1) (one_more s.log payload.CheckpointBegin)
notes_of_none s (Ended n) new h = subst (λ (x : State). OfNone (drop (length s.log) x.log)) (sym h.2) (one_more s.log (end_payload h.0))
notes_of_none s (Anchored checkpoint tail) new h = subst (λ (x : State). OfNone (drop (length s.log) x.log)) (sym h) (one_more s.log (payload.Anchor checkpoint tail))
notes_of_none s Moved new h = subst (λ (x : State). OfNone (drop (length s.log) x.log)) (sym h.1) (none_more s.log)
notes_of_none s _ new h = absurd h

appends_of_none : (s : State) (step : Step) (new : State) → CheckpointsState s step new → OfNone (drop (length s.log) new.log)
appends_of_none s (Done answer) new h = notes_of_none s answer new h.1
appends_of_none s Nothing new h = subst (λ (x : State). OfNone (drop (length s.log) x.log)) (sym h.1) (none_more s.log)
appends_of_none s (Refused f) new (inl h) = subst (λ (x : State). OfNone (drop (length s.log) x.log)) (sym h.2) (none_more s.log)
appends_of_none s (Refused f) new (inr (inl h)) = subst (λ (x : State). OfNone (drop (length s.log) x.log)) (sym h.2) (none_more s.log)
appends_of_none s (Refused f) new (inr (inr h)) = subst (λ (x : State). OfNone (drop (length s.log) x.log)) (sym h.2) (none_more s.log)
appends_of_none s (Waits wait) new h = absurd h

-- ---- of the world

module _ {L V : Type 0} {G : Ghosts L} {H : Ghosts V} (w : World L V G H) (o : Opening) (es : List Entry) (ws : List (ℕ × Call)) (k : IsManagerOf w o es ws) (step : Step) (new : World L V G H)
    (one : Steps w event.CheckpointStep step new) where
  abbrev went : HasStepped w o es ws k event.CheckpointStep step new
  went = stepped w o es ws k event.CheckpointStep step new tt one

  abbrev later : State
  later = went.on.manager.now.state

  same : IsSameButForLog k.now.state later
  same = but_for_log k.now.state step later went.moves

  pub same_state : (on : GoesOnAs new o es ws event.CheckpointStep step) × (on.made ≡ []) × IsSameButForLog k.now.state on.manager.now.state
      × (records_told on.manager.now.state.log ≡ records_told k.now.state.log)
  same_state =
      let plain = goes_plainly w o es ws k step new one in
      let on = plain.0 in (
        on,
        plain.1,
        but_for_log k.now.state step on.manager.now.state (moves_state k.now step on.manager.now plain.2),
        told_is_shown new o (es ++ on.made) ws on.manager ∙ ap (λ (l : List Entry). shown (history_from o (es ++ l)) (decisions (es ++ l))) plain.1
            ∙ ap (λ (l : List Entry). shown (history_from o l) (decisions l)) (append-nil es) ∙ sym (told_is_shown w o es ws k),
      )

  pub same_records : DumpsShow w k.now.state.sessions.records × DumpsShow new k.now.state.sessions.records
  same_records = (
    (seen w o es ws k).dumps,
    subst (λ (r : Records). DumpsShow new r) (ap (λ (x : State). x.sessions.records) same) (seen new o (es ++ went.on.made) ws went.on.manager).dumps,
  )

  pub same_requests : requests_in new ≡ requests_in w
  same_requests = sym (seen new o (es ++ went.on.made) ws went.on.manager).requests ∙ ap (λ (x : State). x.locks.requests) same ∙ (seen w o es ws k).requests

  pub same_durable : durable_in new ≡ durable_in w
  same_durable = sym (seen new o (es ++ went.on.made) ws went.on.manager).durable ∙ ap (λ (x : State). x.durable) same ∙ (seen w o es ws k).durable

  pub gains_of_none : OfNone (gained w new)
  gains_of_none =
      subst OfNone (gains w o es ws k event.CheckpointStep step new later one went.moves went.on.manager.at.is_in.beside) (appends_of_none k.now.state step later went.moves)

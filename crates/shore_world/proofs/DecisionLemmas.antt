-- What the records decide that an event appends: of a call one thing at most, which it asks for, and of all else nothing.
use Rattle.std.proofs.Common.{◌≡◌, ◌≢◌, ◌⊎◌, inl, inr, ⊎_elim, ◌++◌, ◌∷◌, ◌∙◌, ℕ, List, [], Option, None, Some, Err, refl, sym, ap, subst, length, map, drop, append-nil, append_assoc}
use Rattle.shore_types.specs.declared.layout.Geometry.{Geometry}
use Rattle.shore_types.specs.declared.faults.Fault.{Fault}
use Rattle.shore_model.specs.declared.calls.Answer.{Answer}
use Rattle.shore_model.specs.declared.calls.Answer.TheVariants.{Anchored, Begun, Cut, Ended, Forced, IsDurable, Moved, Staged}
use Rattle.shore_model.specs.declared.log_records.Payload.TheVariants.{Anchor, CheckpointBegin}
use Rattle.laws_checkpoints.specs.Checkpoints.{end_payload, of_checkpoint}
use Rattle.shore_model.specs.declared.calls.Call.{Call}
use Rattle.shore_model.specs.declared.calls.Call.TheVariants as call
use Rattle.shore_model.specs.declared.calls.Outcome.{Outcome}
use Rattle.shore_model.specs.declared.calls.Outcome.TheVariants as outcome
use Rattle.shore_model.specs.declared.histories.Decision.{Decision}
use Rattle.shore_model.specs.declared.histories.Decision.TheVariants as decision
use Rattle.shore_model.specs.declared.histories.Entry.{Entry}
use Rattle.shore_model.specs.declared.histories.Entry.TheVariants.{Decided, Exchanged}
use Rattle.shore_model.specs.declared.histories.Opening.{Opening}
use Rattle.shore_model.specs.declared.log_records.LogRecord.{LogRecord}
use Rattle.shore_model.specs.declared.step.Step.{Step}
use Rattle.shore_model.specs.declared.step.Step.TheVariants.{Done, Nothing, Refused, Waits}
use Rattle.shore_model.specs.declared.step.Wait.{Wait}
use Rattle.shore_model.specs.declared.step.Wait.TheVariants.{Durable, Lock}
use Rattle.shore_model.specs.Calls.{IsServed}
use Rattle.shore_model.specs.Histories.{decision_asked_by, decisions}
use Rattle.shore_core.specs.Flushing.{FlushMoves}
use Rattle.shore_cycles.specs.declared.victims.Victim.{Victim}
use Rattle.laws_lives.specs.LogPrefixes.{decision_in, decisions_in}
use Rattle.std.specs.List.{filter_map}
use Rattle.std.proofs.Math.Seq.{drop-append_seam}
use Rattle.laws_lives.specs.SessionSteps.{exchange}
use Rattle.laws_lives.specs.Sessions.{SessionTxn}
use Rattle.laws_calls.proofs.LongerLogs.{session_event_goes_on}
use Rattle.laws_calls.proofs.Outside.{Resolving}
use Rattle.laws_calls.proofs.Prefixes.{whole_prefix}
use Rattle.laws_calls.proofs.ResolveStays.{commit_stays, made_by, refused_stays, resolve_stays, waits_stays}
use Rattle.laws_calls.proofs.SessionStates.{as_it_was, session_call_told}
use Rattle.laws_calls.proofs.Sessions.{its_txn}
use Rattle.laws_calls.proofs.SettledStates.{ended_entries, settled_resume_stays, settles_stays, waiting_call_comes}
use Rattle.laws_calls.proofs.SettledThere.{settled_record_waits}
use Rattle.laws_calls.proofs.Told.{entries_decided, entries_told}
use Rattle.laws_calls.proofs.ToldEntries.{made_is}
use Rattle.laws_calls.specs.CallHistories.{IsPrefix, txn_of}
use Rattle.laws_calls.specs.CallSteps.{CallStep}
use Rattle.laws_calls.specs.Events.{Called, IsStateAfter, Resumed, call_waiting, entries_of_resume, entries_of_waiting}
use Rattle.laws_calls.specs.LockedStates.{entries_of_call}
use Rattle.laws_calls.specs.Resolves.{DecidesRollback, ResolvesTo}
use Rattle.laws_calls.specs.GivingUp.{GiveUpStep}
use Rattle.laws_calls.specs.Settling.{SettledCall, SettledResume, Settles}
use Rattle.laws_calls.specs.Shapes.{ResolvesTxn, WaitsForItsRecord}
use Rattle.laws_calls.specs.States.{DoesNotWait, IsOfSession, State, Waiting, next_number}
use Rattle.shore_world.specs.declared.event.Event.{Event}
use Rattle.shore_world.specs.declared.event.Event.TheVariants as event
use Rattle.shore_world.specs.Promises.{IsAskedFor}
use Rattle.shore_world.specs.Worlds.{CheckpointsState, EventStep, NotesCheckpoint}
use Rattle.shore_world.proofs.DecidedLemmas.{commit_answered}

ends_decide : (session n : ℕ) (c : Call) (step : Step) → decisions (ended_entries session n c step) ≡ []
ends_decide session n c (Done answer) = refl
ends_decide session n c (Refused f) = refl
ends_decide session n c (Waits wait) = refl
ends_decide session n c Nothing = refl

resumed_decide : (s : State) (w : Option Waiting) (step : Step) → decisions (entries_of_waiting s w step) ≡ []
resumed_decide s None step = refl
resumed_decide s (Some w) (Done answer) = refl
resumed_decide s (Some w) (Refused f) = refl
resumed_decide s (Some w) (Waits wait) = refl
resumed_decide s (Some w) Nothing = refl

none_more : (log : List LogRecord) → decisions_in (length log) log ≡ []
none_more log = ap (filter_map decision_in) (ap (drop (length log)) (sym (append-nil log)) ∙ drop-append_seam log [])

one_more : (log : List LogRecord) (r : LogRecord) → decisions_in (length log) (log ++ r ∷ []) ≡ filter_map decision_in (r ∷ [])
one_more log r = ap (filter_map decision_in) (drop-append_seam log (r ∷ []))

-- the records of a checkpoint decide nothing
notes_nothing : (s : State) (answer : Answer) (new : State) → NotesCheckpoint s answer new → decisions_in (length s.log) new.log ≡ []
notes_nothing s (Begun n) new h = ap (λ (x : State). decisions_in (length s.log) x.log) h.1 ∙ one_more s.log (of_checkpoint CheckpointBegin)
notes_nothing s (Ended n) new h = ap (λ (x : State). decisions_in (length s.log) x.log) h.2 ∙ one_more s.log (of_checkpoint (end_payload h.0))
notes_nothing s (Anchored checkpoint tail) new h = ap (λ (x : State). decisions_in (length s.log) x.log) h ∙ one_more s.log (of_checkpoint (Anchor checkpoint tail))
notes_nothing s Moved new h = ap (λ (x : State). decisions_in (length s.log) x.log) h.1 ∙ none_more s.log
notes_nothing s _ new h = absurd h

checkpoint_decides_nothing : (s : State) (step : Step) (new : State) → CheckpointsState s step new → decisions_in (length s.log) new.log ≡ []
checkpoint_decides_nothing s (Done answer) new h = notes_nothing s answer new h.1
checkpoint_decides_nothing s Nothing new h = ap (λ (x : State). decisions_in (length s.log) x.log) h.1 ∙ none_more s.log
checkpoint_decides_nothing s (Refused f) new (inl h) = ap (λ (x : State). decisions_in (length s.log) x.log) h.2 ∙ none_more s.log
checkpoint_decides_nothing s (Refused f) new (inr (inl h)) = ap (λ (x : State). decisions_in (length s.log) x.log) h.2 ∙ none_more s.log
checkpoint_decides_nothing s (Refused f) new (inr (inr h)) = ap (λ (x : State). decisions_in (length s.log) x.log) h.2 ∙ none_more s.log
checkpoint_decides_nothing s (Waits wait) new h = absurd h

-- asks, cuts of the trail, forces and flushes leave the log
pub ask_log : (g : Geometry) (s new : State) (ticket : ℕ) (step : Step) → EventStep g s (event.Ask ticket) step new → new.log ≡ s.log
ask_log g s new ticket (Done (IsDurable answer)) h = ap (λ (x : State). x.log) h.1
ask_log g s new ticket step h = absurd h

pub cut_log : (g : Geometry) (s new : State) (step : Step) → EventStep g s event.CutTrail step new → new.log ≡ s.log
cut_log g s new (Done Cut) h = ap (λ (x : State). x.log) h.2
cut_log g s new (Refused f) h = ap (λ (x : State). x.log) h.1
cut_log g s new step h = absurd h

pub stage_log : (g : Geometry) (s new : State) (step : Step) → EventStep g s event.ForceStage step new → new.log ≡ s.log
stage_log g s new (Done (Staged n)) h = ap (λ (x : State). x.log) h.3
stage_log g s new Nothing h = ap (λ (x : State). x.log) h.1
stage_log g s new (Refused f) (inl h) = ap (λ (x : State). x.log) h.2
stage_log g s new (Refused f) (inr (inl h)) = ap (λ (x : State). x.log) h.2
stage_log g s new (Refused f) (inr (inr h)) = ap (λ (x : State). x.log) h.2
stage_log g s new step h = absurd h

pub open_log : (g : Geometry) (s new : State) (step : Step) → EventStep g s event.ForceOpen step new → new.log ≡ s.log
open_log g s new (Done (Forced n)) h = ap (λ (x : State). x.log) h.3
open_log g s new Nothing h = ap (λ (x : State). x.log) h.1
open_log g s new (Refused f) (inl h) = ap (λ (x : State). x.log) h.2
open_log g s new (Refused f) (inr h) = ap (λ (x : State). x.log) h.2
open_log g s new step h = absurd h

pub flush_log : (s new : State) (step : Step) → FlushMoves s step new → new.log ≡ s.log
flush_log s new (Done answer) h = ap (λ (x : State). x.log) h.2
flush_log s new (Refused f) (inl h) = ap (λ (x : State). x.log) h.2
flush_log s new (Refused f) (inr (runs, device, h)) = ap (λ (x : State). x.log) h
flush_log s new (Waits wait) h = absurd h
flush_log s new Nothing h = ap (λ (x : State). x.log) h.1

module _ (g : Geometry) (o : Opening) (found : List LogRecord) (es : List Entry) (s new : State) (k : IsStateAfter o found es s) where
  as_made : (made : List Entry) → IsStateAfter o found (es ++ made) new → IsPrefix s.log new.log → decisions made ≡ decisions_in (length s.log) new.log
  as_made made later on = made_is o found es made s new k.sessions later.sessions on

  same_decides_nothing : new.log ≡ s.log → decisions_in (length s.log) new.log ≡ []
  same_decides_nothing same =
      ap (decisions_in (length s.log)) same ∙ sym (made_is o found es [] s s k.sessions (as_it_was o found es s k).sessions (whole_prefix s.log))

  resume_decides_nothing : (session : ℕ) (step : Step) → SettledResume g s session step new → decisions_in (length s.log) new.log ≡ []
  resume_decides_nothing session step h =
      sym (as_made (entries_of_resume s session step) (settled_resume_stays o found es s k g session step new h) (session_event_goes_on g s new (Resumed session step) h))
      ∙ resumed_decide s (call_waiting session s.waiting) step

  give_up_decides_nothing : (session : ℕ) (step : Step) → GiveUpStep s session step new → decisions_in (length s.log) new.log ≡ []
  give_up_decides_nothing session step (inl h) = same_decides_nothing (ap (λ (x : State). x.log) h.is)
  give_up_decides_nothing session step (inr h) = same_decides_nothing (ap (λ (x : State). x.log) h.is)

  pub decides_nothing : (e : Event) (step : Step) → ((session : ℕ) (c : Call) → e ≢ event.Call session c) → EventStep g s e step new → decisions_in (length s.log) new.log ≡ []
  decides_nothing (event.Call session c) step none h = absurd (none session c refl)
  decides_nothing (event.Resume session) step none h = resume_decides_nothing session step h
  decides_nothing (event.GiveUp session) step none h = give_up_decides_nothing session step h
  decides_nothing (event.Ask ticket) step none h = same_decides_nothing (ask_log g s new ticket step h)
  decides_nothing event.ForceStage step none h = same_decides_nothing (stage_log g s new step h)
  decides_nothing event.ForceOpen step none h = same_decides_nothing (open_log g s new step h)
  decides_nothing event.FlushStep step none h = same_decides_nothing (flush_log s new step h)
  decides_nothing event.CheckpointStep step none h = checkpoint_decides_nothing s step new h
  decides_nothing event.CutTrail step none h = same_decides_nothing (cut_log g s new step h)

  -- ---- a call

  module _ (session : ℕ) where
    abbrev pub Decides : Call → Step → Type 0
    Decides c step = (decisions_in (length s.log) new.log ≡ [])
        ⊎ ((a : SessionTxn) × (d : Decision) × (decisions_in (length s.log) new.log ≡ d ∷ []) × IsAskedFor a.txn c step d × (IsOfSession s session a ⊎ ResolvesTxn s c a))

    -- a commit is answered, and its answer decides
    done_decides : (c : Call) (answer : Answer) → SettledCall g s session c (Done answer) new → decisions (entries_told s session c (Done answer)) ≡ decisions_in (length s.log) new.log
        → Decides c (Done answer)
    done_decides call.Commit answer h is =
        let its = commit_answered g s new session answer h in
        inr (
          its.0,
          decision.Commit its.0.txn,
          sym is ∙ ap (λ (t : ℕ). decision.Commit t ∷ []) (its_txn s.sessions its.0 session its.1.0.1 its.1.1),
          inr (refl, (next_number s, ap Done its.2), refl),
          inl its.1,
        )
    done_decides _ answer h is = inl (sym is)

    module _ (c : Call) where
      -- a prepare
      own_decides : (n : ℕ) → WaitsForItsRecord s session c n new → decisions (entries_decided s session c) ≡ decisions_in (length s.log) new.log → Decides c (Waits (Durable n))
      own_decides n (inl (name, same, number, (a, of, left))) is = inr (
        a,
        decision.Prepare a.txn name,
        sym is ∙ ap (λ (x : Call). decisions (entries_decided s session x)) same ∙ ap (λ (t : ℕ). decision.Prepare t name ∷ []) (its_txn s.sessions a session of.0.1 of.1),
        inl (ap (decision_asked_by a.txn) same),
        inl of,
      )
      own_decides n (inr (inl h)) is = inl (sym is ∙ ap (λ (x : Call). decisions (entries_decided s session x)) h.1)
      own_decides n (inr (inr h)) is = inl (sym is ∙ ap (λ (x : Call). decisions (entries_decided s session x)) h.1)

      told_decides : (step : Step) → SettledCall g s session c step new → decisions (entries_told s session c step) ≡ decisions_in (length s.log) new.log → Decides c step
      told_decides (Done answer) h is = done_decides c answer h is
      told_decides (Refused f) h is = inl (sym is)
      told_decides Nothing h is = inl (sym is)
      told_decides (Waits (Lock at)) h is = inl (sym is)
      told_decides (Waits (Durable n)) h is = own_decides n (settled_record_waits g o found es s k session n new c h).0 is

      -- a resolve
      module _ (global : List ℕ) where
        waits_rolls : (b : SessionTxn) (d : State) (by : DecidesRollback s global b d) (wait : Wait) → c ≡ call.Resolve global outcome.Abort
            → decisions (map Decided (made_by s global b d by)) ≡ decisions_in (length s.log) new.log → Decides c (Waits wait)
        waits_rolls b d (inl h) wait same is = inr (h.0, decision.RollBack h.0.txn, sym is, inl (ap (decision_asked_by h.0.txn) same), inr (global, outcome.Abort, same, inl h.1))
        waits_rolls b d (inr h) wait same is = inl (sym is)

        refused_rolls : (b : SessionTxn) (d : State) (by : DecidesRollback s global b d) (f : Fault) (t : ℕ) (x : _) → c ≡ call.Resolve global outcome.Abort
            → decisions (map Decided (made_by s global b d by) ++ Exchanged session t x ∷ []) ≡ decisions_in (length s.log) new.log → Decides c (Refused f)
        refused_rolls b d (inl h) f t x same is = inr (h.0, decision.RollBack h.0.txn, sym is, inl (ap (decision_asked_by h.0.txn) same), inr (global, outcome.Abort, same, inl h.1))
        refused_rolls b d (inr h) f t x same is = inl (sym is)

      resolve_decides : (step : Step) → SettledCall g s session c step new → IsPrefix s.log new.log → Resolving s session c step new → DoesNotWait s session → Decides c step
      resolve_decides step h on r idle = by r.asked step h r.to r.is
        where
          by : (asked : Outcome) (step : Step) → SettledCall g s session c step new → ResolvesTo s session r.global asked step new → c ≡ call.Resolve r.global asked → Decides c step
          by outcome.Commit (Waits wait) h to same = inr (
            to.0,
            decision.Commit to.0.txn,
            sym (as_made (Decided (decision.Commit to.0.txn) ∷ []) (commit_stays g o found es s k session r.global r.may idle wait new to) on),
            inl (ap (decision_asked_by to.0.txn) same),
            inr (r.global, outcome.Commit, same, inl to.1),
          )
          by outcome.Commit (Done answer) h to same = absurd to
          by outcome.Commit (Refused f) h to same = absurd to
          by outcome.Commit Nothing h to same = absurd to
          by outcome.Abort (Waits wait) h to same =
              waits_rolls r.global to.0 to.1 to.2 wait same
              (as_made (map Decided (made_by s r.global to.0 to.1 to.2)) (waits_stays g o found es s k session r.global r.may idle wait new to) on)
          by outcome.Abort (Done answer) h to same =
              let done = call.Resolve r.global outcome.Abort in
              inl (sym (as_made (entries_of_call s session done (Done answer) new) (resolve_stays g o found es s k session r.global r.may idle outcome.Abort (Done answer) new to) on))
          by outcome.Abort (Refused f) h to same =
              let before = map Decided (made_by s r.global to.0 to.1 to.2) in
              let t = txn_of to.1.sessions session in
              let x = exchange (call.Resolve r.global outcome.Abort) (Err f) in
              refused_rolls r.global to.0 to.1 to.2 f t x same
              (as_made (before ++ Exchanged session t x ∷ [])
              (subst (λ (xs : List Entry). IsStateAfter o found xs new) (append_assoc es before (Exchanged session t x ∷ [])) (refused_stays g o found es s k session r.global r.may idle f new to)) on)
          by outcome.Abort Nothing h to same = absurd to.3

      pub call_decides : (step : Step) → IsServed c → SettledCall g s session c step new → Decides c step
      call_decides step served h = by h.rounds h.settles
        where
          on : IsPrefix s.log new.log
          on = session_event_goes_on g s new (Called session c step) (served, h)

          by : (rounds : List (List Victim)) → Settles g h.mid session h.first rounds step new → Decides c step
          by [] x =
              let once = subst (λ (y : State). CallStep g s session c step y) (sym x.2) (subst (λ (y : Step). CallStep g s session c y h.mid) (sym x.1) h.calls) in
              ⊎_elim
              (λ told. told_decides step h (as_made (entries_told s session c step) told.1 on))
              (λ r. resolve_decides step h on r.0 r.1)
              (session_call_told o found es s k g session c step new once)
          by (vs ∷ rounds) x =
              let n = txn_of s.sessions session in
              let come = settles_stays o found session n c g es h.mid h.first (vs ∷ rounds) step new (waiting_call_comes o found es s k g session c h.first h.mid x.1 x.4 h.calls) x in
              inl (sym (as_made (ended_entries session n c step) come.stays on) ∙ ends_decide session n c step)

-- A step of a session leaves what is durable, and its log goes on.
use Rattle.std.proofs.Common.{◌≡◌, inl, inr, ⊎_elim, ◌∷◌, ℕ, List, [], refl, sym, ap, subst, ◌∙◌, append-nil}
use Rattle.shore_types.specs.declared.faults.Fault.{Fault}
use Rattle.shore_types.specs.declared.faults.Fault.TheVariants as fault
use Rattle.shore_types.specs.declared.ids.Rid.{Rid}
use Rattle.shore_types.specs.declared.layout.Geometry.{Geometry}
use Rattle.shore_types.specs.declared.versions.Version.{Version}
use Rattle.shore_model.specs.declared.calls.Answer.{Answer}
use Rattle.shore_model.specs.declared.calls.Call.{Call}
use Rattle.shore_model.specs.declared.calls.Call.TheVariants as call
use Rattle.shore_model.specs.declared.log_records.LogRecord.{LogRecord}
use Rattle.shore_cycles.specs.declared.victims.Victim.{Victim}
use Rattle.shore_model.specs.declared.rollbacks.Rollback.{Rollback}
use Rattle.shore_model.specs.declared.rollbacks.Rollback.TheVariants.{To, Whole}
use Rattle.laws_lives.specs.Sessions.{SessionTxn}
use Rattle.laws_lives.specs.UndoLists.{images_since}
use Rattle.laws_calls.proofs.Prefixes.{prefix_on}
use Rattle.laws_calls.proofs.Unwinding.{compensations_on, rollback_on}
use Rattle.shore_model.specs.declared.step.Wait.{Wait}
use Rattle.shore_model.specs.declared.step.Wait.TheVariants.{Durable, Lock}
use Rattle.shore_model.specs.declared.step.Step.{Step}
use Rattle.shore_model.specs.declared.step.Step.TheVariants.{Done, Nothing, Refused, Waits}
use Rattle.laws_calls.specs.CallHistories.{IsPrefix}
use Rattle.laws_calls.specs.Events.{Called, Forced, GaveUp, HasFailed, ManagerEvent, Resumed, EventMoves, TicketAsked}
use Rattle.laws_calls.specs.GivingUp.{GiveUpStep}
use Rattle.laws_calls.specs.StateChanges.{after_refusal, answered, wait_refused}
use Rattle.laws_calls.specs.Rollbacks.{BackToStep, IsInterrupted, IsUnwound, SavepointStep}
use Rattle.laws_calls.specs.CallSteps.{AbortStep, AnswersBehind, BeginStep, CommitStep, CallGoesOn, InnerStep, OpenStep, RefusesBehind, ResumesCall, ResumesWait, CallStep, ResumeStep, behind_place, OutsideStep}
use Rattle.laws_calls.specs.Settling.{SettledCall, SettledResume, Settles}
use Rattle.laws_calls.specs.States.{State, Waiting}
use Rattle.laws_calls.specs.Victims.{TakesVictim, TakesVictims, TellsVictim, Withdraws}
use Rattle.laws_calls.specs.Prepares.{PrepareStep}
use Rattle.laws_calls.specs.Resolves.{DecidesRollback, rollback_done, ResolvesTo}
use Rattle.shore_model.specs.declared.calls.Outcome.{Outcome}
use Rattle.laws_lives.specs.Logged.{and_compensations}
use Rattle.laws_calls.proofs.Outside.{outside_or}
use Rattle.shore_model.specs.declared.calls.Outcome.TheVariants as outcome

-- as much is durable, and the log goes on
pub record GoesFurther (s new : State) : Type 0 where
  pub durable : new.durable ≡ s.durable
  pub on : IsPrefix s.log new.log

pub further_on : (s new : State) → GoesFurther s new → IsPrefix s.log new.log
further_on s new h = h.on

pub stays_there : (s : State) → GoesFurther s s
stays_there s = record { durable = refl; on = ([], sym (append-nil _)) }

same_further : (s new : State) → new ≡ s → GoesFurther s new
same_further s new same = subst (GoesFurther s) (sym same) (stays_there s)

refused_further : (s : State) (f : Fault) → GoesFurther s (after_refusal f s)
refused_further s fault.Device = record { durable = refl; on = ([], sym (append-nil _)) }
refused_further s (fault.Damaged device place) = record { durable = refl; on = ([], sym (append-nil _)) }
refused_further s _ = stays_there s

-- a state with other locks, whose log and durable number are these
abbrev IsLike : State → State → Type 0
IsLike s locked = (locked.durable ≡ s.durable) × (locked.log ≡ s.log)

like_further : (s locked new : State) → IsLike s locked → GoesFurther locked new → GoesFurther s new
like_further s locked new like further = record {
  durable = further.durable ∙ like.0;
  on = subst (λ (l : List LogRecord). IsPrefix l new.log) like.1 further.on;
}

module _ (g : Geometry) (a : SessionTxn) where
  answers_further : (s : State) (c : Call) (answer : Answer) (new : State) → AnswersBehind g s a c answer new → GoesFurther s new
  answers_further s (call.Get id) answer new h = subst (GoesFurther s) (sym h.1) (record { durable = refl; on = ([], sym (append-nil _)) })
  answers_further s (call.GetForUpdate id) answer new h = subst (GoesFurther s) (sym h.1) (record { durable = refl; on = ([], sym (append-nil _)) })
  answers_further s (call.Insert store bytes) answer new h =
      subst (GoesFurther s) (sym h.3.2)
      (subst (λ (x : Answer). GoesFurther s (answered (behind_place s a h.0) a (call.Insert store bytes) x h.3.0)) (sym h.2) (record { durable = refl; on = (_ ∷ [], refl) }))
  answers_further s (call.Update id bytes) answer new h = subst (GoesFurther s) (sym h.2.2) (record { durable = refl; on = (_ ∷ [], refl) })
  answers_further s (call.Delete id) answer new h = subst (GoesFurther s) (sym h.2.2) (record { durable = refl; on = (_ ∷ [], refl) })
  answers_further s (call.Scan store) answer new h = subst (GoesFurther s) (sym h.1) (record { durable = refl; on = ([], sym (append-nil _)) })
  answers_further s (call.Lock at mode) answer new h = subst (GoesFurther s) (sym h.1) (record { durable = refl; on = ([], sym (append-nil _)) })
  answers_further s (call.TryLock at mode) answer new h = subst (GoesFurther s) (sym h.1) (record { durable = refl; on = ([], sym (append-nil _)) })
  answers_further s _ answer new h = absurd h

  place_further : (s : State) (id : Rid) → GoesFurther s (behind_place s a id)
  place_further s id = record { durable = refl; on = ([], sym (append-nil _)) }

  refusals_further : (s : State) (c : Call) (f : Fault) (new : State) → RefusesBehind g s a c f new → GoesFurther s new
  refusals_further s (call.Get id) f new h = subst (GoesFurther s) (sym h.1) (refused_further s f)
  refusals_further s (call.GetForUpdate id) f new h = subst (GoesFurther s) (sym h.1) (refused_further s f)
  refusals_further s (call.Insert store bytes) f new (inl h) = same_further s new h.2
  refusals_further s (call.Insert store bytes) f new (inr (inl h)) = subst (GoesFurther s) (sym h.1.3) (place_further s h.1.0)
  refusals_further s (call.Insert store bytes) f new (inr (inr (inl h))) = subst (GoesFurther s) (sym h.1.3) (place_further s h.1.0)
  refusals_further s (call.Insert store bytes) f new (inr (inr (inr h))) = subst (GoesFurther s) (sym h.1) (refused_further s f)
  refusals_further s (call.Update id bytes) f new h = subst (GoesFurther s) (sym h.1) (refused_further s f)
  refusals_further s (call.Delete id) f new h = subst (GoesFurther s) (sym h.1) (refused_further s f)
  refusals_further s (call.Scan store) f new h = subst (GoesFurther s) (sym h.1) (refused_further s f)
  refusals_further s _ f new h = absurd h

  locked_like : (s locked : State) (rest : State) → locked ≡ rest → IsLike s rest → IsLike s locked
  locked_like s locked rest same like = subst (IsLike s) (sym same) like

  pub goes_further : (s : State) (c : Call) (step : Step) (new : State) → CallGoesOn g s a c step new → GoesFurther s new
  goes_further s c (Done answer) new h = like_further s h.0 new (locked_like s h.0 _ h.1.3 (refl, refl)) (answers_further h.0 c answer new h.2)
  goes_further s c (Waits wait) new h = subst (GoesFurther s) (sym h.5) (record { durable = refl; on = ([], sym (append-nil _)) })
  goes_further s c (Refused f) new (inl h) = ⊎_elim
      (same_further s new)
      (λ locked. ⊎_elim
      (λ same. subst (GoesFurther s) (sym (same ∙ locked.1.3)) (record { durable = refl; on = ([], sym (append-nil _)) }))
      (λ placed. like_further s locked.0 new (locked_like s locked.0 _ locked.1.3 (refl, refl)) (subst (GoesFurther locked.0) (sym placed.5) (place_further locked.0 placed.2)))
      locked.2)
      h.1
  goes_further s c (Refused f) new (inr (inl h)) = subst (GoesFurther s) (sym h.3) (record { durable = refl; on = ([], sym (append-nil _)) })
  goes_further s c (Refused f) new (inr (inr h)) = like_further s h.0 new (locked_like s h.0 _ h.1.3 (refl, refl)) (refusals_further h.0 c f new h.2)
  goes_further s c Nothing new h = absurd h

begin_further : (s : State) (session : ℕ) (step : Step) (new : State) → BeginStep s session step new → GoesFurther s new
begin_further s session (Done answer) new h = subst (GoesFurther s) (sym h.4) (record { durable = refl; on = ([], sym (append-nil _)) })
begin_further s session (Waits wait) new h = absurd h
begin_further s session (Refused f) new h = same_further s new h.1
begin_further s session Nothing new h = absurd h

commit_further : (s : State) (a : SessionTxn) (step : Step) (new : State) → CommitStep s a step new → GoesFurther s new
commit_further s a (Done answer) new h = subst (GoesFurther s) (sym h.1) (record { durable = refl; on = (_ ∷ [], refl) })
commit_further s a (Waits wait) new h = absurd h
commit_further s a (Refused f) new h = absurd h
commit_further s a Nothing new h = absurd h

prepare_further : (v : Version) (s : State) (a : SessionTxn) (global : List ℕ) (step : Step) (new : State) → PrepareStep v s a global step new → GoesFurther s new
prepare_further v s a global (Waits wait) new h = subst (GoesFurther s) (sym h.4) (record { durable = refl; on = (_ ∷ [], refl) })
prepare_further v s a global (Refused f) new h = same_further s new h.1
prepare_further v s a global (Done answer) new h = absurd h
prepare_further v s a global Nothing new h = absurd h

-- ---- rollbacks

unwound_further : (s : State) (a : SessionTxn) (r : Rollback) (mid : State) → IsUnwound s a r mid → GoesFurther s mid
unwound_further s a r mid (inl same) = same_further s mid same
unwound_further s a r mid (inr h) = subst (GoesFurther s) (sym h.5) (record { durable = refl; on = compensations_on a.txn s.log h.1 })

pub further_then : (s mid new : State) → GoesFurther s mid → GoesFurther mid new → GoesFurther s new
further_then s mid new h k = record { durable = k.durable ∙ h.durable; on = prefix_on s.log mid.log new.log h.on k.on }

interrupted_further : (s : State) (a : SessionTxn) (r : Rollback) (f : Fault) (new : State) → IsInterrupted s a r f new → GoesFurther s new
interrupted_further s a r f new h = further_then s h.0 new (unwound_further s a r h.0 h.1) (subst (GoesFurther h.0) (sym h.3) (refused_further h.0 f))

savepoint_further : (s : State) (a : SessionTxn) (step : Step) (new : State) → SavepointStep s a step new → GoesFurther s new
savepoint_further s a (Done answer) new h = subst (GoesFurther s) (sym h.2) (record { durable = refl; on = ([], sym (append-nil _)) })
savepoint_further s a (Refused f) new h = same_further s new h.2
savepoint_further s a (Waits wait) new h = absurd h
savepoint_further s a Nothing new h = absurd h

back_further : (s : State) (a : SessionTxn) (n : ℕ) (step : Step) (new : State) → BackToStep s a n step new → GoesFurther s new
back_further s a n (Done answer) new h = subst (GoesFurther s) (sym h.2) (record { durable = refl; on = compensations_on a.txn s.log (images_since a.undo n) })
back_further s a n (Refused f) new (inl h) = same_further s new h.2
back_further s a n (Refused f) new (inr h) = interrupted_further s a (To n) f new h.1
back_further s a n (Waits wait) new h = absurd h
back_further s a n Nothing new h = absurd h

abort_further : (s : State) (a : SessionTxn) (step : Step) (new : State) → AbortStep s a step new → GoesFurther s new
abort_further s a (Done answer) new h = subst (GoesFurther s) (sym h.1) (record { durable = refl; on = rollback_on a.txn s.log a.undo.images })
abort_further s a (Refused f) new h = interrupted_further s a Whole f new h
abort_further s a (Waits wait) new h = absurd h
abort_further s a Nothing new h = absurd h

open_further : (g : Geometry) (s : State) (a : SessionTxn) (c : Call) (step : Step) (new : State) → OpenStep g s a c step new → GoesFurther s new
open_further g s a c step new (inl h) = same_further s new h.3
open_further g s a c step new (inr (inl h)) = goes_further g a s c step new h.1
open_further g s a c step new (inr (inr (inl h))) = commit_further s a step new h.1
open_further g s a c step new (inr (inr (inr (inl h)))) = savepoint_further s a step new h.1
open_further g s a c step new (inr (inr (inr (inr h)))) = prepare_further g.version s a h.0 step new h.2

inner_further : (g : Geometry) (s : State) (a : SessionTxn) (c : Call) (step : Step) (new : State) → InnerStep g s a c step new → GoesFurther s new
inner_further g s a c step new (inl h) = same_further s new h.3
inner_further g s a c step new (inr (inl h)) = open_further g s a c step new h.1
inner_further g s a c step new (inr (inr (inl h))) = back_further s a h.0 step new h.3
inner_further g s a c step new (inr (inr (inr h))) = abort_further s a step new h.1

-- ---- resolves

pub decided_further : (s : State) (global : List ℕ) (b : SessionTxn) (d : State) → DecidesRollback s global b d → GoesFurther s d
decided_further s global b d (inl h) = subst (GoesFurther s) (sym h.3) (record { durable = refl; on = (_ ∷ [], refl) })
decided_further s global b d (inr h) = same_further s d h.1

pub done_further : (d : State) (b : SessionTxn) → GoesFurther d (rollback_done d b)
done_further d b = record { durable = refl; on = prefix_on d.log (and_compensations b.txn d.log b.undo.images) (rollback_done d b).log (compensations_on b.txn d.log b.undo.images) (_ ∷ [], refl) }

pub resolve_further : (s : State) (session : ℕ) (global : List ℕ) (asked : Outcome) (step : Step) (new : State) → ResolvesTo s session global asked step new → GoesFurther s new
resolve_further s session global outcome.Commit (Waits wait) new h = subst (GoesFurther s) (sym h.3) (record { durable = refl; on = (_ ∷ [], refl) })
resolve_further s session global outcome.Commit (Done answer) new h = absurd h
resolve_further s session global outcome.Commit (Refused f) new h = absurd h
resolve_further s session global outcome.Commit Nothing new h = absurd h
resolve_further s session global outcome.Abort (Refused f) new h = further_then s h.1 new (decided_further s global h.0 h.1 h.2) (interrupted_further h.1 h.0 Whole f new h.3)
resolve_further s session global outcome.Abort (Done answer) new h =
    further_then s h.1 new (decided_further s global h.0 h.1 h.2)
    (subst (GoesFurther h.1) (sym h.3.2) (let done = done_further h.1 h.0 in record { durable = done.durable; on = done.on }))
resolve_further s session global outcome.Abort (Waits wait) new h =
    further_then s h.1 new (decided_further s global h.0 h.1 h.2)
    (subst (GoesFurther h.1) (sym h.3.2) (let done = done_further h.1 h.0 in record { durable = done.durable; on = done.on }))
resolve_further s session global outcome.Abort Nothing new h = absurd h.3

outside_further : (s : State) (session : ℕ) (c : Call) (step : Step) (new : State) → OutsideStep s session c step new → GoesFurther s new
outside_further s session c step new h = ⊎_elim (λ same. same_further s new same) (λ r. resolve_further s session r.global r.asked step new r.to) (outside_or s session c step new h)

pub call_further : (g : Geometry) (s : State) (session : ℕ) (c : Call) (step : Step) (new : State) → CallStep g s session c step new → GoesFurther s new
call_further g s session c step new (inl h) = same_further s new h.1
call_further g s session c step new (inr (inl h)) = same_further s new h.2
call_further g s session c step new (inr (inr (inl h))) = same_further s new h.3
call_further g s session c step new (inr (inr (inr (inl h)))) = begin_further s session step new h.3
call_further g s session c step new (inr (inr (inr (inr (inl h))))) = same_further s new h.5
call_further g s session c step new (inr (inr (inr (inr (inr (inr (inl h))))))) = same_further s new h.5
call_further g s session c step new (inr (inr (inr (inr (inr (inr (inr h))))))) = outside_further s session c step new h.2
call_further g s session c step new (inr (inr (inr (inr (inr (inl h)))))) = inner_further g s h.2.0 c step new h.2.2

-- ---- going on

from_wait : (s : State) (session : ℕ) (new : State) → GoesFurther (wait_refused s session) new → GoesFurther s new
from_wait s session new h = record { durable = h.durable; on = h.on }

wait_further : (g : Geometry) (s : State) (w : Waiting) (wait : Wait) (step : Step) (new : State) → ResumesWait g s w wait step new → GoesFurther s new
wait_further g s w (Durable n) step new (inl h) = same_further s new h.2
wait_further g s w (Durable n) step new (inr (inr h)) = subst (GoesFurther s) (sym h.2.3) (record { durable = refl; on = ([], sym (append-nil _)) })
wait_further g s w (Durable n) step new (inr (inl h)) = subst (GoesFurther s) (sym h.2.4) (record { durable = refl; on = ([], sym (append-nil _)) })
wait_further g s w (Lock at) step new h = ⊎_elim
    (λ still. same_further s new still.2)
    (λ free. from_wait s w.session new (goes_further g h.0 (wait_refused s w.session) w.call step new free.1))
    h.2

pub resumed_further : (g : Geometry) (s : State) (w : Waiting) (step : Step) (new : State) → ResumesCall g s w step new → GoesFurther s new
resumed_further g s w step new (inl h) = subst (GoesFurther s) (sym h.2) (record { durable = refl; on = ([], sym (append-nil _)) })
resumed_further g s w step new (inr h) = wait_further g s w w.wait step new h.1

pub resume_further : (g : Geometry) (s : State) (session : ℕ) (step : Step) (new : State) → ResumeStep g s session step new → GoesFurther s new
resume_further g s session step new (inl h) = same_further s new h.2
resume_further g s session step new (inr h) = resumed_further g s h.0 step new h.3

-- ---- victims, and what a call and a resume come to as a whole

victim_further : (s : State) (t : ℕ) (v : Victim) (new : State) → TakesVictim s t v new → GoesFurther s new
victim_further s t v new h = subst (GoesFurther s) (sym h.is) (record { durable = refl; on = ([], sym (append-nil _)) })

pub victims_further : (s : State) (t : ℕ) (vs : List Victim) (new : State) → TakesVictims s t vs new → GoesFurther s new
victims_further s t [] new h = same_further s new h
victims_further s t (v ∷ vs) new h = further_then s h.0 new (victim_further s t v h.0 h.1) (victims_further h.0 t vs new h.2)

pub told_further : (s : State) (session : ℕ) (step : Step) (new : State) → TellsVictim s session step new → GoesFurther s new
told_further s session step new h = subst (GoesFurther s) (sym h.is) (record { durable = refl; on = ([], sym (append-nil _)) })

pub withdrawn_further : (s : State) (a : SessionTxn) (step : Step) (new : State) → Withdraws s a step new → GoesFurther s new
withdrawn_further s a step new h = subst (GoesFurther s) (sym h.1) (record { durable = refl; on = ([], sym (append-nil _)) })

pub settles_further : (g : Geometry) (s : State) (session : ℕ) (first : Step) (rounds : List (List Victim)) (step : Step) (new : State)
    → Settles g s session first rounds step new → GoesFurther s new
settles_further g s session first [] step new h = same_further s new h.2
settles_further g s session first (vs ∷ rounds) step new h =
    further_then s h.2 new (victims_further s h.0.txn vs h.2 h.5)
    (⊎_elim
    (λ ends. ⊎_elim
    (λ on. same_further h.2 new on.3)
    (λ end. ⊎_elim (told_further h.2 session step new) (λ back. withdrawn_further h.2 h.0 step new back.1) end)
    ends.1)
    (λ on. further_then h.2 on.1 new (resume_further g h.2 session on.0 on.1 on.3) (settles_further g on.1 session on.0 rounds step new on.4))
    h.6)

pub settled_call_further : (g : Geometry) (s : State) (session : ℕ) (c : Call) (step : Step) (new : State) → SettledCall g s session c step new → GoesFurther s new
settled_call_further g s session c step new h =
    further_then s h.mid new (call_further g s session c h.first h.mid h.calls) (settles_further g h.mid session h.first h.rounds step new h.settles)

pub settled_resume_further : (g : Geometry) (s : State) (session : ℕ) (step : Step) (new : State) → SettledResume g s session step new → GoesFurther s new
settled_resume_further g s session step new (inl told) = told_further s session step new told
settled_resume_further g s session step new (inr (inl still)) = resume_further g s session step new still.0
settled_resume_further g s session step new (inr (inr on)) =
    further_then s on.mid new (resume_further g s session on.first on.mid on.resumes) (settles_further g on.mid session on.first on.rounds step new on.settles)

pub give_up_further : (s : State) (session : ℕ) (step : Step) (new : State) → GiveUpStep s session step new → GoesFurther s new
give_up_further s session step new (inl h) = subst (GoesFurther s) (sym h.is) (record { durable = refl; on = ([], sym (append-nil _)) })
give_up_further s session step new (inr h) = same_further s new h.is

-- ---- any event

pub session_event_goes_on : (g : Geometry) (s new : State) (e : ManagerEvent) → EventMoves g s e new → IsPrefix s.log new.log
session_event_goes_on g s new (Called session c step) h = further_on s new (settled_call_further g s session c step new h.1)
session_event_goes_on g s new (Resumed session step) h = further_on s new (settled_resume_further g s session step new h)
session_event_goes_on g s new (GaveUp session step) h = further_on s new (give_up_further s session step new h)
session_event_goes_on g s new (Forced n) h = ([], ap (λ (x : State). x.log) h.2 ∙ sym (append-nil s.log))
session_event_goes_on g s new HasFailed h = ([], ap (λ (x : State). x.log) h ∙ sym (append-nil s.log))
session_event_goes_on g s new (TicketAsked ticket answer) h = ([], ap (λ (x : State). x.log) h.1 ∙ sym (append-nil s.log))

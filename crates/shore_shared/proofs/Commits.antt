-- What a Commit comes to in the trail of a manager, and what clients are answered by that.
use Rattle.std.proofs.Common.{◌≡◌, ◌⊎◌, ◌<◌, ℕ, zero, suc, All, Bool, Contains, List, [], ◌∷◌, ◌++◌, Option, Some, Result, Ok, Err, inl, inr, arith, ap, refl, subst, sym, ◌∙◌}
use Rattle.shore_types.specs.declared.faults.Fault.{Fault}
use Rattle.shore_types.specs.declared.faults.Fault.TheVariants as fault
use Rattle.shore_types.specs.declared.layout.Geometry.{Geometry}
use Rattle.shore_model.specs.declared.calls.Answer.{Answer}
use Rattle.shore_model.specs.declared.calls.Call.{Call}
use Rattle.shore_model.specs.declared.calls.Call.TheVariants as call
use Rattle.shore_model.specs.declared.calls.Exchange.{Exchange}
use Rattle.shore_model.specs.declared.histories.Entry.{Entry}
use Rattle.shore_model.specs.declared.step.Step.{Step}
use Rattle.shore_model.specs.declared.step.Step.TheVariants as made
use Rattle.laws_lives.specs.Sessions.{SessionTxn}
use Rattle.laws_calls.specs.CallSteps.{CallStep, CommitStep, InnerStep, OpenStep, OutsideStep}
use Rattle.laws_calls.specs.Events.{Called, EventMoves, ManagerEvent}
use Rattle.laws_calls.specs.Settling.{SettledCall, Settles}
use Rattle.laws_calls.specs.States.{State}
use Rattle.laws_runs.specs.CheckpointSteps.{CheckpointedMove, CheckpointedMoves, CheckpointedState, Checkpoints, Goes}
use Rattle.laws_runs.specs.StoredRuns.{Manage, Tend}
use Rattle.shore_words.specs.declared.rule.Heard.{Heard}
use Rattle.shore_words.specs.declared.rule.Noted.{Noted}
use Rattle.shore_words.specs.Words.{heard_of}
use Rattle.shore_world.specs.EventMoves.{OfCheckpoint, OfManager, PlainMove, moves_among}
use Rattle.shore_shared.specs.Clients.{ComesOfCommit, IsReplyToCommit, StandsIn}
use Rattle.shore_shared.specs.Heard.{AwaitsLock, AwaitsLog, Hears, IsAnswered, asked_behind}
use Rattle.shore_shared.specs.Told.{AreTold}
use Rattle.shore_shared.proofs.Standing.{In, in_left, in_right}

-- ---- one call

refused_by : (step : Step) (f : Fault) → step ≡ made.Refused f → ¬ (f ≡ fault.NotQuiet) → ComesOfCommit step
refused_by step f is other = subst ComesOfCommit (sym is) other

commit_comes : (s new : State) (a : SessionTxn) (step : Step) → CommitStep s a step new → ComesOfCommit step
commit_comes s new a (made.Done answer) h = (_, h.0)
commit_comes s new a (made.Waits wait) h = absurd h
commit_comes s new a (made.Refused f) h = absurd h
commit_comes s new a made.Nothing h = absurd h

open_comes : (g : Geometry) (s new : State) (a : SessionTxn) (step : Step) → OpenStep g s a call.Commit step new → ComesOfCommit step
open_comes g s new a step (inl h) = absurd h.1
open_comes g s new a step (inr (inl h)) = absurd h.0
open_comes g s new a step (inr (inr (inl h))) = commit_comes s new a step h.1
open_comes g s new a step (inr (inr (inr (inl h)))) = absurd (cc h.0)
open_comes g s new a step (inr (inr (inr (inr h)))) = absurd (cc h.1)

inner_comes : (g : Geometry) (s new : State) (a : SessionTxn) (step : Step) → InnerStep g s a call.Commit step new → ComesOfCommit step
inner_comes g s new a step (inl h) = refused_by step fault.MustAbort h.2 (λ e. absurd (cc e))
inner_comes g s new a step (inr (inl h)) = open_comes g s new a step h.1
inner_comes g s new a step (inr (inr (inl h))) = absurd (cc h.1)
inner_comes g s new a step (inr (inr (inr h))) = absurd (cc h.0)

outside_comes : (s new : State) (session : ℕ) (step : Step) → OutsideStep s session call.Commit step new → ComesOfCommit step
outside_comes s new session step (inl h) = absurd (cc h.0)
outside_comes s new session step (inr h) = absurd (cc h.2)

call_comes : (g : Geometry) (s new : State) (session : ℕ) (step : Step) → CallStep g s session call.Commit step new → ComesOfCommit step
call_comes g s new session step (inl h) = refused_by step fault.Memory h.0 (λ e. absurd (cc e))
call_comes g s new session step (inr (inl h)) = refused_by step fault.Failed h.1 (λ e. absurd (cc e))
call_comes g s new session step (inr (inr (inl h))) = refused_by step fault.Busy h.2 (λ e. absurd (cc e))
call_comes g s new session step (inr (inr (inr (inl h)))) = absurd (cc h.2)
call_comes g s new session step (inr (inr (inr (inr (inl h))))) = refused_by step fault.NoTransaction h.4 (λ e. absurd (cc e))
call_comes g s new session step (inr (inr (inr (inr (inr (inl h)))))) = inner_comes g s new h.2.0 step h.2.2
call_comes g s new session step (inr (inr (inr (inr (inr (inr (inl h))))))) = refused_by step fault.IsPrepared h.4 (λ e. absurd (cc e))
call_comes g s new session step (inr (inr (inr (inr (inr (inr (inr h))))))) = outside_comes s new session step h.2

settled_comes : (g : Geometry) (s new : State) (session : ℕ) (step : Step) → SettledCall g s session call.Commit step new → ComesOfCommit step
settled_comes g s new session step h = by h.first h.mid (call_comes g s h.mid session h.first h.calls) h.rounds h.settles
  where
    by : (first : Step) (mid : State) → ComesOfCommit first → (rounds : _) → Settles g mid session first rounds step new → ComesOfCommit step
    by first mid is [] settles = subst ComesOfCommit (sym settles.1) is
    by first mid is (vs ∷ rounds) settles = absurd (subst ComesOfCommit settles.4 is)

-- ---- all of a trail

abbrev the_event : ManagerEvent → PlainMove → ManagerEvent
the_event other (OfManager e) = e
the_event other (OfCheckpoint step) = other

pub trail_comes : (g : Geometry) (m : CheckpointedState) (moves : List CheckpointedMove) (last : CheckpointedState) (entries : List Entry) → CheckpointedMoves g m moves last entries
    → (session : ℕ) (step : Step) → Contains (moves_among moves) (OfManager (Called session call.Commit step)) → ComesOfCommit step
trail_comes g m [] last entries is session step (k, low, at) = absurd (omega (arith, low))
trail_comes g m (Goes (Manage e works) ∷ moves) last entries (new, later, steps, rest, made_so) session step (zero, low, at) =
    settled_comes g m.state new.state session step (subst (λ x. EventMoves g m.state x new.state) (ap (the_event e) at) steps.0.0).1
trail_comes g m (Goes (Manage e works) ∷ moves) last entries (new, later, steps, rest, made_so) session step (suc k, low, at) =
    trail_comes g new moves last later rest session step (k, omega (arith, low), at)
trail_comes g m (Goes (Tend works) ∷ moves) last entries (new, later, steps, rest, made_so) session step is = trail_comes g new moves last later rest session step is
trail_comes g m (Checkpoints by ∷ moves) last entries (new, later, steps, rest, made_so) session step (zero, low, at) = absurd (cc at)
trail_comes g m (Checkpoints by ∷ moves) last entries (new, later, steps, rest, made_so) session step (suc k, low, at) =
    trail_comes g new moves last later rest session step (k, omega (arith, low), at)

-- ---- what a client is answered

by_step : (step : Step) (r : Result Answer Fault) → ComesOfCommit step → IsAnswered step r → IsReplyToCommit r
by_step (made.Done a) r comes is = subst IsReplyToCommit (sym is) comes
by_step (made.Refused f) r comes is = subst IsReplyToCommit (sym is.0) comes
by_step (made.Waits w) r comes is = absurd comes
by_step made.Nothing r comes is = absurd comes

asks_again : (step : Step) → ComesOfCommit step → asked_behind call.Commit step ≡ Some call.Commit
asks_again (made.Done a) comes = refl
asks_again (made.Refused f) comes = refl
asks_again (made.Waits w) comes = absurd comes
asks_again made.Nothing comes = absurd comes

replied : (Stands : Heard → Type 0) → ((step : Step) → Stands (record { asked = Some call.Commit; step = step }) → ComesOfCommit step) → (failed : Bool) (next : Option Call) (hs : List Heard) (r : Result Answer Fault)
    → next ≡ Some call.Commit → ((h : Heard) → In h hs → Stands h) → Hears failed call.Commit next hs r → IsReplyToCommit r
replied Stands comes failed next [] r is stand (first, lacks) = subst IsReplyToCommit (sym lacks) (λ e. absurd (cc e))
replied Stands comes failed next (h ∷ hs) r is stand (asked, inl (none, answered)) =
    by_step h.step r (comes h.step (subst (λ n. Stands (record { asked = n; step = h.step })) (asked ∙ is) (stand h (inl refl)))) answered
replied Stands comes failed next (h ∷ hs) r is stand (asked, inr (inl (none, awaits, device, found))) = subst IsReplyToCommit (sym device) (λ e. absurd (cc e))
replied Stands comes failed next (h ∷ hs) r is stand (asked, inr (inr (awaits, hears))) =
    replied Stands comes failed (asked_behind call.Commit h.step) hs r (asks_again h.step (comes h.step (subst (λ n. Stands (record { asked = n; step = h.step })) (asked ∙ is) (stand h (inl refl)))))
    (λ x at. stand x (inr at)) hears

pub all_replied : (noted : List Noted) (session : ℕ) → ((step : Step) → StandsIn noted session (Some call.Commit) step → ComesOfCommit step) → (failed : Bool) (es : List Exchange) (heard : List Heard)
    → ((h : Heard) → In h heard → Contains noted (record { session = session; heard = h })) → AreTold failed es heard → All (λ e. e.call ≡ call.Commit → IsReplyToCommit e.reply) es
all_replied noted session comes failed [] heard stand told k d low = absurd (omega (arith, low))
all_replied noted session comes failed (e ∷ es) heard stand (first, rest, parts, hears, told) zero d low = λ is.
    replied (λ h. Contains noted (record { session = session; heard = h })) comes failed (Some e.call) first e.reply (ap Some is) (λ h at. stand h (subst (In h) (sym parts) (in_left h first rest at)))
    (subst (λ c. Hears failed c (Some e.call) first e.reply) is hears)
all_replied noted session comes failed (e ∷ es) heard stand (first, rest, parts, hears, told) (suc k) d low =
    all_replied noted session comes failed es rest (λ h at. stand h (subst (In h) (sym parts) (in_right h first rest at))) told k d (omega (arith, low))

-- Locks of a world that is a manager: other events leave all requests, and an answered call has the locks that it needs.
use Rattle.std.proofs.Common.{◌≡◌, ◌≢◌, ◌++◌, inl, inr, ⊎_elim, ℕ, List, false, refl, sym, ap, subst, ◌∙◌}
use Rattle.shore_types.specs.declared.layout.Geometry.{Geometry}
use Rattle.shore_types.specs.declared.locking.Granule.{Granule}
use Rattle.shore_disk.specs.declared.device.Disk.{Ghosts}
use Rattle.shore_model.specs.Calls.{IsServed}
use Rattle.shore_model.specs.Requests.{held_by_all}
use Rattle.shore_model.specs.declared.calls.Answer.{Answer}
use Rattle.shore_model.specs.declared.calls.Answer.TheVariants.{Cut, Forced, IsDurable, Staged}
use Rattle.shore_model.specs.declared.calls.Call.{Call}
use Rattle.shore_model.specs.declared.calls.Call.TheVariants as call
use Rattle.shore_model.specs.declared.histories.Entry.{Entry}
use Rattle.shore_model.specs.declared.histories.Opening.{Opening}
use Rattle.shore_model.specs.declared.log_records.LogRecord.{LogRecord}
use Rattle.shore_model.specs.declared.step.Step.{Step}
use Rattle.shore_model.specs.declared.step.Step.TheVariants.{Done, Nothing, Refused, Waits}
use Rattle.shore_model.specs.declared.step.Wait.{Wait}
use Rattle.shore_model.specs.declared.step.Wait.TheVariants.{Durable, Lock}
use Rattle.shore_core.specs.Flushing.{FlushMoves}
use Rattle.shore_locks.specs.Tables.{Table}
use Rattle.laws_lives.specs.GranuleLocks.{HasLocksFor}
use Rattle.laws_lives.specs.Sessions.{SessionTxn}
use Rattle.laws_lives.specs.Views.{IsAmong}
use Rattle.laws_calls.proofs.LocksKept.{answer_has_locks}
use Rattle.laws_calls.proofs.Midway.{CallCameTo, CameTo, IsPaused, kept_midway, midway_paused, settled_call_to, settled_resume_to}
use Rattle.laws_calls.proofs.Sessions.{its_txn}
use Rattle.laws_calls.proofs.SettledAsks.{goes_as_call, goes_from, waits_may}
use Rattle.laws_calls.proofs.SettledWaits.{HasWaited}
use Rattle.laws_calls.specs.CallHistories.{txn_of}
use Rattle.laws_calls.specs.CallSteps.{MayAsk, ResumeStep, ResumesCall, ResumesWait}
use Rattle.laws_calls.specs.Events.{IsStateAfter}
use Rattle.laws_calls.specs.Midway.{EndsFrom}
use Rattle.laws_calls.specs.Settling.{SettledCall, SettledResume}
use Rattle.laws_calls.specs.Shapes.{LockWaitsMayAsk}
use Rattle.laws_calls.specs.StateChanges.{wait_refused}
use Rattle.laws_calls.specs.States.{IsOfSession, State, Waiting}
use Rattle.shore_world.specs.declared.event.Event.{Event}
use Rattle.shore_world.specs.declared.event.Event.TheVariants as event
use Rattle.shore_world.specs.declared.world.World.{World}
use Rattle.shore_world.specs.Events.{IsServedEvent}
use Rattle.shore_world.specs.Exchanges.{waited_behind}
use Rattle.shore_world.specs.Promises.{IsManagerOf}
use Rattle.shore_world.specs.Worlds.{EventStep, Steps, geometry_in, requests_in}
use Rattle.shore_world.proofs.CheckpointLemmas.{step_keeps}
use Rattle.shore_world.proofs.PromiseLemmas.{after, held_now, seen, stepped}

-- ---- other events

abbrev SameLocks : State → State → Type 0
SameLocks s new = new.locks ≡ s.locks

same_all : {new later : State} → new ≡ later → new.locks ≡ later.locks
same_all is = ap (λ (x : State). x.locks) is

asked_keeps : (g : Geometry) (s new : State) (ticket : ℕ) (step : Step) → EventStep g s (event.Ask ticket) step new → SameLocks s new
asked_keeps g s new ticket (Done (IsDurable answer)) h = same_all h.1
asked_keeps g s new ticket step h = absurd h

cut_keeps : (g : Geometry) (s new : State) (step : Step) → EventStep g s event.CutTrail step new → SameLocks s new
cut_keeps g s new (Done Cut) h = same_all h.2
cut_keeps g s new (Refused f) h = same_all h.1
cut_keeps g s new step h = absurd h

stage_keeps : (g : Geometry) (s new : State) (step : Step) → EventStep g s event.ForceStage step new → SameLocks s new
stage_keeps g s new (Done (Staged n)) h = same_all h.3
stage_keeps g s new Nothing h = same_all h.1
stage_keeps g s new (Refused f) (inl h) = same_all h.2
stage_keeps g s new (Refused f) (inr (inl h)) = same_all h.2
stage_keeps g s new (Refused f) (inr (inr h)) = same_all h.2
stage_keeps g s new step h = absurd h

open_keeps : (g : Geometry) (s new : State) (step : Step) → EventStep g s event.ForceOpen step new → SameLocks s new
open_keeps g s new (Done (Forced n)) h = same_all h.3
open_keeps g s new Nothing h = same_all h.1
open_keeps g s new (Refused f) (inl h) = same_all h.2
open_keeps g s new (Refused f) (inr h) = same_all h.2
open_keeps g s new step h = absurd h

flush_keeps : (s new : State) (step : Step) → FlushMoves s step new → SameLocks s new
flush_keeps s new (Done answer) h = same_all h.2
flush_keeps s new (Refused f) (inl h) = same_all h.2
flush_keeps s new (Refused f) (inr (runs, device, h)) = same_all h
flush_keeps s new (Waits wait) h = absurd h
flush_keeps s new Nothing h = same_all h.1

others_keep : (g : Geometry) (s new : State) (e : Event) (step : Step) → ((session : ℕ) (c : Call) → e ≢ event.Call session c) → ((session : ℕ) → e ≢ event.Resume session)
    → ((session : ℕ) → e ≢ event.GiveUp session) → EventStep g s e step new → SameLocks s new
others_keep g s new (event.Call session c) step no_call no_resume no_give_up h = absurd (no_call session c refl)
others_keep g s new (event.Resume session) step no_call no_resume no_give_up h = absurd (no_resume session refl)
others_keep g s new (event.GiveUp session) step no_call no_resume no_give_up h = absurd (no_give_up session refl)
others_keep g s new (event.Ask ticket) step no_call no_resume no_give_up h = asked_keeps g s new ticket step h
others_keep g s new event.ForceStage step no_call no_resume no_give_up h = stage_keeps g s new step h
others_keep g s new event.ForceOpen step no_call no_resume no_give_up h = open_keeps g s new step h
others_keep g s new event.FlushStep step no_call no_resume no_give_up h = flush_keeps s new step h
others_keep g s new event.CheckpointStep step no_call no_resume no_give_up h = step_keeps (SameLocks s) s (λ l. refl) (λ n. refl) refl refl step new h
others_keep g s new event.CutTrail step no_call no_resume no_give_up h = cut_keeps g s new step h

-- ---- answered calls

module _ (g : Geometry) (o : Opening) (found : List LogRecord) (es : List Entry) (s : State) (session : ℕ) (answer : Answer) (new : State) where
  -- a call that waited goes on, and is answered
  from_paused : (n : ℕ) (c : Call) (x : State) → IsPaused g o found es session n c x → MayAsk g c → ResumeStep g x session (Done answer) new → HasLocksFor new.sessions.held n c answer
  from_paused n c x p may goes = ⊎_elim
      (λ decides. let clash : Lock p.at ≡ Durable decides.number = sym p.waits.lock ∙ ap (λ (v : Waiting). v.wait) decides.is in absurd cc)
      (λ locks.
      let of : IsOfSession x session locks.txn = (locks.active, locks.of ∙ p.waits.of) in
      let number : locks.txn.txn ≡ n = sym (its_txn x.sessions locks.txn session of.0.1 of.1) ∙ p.waits.number in
      subst (λ t. HasLocksFor new.sessions.held t c answer) number
      (answer_has_locks g o found es (wait_refused x session) new (goes_from g o found es session n c x p may (Done answer) new tt goes) session c answer locks.txn of
      (goes_as_call g o found es session n c x p may (Done answer) new tt goes)))
      (p.stays.waits.each p.waits.waited p.waits.there)

  module _ (k : IsStateAfter o found es s) where
    pub call_has_locks : (c : Call) → SettledCall g s session c (Done answer) new → (a : SessionTxn) → IsOfSession s session a → HasLocksFor new.sessions.held a.txn c answer
    call_has_locks c h a of = ⊎_elim
        (λ once. answer_has_locks g o found es s new k.sessions session c answer a of once.1)
        (λ came. by came came.ends)
        (settled_call_to g s session c (Done answer) new h)
      where
        by : (came : CallCameTo g s session c (Done answer) new) → EndsFrom g came.from session (Done answer) new → HasLocksFor new.sessions.held a.txn c answer
        by came (inl still) = let clash = still.step_is in absurd cc
        by came (inr (inl (inl told))) = let clash = told.told in absurd cc
        by came (inr (inl (inr back))) = let clash = back.2.0 in absurd cc
        by came (inr (inr goes)) =
            let m = came.midway in
            subst (λ t. HasLocksFor new.sessions.held t c answer) (its_txn s.sessions a session of.0.1 of.1)
            (from_paused (txn_of s.sessions session) c came.from (midway_paused g o found es s k session c came.between came.from m) (waits_may g s m.waits session c m.at m.calls) goes.1)

    -- the call that waited
    pub record WasAnswered : Type 0 where
      pub waited : Waiting
      pub there : IsAmong waited s.waiting
      pub of : waited.session ≡ session
      pub has : HasLocksFor new.sessions.held (txn_of s.sessions session) waited.call answer

    module _ (may : LockWaitsMayAsk g s) where
      abbrev paused_so : (w : Waiting) → IsAmong w s.waiting → w.session ≡ session → (at : Granule) → w.wait ≡ Lock at → s.failed ≡ false → IsPaused g o found es session (txn_of s.sessions session) w.call s
      paused_so w there of at lock running =
          record { stays = k; at = at; waits = record { waited = w; there = there; of = of; its = refl; lock = lock; number = refl; running = running } }

      -- one that waits for a record needs no locks
      by_wait : (w : Waiting) → IsAmong w s.waiting → w.session ≡ session → (wait : Wait) → w.wait ≡ wait → ResumeStep g s session (Done answer) new → s.failed ≡ false
          → ResumesWait g s w wait (Done answer) new → WasAnswered
      by_wait w there of (Durable n) is step running (inl h) = let clash = h.1 in absurd cc
      by_wait w there of (Durable n) is step running (inr (inl h)) =
          record { waited = w; there = there; of = of; has = subst (λ (c : Call). HasLocksFor new.sessions.held (txn_of s.sessions session) c answer) (sym h.2.3) tt }
      by_wait w there of (Durable n) is step running (inr (inr h)) =
          record { waited = w; there = there; of = of; has = subst (λ (c : Call). HasLocksFor new.sessions.held (txn_of s.sessions session) c answer) (sym h.2.2) tt }
      by_wait w there of (Lock at) is step running h =
          record { waited = w; there = there; of = of; has = from_paused (txn_of s.sessions session) w.call s (paused_so w there of at is running) (may w there at is) step }

      at_once : (w : Waiting) → IsAmong w s.waiting → w.session ≡ session → ResumeStep g s session (Done answer) new → ResumesCall g s w (Done answer) new → WasAnswered
      at_once w there of step (inl failed) = let clash = failed.1 in absurd cc
      at_once w there of step (inr runs) = by_wait w there of w.wait refl step runs.0 runs.1

      by_step : ResumeStep g s session (Done answer) new → WasAnswered
      by_step (inl none) = let clash = none.1 in absurd cc
      by_step (inr h) = at_once h.0 h.1 h.2 (inr h) h.3

      by_way : (was : HasWaited s session) (came : CameTo g session s (Done answer) new) → EndsFrom g came.from session (Done answer) new → WasAnswered
      by_way was came (inl still) = let clash = still.step_is in absurd cc
      by_way was came (inr (inl (inl told))) = let clash = told.told in absurd cc
      by_way was came (inr (inl (inr back))) = let clash = back.2.0 in absurd cc
      by_way was came (inr (inr goes)) =
          let w = was.waits.waited in
          let p =
          kept_midway g o found es session (txn_of s.sessions session) w.call (λ y. Unit {0}) (λ y later e q t i. tt) s came.between came.from
          (paused_so w was.waits.there was.waits.of was.at was.waits.lock was.waits.running) tt came.intervene in
          record {
            waited = w;
            there = was.waits.there;
            of = was.waits.of;
            has = from_paused (txn_of s.sessions session) w.call came.from p.0 (may w was.waits.there was.at was.waits.lock) goes.1;
          }

      pub resume_has_locks : SettledResume g s session (Done answer) new → WasAnswered
      resume_has_locks h = ⊎_elim by_step (λ rest. ⊎_elim (λ told. let clash = told.told in absurd cc) (λ on. by_way on.0 on.1 on.1.ends) rest) (settled_resume_to g s session (Done answer) new h)

-- ---- of the world

module _ {L V : Type 0} {G : Ghosts L} {H : Ghosts V} (w : World L V G H) (o : Opening) (es : List Entry) (ws : List (ℕ × Call)) (k : IsManagerOf w o es ws) (new : World L V G H) where
  pub other_events_keep : (e : Event) (step : Step) → IsServedEvent e → ((session : ℕ) (c : Call) → e ≢ event.Call session c) → ((session : ℕ) → e ≢ event.Resume session)
      → ((session : ℕ) → e ≢ event.GiveUp session) → Steps w e step new → requests_in new ≡ requests_in w
  other_events_keep e step served no_call no_resume no_give_up one =
      let went = stepped w o es ws k e step new served one in
      let later = seen new o (es ++ went.on.made) (waited_behind ws e step) went.on.manager in
      sym later.requests ∙ ap (λ (t : Table). t.requests) (others_keep (geometry_in w) k.now.state went.on.manager.now.state e step no_call no_resume no_give_up went.moves) ∙ (seen w o es ws k).requests

  pub answered_call : (session : ℕ) (c : Call) (answer : Answer) → IsServed c → Steps w (event.Call session c) (Done answer) new → (a : SessionTxn) → IsOfSession k.now.state session a
      → HasLocksFor (held_by_all (requests_in new)) a.txn c answer
  answered_call session c answer served one a of =
      let went = stepped w o es ws k (event.Call session c) (Done answer) new served one in
      subst (λ held. HasLocksFor held a.txn c answer) (held_now new o (es ++ went.on.made) (waited_behind ws (event.Call session c) (Done answer)) went.on.manager)
      (call_has_locks (geometry_in w) o k.found es k.now.state session answer went.on.manager.now.state (after w o es ws k) c went.moves a of)

  pub answered_resume : (session : ℕ) (answer : Answer) → Steps w (event.Resume session) (Done answer) new → (waited : Waiting) × IsAmong waited k.now.state.waiting × (waited.session ≡ session)
      × ((a : SessionTxn) → IsOfSession k.now.state session a → HasLocksFor (held_by_all (requests_in new)) a.txn waited.call answer)
  answered_resume session answer one =
      let went = stepped w o es ws k (event.Resume session) (Done answer) new tt one in
      let was = resume_has_locks (geometry_in w) o k.found es k.now.state session answer went.on.manager.now.state (after w o es ws k) k.under_way.under_way.asks went.moves in (
        was.waited,
        was.there,
        was.of,
        (λ a of.
            subst (λ held. HasLocksFor held a.txn was.waited.call answer) (held_now new o (es ++ went.on.made) (waited_behind ws (event.Resume session) (Done answer)) went.on.manager)
            (subst (λ t. HasLocksFor went.on.manager.now.state.sessions.held t was.waited.call answer) (its_txn k.now.state.sessions a session of.0.1 of.1) was.has)),
      )

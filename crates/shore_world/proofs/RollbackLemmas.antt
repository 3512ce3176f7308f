-- A rollback of a world that is a manager is one step over plain data, so a refused one keeps what it has put back.
use Rattle.std.proofs.Common.{◌≡◌, ◌⊎◌, ⊎_elim, ℕ, List, Option, Some, None, refl, sym, ◌∙◌}
use Rattle.shore_types.specs.declared.faults.Fault.{Fault}
use Rattle.shore_types.specs.declared.layout.Geometry.{Geometry}
use Rattle.shore_disk.specs.declared.device.Disk.{Ghosts}
use Rattle.shore_model.specs.Calls.{IsServed}
use Rattle.shore_model.specs.declared.calls.Call.{Call}
use Rattle.shore_model.specs.declared.calls.Call.TheVariants as call
use Rattle.shore_model.specs.declared.calls.Outcome.{Outcome}
use Rattle.shore_model.specs.declared.histories.Entry.{Entry}
use Rattle.shore_model.specs.declared.histories.Opening.{Opening}
use Rattle.shore_model.specs.declared.rollbacks.Rollback.{Rollback}
use Rattle.shore_model.specs.declared.rollbacks.Rollback.TheVariants.{Whole}
use Rattle.shore_model.specs.declared.step.Step.{Step}
use Rattle.shore_model.specs.declared.step.Step.TheVariants.{Refused}
use Rattle.laws_lives.specs.Sessions.{SessionTxn}
use Rattle.laws_calls.proofs.Midway.{settled_call_to}
use Rattle.laws_calls.proofs.SettledAsks.{waits_may}
use Rattle.laws_calls.proofs.WrongRollbacks.{resolve_stops, rollback_stops}
use Rattle.laws_calls.specs.CallSteps.{CallStep, MayAsk, NeedsTxn}
use Rattle.laws_calls.specs.Resolves.{DecidesRollback}
use Rattle.laws_calls.specs.Rollbacks.{Interrupts, IsInterrupted, IsUnwound}
use Rattle.laws_calls.specs.Settling.{SettledCall}
use Rattle.laws_calls.specs.Shapes.{rollback_of}
use Rattle.laws_calls.specs.StateChanges.{after_refusal}
use Rattle.laws_calls.specs.States.{IsOfSession, State}
use Rattle.shore_world.specs.declared.event.Event.TheVariants as event
use Rattle.shore_world.specs.declared.world.World.{World}
use Rattle.shore_world.specs.Promises.{GoesOnAs, IsManagerOf}
use Rattle.shore_world.specs.Worlds.{Steps, geometry_in}
use Rattle.shore_world.proofs.PromiseLemmas.{stepped}

-- a call that asks for a lock is no rollback
asks_no_rollback : (g : Geometry) (c : Call) → MayAsk g c → rollback_of c ≡ None
asks_no_rollback g (call.BackTo n) h = absurd h
asks_no_rollback g call.Abort h = absurd h
asks_no_rollback g (call.Resolve global asked) h = absurd h
asks_no_rollback g _ h = refl

none_some : (r : Rollback) → ◌≡◌ {A = Option Rollback} None (Some r) → ⊥
none_some r e = cc

module _ (g : Geometry) (s new : State) (session : ℕ) (step : Step) where
  pub rollback_at_once : (c : Call) (r : Rollback) → rollback_of c ≡ Some r → SettledCall g s session c step new → CallStep g s session c step new
  rollback_at_once c r is h = ⊎_elim
      (λ once. once.1)
      (λ came. let m = came.midway in absurd (none_some r (sym (asks_no_rollback g c (waits_may g s m.waits session c m.at m.calls)) ∙ is)))
      (settled_call_to g s session c step new h)

  resolve_at_once : (global : List ℕ) (asked : Outcome) → SettledCall g s session (call.Resolve global asked) step new → CallStep g s session (call.Resolve global asked) step new
  resolve_at_once global asked h = ⊎_elim
      (λ once. once.1)
      (λ came. let m = came.midway in absurd (waits_may g s m.waits session (call.Resolve global asked) m.at m.calls))
      (settled_call_to g s session (call.Resolve global asked) step new h)

module _ {L V : Type 0} {G : Ghosts L} {H : Ghosts V} (w : World L V G H) (o : Opening) (es : List Entry) (ws : List (ℕ × Call)) (k : IsManagerOf w o es ws) (new : World L V G H) (session : ℕ)
    (f : Fault) where
  abbrev s : State
  s = k.now.state

  pub refused_rollback : (c : Call) (r : Rollback) → IsServed c → NeedsTxn c → rollback_of c ≡ Some r → Steps w (event.Call session c) (Refused f) new
      → (on : GoesOnAs new o es ws (event.Call session c) (Refused f)) × ((on.manager.now.state ≡ s)
      ⊎ ((a : SessionTxn) × IsOfSession s session a × ((mid : State) × IsUnwound s a r mid × Interrupts mid f × (on.manager.now.state ≡ after_refusal f mid))))
  refused_rollback c r served needs is one =
      let went = stepped w o es ws k (event.Call session c) (Refused f) new served one in
      let later = went.on.manager.now.state in
      (went.on, rollback_stops (geometry_in w) s later session c r f needs is (rollback_at_once (geometry_in w) s later session (Refused f) c r is went.moves))

  pub refused_resolve : (global : List ℕ) (asked : Outcome) → IsServed (call.Resolve global asked) → Steps w (event.Call session (call.Resolve global asked)) (Refused f) new
      → (on : GoesOnAs new o es ws (event.Call session (call.Resolve global asked)) (Refused f)) × ((on.manager.now.state ≡ s)
      ⊎ ((b : SessionTxn) × (decided : State) × DecidesRollback s global b decided × IsInterrupted decided b Whole f on.manager.now.state))
  refused_resolve global asked served one =
      let went = stepped w o es ws k (event.Call session (call.Resolve global asked)) (Refused f) new served one in
      let later = went.on.manager.now.state in
      (went.on, resolve_stops (geometry_in w) s later session global asked f (resolve_at_once (geometry_in w) s later session (Refused f) global asked went.moves))

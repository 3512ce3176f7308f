-- Rollbacks as calls as a whole: they wait for nothing, so each is one step.
use Rattle.std.proofs.Common.{◌≡◌, ⊎_elim, ℕ, List, Some, None, refl, ap, sym, ◌∙◌}
use Rattle.shore_types.specs.declared.faults.Fault.{Fault}
use Rattle.shore_types.specs.declared.layout.Geometry.{Geometry}
use Rattle.shore_model.specs.declared.calls.Call.{Call}
use Rattle.shore_model.specs.declared.calls.Call.TheVariants as call
use Rattle.shore_model.specs.declared.histories.Entry.{Entry}
use Rattle.shore_model.specs.declared.histories.Opening.{Opening}
use Rattle.shore_model.specs.declared.log_records.LogRecord.{LogRecord}
use Rattle.shore_model.specs.declared.rollbacks.Rollback.{Rollback}
use Rattle.shore_model.specs.declared.rollbacks.Rollback.TheVariants.{Whole}
use Rattle.shore_model.specs.declared.step.Step.{Step}
use Rattle.shore_model.specs.declared.step.Step.TheVariants.{Refused}
use Rattle.laws_locks.specs.CallLocks.{Asked, lock_asked_by}
use Rattle.laws_lives.specs.Views.{IsAmong}
use Rattle.laws_calls.proofs.Midway.{settled_call_to}
use Rattle.laws_calls.proofs.SettledAsks.{waits_may}
use Rattle.laws_calls.proofs.WrongRollbacks.{abort_stops, undo_has_room}
use Rattle.laws_calls.specs.CallSteps.{CallStep, MayAsk}
use Rattle.laws_calls.specs.Events.{IsStateAfter}
use Rattle.laws_calls.specs.Settling.{SettledCall}
use Rattle.laws_calls.specs.Shapes.{IsLackOfRoom, StopsAborts, rollback_of}
use Rattle.laws_calls.specs.States.{State, Waiting}
use Rattle.shore_types.specs.declared.locking.Granule.{Granule}
use Rattle.shore_model.specs.declared.step.Wait.TheVariants.{Lock, Durable}

-- a call that asks for a lock is no rollback
asks_no_rollback : (g : Geometry) (c : Call) → MayAsk g c → rollback_of c ≡ None
asks_no_rollback g (call.BackTo n) h = absurd h
asks_no_rollback g call.Abort h = absurd h
asks_no_rollback g (call.Resolve global asked) h = absurd h
asks_no_rollback g _ h = refl

lock_no_rollback : (c : Call) (lock : Asked) → lock_asked_by c ≡ Some lock → rollback_of c ≡ None
lock_no_rollback (call.BackTo n) lock h = absurd cc
lock_no_rollback call.Abort lock h = absurd cc
lock_no_rollback (call.Resolve global asked) lock h = let clash : None ≡ Some lock = h in absurd cc
lock_no_rollback _ lock h = refl

module _ (g : Geometry) (s new : State) (session : ℕ) where
  rollback_at_once : (c : Call) (r : Rollback) → rollback_of c ≡ Some r → (step : Step) → SettledCall g s session c step new → CallStep g s session c step new
  rollback_at_once c r is step h = ⊎_elim
      (λ once. once.1)
      (λ came. let m = came.midway in let none = asks_no_rollback g c (waits_may g s m.waits session c m.at m.calls) in absurd cc)
      (settled_call_to g s session c step new h)

  pub settled_undo_has_room : (c : Call) (r : Rollback) (f : Fault) → rollback_of c ≡ Some r → IsLackOfRoom f → SettledCall g s session c (Refused f) new → ⊥
  settled_undo_has_room c r f is lack h = undo_has_room g s new session c r f is lack (rollback_at_once c r is (Refused f) h)

  pub settled_abort_stops : (f : Fault) → SettledCall g s session call.Abort (Refused f) new → StopsAborts f
  settled_abort_stops f h = abort_stops g s new session f (rollback_at_once call.Abort Whole refl (Refused f) h)

pub no_rollback_waits : (o : Opening) (found : List LogRecord) (es : List Entry) (s : State) (w : Waiting) → IsStateAfter o found es s → IsAmong w s.waiting → (at : Granule) → w.wait ≡ Lock at
    → rollback_of w.call ≡ None
no_rollback_waits o found es s w k there at is = ⊎_elim
    (λ decides. let clash : Lock at ≡ Durable decides.number = sym is ∙ ap (λ (v : Waiting). v.wait) decides.is in absurd cc)
    (λ locks. lock_no_rollback w.call locks.lock locks.asked)
    (k.waits.each w there)

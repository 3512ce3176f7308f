-- What a call that is stopped for want of memory leaves is a safe state.
use Rattle.std.proofs.Common.{◌≡◌, ◌++◌, ℕ, List, sym, subst}
use Rattle.shore_types.specs.declared.faults.Fault.TheVariants as fault
use Rattle.shore_types.specs.declared.layout.Geometry.{Geometry}
use Rattle.shore_model.specs.Calls.{IsServed}
use Rattle.shore_model.specs.declared.calls.Call.{Call}
use Rattle.shore_model.specs.declared.calls.Call.TheVariants as call
use Rattle.shore_model.specs.declared.step.Step.TheVariants.{Refused}
use Rattle.laws_lives.proofs.WholeLogs.{image_in_place}
use Rattle.laws_lives.specs.Views.{IsAmong}
use Rattle.laws_calls.proofs.SessionRooms.{session_call_roomy}
use Rattle.laws_calls.proofs.SessionStates.{session_call_stays}
use Rattle.laws_calls.specs.CallSteps.{CallStep}
use Rattle.laws_calls.specs.Events.{Called}
use Rattle.laws_calls.specs.LockedStates.{entries_of_call}
use Rattle.laws_calls.specs.States.{State, Waiting}
use Rattle.laws_runs.proofs.Opens.{records_inside}
use Rattle.laws_runs.proofs.Prefixes.{whole_placed}
use Rattle.laws_runs.proofs.Running.{event_leaving}
use Rattle.shore_core.specs.Cores.{IsSafe}
use Rattle.shore_core.proofs.Settling.{called_at_once}

served : (c : Call) → IsServed c
served call.Begin = tt
served (call.Get id) = tt
served (call.GetForUpdate id) = tt
served (call.Insert store bytes) = tt
served (call.Update id bytes) = tt
served (call.Delete id) = tt
served (call.Scan store) = tt
served (call.Lock at mode) = tt
served (call.TryLock at mode) = tt
served call.Commit = tt
served call.Savepoint = tt
served (call.BackTo index) = tt
served call.Abort = tt
served (call.Prepare global) = tt
served (call.Resolve global asked) = tt
served call.InDoubt = tt

pub safe_stopped : (g : Geometry) (s : State) → IsSafe g s → (session : ℕ) (c : Call) (mid : State) → CallStep g s session c (Refused fault.Memory) mid → mid.waiting ≡ s.waiting → IsSafe g mid
safe_stopped g s safe session c mid step waiting =
    let after = session_call_stays safe.opening safe.found safe.entries s safe.after g session c (Refused fault.Memory) mid step in
    let leaves = event_leaving g safe.stream_bytes safe.opening safe.found safe.entries s mid (Called session c (Refused fault.Memory)) safe.after
    (λ w m at is. safe.asks w at m is) safe.roomy safe.leaves (served c, called_at_once g s mid session c (Refused fault.Memory) tt step) in
    record {
      opening = safe.opening;
      found = safe.found;
      entries = safe.entries ++ entries_of_call s session c (Refused fault.Memory) mid;
      after = after;
      asks = λ w at m is. safe.asks w at (subst (λ (ws : List Waiting). IsAmong w ws) waiting m) is;
      roomy = session_call_roomy g safe.opening safe.found safe.entries s safe.after safe.roomy session c (Refused fault.Memory) mid step;
      stream_bytes = safe.stream_bytes;
      leaves = leaves;
      inside = records_inside g mid.log mid.sessions.records (whole_placed g safe.stream_bytes mid.durable mid.log leaves.prefixes)
          (λ id. sym (image_in_place after.sessions.sound after.sessions.log leaves.whole id));
    }

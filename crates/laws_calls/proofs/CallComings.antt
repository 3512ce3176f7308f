-- A call comes by events of the sessions, whatever it comes to.
use Rattle.std.proofs.Common.{⊎_elim, ℕ, List, sym, subst}
use Rattle.shore_types.specs.declared.layout.Geometry.{Geometry}
use Rattle.shore_model.specs.declared.calls.Call.{Call}
use Rattle.shore_model.specs.declared.histories.Entry.{Entry}
use Rattle.shore_model.specs.declared.histories.Opening.{Opening}
use Rattle.shore_model.specs.declared.log_records.LogRecord.{LogRecord}
use Rattle.shore_model.specs.declared.step.Step.{Step}
use Rattle.laws_calls.proofs.Comings.{passed_comes}
use Rattle.laws_calls.proofs.Links.{ComesBy}
use Rattle.laws_calls.proofs.LongerLogs.{call_further}
use Rattle.laws_calls.proofs.ResolveComings.{resolve_comes}
use Rattle.laws_calls.proofs.SessionStates.{session_call_told}
use Rattle.laws_calls.proofs.ToldEntries.{told_of_call}
use Rattle.laws_calls.specs.CallSteps.{CallStep}
use Rattle.laws_calls.specs.Events.{IsStateAfter}
use Rattle.laws_calls.specs.LockedStates.{entries_of_call}
use Rattle.laws_calls.specs.States.{State}

pub session_call_comes : (g : Geometry) (o : Opening) (found : List LogRecord) (es : List Entry) (s : State) → IsStateAfter o found es s → (session : ℕ) (c : Call) (step : Step) (new : State)
    → CallStep g s session c step new → ComesBy g s new (entries_of_call s session c step new)
session_call_comes g o found es s k session c step new h = ⊎_elim
    (λ told. subst (ComesBy g s new) (told_of_call o found es s new session c step k.sessions told.1.sessions (call_further g s session c step new h).on)
    (passed_comes g o found es s k session c step new told.0))
    (λ r. subst (λ (x : Call). ComesBy g s new (entries_of_call s session x step new)) (sym r.0.is)
    (resolve_comes g o found es s k session r.0.global r.0.may r.1 r.0.asked step new r.0.to))
    (session_call_told o found es s k g session c step new h)

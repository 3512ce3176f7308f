-- An event of a manager decides no prepare, but for a prepare that waits for its record.
use Rattle.std.proofs.Common.{inl, inr, ⊎_elim, ◌++◌, ◌∷◌, ℕ, List, [], None, Some, Option, sym, subst, ◌∙◌, map}
use Rattle.std.specs.List.{AllByRecursion}
use Rattle.shore_types.specs.declared.layout.Geometry.{Geometry}
use Rattle.shore_model.specs.declared.calls.Call.{Call}
use Rattle.shore_model.specs.declared.calls.Call.TheVariants as call
use Rattle.shore_model.specs.declared.calls.Outcome.{Outcome}
use Rattle.shore_model.specs.declared.calls.Outcome.TheVariants as outcome
use Rattle.shore_model.specs.declared.histories.Decision.TheVariants as decision
use Rattle.shore_model.specs.declared.histories.Entry.{Entry}
use Rattle.shore_model.specs.declared.histories.Entry.TheVariants.{Decided}
use Rattle.shore_model.specs.declared.histories.Opening.{Opening}
use Rattle.shore_model.specs.declared.log_records.LogRecord.{LogRecord}
use Rattle.shore_model.specs.declared.step.Step.{Step}
use Rattle.shore_model.specs.declared.step.Step.TheVariants.{Done, Nothing, Refused, Waits}
use Rattle.shore_model.specs.declared.step.Wait.TheVariants.{Durable, Lock}
use Rattle.shore_cycles.specs.declared.victims.Victim.{Victim}
use Rattle.laws_calls.proofs.LongerLogs.{call_further, further_then, settles_further}
use Rattle.laws_calls.proofs.ResolveStays.{commit_made, made_by, refused_made, waits_made}
use Rattle.laws_calls.proofs.SessionStates.{session_call_told}
use Rattle.laws_calls.proofs.SettledStates.{call_entries, ended_entries, settles_stays, waiting_call_comes}
use Rattle.laws_calls.proofs.SettledWaits.{call_has_asked}
use Rattle.laws_calls.proofs.Told.{entries_told}
use Rattle.laws_calls.proofs.ToldEntries.{told_of_call}
use Rattle.laws_calls.specs.CallHistories.{txn_of}
use Rattle.laws_calls.specs.CallSteps.{CallStep}
use Rattle.laws_calls.specs.Events.{Called, EventMoves, Forced, GaveUp, HasFailed, IsStateAfter, ManagerEvent, Resumed, call_waiting, entries_of, entries_of_waiting, TicketAsked}
use Rattle.laws_calls.specs.LockedStates.{entries_of_call}
use Rattle.laws_calls.specs.Resolves.{DecidesRollback, MayResolve, ResolvesTo}
use Rattle.laws_calls.specs.Settling.{Settles}
use Rattle.laws_calls.specs.States.{DoesNotWait, State, Waiting}

-- the entry decides no prepare
abbrev pub PreparesNothing : Entry → Type 0
PreparesNothing (Decided (decision.Prepare t global)) = ⊥
PreparesNothing _ = Unit {0}

-- the call is no prepare, or does not wait
abbrev pub WaitsForNoPrepare : Call → Step → Type 0
WaitsForNoPrepare (call.Prepare global) (Waits wait) = ⊥
WaitsForNoPrepare _ _ = Unit {0}

abbrev pub IsNoPreparing : ManagerEvent → Type 0
IsNoPreparing (Called session c step) = WaitsForNoPrepare c step
IsNoPreparing _ = Unit {0}

told_none : (s : State) (session : ℕ) (c : Call) (step : Step) → WaitsForNoPrepare c step → AllByRecursion PreparesNothing (entries_told s session c step)
told_none s session call.Commit (Done answer) none = (tt, (tt, tt))
told_none s session _ (Done answer) none = (tt, tt)
told_none s session c (Refused f) none = (tt, tt)
told_none s session c Nothing none = tt
told_none s session c (Waits (Lock at)) none = tt
told_none s session (call.Prepare global) (Waits (Durable n)) none = absurd none
told_none s session _ (Waits (Durable n)) none = tt

ended_none : (session n : ℕ) (c : Call) (step : Step) → AllByRecursion PreparesNothing (ended_entries session n c step)
ended_none session n c (Done answer) = (tt, tt)
ended_none session n c (Refused f) = (tt, tt)
ended_none session n c (Waits wait) = tt
ended_none session n c Nothing = tt

resumed_none : (s : State) (o : Option Waiting) (step : Step) → AllByRecursion PreparesNothing (entries_of_waiting s o step)
resumed_none s None step = tt
resumed_none s (Some w) (Done answer) = (tt, tt)
resumed_none s (Some w) (Refused f) = (tt, tt)
resumed_none s (Some w) (Waits wait) = tt
resumed_none s (Some w) Nothing = tt

module _ (g : Geometry) (o : Opening) (found : List LogRecord) (es : List Entry) (s : State) (k : IsStateAfter o found es s) where
  -- ---- resolves

  module _ (session : ℕ) (global : List ℕ) (may : MayResolve s session global) (idle : DoesNotWait s session) where
    rollback_none : (b : _) (d : State) (by : DecidesRollback s global b d) (later : List Entry) → AllByRecursion PreparesNothing later
        → AllByRecursion PreparesNothing (map Decided (made_by s global b d by) ++ later)
    rollback_none b d (inl h) later all = (tt, all)
    rollback_none b d (inr h) later all = all

    resolve_none : (asked : Outcome) (step : Step) (new : State) → ResolvesTo s session global asked step new
        → AllByRecursion PreparesNothing (entries_of_call s session (call.Resolve global asked) step new)
    resolve_none outcome.Commit (Waits wait) new h = subst (AllByRecursion PreparesNothing) (commit_made g o found es s k session global may idle wait new h) (tt, tt)
    resolve_none outcome.Commit (Done answer) new h = absurd h
    resolve_none outcome.Commit (Refused f) new h = absurd h
    resolve_none outcome.Commit Nothing new h = absurd h
    resolve_none outcome.Abort (Waits wait) new h = subst (AllByRecursion PreparesNothing) (waits_made g o found es s k session global may idle wait new h) (waits h.0 h.1 h.2)
      where
        waits : (b : _) (d : State) (by : DecidesRollback s global b d) → AllByRecursion PreparesNothing (map Decided (made_by s global b d by))
        waits b d (inl x) = (tt, tt)
        waits b d (inr x) = tt
    resolve_none outcome.Abort (Done answer) new h = (tt, tt)
    resolve_none outcome.Abort (Refused f) new h =
        subst (AllByRecursion PreparesNothing) (refused_made g o found es s k session global may idle f new h) (rollback_none h.0 h.1 h.2 _ (tt, tt))
    resolve_none outcome.Abort Nothing new h = absurd h.3

  -- ---- calls

  call_none : (session : ℕ) (c : Call) (step : Step) (new : State) → WaitsForNoPrepare c step → CallStep g s session c step new
      → AllByRecursion PreparesNothing (entries_of_call s session c step new)
  call_none session c step new none h = ⊎_elim
      (λ told. subst (AllByRecursion PreparesNothing) (told_of_call o found es s new session c step k.sessions told.1.sessions (call_further g s session c step new h).on) (told_none s session c step none))
      (λ r. subst (λ (x : Call). AllByRecursion PreparesNothing (entries_of_call s session x step new)) (sym r.0.is)
      (resolve_none session r.0.global r.0.may r.1 r.0.asked step new r.0.to))
      (session_call_told o found es s k g session c step new h)

  settled_none : (session : ℕ) (c : Call) (step : Step) (new : State) (first : Step) (mid : State) → WaitsForNoPrepare c step → CallStep g s session c first mid → (rounds : List (List Victim))
      → Settles g mid session first rounds step new → AllByRecursion PreparesNothing (entries_of_call s session c step new)
  settled_none session c step new first mid none calls [] h =
      subst (λ (x : State). AllByRecursion PreparesNothing (entries_of_call s session c step x)) (sym h.2)
      (subst (λ (x : Step). AllByRecursion PreparesNothing (entries_of_call s session c x mid)) (sym h.1) (call_none session c first mid (subst (WaitsForNoPrepare c) h.1 none) calls))
  settled_none session c step new first mid none calls (vs ∷ rounds) h =
      let n = txn_of s.sessions session in
      let asked = call_has_asked g s session c h.1 first mid h.4 calls in
      let come = settles_stays o found session n c g es mid first (vs ∷ rounds) step new (waiting_call_comes o found es s k g session c first mid h.1 h.4 calls) h in
      let told = subst (λ made. IsStateAfter o found (es ++ made) new) (call_entries s session c asked.lock asked.asked step come.undecided) come.stays in
      subst (AllByRecursion PreparesNothing)
      (call_entries s session c asked.lock asked.asked step come.undecided
      ∙ told_of_call o found es s new session c step k.sessions told.sessions
      (further_then s mid new (call_further g s session c first mid calls) (settles_further g mid session first (vs ∷ rounds) step new h)).on)
      (ended_none session n c step)

  pub event_decides_no_prepare : (new : State) (e : ManagerEvent) → IsNoPreparing e → EventMoves g s e new → AllByRecursion PreparesNothing (entries_of s e new)
  event_decides_no_prepare new (Called session c step) none h = settled_none session c step new h.1.first h.1.mid none h.1.calls h.1.rounds h.1.settles
  event_decides_no_prepare new (Resumed session step) none h = resumed_none s (call_waiting session s.waiting) step
  event_decides_no_prepare new (GaveUp session step) none h = resumed_none s (call_waiting session s.waiting) step
  event_decides_no_prepare new (Forced n) none h = tt
  event_decides_no_prepare new HasFailed none h = tt
  event_decides_no_prepare new (TicketAsked ticket answer) none h = (tt, tt)

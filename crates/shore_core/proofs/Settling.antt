-- Calls and resumes that wait for no lock have settled at once.
use Rattle.laws_checkpoints.specs.CheckpointedStores.{CheckpointedStore}
use Rattle.std.proofs.Common.{◌≡◌, inl, inr, ℕ, List, [], None, Some, Option, Result, Ok, Err, IsErrAnd, refl, sym, ◌∙◌}
use Rattle.shore_disk.specs.declared.device.Disk as disk
use Rattle.shore_log.specs.declared.tail.Tail as tail
use Rattle.shore_types.specs.declared.faults.Fault.{Fault}
use Rattle.shore_types.specs.declared.layout.Geometry.{Geometry}
use Rattle.shore_model.specs.declared.calls.Call.{Call}
use Rattle.shore_model.specs.declared.log_records.LogRecord.{LogRecord}
use Rattle.laws_locks.specs.CallLocks.{Asked, lock_asked_by}
use Rattle.laws_calls.proofs.SessionInversions.{waits_on_lock}
use Rattle.laws_calls.specs.CallSteps.{CallStep, ResumeStep}
use Rattle.laws_calls.specs.Settling.{SettledCall, SettledResume, WaitsForNoLock}
use Rattle.laws_calls.specs.StateChanges.{after_refusal}
use Rattle.laws_calls.specs.States.{State}
use Rattle.shore_model.specs.declared.step.Step.{Step}
use Rattle.shore_model.specs.declared.step.Step.TheVariants.{Done, Nothing, Refused, Waits}
use Rattle.shore_model.specs.declared.step.Wait.TheVariants.{Durable, Lock}
use Rattle.shore_core.specs.declared.core_calls.Core.{Core}
use Rattle.shore_core.specs.Cores.{geometry_of}
use Rattle.shore_core.specs.Replies.{Called, Replied, as_step, once_noted}

none_is_some : (lock : Asked) → ◌≡◌ {A = Option Asked} None (Some lock) → ⊥
none_is_some lock e = cc

module _ (g : Geometry) (s new : State) (session : ℕ) where
  -- a call that asks for no lock waits for none
  pub asks_for_none : (c : Call) (step : Step) → lock_asked_by c ≡ None → CallStep g s session c step new → WaitsForNoLock step
  asks_for_none c (Done answer) none h = tt
  asks_for_none c (Refused f) none h = tt
  asks_for_none c Nothing none h = tt
  asks_for_none c (Waits (Durable n)) none h = tt
  asks_for_none c (Waits (Lock at)) none h =
      let goes = (waits_on_lock g s new session c at h).goes in
      absurd (none_is_some goes.0 (sym none ∙ goes.2))

  pub called_at_once : (c : Call) (step : Step) → WaitsForNoLock step → CallStep g s session c step new → SettledCall g s session c step new
  called_at_once c step none h = record { first = step; mid = new; rounds = []; calls = h; settles = (none, refl, refl) }

  pub resumed_at_once : (step : Step) → WaitsForNoLock step → ResumeStep g s session step new → SettledResume g s session step new
  resumed_at_once step none h = inr (inr (record { first = step; mid = new; rounds = []; resumes = h; settles = (none, refl, refl) }))

  -- nothing comes of it
  pub resumed_to_nothing : (step : Step) → ResumeStep g s session step new → new ≡ s → SettledResume g s session step new
  resumed_to_nothing step h same = inr (inl (h, same))

-- ---- so of a core

module _ {T V : Type 0} {G : tail.Ghosts T} {H : disk.Ghosts V} (old new : Core T V G H) (front : List ℕ) (before : List LogRecord) (s : State) (store : CheckpointedStore) (session : ℕ) (c : Call) where
  -- its call asks for no lock
  pub replied_calls : (r : Result Step Fault) → lock_asked_by c ≡ None → Replied session c r old new front before s store → Called session c r old new front before s store
  replied_calls r none h = record {
    later = h.later;
    calls = called_at_once (geometry_of old) s (once_noted r h.later) session c (as_step r) (asks_for_none (geometry_of old) s (once_noted r h.later) session c (as_step r) none h.replies) h.replies;
    comes = h.comes;
  }

  -- its call is refused before it asks for one
  pub refused_calls : (r : Result Step Fault) (f : Fault) → IsErrAnd r (λ e. e ≡ f) → Replied session c r old new front before s store → Called session c r old new front before s store
  refused_calls (Err e) f same h = record {
    later = h.later;
    calls = called_at_once (geometry_of old) s (after_refusal e h.later) session c (Refused e) tt h.replies;
    comes = h.comes;
  }
  refused_calls (Ok step) f same h = absurd same

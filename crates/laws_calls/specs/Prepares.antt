-- What a prepare comes to: its record has all that the transaction may write, and the call waits for its force.
use Rattle.std.specs.Prelude.{◌≡◌, ◌⊎◌, ◌≤◌, ◌<◌, ◌+◌, ◌==◌, ◌&&◌, ℕ, List, ◌∷◌, filter, length, map}
use Rattle.std.specs.FinMap.{from_entries, keys}
use Rattle.shore_types.specs.Locking.{granule_cmp}
use Rattle.shore_types.specs.declared.faults.Fault.{Fault}
use Rattle.shore_types.specs.declared.faults.Fault.TheVariants as fault
use Rattle.shore_types.specs.declared.layout.TheConstants.{ENDING_COST}
use Rattle.shore_types.specs.declared.locking.Granule.{Granule}
use Rattle.shore_types.specs.declared.versions.Version.{Version}
use Rattle.shore_types.specs.Versions.{global_limit}
use Rattle.shore_model.specs.declared.calls.Call.TheVariants as call
use Rattle.shore_model.specs.declared.step.Step.{Step}
use Rattle.shore_model.specs.declared.step.Step.TheVariants.{Done, Nothing, Refused, Waits}
use Rattle.shore_model.specs.declared.step.Wait.TheVariants.{Durable}
use Rattle.shore_model.specs.Modes.{is_write}
use Rattle.laws_room.specs.LogRooms.{prepare_cost}
use Rattle.laws_lives.specs.Logged.{log_after}
use Rattle.laws_lives.specs.SessionSteps.{AppendPrepare, entries_by}
use Rattle.laws_lives.specs.Sessions.{IsUnused, SessionTxn, prepare_appended, seated}
use Rattle.laws_calls.specs.StateChanges.{decision_waiting}
use Rattle.laws_calls.specs.States.{HasRoomFor, State, next_number}

-- what the transaction may write, each once, in the order of granules
abbrev pub granules_in_ex : State → SessionTxn → List Granule
granules_in_ex s a = keys (from_entries {R = granule_cmp} (map (λ h. (h.granule, h.txn)) (filter (λ h. (h.txn == a.txn) && is_write h.mode) s.sessions.held)))

abbrev pub IsGlobalId : Version → List ℕ → Type 0
IsGlobalId v global = (0 < length global) × (length global ≤ global_limit v)

-- the Prepare goes last, and the call waits for its force
abbrev pub prepared : State → SessionTxn → List ℕ → List Granule → State
prepared s a global granules = record s {
  sessions = seated s.sessions (entries_by s.sessions (AppendPrepare a global granules)) (prepare_appended s.sessions a global);
  log = log_after s.log s.sessions (AppendPrepare a global granules);
  waiting = decision_waiting a.session (call.Prepare global) (next_number s) ∷ s.waiting;
}

-- the log has room for the Prepare, and for one record more that ends what is in doubt
abbrev pub MayPrepare : State → SessionTxn → List ℕ → Type 0
MayPrepare s a global = HasRoomFor s (prepare_cost global (granules_in_ex s a) + ENDING_COST)

-- the reasons to refuse a prepare, each where those before it are not given
abbrev pub RefusesPrepare : Version → State → SessionTxn → List ℕ → Fault → Type 0
RefusesPrepare v s a global f =
    ((f ≡ fault.BadGlobalId) × ¬ IsGlobalId v global)
    ⊎ ((f ≡ fault.GlobalIdInUse) × IsGlobalId v global × ¬ IsUnused s.sessions global)
    ⊎ ((f ≡ fault.LogFull) × IsGlobalId v global × IsUnused s.sessions global × ¬ MayPrepare s a global)

abbrev pub PrepareStep : Version → State → SessionTxn → List ℕ → Step → State → Type 0
PrepareStep v s a global (Waits wait) new =
    IsGlobalId v global × IsUnused s.sessions global × MayPrepare s a global × (wait ≡ Durable (next_number s)) × (new ≡ prepared s a global (granules_in_ex s a))
PrepareStep v s a global (Refused f) new = RefusesPrepare v s a global f × (new ≡ s)
PrepareStep v s a global (Done answer) new = ⊥
PrepareStep v s a global Nothing new = ⊥

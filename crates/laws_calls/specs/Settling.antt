-- What a call and a resume come to as a whole. A call that begins to wait for a lock may close cycles of waits; they are broken before it is answered.
use Rattle.std.specs.Prelude.{◌≡◌, ◌⊎◌, ℕ, List, [], ◌∷◌, true, false}
use Rattle.shore_types.specs.declared.layout.Geometry.{Geometry}
use Rattle.shore_types.specs.declared.locking.Granule.{Granule}
use Rattle.shore_model.specs.declared.calls.Call.{Call}
use Rattle.shore_locks.specs.Tables.{is_waiting}
use Rattle.shore_cycles.specs.Cycles.{IsOnNoCycle}
use Rattle.shore_cycles.specs.declared.victims.Victim.{Victim}
use Rattle.laws_lives.specs.Sessions.{SessionTxn}
use Rattle.shore_model.specs.declared.step.Step.{Step}
use Rattle.shore_model.specs.declared.step.Step.TheVariants.{Done, Nothing, Refused, Waits}
use Rattle.shore_model.specs.declared.step.Wait.TheVariants.{Durable, Lock}
use Rattle.laws_calls.specs.CallSteps.{CallStep, CallGoesOn, ResumeStep}
use Rattle.laws_calls.specs.States.{IsOfSession, State}
use Rattle.laws_calls.specs.Victims.{TakesVictims, TellsVictim, Withdraws}

-- it does not wait for a lock
abbrev pub WaitsForNoLock : Step → Type 0
WaitsForNoLock (Done answer) = Unit {0}
WaitsForNoLock (Waits (Durable n)) = Unit {0}
WaitsForNoLock (Waits (Lock at)) = ⊥
WaitsForNoLock (Refused f) = Unit {0}
WaitsForNoLock Nothing = Unit {0}

-- it waits on, on no cycle
abbrev pub WaitsOn : State → SessionTxn → Step → Step → State → Type 0
WaitsOn s a first step new = (is_waiting a.txn s.locks.requests ≡ true) × IsOnNoCycle s.locks.requests a.txn × (step ≡ first) × (new ≡ s)

-- What becomes of a call of a session that came to a step. If it waits for a lock, the cycles that pass its transaction are broken by victims. Then it waits
-- on, on no cycle; or it is a victim itself; or a victim was all that stood in its way, and it goes on, and may wait anew; or memory for the search was
-- short, and there is no victim.
abbrev pub Settles : Geometry → State → ℕ → Step → List (List Victim) → Step → State → Type 0
Settles g s session first [] step new = WaitsForNoLock first × (step ≡ first) × (new ≡ s)
Settles g s session first (vs ∷ rounds) step new =
    (a : SessionTxn) × (at : Granule) × (broken : State) × IsOfSession s session a × (first ≡ Waits (Lock at)) × TakesVictims s a.txn vs broken
    × (((rounds ≡ []) × (WaitsOn broken a first step new ⊎ (TellsVictim broken session step new ⊎ ((vs ≡ []) × Withdraws broken a step new))))
    ⊎ ((next : Step) × (mid : State) × (is_waiting a.txn broken.locks.requests ≡ false) × ResumeStep g broken session next mid × Settles g mid session next rounds step new))

-- a call of a transaction, from its locks on
pub record GoesSettled (g : Geometry) (s : State) (a : SessionTxn) (c : Call) (step : Step) (new : State) : Type 0 where
  pub first : Step
  pub mid : State
  pub rounds : List (List Victim)
  pub goes : CallGoesOn g s a c first mid
  pub settles : Settles g mid a.session first rounds step new

-- a call of a session
pub record SettledCall (g : Geometry) (s : State) (session : ℕ) (c : Call) (step : Step) (new : State) : Type 0 where
  pub first : Step
  pub mid : State
  pub rounds : List (List Victim)
  pub calls : CallStep g s session c first mid
  pub settles : Settles g mid session first rounds step new

-- the call that waited goes on
pub record WentOn (g : Geometry) (s : State) (session : ℕ) (step : Step) (new : State) : Type 0 where
  pub first : Step
  pub mid : State
  pub rounds : List (List Victim)
  pub resumes : ResumeStep g s session first mid
  pub settles : Settles g mid session first rounds step new

-- a resume of a session: the cycle of a victim is told, once; or nothing is done; or the call goes on
abbrev pub SettledResume : Geometry → State → ℕ → Step → State → Type 0
SettledResume g s session step new =
    TellsVictim s session step new ⊎ ((ResumeStep g s session step new × (new ≡ s)) ⊎ WentOn g s session step new)

use Rattle.std.proofs.Common.{◌≡◌, ◌≢◌, ◌⊎◌, ◌∷◌, List, [], ℕ, refl, subst}
use Rattle.shore_model.specs.declared.calls.Call.{Call}
use Rattle.shore_model.specs.declared.histories.Decision.{Decision}
use Rattle.shore_model.specs.declared.log_records.LogRecord.{LogRecord}
use Rattle.shore_model.specs.declared.step.Step.{Step}
use Rattle.laws_lives.specs.LogPrefixes.{decisions_in}
use Rattle.laws_lives.specs.Sessions.{SessionTxn}
use Rattle.laws_calls.specs.Shapes.{ResolvesTxn}
use Rattle.laws_calls.specs.States.{IsOfSession, State}
use Rattle.shore_world.specs.declared.event.Event.{Event}
use Rattle.shore_world.specs.declared.event.Event.TheVariants as event
use Rattle.shore_world.specs.Events.{IsServedEvent}
use Rattle.shore_world.specs.Promises.{IsAskedFor}
use Rattle.shore_world.specs.Worlds.{geometry_in}
use Rattle.shore_world.proofs.DecisionLemmas.{call_decides, decides_nothing}
use Rattle.shore_world.proofs.PromiseLemmas.{after, gains, stepped}
use Rattle.shore_world.proofs.promises.calls.decisions_come_by_the_calls_that_ask_for_them.Goals as goal

-- what the law says of a call, by the records that it appends
abbrev ByCall : State → ℕ → Call → Step → List LogRecord → Type 0
ByCall s session c step more =
    (decisions_in 0 more ≡ [])
    ⊎ ((a : SessionTxn) × (d : Decision) × (decisions_in 0 more ≡ d ∷ []) × IsAskedFor a.txn c step d × (IsOfSession s session a ⊎ ResolvesTxn s c a))

is_served : (e : Event) → ((session : ℕ) (c : Call) → e ≢ event.Call session c) → IsServedEvent e
is_served (event.Call session c) none = absurd (none session c refl)
is_served (event.Resume session) none = tt
is_served (event.GiveUp session) none = tt
is_served (event.Ask ticket) none = tt
is_served event.ForceStage none = tt
is_served event.ForceOpen none = tt
is_served event.FlushStep none = tt
is_served event.CheckpointStep none = tt
is_served event.CutTrail none = tt

pub returns-clause-call : goal.returns-clause-call
returns-clause-call d f w new o es ws session c step k served one =
    let went = stepped w o es ws k (event.Call session c) step new served one in
    let later = went.on.manager in
    let more = gains w o es ws k (event.Call session c) step new later.now.state one went.moves later.at.is_in.beside in
    subst (ByCall k.now.state session c step) more
    (call_decides (geometry_in w) o k.found es k.now.state later.now.state (after w o es ws k) session c step served went.moves)

pub returns-clause-others : goal.returns-clause-others
returns-clause-others d f w new o es ws e step k none one =
    let went = stepped w o es ws k e step new (is_served e none) one in
    let later = went.on.manager in
    let more = gains w o es ws k e step new later.now.state one went.moves later.at.is_in.beside in
    subst (λ (l : List LogRecord). decisions_in 0 l ≡ []) more (decides_nothing (geometry_in w) o k.found es k.now.state later.now.state (after w o es ws k) e step none went.moves)

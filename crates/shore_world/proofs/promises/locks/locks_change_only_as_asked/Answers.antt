use Rattle.std.proofs.Common.{◌≡◌, ◌⊎◌, ◌++◌, List, [], ℕ, subst}
use Rattle.shore_types.specs.declared.layout.Geometry.{Geometry}
use Rattle.shore_model.specs.declared.calls.Call.{Call}
use Rattle.shore_model.specs.declared.requests.Request.{Request}
use Rattle.shore_model.specs.declared.step.Step.{Step}
use Rattle.shore_locks.specs.Grants.{released}
use Rattle.laws_lives.specs.Sessions.{SessionTxn}
use Rattle.laws_lives.specs.Views.{IsAmong}
use Rattle.laws_calls.specs.LockChanges.{ChangesLocks}
use Rattle.laws_calls.specs.Midway.{Interlude, Intervene, IsMidway, cycles_among}
use Rattle.laws_calls.specs.Shapes.{EndsAtOnce, IsNoRefusal, ResolvesTxn}
use Rattle.laws_calls.specs.States.{IsOfSession, State, Waiting}
use Rattle.laws_calls.proofs.SettledLocks.{settled_call_locks, settled_resume_locks}
use Rattle.shore_world.specs.declared.event.Event.TheVariants as event
use Rattle.shore_world.specs.Exchanges.{waited_behind}
use Rattle.shore_world.specs.Worlds.{geometry_in, requests_in}
use Rattle.shore_world.proofs.LockLemmas.{other_events_keep}
use Rattle.shore_world.proofs.PromiseLemmas.{after, seen, stepped}
use Rattle.shore_world.proofs.GivingUpLemmas.{given_up_locks}
use Rattle.shore_world.proofs.promises.locks.locks_change_only_as_asked.Goals as goal

-- what the law says of a call, and of a resume, of any requests before it and behind it
abbrev ByCall : Geometry → State → ℕ → Call → Step → List Request → List Request → Type 0
ByCall g s session c step old new =
    (new ≡ old)
    ⊎ (((EndsAtOnce s c step × ((a : SessionTxn) × IsOfSession s session a × (new ≡ released a.txn old)))
    ⊎ ((a : SessionTxn) × ResolvesTxn s c a × IsNoRefusal step × (new ≡ released a.txn old)))
    ⊎ ((a : SessionTxn) × IsOfSession s session a × ((between : List Interlude) × ((between ≡ []) ⊎ ((mid : State) × IsMidway g s session c between mid))
    × ChangesLocks old a.txn c (cycles_among between) new)))

abbrev ByResume : Geometry → State → ℕ → Step → List Request → List Request → Type 0
ByResume g s session step old new =
    (new ≡ old)
    ⊎ ((waited : Waiting) × IsAmong waited s.waiting × (waited.session ≡ session) × ((a : SessionTxn) × IsOfSession s session a
    × ((between : List Interlude) × ((mid : State) × Intervene g session s between mid) × ChangesLocks old a.txn waited.call (cycles_among between) new)))

pub returns-clause-call : goal.returns-clause-call
returns-clause-call d f w new o es ws session call step k served one =
    let went = stepped w o es ws k (event.Call session call) step new served one in
    let later = seen new o (es ++ went.on.made) (waited_behind ws (event.Call session call) step) went.on.manager in
    let P = ByCall (geometry_in w) k.now.state session call step in
    subst (λ (rs : List Request). P rs (requests_in new)) (seen w o es ws k).requests (subst (P k.now.state.locks.requests) later.requests
    (settled_call_locks (geometry_in w) o k.found es k.now.state (after w o es ws k) session call step went.on.manager.now.state went.moves))

pub returns-clause-resume : goal.returns-clause-resume
returns-clause-resume d f w new o es ws session step k one =
    let went = stepped w o es ws k (event.Resume session) step new tt one in
    let later = seen new o (es ++ went.on.made) (waited_behind ws (event.Resume session) step) went.on.manager in
    let P = ByResume (geometry_in w) k.now.state session step in
    subst (λ (rs : List Request). P rs (requests_in new)) (seen w o es ws k).requests (subst (P k.now.state.locks.requests) later.requests
    (settled_resume_locks (geometry_in w) o k.found es k.now.state (after w o es ws k) session (k.there session) step went.on.manager.now.state went.moves))

pub returns-clause-others : goal.returns-clause-others
returns-clause-others c d w new o es ws e step k served no_call no_resume no_give_up one = other_events_keep w o es ws k new e step served no_call no_resume no_give_up one

pub returns-clause-give_up : goal.returns-clause-give_up
returns-clause-give_up c d w new o es ws session step k one =
    given_up_locks w o es ws k session step new one

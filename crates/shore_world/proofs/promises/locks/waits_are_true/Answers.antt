use Rattle.std.proofs.Common.{◌<◌, ◌≤◌, ℕ, subst, ◌++◌}
use Rattle.shore_model.specs.declared.step.Step.TheVariants.{Waits}
use Rattle.shore_model.specs.declared.step.Wait.TheVariants.{Durable, Lock}
use Rattle.laws_calls.proofs.SettledThere.{settled_call_waits_at, settled_record_waits, settled_resume_waits_at, settled_resume_waits_on}
use Rattle.shore_world.specs.declared.event.Event.TheVariants as event
use Rattle.shore_world.specs.Exchanges.{waited_behind}
use Rattle.shore_world.specs.Worlds.{geometry_in}
use Rattle.shore_world.proofs.PromiseLemmas.{after, log_seen, seen, stepped}
use Rattle.shore_world.proofs.GivingUpLemmas.{given_up_waits}
use Rattle.shore_world.proofs.promises.locks.waits_are_true.Goals as goal

pub returns-clause-lock : goal.returns-clause-lock
returns-clause-lock c d w new o es ws session call at k served one =
    let went = stepped w o es ws k (event.Call session call) (Waits (Lock at)) new served one in
    (went.on, settled_call_waits_at (geometry_in w) o k.found es k.now.state (after w o es ws k) k.there session at went.on.manager.now.state call went.moves)

pub returns-clause-resumed : goal.returns-clause-resumed
returns-clause-resumed c d w new o es ws session at k one =
    let went = stepped w o es ws k (event.Resume session) (Waits (Lock at)) new tt one in
    (went.on, settled_resume_waits_at (geometry_in w) o k.found es k.now.state (after w o es ws k) k.there session at went.on.manager.now.state went.moves)

pub returns-clause-record_of : goal.returns-clause-record_of
returns-clause-record_of c d w new o es ws session n call k served one =
    let went = stepped w o es ws k (event.Call session call) (Waits (Durable n)) new served one in
    let later = seen new o (es ++ went.on.made) (waited_behind ws (event.Call session call) (Waits (Durable n))) went.on.manager in
    let waits = settled_record_waits (geometry_in w) o k.found es k.now.state (after w o es ws k) session n went.on.manager.now.state call went.moves in
    (went.on, waits.0, subst (λ (m : ℕ). m < n) later.durable waits.1, subst (λ (m : ℕ). n ≤ m) (log_seen new o (es ++ went.on.made) (waited_behind ws (event.Call session call) (Waits (Durable n))) went.on.manager) waits.2)

pub returns-clause-record_on : goal.returns-clause-record_on
returns-clause-record_on c d w new o es ws session n k one =
    let went = stepped w o es ws k (event.Resume session) (Waits (Durable n)) new tt one in
    let on = settled_resume_waits_on (geometry_in w) o k.found es k.now.state (after w o es ws k) session n went.on.manager.now.state went.moves in
    (on.waited, on.there, on.of, on.lock, on.commit, subst (λ (m : ℕ). m < n) (seen w o es ws k).durable on.above)

pub returns-clause-given_up : goal.returns-clause-given_up
returns-clause-given_up c d w new o es ws session f k one =
    given_up_waits w o es ws k session f new one

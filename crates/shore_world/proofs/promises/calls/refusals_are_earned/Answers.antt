use Rattle.std.proofs.Common.{◌∙◌}
use Rattle.shore_types.specs.declared.faults.Fault.TheVariants.{Deadlock}
use Rattle.shore_model.specs.declared.step.Step.TheVariants.{Refused}
use Rattle.laws_calls.proofs.OwnCycles.{call_told_first, resume_told_first}
use Rattle.laws_calls.proofs.SettledRefusals.{settled_call_deadlock, settled_call_earned, settled_resume_deadlock, settled_resume_earned}
use Rattle.shore_world.specs.declared.event.Event.TheVariants as event
use Rattle.shore_world.specs.Worlds.{geometry_in}
use Rattle.shore_world.proofs.LimitLemmas.{asks_limit}
use Rattle.shore_world.proofs.PromiseLemmas.{after, stepped}
use Rattle.shore_world.proofs.GivingUpLemmas.{given_up_earned}
use Rattle.shore_world.proofs.promises.calls.refusals_are_earned.Goals as goal

pub returns-clause-call : goal.returns-clause-call
returns-clause-call c d w new o es ws session call f k served one none ample =
    let went = stepped w o es ws k (event.Call session call) (Refused f) new served one in
    let earned = settled_call_earned (geometry_in w) o k.found es k.now.state (after w o es ws k) session call f went.on.manager.now.state none ample went.moves in
    (went.on, (earned.0, earned.1, earned.2, earned.3))

pub returns-clause-resume : goal.returns-clause-resume
returns-clause-resume c d w new o es ws session f k one none ample =
    let went = stepped w o es ws k (event.Resume session) (Refused f) new tt one in
    let earned = settled_resume_earned (geometry_in w) o k.found es k.now.state (after w o es ws k) session k.under_way.under_way.asks f went.on.manager.now.state none ample went.moves in
    (went.on, earned)

pub returns-clause-victim : goal.returns-clause-victim
returns-clause-victim c d w new o es ws session call cycle k served one =
    let went = stepped w o es ws k (event.Call session call) (Refused (Deadlock cycle)) new served one in
    let told = settled_call_deadlock (geometry_in w) o k.found es k.now.state (after w o es ws k) session call cycle went.on.manager.now.state went.moves in
    (went.on, call_told_first (geometry_in w) o k.found es k.now.state (after w o es ws k) session call cycle went.on.manager.now.state k.firsts went.moves, told)

pub returns-clause-told : goal.returns-clause-told
returns-clause-told c d w new o es ws session cycle k one =
    let went = stepped w o es ws k (event.Resume session) (Refused (Deadlock cycle)) new tt one in
    let told = settled_resume_deadlock (geometry_in w) o k.found es k.now.state (after w o es ws k) session k.under_way.under_way.asks cycle went.on.manager.now.state went.moves in
    (went.on, resume_told_first (geometry_in w) o k.found es k.now.state (after w o es ws k) k.under_way.under_way.asks session cycle went.on.manager.now.state k.firsts went.moves, told)

pub returns-clause-full : goal.returns-clause-full
returns-clause-full c d w o es ws session call last k asks = asks_limit (geometry_in w) k.now.state session call last asks ∙ k.limit

pub returns-clause-give_up : goal.returns-clause-give_up
returns-clause-give_up c d w new o es ws session f k one =
    given_up_earned w o es ws k session f new one

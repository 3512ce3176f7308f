use Rattle.std.proofs.Common.{◌++◌, sym, ◌∙◌}
use Rattle.shore_model.specs.declared.step.Step.TheVariants.{Refused}
use Rattle.laws_calls.proofs.SettledFailures.{settled_call_runs, settled_resume_runs}
use Rattle.laws_calls.proofs.SettledLeavings.{settled_refusal_leaves, settled_resume_leaves}
use Rattle.shore_world.specs.declared.event.Event.TheVariants as event
use Rattle.shore_world.specs.Exchanges.{waited_behind}
use Rattle.shore_world.specs.Worlds.{geometry_in}
use Rattle.shore_world.proofs.PromiseLemmas.{seen, stepped}
use Rattle.shore_world.proofs.GivingUpLemmas.{given_up_leaves, given_up_runs_on}
use Rattle.shore_world.proofs.promises.calls.refused_calls_change_locks_and_victims_alone.Goals as goal

pub returns-clause-call : goal.returns-clause-call
returns-clause-call c d w new o es ws session call f k served one none =
    let went = stepped w o es ws k (event.Call session call) (Refused f) new served one in
    (went.on, settled_refusal_leaves (geometry_in w) k.now.state went.on.manager.now.state session f call none went.moves)

pub returns-clause-resume : goal.returns-clause-resume
returns-clause-resume c d w new o es ws session f k one =
    let went = stepped w o es ws k (event.Resume session) (Refused f) new tt one in
    (went.on, settled_resume_leaves (geometry_in w) k.now.state went.on.manager.now.state session f went.moves)

pub returns-clause-call_runs : goal.returns-clause-call_runs
returns-clause-call_runs c d w new o es ws session call f k served one device damaged =
    let went = stepped w o es ws k (event.Call session call) (Refused f) new served one in
    let later = seen new o (es ++ went.on.made) (waited_behind ws (event.Call session call) (Refused f)) went.on.manager in
    sym later.failed ∙ settled_call_runs (geometry_in w) went.on.manager.now.state session f device damaged k.now.state call went.moves ∙ (seen w o es ws k).failed

pub returns-clause-resume_runs : goal.returns-clause-resume_runs
returns-clause-resume_runs c d w new o es ws session f k one device damaged =
    let went = stepped w o es ws k (event.Resume session) (Refused f) new tt one in
    let later = seen new o (es ++ went.on.made) (waited_behind ws (event.Resume session) (Refused f)) went.on.manager in
    sym later.failed ∙ settled_resume_runs (geometry_in w) went.on.manager.now.state session f device damaged k.now.state went.moves ∙ (seen w o es ws k).failed

pub returns-clause-give_up : goal.returns-clause-give_up
returns-clause-give_up c d w new o es ws session f k one =
    given_up_leaves w o es ws k session f new one

pub returns-clause-give_up_runs : goal.returns-clause-give_up_runs
returns-clause-give_up_runs c d w new o es ws session step k one =
    given_up_runs_on w o es ws k session step new one

use Rattle.shore_model.specs.declared.step.Step.TheVariants.{Refused}
use Rattle.shore_world.specs.declared.event.Event.TheVariants as event
use Rattle.laws_calls.proofs.SettledRollbacks.{settled_undo_has_room}
use Rattle.shore_world.specs.Worlds.{geometry_in}
use Rattle.shore_world.proofs.PromiseLemmas.{stepped}
use Rattle.shore_world.proofs.promises.calls.undo_is_never_refused.Goals as goal

pub returns : goal.returns
returns c d w new o es ws session call r f k served one is lacks =
    let went = stepped w o es ws k (event.Call session call) (Refused f) new served one in
    settled_undo_has_room (geometry_in w) k.now.state went.on.manager.now.state session call r f is lacks went.moves

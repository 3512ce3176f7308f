use Rattle.shore_model.specs.declared.calls.Call.TheVariants.{Resolve}
use Rattle.shore_model.specs.declared.step.Step.TheVariants.{Refused}
use Rattle.laws_calls.proofs.WrongRollbacks.{resolve_has_room}
use Rattle.shore_world.specs.declared.event.Event.TheVariants as event
use Rattle.shore_world.specs.Worlds.{geometry_in}
use Rattle.shore_world.proofs.DecidedLemmas.{resolves_at_once}
use Rattle.shore_world.proofs.PromiseLemmas.{stepped}
use Rattle.shore_world.proofs.promises.calls.resolves_are_never_refused_for_room.Goals as goal

pub returns : goal.returns
returns c d w new o es ws session global asked f k one lacks =
    let went = stepped w o es ws k (event.Call session (Resolve global asked)) (Refused f) new tt one in
    let last = went.on.manager.now.state in
    resolve_has_room (geometry_in w) k.now.state last session global asked f lacks (resolves_at_once (geometry_in w) k.now.state last session global asked (Refused f) went.moves)

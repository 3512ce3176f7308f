use Rattle.std.proofs.Common.{◌≡◌, ◌+◌, ◌-◌, ◌≤◌, ◌++◌, List, take, length, vec_len}
use Rattle.std.specs.Prelude.{vec_capacity}
use Rattle.shore_model.specs.declared.step.Step.{Step}
use Rattle.shore_world.specs.EventMoves.{all_moves}
use Rattle.shore_world.specs.Worlds.{Runs}
use Rattle.shore_world.proofs.world.World.run.Given as goal

abbrev pub invariant-loop-event : goal.invariant-loop-event
invariant-loop-event g l = record {
  room : vec_len l.out + (length l.events - l.event-index) ≤ vec_capacity l.out;
  runs : (steps : List Step) × (l.out.items ≡ l.initial.out.items ++ steps) × Runs l.initial.self (take l.event-index l.events) steps (all_moves (take l.event-index l.events) steps) l.self;
}

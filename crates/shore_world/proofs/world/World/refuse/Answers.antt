use Rattle.std.proofs.Common.{sym, ◌∙◌}
use Rattle.shore_world.specs.Worlds.{before_in}
use Rattle.shore_world.proofs.world.World.refuse.Goals.{in-Device, in_default, then-matches, else-matches}
use Rattle.shore_world.proofs.world.World.refuse.Goals as goal

pub returns-clause-state : goal.returns-clause-state
returns-clause-state g c device front disk s store is safe over = elim c.match-matches.branch [
  | in-Device w ↦ elim c.if-matches.branch [
    | then-matches v ↦ rw v.self-is (v.fail.ensures.failed front disk (before_in c.args.self.now s) s store is safe over)
    | else-matches v ↦ absurd (let clash = sym w.matches-is ∙ v.if-matches.false in cc)
  ]
  | in_default w ↦ absurd (w.in_default.not-Device device)
]

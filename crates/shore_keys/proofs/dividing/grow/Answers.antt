use Rattle.std.proofs.Common.{rules, ◌≡◌, ◌≢◌, ℕ, ◌+◌, Some, None, Ok, Err, refl, sym, ap, arith}
use Rattle.shore_keys.specs.declared.refusals.Refusal.TheVariants.{Damaged, Memory}
use Rattle.shore_keys.specs.Nodes.{Node, node_at}
use Rattle.shore_keys.specs.Steps.{IsFirstKey}
use Rattle.shore_keys.proofs.DivideSteps.{above-zero, divide-stops, divide-stops-behind, grow-ends, whole}
use Rattle.shore_keys.proofs.SplitSteps.{laid}
use Rattle.shore_keys.proofs.dividing.grow.Goals as goal

other : Memory ≢ Damaged
other e = cc

pub returns-in_err-copy : goal.returns-in_err-copy
returns-in_err-copy g c = divide-stops c.args.map.now c.args.at.now c.args.bytes.now c.args.level c.from_residual.result _ Memory (search rules) other

pub returns-in_err-text : goal.returns-in_err-text
returns-in_err-text g c =
    divide-stops-behind c.args.map.now c.args.at.now c.args.bytes.now c.args.level c.from_residual-in_err-text.result c.in_ok-copy.copy (whole c.args.bytes.now c.in_ok-copy.copy c.in_ok-copy.ensures) _ _ c.in_ok-moved.moved Memory
    (laid c.args.map.now c.in_ok-copy.copy _ _ c.inserted.result c.in_ok-moved.moved c.inserted.ensures (search rules)) (search rules) other

pub returns : goal.returns
returns g c =
    let above : c.args.level + 1 ≢ 0 = above-zero c.args.level in
    let first : (node : Node) → node_at c.args.bytes.now ≡ Some node → IsFirstKey node.entries (Some c.in-Some.first.now) = rw c.in-Some.is at c.first_key.ensures in
    grow-ends c.args.map.now c.args.at.now c.args.bytes.now c.args.level c.updated.result c.in_ok-copy.copy c.in_ok-copy.ensures c.in_ok-moved.moved c.in_ok-text.text c.in-Some.first.now (c.args.level + 1) above first c.in_ok-text.ensures.0 _ _ _
    (laid c.args.map.now c.in_ok-copy.copy _ _ c.inserted.result c.in_ok-moved.moved c.inserted.ensures (search rules)) c.updated.ensures

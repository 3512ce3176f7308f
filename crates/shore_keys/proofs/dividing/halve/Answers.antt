use Rattle.std.proofs.Common.{rules, ◌≡◌, ◌≢◌, ℕ, Some, None, Ok, Err, refl, sym, ap}
use Rattle.shore_keys.specs.declared.refusals.Refusal.TheVariants.{Damaged, Memory}
use Rattle.shore_keys.proofs.DivideSteps.{divide-reads, divide-stops, divide-stops-behind, half, halve-ends}
use Rattle.shore_keys.proofs.SplitSteps.{laid}
use Rattle.shore_keys.proofs.dividing.halve.Goals as goal

other : Memory ≢ Damaged
other e = cc

pub returns-in_err-halves : goal.returns-in_err-halves
returns-in_err-halves g c = divide-reads c.args.map.now c.args.at.now c.args.bytes.now c.args.level c.from_residual.result _ c.in_err-halves.field-0.0 c.halved.result c.halved.ensures (search rules) (search rules)

pub returns-in_err-copy : goal.returns-in_err-copy
returns-in_err-copy g c = divide-stops c.args.map.now c.args.at.now c.args.bytes.now c.args.level c.from_residual-in_err-copy.result _ Memory (search rules) other

pub returns-in_err-left : goal.returns-in_err-left
returns-in_err-left g c =
    divide-stops-behind c.args.map.now c.args.at.now c.args.bytes.now c.args.level c.from_residual-in_err-left.result c.in-Some.halves.right (half c.args.bytes.now c.halved.result c.halved.ensures c.in-Some.halves (search rules)) _ _ c.in_ok-right.right Memory
    (laid c.args.map.now c.in-Some.halves.right _ _ c.inserted.result c.in_ok-right.right (rw c.in_ok-copy.ensures at c.inserted.ensures) (search rules)) (search rules) other

pub returns : goal.returns
returns g c =
    halve-ends c.args.bytes.now c.halved.result c.halved.ensures c.in-Some.halves (search rules) c.args.map.now c.args.at.now c.args.level c.updated.result c.in_ok-right.right c.in_ok-left.left c.in_ok-left.ensures _ _ _
    (laid c.args.map.now c.in-Some.halves.right _ _ c.inserted.result c.in_ok-right.right (rw c.in_ok-copy.ensures at c.inserted.ensures) (search rules)) c.updated.ensures

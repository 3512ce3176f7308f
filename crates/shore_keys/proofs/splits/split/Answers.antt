use Rattle.std.proofs.Common.{rules, ◌≡◌, ◌≢◌, Ok, Err, Some, None, refl}
use Rattle.shore_keys.specs.declared.refusals.Refusal.TheVariants.{Damaged, Memory}
use Rattle.shore_keys.proofs.SplitSteps.{laid, split-left, split-reads, split-right, split-stops, split-stops-behind, split-stops-update}
use Rattle.shore_keys.proofs.splits.split.Goals as goal

other : Memory ≢ Damaged
other e = cc

pub returns-in_err-halves : goal.returns-in_err-halves
returns-in_err-halves g c =
    split-reads c.args.map.now c.args.home.now c.args.key.now c.from_residual.result _ c.in_err-halves.field-0.0 c.halved.result (rw c.as_slice.ensures at c.halved.ensures) (search rules) (search rules)

pub returns-in_err-copy : goal.returns-in_err-copy
returns-in_err-copy g c = split-stops c.args.map.now c.args.home.now c.args.key.now c.from_residual-in_err-copy.result _ Memory (search rules) other

pub returns-in_err-left : goal.returns-in_err-left
returns-in_err-left g c =
    split-stops-behind c.args.map.now c.args.home.now c.args.key.now c.from_residual-in_err-left.result c.halved.result (rw c.as_slice.ensures at c.halved.ensures) c.in-Some.halves (search rules) _ _ c.in_ok-right.right Memory
    (laid c.args.map.now c.in-Some.halves.right _ _ c.inserted.result c.in_ok-right.right (rw c.in_ok-copy.ensures at c.inserted.ensures) (search rules)) (search rules) other

pub returns-in_err-try_clone : goal.returns-in_err-try_clone
returns-in_err-try_clone g c =
    split-stops-behind c.args.map.now c.args.home.now c.args.key.now c.from_residual-in_err-try_clone.result c.halved.result (rw c.as_slice.ensures at c.halved.ensures) c.in-Some.halves (search rules) _ _ c.in_ok-right.right Memory
    (laid c.args.map.now c.in-Some.halves.right _ _ c.inserted.result c.in_ok-right.right (rw c.in_ok-copy.ensures at c.inserted.ensures) (search rules)) (search rules) other

pub returns-in_err-updated : goal.returns-in_err-updated
returns-in_err-updated g c =
    split-stops-update c.args.map.now c.args.home.now c.args.key.now c.from_residual-in_err-updated.result c.halved.result (rw c.as_slice.ensures at c.halved.ensures) c.in-Some.halves (search rules) _ _ _ c.in_ok-right.right _ c.updated.result c.in_err-updated.field-0.0
    (laid c.args.map.now c.in-Some.halves.right _ _ c.inserted.result c.in_ok-right.right (rw c.in_ok-copy.ensures at c.inserted.ensures) (search rules)) c.updated.ensures (search rules) (search rules)

pub returns-then-is_before : goal.returns-then-is_before
returns-then-is_before g c =
    split-left c.args.map.now c.args.home.now c.args.key.now _ c.halved.result (rw c.as_slice.ensures at c.halved.ensures) c.in-Some.halves (search rules) _ _ _ c.in_ok-right.right c.in_ok-left.left c.updated.result _
    (laid c.args.map.now c.in-Some.halves.right _ _ c.inserted.result c.in_ok-right.right (rw c.in_ok-copy.ensures at c.inserted.ensures) (search rules)) (rw c.in_ok-try_clone.ensures at c.updated.ensures) (search rules) c.in_ok-left.ensures (search rules) refl

pub returns : goal.returns
returns g c =
    split-right c.args.map.now c.args.home.now c.args.key.now _ c.halved.result (rw c.as_slice.ensures at c.halved.ensures) c.in-Some.halves (search rules) _ _ _ c.in_ok-right.right c.in_ok-left.left c.updated.result _
    (laid c.args.map.now c.in-Some.halves.right _ _ c.inserted.result c.in_ok-right.right (rw c.in_ok-copy.ensures at c.inserted.ensures) (search rules)) (rw c.in_ok-try_clone.ensures at c.updated.ensures) (search rules) c.in_ok-left.ensures (search rules) refl

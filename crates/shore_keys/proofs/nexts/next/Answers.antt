use Rattle.std.proofs.Common.{rules, ◌≡◌, ◌≢◌, ℕ, List, Some, None, Ok, Err, refl, sym, ap, subst, ◌∙◌}
use Rattle.shore_keys.specs.declared.refusals.Refusal.TheVariants.{Damaged, TooFar}
use Rattle.shore_keys.proofs.NextSteps.{next-found, next-goes, next-none, next-starts, next-stops, next-stops-home, next-stops-leaf, next-stops-right, next-stops-value}
use Rattle.shore_keys.proofs.nexts.next.Goals as goal

other : TooFar ≢ Damaged
other e = cc

pub returns-in_err-home : goal.returns-in_err-home
returns-in_err-home g c = next-stops-home c.args.map.now c.args.key.now _ _ c.home_of.result c.from_residual.result c.in_err-home.field-0.0 c.home_of.ensures (search rules) (search rules)

pub loop-step-init : goal.loop-step-init
loop-step-init g c = next-starts c.args.map.now.root c.args.key.now _ _ c.home_of.result c.in_ok-home.home c.home_of.ensures (search rules)

pub returns-in_err-found : goal.returns-in_err-found
returns-in_err-found g c =
    next-stops-leaf c.args.map.now c.args.key.now c.loop-step.bytes _ _ c.loop-step.invariant c.from_residual-in_err-found.result c.first_above.result (rw c.as_slice.ensures at c.first_above.ensures) c.in_err-found.field-0.0 (search rules) (search rules)

pub returns-in_err-value : goal.returns-in_err-value
returns-in_err-value g c =
    next-stops-value c.args.map.now c.args.key.now c.loop-step.bytes _ _ c.loop-step.invariant c.from_residual-in_err-value.result c.first_above.result (rw c.as_slice.ensures at c.first_above.ensures) c.in-Some.found c.in-Some.spot (search rules)
    _ c.id_of.result c.id_of.ensures c.got.result c.got.ensures c.in_err-value.field-0.0 (search rules) (search rules)

pub returns-in-Some : goal.returns-in-Some
returns-in-Some g c =
    next-found c.args.map.now c.args.key.now c.loop-step.bytes _ _ c.loop-step.invariant _ c.first_above.result (rw c.as_slice.ensures at c.first_above.ensures) c.in-Some.found c.in-Some.spot (search rules)
    _ c.id_of.result c.id_of.ensures c.got.result c.got.ensures c.in_ok-value.value (search rules) refl

pub returns-in_default-right_of : goal.returns-in_default-right_of
returns-in_default-right_of g c =
    next-none c.args.map.now c.args.key.now c.loop-step.bytes _ _ c.loop-step.invariant (Ok None) c.first_above.result (rw c.as_slice.ensures at c.first_above.ensures) (search rules)
    c.right_of.result (rw c.as_slice-in-loop-step.ensures at c.right_of.ensures) (search rules) refl

pub returns-in_err-bytes : goal.returns-in_err-bytes
returns-in_err-bytes g c =
    next-stops-right c.args.map.now c.args.key.now c.loop-step.bytes _ _ c.loop-step.invariant c.from_residual-in_err-bytes.result c.first_above.result (rw c.as_slice.ensures at c.first_above.ensures) (search rules)
    c.right_of.result (rw c.as_slice-in-loop-step.ensures at c.right_of.ensures) c.in-Some-right_of.right _ c.got-in-loop-step.result c.got-in-loop-step.ensures c.in_err-bytes.field-0.0 (search rules) (search rules)

pub loop-step-preserved : goal.loop-step-preserved
loop-step-preserved g c =
    next-goes c.args.map.now c.args.key.now c.loop-step.bytes _ _ c.loop-step.invariant (Ok None) c.first_above.result (rw c.as_slice.ensures at c.first_above.ensures) (search rules)
    c.right_of.result (rw c.as_slice-in-loop-step.ensures at c.right_of.ensures) c.in-Some-right_of.right (search rules) _ c.got-in-loop-step.result c.got-in-loop-step.ensures c.in_ok-bytes.bytes (search rules)

pub returns : goal.returns
returns g c = next-stops c.args.map.now c.args.key.now c.loop-step.bytes _ _ c.loop-step.invariant (Err TooFar) TooFar refl other

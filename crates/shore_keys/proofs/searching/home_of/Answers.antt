use Rattle.std.proofs.Common.{rules, ◌≡◌, ◌≢◌, ℕ, List, Some, None, Ok, Err, refl, sym, ap, subst, ◌∙◌}
use Rattle.shore_keys.proofs.SearchSteps.{arrives-there, goes-there, never-stops, starts, stops-at-get, too-far}
use Rattle.shore_keys.proofs.searching.home_of.Goals as goal

pub loop-step-init : goal.loop-step-init
loop-step-init g c = starts c.args.root.now c.args.key.now _

pub returns-in_err-bytes : goal.returns-in_err-bytes
returns-in_err-bytes g c =
    stops-at-get c.args.root.now c.args.key.now c.loop-step.at _ _ _ c.got.result c.loop-step.invariant c.got.ensures c.from_residual.result c.in_err-bytes.field-0.0
    (search rules) (search rules)

pub returns-in_err-next : goal.returns-in_err-next
returns-in_err-next g c =
    never-stops c.args.root.now c.args.key.now c.loop-step.at _ _ _ c.got.result c.loop-step.invariant c.got.ensures c.in_ok-bytes.bytes c.next_of.result c.from_residual-in_err-next.result c.in_err-next.field-0.0
    (search rules) (rw c.as_slice.ensures at c.next_of.ensures) (search rules)

pub returns-in-None : goal.returns-in-None
returns-in-None g c =
    arrives-there c.args.root.now c.args.key.now c.loop-step.at _ _ _ c.got.result c.loop-step.invariant c.got.ensures c.in_ok-bytes.bytes (record { id = c.loop-step.at; bytes = c.in_ok-bytes.bytes })
    c.next_of.result _ (search rules) (rw c.as_slice.ensures at c.next_of.ensures) (search rules) refl refl refl

pub loop-step-preserved : goal.loop-step-preserved
loop-step-preserved g c =
    goes-there c.args.root.now c.args.key.now c.loop-step.at _ _ _ c.got.result c.loop-step.invariant c.got.ensures c.in_ok-bytes.bytes c.in-Some.next c.next_of.result
    (search rules) (rw c.as_slice.ensures at c.next_of.ensures) (search rules)

pub returns : goal.returns
returns g c = too-far c.args.root.now c.args.key.now c.loop-step.at _ _ c.loop-step.invariant

use Rattle.std.proofs.Common.{rules, ◌≡◌, ◌≢◌, ℕ, List, Some, None, Ok, Err, refl, sym, ap, subst, ◌∙◌}
use Rattle.shore_keys.specs.declared.refusals.Refusal.TheVariants.{Damaged, Memory}
use Rattle.shore_keys.specs.Edges.{IsCrossed}
use Rattle.shore_keys.specs.Nodes.{Node, node_at}
use Rattle.shore_keys.proofs.EdgeSteps.{edge-found, edge-goes, edge-never, edge-none, edge-starts, edge-stops, edge-stops-get, edge-too-far}
use Rattle.shore_keys.proofs.edges.edge_of.Goals as goal

other : Memory ≢ Damaged
other e = cc

pub loop-step-init : goal.loop-step-init
loop-step-init g c = edge-starts c.args.root.now c.args.key.now _

pub returns-in_err-bytes : goal.returns-in_err-bytes
returns-in_err-bytes g c =
    edge-stops-get c.args.root.now c.args.key.now c.loop-step.at c.loop-step.parent _ _ _ c.got.result c.loop-step.invariant c.got.ensures c.from_residual.result c.in_err-bytes.field-0.0 (search rules) (search rules)

pub returns-in_err-key : goal.returns-in_err-key
returns-in_err-key g c =
    edge-stops c.args.root.now c.args.key.now c.loop-step.at c.loop-step.parent _ _ _ c.got.result c.loop-step.invariant c.got.ensures c.from_residual-in_err-key.result Memory (search rules) other

pub returns-in-Some : goal.returns-in-Some
returns-in-Some g c =
    let crossing : (node : Node) → node_at c.in_ok-bytes.bytes ≡ Some node → IsCrossed node.right c.args.key.now (Some (c.in-Some.key, c.in-Some.spot)) = λ node reads. rw c.in-Some.is at ((rw c.as_slice.ensures at c.in_ok-key.ensures) node reads) in
    edge-found c.args.root.now c.args.key.now c.loop-step.at c.loop-step.parent _ _ _ c.got.result c.loop-step.invariant c.got.ensures _ c.in_ok-bytes.bytes (c.in-Some.key, c.in-Some.spot) (search rules) crossing refl

pub returns-in_err-next : goal.returns-in_err-next
returns-in_err-next g c =
    edge-never c.args.root.now c.args.key.now c.loop-step.at c.loop-step.parent _ _ _ c.got.result c.loop-step.invariant c.got.ensures c.from_residual-in_err-next.result c.in_ok-bytes.bytes c.next_of.result c.in_err-next.field-0.0
    (search rules) (rw c.as_slice-in-loop-step.ensures at c.next_of.ensures) (search rules)

pub returns-in-None : goal.returns-in-None
returns-in-None g c = edge-none c.args.root.now c.args.key.now c.loop-step.at c.loop-step.parent _ _ _ c.got.result c.loop-step.invariant c.got.ensures (Ok None) refl

pub loop-step-preserved : goal.loop-step-preserved
loop-step-preserved g c =
    edge-goes c.args.root.now c.args.key.now c.loop-step.at c.loop-step.parent _ _ _ c.got.result c.loop-step.invariant c.got.ensures c.in_ok-bytes.bytes c.in-Some-2.next c.next_of.result
    (search rules) (rw c.as_slice-in-loop-step.ensures at c.next_of.ensures) (search rules)

pub returns : goal.returns
returns g c = edge-too-far c.args.root.now c.args.key.now c.loop-step.at c.loop-step.parent _ _ c.loop-step.invariant

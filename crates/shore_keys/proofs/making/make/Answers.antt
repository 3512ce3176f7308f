use Rattle.std.proofs.Common.{rules, ◌≡◌, ◌≢◌, ℕ, List, [], ◌∷◌, Some, None, Ok, Err, refl, sym}
use Rattle.shore_keys.specs.declared.refusals.Refusal.TheVariants.{Damaged, Memory}
use Rattle.shore_keys.specs.Nodes.{node_at}
use Rattle.shore_keys.proofs.MakeSteps.{begun, make-ends, make-stops-behind-both, make-stops-behind-root, make-stops-leaf, make-stops-update}
use Rattle.shore_keys.proofs.making.make.Goals as goal

other : Memory ≢ Damaged
other e = cc

pub returns-in_err-empty_leaf-2 : goal.returns-in_err-empty_leaf-2
returns-in_err-empty_leaf-2 g c =
    make-stops-behind-root c.args.nodes c.args.values c.from_residual-in_err-empty_leaf-2.result Memory (search rules) _ _ _ c.inserted.result c.in_ok-root.root c.inserted.ensures (search rules) other

pub returns-in_err-leaf : goal.returns-in_err-leaf
returns-in_err-leaf g c =
    make-stops-leaf c.args.nodes c.args.values c.from_residual-in_err-leaf.result c.in_err-leaf.field-0.0 (search rules) _ _ _ _ _ c.inserted.result c.inserted-2.result c.in_ok-root.root c.inserted.ensures (search rules)
    c.inserted-2.ensures (search rules)

pub returns-in_err-text : goal.returns-in_err-text
returns-in_err-text g c =
    make-stops-behind-both c.args.nodes c.args.values c.from_residual-in_err-text.result Memory (search rules) _ _ _ _ c.in_ok-root.root c.in_ok-leaf.leaf
    (begun c.args.nodes c.in_ok-root.root c.in_ok-leaf.leaf _ _ _ _ _ c.inserted.result c.inserted-2.result c.inserted.ensures (search rules) c.inserted-2.ensures (search rules)) other

pub returns-in_err-updated : goal.returns-in_err-updated
returns-in_err-updated g c =
    make-stops-update c.args.nodes c.args.values c.in_ok-root.root c.in_ok-leaf.leaf _ _ _ _ _ _ c.updated.result c.in_err-updated.field-0.0 c.from_residual-in_err-updated.result
    (begun c.args.nodes c.in_ok-root.root c.in_ok-leaf.leaf _ _ _ _ _ c.inserted.result c.inserted-2.result c.inserted.ensures (search rules) c.inserted-2.ensures (search rules))
    c.updated.ensures (search rules) (search rules)

pub returns : goal.returns
returns g c =
    let differ : c.args.nodes ≢ c.args.values = search rules in
    make-ends c.args.nodes c.args.values c.in_ok-root.root c.in_ok-leaf.leaf c.in_ok-empty_leaf.field-0 c.in_ok-empty_leaf-2.field-0 c.in_ok-text.text _ _ _ c.updated.result _ _
    (begun c.args.nodes c.in_ok-root.root c.in_ok-leaf.leaf _ _ _ _ _ c.inserted.result c.inserted-2.result c.inserted.ensures (search rules) c.inserted-2.ensures (search rules))
    c.updated.ensures (λ e. differ (sym e)) c.in_ok-empty_leaf-2.ensures.0 c.in_ok-text.ensures.0 (search rules) refl

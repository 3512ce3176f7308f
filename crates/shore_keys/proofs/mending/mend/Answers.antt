use Rattle.std.proofs.Common.{rules, ◌≡◌, Bool, Some, None, Ok, Err, refl}
use Rattle.shore_keys.proofs.MendSteps.{err-as, mend-crosses, mend-ends, mend-names, mend-starts, mend-stops}
use Rattle.shore_keys.proofs.mending.mend.Goals as goal

pub loop-mend-init : goal.loop-mend-init
loop-mend-init g c = mend-starts {A = Unit {0}} c.args.map.now (Ok tt) _ tt

pub returns-in_err-edge : goal.returns-in_err-edge
returns-in_err-edge g c =
    mend-stops {A = Unit {0}} c.args.map.now (Ok tt) c.from_residual.result _ _ c.loop-mend.invariant _ c.edge_of.result c.edge_of.ensures c.in_err-edge.field-0.0 (search rules) (search rules)

pub returns-in_default : goal.returns-in_default
returns-in_default g c = mend-crosses {A = Unit {0}} {B = Unit {0}} c.args.map.now (Ok tt) (Ok tt) _ _ c.loop-mend.invariant _ c.edge_of.result c.edge_of.ensures tt

pub returns-in_err-name : goal.returns-in_err-name
returns-in_err-name g c =
    mend-names {A = Unit {0}} c.args.map.now (Ok tt) c.from_residual-in_err-name.result _ _ c.loop-mend.invariant _ c.edge_of.result c.edge_of.ensures c.in-Some.edge (search rules) _ c.name.result c.name.ensures
    (err-as c.name.result c.from_residual-in_err-name.result c.in_err-name.field-0.0 (search rules) (search rules))

pub returns-then-not-branch : goal.returns-then-not-branch
returns-then-not-branch g c =
    mend-names {A = Unit {0}} {B = Unit {0}} c.args.map.now (Ok tt) (Ok tt) _ _ c.loop-mend.invariant _ c.edge_of.result c.edge_of.ensures c.in-Some.edge (search rules) _ c.name.result c.name.ensures (λ h. tt)

pub loop-mend-preserved : goal.loop-mend-preserved
loop-mend-preserved g c =
    mend-names {A = Unit {0}} {B = Unit {0}} c.args.map.now (Ok tt) (Ok tt) _ _ c.loop-mend.invariant _ c.edge_of.result c.edge_of.ensures c.in-Some.edge (search rules) _ c.name.result c.name.ensures (λ h. tt)

pub returns : goal.returns
returns g c = mend-ends {A = Unit {0}} {B = Unit {0}} c.args.map.now (Ok tt) (Ok tt) _ _ c.loop-mend.invariant tt

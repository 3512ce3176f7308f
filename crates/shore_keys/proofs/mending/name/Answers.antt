use Rattle.std.proofs.Common.{rules, ◌≡◌, ◌≢◌, ℕ, List, Bool, true, false, Some, None, Ok, Err, refl, sym, ap, subst, ◌∙◌}
use Rattle.shore_keys.specs.Nodes.{Node, node_at}
use Rattle.shore_keys.proofs.MendSteps.{err-as, name-divides, name-ready, name-stops-get, name-stops-text, name-untried, name-updates, ready}
use Rattle.shore_keys.proofs.mending.name.Goals as goal

pub returns-in_err-bytes : goal.returns-in_err-bytes
returns-in_err-bytes g c =
    name-stops-get c.args.map.now c.args.edge.now c.from_residual.result _ _ c.got.result (ready c.args.edge.now c.got.result _ _ _ c.tried.ensures c.got.ensures) c.in_err-bytes.field-0.0 (search rules) (search rules)

pub returns-then-level-eq0 : goal.returns-then-level-eq0
returns-then-level-eq0 g c = name-ready {A = Bool} c.args.map.now c.args.edge.now (Ok false) _ _ c.got.result (ready c.args.edge.now c.got.result _ _ _ c.tried.ensures c.got.ensures) tt

pub returns-in_err-text : goal.returns-in_err-text
returns-in_err-text g c =
    name-stops-text c.args.map.now c.args.edge.now c.from_residual-in_err-text.result _ _ c.got.result (ready c.args.edge.now c.got.result _ _ _ c.tried.ensures c.got.ensures) c.in_ok-bytes.bytes (search rules)
    c.with_entry.result (rw (c.as_slice-3.ensures, c.as_slice-4.ensures) at c.with_entry.ensures) c.in_err-text.field-0.0 (search rules) (search rules)

pub returns-in_err-updated-in-Some : goal.returns-in_err-updated-in-Some
returns-in_err-updated-in-Some g c =
    let inner : c.level_of-level.result ≢ 0 = search rules in
    name-updates c.args.map.now c.args.edge.now c.from_residual-in_err-updated-in-Some.result _ _ c.got.result (ready c.args.edge.now c.got.result _ _ _ c.tried.ensures c.got.ensures) c.in_ok-bytes.bytes (search rules)
    c.with_entry.result (rw (c.as_slice-3.ensures, c.as_slice-4.ensures) at c.with_entry.ensures) c.level_of-level.result (rw c.as_slice-2.ensures at c.level_of-level.ensures) inner c.in-Some.text (search rules) _ c.updated.result c.updated.ensures
    (err-as c.updated.result c.from_residual-in_err-updated-in-Some.result c.in_err-updated-in-Some.field-0.0 (search rules) (search rules))

pub returns-in-Some : goal.returns-in-Some
returns-in-Some g c =
    let inner : c.level_of-level.result ≢ 0 = search rules in
    name-updates {A = Bool} c.args.map.now c.args.edge.now (Ok true) _ _ c.got.result (ready c.args.edge.now c.got.result _ _ _ c.tried.ensures c.got.ensures) c.in_ok-bytes.bytes (search rules)
    c.with_entry.result (rw (c.as_slice-3.ensures, c.as_slice-4.ensures) at c.with_entry.ensures) c.level_of-level.result (rw c.as_slice-2.ensures at c.level_of-level.ensures) inner c.in-Some.text (search rules) _ c.updated.result c.updated.ensures (λ h. tt)

pub returns-in_err-divide-in-None : goal.returns-in_err-divide-in-None
returns-in_err-divide-in-None g c =
    let inner : c.level_of-level.result ≢ 0 = search rules in
    name-divides c.args.map.now c.args.edge.now c.from_residual-in_err-divide-in-None.result _ _ c.got.result (ready c.args.edge.now c.got.result _ _ _ c.tried.ensures c.got.ensures) c.in_ok-bytes.bytes (search rules)
    c.with_entry.result (rw (c.as_slice-3.ensures, c.as_slice-4.ensures) at c.with_entry.ensures) c.level_of-level.result (rw c.as_slice-2.ensures at c.level_of-level.ensures) inner _ c.divide.result (rw c.as_slice-in-None.ensures at c.divide.ensures)
    (err-as c.divide.result c.from_residual-in_err-divide-in-None.result c.in_err-divide-in-None.field-0.0 (search rules) (search rules))

pub returns : goal.returns
returns g c =
    let inner : c.level_of-level.result ≢ 0 = search rules in
    name-divides {A = Bool} c.args.map.now c.args.edge.now (Ok true) _ _ c.got.result (ready c.args.edge.now c.got.result _ _ _ c.tried.ensures c.got.ensures) c.in_ok-bytes.bytes (search rules)
    c.with_entry.result (rw (c.as_slice-3.ensures, c.as_slice-4.ensures) at c.with_entry.ensures) c.level_of-level.result (rw c.as_slice-2.ensures at c.level_of-level.ensures) inner _ c.divide.result (rw c.as_slice-in-None.ensures at c.divide.ensures) (λ h. tt)

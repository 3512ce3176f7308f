use Rattle.std.proofs.Common.{rules, ◌≡◌, Some, None, Ok, Err, refl}
use Rattle.shore_keys.proofs.TakeSteps.{take-ends, take-nothing, take-reads-leaf, take-stops-home, take-stops-text, take-stops-update}
use Rattle.shore_keys.proofs.takes.take.Goals as goal

pub returns-in_err-home : goal.returns-in_err-home
returns-in_err-home g c =
    take-stops-home c.args.map.now c.args.key.now c.from_residual.result _ _ c.home_of.result c.home_of.ensures c.in_err-home.field-0.0 (search rules) (search rules)

pub returns-in_err-spot : goal.returns-in_err-spot
returns-in_err-spot g c =
    take-reads-leaf c.args.map.now c.args.key.now c.from_residual-in_err-spot.result _ _ c.home_of.result c.home_of.ensures c.in_ok-home.home (search rules) c.spot_in.result (rw c.as_slice.ensures at c.spot_in.ensures)
    c.in_err-spot.field-0.0 (search rules)

pub returns-in_default : goal.returns-in_default
returns-in_default g c =
    take-nothing c.args.map.now c.args.key.now _ _ _ c.home_of.result c.home_of.ensures c.in_ok-home.home (search rules) c.spot_in.result (rw c.as_slice.ensures at c.spot_in.ensures) (search rules) refl

pub returns-in_err-text : goal.returns-in_err-text
returns-in_err-text g c =
    take-stops-text c.args.map.now c.args.key.now c.from_residual-in_err-text.result _ _ c.home_of.result c.home_of.ensures c.in_ok-home.home (search rules) c.spot_in.result (rw c.as_slice.ensures at c.spot_in.ensures)
    c.in-Some.spot (search rules) c.without_entry.result (rw c.as_slice-2.ensures at c.without_entry.ensures) c.in_err-text.field-0.0 (search rules) (search rules)

pub returns-in_err-updated : goal.returns-in_err-updated
returns-in_err-updated g c =
    take-stops-update c.args.map.now c.args.key.now c.from_residual-in_err-updated.result _ _ c.home_of.result c.home_of.ensures c.in_ok-home.home (search rules) c.spot_in.result (rw c.as_slice.ensures at c.spot_in.ensures)
    c.in-Some.spot (search rules) c.without_entry.result (rw c.as_slice-2.ensures at c.without_entry.ensures) c.in_ok-text.text (search rules) _ c.updated.result c.updated.ensures c.in_err-updated.field-0.0 (search rules) (search rules)

pub returns : goal.returns
returns g c =
    take-ends c.args.map.now c.args.key.now _ _ _ c.home_of.result c.home_of.ensures c.in_ok-home.home (search rules) c.spot_in.result (rw c.as_slice.ensures at c.spot_in.ensures)
    c.in-Some.spot (search rules) c.without_entry.result (rw c.as_slice-2.ensures at c.without_entry.ensures) c.in_ok-text.text (search rules) _ c.updated.result c.updated.ensures _ (search rules)
    _ c.id_of.result c.id_of.ensures c.deleted.result c.deleted.ensures refl

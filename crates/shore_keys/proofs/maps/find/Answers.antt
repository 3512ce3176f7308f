use Rattle.std.proofs.Common.{rules, ◌≡◌, Some, None, Ok, Err, refl}
use Rattle.shore_keys.proofs.FindSteps.{find-nothing, find-reads-leaf, find-stops-home, find-stops-value, find-value}
use Rattle.shore_keys.proofs.maps.find.Goals as goal

pub returns-in_err-home : goal.returns-in_err-home
returns-in_err-home g c =
    find-stops-home c.args.map.now c.args.key.now _ _ c.home_of.result c.home_of.ensures c.from_residual.result c.in_err-home.field-0.0 (search rules) (search rules)

pub returns-in_default : goal.returns-in_default
returns-in_default g c =
    find-nothing c.args.map.now c.args.key.now _ _ c.home_of.result c.home_of.ensures _ c.in_ok-home.home (search rules) c.spot_in.result (rw c.as_slice.ensures at c.spot_in.ensures) (search rules) refl

pub returns : goal.returns
returns g c =
    find-value c.args.map.now c.args.key.now _ _ c.home_of.result c.home_of.ensures _ c.in_ok-home.home (search rules) c.spot_in.result (rw c.as_slice.ensures at c.spot_in.ensures)
    c.in-Some.spot (search rules) _ c.id_of.result c.id_of.ensures c.got.result c.got.ensures c.in_ok-bytes.bytes (search rules) refl

pub returns-in_err-spot : goal.returns-in_err-spot
returns-in_err-spot g c =
    find-reads-leaf c.args.map.now c.args.key.now _ _ c.home_of.result c.home_of.ensures c.from_residual-in_err-spot.result c.in_ok-home.home (search rules) c.spot_in.result (rw c.as_slice.ensures at c.spot_in.ensures)
    c.in_err-spot.field-0.0 (search rules)

pub returns-in_err-bytes : goal.returns-in_err-bytes
returns-in_err-bytes g c =
    find-stops-value c.args.map.now c.args.key.now _ _ c.home_of.result c.home_of.ensures c.from_residual-in_err-bytes.result c.in_ok-home.home (search rules) c.spot_in.result (rw c.as_slice.ensures at c.spot_in.ensures)
    c.in-Some.spot (search rules) _ c.id_of.result c.id_of.ensures c.got.result c.got.ensures c.in_err-bytes.field-0.0 (search rules) (search rules)

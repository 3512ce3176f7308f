use Rattle.std.proofs.Common.{rules, ◌≡◌, Some, None, Ok, Err, refl}
use Rattle.shore_keys.proofs.PutSteps.{put-at-home, put-reads-leaf, put-stops-home, put-too-long, put-value}
use Rattle.shore_keys.proofs.puts.put.Goals as goal

pub returns-then-key-gt-MAX_KEY_BYTES : goal.returns-then-key-gt-MAX_KEY_BYTES
returns-then-key-gt-MAX_KEY_BYTES g c = put-too-long (Unit {0}) c.args.map.now c.args.key.now c.args.value _

pub returns-in_err-home : goal.returns-in_err-home
returns-in_err-home g c =
    put-stops-home c.args.map.now c.args.key.now c.args.value c.from_residual.result _ _ c.home_of.result c.home_of.ensures c.in_err-home.field-0.0 (search rules) (search rules)

pub returns-in-Some : goal.returns-in-Some
returns-in-Some g c =
    put-value c.args.map.now c.args.key.now c.args.value c.updated.result _ _ c.home_of.result c.home_of.ensures c.in_ok-home.home (search rules) c.spot_in.result (rw c.as_slice.ensures at c.spot_in.ensures)
    c.in-Some.spot (search rules) _ c.id_of.result c.id_of.ensures c.updated.ensures

pub returns : goal.returns
returns g c =
    put-at-home c.args.map.now c.args.key.now c.args.value c.put_new.result _ _ c.home_of.result c.home_of.ensures c.in_ok-home.home (search rules) c.spot_in.result (rw c.as_slice.ensures at c.spot_in.ensures)
    (search rules) _ c.put_new.ensures

pub returns-in_err-spot : goal.returns-in_err-spot
returns-in_err-spot g c =
    put-reads-leaf c.args.map.now c.args.key.now c.args.value c.from_residual-in_err-spot.result _ _ c.home_of.result c.home_of.ensures c.in_ok-home.home (search rules) c.spot_in.result (rw c.as_slice.ensures at c.spot_in.ensures)
    c.in_err-spot.field-0.0 (search rules)

use Rattle.std.proofs.Common.{rules, ◌≡◌, ◌≢◌, Some, None, Ok, Err, refl}
use Rattle.shore_keys.specs.declared.refusals.Refusal.TheVariants.{Damaged, Full}
use Rattle.shore_keys.proofs.PutNew.{new-ends}
use Rattle.shore_keys.proofs.PutSteps.{new-reads-leaf, new-stops-behind, new-stops-insert, placed}
use Rattle.shore_keys.proofs.puts.put_at.Goals as goal

other : Full ≢ Damaged
other e = cc

pub returns-in_err-id : goal.returns-in_err-id
returns-in_err-id g c =
    new-stops-insert c.args.map.now c.args.home.now c.args.key.now c.args.value c.from_residual.result _ _ c.inserted.result c.in_err-id.field-0.0 c.inserted.ensures (search rules) (search rules)

pub returns-in_err-text : goal.returns-in_err-text
returns-in_err-text g c =
    new-reads-leaf c.args.map.now c.args.home.now c.args.key.now c.args.value c.from_residual-in_err-text.result _ _ c.in_ok-id.id c.in_err-text.field-0.0 c.with_entry.result
    (placed c.args.map.now c.args.value _ _ c.inserted.result c.in_ok-id.id c.inserted.ensures (search rules)) (rw c.as_slice.ensures at c.with_entry.ensures) (search rules) (search rules)

pub returns-in-None : goal.returns-in-None
returns-in-None g c =
    new-stops-behind {A = Unit {0}} c.args.map.now c.args.home.now c.args.key.now c.args.value (Err Full) _ _ c.in_ok-id.id Full
    (placed c.args.map.now c.args.value _ _ c.inserted.result c.in_ok-id.id c.inserted.ensures (search rules)) refl other

pub returns-in-Some : goal.returns-in-Some
returns-in-Some g c =
    new-ends c.args.map.now c.args.home.now c.args.key.now c.args.value c.updated.result _ _ _ c.in_ok-id.id c.in-Some.text c.with_entry.result
    (placed c.args.map.now c.args.value _ _ c.inserted.result c.in_ok-id.id c.inserted.ensures (search rules)) (rw c.as_slice.ensures at c.with_entry.ensures) (search rules) c.updated.ensures

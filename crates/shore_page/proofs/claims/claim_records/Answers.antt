use Rattle.std.proofs.Common.{◌≡◌, ◌≤◌, length, take, ap, ◌∙◌, arith}
use Rattle.std.proofs.lemmas.List.{length-map, length-take-le}
use Rattle.shore_types.specs.Images.{image_len}
use Rattle.shore_types.specs.Versions.{sizes}
use Rattle.shore_page.proofs.claims.claim_records.Goals as goal

pub push_reserved-requires : goal.push_reserved-requires
push_reserved-requires c =
    let slot = c.loop-slot.slot in
    let images = c.args.text.now.images in
    let within : slot ≤ length images = omega (arith, c.loop-slot-test.true, c.slot_count-slot-end.ensures.count) in
    let len : length c.loop-slot.claims.items ≡ slot =
    ap length c.loop-slot.invariant.claims ∙ length-map (take slot images) image_len ∙ length-take-le slot images within in
    omega (arith, sizes, len, c.loop-slot.claims.ok.0, c.loop-slot.invariant.capacity, c.slot_count-slot-end.ensures.most, c.loop-slot-test.true)

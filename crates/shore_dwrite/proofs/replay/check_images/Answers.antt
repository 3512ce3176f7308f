use Rattle.std.proofs.Common.{ℕ, ◌+◌, ◌*◌, inr, refl, ap, ◌∙◌}
use Rattle.shore_types.specs.declared.faults.Device.TheVariants.{Volume}
use Rattle.shore_types.specs.declared.faults.Fault.TheVariants.{Damaged}
use Rattle.shore_dwrite.proofs.ImageLemmas.{first_all, first_more, first_bad}
use Rattle.shore_dwrite.proofs.InPlace.{text_is}
use Rattle.shore_dwrite.proofs.replay.check_images.Goals as goal

pub returns-then-not-branch-clause-refused : goal.returns-then-not-branch-clause-refused
returns-then-not-branch-clause-refused c =
    let bytes = c.args.bytes.now in
    let i = c.loop-i.i in
    inr (i, first_bad c.args.geometry.now c.args.numbers.now bytes i _ _ c.loop-i-test.true c.loop-i.invariant refl (text_is c.args.geometry.now.version _ c.page_bytes-size.ensures.is bytes i) (c.in_ok-is_image.ensures.no c.if-not-branch.true), c.damaged.ensures ∙ ap (λ (n : ℕ). Damaged Volume (8192 + n * i)) c.page_bytes-size.ensures.is)

pub loop-i-preserved : goal.loop-i-preserved
loop-i-preserved c =
    let bytes = c.args.bytes.now in
    let i = c.loop-i.i in
    first_more c.args.geometry.now c.args.numbers.now bytes i _ _ c.loop-i.invariant refl (text_is c.args.geometry.now.version _ c.page_bytes-size.ensures.is bytes i) (c.in_ok-is_image.ensures.yes c.if-not-branch.false)

pub returns-clause-passed : goal.returns-clause-passed
returns-clause-passed c = first_all c.args.geometry.now c.args.numbers.now c.args.bytes.now c.loop-i.i c.loop-i-test.false c.loop-i.invariant

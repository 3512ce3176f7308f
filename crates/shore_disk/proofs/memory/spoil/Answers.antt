use Rattle.std.proofs.Common.{ap, ◌∙◌, sym, List, ℕ, get_or, replicate, arith}
use Rattle.shore_disk.specs.Device.{overwritten}
use Rattle.shore_disk.proofs.MemoryLemmas.{with_noise-more}
use Rattle.shore_disk.proofs.memory.spoil.Goals as goal

pub loop-place-preserved : goal.loop-place-preserved
loop-place-preserved c =
    let i = c.loop-place.place-index in
    let p = get_or c.args.places.now i (record { at = 0; len = 0 }) in
    record {
      so_far = c.spoil_place.ensures.spoilt ∙ ap (λ (image : List ℕ). overwritten image p.at (replicate p.len 90)) c.loop-place.invariant.so_far
          ∙ sym (with_noise-more c.args.image.now c.args.places.now i (record { at = 0; len = 0 }) c.loop-place-test.true);
      room = omega (arith, c.spoil_place.ensures.room, c.loop-place.invariant.room);
    }

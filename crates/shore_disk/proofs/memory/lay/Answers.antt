use Rattle.std.proofs.Common.{ap, ◌∙◌, sym, List, ℕ, get_or, arith}
use Rattle.shore_disk.specs.Memory.{copied}
use Rattle.shore_disk.proofs.MemoryLemmas.{laid-more}
use Rattle.shore_disk.proofs.memory.lay.Goals as goal

pub loop-place-preserved : goal.loop-place-preserved
loop-place-preserved c =
    let i = c.loop-place.place-index in
    let p = get_or c.args.places.now i (record { at = 0; len = 0 }) in
    record {
      so_far = c.copy_place.ensures.laid ∙ ap (λ (image : List ℕ). copied c.args.from.now image p) c.loop-place.invariant.so_far
          ∙ sym (laid-more c.args.from.now c.args.image.now c.args.places.now i (record { at = 0; len = 0 }) c.loop-place-test.true);
      room = omega (arith, c.copy_place.ensures.room, c.loop-place.invariant.room);
    }

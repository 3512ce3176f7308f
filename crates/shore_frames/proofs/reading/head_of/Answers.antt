use Rattle.std.proofs.Common.{ℕ, ap, ◌∙◌, arith}
use Rattle.byteorder.specs.Endian.{little_number}
use Rattle.shore_frames.specs.Frames.{frame_head}
use Rattle.shore_frames.proofs.OffsetLemmas.{head_takes}
use Rattle.shore_frames.proofs.reading.head_of.Goals as goal

pub returns : goal.returns
returns c =
    let len = c.split_at.result.0.now in
    ap (λ (k : ℕ). frame_head k c.read_u64.result) c.read_u32.ensures ∙ ap (λ (k : ℕ). frame_head (little_number 4 len) k) c.read_u64.ensures
    ∙ head_takes c.args.bytes.now len c.split_at.result.1.now c.split_at.ensures.front c.split_at.ensures.back c.requires (λ i. omega (arith, c.type_inv.bytes i))

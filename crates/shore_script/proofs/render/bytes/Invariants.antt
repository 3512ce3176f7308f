use Rattle.std.proofs.Common.{◌≡◌, ℕ, List, ◌++◌}
use Rattle.std.specs.Io.KnownBytes.{Appends}
use Rattle.std.specs.Slice.Iter.{chunks_rest, chunks_size}
use Rattle.hex.specs.Hex.{encode_lower}
use Rattle.shore_script.proofs.render.bytes.Given as goal

abbrev pub invariant-loop-part : goal.invariant-loop-part
invariant-loop-part g l =
    (done : List ℕ) × (l.found ≡ done ++ chunks_rest l.part-iterator) × (chunks_size l.part-iterator ≡ 64) × Appends (g.W.Write.contents l.initial.out) (g.W.Write.contents l.out) (encode_lower done)

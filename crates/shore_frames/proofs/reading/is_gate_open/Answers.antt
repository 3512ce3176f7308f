use Rattle.std.proofs.Common.{◌≡◌, ◌+◌, [], ◌∷◌, ◌++◌, ℕ, List, length, get_or, drop, refl, ap, ◌∙◌, arith}
use Rattle.shore_frames.specs.Streams.{view_of}
use Rattle.shore_frames.proofs.OffsetLemmas.{piece}
use Rattle.shore_frames.proofs.reading.is_gate_open.Goals as goal

one_byte : (out : List ℕ) → length out ≡ 1 → out ≡ get_or out 0 0 ∷ []
one_byte [] is = absurd (omega arith)
one_byte (b ∷ []) is = refl
one_byte (b ∷ d ∷ out) is = absurd (omega arith)

pub returns-clause-gate : goal.returns-clause-gate
returns-clause-gate g c honest =
    let bytes = view_of c.args.view.now (g.D.Disk.history c.args.device.now) in
    let out = c.read.new.out in
    let long : length out ≡ 1 = omega (arith, c.read.auto.out) in
    (get_or out 0 0, piece bytes out c.args.at 1 c.args.at (c.args.at + 1) (c.in_ok-read.ensures.read honest) (omega arith) (omega arith) ∙ ap (λ (l : List ℕ). l ++ drop (c.args.at + 1) bytes) (one_byte out long), c.is_open.ensures)

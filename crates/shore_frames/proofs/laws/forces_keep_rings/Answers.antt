use Rattle.std.proofs.Common.{◌≡◌, ◌+◌, ◌++◌, ◌∷◌, [], ap, ◌∙◌, arith, length, drop, append_assoc, length-append}
use Rattle.shore_frames.specs.Frames.{behind_gate, number_behind, text}
use Rattle.shore_frames.proofs.FrameLemmas.{length-behind_gate}
use Rattle.shore_logrec.specs.Text.{texts}
use Rattle.shore_frames.proofs.RingFrames.{behind_gate_written, open_torn, ring_opened, stage_torn}
use Rattle.shore_frames.proofs.laws.forces_keep_rings.Goals as goal

pub returns-clause-stage : goal.returns-clause-stage
returns-clause-stage c front image new tail place n gs is some r fits torn = stage_torn front image is tail place some gs r n new fits torn

pub returns-clause-staged : goal.returns-clause-staged
returns-clause-staged c image new tail place gs g some r fits w =
    let bytes = behind_gate (number_behind tail gs) (texts g) ++ 0 ∷ [] in
    let long : length bytes ≡ 13 + length (texts g) = omega (arith, length-append (behind_gate (number_behind tail gs) (texts g)) (0 ∷ []), length-behind_gate (number_behind tail gs) (texts g)) in (
      drop (length bytes) r.rest,
      behind_gate_written image tail place some gs new bytes w (omega arith) r
          ∙ ap (λ l. text tail gs ++ r.gate ∷ l) (append_assoc (behind_gate (number_behind tail gs) (texts g)) (0 ∷ []) (drop (length bytes) r.rest)),
    )

pub returns-clause-open : goal.returns-clause-open
returns-clause-open c front image new tail place gs g gate rest is some are stands fits torn = open_torn front image is tail place some gs g are gate rest stands fits new torn

pub returns-clause-opened : goal.returns-clause-opened
returns-clause-opened c image new tail place gs g gate rest some are stands fits w = ring_opened image tail place some gs g are gate rest stands fits new w

use Rattle.std.proofs.Common.{◌++◌, ◌∷◌, [], List, ℕ, ap, ◌∙◌}
use Rattle.shore_frames.specs.Frames.{behind_gate}
use Rattle.shore_log.proofs.group.frame_bytes.Goals as goal

pub returns-clause-spelled : goal.returns-clause-spelled
unfolding behind_gate
returns-clause-spelled c =
    let first = c.in_ok-extend_from_slice.ensures.items ∙ ap (λ (l : List ℕ). l ++ c.head.result) (c.in_ok-reserve.ensures.items ∙ c.clear.ensures.items) ∙ c.head.ensures in
    c.in_ok-push.ensures.items ∙ ap (λ (l : List ℕ). l ++ 0 ∷ []) (c.in_ok-extend_from_slice-2.ensures.items ∙ ap (λ (l : List ℕ). l ++ c.args.texts.now) first)

-- A write on an image that is given in parts.
use Rattle.std.proofs.Common.{◌≡◌, ℕ, ◌+◌, List, ◌++◌, length, drop, sym, ◌∙◌, ap, append_assoc}
use Rattle.std.proofs.lemmas.List.{take_at, drop_at, drop-drop}
use Rattle.shore_disk.specs.Device.{overwritten}

-- the bytes stand behind the front, and what they don't reach of the rest behind them
pub overwritten-append : (front rest : List ℕ) (at : ℕ) (bytes : List ℕ) → length front ≡ at → overwritten (front ++ rest) at bytes ≡ front ++ (bytes ++ drop (length bytes) rest)
overwritten-append front rest at bytes long =
    ap (λ (l : List ℕ). l ++ bytes ++ drop (at + length bytes) (front ++ rest)) (take_at front rest at long)
    ∙ ap (λ (l : List ℕ). front ++ bytes ++ l) (sym (drop-drop (length bytes) at (front ++ rest)) ∙ ap (drop (length bytes)) (drop_at front rest at long))
    ∙ append_assoc front bytes (drop (length bytes) rest)

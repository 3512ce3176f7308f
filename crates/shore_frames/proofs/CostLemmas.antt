-- What frames take of a stream, and what their records cost.
use Rattle.std.proofs.Common.{◌≡◌, ◌≤◌, ◌+◌, ◌*◌, ℕ, List, [], ◌∷◌, refl, sym, length, take, drop, arith, length-append}
use Rattle.std.specs.List.{sum_by}
use Rattle.std.proofs.lemmas.List.{length-take-le}
use Rattle.std.proofs.lemmas.List.Sums.{sum_by-append, sum_by-take-drop}
use Rattle.shore_logrec.specs.Text.{cost_of, texts, text as record_text}
use Rattle.shore_logrec.proofs.TextLengths.{length-text}
use Rattle.shore_model.specs.declared.log_records.LogRecord.{LogRecord}
use Rattle.shore_frames.specs.Frames.{AreGroups, behind_gate, joined, text}
use Rattle.shore_frames.proofs.FrameLemmas.{length-behind_gate}

abbrev costs : List LogRecord → ℕ
costs rs = sum_by (λ r. cost_of r.payload) rs

-- a record costs its text and a frame's share
pub cost_texts : (rs : List LogRecord) → costs rs ≡ length (texts rs) + 13 * length rs
cost_texts [] = refl
cost_texts (r ∷ rs) =
    let first : costs (r ∷ rs) ≡ costs (r ∷ []) + costs rs = sum_by-append (λ r. cost_of r.payload) (r ∷ []) rs in
    let alone : costs (r ∷ []) ≡ cost_of r.payload = omega arith in
    let cost : cost_of r.payload ≡ 13 + length (record_text r) = omega (arith, length-text r) in
    let long : length (texts (r ∷ rs)) ≡ length (record_text r) + length (texts rs) = length-append (record_text r) (texts rs) in
    omega (arith, first, alone, cost, long, cost_texts rs)

-- what has texts has a record
some_records : (rs : List LogRecord) → 1 ≤ length (texts rs) → 1 ≤ length rs
some_records [] some = absurd (omega (arith, some))
some_records (r ∷ rs) some = omega arith

-- frames take no more than their records cost
pub frames_cost : (n : ℕ) (gs : List (List LogRecord)) → AreGroups n gs → length (text n gs) ≤ costs (joined gs)
frames_cost n [] are = omega arith
frames_cost n (g ∷ gs) are =
    omega (
      arith,
      length-append (behind_gate n (texts g)) (text (n + length g) gs),
      length-behind_gate n (texts g),
      sum_by-append (λ r. cost_of r.payload) g (joined gs),
      cost_texts g,
      some_records g are.0.some,
      frames_cost (n + length g) gs are.1,
    )

-- the next frame, with a closed gate behind it, lies between the head and the tail
pub next_fits : (n : ℕ) (gs : List (List LogRecord)) (waiting : List LogRecord) (count reserved stream_bytes : ℕ) → AreGroups n gs → 1 ≤ count → count ≤ length waiting
    → costs (joined gs) + costs waiting + reserved + 1 ≤ stream_bytes
    → length (text n gs) + 1 + (13 + length (texts (take count waiting))) ≤ stream_bytes
next_fits n gs waiting count reserved stream_bytes are some within room =
    let parts : costs waiting ≡ costs (take count waiting) + costs (drop count waiting) = sym (sum_by-take-drop (λ r. cost_of r.payload) waiting count) in
    omega (arith, room, frames_cost n gs are, parts, cost_texts (take count waiting), length-take-le count waiting within)

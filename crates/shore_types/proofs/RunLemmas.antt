-- A run of records that goes onto a list of pairs.
use Rattle.std.proofs.Common.{◌≡◌, ◌≤◌, ◌<◌, ◌+◌, ◌-◌, ℕ, suc, List, [], ◌∷◌, ◌++◌, length, take, drop, get_or, None, Some, refl, sym, ap, subst, ◌∙◌, arith}
use Rattle.std.specs.List.{between, sum_by}
use Rattle.std.proofs.lemmas.List.{append_assoc, append-nil, drop-drop, length-append, length-drop, length-take-le}
use Rattle.std.proofs.lemmas.List.Sums.{sum_by-cons}
use Rattle.std.proofs.Math.Seq.{drop-append_seam, drop-cons}
use Rattle.shore_types.specs.declared.ids.PageId.{PageId}
use Rattle.shore_types.specs.declared.ids.Rid.{Rid}
use Rattle.shore_types.specs.Images.{Image, image_len}
use Rattle.shore_types.specs.Pairs.{AreEnds, pairs_in}
use Rattle.shore_types.specs.Runs.{IsRun, ends_from, records_from}
use Rattle.shore_types.proofs.PairLemmas.{below, between_kept}

-- a run has the bytes of its records, and no more
pub run_bytes : (bytes : List ℕ) (images : List Image) → IsRun bytes images → length bytes ≡ sum_by image_len images
run_bytes bytes [] h = ap (λ (l : List ℕ). length l) h
run_bytes bytes (None ∷ rest) h = absurd h
run_bytes bytes (Some image ∷ rest) h =
    let more = run_bytes (drop (length image) bytes) rest h.2 in
    omega (arith, h.0, more, length-drop (length image) bytes, sum_by-cons image_len (Some image) rest)

-- ends behind ends
pub ends_behind : (from : ℕ) (ends more : List (Rid × ℕ)) (last end : ℕ) → AreEnds from ends last → AreEnds last more end → AreEnds from (ends ++ more) end
ends_behind from [] more last end h g = subst (λ (n : ℕ). AreEnds n more end) (sym h) g
ends_behind from (e ∷ rest) more last end h g = (h.0, ends_behind e.1 rest more last end h.1 g)

-- pairs behind pairs
pub pairs_behind : (all : List ℕ) (from : ℕ) (ends more : List (Rid × ℕ)) (last : ℕ) → AreEnds from ends last → pairs_in all from (ends ++ more) ≡ pairs_in all from ends ++ pairs_in all last more
pairs_behind all from [] more last h = ap (λ (n : ℕ). pairs_in all n more) h
pairs_behind all from (e ∷ rest) more last h = ap (λ l. (e.0, between from e.1 all) ∷ l) (pairs_behind all e.1 rest more last h.1)

-- pairs stay as they are if more bytes come behind
pub pairs_kept : (bytes more : List ℕ) (from : ℕ) (ends : List (Rid × ℕ)) → AreEnds from ends (length bytes) → pairs_in (bytes ++ more) from ends ≡ pairs_in bytes from ends
pairs_kept bytes more from [] h = refl
pairs_kept bytes more from (e ∷ rest) h =
    ap (λ image. (e.0, image) ∷ pairs_in (bytes ++ more) e.1 rest) (between_kept from e.1 bytes more h.0 (below e.1 rest (length bytes) h.1))
    ∙ ap (λ l. (e.0, between from e.1 bytes) ∷ l) (pairs_kept bytes more e.1 rest h.1)

-- the ends of a run, up to the end of all bytes
pub run_ends : (all : List ℕ) (id : PageId) (slot from : ℕ) (images : List Image) → from ≤ length all → IsRun (drop from all) images → AreEnds from (ends_from id slot from images) (length all)
run_ends all id slot from [] inside run = omega (arith, inside, length-drop from all, ap (λ (l : List ℕ). length l) run)
run_ends all id slot from (None ∷ rest) inside run = absurd run
run_ends all id slot from (Some image ∷ rest) inside run = (
  omega arith,
  run_ends all id (slot + 1) (from + length image) rest (omega (arith, inside, run.0, length-drop from all)) (subst (λ (l : List ℕ). IsRun l rest) (drop-drop (length image) from all) run.2),
)

-- its pairs are the records
pub run_pairs : (all : List ℕ) (id : PageId) (slot from : ℕ) (images : List Image) → from ≤ length all → IsRun (drop from all) images → pairs_in all from (ends_from id slot from images) ≡ records_from id slot images
run_pairs all id slot from [] inside run = refl
run_pairs all id slot from (None ∷ rest) inside run = absurd run
run_pairs all id slot from (Some image ∷ rest) inside run =
    let count : from + length image - from ≡ length image = omega arith in
    ap (λ (l : List ℕ). (record { page = id; slot = slot }, l) ∷ pairs_in all (from + length image) (ends_from id (slot + 1) (from + length image) rest)) (ap (λ (n : ℕ). take n (drop from all)) count ∙ run.1)
    ∙ ap (λ l. (record { page = id; slot = slot }, image) ∷ l)
    (run_pairs all id (slot + 1) (from + length image) rest (omega (arith, inside, run.0, length-drop from all)) (subst (λ (l : List ℕ). IsRun l rest) (drop-drop (length image) from all) run.2))

-- one end more
pub end_more : (id : PageId) (slot from : ℕ) (images : List Image) → slot < length images
    → ends_from id slot from (drop slot images) ≡ (record { page = id; slot = slot }, from + image_len (get_or images slot None)) ∷ ends_from id (slot + 1) (from + image_len (get_or images slot None)) (drop (slot + 1) images)
end_more id slot from images inside =
    let next : suc slot ≡ slot + 1 = omega arith in
    ap (λ (l : List Image). ends_from id slot from l) (drop-cons images slot None inside ∙ ap (λ (n : ℕ). get_or images slot None ∷ drop n images) next)

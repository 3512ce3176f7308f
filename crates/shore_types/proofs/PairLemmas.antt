-- Pairs whose bytes lie behind each other.
use Rattle.std.proofs.Common.{◌≡◌, ◌≤◌, ◌<◌, ◌+◌, ◌-◌, ℕ, zero, suc, List, [], ◌∷◌, ◌++◌, length, take, drop, get_or, Some, refl, sym, ap, subst, ◌∙◌, arith}
use Rattle.std.specs.List.{between, slice_get}
use Rattle.std.proofs.lemmas.List.{length-drop, length-take-le, take-append-le, drop-append-le, take-append-drop, take_all, drop_all, drop-drop}
use Rattle.std.proofs.Math.Seq.{drop-append_seam}
use Rattle.shore_types.specs.declared.ids.Rid.{Rid}
use Rattle.shore_types.specs.Pairs.{AreEnds, begin_in, pairs_in}

pub below : (from : ℕ) (ends : List (Rid × ℕ)) (last : ℕ) → AreEnds from ends last → from ≤ last
below from [] last h = omega (arith, h)
below from (e ∷ rest) last h = let more = below e.1 rest last h.1 in omega (arith, h.0, more)

pub length_in : (bytes : List ℕ) (from : ℕ) (ends : List (Rid × ℕ)) → length (pairs_in bytes from ends) ≡ length ends
length_in bytes from [] = refl
length_in bytes from (e ∷ rest) = ap suc (length_in bytes e.1 rest)

pub pushed_ends : (from : ℕ) (ends : List (Rid × ℕ)) (last : ℕ) (id : Rid) (end : ℕ) → AreEnds from ends last → last ≤ end → AreEnds from (ends ++ (id, end) ∷ []) end
pushed_ends from [] last id end h more = (omega (arith, h, more), refl)
pushed_ends from (e ∷ rest) last id end h more = (h.0, pushed_ends e.1 rest last id end h.1 more)

-- what lies before the end of a list is the same if more is behind it
pub between_kept : (a b : ℕ) (xs ys : List ℕ) → a ≤ b → b ≤ length xs → between a b (xs ++ ys) ≡ between a b xs
between_kept a b xs ys order inside =
    let long = length-drop a xs in
    ap (take (b - a)) (drop-append-le a xs ys (omega (arith, order, inside)))
    ∙ take-append-le (b - a) (drop a xs) ys (omega (arith, order, inside, long))

between_last : (xs ys : List ℕ) → between (length xs) (length xs + length ys) (xs ++ ys) ≡ ys
between_last xs ys =
    ap (take (length xs + length ys - length xs)) (drop-append_seam xs ys)
    ∙ take_all (length xs + length ys - length xs) ys (omega arith)

pub pushed_pairs : (bytes more : List ℕ) (from : ℕ) (ends : List (Rid × ℕ)) (id : Rid) → AreEnds from ends (length bytes)
    → pairs_in (bytes ++ more) from (ends ++ (id, length bytes + length more) ∷ []) ≡ pairs_in bytes from ends ++ (id, more) ∷ []
pushed_pairs bytes more from [] id h =
    ap (λ image. (id, image) ∷ []) (ap (λ n. between n (length bytes + length more) (bytes ++ more)) h ∙ between_last bytes more)
pushed_pairs bytes more from (e ∷ rest) id h =
    ap (λ image. (e.0, image) ∷ pairs_in (bytes ++ more) e.1 (rest ++ (id, length bytes + length more) ∷ [])) (between_kept from e.1 bytes more h.0 (below e.1 rest (length bytes) h.1))
    ∙ ap (λ list. (e.0, between from e.1 bytes) ∷ list) (pushed_pairs bytes more e.1 rest id h.1)

pub begin_next : (from : ℕ) (ends : List (Rid × ℕ)) (index : ℕ) (d : Rid × ℕ) → index < length ends → begin_in from ends (suc index) ≡ (get_or ends index d).1
begin_next from [] index d h = absurd (omega (arith, h))
begin_next from (e ∷ rest) zero d h = refl
begin_next from (e ∷ rest) (suc index) d h = begin_next e.1 rest index d (omega (arith, h))

pub begin_before : (from : ℕ) (ends : List (Rid × ℕ)) (last index : ℕ) (d : Rid × ℕ) → AreEnds from ends last → index < length ends
    → (begin_in from ends index ≤ (get_or ends index d).1) × ((get_or ends index d).1 ≤ last)
begin_before from [] last index d h inside = absurd (omega (arith, inside))
begin_before from (e ∷ rest) last zero d h inside = (h.0, below e.1 rest last h.1)
begin_before from (e ∷ rest) last (suc index) d h inside = begin_before e.1 rest last index d h.1 (omega (arith, inside))

pub pair_at : (bytes : List ℕ) (from : ℕ) (ends : List (Rid × ℕ)) (index : ℕ) (d : Rid × ℕ) → index < length ends
    → Some ((get_or ends index d).0, between (begin_in from ends index) (get_or ends index d).1 bytes) ≡ slice_get (pairs_in bytes from ends) index
pair_at bytes from [] index d inside = absurd (omega (arith, inside))
pair_at bytes from (e ∷ rest) zero d inside = refl
pair_at bytes from (e ∷ rest) (suc index) d inside = pair_at bytes e.1 rest index d (omega (arith, inside))

part_and_rest : (a b : ℕ) (xs : List ℕ) → a ≤ b → drop a xs ≡ between a b xs ++ drop b xs
part_and_rest a b xs order =
    sym (take-append-drop (b - a) (drop a xs)) ∙ ap (λ l. between a b xs ++ l) (drop-drop (b - a) a xs ∙ ap (λ n. drop n xs) (omega (arith, order)))

length-between : (a b : ℕ) (xs : List ℕ) → a ≤ b → b ≤ length xs → length (between a b xs) ≡ b - a
length-between a b xs order inside = let long = length-drop a xs in length-take-le (b - a) (drop a xs) (omega (arith, order, inside, long))

ends_same : (from a b m n : ℕ) → m ≡ n → m ≡ a - from → n ≡ b - from → from ≤ a → from ≤ b → a ≡ b
ends_same from a b m n same left right p q = omega (arith, same, left, right, p, q)

-- lists of the same pairs have the same ends, and the same bytes
pub same_parts : (x y : List ℕ) (from : ℕ) (a b : List (Rid × ℕ)) → AreEnds from a (length x) → AreEnds from b (length y) → pairs_in x from a ≡ pairs_in y from b
    → (a ≡ b) × (drop from x ≡ drop from y)
same_parts x y from [] [] h g same = (refl, drop_all from x (omega (arith, h)) ∙ sym (drop_all from y (omega (arith, g))))
same_parts x y from [] (f ∷ fs) h g same = absurd cc
same_parts x y from (e ∷ es) [] h g same = absurd cc
same_parts x y from (e ∷ es) (f ∷ fs) h g same =
    let head = ap (λ l. get_or l 0 (e.0, between from e.1 x)) same in
    let ids : e.0 ≡ f.0 = ap (λ p. p.0) head in
    let parts : between from e.1 x ≡ between from f.1 y = ap (λ p. p.1) head in
    let left = length-between from e.1 x h.0 (below e.1 es (length x) h.1) in
    let right = length-between from f.1 y g.0 (below f.1 fs (length y) g.1) in
    let last : e.1 ≡ f.1 = ends_same from e.1 f.1 _ _ (ap (λ (l : List ℕ). length l) parts) left right h.0 g.0 in
    let tails : pairs_in x e.1 es ≡ pairs_in y f.1 fs = ap (λ l. drop 1 l) same in
    let more = same_parts x y e.1 es fs h.1 (subst (λ n. AreEnds n fs (length y)) (sym last) g.1) (tails ∙ ap (λ n. pairs_in y n fs) (sym last)) in (
      λ i. (ids i, last i) ∷ more.0 i,
      part_and_rest from e.1 x h.0 ∙ ap (λ l. l ++ drop e.1 x) parts ∙ ap (λ l. between from f.1 y ++ l) (more.1 ∙ ap (λ n. drop n y) last) ∙ sym (part_and_rest from f.1 y g.0),
    )

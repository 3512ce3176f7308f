-- Texts that are compared.
use Rattle.std.proofs.Common.{◌≡◌, ◌≢◌, ℕ, List, [], ◌∷◌, Bool, true, false, cond, refl, sym, ap, subst, ◌∙◌, ⊎_elim}
use Rattle.std.specs.Prelude.{nat_eq, ◌==◌, ◌&&◌, Option, Some}
use Rattle.std.specs.Cmp.Lexicographic.{pointwise}
use Rattle.std.proofs.lemmas.Bool.{eq-eqb, eqb-true}
use Rattle.shore_keys.specs.Nodes.{Entry}
use Rattle.shore_keys.specs.Trees.{look_in}

pub same_text : (xs : List ℕ) → pointwise nat_eq xs xs ≡ true
same_text [] = refl
same_text (x ∷ xs) = ap (λ b. b && pointwise nat_eq xs xs) (eq-eqb x x refl) ∙ same_text xs

and_true : (a b : Bool) → (a && b) ≡ true → (a ≡ true) × (b ≡ true)
and_true true b h = (refl, h)
and_true false b h = absurd cc

pub same_texts : (xs ys : List ℕ) → pointwise nat_eq xs ys ≡ true → xs ≡ ys
same_texts [] [] h = refl
same_texts [] (y ∷ ys) h = cc
same_texts (x ∷ xs) [] h = cc
same_texts (x ∷ xs) (y ∷ ys) h =
    let both = and_true (x == y) (pointwise nat_eq xs ys) h in
    ap (λ (z : ℕ). z ∷ xs) (eqb-true x y both.0) ∙ ap (λ zs. y ∷ zs) (same_texts xs ys both.1)

-- if a test of two texts has this outcome ..
pub other_texts : (xs ys : List ℕ) → xs ≢ ys → pointwise nat_eq xs ys ≡ false
other_texts xs ys apart = of (pointwise nat_eq xs ys) refl
  where
    of : (b : Bool) → pointwise nat_eq xs ys ≡ b → pointwise nat_eq xs ys ≡ false
    of true e = absurd (apart (same_texts xs ys e))
    of false e = e

pub look-other : (e : Entry) (es : List Entry) (key : List ℕ) → e.0 ≢ key → look_in (e ∷ es) key ≡ look_in es key
look-other e es key apart = ap (λ b. cond b (Some (e.1, e.2)) (look_in es key)) (other_texts e.0 key apart)

pub look-same : (e : Entry) (es : List Entry) (key : List ℕ) → e.0 ≡ key → look_in (e ∷ es) key ≡ Some (e.1, e.2)
look-same e es key is = ap (λ b. cond b (Some (e.1, e.2)) (look_in es key)) (ap (λ k. pointwise nat_eq k key) is ∙ same_text key)

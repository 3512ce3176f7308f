-- Texts that are cut at a character.
use Rattle.std.proofs.Common.{◌≡◌, ◌≢◌, ℕ, suc, ◌<◌, true, false, eqb, List, [], ◌∷◌, ◌++◌, length, get_or, drop, refl, sym, ap, ◌∙◌, subst, MatchOption, Option, None, Some, arith}
use Rattle.std.specs.Borrow.{Bor}
use Rattle.std.specs.List.{list_any}
use Rattle.std.proofs.lemmas.Str.Pattern.{IsSplitOnceResult, split_parts}

-- the text has no such character
abbrev pub Lacks : ℕ → List ℕ → Type 0
Lacks c text = list_any (λ b. eqb b c) text ≡ false

Lacks-head : (c x : ℕ) (xs : List ℕ) → Lacks c (x ∷ xs) → x ≢ c
Lacks-head c x xs h e = grind (arith)

Lacks-tail : (c x : ℕ) (xs : List ℕ) → Lacks c (x ∷ xs) → Lacks c xs
Lacks-tail c x xs h = grind (arith)

pub Lacks-cons : (c x : ℕ) (xs : List ℕ) → x ≢ c → Lacks c xs → Lacks c (x ∷ xs)
Lacks-cons c x xs ne h = grind (arith)

pub Lacks-append : (c : ℕ) (xs ys : List ℕ) → Lacks c xs → Lacks c ys → Lacks c (xs ++ ys)
Lacks-append c [] ys h k = k
Lacks-append c (x ∷ xs) ys h k =
    Lacks-cons c x (xs ++ ys) (Lacks-head c x xs h) (Lacks-append c xs ys (Lacks-tail c x xs h) k)

pub Lacks-by_index : (c : ℕ) (xs : List ℕ) → ((i : ℕ) → i < length xs → get_or xs i 0 ≢ c) → Lacks c xs
Lacks-by_index c [] h = refl
Lacks-by_index c (x ∷ xs) h =
    Lacks-cons c x xs (h 0 (omega arith)) (Lacks-by_index c xs (λ i lt. h (suc i) (omega arith)))

-- a text in which the character stands
pub holds_cut : (c : ℕ) (a b : List ℕ) → Lacks c (a ++ (c ∷ b)) → ⊥
holds_cut c [] b h = Lacks-head c c b h refl
holds_cut c (x ∷ a) b h = holds_cut c a b (Lacks-tail c x (a ++ (c ∷ b)) h)

cons-head : {x y : ℕ} {xs ys : List ℕ} → x ∷ xs ≡ y ∷ ys → x ≡ y
cons-head {x} e = ap (λ (l : List ℕ). get_or l 0 x) e

cons-tail : {x y : ℕ} {xs ys : List ℕ} → x ∷ xs ≡ y ∷ ys → xs ≡ ys
cons-tail e = ap (λ (l : List ℕ). drop 1 l) e

-- a text is cut at its first such character in one way
pub cut_once : (c : ℕ) (a b p q : List ℕ) → Lacks c a → Lacks c p → a ++ (c ∷ b) ≡ p ++ (c ∷ q) → (a ≡ p) × (b ≡ q)
cut_once c [] b [] q h k e = (refl, cons-tail e)
cut_once c [] b (y ∷ p) q h k e = absurd (Lacks-head c y p k (sym (cons-head e)))
cut_once c (x ∷ a) b [] q h k e = absurd (Lacks-head c x a h (cons-head e))
cut_once c (x ∷ a) b (y ∷ p) q h k e =
    let rest = cut_once c a b p q (Lacks-tail c x a h) (Lacks-tail c y p k) (cons-tail e) in
    let head : x ≡ y = cons-head e in
    (cc, rest.1)

-- what `split_once` gives at a character
abbrev pub IsCut : ℕ → List ℕ → Option (Bor (List ℕ) × Bor (List ℕ)) → Type 0
IsCut c text found = MatchOption found (Lacks c text) (λ x. (text ≡ x.0.now ++ (c ∷ x.1.now)) × Lacks c x.0.now)

pub is_cut : (c : ℕ) (text : List ℕ) (found : Option (Bor (List ℕ) × Bor (List ℕ))) → IsSplitOnceResult c text found → c < 128 → IsCut c text found
is_cut c text None split ascii = Lacks-by_index c text (split_parts c text None split ascii)
is_cut c text (Some x) split ascii =
    let parts = split_parts c text (Some x) split ascii in
    (parts.0, Lacks-by_index c x.0.now parts.1)

pub lacks_at : (c : ℕ) (text : List ℕ) (found : Option (Bor (List ℕ) × Bor (List ℕ))) → IsSplitOnceResult c text found → c < 128 → found ≡ None → Lacks c text
lacks_at c text found split ascii none = subst (IsCut c text) none (is_cut c text found split ascii)

pub cuts_at : (c : ℕ) (text : List ℕ) (found : Option (Bor (List ℕ) × Bor (List ℕ))) → IsSplitOnceResult c text found → c < 128 → (a b : Bor (List ℕ)) → found ≡ Some (a, b)
    → (text ≡ a.now ++ (c ∷ b.now)) × Lacks c a.now
cuts_at c text found split ascii a b some = subst (IsCut c text) some (is_cut c text found split ascii)

pub empty_text : (text : List ℕ) → eqb (length text) 0 ≡ true → text ≡ []
empty_text [] h = refl
empty_text (x ∷ text) h = grind (arith)

pub some_text : (text : List ℕ) → eqb (length text) 0 ≡ false → text ≢ []
some_text text h e = let none : eqb (length text) 0 ≡ true = ap (λ (l : List ℕ). eqb (length l) 0) e in cc (sym h ∙ none)

pub no_length : (text : List ℕ) → length text ≡ 0 → text ≡ []
no_length [] h = refl
no_length (x ∷ text) h = absurd (omega (arith, h))

pub has_length : (text : List ℕ) → eqb (length text) 0 ≡ false → 0 < length text
has_length [] h = absurd (some_text [] h refl)
has_length (x ∷ text) h = omega arith

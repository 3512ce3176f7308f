-- Those in doubt, the oldest first, as a walk over the table finds them.
use Rattle.std.proofs.Common.{◌≡◌, ◌+◌, ◌<◌, ◌≤◌, ℕ, zero, suc, List, [], ◌∷◌, ◌++◌, Option, None, Some, get_or, length, map, reverse, take, refl, sym, ap, ◌∙◌, arith}
use Rattle.std.specs.List.{cons_option, filter_map}
use Rattle.std.specs.Option.{option_map}
use Rattle.std.proofs.lemmas.List.{append-nil, map-append, reverse-append, reverse-reverse, take_more}
use Rattle.std.proofs.lemmas.List.Elements.{filter_map-append}
use Rattle.laws_lives.specs.Sessions.{PreparedTxn}
use Rattle.shore_txn.specs.ActiveTxns as active
use Rattle.shore_txn.specs.Txns.{as_prepared, prepared_of}
use Rattle.shore_txn.specs.declared.active.ActiveTxn.{ActiveTxn}
use Rattle.shore_txn.specs.declared.txn.Txn.{Txn}

abbrev pub named : PreparedTxn → List ℕ × ℕ
named p = (p.global, p.txn)

-- those in doubt of a list that has the oldest first
abbrev pub doubts_in_turn : List ActiveTxn → List (List ℕ × ℕ)
doubts_in_turn items = map named (prepared_of (map (λ (a : ActiveTxn). a.txn) items))

filter_map-reverse : {X Y : Type 0} (h : X → Option Y) (xs : List X) → filter_map h (reverse xs) ≡ reverse (filter_map h xs)
filter_map-reverse h [] = refl
filter_map-reverse {X} {Y} h (x ∷ xs) =
    ap (filter_map h) (reverse-append (x ∷ []) xs) ∙ filter_map-append h (reverse xs) (x ∷ []) ∙ ap (λ ys. ys ++ filter_map h (x ∷ [])) (filter_map-reverse h xs) ∙ at (h x)
  where
    at : (o : Option Y) → reverse (filter_map h xs) ++ cons_option o [] ≡ reverse (cons_option o (filter_map h xs))
    at None = append-nil (reverse (filter_map h xs))
    at (Some y) = sym (reverse-append (y ∷ []) (filter_map h xs))

pub take_whole : {A : Type 0} (n : ℕ) (xs : List A) → length xs ≤ n → take n xs ≡ xs
take_whole zero [] least = refl
take_whole zero (x ∷ xs) least = absurd (omega arith)
take_whole (suc n) [] least = refl
take_whole (suc n) (x ∷ xs) least = ap (λ ys. x ∷ ys) (take_whole n xs (omega arith))

-- the walk has seen all
pub all_doubts : (items : List ActiveTxn) (n : ℕ) → length items ≤ n → doubts_in_turn (take n items) ≡ map named (reverse (prepared_of (active.txns_of items)))
all_doubts items n least =
    let txns : List Txn = map (λ (a : ActiveTxn). a.txn) items in
    ap doubts_in_turn (take_whole n items least)
    ∙ ap (map named) (ap prepared_of (sym (reverse-reverse (map (λ (a : ActiveTxn). a.txn) items))) ∙ filter_map-reverse as_prepared (active.txns_of items))

-- .. and one more
more_doubts : (items : List ActiveTxn) (i : ℕ) (a : ActiveTxn) → i < length items → get_or items i a ≡ a → doubts_in_turn (take (i + 1) items) ≡ doubts_in_turn (take i items) ++ map named (cons_option (as_prepared a.txn) [])
more_doubts items i a inside is =
    ap doubts_in_turn (take_more items i a inside ∙ ap (λ x. take i items ++ x ∷ []) is)
    ∙ ap (λ ts. map named (prepared_of ts)) (map-append (λ (x : ActiveTxn). x.txn) (take i items) (a ∷ []))
    ∙ ap (map named) (filter_map-append as_prepared (map (λ (x : ActiveTxn). x.txn) (take i items)) (a.txn ∷ []))
    ∙ map-append named (prepared_of (map (λ (x : ActiveTxn). x.txn) (take i items))) (cons_option (as_prepared a.txn) [])

pub one_doubt : (items : List ActiveTxn) (i : ℕ) (a : ActiveTxn) → i < length items → get_or items i a ≡ a → (pair : List ℕ × ℕ) → Some pair ≡ option_map named (as_prepared a.txn)
    → doubts_in_turn (take (i + 1) items) ≡ doubts_in_turn (take i items) ++ pair ∷ []
one_doubt items i a inside is pair found = more_doubts items i a inside is ∙ ap (λ ys. doubts_in_turn (take i items) ++ ys) (with_one (as_prepared a.txn) found)
  where
    with_one : (o : Option PreparedTxn) → Some pair ≡ option_map named o → map named (cons_option o []) ≡ pair ∷ []
    with_one None found = cc
    with_one (Some p) found = let same : pair ≡ named p = cc in ap (λ x. x ∷ []) (sym same)

pub no_doubt : (items : List ActiveTxn) (i : ℕ) (a : ActiveTxn) → i < length items → get_or items i a ≡ a → None ≡ option_map named (as_prepared a.txn) → doubts_in_turn (take (i + 1) items) ≡ doubts_in_turn (take i items)
no_doubt items i a inside is found = more_doubts items i a inside is ∙ with_none (as_prepared a.txn) found
  where
    with_none : (o : Option PreparedTxn) → None ≡ option_map named o → doubts_in_turn (take i items) ++ map named (cons_option o []) ≡ doubts_in_turn (take i items)
    with_none None found = append-nil (doubts_in_turn (take i items))
    with_none (Some p) found = cc

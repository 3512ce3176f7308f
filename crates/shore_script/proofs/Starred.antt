-- Words of bytes with a star, and without.
use Rattle.std.proofs.Common.{◌≡◌, ◌≢◌, inl, inr, ℕ, zero, suc, ◌^◌, ◌<◌, ◌≤◌, List, [], ◌∷◌, ◌++◌, length, get_or, sym, ap, subst, ◌∙◌, Option, None, Some, codes, arith}
use Rattle.std.specs.Fmt.{decimal}
use Rattle.std.proofs.lemmas.Fmt.{decimal_injective}
use Rattle.hex.specs.Hex.{IsBytes}
use Rattle.shore_script.specs.Bytes.{AreCopies, IsPair, IsPairs, SpellsBytes}
use Rattle.shore_script.specs.Ids.{IsNumber}
use Rattle.shore_script.specs.Reading.{Reads}
use Rattle.shore_script.proofs.Cuts.{Lacks, cut_once, holds_cut}
use Rattle.shore_script.proofs.Hexes.{encoded-lacks, encoded_once}

pub one_is_bytes : (byte : ℕ) → byte < 256 → IsBytes (byte ∷ [])
one_is_bytes byte small zero = small
one_is_bytes byte small (suc i) = omega arith

pub pair-lacks : (pair : List ℕ) (byte : ℕ) → IsPair pair byte → Lacks 42 pair
pair-lacks pair byte h = subst (Lacks 42) (sym h.0) (encoded-lacks 42 (omega arith) (byte ∷ []) (one_is_bytes byte h.1))

pub starred_reads : (word pair count : List ℕ) → word ≡ pair ++ (42 ∷ count) → Lacks 42 pair → word ≢ codes "-" → (found : Option (List ℕ))
    → Reads (AreCopies pair count) found → Reads (SpellsBytes word) found
starred_reads word pair count e lacks some None none = λ bytes h. elim h [
  | inl d ↦ some d.0
  | inr k ↦ elim k [
    | inl p ↦ holds_cut 42 pair count (subst (Lacks 42) (sym p.0 ∙ e) (encoded-lacks 42 (omega arith) bytes p.2))
    | inr s ↦
        let copies = s.3 in
        let cut = cut_once 42 pair count s.0 s.1 lacks (pair-lacks s.0 copies.0 copies.2) (sym e ∙ s.2) in
        none bytes (copies.0, copies.1, (cut.0 ∙ copies.2.0, copies.2.1), cut.1 ∙ copies.3, copies.4, copies.5, copies.6)
  ]
]
starred_reads word pair count e lacks some (Some bytes) h = inr (inr (pair, count, e, h))

pub plain_reads : (word : List ℕ) → Lacks 42 word → word ≢ codes "-" → (found : Option (List ℕ)) → Reads (IsPairs word) found → Reads (SpellsBytes word) found
plain_reads word lacks some None none = λ bytes h. elim h [
  | inl d ↦ some d.0
  | inr k ↦ elim k [
    | inl p ↦ none bytes p
    | inr s ↦ holds_cut 42 s.0 s.1 (subst (Lacks 42) s.2 lacks)
  ]
]
plain_reads word lacks some (Some bytes) h = inr (inl h)

-- the bytes of a pair are one
pub pair_is_one : (pair bytes : List ℕ) (byte : ℕ) → IsPairs pair bytes → IsPair pair byte → bytes ≡ byte ∷ []
pair_is_one pair bytes byte h k = encoded_once bytes (byte ∷ []) h.2 (one_is_bytes byte k.1) (sym h.0 ∙ k.0)

pub pair_of_one : (pair bytes : List ℕ) → IsPairs pair bytes → 1 ≤ length bytes → length bytes < 2 → IsPair pair (get_or bytes 0 0)
pair_of_one pair [] h some few = absurd (omega arith)
pair_of_one pair (byte ∷ []) h some few = (h.0, h.2 0)
pair_of_one pair (byte ∷ next ∷ bytes) h some few = absurd (omega arith)

pub pair_has_one : (pair bytes : List ℕ) (byte : ℕ) → IsPairs pair bytes → IsPair pair byte → length bytes ≡ 1
pair_has_one pair bytes byte h k = ap (λ (l : List ℕ). length l) (pair_is_one pair bytes byte h k)

-- a count below 1, or above the most
pub count_is_read_once : (count : List ℕ) (n m : ℕ) → IsNumber (2 ^ 64) count n → count ≡ decimal m → m ≤ 99999 → n ≡ m
count_is_read_once count n m h k low = decimal_injective n m h.1 (omega (arith, low)) (sym h.0 ∙ k)

-- How the script writes bytes.
use Rattle.std.specs.Prelude.{◌≡◌, ◌≢◌, ◌⊎◌, ◌&&◌, ◌++◌, ◌∷◌, ◌<◌, ◌≤◌, ℕ, Bool, List, [], codes, nat_le, replicate}
use Rattle.std.specs.Fmt.{decimal}
use Rattle.hex.specs.Hex.{IsBytes, encode_lower}
use Rattle.shore_script.specs.declared.words.TheConstants.{MOST_COPIES}

-- one of the letters A to F
abbrev pub is_upper : ℕ → Bool
is_upper c = nat_le 65 c && nat_le c 70

-- the digits of one byte, in lower case
abbrev pub IsPair : List ℕ → ℕ → Type 0
IsPair word byte = (word ≡ encode_lower (byte ∷ [])) × (byte < 256)

-- the digits of each byte, of one at least
abbrev pub IsPairs : List ℕ → List ℕ → Type 0
IsPairs word bytes = (word ≡ encode_lower bytes) × (bytes ≢ []) × IsBytes bytes

-- one byte, so many times
abbrev pub AreCopies : List ℕ → List ℕ → List ℕ → Type 0
AreCopies pair count bytes = (byte : ℕ) × (n : ℕ) × IsPair pair byte × (count ≡ decimal n) × (1 ≤ n) × (n ≤ MOST_COPIES) × (bytes ≡ replicate n byte)

-- `HH*N`
abbrev pub IsStarred : List ℕ → List ℕ → Type 0
IsStarred word bytes = (pair : List ℕ) × (count : List ℕ) × (word ≡ pair ++ (codes "*" ++ count)) × AreCopies pair count bytes

-- `-` for no bytes, pairs of digits, or `HH*N`
abbrev pub SpellsBytes : List ℕ → List ℕ → Type 0
SpellsBytes word bytes = ((word ≡ codes "-") × (bytes ≡ [])) ⊎ (IsPairs word bytes ⊎ IsStarred word bytes)

-- Numbers in bytes, the lowest byte first.
use Rattle.std.specs.Prelude.{Bool, ◌==◌, ℕ, zero, suc, ◌+◌, List, [], ◌∷◌, drop}
use Rattle.std.specs.List.{list_all}
use Rattle.byteorder.specs.Endian.{little_number}

-- the number of so many bytes at an offset
unfoldable pub number_at : List ℕ → ℕ → ℕ → ℕ
number_at bytes offset count = little_number count (drop offset bytes)

-- so many numbers of four bytes each, one after another
abbrev pub numbers_at : List ℕ → ℕ → ℕ → List ℕ
numbers_at bytes offset zero = []
numbers_at bytes offset (suc count) = number_at bytes offset 4 ∷ numbers_at bytes (offset + 4) count

-- whether each byte is zero
unfoldable pub are_zero : List ℕ → Bool
are_zero bytes = list_all (λ byte. byte == 0) bytes

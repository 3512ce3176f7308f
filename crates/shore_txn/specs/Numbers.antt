-- The number of a transaction's first record.
use Rattle.std.specs.Prelude.{◌==◌, ℕ, if◌then◌else◌}

-- that of the first, 0 for none, once a record more is logged under this number: it stays if there was one
abbrev pub first_with : ℕ → ℕ → ℕ
first_with first lsn = if first == 0 then lsn else first

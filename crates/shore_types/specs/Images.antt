-- What a record id or a slot may have.
use Rattle.std.specs.Prelude.{ℕ, List, Option, None, Some, length}

-- the bytes of a record, or that there is none
abbrev pub Image : Type 0
Image = Option (List ℕ)

-- no record has no bytes
abbrev pub image_len : Image → ℕ
image_len None = 0
image_len (Some bytes) = length bytes

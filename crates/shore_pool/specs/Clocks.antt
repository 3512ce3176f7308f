-- A clock: which of its places were used, and where its hand is.
use Rattle.std.specs.Prelude.{ℕ, nat_lt, Bool, true, List, length, slice_index_or, Option, None, Some, if◌then◌else◌}
use Rattle.shore_pool.specs.declared.clock.Clock.{Clock}

abbrev pub places_of : Clock → ℕ
places_of clock = length clock.used.items

-- whether each place was used since the hand came by
abbrev pub marks_of : Clock → List Bool
marks_of clock = clock.used.items

-- a place, or the first behind the last
abbrev pub around : ℕ → ℕ → ℕ
around places place = if nat_lt place places then place else 0

abbrev pub hand_of : Clock → ℕ
hand_of clock = around (places_of clock) clock.hand

-- the place at the hand, if there is one and it was not used
abbrev pub place_passed : List Bool → ℕ → Option ℕ
place_passed marks hand = if slice_index_or marks hand true then None else Some hand

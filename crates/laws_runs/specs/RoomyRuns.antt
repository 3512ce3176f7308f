-- Managers one after another, each opened from the log that its restart left.
use Rattle.std.specs.Prelude.{ℕ, List, [], ◌∷◌}
use Rattle.shore_types.specs.declared.layout.Geometry.{Geometry}
use Rattle.laws_runs.specs.StoredRuns.{StoredRun}
use Rattle.laws_runs.specs.RoomyStates.{IsOpenedFrom}

-- each is opened from the log of its restart, over a stream of so many bytes
abbrev pub AreOpenedFrom : Geometry → ℕ → List StoredRun → Type 0
AreOpenedFrom g stream_bytes [] = Unit {0}
AreOpenedFrom g stream_bytes (r ∷ runs) = IsOpenedFrom g stream_bytes r.ready.log r.first × AreOpenedFrom g stream_bytes runs

-- Into which geometry a pair may move.
use Rattle.std.specs.Prelude.{◌≡◌, ◌≤◌, ℕ, IsSomeAnd, Some, slice_get}
use Rattle.shore_types.specs.Versions.{number_of}
use Rattle.shore_types.specs.declared.layout.Geometry.{Geometry}

-- Ids keep their meaning: the version is no lower, so each slot and each record has its room, and each store has as many pages at least. More stores may
-- stand after the last.
pub record MayMoveInto (old new : Geometry) : Type 0 where
  pub version : number_of old.version ≤ number_of new.version
  pub stores : (store pages : ℕ) → slice_get old.stores store ≡ Some pages → IsSomeAnd (slice_get new.stores store) (λ more. pages ≤ more)

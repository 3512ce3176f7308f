-- A transaction that may write records of a store, and asks for no more of the volume and of the store when it does.
use Rattle.std.specs.Prelude.{◌&&◌, ◌||◌, ℕ, List, Bool, Option, None, Some, IsTrue, false, not}
use Rattle.shore_types.specs.declared.locking.Granule.TheVariants.{Store, Volume}
use Rattle.shore_types.specs.declared.locking.Mode.{Mode}
use Rattle.shore_types.specs.declared.locking.Mode.TheVariants.{EX}
use Rattle.shore_model.specs.declared.requests.Request.{Request}
use Rattle.shore_model.specs.Modes.{covers, is_at_most, parent_mode}
use Rattle.shore_locks.specs.Tables.{mode_held}
use Rattle.shore_path.specs.Walks.{is_covered}

-- what is held, if anything, is as much as a mode below it asks for, and does not cover that
abbrev pub is_intention : Mode → Option Mode → Bool
is_intention mode None = false
is_intention mode (Some held) = is_at_most (parent_mode mode) held && not (covers held mode)

-- the transaction has the intention to write on the volume and on the store
abbrev pub IntendsToWrite : List Request → ℕ → ℕ → Type 0
IntendsToWrite rs t store = IsTrue (is_intention EX (mode_held t Volume rs)) × IsTrue (is_intention EX (mode_held t (Store store) rs))

-- what the transaction holds of the volume and of the store spares it the store's pages and records, and asks for nothing on the way
abbrev pub CoversRecords : List Request → ℕ → ℕ → Type 0
CoversRecords rs t store =
    IsTrue (is_covered EX (mode_held t Volume rs) || (is_intention EX (mode_held t Volume rs) && is_covered EX (mode_held t (Store store) rs)))

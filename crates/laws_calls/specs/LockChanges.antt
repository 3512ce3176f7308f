-- How the calls of sessions change the requests of the lock table.
use Rattle.std.specs.Prelude.{◌≡◌, ◌⊎◌, ℕ, List, Some}
use Rattle.shore_types.specs.declared.ids.Rid.{Rid}
use Rattle.shore_types.specs.declared.locking.Granule.{Granule}
use Rattle.shore_types.specs.declared.locking.Granule.TheVariants as granule
use Rattle.shore_types.specs.declared.locking.Mode.{Mode}
use Rattle.shore_types.specs.declared.locking.Mode.TheVariants.{EX}
use Rattle.shore_model.specs.declared.calls.Call.{Call}
use Rattle.shore_model.specs.declared.calls.Call.TheVariants as call
use Rattle.shore_model.specs.declared.requests.Request.{Request}
use Rattle.shore_cycles.specs.declared.victims.Victim.{Victim}
use Rattle.shore_deadlock.specs.Locking.{OnlyGrantsOthers}
use Rattle.shore_path.specs.Acquires.{GrowsAsAsked, NoneWeaker, OthersOnlyGranted}
use Rattle.laws_locks.specs.CallLocks.{Asked, lock_asked_by}

-- One transaction asks for a granule: the requests of others stay or are granted, its own grow along the path to it by the modes that are asked there, and
-- nobody's become weaker.
pub record TakesLock (rs : List Request) (t : ℕ) (target : Granule) (mode : Mode) (new : List Request) : Type 0 where
  pub others : OthersOnlyGranted rs new t
  pub own : GrowsAsAsked rs new t target mode
  pub none_weaker : NoneWeaker rs new

-- an insert asks for the lock of a place in its store, behind that of the store
pub record TakesPlace (rs : List Request) (t : ℕ) (c : Call) (lock : Asked) (new : List Request) : Type 0 where
  pub store : ℕ
  pub bytes : List ℕ
  pub id : Rid
  pub insert : c ≡ call.Insert store bytes
  pub of_store : id.page.store ≡ store
  pub between : List Request
  pub first : TakesLock rs t lock.granule lock.mode between
  pub place : TakesLock between t (granule.Record id) EX new

-- a call asks for its lock, or for those of a place
abbrev pub TakesAsAsked : List Request → ℕ → Call → List Request → Type 0
TakesAsAsked rs t c new = (lock : Asked) × (lock_asked_by c ≡ Some lock) × (TakesLock rs t lock.granule lock.mode new ⊎ TakesPlace rs t c lock new)

-- ---- of a call as a whole

-- an insert's locks grow to its store first, and then to a place in it
pub record GrowsToPlace (rs : List Request) (t : ℕ) (c : Call) (lock : Asked) (new : List Request) : Type 0 where
  pub store : ℕ
  pub bytes : List ℕ
  pub id : Rid
  pub insert : c ≡ call.Insert store bytes
  pub of_store : id.page.store ≡ store
  pub between : List Request
  pub first : GrowsAsAsked rs between t lock.granule lock.mode
  pub place : GrowsAsAsked between new t (granule.Record id) EX

-- The requests of others stay, or are granted, or are taken back if they are victims; the own ones grow along the path to the granule of the call's lock by the
-- modes that are asked there, however often it asked, and an insert's to a place too; and nobody's lock is weaker.
pub record ChangesLocks (rs : List Request) (t : ℕ) (c : Call) (vs : List Victim) (new : List Request) : Type 0 where
  pub others : OnlyGrantsOthers t vs rs new
  pub lock : Asked
  pub asked : lock_asked_by c ≡ Some lock
  pub own : GrowsAsAsked rs new t lock.granule lock.mode ⊎ GrowsToPlace rs t c lock new
  pub none_weaker : NoneWeaker rs new

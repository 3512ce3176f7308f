-- What a restore takes in a table in which nobody waits, and what it leaves if it is refused.
use Rattle.std.specs.Prelude.{◌≡◌, ◌≢◌, ℕ, List, Contains, IsSomeAnd, IsTrue, Some, false, true}
use Rattle.shore_types.specs.declared.faults.Fault.{Fault}
use Rattle.shore_types.specs.declared.faults.Fault.TheVariants as fault
use Rattle.shore_types.specs.declared.locking.Granule.{Granule}
use Rattle.shore_types.specs.declared.locking.Mode.{Mode}
use Rattle.shore_types.specs.declared.locking.Mode.TheVariants.{EX, IX}
use Rattle.shore_model.specs.declared.requests.Request.{Request}
use Rattle.shore_model.specs.Locks.{ancestors, path}
use Rattle.shore_model.specs.Modes.{grants, parent_mode}
use Rattle.shore_locks.specs.Grants.{is_enough, is_full, wanted_mode}
use Rattle.shore_locks.specs.Laws.{of_others}
use Rattle.shore_locks.specs.Tables.{Table, is_waiting, mode_held}
use Rattle.shore_path.specs.Rooted.{AreRooted}

abbrev pub NobodyWaits : List Request → Type 0
NobodyWaits rs = (t : ℕ) → is_waiting t rs ≡ false

-- on each of these granules the transaction holds IX, joined to what it held there, and nothing else that anybody holds has changed
pub record TakesIntentions (rs new : List Request) (t : ℕ) (gs : List Granule) : Type 0 where
  pub each : (a : Granule) → Contains gs a → mode_held t a new ≡ Some (wanted_mode (mode_held t a rs) IX)
  pub rest : (u : ℕ) (h : Granule) → (u ≡ t → Contains gs h → ⊥) → mode_held u h new ≡ mode_held u h rs

-- the transaction holds the granule in EX and each one above it in IX, joined to what it held there, and nothing else has changed
pub record TakesWhole (rs new : List Request) (t : ℕ) (g : Granule) : Type 0 where
  pub own : mode_held t g new ≡ Some EX
  pub above : (a : Granule) → Contains (ancestors g) a → mode_held t a new ≡ Some (wanted_mode (mode_held t a rs) IX)
  pub rest : (u : ℕ) (h : Granule) → (u ≡ t → Contains (path g) h → ⊥) → mode_held u h new ≡ mode_held u h rs

-- another transaction holds the granule in a mode that does not grant what is wanted there
pub record IsInTheWay (rs : List Request) (t : ℕ) (g : Granule) (mode : Mode) (holder : ℕ) : Type 0 where
  pub other : holder ≢ t
  pub less : is_enough mode (mode_held t g rs) ≡ false
  pub refuses : IsSomeAnd (mode_held holder g rs) (λ held. grants held (wanted_mode (mode_held t g rs) mode) ≡ false)

-- why one granule is refused
abbrev pub IsRefused : Table → ℕ → Granule → Mode → Fault → Type 0
IsRefused table t g mode fault.LockTableFull = IsTrue (is_full table t g)
IsRefused table t g mode (fault.WouldBlock holder) = IsInTheWay table.requests t g mode holder
IsRefused table t g mode _ = ⊥

-- one of these granules is refused, in the table as it then is: the intentions above it are taken and stay, and nothing else has changed
pub record StopsAmong (old new : Table) (t : ℕ) (gs : List Granule) (mode_of : Granule → Mode) (fault : Fault) : Type 0 where
  pub at : Granule
  pub among : Contains gs at
  pub taken : TakesIntentions old.requests new.requests t (ancestors at)
  pub refused : IsRefused new t at (mode_of at) fault

-- one granule is taken in a mode, joined to what was held there. Requests with their intentions keep them if those of this lock are held.
pub record TakesOne (old new : Table) (t : ℕ) (g : Granule) (mode : Mode) : Type 0 where
  pub own : mode_held t g new.requests ≡ Some (wanted_mode (mode_held t g old.requests) mode)
  pub rest : (u : ℕ) (h : Granule) → (u ≡ t → h ≡ g → ⊥) → mode_held u h new.requests ≡ mode_held u h old.requests
  pub limit : new.limit ≡ old.limit
  pub others : of_others t new.requests ≡ of_others t old.requests
  pub nobody : NobodyWaits new.requests
  pub rooted : ((a : Granule) → Contains (ancestors g) a → is_enough (parent_mode mode) (mode_held t a old.requests) ≡ true) → AreRooted old.requests → AreRooted new.requests

-- whatever the answer: the requests of the others are as they were, nobody waits, and requests with their intentions keep them
pub record KeepsOthers (old new : Table) (t : ℕ) : Type 0 where
  pub limit : new.limit ≡ old.limit
  pub others : of_others t new.requests ≡ of_others t old.requests
  pub nobody : NobodyWaits new.requests
  pub rooted : AreRooted old.requests → AreRooted new.requests

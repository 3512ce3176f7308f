-- What holds of an acquire, in words of its own.
use Rattle.std.specs.Prelude.{◌≡◌, ◌⊎◌, ℕ, List, Some, IsTrue, IsFalse, All, Any, Contains}
use Rattle.shore_types.specs.declared.faults.Fault.{Fault}
use Rattle.shore_types.specs.declared.faults.Fault.TheVariants as fault
use Rattle.shore_types.specs.declared.locking.Granule.{Granule}
use Rattle.shore_types.specs.declared.locking.Mode.{Mode}
use Rattle.shore_types.specs.Locking.{level_of}
use Rattle.shore_model.specs.declared.requests.Request.{Request}
use Rattle.shore_model.specs.Locks.{ancestors, path}
use Rattle.shore_model.specs.Modes.{is_allowed}
use Rattle.shore_model.specs.Requests.{WaitsFor, placed_last}
use Rattle.shore_locks.specs.Grants.{wanted_mode, asking, granted, is_enough, is_full}
use Rattle.shore_locks.specs.Tables.{Table, mode_held, waiting_request}
use Rattle.shore_path.specs.declared.answers.OnConflict.{OnConflict}
use Rattle.shore_path.specs.declared.answers.OnConflict.TheVariants.{Refuse}
use Rattle.shore_path.specs.Walks.{asked_of, is_covered}

-- the transaction holds an ancestor in a mode that covers the one that is asked
abbrev pub IsCoveredAbove : List Request → ℕ → Granule → Mode → Type 0
IsCoveredAbove rs t target mode = Any (λ g. IsTrue (is_covered mode (mode_held t g rs))) (ancestors target)

-- the transaction holds the target in the mode, or in a stronger one, or it holds an ancestor in a mode that covers it
abbrev pub IsReached : List Request → ℕ → Granule → Mode → Type 0
IsReached rs t target mode =
    IsTrue (is_enough mode (mode_held t target rs)) ⊎ IsCoveredAbove rs t target mode

-- the transaction waits at a granule for a mode, joined to the one that it holds, and waits for somebody
pub record WaitsAt (rs : List Request) (t : ℕ) (g : Granule) (asked : Mode) : Type 0 where
  pub request : Request
  pub waits : waiting_request t rs ≡ Some request
  pub at : request.granule ≡ g
  pub held : request.held ≡ mode_held t g rs
  pub wanted : request.wanted ≡ Some (wanted_mode request.held asked)
  pub someone : ℕ
  pub waits_for : WaitsFor rs t someone

-- on the path some granule has no node of the transaction, and the table is at its limit
abbrev pub IsFullOnPath : Table → ℕ → Granule → Type 0
IsFullOnPath table t target = Any (λ g. IsTrue (is_full table t g)) (path target)

-- on the path the transaction would wait for the other
abbrev pub IsBlockedBy : List Request → ℕ → Granule → Mode → ℕ → Type 0
IsBlockedBy rs t target mode u = Any (λ g. WaitsFor (placed_last (asking t g (asked_of target mode g) rs) rs) t u) (path target)

-- when an acquire is refused with a fault, in the table as it then is
abbrev pub MayRefuse : OnConflict → Table → ℕ → Granule → Mode → Fault → Type 0
MayRefuse c table t target mode fault.BadMode = IsFalse (is_allowed (level_of target) mode)
MayRefuse c table t target mode fault.LockTableFull = IsFullOnPath table t target
MayRefuse c table t target mode (fault.WouldBlock holder) = (c ≡ Refuse) × IsBlockedBy table.requests t target mode holder
MayRefuse c table t target mode _ = ⊥

-- no lock of anybody becomes weaker
abbrev pub NoneWeaker : List Request → List Request → Type 0
NoneWeaker rs new = (u : ℕ) (g : Granule) (m : Mode) → IsTrue (is_enough m (mode_held u g rs)) → IsTrue (is_enough m (mode_held u g new))

-- .. but of one
abbrev pub NoOtherWeaker : List Request → List Request → ℕ → Type 0
NoOtherWeaker rs new t = (u : ℕ) (g : Granule) (m : Mode) → (u ≡ t → ⊥) → IsTrue (is_enough m (mode_held u g rs)) → IsTrue (is_enough m (mode_held u g new))

-- the transaction's locks change on the path alone, each by the mode that is asked there, joined to the one held
abbrev pub GrowsAsAsked : List Request → List Request → ℕ → Granule → Mode → Type 0
GrowsAsAsked rs new t target mode =
    (g : Granule) →
    (mode_held t g new ≡ mode_held t g rs)
    ⊎ (Contains (path target) g × (mode_held t g new ≡ Some (wanted_mode (mode_held t g rs) (asked_of target mode g))))

-- each request of others afterwards was there before, or is one that was with what it wanted held
abbrev pub OthersOnlyGranted : List Request → List Request → ℕ → Type 0
OthersOnlyGranted rs new t = All (λ r. (r.txn ≡ t) ⊎ (Contains rs r ⊎ Any (λ q. r ≡ granted q) rs)) new

-- What may be locked now, and what a walk that changes nothing knows of the table that an acquire would have at a granule.
use Rattle.std.specs.Prelude.{◌≡◌, ◌≤◌, ◌+◌, ℕ, List, Option, None, Some, Ok, length}
use Rattle.shore_types.specs.declared.locking.Granule.{Granule}
use Rattle.shore_types.specs.declared.locking.Mode.{Mode}
use Rattle.shore_model.specs.declared.requests.Request.{Request}
use Rattle.shore_model.specs.Requests.{AreRequests, requests_at}
use Rattle.shore_locks.specs.declared.answers.Tried.{Tried}
use Rattle.shore_locks.specs.declared.answers.Tried.TheVariants.{Blocked, Granted}
use Rattle.shore_locks.specs.Tables.{Table}
use Rattle.shore_path.specs.declared.answers.Acquired.TheVariants.{Done}
use Rattle.shore_path.specs.declared.answers.OnConflict.TheVariants.{Refuse}
use Rattle.shore_path.specs.declared.paths.TheConstants.{LONGEST_PATH}
use Rattle.shore_path.specs.Walks.{acquired}

-- a table of these requests with so many nodes left
abbrev pub with_left : List Request → ℕ → Table
with_left rs left = record { limit = length rs + left; requests = rs }

-- The transaction could have the granule in the mode at once: along the path nobody is in the way, in a table with a node to spare for each
-- granule of it.
abbrev pub CanLockNow : List Request → ℕ → Granule → Mode → Type 0
CanLockNow rs t g mode = (acquired Refuse (with_left rs LONGEST_PATH) t g mode).answer ≡ Ok Done

-- the requests for a granule are those in the table, which has no more nodes in use, and so many are left
pub record IsAlike (g : Granule) (limit left : ℕ) (rs new : List Request) : Type 0 where
  pub one : AreRequests new
  pub same : requests_at g new ≡ requests_at g rs
  pub grew : length rs ≤ length new
  pub room : left + length new ≡ limit

-- what a try is told by who is in its way, if there is a node
abbrev pub told_by : Option ℕ → Tried
told_by None = Granted
told_by (Some holder) = Blocked holder

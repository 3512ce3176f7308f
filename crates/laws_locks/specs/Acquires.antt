-- What an acquire leaves, whatever it is answered.
use Rattle.std.specs.Prelude.{◌≡◌, ◌≢◌, ℕ, List, false, Ok, Contains}
use Rattle.shore_types.specs.declared.locking.Granule.{Granule}
use Rattle.shore_types.specs.declared.locking.Mode.{Mode}
use Rattle.shore_model.specs.declared.requests.Request.{Request}
use Rattle.shore_model.specs.Locks.{path}
use Rattle.shore_locks.specs.Orderly.{IsOrderly}
use Rattle.shore_locks.specs.Tables.{is_waiting}
use Rattle.shore_path.specs.declared.answers.Acquired.TheVariants.{Done, Waiting}
use Rattle.shore_path.specs.Acquires.{GrowsAsAsked, IsReached, NoneWeaker, OthersOnlyGranted, WaitsAt}
use Rattle.shore_path.specs.Rooted.{AreRooted}
use Rattle.shore_path.specs.Walks.{Outcome, asked_of}

-- The requests are orderly and have their intentions, nobody's became weaker, and those of others stay or are granted; the own ones grow along the path, by
-- the modes that are asked there. At Done the granule is reached; if it is told to wait the transaction waits there, on the path, and else it does not wait.
pub record Leaves (rs : List Request) (out : Outcome) (t : ℕ) (target : Granule) (mode : Mode) : Type 0 where
  pub orderly : IsOrderly out.requests
  pub rooted : AreRooted out.requests
  pub none_weaker : NoneWeaker rs out.requests
  pub others : OthersOnlyGranted rs out.requests t
  pub grows : GrowsAsAsked rs out.requests t target mode
  pub done : out.answer ≡ Ok Done → IsReached out.requests t target mode
  pub waits : (g : Granule) → out.answer ≡ Ok (Waiting g) → Contains (path target) g × WaitsAt out.requests t g (asked_of target mode g)
  pub quiet : ((g : Granule) → out.answer ≢ Ok (Waiting g)) → is_waiting t out.requests ≡ false

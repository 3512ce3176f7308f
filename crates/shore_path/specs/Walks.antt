-- The walk of an acquire: from the root down it asks for each granule of a path, until one refuses or is waited for, or a mode that is held
-- covers the rest.
use Rattle.std.specs.Prelude.{◌≡◌, ◌&&◌, ℕ, List, [], ◌∷◌, Bool, false, not, cond, Option, None, Some, Result, Ok, Err, reverse}
use Rattle.shore_types.specs.declared.faults.Fault.{Fault}
use Rattle.shore_types.specs.declared.faults.Fault.TheVariants as fault
use Rattle.shore_types.specs.declared.locking.Granule.{Granule}
use Rattle.shore_types.specs.declared.locking.Mode.{Mode}
use Rattle.shore_types.specs.Locking.{level_of, same_granule}
use Rattle.shore_model.specs.declared.requests.Request.{Request}
use Rattle.shore_model.specs.Locks.{path}
use Rattle.shore_model.specs.Modes.{covers, is_allowed, parent_mode}
use Rattle.shore_locks.specs.declared.answers.Requested.{Requested}
use Rattle.shore_locks.specs.declared.answers.Requested.TheVariants.{Granted, Waiting, Full}
use Rattle.shore_locks.specs.declared.answers.Tried.{Tried}
use Rattle.shore_locks.specs.declared.answers.Tried.TheVariants.{Blocked, Granted as TryGranted, Full as TryFull}
use Rattle.shore_locks.specs.Grants.{after_request, after_try, answer_to, answer_to_try}
use Rattle.shore_locks.specs.Tables.{Table, mode_held}
use Rattle.shore_path.specs.declared.answers.Acquired.{Acquired}
use Rattle.shore_path.specs.declared.answers.Acquired.TheVariants as acquire
use Rattle.shore_path.specs.declared.answers.OnConflict.{OnConflict}
use Rattle.shore_path.specs.declared.answers.OnConflict.TheVariants.{Wait, Refuse}

-- what an acquire is answered, and the requests that it leaves
pub record Outcome : Type 0 where
  pub answer : Result Acquired Fault
  pub requests : List Request

-- the mode that is asked of a granule on the way: of the target the mode itself, of an ancestor its parent mode
abbrev pub asked_of : Granule → Mode → Granule → Mode
asked_of target mode g = cond (same_granule g target) mode (parent_mode mode)

-- what is held of an ancestor, if anything, covers a mode below it
abbrev pub is_covered : Mode → Option Mode → Bool
is_covered mode None = false
is_covered mode (Some held) = covers held mode

-- a granule is an ancestor whose lock spares all that is left to ask
abbrev pub is_spared : ℕ → Granule → Mode → Granule → List Request → Bool
is_spared t target mode g rs = not (same_granule g target) && is_covered mode (mode_held t g rs)

-- what a walk makes of a request's answer: at Done it goes on
abbrev pub of_request : Granule → Requested → Result Acquired Fault
of_request g Granted = Ok acquire.Done
of_request g Waiting = Ok (acquire.Waiting g)
of_request g Full = Err fault.LockTableFull

-- .. and of a try's
abbrev pub of_try : Tried → Result Acquired Fault
of_try TryGranted = Ok acquire.Done
of_try (Blocked holder) = Err (fault.WouldBlock holder)
of_try TryFull = Err fault.LockTableFull

-- what is answered if a granule is asked for
abbrev pub answer_at : OnConflict → Table → ℕ → Granule → Mode → Result Acquired Fault
answer_at Wait table t g mode = of_request g (answer_to table t g mode)
answer_at Refuse table t g mode = of_try (answer_to_try table t g mode)

-- .. and the requests after it
abbrev pub after_at : OnConflict → Table → ℕ → Granule → Mode → List Request
after_at Wait table t g mode = after_request table t g mode
after_at Refuse table t g mode = after_try table t g mode

-- the walk goes on at Done alone
abbrev pub or_stop : Result Acquired Fault → List Request → Outcome → Outcome
or_stop (Ok acquire.Done) rs rest = rest
or_stop (Ok (acquire.Waiting g)) rs rest = record { answer = Ok (acquire.Waiting g); requests = rs }
or_stop (Err fault) rs rest = record { answer = Err fault; requests = rs }

-- a walk over granules, in a table for so many nodes
abbrev pub walk : OnConflict → ℕ → Granule → Mode → ℕ → List Granule → List Request → Outcome
walk c t target mode limit [] rs = record { answer = Ok acquire.Done; requests = rs }
walk c t target mode limit (g ∷ below) rs =
    cond (is_spared t target mode g rs) (record { answer = Ok acquire.Done; requests = rs })
    (or_stop (answer_at c (record { limit = limit; requests = rs }) t g (asked_of target mode g))
    (after_at c (record { limit = limit; requests = rs }) t g (asked_of target mode g))
    (walk c t target mode limit below (after_at c (record { limit = limit; requests = rs }) t g (asked_of target mode g))))

-- what an acquire comes to: a mode that the granule may not be asked in is refused, else the whole path is walked from the root down
abbrev pub acquired : OnConflict → Table → ℕ → Granule → Mode → Outcome
acquired c table t target mode =
    cond (is_allowed (level_of target) mode) (walk c t target mode table.limit (reverse (path target)) table.requests)
    (record { answer = Err fault.BadMode; requests = table.requests })

-- the answer and the table are those of an outcome
abbrev pub HasOutcome : Table → Outcome → Result Acquired Fault → Table → Type 0
HasOutcome old out answer new = (answer ≡ out.answer) × (new ≡ record { limit = old.limit; requests = out.requests })

-- What each call is answered and leaves. How requests come into the list, are granted, and leave it is said below.
use Rattle.std.specs.Prelude.{◌&&◌, ℕ, List, Bool, not, cond, Option, None, Some, is_some, length, nat_lt}
use Rattle.std.specs.Option.{option_map}
use Rattle.shore_types.specs.declared.locking.Granule.{Granule}
use Rattle.shore_types.specs.declared.locking.Mode.{Mode}
use Rattle.shore_model.specs.declared.requests.Request.{Request}
use Rattle.shore_model.specs.Requests.{placed_last}
use Rattle.shore_locks.specs.declared.answers.Requested.{Requested}
use Rattle.shore_locks.specs.declared.answers.Requested.TheVariants.{Granted, Waiting, Full}
use Rattle.shore_locks.specs.declared.answers.Tried.{Tried}
use Rattle.shore_locks.specs.declared.answers.Tried.TheVariants.{Blocked, Granted as TryGranted, Full as TryFull}
use Rattle.shore_nodes.specs.Tables.{Table, mode_held, request_for}
pub use Rattle.shore_nodes.specs.Grants.{is_refused, refuses, can_be_granted, granted, withdrawn, replaced, put, removed, granted_in_turn, passed, is_enough}
pub use Rattle.shore_nodes.specs.Grants.{wanted_mode, asking, first_hold, is_ahead, is_stopped_by, obstacle, taken_back, taken_back_if, cancelled, given_up, released}

-- a new node is needed, and the table is at its limit
abbrev pub is_full : Table → ℕ → Granule → Bool
is_full table t g = not (is_some (request_for t g table.requests)) && not (nat_lt (length table.requests) table.limit)

-- what a request is answered
abbrev pub answer_to : Table → ℕ → Granule → Mode → Requested
answer_to table t g mode =
    cond (is_enough mode (mode_held t g table.requests)) Granted
    (cond (is_full table t g) Full
    (cond (is_some (obstacle (asking t g mode table.requests) table.requests)) Waiting Granted))

-- the requests after a request that is granted, and so after each that is granted at once: a grant pass runs
abbrev pub after_grant : ℕ → Granule → Mode → List Request → List Request
after_grant t g mode rs = passed g (put (granted (asking t g mode rs)) rs)

-- .. and after any request
abbrev pub after_request : Table → ℕ → Granule → Mode → List Request
after_request table t g mode =
    cond (is_enough mode (mode_held t g table.requests)) table.requests
    (cond (is_full table t g) table.requests
    (cond (is_some (obstacle (asking t g mode table.requests) table.requests))
    (placed_last (asking t g mode table.requests) table.requests)
    (after_grant t g mode table.requests)))

-- what a try is answered if somebody is in the way, or nobody
abbrev pub blocked_by : Option Request → Tried
blocked_by None = TryGranted
blocked_by (Some other) = Blocked other.txn

-- what a try is answered
abbrev pub answer_to_try : Table → ℕ → Granule → Mode → Tried
answer_to_try table t g mode =
    cond (is_enough mode (mode_held t g table.requests)) TryGranted
    (cond (is_full table t g) TryFull (blocked_by (obstacle (asking t g mode table.requests) table.requests)))

-- whom a request would wait for if it were made now, if for anybody: the first of them
abbrev pub in_its_way : Request → List Request → Option ℕ
in_its_way r rs = option_map (λ other. other.txn) (obstacle r rs)

-- who is in the way of a transaction that asks for a granule, if anybody is, however many nodes are left: nobody if it holds enough
abbrev pub in_the_way : ℕ → Granule → Mode → List Request → Option ℕ
in_the_way t g mode rs = cond (is_enough mode (mode_held t g rs)) None (in_its_way (asking t g mode rs) rs)

-- the requests after a try, which never waits
abbrev pub after_try : Table → ℕ → Granule → Mode → List Request
after_try table t g mode =
    cond (is_enough mode (mode_held t g table.requests)) table.requests
    (cond (is_full table t g) table.requests
    (cond (is_some (obstacle (asking t g mode table.requests) table.requests)) table.requests (after_grant t g mode table.requests)))

-- How requests come into the list, are granted, and leave it.
use Rattle.std.specs.Prelude.{◌==◌, ◌&&◌, ◌||◌, ℕ, List, [], ◌∷◌, ◌++◌, Bool, false, not, cond, Option, None, Some, is_some, find, filter, map}
use Rattle.std.specs.List.{list_any}
use Rattle.shore_types.specs.declared.locking.Granule.{Granule}
use Rattle.shore_types.specs.declared.locking.Mode.{Mode}
use Rattle.shore_model.specs.declared.requests.Request.{Request}
use Rattle.shore_model.specs.Modes.{grants, is_at_most, sup}
use Rattle.shore_model.specs.Requests.{are_alike, requests_at, requests_by}
use Rattle.shore_nodes.specs.Tables.{mode_held, waiting_request, waiters_at}

-- what is wanted is not granted by what is held
abbrev pub is_refused : Option Mode → Option Mode → Bool
is_refused (Some asked) (Some held) = not (grants held asked)
is_refused _ _ = false

-- another holder refuses what the first wants
abbrev pub refuses : Request → Request → Bool
refuses waiter other = not (other.txn == waiter.txn) && is_refused waiter.wanted other.held

-- in a queue each other holder grants what the waiter wants
abbrev pub can_be_granted : Request → List Request → Bool
can_be_granted waiter queue = not (list_any (refuses waiter) queue)

-- what was wanted is held
abbrev pub granted : Request → Request
granted r = record { txn = r.txn; granule = r.granule; held = r.wanted; wanted = None }

-- nothing more is wanted than what is held
abbrev pub withdrawn : Request → Request
withdrawn r = record { txn = r.txn; granule = r.granule; held = r.held; wanted = None }

-- the list with a request in the place of the one of its transaction for its granule
abbrev pub replaced : Request → List Request → List Request
replaced r rs = map (λ q. cond (are_alike q r) r q) rs

-- .. and last where there was none
abbrev pub put : Request → List Request → List Request
put r rs = cond (list_any (λ q. are_alike q r) rs) (replaced r rs) (rs ++ r ∷ [])

-- the list without that one
abbrev pub removed : Request → List Request → List Request
removed r rs = filter (λ q. not (are_alike q r)) rs

-- waiters are granted in turn, up to the first that another holder refuses
abbrev pub granted_in_turn : List Request → List Request → List Request
granted_in_turn [] rs = rs
granted_in_turn (w ∷ ws) rs =
    cond (can_be_granted w (requests_at w.granule rs)) (granted_in_turn ws (replaced (granted w) rs)) rs

-- a grant pass over the queue of a granule (the wake-up of its waiters)
abbrev pub passed : Granule → List Request → List Request
passed g rs = granted_in_turn (waiters_at g rs) rs

-- what is held, if anything, is the mode or a stronger one
abbrev pub is_enough : Mode → Option Mode → Bool
is_enough mode None = false
is_enough mode (Some held) = is_at_most mode held

-- what is wanted by one who holds a mode, or none, and asks for another
abbrev pub wanted_mode : Option Mode → Mode → Mode
wanted_mode None mode = mode
wanted_mode (Some held) mode = sup held mode

-- a transaction's request for a mode that it does not hold
abbrev pub asking : ℕ → Granule → Mode → List Request → Request
asking t g mode rs = record { txn = t; granule = g; held = mode_held t g rs; wanted = Some (wanted_mode (mode_held t g rs) mode) }

-- what a transaction has that is granted a mode of a granule of which it had nothing
abbrev pub first_hold : ℕ → Granule → Mode → Request
first_hold t g mode = record { txn = t; granule = g; held = Some mode; wanted = None }

-- one who already waits is ahead of one who begins to: conversions go before new waiters
abbrev pub is_ahead : Request → Request → Bool
is_ahead waiter other = is_some other.wanted && (is_some other.held || not (is_some waiter.held))

-- .. would wait for the other
abbrev pub is_stopped_by : Request → Request → Bool
is_stopped_by waiter other = not (other.txn == waiter.txn) && (is_refused waiter.wanted other.held || is_ahead waiter other)

-- the first in the list that it would wait for
abbrev pub obstacle : Request → List Request → Option Request
obstacle waiter rs = find (is_stopped_by waiter) (requests_at waiter.granule rs)

-- a waiting request is taken back: the mode held, if any, stays
abbrev pub taken_back : Request → List Request → List Request
taken_back r rs = passed r.granule (cond (is_some r.held) (replaced (withdrawn r) rs) (removed r rs))

abbrev pub taken_back_if : Option Request → List Request → List Request
taken_back_if None rs = rs
taken_back_if (Some r) rs = taken_back r rs

-- a transaction waits no more
abbrev pub cancelled : ℕ → List Request → List Request
cancelled t rs = taken_back_if (waiting_request t rs) rs

-- each of these requests goes, with a grant pass over its queue
abbrev pub given_up : List Request → List Request → List Request
given_up [] rs = rs
given_up (r ∷ mine) rs = given_up mine (passed r.granule (removed r rs))

-- a transaction holds and wants nothing any more
abbrev pub released : ℕ → List Request → List Request
released t rs = given_up (requests_by t rs) rs

-- How many of a queue hold in each mode, how many wait, and how many of these are conversions.
use Rattle.std.specs.Prelude.{◌≡◌, ◌==◌, ◌<◌, ◌≤◌, ◌^◌, ◌&&◌, ◌||◌, ℕ, List, Bool, false, true, cond, Option, None, Some, is_some, filter, length, nat_lt, slice_index_or}
use Rattle.shore_types.specs.declared.locking.Mode.{Mode}
use Rattle.shore_types.specs.declared.locking.Mode.TheVariants.{IS, IX, SH, SIX, EX, UD}
use Rattle.shore_model.specs.declared.requests.Group.{Group}
use Rattle.shore_model.specs.declared.requests.Group.TheVariants.{Holders, Conversions, NewWaiters}
use Rattle.shore_model.specs.declared.requests.Request.{Request}
use Rattle.shore_model.specs.Modes.{grants}
use Rattle.shore_model.specs.Requests.{is_conversion}
use Rattle.shore_nodes.specs.declared.tallies.Tally.{Tally}
use Rattle.shore_nodes.specs.Nodes.{queue_head}

-- what a list of nodes is seen as: how many heads it has, how many nodes it may have, and its requests
pub record Stored : Type 0 where
  pub heads : ℕ
  pub limit : ℕ
  pub requests : List Request

abbrev pub mode_number : Mode → ℕ
mode_number IS = 0
mode_number IX = 1
mode_number SH = 2
mode_number SIX = 3
mode_number EX = 4
mode_number UD = 5

-- what is held, if anything, is just the mode
abbrev pub is_just : Mode → Option Mode → Bool
is_just m None = false
is_just m (Some held) = mode_number held == mode_number m

abbrev pub count_in : Tally → Mode → ℕ
count_in tally IS = tally.is
count_in tally IX = tally.ix
count_in tally SH = tally.sh
count_in tally SIX = tally.six
count_in tally EX = tally.ex
count_in tally UD = tally.ud

-- so many hold a mode: they grant the one that is asked
abbrev pub counted_allow : ℕ → Mode → Mode → Bool
counted_allow count held asked = (count == 0) || grants held asked

-- each mode that is held grants the one that is asked
abbrev pub counted_grant : Tally → Mode → Bool
counted_grant tally asked =
    ((((counted_allow tally.is IS asked && counted_allow tally.ix IX asked) && counted_allow tally.sh SH asked) && counted_allow tally.six SIX asked)
    && counted_allow tally.ex EX asked) && counted_allow tally.ud UD asked

-- .. and what is wanted, if anything
abbrev pub allow : Tally → Option Mode → Bool
allow tally None = true
allow tally (Some asked) = counted_grant tally asked

-- whether somebody of a group may be counted: a conversion, or, of new waiters, anybody who waits
abbrev pub may_have : Tally → Group → Bool
may_have tally Holders = true
may_have tally Conversions = nat_lt 0 tally.converting
may_have tally NewWaiters = nat_lt 0 tally.waiting

abbrev pub one_if : Bool → ℕ
one_if b = cond b 1 0

abbrev pub how_many : (Request → Bool) → List Request → ℕ
how_many p rs = length (filter p rs)

-- a tally counts these requests
pub record Counts (tally : Tally) (rs : List Request) : Type 0 where
  pub holding : (m : Mode) → count_in tally m ≡ how_many (λ r. is_just m r.held) rs
  pub waiting : tally.waiting ≡ how_many (λ r. is_some r.wanted) rs
  pub converting : tally.converting ≡ how_many is_conversion rs

-- the requests for granules of a head
abbrev pub crowd : ℕ → ℕ → List Request → List Request
crowd heads b rs = filter (λ r. queue_head heads r.granule == b) rs

abbrev pub tally_at : List Tally → ℕ → Tally
tally_at tallies b = slice_index_or tallies b (record { is = 0; ix = 0; sh = 0; six = 0; ex = 0; ud = 0; waiting = 0; converting = 0 })

-- there is a tally for each head, and it counts the requests for its granules
pub record AreCounted (tallies : List Tally) (stored : Stored) : Type 0 where
  pub some : 65 < stored.heads
  pub few : stored.heads ≤ 2 ^ 32
  pub each : length tallies ≡ stored.heads
  pub counted : (b : ℕ) → b < stored.heads → Counts (tally_at tallies b) (crowd stored.heads b stored.requests)

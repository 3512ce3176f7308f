-- The waiters of a queue, granted group by group, each group in one walk over its nodes.
use Rattle.std.specs.Prelude.{◌≡◌, ◌<◌, ◌++◌, ◌^◌, ℕ, List, Bool, true, false, not, Some, filter, length}
use Rattle.std.specs.List.{list_any}
use Rattle.slab.specs.Slab.{Slab}
use Rattle.shore_types.specs.declared.locking.Granule.{Granule}
use Rattle.shore_types.specs.declared.locking.Mode.{Mode}
use Rattle.shore_model.specs.declared.requests.Request.{Request}
use Rattle.shore_model.specs.declared.requests.Group.{Group}
use Rattle.shore_model.specs.declared.requests.Group.TheVariants.{NewWaiters}
use Rattle.shore_model.specs.Requests.{AreRequests, is_in_group, requests_at}
use Rattle.shore_rings.specs.declared.ring.Link.{Link}
use Rattle.shore_nodes.specs.declared.tallies.Tally.{Tally}
use Rattle.shore_nodes.specs.Grants.{is_refused, passed}
use Rattle.shore_nodes.specs.Nodes.{IsLinked, queue_head, requests_in}
use Rattle.shore_nodes.specs.Tables.{waiters_at}
use Rattle.shore_nodes.specs.Tallies.{Counts}

-- the requests of a group for a granule, in list order
abbrev pub group_at : Group → Granule → List Request → List Request
group_at group g rs = filter (is_in_group group) (requests_at g rs)

abbrev pub new_waiters : Granule → List Request → List Request
new_waiters g rs = group_at NewWaiters g rs

-- whether all that is held grants a mode
abbrev pub all_grant : List Request → Mode → Bool
all_grant rs mode = not (list_any (λ q. is_refused (Some mode) q.held) rs)

-- nodes in order, the head of a granule's ring, a tally of its queue, and who waits behind those of the group
pub record CanWalk (heads : ℕ) (slots : Slab Request) (queues lists owners : List Link) (head : ℕ) (g : Granule) (group : Group)
    (behind : List Request) (tally : Tally) (ks : List ℕ) : Type 0 where
  pub are_linked : IsLinked heads slots queues lists owners ks
  pub at : head ≡ queue_head heads g
  pub one : AreRequests (requests_in slots ks)
  pub fits : length ks < 2 ^ 64
  pub counts : Counts tally (requests_at g (requests_in slots ks))
  pub waiters : waiters_at g (requests_in slots ks) ≡ group_at group g (requests_in slots ks) ++ behind

-- a group is granted, and a pass goes on with those behind it; or one of the group is refused, and the pass is over
abbrev pub IsGranted : Granule → List Request → Tally → Bool → List Request → List Request → Type 0
IsGranted g behind tally true old new = (passed g new ≡ passed g old) × (waiters_at g new ≡ behind) × Counts tally (requests_at g new)
IsGranted g behind tally false old new = new ≡ passed g old

-- .. and the nodes are in order
pub record IsWalked (heads : ℕ) (old new : Slab Request) (queues lists owners : List Link) (g : Granule) (behind : List Request)
    (tally : Tally) (result : Bool) (ks : List ℕ) : Type 0 where
  pub are_linked : IsLinked heads new queues lists owners ks
  pub one : AreRequests (requests_in new ks)
  pub is_granted : IsGranted g behind tally result (requests_in old ks) (requests_in new ks)

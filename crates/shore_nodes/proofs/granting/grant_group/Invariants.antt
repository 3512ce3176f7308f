use Rattle.std.proofs.Common.{◌≡◌, ◌<◌, ℕ, List, length}
use Rattle.shore_model.specs.declared.requests.Request.{Request}
use Rattle.shore_rings.specs.declared.ring.Link.{Link}
use Rattle.shore_nodes.specs.Granting.{CanWalk}
use Rattle.shore_nodes.specs.LetThrough.{TellsFirst}
use Rattle.shore_nodes.specs.Nodes.{requests_in}
use Rattle.shore_nodes.proofs.GrantWalks.{GrantWalk}
use Rattle.shore_nodes.proofs.granting.grant_group.Given as goal

abbrev pub invariant-loop-left : goal.invariant-loop-left
invariant-loop-left l =
    (l.slots.capacity ≡ l.initial.slots.capacity)
    × (l.node < length l.queues)
    × ((lists owners : List Link) (ks : List ℕ) (behind : List Request) → CanWalk l.heads l.initial.slots l.queues lists owners l.head l.granule l.group behind l.initial.tally ks
    → GrantWalk l.heads l.initial.slots l.slots l.queues lists owners l.head l.granule l.group behind l.tally ks l.node l.left)
    × ((lists owners : List Link) (ks : List ℕ) (behind : List Request) → CanWalk l.heads l.initial.slots l.queues lists owners l.head l.granule l.group behind l.initial.tally ks
    → TellsFirst l.granule (requests_in l.initial.slots ks) (requests_in l.slots ks) l.initial.let_through l.let_through)

abbrev pub decreases-loop-left : goal.decreases-loop-left
decreases-loop-left l = l.left

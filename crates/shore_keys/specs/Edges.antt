-- What is said of right neighbours that searches go to, and of inner nodes that are to name them.
use Rattle.std.specs.Prelude.{◌≡◌, ◌≢◌, ℕ, List, Option, None, Some, Result, Ok, Err, IfErr, false}
use Rattle.std.specs.FinMap.{get}
use Rattle.shore_types.specs.declared.ids.Rid.{Rid}
use Rattle.shore_model.specs.declared.calls.Exchange.{Exchange}
use Rattle.shore_model.specs.declared.progress.Progress.{Progress}
use Rattle.shore_model.specs.Records.{Records}
use Rattle.shore_keys.specs.declared.edges.Edge.{Edge}
use Rattle.shore_keys.specs.declared.maps.KeyMap.{KeyMap}
use Rattle.shore_keys.specs.declared.refusals.Refusal.{Refusal}
use Rattle.shore_keys.specs.declared.refusals.Refusal.TheVariants.{Damaged}
use Rattle.shore_keys.specs.Exchanges.{AtItsTurn, Spares, seen}
use Rattle.shore_keys.specs.Maps.{Map, Represents, Stays}
use Rattle.shore_keys.specs.Nodes.{Entry, Node, node_at}
use Rattle.shore_keys.specs.Orders.{IsUpTo}
use Rattle.shore_keys.specs.Trees.{Index, Indexes, Leads, Leaf, ReadsNode, Spot, child, is_past}

-- the right neighbour, if the key is at or above what that begins with
abbrev pub IsCrossed : Option Entry → List ℕ → Option (List ℕ × Spot) → Type 0
IsCrossed right key (Some x) = (right ≡ Some (x.0, x.1.0, x.1.1)) × IsUpTo x.0 key
IsCrossed right key None = is_past right key ≡ false

-- A search that comes from a node of the store goes to a right neighbour, whose keys are found there.
pub record IsEdge (R : Records) (root : Rid) (leaves : List Leaf) (e : Edge) : Type 0 where
  pub store : e.parent.page.store ≡ root.page.store
  pub node : Node
  pub reads : ReadsNode R e.parent node
  pub leads : Leads R leaves e.key (child root.page.store (e.key, e.spot.0, e.spot.1))

abbrev pub HasEdge : (R : Records) (root : Rid) (x : Index) → Indexes R root x → Result (Option Edge) Refusal → Type 0
HasEdge R root x h (Ok None) = Unit {0}
HasEdge R root x h (Ok (Some e)) = IsEdge R root h.leaves e
HasEdge R root x h (Err fault) = fault ≢ Damaged

-- A search changes nothing, and tells where it went to a right neighbour.
abbrev pub Crosses : Rid → Result (Option Edge) Refusal → List Exchange → Type 0
Crosses root result = AtItsTurn (λ R p q. (x : Index) (h : Indexes (seen R p) root x) → (q ≡ p) × HasEdge (seen R p) root x h result)

-- A search has changed nothing, and may go on there; it came by this node.
pub record IsUnderWay (R : Records) (root : Rid) (leaves : List Leaf) (key : List ℕ) (at parent : Rid) : Type 0 where
  pub leads : Leads R leaves key at
  pub here : at.page.store ≡ root.page.store
  pub store : parent.page.store ≡ root.page.store
  pub node : Node
  pub reads : ReadsNode R parent node

abbrev pub ComesBy : Rid → List ℕ → Rid → Rid → List Exchange → Type 0
ComesBy root key at parent = AtItsTurn (λ R p q. (x : Index) (h : Indexes (seen R p) root x) → (q ≡ p) × IsUnderWay (seen R p) root h.leaves key at parent)

-- An inner node names a right neighbour, or is divided, since it has no room: the map stays as it was.
abbrev pub Names : {A : Type 0} → KeyMap → Edge → Result A Refusal → List Exchange → Type 0
Names k e result = AtItsTurn (λ R p q. (m : Map) (rep : Represents (seen R p) k m) → IsEdge (seen R p) k.root rep.indexes.leaves e → Stays k m R p q result)

-- an inner node of that level is there
pub record IsInnerAt (R : Records) (k : KeyMap) (at : Rid) (bytes : List ℕ) (level : ℕ) : Type 0 where
  pub store : at.page.store ≡ k.root.page.store
  pub there : get R at ≡ Some bytes
  pub node : Node
  pub reads : node_at bytes ≡ Some node
  pub is : node.level ≡ level
  pub inner : level ≢ 0

-- An inner node is divided: the map stays as it was.
abbrev pub Divides : {A : Type 0} → KeyMap → Rid → List ℕ → ℕ → Result A Refusal → List Exchange → Type 0
Divides k at bytes level result = AtItsTurn (λ R p q. (m : Map) → Represents (seen R p) k m → IsInnerAt (seen R p) k at bytes level → Stays k m R p q result)

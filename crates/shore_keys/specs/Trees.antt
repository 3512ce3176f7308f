-- An index as a tree of nodes in the records of one store. The chain of leaves alone says what each key has; the inner nodes lead into it, and a search may go right from wherever they lead to.
use Rattle.std.specs.Prelude.{◌≡◌, ◌≢◌, ◌⊎◌, ℕ, List, [], ◌∷◌, ◌++◌, Option, None, Some, Bool, true, false, not, if◌then◌else◌, nat_eq}
use Rattle.std.specs.FinMap.{get}
use Rattle.std.specs.Cmp.Lexicographic.{pointwise}
use Rattle.shore_types.specs.declared.ids.Rid.{Rid}
use Rattle.shore_types.specs.declared.ids.PageId.{PageId}
use Rattle.shore_model.specs.Records.{Records}
use Rattle.shore_keys.specs.Nodes.{Entry, Node, node_at}
use Rattle.shore_keys.specs.Orders.{IsUpTo, is_before}

-- a page and a slot, of a store that is known
abbrev pub Spot : Type 0
Spot = ℕ × ℕ

abbrev pub id_in : ℕ → ℕ → ℕ → Rid
id_in store page slot = record { page = record { store = store; page = page }; slot = slot }

-- the node that an entry leads to
abbrev pub child : ℕ → Entry → Rid
child store e = id_in store e.1 e.2

-- what a key has, for each key
abbrev pub Index : Type 0
Index = List ℕ → Option Spot

-- ---- one node

-- the record there reads as this node
pub record ReadsNode (R : Records) (id : Rid) (node : Node) : Type 0 where
  pub bytes : List ℕ
  pub there : get R id ≡ Some bytes
  pub reads : node_at bytes ≡ Some node

-- the first entry with the key
abbrev pub look_in : List Entry → Index
look_in [] key = None
look_in (e ∷ es) key = if pointwise nat_eq e.0 key then Some (e.1, e.2) else look_in es key

-- the key is found at the right neighbour, or behind it
abbrev pub is_past : Option Entry → List ℕ → Bool
is_past None key = false
is_past (Some e) key = not (is_before key e.0)

-- the entries rise strictly behind a key, and none is past the right neighbour
abbrev pub RiseBehind : List ℕ → List Entry → Option Entry → Type 0
RiseBehind key [] right = Unit {0}
RiseBehind key (e ∷ es) right = (is_before key e.0 ≡ true) × (is_past right e.0 ≡ false) × RiseBehind e.0 es right

-- .. or from it on
abbrev pub RiseFrom : List ℕ → List Entry → Option Entry → Type 0
RiseFrom low [] right = Unit {0}
RiseFrom low (e ∷ es) right = IsUpTo low e.0 × (is_past right e.0 ≡ false) × RiseBehind e.0 es right

-- the right neighbour begins no lower than this
abbrev pub EndsFrom : List ℕ → Option Entry → Type 0
EndsFrom low None = Unit {0}
EndsFrom low (Some e) = IsUpTo low e.0

-- ---- the chain of leaves

-- a leaf at its id, and the least key that may be in it, which stands in no byte of it
pub record Leaf : Type 0 where
  pub id : Rid
  pub low : List ℕ
  pub right : Option Entry
  pub entries : List Entry

abbrev pub node_of : Leaf → Node
node_of p = record { level = 0; right = p.right; entries = p.entries }

-- a way into a chain: the least key that is found that way, and a node
abbrev pub Way : Type 0
Way = Option (List ℕ × Rid)

abbrev pub way_to : ℕ → Option Entry → Way
way_to store None = None
way_to store (Some e) = Some (e.0, child store e)

-- these leaves stand one after another, from one way to another
abbrev pub Chain : Records → ℕ → Way → List Leaf → Way → Type 0
Chain R store from [] to = from ≡ to
Chain R store from (p ∷ ps) to =
    (from ≡ Some (p.low, p.id)) × (p.id.page.store ≡ store) × ReadsNode R p.id (node_of p) × EndsFrom p.low p.right × RiseFrom p.low p.entries p.right × Chain R store (way_to store p.right) ps to

-- no leaf is there
abbrev pub NotIn : Rid → List Leaf → Type 0
NotIn id [] = Unit {0}
NotIn id (p ∷ ps) = (p.id ≢ id) × NotIn id ps

-- no two leaves are one record
abbrev pub Apart : List Leaf → Type 0
Apart [] = Unit {0}
Apart (p ∷ ps) = NotIn p.id ps × Apart ps

-- what a key has: of the first leaf that it is not past
abbrev pub look : List Leaf → Index
look [] key = None
look (p ∷ ps) key = if is_past p.right key then look ps key else look_in p.entries key

-- ---- what leads there

-- the entry is one of these
abbrev pub IsIn : Entry → List Entry → Type 0
IsIn e [] = ⊥
IsIn e (x ∷ xs) = (x ≡ e) ⊎ IsIn e xs

-- the first of these entries is at or below the key
abbrev pub BeginsUpTo : List Entry → List ℕ → Type 0
BeginsUpTo [] key = ⊥
BeginsUpTo (e ∷ es) key = IsUpTo e.0 key

-- a leaf of these whose keys begin at or below this one
pub record LeadsToLeaf (leaves : List Leaf) (key : List ℕ) (id : Rid) : Type 0 where
  pub before : List Leaf
  pub leaf : Leaf
  pub behind : List Leaf
  pub all : leaves ≡ before ++ leaf ∷ behind
  pub here : leaf.id ≡ id
  pub low : IsUpTo leaf.low key

-- an inner node whose entries do
pub record LeadsToInner (R : Records) (key : List ℕ) (id : Rid) : Type 0 where
  pub node : Node
  pub reads : ReadsNode R id node
  pub inner : node.level ≢ 0
  pub low : BeginsUpTo node.entries key

-- a search of the key, or of one above it, may go on there
abbrev pub Leads : Records → List Leaf → List ℕ → Rid → Type 0
Leads R leaves key id = LeadsToLeaf leaves key id ⊎ LeadsToInner R key id

-- so it may where each of these entries leads
abbrev pub AllLead : Records → ℕ → List Leaf → List Entry → Type 0
AllLead R store leaves [] = Unit {0}
AllLead R store leaves (e ∷ es) = Leads R leaves e.0 (child store e) × AllLead R store leaves es

abbrev pub RightLeads : Records → ℕ → List Leaf → Option Entry → Type 0
RightLeads R store leaves None = Unit {0}
RightLeads R store leaves (Some e) = Leads R leaves e.0 (child store e)

-- The records of the root's store represent an index. An inner node is any record of the store that reads as one: what it names leads into the chain, whether anything leads to it or not.
pub record Indexes (R : Records) (root : Rid) (x : Index) : Type 0 where
  pub first : Rid
  pub leaves : List Leaf
  pub chain : Chain R root.page.store (Some ([], first)) leaves None
  pub apart : Apart leaves
  pub inner : (id : Rid) (node : Node) → id.page.store ≡ root.page.store → ReadsNode R id node → node.level ≢ 0
      → AllLead R root.page.store leaves node.entries × RightLeads R root.page.store leaves node.right
  pub root_leads : Leads R leaves [] root
  pub is : (key : List ℕ) → look leaves key ≡ x key

-- ---- where a search ends

-- The leaf that has the key, if any has, in the midst of the others.
pub record IsHome (R : Records) (leaves : List Leaf) (key : List ℕ) (id : Rid) (bytes : List ℕ) : Type 0 where
  pub before : List Leaf
  pub leaf : Leaf
  pub behind : List Leaf
  pub all : leaves ≡ before ++ leaf ∷ behind
  pub here : leaf.id ≡ id
  pub low : IsUpTo leaf.low key
  pub within : is_past leaf.right key ≡ false
  pub there : get R id ≡ Some bytes
  pub reads : node_at bytes ≡ Some (node_of leaf)

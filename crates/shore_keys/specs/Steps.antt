-- What a search finds in one node, and what it comes to.
use Rattle.std.specs.Prelude.{◌≡◌, ◌≢◌, ◌⊎◌, ℕ, List, [], ◌∷◌, Option, None, Some, Result, Ok, Err, IsSomeAnd, false}
use Rattle.shore_types.specs.declared.ids.Rid.{Rid}
use Rattle.shore_model.specs.declared.calls.Exchange.{Exchange}
use Rattle.shore_model.specs.declared.progress.Progress.{Progress}
use Rattle.shore_model.specs.Records.{Records}
use Rattle.shore_keys.specs.declared.refusals.Refusal.{Refusal}
use Rattle.shore_keys.specs.declared.refusals.Refusal.TheVariants.{Damaged}
use Rattle.shore_keys.specs.declared.searching.Home.{Home}
use Rattle.shore_keys.specs.Exchanges.{AtItsTurn, seen}
use Rattle.shore_keys.specs.Nodes.{Entry, Node, entries_at, node_at}
use Rattle.shore_keys.specs.Orders.{IsUpTo}
use Rattle.shore_keys.specs.Trees.{BeginsUpTo, Index, Indexes, IsHome, IsIn, Leads, Spot, child, is_past, look_in}

-- an entry at or below the key, if the first is
abbrev pub IsEntryUpTo : List Entry → List ℕ → Option Spot → Type 0
IsEntryUpTo es key (Some spot) = (e : Entry) × IsIn e es × IsUpTo e.0 key × (spot ≡ (e.1, e.2))
IsEntryUpTo es key None = BeginsUpTo es key → ⊥

-- where the right neighbour is, if the key is at or above what that begins with
abbrev pub IsPast : Option Entry → List ℕ → Option Spot → Type 0
IsPast right key (Some spot) = IsSomeAnd right (λ e. IsUpTo e.0 key × (spot ≡ (e.1, e.2)))
IsPast right key None = is_past right key ≡ false

-- A search of the key goes on there: at the right neighbour, if the key is at or above what that begins with, or where an entry at or below it leads.
abbrev pub GoesTo : ℕ → Node → List ℕ → Rid → Type 0
GoesTo store node key id =
    IsSomeAnd node.right (λ e. IsUpTo e.0 key × (id ≡ child store e))
    ⊎ ((node.level ≢ 0) × ((e : Entry) × IsIn e node.entries × IsUpTo e.0 key × (id ≡ child store e)))

-- Where a search of the key goes from a node, or that it ends here. It is refused of an inner node alone, all of whose entries are above the key.
abbrev pub IsNext : ℕ → Node → List ℕ → Result (Option Rid) Refusal → Type 0
IsNext store node key (Ok None) = (node.level ≡ 0) × (is_past node.right key ≡ false)
IsNext store node key (Ok (Some id)) = GoesTo store node key id
IsNext store node key (Err fault) = (node.level ≢ 0) × (BeginsUpTo node.entries key → ⊥)

-- the leaf that has the key, if any has; or it is refused, and not because of what was read
abbrev pub HasArrived : (R : Records) (root : Rid) (x : Index) → Indexes R root x → List ℕ → Result Home Refusal → Type 0
HasArrived R root x h key (Ok home) = IsHome R h.leaves key home.id home.bytes × (home.id.page.store ≡ root.page.store)
HasArrived R root x h key (Err fault) = fault ≢ Damaged

-- A search changes nothing, and ends at the leaf of the key.
abbrev pub Arrives : Rid → List ℕ → Result Home Refusal → List Exchange → Type 0
Arrives root key result = AtItsTurn (λ R p q. (x : Index) (h : Indexes (seen R p) root x) → (q ≡ p) × HasArrived (seen R p) root x h key result)

-- A search has changed nothing, and may go on there.
abbrev pub Comes : Rid → List ℕ → Rid → List Exchange → Type 0
Comes root key at = AtItsTurn (λ R p q. (x : Index) (h : Indexes (seen R p) root x) → (q ≡ p) × Leads (seen R p) h.leaves key at × (at.page.store ≡ root.page.store))

-- the first entry's key, if there is one
abbrev pub IsFirstKey : List Entry → Option (List ℕ) → Type 0
IsFirstKey es None = Unit {0}
IsFirstKey [] (Some key) = ⊥
IsFirstKey (e ∷ es) (Some key) = key ≡ e.0

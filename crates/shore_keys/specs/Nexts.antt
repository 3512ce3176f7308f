-- What is said of leaves that are looked through one after another.
use Rattle.std.specs.Prelude.{◌≡◌, ◌≢◌, ℕ, List, ◌∷◌, ◌++◌, Option, None, Some, Result, Ok, Err, true}
use Rattle.std.specs.FinMap.{get}
use Rattle.shore_types.specs.declared.ids.Rid.{Rid}
use Rattle.shore_model.specs.declared.calls.Exchange.{Exchange}
use Rattle.shore_model.specs.declared.progress.Progress.{Progress}
use Rattle.shore_model.specs.Records.{Records}
use Rattle.shore_keys.specs.declared.refusals.Refusal.{Refusal}
use Rattle.shore_keys.specs.declared.refusals.Refusal.TheVariants.{Damaged}
use Rattle.shore_keys.specs.Cuts.{AllUpTo}
use Rattle.shore_keys.specs.Exchanges.{AtItsTurn, seen}
use Rattle.shore_keys.specs.Nodes.{Entry, node_at}
use Rattle.shore_keys.specs.Orders.{is_before}
use Rattle.shore_keys.specs.Trees.{Index, Indexes, Leaf, Spot, node_of}

-- this is the first entry above the key
pub record IsFirstAt (es : List Entry) (key : List ℕ) (e : Entry) : Type 0 where
  pub below : List Entry
  pub others : List Entry
  pub all : es ≡ below ++ e ∷ others
  pub up : AllUpTo below key
  pub over : is_before key e.0 ≡ true

abbrev pub IsFirstAbove : List Entry → List ℕ → Result (Option (List ℕ × Spot)) Refusal → Type 0
IsFirstAbove es key (Ok None) = AllUpTo es key
IsFirstAbove es key (Ok (Some x)) = IsFirstAt es key (x.0, x.1.0, x.1.1)
IsFirstAbove es key (Err fault) = fault ≢ Damaged

-- a leaf is read, and nothing has a key between this one and those of the leaf
pub record IsReading (R : Records) (leaves : List Leaf) (x : Index) (key bytes : List ℕ) : Type 0 where
  pub before : List Leaf
  pub leaf : Leaf
  pub behind : List Leaf
  pub all : leaves ≡ before ++ leaf ∷ behind
  pub there : get R leaf.id ≡ Some bytes
  pub reads : node_at bytes ≡ Some (node_of leaf)
  pub passed : (k : List ℕ) → is_before key k ≡ true → is_before k leaf.low ≡ true → x k ≡ None

-- Nothing has changed, and a leaf is read.
abbrev pub Reads : Rid → List ℕ → List ℕ → List Exchange → Type 0
Reads root key bytes = AtItsTurn (λ R p q. (x : Index) (h : Indexes (seen R p) root x) → (q ≡ p) × IsReading (seen R p) h.leaves x key bytes)

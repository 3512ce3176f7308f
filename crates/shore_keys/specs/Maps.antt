-- A map of byte strings: an index of the keys in one store, and the records with the values in another.
use Rattle.std.specs.Prelude.{◌≡◌, ◌≢◌, ℕ, Bool, List, [], ◌∷◌, Option, None, Some, Result, Ok, Err, IfErr, true, if◌then◌else◌, nat_eq, is_some}
use Rattle.std.specs.FinMap.{get}
use Rattle.std.specs.Cmp.Lexicographic.{pointwise}
use Rattle.shore_types.specs.declared.ids.Rid.{Rid}
use Rattle.shore_model.specs.declared.calls.Exchange.{Exchange}
use Rattle.shore_model.specs.declared.progress.Progress.{Progress}
use Rattle.shore_model.specs.Records.{Records}
use Rattle.shore_keys.specs.declared.maps.KeyMap.{KeyMap}
use Rattle.shore_keys.specs.declared.refusals.Refusal.{Refusal}
use Rattle.shore_keys.specs.declared.refusals.Refusal.TheVariants.{Damaged}
use Rattle.shore_keys.specs.Exchanges.{AtItsTurn, Spares, seen}
use Rattle.shore_keys.specs.Orders.{is_before}
use Rattle.shore_keys.specs.Trees.{Index, Indexes, Spot, id_in}

-- what a key has, for each key
abbrev pub Map : Type 0
Map = List ℕ → Option (List ℕ)

abbrev pub empty_map : Map
empty_map key = None

-- what has one key is this, and all else is as it was
abbrev pub with_at : {A : Type 0} → List ℕ → Option A → (List ℕ → Option A) → List ℕ → Option A
with_at key found m = λ other. if pointwise nat_eq key other then found else m other

-- of what the index has the record is the value, and of what it has not there is none
abbrev pub IsValue : Records → ℕ → Option Spot → Option (List ℕ) → Type 0
IsValue R store None value = value ≡ None
IsValue R store (Some spot) value = (bytes : List ℕ) × (get R (id_in store spot.0 spot.1) ≡ Some bytes) × (value ≡ Some bytes)

-- The records represent a map: the leaves of the tree lead to the values, each of one key.
pub record Represents (R : Records) (k : KeyMap) (m : Map) : Type 0 where
  pub index : Index
  pub indexes : Indexes R k.root index
  pub valued : (key : List ℕ) → IsValue R k.values (index key) (m key)
  pub own : (a b : List ℕ) (spot : Spot) → index a ≡ Some spot → index b ≡ Some spot → a ≡ b
  pub stores : k.values ≢ k.root.page.store

-- ---- what calls of a map say, for all records that their transaction may find at its turn

-- the answer is this, unless it is refused; and never because a record could not be read
abbrev pub IsFound : Option (List ℕ) → Result (Option (List ℕ)) Refusal → Type 0
IsFound found (Ok value) = value ≡ found
IsFound found (Err fault) = fault ≢ Damaged

-- A find changes nothing, and answers as the map does.
abbrev pub Finds : KeyMap → List ℕ → Result (Option (List ℕ)) Refusal → List Exchange → Type 0
Finds k key result = AtItsTurn (λ R p q. (m : Map) → Represents (seen R p) k m → (q ≡ p) × IsFound (m key) result)

-- the first key above this one, with its value; or none is above it
abbrev pub IsNextKey : Map → List ℕ → Result (Option (List ℕ × List ℕ)) Refusal → Type 0
IsNextKey m key (Ok None) = (k : List ℕ) → is_before key k ≡ true → m k ≡ None
IsNextKey m key (Ok (Some x)) = (is_before key x.0 ≡ true) × (m x.0 ≡ Some x.1) × ((k : List ℕ) → is_before key k ≡ true → is_before k x.0 ≡ true → m k ≡ None)
IsNextKey m key (Err fault) = fault ≢ Damaged

-- A next changes nothing, and answers the first key above this one.
abbrev pub Nexts : KeyMap → List ℕ → Result (Option (List ℕ × List ℕ)) Refusal → List Exchange → Type 0
Nexts k key result = AtItsTurn (λ R p q. (m : Map) → Represents (seen R p) k m → (q ≡ p) × IsNextKey m key result)

-- the records represent the map with this at the key; or, if it is refused, the map as it was
abbrev pub IsPut : {A : Type 0} → Records → KeyMap → Map → List ℕ → Option (List ℕ) → Result A Refusal → Type 0
IsPut R k m key value (Ok done) = Represents R k (with_at key value m)
IsPut R k m key value (Err fault) = (fault ≢ Damaged) × Represents R k m

abbrev pub Puts : {A : Type 0} → KeyMap → List ℕ → List ℕ → Result A Refusal → List Exchange → Type 0
Puts k key value result = AtItsTurn (λ R p q. (m : Map) → Represents (seen R p) k m → Spares k.root.page.store k.values R p q × IsPut (seen R q) k m key (Some value) result)

-- what was taken out is what the map has
abbrev pub IsTaken : Records → KeyMap → Map → List ℕ → Result Bool Refusal → Type 0
IsTaken R k m key (Ok was) = (was ≡ is_some (m key)) × Represents R k (with_at key None m)
IsTaken R k m key (Err fault) = (fault ≢ Damaged) × Represents R k m

abbrev pub Takes : KeyMap → List ℕ → Result Bool Refusal → List Exchange → Type 0
Takes k key result = AtItsTurn (λ R p q. (m : Map) → Represents (seen R p) k m → Spares k.root.page.store k.values R p q × IsTaken (seen R q) k m key result)

-- The records represent the same map as before, and other stores and savepoints are as they were; it is not refused because of what was read.
abbrev pub Stays : {A : Type 0} → KeyMap → Map → Records → Progress → Progress → Result A Refusal → Type 0
Stays k m R p q result = Spares k.root.page.store k.values R p q × Represents (seen R q) k m × IfErr result (λ fault. fault ≢ Damaged)

abbrev pub Mends : {A : Type 0} → KeyMap → Result A Refusal → List Exchange → Type 0
Mends k result = AtItsTurn (λ R p q. (m : Map) → Represents (seen R p) k m → Stays k m R p q result)

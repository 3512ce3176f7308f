-- What is said of a range of keys.
use Rattle.std.specs.Prelude.{◌≡◌, ◌≢◌, ◌⊎◌, ℕ, List, [], ◌∷◌, None, Some, Result, Ok, Err, length, true}
use Rattle.shore_model.specs.declared.calls.Exchange.{Exchange}
use Rattle.shore_model.specs.declared.progress.Progress.{Progress}
use Rattle.shore_model.specs.Records.{Records}
use Rattle.shore_keys.specs.declared.maps.KeyMap.{KeyMap}
use Rattle.shore_keys.specs.declared.refusals.Refusal.{Refusal}
use Rattle.shore_keys.specs.declared.refusals.Refusal.TheVariants.{Damaged}
use Rattle.shore_keys.specs.Exchanges.{AtItsTurn, seen}
use Rattle.shore_keys.specs.Maps.{Map, Represents}
use Rattle.shore_keys.specs.Orders.{is_before}

-- keys with their values
abbrev pub Items : Type 0
Items = List (List ℕ × List ℕ)

-- the map has nothing between two keys
abbrev pub NoneBetween : Map → List ℕ → List ℕ → Type 0
NoneBetween m low high = (k : List ℕ) → is_before low k ≡ true → is_before k high ≡ true → m k ≡ None

-- these are in the map, rising from above a key on, and nothing is between them
abbrev pub AreNext : Map → List ℕ → Items → Type 0
AreNext m key [] = Unit {0}
AreNext m key (x ∷ xs) = (is_before key x.0 ≡ true) × (m x.0 ≡ Some x.1) × NoneBetween m key x.0 × AreNext m x.0 xs

abbrev pub AllBefore : List ℕ → Items → Type 0
AllBefore high [] = Unit {0}
AllBefore high (x ∷ xs) = (is_before x.0 high ≡ true) × AllBefore high xs

-- the last key, or another one if there is none
abbrev pub last_key : List ℕ → Items → List ℕ
last_key key [] = key
last_key key (x ∷ xs) = last_key x.0 xs

-- all that the map has between two keys; or as many of them as were asked for, from the lowest on
abbrev pub IsRange : Map → List ℕ → List ℕ → ℕ → Result Items Refusal → Type 0
IsRange m above below most (Ok items) = AreNext m above items × AllBefore below items × ((length items ≡ most) ⊎ NoneBetween m (last_key above items) below)
IsRange m above below most (Err fault) = fault ≢ Damaged

-- A range changes nothing, and answers what the map has between two keys.
abbrev pub Ranges : KeyMap → List ℕ → List ℕ → ℕ → Result Items Refusal → List Exchange → Type 0
Ranges k above below most result = AtItsTurn (λ R p q. (m : Map) → Represents (seen R p) k m → (q ≡ p) × IsRange m above below most result)

-- Nothing has changed, and these were found.
abbrev pub Gathers : KeyMap → List ℕ → List ℕ → Items → List Exchange → Type 0
Gathers k above below items = AtItsTurn (λ R p q. (m : Map) → Represents (seen R p) k m → (q ≡ p) × AreNext m above items × AllBefore below items)

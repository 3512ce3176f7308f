-- What is said of a map that is made.
use Rattle.std.specs.Prelude.{◌≡◌, ◌≢◌, ℕ, List, None, Result, Ok, Err}
use Rattle.std.specs.FinMap.{get}
use Rattle.shore_types.specs.declared.ids.Rid.{Rid}
use Rattle.shore_model.specs.declared.calls.Exchange.{Exchange}
use Rattle.shore_model.specs.declared.progress.Progress.{Progress}
use Rattle.shore_model.specs.Records.{Records}
use Rattle.shore_keys.specs.declared.maps.KeyMap.{KeyMap}
use Rattle.shore_keys.specs.declared.refusals.Refusal.{Refusal}
use Rattle.shore_keys.specs.declared.refusals.Refusal.TheVariants.{Damaged}
use Rattle.shore_keys.specs.Exchanges.{AtItsTurn, Spares, seen}
use Rattle.shore_keys.specs.Maps.{Represents, empty_map}

-- no record is in the store
abbrev pub HasNone : Records → ℕ → Type 0
HasNone R store = (id : Rid) → id.page.store ≡ store → get R id ≡ None

abbrev pub IsMade : Records → ℕ → ℕ → Result KeyMap Refusal → Type 0
IsMade R nodes values (Ok k) = (k.root.page.store ≡ nodes) × (k.values ≡ values) × Represents R k empty_map
IsMade R nodes values (Err fault) = fault ≢ Damaged

-- In two stores, the first of which has no record, a map is made that is empty. No other store is changed.
abbrev pub Makes : ℕ → ℕ → Result KeyMap Refusal → List Exchange → Type 0
Makes nodes values result = AtItsTurn (λ R p q. HasNone (seen R p) nodes → Spares nodes values R p q × IsMade (seen R q) nodes values result)

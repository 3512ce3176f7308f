-- What is said of a leaf that is split.
use Rattle.std.specs.Prelude.{◌≡◌, ◌≢◌, List, ℕ, Result, Ok, Err}
use Rattle.shore_model.specs.declared.calls.Exchange.{Exchange}
use Rattle.shore_model.specs.declared.progress.Progress.{Progress}
use Rattle.shore_model.specs.Records.{Records}
use Rattle.shore_keys.specs.declared.maps.KeyMap.{KeyMap}
use Rattle.shore_keys.specs.declared.refusals.Refusal.{Refusal}
use Rattle.shore_keys.specs.declared.refusals.Refusal.TheVariants.{Damaged}
use Rattle.shore_keys.specs.declared.searching.Home.{Home}
use Rattle.shore_keys.specs.Exchanges.{AtItsTurn, Spares, seen}
use Rattle.shore_keys.specs.Homes.{IsNewAt}
use Rattle.shore_keys.specs.Maps.{Map, Represents}

-- the records represent the same map, and the answer is the home of the key
abbrev pub HasSplit : Records → KeyMap → Map → List ℕ → Result Home Refusal → Type 0
HasSplit R k m key (Ok home) = (rep : Represents R k m) × IsNewAt R k m rep home key
HasSplit R k m key (Err fault) = (fault ≢ Damaged) × Represents R k m

-- A split of the home of a key that the map has not.
abbrev pub Splits : KeyMap → Home → List ℕ → Result Home Refusal → List Exchange → Type 0
Splits k home key result =
    AtItsTurn (λ R p q. (m : Map) (rep : Represents (seen R p) k m) → IsNewAt (seen R p) k m rep home key → Spares k.root.page.store k.values R p q × HasSplit (seen R q) k m key result)

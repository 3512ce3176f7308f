-- What is said of a leaf at which a search has ended.
use Rattle.std.specs.Prelude.{◌≡◌, List, ℕ, None, Option, Result, Some}
use Rattle.shore_model.specs.declared.calls.Exchange.{Exchange}
use Rattle.shore_model.specs.declared.progress.Progress.{Progress}
use Rattle.shore_model.specs.Records.{Records}
use Rattle.shore_keys.specs.declared.maps.KeyMap.{KeyMap}
use Rattle.shore_keys.specs.declared.refusals.Refusal.{Refusal}
use Rattle.shore_keys.specs.declared.searching.Home.{Home}
use Rattle.shore_keys.specs.Exchanges.{AtItsTurn, Spares, seen}
use Rattle.shore_keys.specs.Maps.{IsPut, Map, Represents}
use Rattle.shore_keys.specs.Trees.{IsHome}

-- the leaf is the home of the key, and the map has not the key
pub record IsNewAt (R : Records) (k : KeyMap) (m : Map) (rep : Represents R k m) (home : Home) (key : List ℕ) : Type 0 where
  pub at : IsHome R rep.indexes.leaves key home.id home.bytes
  pub store : home.id.page.store ≡ k.root.page.store
  pub none : rep.index key ≡ None

-- A put of a key that the map has not, at its home.
abbrev pub PutsAtHome : {A : Type 0} → KeyMap → Home → List ℕ → List ℕ → Result A Refusal → List Exchange → Type 0
PutsAtHome k home key value result =
    AtItsTurn (λ R p q. (m : Map) (rep : Represents (seen R p) k m) → IsNewAt (seen R p) k m rep home key → Spares k.root.page.store k.values R p q × IsPut (seen R q) k m key (Some value) result)

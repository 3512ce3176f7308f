-- From a sound history to maps: each transaction's calls of maps, answered as the map at its turn.
use Rattle.std.specs.Prelude.{◌≡◌, ℕ, Bool, List, [], ◌∷◌, Option, Some, None, is_some}
use Rattle.shore_keys.specs.declared.maps.KeyMap.{KeyMap}
use Rattle.shore_model.specs.declared.calls.Exchange.{Exchange}
use Rattle.shore_model.specs.declared.histories.Decision.{Decision}
use Rattle.shore_model.specs.declared.histories.Decision.TheVariants.{Commit, Prepare, RollBack}
use Rattle.shore_model.specs.declared.histories.Entry.{Entry}
use Rattle.shore_model.specs.Alone.{MayReplyAll, start, writes_of}
use Rattle.shore_model.specs.Histories.{History}
use Rattle.shore_model.specs.Records.{Records, overlay}
use Rattle.shore_keys.specs.Exchanges.{AtItsTurn, seen}
use Rattle.shore_keys.specs.Maps.{Map, Represents, with_at}

-- what was done with a map, and what it said
pub data Act : Type 0 where
  Found : List ℕ → Option (List ℕ) → Act
  PutIn : List ℕ → List ℕ → Act
  TakenOut : List ℕ → Bool → Act

abbrev pub after_act : Act → Map → Map
after_act (Found key value) m = m
after_act (PutIn key value) m = with_at key (Some value) m
after_act (TakenOut key was) m = with_at key None m

-- it said what the map has
abbrev pub IsRightAct : Act → Map → Type 0
IsRightAct (Found key value) m = value ≡ m key
IsRightAct (PutIn key value) m = Unit {0}
IsRightAct (TakenOut key was) m = was ≡ is_some (m key)

abbrev pub after_acts : List Act → Map → Map
after_acts [] m = m
after_acts (a ∷ later) m = after_acts later (after_act a m)

abbrev pub AreRight : List Act → Map → Type 0
AreRight [] m = Unit {0}
AreRight (a ∷ later) m = IsRightAct a m × AreRight later (after_act a m)

-- Whatever records a transaction finds that represent a map: if it is answered so, then its acts were right on the map, and its records represent the map behind them.
abbrev pub Acts : KeyMap → List Exchange → List Act → Type 0
Acts k es acts = (most : ℕ) (R : Records) (m : Map) → Represents R k m → MayReplyAll most R start es → AreRight acts m × Represents (overlay R (writes_of es)) k (after_acts acts m)

-- Whatever it finds, the map is as it was.
abbrev pub Leaves : KeyMap → List Exchange → Type 0
Leaves k = AtItsTurn (λ R p q. (m : Map) → Represents (seen R p) k m → Represents (seen R q) k m)

-- the map behind the committed, in the order of their commits
abbrev pub after_commits : (ℕ → List Act) → List Decision → Map → Map
after_commits acts [] m = m
after_commits acts (Commit t ∷ ds) m = after_commits acts ds (after_acts (acts t) m)
after_commits acts (Prepare t global ∷ ds) m = after_commits acts ds m
after_commits acts (RollBack t ∷ ds) m = after_commits acts ds m

-- none of the decisions is a prepare
abbrev pub NonePrepares : List Decision → Type 0
NonePrepares [] = Unit {0}
NonePrepares (Commit t ∷ ds) = NonePrepares ds
NonePrepares (Prepare t global ∷ ds) = ⊥
NonePrepares (RollBack t ∷ ds) = NonePrepares ds

-- a history of an opening that has nobody in doubt
abbrev pub history_over : ℕ → Records → List Entry → History
history_over slots R es = record { opening = record { slots = slots; records = R; in_doubt = [] }; entries = es }

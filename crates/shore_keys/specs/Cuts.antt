-- Where the text of some entries is cut.
use Rattle.std.specs.Prelude.{◌≡◌, ◌≢◌, ◌⊎◌, Bool, true, false, ◌+◌, ◌-◌, ◌<◌, ◌≤◌, nat_eq, ℕ, List, [], ◌∷◌, ◌++◌, Option, None, Some, Result, Ok, Err, drop, length, take, if◌then◌else◌, option_map}
use Rattle.std.specs.Cmp.Lexicographic.{pointwise}
use Rattle.byteorder.specs.Endian.{little_bytes}
use Rattle.shore_keys.specs.declared.refusals.Refusal.{Refusal}
use Rattle.shore_keys.specs.declared.refusals.Refusal.TheVariants.{Damaged}
use Rattle.shore_keys.specs.Nodes.{Entry, Front, Node, entries_at, entry_text, front_at, node_at}
use Rattle.shore_keys.specs.Orders.{IsUpTo, is_before}
use Rattle.shore_keys.specs.Trees.{Spot, look_in}

-- these bytes are those of the entries, whatever stands behind them
abbrev pub Spells : List ℕ → List Entry → Type 0
Spells front es = (n : ℕ) (other : List ℕ) → entries_at (length es + n) (front ++ other) ≡ option_map (λ later. es ++ later) (entries_at n other)

-- behind the bytes of all of them is this
abbrev pub IsBehind : List Entry → List ℕ → Option (List ℕ) → Type 0
IsBehind es body None = ⊥
IsBehind es body (Some rest) = (front : List ℕ) × (body ≡ front ++ rest) × Spells front es

-- a key more, in its place
abbrev pub place : List ℕ → Spot → List Entry → List Entry
place key spot [] = (key, spot.0, spot.1) ∷ []
place key spot (e ∷ es) = if is_before key e.0 then (key, spot.0, spot.1) ∷ e ∷ es else e ∷ place key spot es

-- no entry is above the key
abbrev pub AllUpTo : List Entry → List ℕ → Type 0
AllUpTo [] key = Unit {0}
AllUpTo (e ∷ es) key = IsUpTo e.0 key × AllUpTo es key

-- the first entry is above the key, if there is one
abbrev pub BeginsAbove : List ℕ → List Entry → Type 0
BeginsAbove key [] = Unit {0}
BeginsAbove key (e ∷ es) = is_before key e.0 ≡ true

-- the entries are cut in two where a key has its place, and their bytes are: those before it, and the number of these
pub record IsCutAt (count : ℕ) (body key : List ℕ) (es : List Entry) (at : ℕ) (rest : List ℕ) : Type 0 where
  pub below : List Entry
  pub above : List Entry
  pub all : es ≡ below ++ above
  pub few : at ≤ count
  pub count_is : length below ≡ at
  pub front : List ℕ
  pub bytes : body ≡ front ++ rest
  pub spelled : Spells front below
  pub others : entries_at (count - at) rest ≡ Some above
  pub up : AllUpTo below key
  pub over : BeginsAbove key above
  pub placed : (spot : Spot) → place key spot es ≡ below ++ (key, spot.0, spot.1) ∷ above

abbrev pub IsCut : ℕ → List ℕ → List ℕ → List Entry → Option (ℕ × List ℕ) → Type 0
IsCut count body key es None = ⊥
IsCut count body key es (Some x) = IsCutAt count body key es x.0 x.1

-- the node with a key more, as it is read
abbrev pub with_entry : List ℕ → Spot → Node → Node
with_entry key spot node = record node { entries = place key spot node.entries }

-- what stands behind the entries of a node
pub record TailOf (bytes : List ℕ) (node : Node) : Type 0 where
  pub front : Front
  pub is : front_at bytes ≡ Some front
  pub tail : List ℕ
  pub behind : IsBehind node.entries front.body (Some tail)

-- whether it has room for a key: there are as many bytes behind its entries as one more has
abbrev pub IsRoom : List ℕ → Node → List ℕ → Bool → Type 0
IsRoom bytes node key true = (t : TailOf bytes node) × (length key + 7 ≤ length t.tail)
IsRoom bytes node key false = (t : TailOf bytes node) × (length t.tail < length key + 7)

-- It reads as the node with the key more, and is as long as it was; or there is no room, or a node has no more entries; or it is refused, and not because of what was read.
abbrev pub IsWithEntry : List ℕ → Node → List ℕ → Spot → Result (Option (List ℕ)) Refusal → Type 0
IsWithEntry bytes node key spot (Ok (Some text)) = (node_at text ≡ Some (with_entry key spot node)) × (length text ≡ length bytes)
IsWithEntry bytes node key spot (Ok None) = (t : TailOf bytes node) × ((length t.tail < length key + 7) ⊎ (length node.entries ≡ 65535))
IsWithEntry bytes node key spot (Err fault) = fault ≢ Damaged

-- the parts of a node's text with an entry more: its front with another number of entries, the bytes of the first entries, the new one, the others, and what fills it up
abbrev pub parts : List ℕ → ℕ → List ℕ → List ℕ → Spot → List ℕ → List ℕ → List ℕ
parts front count first key spot others rest = take 2 front ++ (little_bytes 2 count ++ (drop 4 front ++ (first ++ (entry_text (key, spot.0, spot.1) ++ (others ++ rest)))))

-- the entries without that of a key
abbrev pub drop_key : List ℕ → List Entry → List Entry
drop_key key [] = []
drop_key key (e ∷ es) = if pointwise nat_eq e.0 key then es else e ∷ drop_key key es

-- the node without it
abbrev pub without : List ℕ → Node → Node
without key node = record node { entries = drop_key key node.entries }

-- the entry of a key, those before it, and the bytes behind it
pub record IsFoundAt (count : ℕ) (body key : List ℕ) (es : List Entry) (at : ℕ) (rest behind : List ℕ) : Type 0 where
  pub below : List Entry
  pub later : List Entry
  pub few : at < count
  pub count_is : length below ≡ at
  pub front : List ℕ
  pub bytes : body ≡ front ++ rest
  pub spelled : Spells front below
  pub raw : List ℕ
  pub cut : rest ≡ raw ++ behind
  pub others : entries_at (count - (at + 1)) behind ≡ Some later
  pub dropped : drop_key key es ≡ below ++ later

abbrev pub IsFoundIn : ℕ → List ℕ → List ℕ → List Entry → Option (ℕ × List ℕ × List ℕ) → Type 0
IsFoundIn count body key es None = look_in es key ≡ None
IsFoundIn count body key es (Some x) = IsFoundAt count body key es x.0 x.1 x.2

-- It reads as the node without the key, and is as long as it was; or it is refused, and because of what was read only if the key is not there.
abbrev pub IsWithout : List ℕ → Node → List ℕ → Result (List ℕ) Refusal → Type 0
IsWithout bytes node key (Ok text) = (node_at text ≡ Some (without key node)) × (length text ≡ length bytes)
IsWithout bytes node key (Err fault) = fault ≡ Damaged → look_in node.entries key ≡ None

-- The text of a node: its level, its right neighbour if it has one, and its entries. This project's own; the shape is that of Lehman and Yao (1981).
use Rattle.std.specs.Prelude.{◌≡◌, ◌<◌, ◌≤◌, ◌^◌, ◌+◌, ℕ, zero, suc, List, [], ◌∷◌, ◌++◌, Option, None, Some, length, take, drop, get_or, if◌then◌else◌, nat_le, nat_lt, nat_eq, option_map}
use Rattle.byteorder.specs.Endian.{little_bytes, little_number}

-- a key, and the page and the slot of what it leads to: in a leaf a value's record, in an inner node a child, and of a right neighbour that node
abbrev pub Entry : Type 0
Entry = List ℕ × ℕ × ℕ

infixl 10 ◌>>=◌
abbrev pub ◌>>=◌ : {A B : Type 0} → Option A → (A → Option B) → Option B
(Some x) >>= f = f x
None >>= f = None

-- ---- what is read

-- a number of n bytes, the lowest first, and the bytes behind it
unfoldable pub number_at : ℕ → List ℕ → Option (ℕ × List ℕ)
number_at n bytes = if nat_lt (length bytes) n then None else Some (little_number n bytes, drop n bytes)

-- a byte with a number, and as many bytes
unfoldable pub key_at : List ℕ → Option (List ℕ × List ℕ)
key_at [] = None
key_at (n ∷ bytes) = if nat_le n (length bytes) then Some (take n bytes, drop n bytes) else None

-- a key, four bytes of a page and two of a slot
unfoldable pub entry_at : List ℕ → Option (Entry × List ℕ)
entry_at bytes = key_at bytes >>= λ k. number_at 4 k.1 >>= λ p. number_at 2 p.1 >>= λ s. Some ((k.0, p.0, s.0), s.1)

-- so many entries; the bytes behind them count for nothing
abbrev pub entries_at : ℕ → List ℕ → Option (List Entry)
entries_at zero bytes = Some []
entries_at (suc n) bytes = entry_at bytes >>= λ x. option_map (λ es. x.0 ∷ es) (entries_at n x.1)

-- the front of a node: its level, 0 of a leaf; its right neighbour with the first key that is not here any more; how many entries it has; and the bytes of these
pub record Front : Type 0 where
  pub level : ℕ
  pub right : Option Entry
  pub count : ℕ
  pub body : List ℕ

-- an entry that is read, as a right neighbour
abbrev pub as_right : Entry × List ℕ → Option Entry × List ℕ
as_right x = (Some x.0, x.1)

-- the right neighbour, if a byte says that there is one
unfoldable pub right_at : ℕ → List ℕ → Option (Option Entry × List ℕ)
right_at has bytes = if nat_eq has 0 then Some (None, bytes) else option_map as_right (entry_at bytes)

unfoldable pub front_at : List ℕ → Option Front
front_at [] = None
front_at (level ∷ []) = None
front_at (level ∷ has ∷ bytes) = number_at 2 bytes >>= λ n. option_map (λ x. record { level = level; right = x.0; count = n.0; body = x.1 }) (right_at has n.1)

pub record Node : Type 0 where
  pub level : ℕ
  pub right : Option Entry
  pub entries : List Entry

unfoldable pub node_at : List ℕ → Option Node
node_at bytes = front_at bytes >>= λ f. option_map (λ es. record { level = f.level; right = f.right; entries = es }) (entries_at f.count f.body)

-- ---- what is written

unfoldable pub entry_text : Entry → List ℕ
entry_text e = length e.0 ∷ (e.0 ++ (little_bytes 4 e.1 ++ little_bytes 2 e.2))

-- it has a text that is read again
pub record Fits (e : Entry) : Type 0 where
  pub key : length e.0 < 256
  pub page : e.1 < 2 ^ 32
  pub slot : e.2 < 2 ^ 16

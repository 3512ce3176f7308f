-- What the table of transactions has.
use Rattle.std.specs.Prelude.{◌≡◌, ◌<◌, ℕ, List, Some, map, reverse, slice_get, vec_capacity, vec_len}
use Rattle.shore_types.specs.declared.ids.PageId.{PageId}
use Rattle.laws_lives.specs.Sessions.{PreparedTxn, SessionTxn}
use Rattle.laws_lives.specs.Views.{IsAmong}
use Rattle.shore_txn.specs.declared.active.ActiveTxn.{ActiveTxn}
use Rattle.shore_txn.specs.declared.log_room.LogRoom.{LogRoom}
use Rattle.shore_txn.specs.declared.seat.Seat.{Seat}
use Rattle.shore_txn.specs.declared.transactions.Transactions.{Transactions}
use Rattle.shore_txn.specs.declared.txn.Txn.{Txn}
use Rattle.shore_txn.specs.ActiveTxns.{CanNote, IsPlace, all_changes, changes_to, own_place, session_txns, txn_index, txns_of}
use Rattle.shore_txn.specs.Chains.{bucket_of}
use Rattle.shore_txn.specs.Txns.{HasMarkRoom, IsOf, number_of, prepared_of}
use Rattle.shore_txn.specs.UndoEntries.{claims_on}

-- the transactions under way, the newest first
abbrev pub txns_in : Transactions → List Txn
txns_in table = txns_of table.active.items

-- .. as the sessions have them
abbrev pub undos_in : Transactions → List SessionTxn
undos_in table = session_txns (txns_in table)

-- the number of the next transaction
abbrev pub next_in : Transactions → ℕ
next_in table = table.next

abbrev pub room_in : Transactions → LogRoom
room_in table = table.room

-- those in doubt, the newest first
abbrev pub prepared_in : Transactions → List PreparedTxn
prepared_in table = prepared_of (txns_in table)

-- the session is in no transaction
abbrev pub HasNoTxnOf : ℕ → Transactions → Type 0
HasNoTxnOf session table = (t : Txn) → IsAmong t (txns_in table) → IsOf session t → ⊥

-- the numbers of the transactions by their places: that of the oldest first
abbrev pub numbers_in : Transactions → List ℕ
numbers_in table = reverse (map number_of (txns_in table))

-- at the seat's index is its transaction
abbrev pub IsSeatIn : Seat → Transactions → Type 0
IsSeatIn seat table = slice_get (numbers_in table) seat.index ≡ Some seat.txn

-- what holds of the transaction at a seat
abbrev pub AtSeat : Seat → Transactions → (Txn → Type 0) → Type 0
AtSeat seat table P = (t : Txn) → IsAmong t (txns_in table) → number_of t ≡ seat.txn → P t

-- a transaction more needs no memory
abbrev pub HasTxnRoom : Transactions → Type 0
HasTxnRoom table = vec_len table.active < vec_capacity table.active

-- a change more of the transaction of a number needs none
abbrev pub HasRoomToNote : ℕ → Transactions → Type 0
HasRoomToNote number table = (a : ActiveTxn) → IsAmong a table.active.items → number_of a.txn ≡ number → CanNote a

-- nor does a savepoint more
abbrev pub HasRoomToMark : ℕ → Transactions → Type 0
HasRoomToMark number table = (a : ActiveTxn) → IsAmong a table.active.items → number_of a.txn ≡ number → HasMarkRoom a.txn

-- nothing of it is changed
pub record IsUnchanged (old new : Transactions) : Type 0 where
  pub txns : txns_in new ≡ txns_in old
  pub next : next_in new ≡ next_in old
  pub room : room_in new ≡ room_in old

-- what their changes may put back on a page: those of the oldest transaction first
abbrev pub kept_in : Transactions → PageId → List (ℕ × ℕ)
kept_in table p = claims_on p (all_changes (txns_in table))

-- .. up to a place
abbrev pub kept_from : Transactions → PageId → ℕ → List (ℕ × ℕ)
kept_from table p place = claims_on p (changes_to table.active.items (txn_index place) (own_place place))

-- a place is one of the chains that have the page's changes, or is none
abbrev pub IsOnChain : Transactions → PageId → ℕ → Type 0
IsOnChain table p place = IsPlace table.active.items (bucket_of p) place
